-- The pass over the records, turn by turn: the loop's invariant.
use Rattle.std.proofs.Common.{◌≡◌, ℕ, suc, ◌+◌, ◌*◌, ◌<◌, ◌≤◌, false, ◌&&◌, eqb, List, [], ◌∷◌, Option, Some, None, length, get_or, drop, replicate, sym, refl, ap, ◌∙◌, subst, ⊎_elim, add-one, arith, drop-cons}
use lib.ListN.{get_or-eq_default}
use lib.Seq.{drop-length}
use Rattle.words.proofs.Word.{lt_or_ge, and_both}
use Rattle.ring.specs.Ring.{wrap, wadd, wsub}
use Rattle.ring.proofs.Counters.{posted_of}
use Rattle.held.specs.declared.Held.{Held}
use Rattle.held.specs.Records.{free, slots_held}
use Rattle.held.specs.Valid.{between, valid}
use Rattle.fitting.specs.Fits.{fits_at}
use Rattle.fitting.proofs.Fits.{fits_split}
use Rattle.noting.specs.declared.Tally.{Tally}
use Rattle.noting.specs.Survey.{Found, made, unread, noted, noted_free, noted_held, noted_from, surveyed}
use Rattle.inspecting.specs.Inspection.{Tickets}
use Rattle.inspecting.proofs.Passing.{chosen, Passed, StateOf, State, step, passed_none}

abbrev slots_in : Option Tally → ℕ
slots_in None = 0
slots_in (Some s) = s.slots

-- one record adds at most 22 slots
noted_few : (i : ℕ) (h : Held) (replied n : ℕ) (s : Tally) (index : List ℕ) → slots_in (noted i h replied n s index).tally ≤ s.slots + 22
unfolding noted noted_free noted_held
noted_few i h replied n s index =
    let P : Found → Type 0 = λ (g : Found). slots_in g.tally ≤ s.slots + 22 in
    let o = wsub h.ticket replied in
    chosen P (eqb h.slots 0) _ _
    (λ _. omega arith)
    (λ _. chosen P (fits_at h o n && eqb (get_or index o 0) 0) _ _
    (λ p. omega (arith, (fits_split h o n (and_both (fits_at h o n) _ p).0).small))
    (λ _. omega arith))

-- what holds when the first i records are noted: what the pass makes of all is what it makes of those that are left
pub record Turn (l : List Held) (replied n : ℕ) (before index : List ℕ) (s : Tally) (i : ℕ) : Type 0 where
  pub sum : s.slots ≤ 22 * i
  pub left : surveyed l replied n before ≡ noted_from i (drop i l) replied n (made (Some s) index)
  pub tickets : (j : ℕ) → j < i → (get_or l j free).ticket < wrap
  pub passed : Passed l replied n i (slots_held (drop i l)) s.slots index

module _ (l : List Held) (replied n : ℕ) (before : List ℕ) where
  pub turn_start : before ≡ replicate 256 0 → (s : Tally) → s ≡ unread → Turn l replied n before before s 0
  unfolding surveyed
  turn_start cleared s e = rw e (record { sum = omega arith; left = refl; tickets = λ j k. absurd (omega arith); passed = rw cleared (passed_none l replied n) })

  -- no more is noted behind a record that is refused
  none_more : (i : ℕ) (rest : List Held) (index : List ℕ) → noted_from i rest replied n (made None index) ≡ made None index
  none_more i [] index = refl
  none_more i (h ∷ rest) index = none_more (suc i) rest index

  module _ (index : List ℕ) (s : Tally) (i : ℕ) (t : Turn l replied n before index s i) where
    module _ (k : i < length l) (h : Held) (e : h ≡ get_or l i free) (index' : List ℕ) (s' : Option Tally) (p : made s' index' ≡ noted i h replied n s index) where
      turn : surveyed l replied n before ≡ noted_from (suc i) (drop (suc i) l) replied n (made s' index')
      turn =
          let next : noted_from i (drop i l) replied n (made (Some s) index) ≡ noted_from (suc i) (drop (suc i) l) replied n (noted i (get_or l i free) replied n s index)
          = ap (λ (r : List Held). noted_from i r replied n (made (Some s) index)) (drop-cons l i free k) in
          let this : noted i (get_or l i free) replied n s index ≡ made s' index' = ap (λ (x : Held). noted i x replied n s index) (sym e) ∙ sym p in
          t.left ∙ next ∙ ap (λ (f : Found). noted_from (suc i) (drop (suc i) l) replied n f) this

      -- what is found with this record
      state : replied < wrap → n ≤ 256 → h.ticket < wrap → (c : ℕ) → between c replied ≡ n → StateOf l c replied n (suc i) (slots_held (drop (suc i) l)) s' index'
      state small few word c apart =
          let rest : slots_held (drop i l) ≡ (get_or l i free).slots + slots_held (drop (suc i) l) = ap slots_held (drop-cons l i free k) in
          let this : noted i (get_or l i free) replied n s index ≡ made s' index' = ap (λ (x : Held). noted i x replied n s index) (sym e) ∙ sym p in
          subst (λ (f : Found). State l c replied n (suc i) (slots_held (drop (suc i) l)) f) this
          (step l c replied n few apart small i (slots_held (drop (suc i) l)) (slots_held (drop i l)) (Some s) index (rw e at word) rest t.passed)

      pub turn_next : replied < wrap → n ≤ 256 → h.ticket < wrap → (z : Tally) → s' ≡ Some z → Turn l replied n before index' z (i + 1)
      unfolding between
      turn_next small few word z q = record {
        sum = omega (arith, t.sum, noted_few i h replied n s index, ap (λ (f : Found). slots_in f.tally) p, ap slots_in q);
        left = rw (add-one i, ← q) turn;
        tickets = λ j y. ⊎_elim (λ z. t.tickets j z) (λ z. (let x : j ≡ i = omega arith in rw (x, ← e) word)) (lt_or_ge j i);
        passed = rw (add-one i) (rw q at (state small few word (wadd replied n) (posted_of replied n (omega arith))));
      }

      pub turn_refused : s' ≡ None → made None index' ≡ surveyed l replied n before
      turn_refused q = sym (none_more (suc i) (drop (suc i) l) index') ∙ (rw q at (sym turn))

      pub turn_invalid : replied < wrap → n ≤ 256 → h.ticket < wrap → s' ≡ None → (c : ℕ) → wsub c replied ≡ n → valid c replied l ≡ false
      unfolding between
      turn_invalid small few word q c apart = rw q at (state small few word c apart)

    module _ (e : i ≡ length l) where
      pub turn_end : made (Some s) index ≡ surveyed l replied n before
      turn_end = sym (t.left ∙ ap (λ (r : List Held). noted_from i r replied n (made (Some s) index)) (ap (λ (j : ℕ). drop j l) e ∙ drop-length l))

      pub turn_tickets : Tickets l
      unfolding Tickets
      turn_tickets j = ⊎_elim
          (λ z. t.tickets j (omega arith))
          (λ z. (let e : get_or l j free ≡ free = get_or-eq_default l free {n = j} z in rw e (omega arith)))
          (lt_or_ge j (length l))
