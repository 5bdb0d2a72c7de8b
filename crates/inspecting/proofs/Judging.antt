-- An inspection is good exactly if the list is valid, and then shows its first free record, the slots between the counters and the index.
-- After the pass, in which all records fit and stand in the index (`Passing`), the sum of slots and the walk along the index tell whether the
-- records cover the slots (`test_covers`).
use Rattle.std.proofs.Common.{◌≡◌, ℕ, zero, suc, ◌+◌, ◌*◌, ◌/◌, ◌<◌, ◌≤◌, Bool, true, false, cond, ◌&&◌, eqb, ltb, ◌≢◌, ◌⊎◌, List, [], ◌∷◌, Option, Some, None, length, get_or, set, replicate, sym, refl, ap, ◌∙◌, subst, inl, inr, ⊎_elim, arith, length-set, get_or-set_other, get_or-set_same, le-ltb, lt-ltb, eq-eqb, ne_eqb, eqb-true, le-leb}
use Rattle.std.specs.Option.{unwrap_or}
use lib.ListN.{get_or-replicate, get_or-eq_default}
use borrow.Author.Tests.{not-false}
use Rattle.words.proofs.Word.{same_or_not, lt_or_ge, and_both, true_and, either, clash}
use Rattle.ring.specs.Ring.{wrap, wsub}
use Rattle.ring.proofs.Counters.{wadd_zero, not_moved}
use Rattle.held.specs.declared.Held.{Held}
use Rattle.held.specs.Records.{is_status, in_use, free, is_finished, full, slots_held, place_at, record_at, first_free, vacancy}
use Rattle.held.specs.Valid.{between, covers, is_count, oldest_waits, valid}
use Rattle.held.proofs.Cover.{in_use_some, unused_none, free_waits, each_join, Covers, Valid, valid_split, found_or_free}
use Rattle.held.proofs.Walk.{unused_of, Short, Walked, walked_start, walked_step, walk_done, walk_sum, walk_missing}
use Rattle.fitting.specs.Fits.{fits_at}
use Rattle.fitting.proofs.Fits.{Fitting, fits_split, fits_oldest, fits_later}
use Rattle.noting.specs.declared.Tally.{Tally}
use Rattle.inspecting.specs.Inspection.{Stands, Tickets, Seen, Shown}
use Rattle.noting.specs.Survey.{within_limits, Found, made, unread, noted, noted_free, noted_held, noted_on, noted_from, surveyed, chained, chain_of, confirmed}
use Rattle.inspecting.proofs.Indexing.{inside_of, held_once, held_place}
use Rattle.inspecting.proofs.Passing.{chosen, used_of, none_waits, Fits, Passed, StateOf, State, step, passed_none}

-- ---- the pass

module _ (l : List Held) (c r n : ℕ) (few : n ≤ 256) (apart : between c r ≡ n) (small : r < wrap) (tickets : Tickets l) where
  pass : (i : ℕ) (rest : List Held) (f : Found) → ((j : ℕ) → get_or l (i + j) free ≡ get_or rest j free) → i + length rest ≡ length l → State l c r n i (slots_held rest) f → State l c r n (length l) 0 (noted_from i rest r n f)
  unfolding Tickets
  pass i [] f a b s = let e : i ≡ length l = omega arith in subst (λ (k : ℕ). State l c r n k 0 f) e s
  pass i (h ∷ rest) f a b s =
      let z : i + 0 ≡ i = omega arith in
      let e : get_or l i free ≡ h = sym (ap (λ (k : ℕ). get_or l k free) z) ∙ a 0 in
      pass (suc i) rest (noted_on i h r n f.tally f.index) (λ j. (let y : suc i + j ≡ i + suc j = omega arith in ap (λ (k : ℕ). get_or l k free) y ∙ a (suc j))) (omega arith)
      (subst (λ (x : Held). State l c r n (suc i) (slots_held rest) (noted_on i x r n f.tally f.index)) e
      (step l c r n few apart small i (slots_held rest) (h.slots + slots_held rest) f.tally f.index (tickets i) (let y : (get_or l i free).slots ≡ h.slots = ap (λ (x : Held). x.slots) e in omega arith) s))

  surveyed_state : State l c r n (length l) 0 (surveyed l r n (replicate 256 0))
  unfolding surveyed
  surveyed_state = pass 0 l _ (λ j. (let y : 0 + j ≡ j = omega arith in ap (λ (k : ℕ). get_or l k free) y)) (omega arith) (passed_none l r n)

-- ---- the sum of slots, and the walk along the index

and_no : (b : Bool) → b && false ≡ false
and_no true = refl
and_no false = refl

and_yes : (b : Bool) → b && true ≡ b
and_yes true = refl
and_yes false = refl

module _ (l : List Held) (r n : ℕ) (index : List ℕ) (few : n ≤ 256) (long : length l ≤ 256) (short : Short l) (stands : (o : ℕ) → o < n → Stands l r (length l) o (get_or index o 0)) where
  -- the walk is at the last slot or behind it
  test_end : (at : ℕ) → Walked l r at → n ≤ at → eqb (slots_held l) n && true ≡ covers n r l
  test_end at w h = ⊎_elim
      (λ e. ap (λ (z : Bool). z && true) (eq-eqb (slots_held l) n e) ∙ sym (walk_done w n few h e))
      (λ e. ap (λ (z : Bool). z && true) (ne_eqb (slots_held l) n e) ∙ sym (walk_sum w n e))
      (same_or_not (slots_held l) n)

  divided : (s p : ℕ) → p < 256 → (s * 256 + p) / 256 ≡ s
  divided s p h = omega arith

  test_is : (k at : ℕ) → Walked l r at → n ≤ at + k → eqb (slots_held l) n && chained k index n at ≡ covers n r l
  test_is zero at w h = test_end at w (omega arith)
  test_is (suc k) at w h = ⊎_elim
      (λ g. rw (lt-ltb at n g) (go g (λ at' w' h'. test_is k at' w' h') (stands at g)))
      (λ g. rw (le-ltb at n g) (test_end at w g))
      (lt_or_ge at n)
    where
      go : at < n → ((at' : ℕ) → Walked l r at' → n ≤ at' + k → eqb (slots_held l) n && chained k index n at' ≡ covers n r l) → Stands l r (length l) at (get_or index at 0)
          → eqb (slots_held l) n && cond (ltb (get_or index at 0) 256) false (chained k index n (at + get_or index at 0 / 256)) ≡ covers n r l
      go g again (Stands.entered p i q u e) =
          let some = in_use_some (get_or l p free) u in
          let d : get_or index at 0 / 256 ≡ (get_or l p free).slots = ap (λ (m : ℕ). m / 256) q ∙ divided (get_or l p free).slots p (omega arith) in
          rw (le-ltb (get_or index at 0) 256 (omega arith), d)
          (again (at + (get_or l p free).slots) (walked_step w p i u e (short p u) (omega arith)) (omega arith))
      go g again (Stands.empty q f) = rw (lt-ltb (get_or index at 0) 256 (omega arith)) (and_no (eqb (slots_held l) n) ∙ sym (walk_missing w n g f))

  -- both succeed exactly if the records cover the slots
  test_covers : eqb (slots_held l) n && chain_of index n ≡ covers n r l
  unfolding chain_of
  test_covers = test_is 256 0 (walked_start l r) (omega arith)

-- ---- a list whose records all fit is valid exactly if they cover the slots

module _ (l : List Held) (c r n : ℕ) (long : length l ≤ 256) (apart : between c r ≡ n) (fit : (j : ℕ) → in_use (get_or l j free) ≡ true → Fits l r n j ≡ true) where
  fitting : (j : ℕ) → in_use (get_or l j free) ≡ true → Fitting (get_or l j free) (wsub (get_or l j free).ticket r) n
  fitting j u = fits_split (get_or l j free) (wsub (get_or l j free).ticket r) n (fit j u)

  fit_waits : is_finished (record_at l r) ≡ false
  unfolding record_at
  fit_waits = ⊎_elim
      (λ f. none_waits (record_at l r) ((fitting (place_at l r) f.holds).oldest (ap (λ (t : ℕ). wsub t r) f.ticket ∙ not_moved r)))
      (λ e. ap is_finished e ∙ free_waits)
      (found_or_free l r)

  fit_valid : covers n r l ≡ valid c r l
  unfolding valid oldest_waits
  fit_valid =
      rw (le-leb (length l) 256 long, apart, each_join (λ x. is_count x.slots x.extras) l (λ i u. (fitting i u).counts), each_join (λ x. is_status x.status) l (λ i u. (fitting i u).status), fit_waits)
      (sym (and_yes (covers n r l)))

-- ---- the first free record

-- what is found of free records, of a list that is not refused
abbrev Frees : Option ℕ → Option Tally → Type 0
Frees o None = Unit {0}
Frees o (Some s) = s.free ≡ o

-- the first free one's place in the records from place i on
vacant : ℕ → List Held → Option ℕ
vacant i rest = cond (full rest) None (Some (i + first_free rest))

module _ (r n : ℕ) where
  noted_used : (i : ℕ) (h : Held) (o : Option ℕ) (t : Option Tally) (index : List ℕ) → in_use h ≡ true → Frees o t → Frees o (noted_on i h r n t index).tally
  unfolding noted noted_free noted_held
  noted_used i h o None index u e = tt
  noted_used i h o (Some s) index u e =
      let P : Found → Type 0 = λ (f : Found). Frees o f.tally in
      chosen P (eqb h.slots 0) _ _ (λ a. absurd (clash u (unused_of h (eqb-true h.slots 0 a))))
      (λ _. chosen P (fits_at h (wsub h.ticket r) n && eqb (get_or index (wsub h.ticket r) 0) 0) _ _ (λ _. e) (λ _. tt))

  noted_first : (i : ℕ) (h : Held) (t : Option Tally) (index : List ℕ) → in_use h ≡ false → Frees None t → Frees (Some i) (noted_on i h r n t index).tally
  unfolding noted noted_free
  noted_first i h None index u e = tt
  noted_first i h (Some s) index u e = rw (eq-eqb h.slots 0 (unused_none h u), e) refl

  noted_later : (i k : ℕ) (h : Held) (t : Option Tally) (index : List ℕ) → Frees (Some k) t → Frees (Some k) (noted_on i h r n t index).tally
  unfolding noted noted_free
  noted_later i k h None index e = tt
  noted_later i k h (Some s) index e = ⊎_elim
      (λ u. noted_used i h (Some k) (Some s) index u e)
      (λ u. rw (eq-eqb h.slots 0 (unused_none h u), e) refl)
      (either (in_use h))

  later_same : (i k : ℕ) (rest : List Held) (f : Found) → Frees (Some k) f.tally → Frees (Some k) (noted_from i rest r n f).tally
  later_same i k [] f e = e
  later_same i k (h ∷ rest) f e = later_same (suc i) k rest (noted_on i h r n f.tally f.index) (noted_later i k h f.tally f.index e)

  free_from : (i : ℕ) (rest : List Held) (f : Found) → Frees None f.tally → Frees (vacant i rest) (noted_from i rest r n f).tally
  unfolding full first_free vacant
  free_from i [] f e = e
  free_from i (h ∷ rest) f e = ⊎_elim
      (λ u.
      let b = free_from (suc i) rest (noted_on i h r n f.tally f.index) (noted_used i h None f.tally f.index u e) in
      let same : vacant (suc i) rest ≡ vacant i (h ∷ rest) = rw u (ap (λ (k : ℕ). cond (full rest) None (Some k)) (omega arith)) in
      subst (λ (o : Option ℕ). Frees o (noted_from i (h ∷ rest) r n f).tally) same b)
      (λ u.
      let b = later_same (suc i) i rest (noted_on i h r n f.tally f.index) (noted_first i h f.tally f.index u e) in
      let same : Some i ≡ vacant i (h ∷ rest) = rw u (ap (λ (k : ℕ). Some k) (omega arith)) in
      subst (λ (o : Option ℕ). Frees o (noted_from i (h ∷ rest) r n f).tally) same b)
      (either (in_use h))

vacant_is : (l : List Held) → vacant 0 l ≡ vacancy l
unfolding vacant vacancy
vacant_is l = ap (λ (k : ℕ). cond (full l) None (Some k)) (omega arith)

-- ---- the ways out of an inspection

pub not_shown : (l : List Held) (c r : ℕ) (index : List ℕ) → valid c r l ≡ false → Shown c r l None index
not_shown l c r index v = record { good = sym v; seen = λ s e. absurd (cc) }

-- too many records, or too many slots between the counters
pub shown_beyond : (l : List Held) (c r : ℕ) (index : List ℕ) (b : ℕ) → b ≡ wsub c r → within_limits (length l) b ≡ false → Shown c r l None index
unfolding between
shown_beyond l c r index b at h = not_shown l c r index (⊎_elim
    (λ k.
    let v = valid_split c r l k in
    absurd (clash (true_and _ _ (le-leb (length l) 256 v.few) (le-leb b 256 (omega (arith, v.covered.small)))) h))
    (λ k. k)
    (either (valid c r l)))

module _ (l : List Held) (c r n : ℕ) (small : r < wrap) (long : length l ≤ 256) (few : n ≤ 256) (apart : between c r ≡ n) (before index : List ℕ) (cleared : before ≡ replicate 256 0)
    (s : Tally) (e : made (Some s) index ≡ surveyed l r n before) (tickets : Tickets l) where
  passed : Passed l r n (length l) 0 s.slots index
  passed = subst (λ (f : Found). State l c r n (length l) 0 f) (sym (rw cleared at e)) (surveyed_state l c r n few apart small tickets)

  frees : s.free ≡ vacancy l
  unfolding surveyed
  frees = subst (λ (f : Found). Frees (vacant 0 l) f.tally) (sym e) (free_from r n 0 l _ refl) ∙ vacant_is l

  pub shown_done : (z : Option Tally) → z ≡ confirmed s index n → Shown c r l z index
  unfolding confirmed
  shown_done z k = subst (λ (x : Option Tally). Shown c r l x index) (sym k) (go (eqb s.slots n && chain_of index n) refl)
    where
      fit : (j : ℕ) → in_use (get_or l j free) ≡ true → Fits l r n j ≡ true
      fit j u = passed.fit j (inside_of l j u) u

      short : Short l
      short j u = omega (arith, (fitting l c r n long apart fit j u).small)

      test : (eqb s.slots n && chain_of index n) ≡ valid c r l
      test =
          let sum : s.slots ≡ slots_held l = omega (arith, passed.sum) in
          ap (λ (m : ℕ). eqb m n && chain_of index n) sum ∙ test_covers l r n index few long short passed.stands ∙ fit_valid l c r n long apart fit

      go : (b : Bool) → (eqb s.slots n && chain_of index n) ≡ b → Shown c r l (cond b (Some s) None) index
      go false e = not_shown l c r index (sym test ∙ e)
      go true e =
          let v = valid_split c r l (sym test ∙ e) in
          let slots : s.slots ≡ n = eqb-true s.slots n (and_both _ _ e).0 in
          let seen : Seen c r l s index = record {
            place = frees;
            slots = slots ∙ sym apart;
            indexed = record {
              few = long;
              covered = rw slots (fit_valid l c r n long apart fit ∙ sym test ∙ e);
              counts = each_join (λ x. is_count x.slots x.extras) l (λ i u. (v.sound i u).counts);
              statuses = each_join (λ x. is_status x.status) l (λ i u. (v.sound i u).status);
              entries = rw slots passed.stands;
              tickets = tickets;
            };
          } in
          record { good = sym e ∙ test; seen = λ q k. (let same : s ≡ q = ap (λ (o : Option Tally). unwrap_or o s) k in subst (λ (x : Tally). Seen c r l x index) same seen) }
