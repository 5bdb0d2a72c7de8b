-- The pass keeps that all records so far fit and stand in the index, or that the list is not valid (`State`).
use Rattle.std.proofs.Common.{◌≡◌, ℕ, zero, suc, ◌+◌, ◌*◌, ◌/◌, ◌<◌, ◌≤◌, Bool, true, false, cond, ◌&&◌, eqb, ltb, ◌≢◌, ◌⊎◌, List, [], ◌∷◌, Option, Some, None, length, get_or, set, replicate, sym, refl, ap, ◌∙◌, subst, inl, inr, ⊎_elim, arith, length-set, get_or-set_other, get_or-set_same, le-ltb, lt-ltb, eq-eqb, ne_eqb, eqb-true, le-leb}
use lib.ListN.{get_or-replicate, get_or-eq_default}
use borrow.Author.Tests.{not-false}
use Rattle.words.proofs.Word.{same_or_not, lt_or_ge, and_both, true_and, either, clash}
use Rattle.ring.specs.Ring.{wrap, wsub}
use Rattle.ring.proofs.Counters.{wadd_zero, not_moved}
use Rattle.held.specs.declared.Held.{Held}
use Rattle.held.specs.Records.{is_status, in_use, free, is_finished, full, slots_held, place_at, record_at, first_free, vacancy}
use Rattle.held.specs.Valid.{between, covers, is_count, oldest_waits, valid}
use Rattle.held.proofs.Cover.{in_use_some, unused_none, free_waits, each_join, Covers, Valid, valid_split, found_or_free}
use Rattle.held.proofs.Walk.{unused_of, Short, Walked, walked_start, walked_step, walk_done, walk_sum, walk_missing}
use Rattle.fitting.specs.Fits.{fits_at}
use Rattle.fitting.proofs.Fits.{Fitting, fits_split, fits_oldest, fits_later}
use Rattle.noting.specs.declared.Tally.{Tally}
use Rattle.inspecting.specs.Inspection.{Stands, Tickets, Seen, Shown}
use Rattle.noting.specs.Survey.{within_limits, Found, made, unread, noted, noted_free, noted_held, noted_on, noted_from, surveyed, chained, chain_of, confirmed}
use Rattle.inspecting.proofs.Indexing.{inside_of, held_once, held_here}

pub chosen : (P : Found → Type 0) (b : Bool) (x y : Found) → (b ≡ true → P x) → (b ≡ false → P y) → P (cond b x y)
chosen P true x y p q = p refl
chosen P false x y p q = q refl

pub used_of : (x : Held) → eqb x.slots 0 ≡ false → in_use x ≡ true
unfolding in_use
used_of x h = rw h

waits_none : (x : Held) → is_finished x ≡ false → x.finished ≡ 0
unfolding is_finished
waits_none x h = eqb-true x.finished 0 (not-false _ h)

pub none_waits : (x : Held) → x.finished ≡ 0 → is_finished x ≡ false
unfolding is_finished
none_waits x h = rw (eq-eqb x.finished 0 h)

-- ---- each held record of a valid list fits

-- the record at place i fits where it is held
abbrev pub Fits : List Held → (r n i : ℕ) → Bool
Fits l r n i = fits_at (get_or l i free) (wsub (get_or l i free).ticket r) n

module _ (c r n : ℕ) (l : List Held) (apart : between c r ≡ n) (small : r < wrap) (v : Valid c r l) where
  covered : Covers n r l
  covered = rw apart at v.covered

  oldest : (i : ℕ) → (get_or l i free).ticket < wrap → in_use (get_or l i free) ≡ true → wsub (get_or l i free).ticket r ≡ 0 → (get_or l i free).finished ≡ 0
  unfolding record_at
  oldest i word u e =
      let lies = covered.each i u in
      let some = in_use_some (get_or l i free) u in
      let place : place_at l r ≡ i = ap (place_at l) (sym (wadd_zero r small)) ∙ held_here n r l covered 0 (omega arith) i word u e in
      waits_none (get_or l i free) (sym (ap (λ (m : ℕ). is_finished (get_or l m free)) place) ∙ v.waits)

  valid_fits : (i : ℕ) → (get_or l i free).ticket < wrap → in_use (get_or l i free) ≡ true → Fits l r n i ≡ true
  valid_fits i word u =
      let lies = covered.each i u in
      let s = v.sound i u in
      let o = wsub (get_or l i free).ticket r in
      ⊎_elim
      (λ e. sym (fits_oldest (get_or l i free) o n (omega arith) s.counts s.status e) ∙ eq-eqb (get_or l i free).finished 0 (oldest i word u e))
      (λ e. sym (fits_later (get_or l i free) o n (omega arith) s.counts s.status e))
      (same_or_not (wsub (get_or l i free).ticket r) 0)

-- ---- the pass

-- what the first i records were found to be, the others having `left` slots
pub record Passed (l : List Held) (r n i left : ℕ) (slots : ℕ) (index : List ℕ) : Type 0 where
  pub fit : (j : ℕ) → j < i → in_use (get_or l j free) ≡ true → Fits l r n j ≡ true
  pub stands : (o : ℕ) → o < n → Stands l r i o (get_or index o 0)
  pub long : length index ≡ 256
  pub sum : slots + left ≡ slots_held l

module _ (l : List Held) (c r n : ℕ) where
  abbrev pub StateOf : (i left : ℕ) → Option Tally → List ℕ → Type 0
  StateOf i left (Some s) index = Passed l r n i left s.slots index
  StateOf i left None index = valid c r l ≡ false

  abbrev pub State : (i left : ℕ) → Found → Type 0
  State i left f = StateOf i left f.tally f.index

  -- one record more, that is not held at the offset
  away : (i o e : ℕ) → (in_use (get_or l i free) ≡ true → wsub (get_or l i free).ticket r ≢ o) → Stands l r i o e → Stands l r (suc i) o e
  away i o e f (Stands.entered p h q u z) = Stands.entered p (omega arith) q u z
  away i o e f (Stands.empty h g) = Stands.empty h (λ j k u. ⊎_elim (λ z. g j z u) (λ z. (let y : j ≡ i = omega arith in rw y (f (rw y at u)))) (lt_or_ge j i))

  passed_free : (i left left' : ℕ) (slots : ℕ) (index : List ℕ) → left' ≡ (get_or l i free).slots + left → (get_or l i free).slots ≡ 0
      → Passed l r n i left' slots index → Passed l r n (suc i) left slots index
  passed_free i left left' slots index e z t =
      let u : in_use (get_or l i free) ≡ false = unused_of (get_or l i free) z in
      record {
        fit = λ j k v. ⊎_elim (λ q. t.fit j q v) (λ q. (let y : j ≡ i = omega arith in absurd (clash v (ap (λ (m : ℕ). in_use (get_or l m free)) y ∙ u)))) (lt_or_ge j i);
        stands = λ o k. away i o _ (λ v. absurd (clash v u)) (t.stands o k);
        long = t.long;
        sum = omega (arith, t.sum);
      }

  module _ (i left left' : ℕ) (slots : ℕ) (index : List ℕ) (few : n ≤ 256) (e : left' ≡ (get_or l i free).slots + left) (u : in_use (get_or l i free) ≡ true) (b : Fits l r n i ≡ true) where
    abbrev offset : ℕ
    offset = wsub (get_or l i free).ticket r

    abbrev entered : List ℕ
    entered = set index offset ((get_or l i free).slots * 256 + i)

    here_or_away : Passed l r n i left' slots index → (o : ℕ) → o < n → (o ≡ offset) ⊎ (o ≢ offset) → Stands l r (suc i) o (get_or entered o 0)
    here_or_away t o k (inl z) =
        let below = (fits_split (get_or l i free) offset n b).below in
        Stands.entered i (omega arith) (ap (λ (m : ℕ). get_or entered m 0) z ∙ get_or-set_same index offset ((get_or l i free).slots * 256 + i) 0 (omega (arith, t.long))) u (sym z)
    here_or_away t o k (inr z) = rw (get_or-set_other index offset o ((get_or l i free).slots * 256 + i) 0 z) (away i o _ (λ v y. z (sym y)) (t.stands o k))

    passed_held : Passed l r n i left' slots index → Passed l r n (suc i) left (slots + (get_or l i free).slots) entered
    passed_held t = record {
      fit = λ j k v. ⊎_elim (λ q. t.fit j q v) (λ q. (let y : j ≡ i = omega arith in rw y b)) (lt_or_ge j i);
      stands = λ o k. here_or_away t o k (same_or_not o offset);
      long = length-set index offset ((get_or l i free).slots * 256 + i) ∙ t.long;
      sum = omega (arith, t.sum);
    }

  module _ (few : n ≤ 256) (apart : between c r ≡ n) (small : r < wrap) where
    refuted : (Valid c r l → ⊥) → valid c r l ≡ false
    refuted h = ⊎_elim (λ k. absurd (h (valid_split c r l k))) (λ k. k) (either (valid c r l))

    -- two records at one offset
    twice : (i e : ℕ) → in_use (get_or l i free) ≡ true → wsub (get_or l i free).ticket r < n → e ≢ 0 → Stands l r i (wsub (get_or l i free).ticket r) e → valid c r l ≡ false
    twice i e u b d (Stands.empty h g) = absurd (d h)
    twice i e u b d (Stands.entered p h q w z) =
        refuted (λ v. (let y = held_once n r l (covered c r n l apart small v) (wsub (get_or l i free).ticket r) b p i w z u refl in omega arith))

    unfit : (i : ℕ) → (get_or l i free).ticket < wrap → in_use (get_or l i free) ≡ true → Fits l r n i ≡ false → valid c r l ≡ false
    unfit i word u b = refuted (λ v. clash (valid_fits c r n l apart small v i word u) b)

    -- a held record that is refused
    refused : (i e : ℕ) → (get_or l i free).ticket < wrap → in_use (get_or l i free) ≡ true → Stands l r i (wsub (get_or l i free).ticket r) e ⊎ (n ≤ wsub (get_or l i free).ticket r) → Fits l r n i && eqb e 0 ≡ false → valid c r l ≡ false
    refused i e word u s b = ⊎_elim
        (λ f.
        let below = (fits_split (get_or l i free) (wsub (get_or l i free).ticket r) n f).below in
        ⊎_elim
        (λ t. twice i e u below (λ z. clash (true_and (Fits l r n i) (eqb e 0) f (eq-eqb e 0 z)) b) t)
        (λ h. absurd (omega arith))
        s)
        (λ f. unfit i word u f)
        (either (Fits l r n i))

    pub step : (i left left' : ℕ) (t : Option Tally) (index : List ℕ) → (get_or l i free).ticket < wrap → left' ≡ (get_or l i free).slots + left → StateOf i left' t index → State (suc i) left (noted_on i (get_or l i free) r n t index)
    unfolding noted noted_free noted_held
    step i left left' None index word e v = v
    step i left left' (Some s) index word e t =
        chosen (State (suc i) left) (eqb (get_or l i free).slots 0) _ _
        (λ a. passed_free i left left' s.slots index e (eqb-true (get_or l i free).slots 0 a) t)
        (λ a.
        let u : in_use (get_or l i free) ≡ true = used_of (get_or l i free) a in
        let at : ℕ = wsub (get_or l i free).ticket r in
        chosen (State (suc i) left) (Fits l r n i && eqb (get_or index at 0) 0) _ _
        (λ b. passed_held i left left' s.slots index few e u (and_both (Fits l r n i) _ b).0 t)
        (λ b. refused i (get_or index at 0) word u (⊎_elim (λ k. inl (t.stands at k)) (λ k. inr k) (lt_or_ge at n)) b))

-- ---- the first record

cleared : (o : ℕ) → ◌≡◌ {A = ℕ} (get_or (replicate 256 0) o 0) 0
cleared o = ⊎_elim (λ h. get_or-replicate 256 o 0 0 h) (λ h. get_or-eq_default (replicate 256 0) 0 {n = o} h) (lt_or_ge o 256)

-- before the first record, where the index is cleared
pub passed_none : (l : List Held) (r n : ℕ) → Passed l r n 0 (slots_held l) 0 (replicate 256 0)
passed_none l r n = record {
  fit = λ j h. absurd (omega arith);
  stands = λ o h. Stands.empty (cleared o) (λ j k. absurd (omega arith));
  long = refl;
  sum = omega arith;
}
