-- A walk from record to record, each held where the one before ends, and the sum of their slots: together they tell whether the held records
-- cover the slots. `Walked l r at` is the walk's invariant: records one behind the other have the slots below offset `at`; `rest` is the list
-- without them, so that nothing is counted twice.
use mathlib.Core.Path.{◌≡◌, refl, sym, ap, ◌∙◌}
use mathlib.Core.Logic.{◌≢◌, ◌⊎◌, inl, inr, ⊎_elim}
use mathlib.Core.List.{List}
use mathlib.Core.Bool.{true, false}
use Prim.Native.Nat.{ℕ, ◌+◌, ◌-◌, ◌≤◌, ◌<◌}
use native.Mathlib.Omega.{arith}
use lib.ListN.{length, get_or, set, length-set}
use lib.Seq.{get_or-set_same, get_or-set_other}
use lib.Dec.{ltb}
use borrow.Author.Tests.{lt-ltb, le-ltb, eq-eqb, ltb-true}
use Rattle.words.proofs.Word.{same_or_not, lt_or_ge, and_both, either, clash}
use Rattle.words.proofs.Lists.{sum_set, sum_none, none_sum, some_sum}
use Rattle.ring.specs.Ring.{wadd, wsub}
use Rattle.answer.specs.Report.{flag}
use Rattle.grammar.proofs.Within.{within_bound}
use Rattle.held.specs.declared.Held.{Held}
use Rattle.held.specs.Records.{in_use, free, slots_held}
use Rattle.held.specs.Valid.{owns, owners, covers, is_count}
use Rattle.held.proofs.Slots.{covered_slots}
use Rattle.held.proofs.Cover.{in_use_some, unused_free, EachHeld, Covers, covers_split, covers_join, Sound, flag_true, flag_false, owners_set, owns_unused, owns_free, no_owner, owns_first, owns_past, owns_before, owns_own}

pub unused_of : (x : Held) → x.slots ≡ 0 → in_use x ≡ false
unfolding in_use
unused_of x h = rw (eq-eqb x.slots 0 h)

-- what became of a record: it stands as it was, or the walk has passed it, and its slots are below `at`
abbrev pub Stays : (r at : ℕ) (before after : Held) → Type 0
Stays r at x y = (y ≡ x) ⊎ ((y ≡ free) × (wsub x.ticket r + x.slots ≤ at))

pub record Walked (l : List Held) (r at : ℕ) : Type 0 where
  pub rest : List Held
  pub long : length rest ≡ length l
  pub each : (j : ℕ) → Stays r at (get_or l j free) (get_or rest j free)
  pub sums : slots_held rest + at ≡ slots_held l
  pub owned : (o : ℕ) → o < 512 → owners l (wadd r o) ≡ owners rest (wadd r o) + flag (ltb o at)

-- no record is longer than the ring
abbrev pub Short : List Held → Type 0
Short l = EachHeld (λ x. x.slots ≤ 256) l

pub sound_short : (l : List Held) → EachHeld Sound l → Short l
unfolding is_count
sound_short l h i u =
    let (a, b) = and_both (ltb (get_or l i free).extras (get_or l i free).slots) _ (h i u).counts in
    omega (arith, ltb-true (get_or l i free).extras (get_or l i free).slots a, within_bound ((get_or l i free).slots - (get_or l i free).extras) (get_or l i free).extras b)

-- ---- the walk

pub walked_start : (l : List Held) (r : ℕ) → Walked l r 0
walked_start l r = record {
  rest = l;
  long = refl;
  each = λ j. inl refl;
  sums = omega arith;
  owned = λ o h. rw (le-ltb o 0 (omega arith)) (omega arith);
}

module _ {l : List Held} {r at : ℕ} (w : Walked l r at) where
  -- a record at offset `at` was not passed
  unseen : (p : ℕ) → in_use (get_or l p free) ≡ true → wsub (get_or l p free).ticket r ≡ at → get_or w.rest p free ≡ get_or l p free
  unseen p u e = ⊎_elim (λ h. h) (λ h. absurd (omega (arith, h.1, in_use_some (get_or l p free) u))) (w.each p)

  -- the slots of the record at offset `at`
  own_slots : (x : Held) → wsub x.ticket r ≡ at → x.slots ≤ 256 → at ≤ 256 → (o : ℕ) → o < 512
      → flag (ltb o at) + flag (owns (wadd r o) x) ≡ flag (ltb o (at + x.slots))
  own_slots x e s a o h = ⊎_elim
      (λ g. rw (lt-ltb o at g, owns_before r x.ticket o at x refl e (omega arith) s g, lt-ltb o (at + x.slots) (omega arith)))
      (λ g. ⊎_elim
      (λ k. rw (le-ltb o at g, owns_own r x.ticket o at x refl e g k h, lt-ltb o (at + x.slots) k))
      (λ k. rw (le-ltb o at g, owns_past r o (at + x.slots) x (omega arith) k h, le-ltb o (at + x.slots) k))
      (lt_or_ge o (at + x.slots)))
      (lt_or_ge o at)

  -- one step: from the record at offset `at` to the slot behind it
  pub walked_step : (p : ℕ) → p < length l → in_use (get_or l p free) ≡ true → wsub (get_or l p free).ticket r ≡ at → (get_or l p free).slots ≤ 256 → at ≤ 256
      → Walked l r (at + (get_or l p free).slots)
  walked_step p h u e s a =
      let same : get_or w.rest p free ≡ get_or l p free = unseen p u e in
      let inside : p < length w.rest = omega (arith, w.long) in
      record {
        rest = set w.rest p free;
        long = length-set w.rest p free ∙ w.long;
        each = λ j. go j (same_or_not j p);
        sums = omega (arith, sum_set (λ (x : Held). x.slots) free w.rest p free inside, ap (λ (x : Held). x.slots) same, w.sums);
        owned = λ o k.
            omega (arith, w.owned o k, owners_set w.rest p free (wadd r o) inside, ap (λ (x : Held). flag (owns (wadd r o) x)) same, flag_false (owns_free (wadd r o)), own_slots (get_or l p free) e s a o k);
      }
    where
      go : (j : ℕ) → (j ≡ p) ⊎ (j ≢ p) → Stays r (at + (get_or l p free).slots) (get_or l j free) (get_or (set w.rest p free) j free)
      go j (inl z) = inr (rw z (get_or-set_same w.rest p free free (omega (arith, w.long))), rw z (omega arith))
      go j (inr z) =
          rw (get_or-set_other w.rest p j free free z)
          (⊎_elim (λ g. inl g) (λ g. inr (g.0, omega (arith, g.1))) (w.each j))

  -- ---- the ways out

  -- the walk has passed all slots, so no record is left
  none_left : slots_held l ≡ at → (j : ℕ) → in_use (get_or w.rest j free) ≡ false
  none_left h j = unused_of (get_or w.rest j free) (none_sum (λ (x : Held). x.slots) free refl w.rest (omega (arith, w.sums)) j)

  walked_covers : at ≤ 256 → slots_held l ≡ at → Covers at r l
  unfolding owners
  walked_covers a h = record {
    small = a;
    each = λ j u. ⊎_elim
        (λ e. absurd (clash u (ap in_use (sym e) ∙ none_left h j)))
        (λ e. e.1)
        (w.each j);
    once = λ o k.
        let z : owners w.rest (wadd r o) ≡ 0 = sum_none (λ x. flag (owns (wadd r o) x)) free w.rest (λ j. flag_false (owns_unused (wadd r o) (get_or w.rest j free) (none_left h j))) in
        w.owned o (omega arith) ∙ rw (lt-ltb o at k) (omega arith);
  }

  module _ (n : ℕ) (v : Covers n r l) where
    -- slots that were passed are no other record's
    no_rest : (o : ℕ) → o < at → at ≤ n → owners w.rest (wadd r o) ≡ 0
    no_rest o h a = omega (arith, w.owned o (omega (arith, v.small)), v.once o (omega arith), flag_true (lt-ltb o at h))

    -- a record of the rest begins at `at` or behind it
    rest_behind : at ≤ n → (j : ℕ) → in_use (get_or w.rest j free) ≡ true → at ≤ wsub (get_or w.rest j free).ticket r
    rest_behind a j u = ⊎_elim
        (λ h. absurd (clash (owns_first r (get_or w.rest j free) (in_use_some (get_or w.rest j free) u)) (no_owner w.rest (wadd r (wsub (get_or w.rest j free).ticket r)) (no_rest _ h a) j)))
        (λ h. h)
        (lt_or_ge (wsub (get_or w.rest j free).ticket r) at)

    -- at the end none is left
    rest_unused : at ≡ n → (j : ℕ) → in_use (get_or w.rest j free) ≡ false
    rest_unused e j = ⊎_elim (λ u. absurd (bad u)) (λ u. u) (either (in_use (get_or w.rest j free)))
      where
        bad : in_use (get_or w.rest j free) ≡ true → ⊥
        bad u = ⊎_elim
            (λ g.
            let u' : in_use (get_or l j free) ≡ true = sym (ap in_use g) ∙ u in
            omega (arith, rest_behind (omega arith) j u, v.each j u', in_use_some (get_or l j free) u', ap (λ (x : Held). wsub x.ticket r) g))
            (λ g. clash u (ap in_use g.0 ∙ unused_free))
            (w.each j)

    -- before the end a record is held at `at`
    pub covers_next : at < n → (j : ℕ) × (j < length l) × (in_use (get_or l j free) ≡ true) × (wsub (get_or l j free).ticket r ≡ at)
    unfolding owners
    covers_next h = go (some_sum (λ x. flag (owns (wadd r at) x)) free w.rest (omega (arith, w.owned at (omega (arith, v.small)), v.once at h, flag_false (le-ltb at at (omega arith)))))
      where
        go : (j : ℕ) × (j < length w.rest) × (0 < flag (owns (wadd r at) (get_or w.rest j free))) → (j : ℕ) × (j < length l) × (in_use (get_or l j free) ≡ true) × (wsub (get_or l j free).ticket r ≡ at)
        go (j, inside, f) = ⊎_elim stays gone (w.each j)
          where
            own : owns (wadd r at) (get_or w.rest j free) ≡ true
            own = ⊎_elim (λ z. z) (λ z. absurd (omega (arith, flag_false z))) (either (owns (wadd r at) (get_or w.rest j free)))

            gone : (get_or w.rest j free ≡ free) × (wsub (get_or l j free).ticket r + (get_or l j free).slots ≤ at) → (j : ℕ) × (j < length l) × (in_use (get_or l j free) ≡ true) × (wsub (get_or l j free).ticket r ≡ at)
            gone g = absurd (clash own (ap (owns (wadd r at)) g.0 ∙ owns_free (wadd r at)))

            stays : get_or w.rest j free ≡ get_or l j free → (j : ℕ) × (j < length l) × (in_use (get_or l j free) ≡ true) × (wsub (get_or l j free).ticket r ≡ at)
            stays g =
                let u : in_use (get_or l j free) ≡ true = ⊎_elim (λ z. z) (λ z. absurd (clash own (ap (owns (wadd r at)) g ∙ owns_unused (wadd r at) (get_or l j free) z))) (either (in_use (get_or l j free))) in
                let own' : owns (wadd r at) (get_or l j free) ≡ true = sym (ap (owns (wadd r at)) g) ∙ own in
                let lies = v.each j u in
                let behind : at ≤ wsub (get_or l j free).ticket r = omega (arith, rest_behind (omega arith) j (ap in_use g ∙ u), ap (λ (x : Held). wsub x.ticket r) g) in (
                  j,
                  omega (arith, w.long),
                  u,
                  ⊎_elim
                      (λ z. absurd (clash own' (owns_before r (get_or l j free).ticket at (wsub (get_or l j free).ticket r) (get_or l j free) refl refl (omega (arith, v.small)) (omega (arith, v.small)) z)))
                      (λ z. omega arith)
                      (lt_or_ge at (wsub (get_or l j free).ticket r)),
                )

-- ---- the walk's ends, as equations of the definition

module _ {l : List Held} {r at : ℕ} (w : Walked l r at) (n : ℕ) where
  refuted : (Covers n r l → ⊥) → covers n r l ≡ false
  refuted h = ⊎_elim (λ z. absurd (h (covers_split n r l z))) (λ z. z) (either (covers n r l))

  -- the walk has come to n or past it, and the sum of slots is n
  pub walk_done : n ≤ 256 → n ≤ at → slots_held l ≡ n → covers n r l ≡ true
  walk_done few e h = covers_join n r l (let z : at ≡ n = omega (arith, w.sums) in rw z at (walked_covers w (omega arith) (omega arith)))

  -- the sum is another
  pub walk_sum : slots_held l ≢ n → covers n r l ≡ false
  walk_sum h = refuted (λ v. h (covered_slots n r l v))

  -- no record is held where the walk has come to
  pub walk_missing : at < n → ((j : ℕ) → j < length l → in_use (get_or l j free) ≡ true → wsub (get_or l j free).ticket r ≢ at) → covers n r l ≡ false
  walk_missing h none_there = refuted (λ v. let (j, inside, u, e) = covers_next w n v h in none_there j inside u e)
