-- A slot between the two counters has one owner; and the slots of held packets are those slots: pairs of a slot and its owner, counted by slots and
-- by records.
use mathlib.Core.Path.{◌≡◌, refl, sym, ap, ◌∙◌}
use mathlib.Core.Logic.{◌≢◌, ⊎_elim}
use mathlib.Core.List.{List, [], ◌∷◌}
use mathlib.Core.Bool.{true}
use Prim.Native.Nat.{ℕ, zero, suc, ◌+◌, ◌-◌, ◌≤◌, ◌<◌, min}
use native.Mathlib.Omega.{arith}
use lib.ListN.{length, get_or, set}
use lib.Seq.{get_or-set_other}
use Rattle.words.specs.Lists.{sum_of}
use Rattle.words.proofs.Word.{lt_or_ge, same_or_not, either, clash}
use Rattle.ring.specs.Ring.{wadd, wsub}
use Rattle.answer.specs.Report.{flag}
use Rattle.held.specs.declared.Held.{Held}
use Rattle.held.specs.Records.{in_use, free, slots_held}
use Rattle.held.specs.Valid.{between, owns, owners, valid}
use Rattle.held.proofs.Cover.{unused_none, flag_true, flag_false, owners_set, no_owner, owns_free, owns_unused, owns_past, owns_before, owns_own, Lies, Covers, valid_split}

-- two records that own one slot are one
pub one_owner : (n r : ℕ) (l : List Held) → Covers n r l → (o : ℕ) → o < n → (i j : ℕ) → i < length l
    → owns (wadd r o) (get_or l i free) ≡ true → owns (wadd r o) (get_or l j free) ≡ true → j ≡ i
one_owner n r l v o h i j k a b = ⊎_elim (λ z. z) (λ z. absurd (bad z)) (same_or_not j i)
  where
    bad : j ≢ i → ⊥
    bad z =
        let nobody : owners (set l i free) (wadd r o) ≡ 0 = omega (arith, owners_set l i free (wadd r o) k, flag_true a, flag_false (owns_free (wadd r o)), v.once o h) in
        clash b (ap (owns (wadd r o)) (sym (get_or-set_other l i j free free z)) ∙ no_owner (set l i free) (wadd r o) nobody j)

-- a number for each number below n, added up
abbrev total : ℕ → (ℕ → ℕ) → ℕ
total zero f = 0
total (suc n) f = total n f + f n

total_none : (n : ℕ) (f : ℕ → ℕ) → ((i : ℕ) → i < n → f i ≡ 0) → total n f ≡ 0
total_none zero f h = refl
total_none (suc n) f h = omega (arith, total_none n f (λ i k. h i (omega arith)), h n (omega arith))

total_ones : (n : ℕ) (f : ℕ → ℕ) → ((i : ℕ) → i < n → f i ≡ 1) → total n f ≡ n
total_ones zero f h = refl
total_ones (suc n) f h = omega (arith, total_ones n f (λ i k. h i (omega arith)), h n (omega arith))

total_sum : (n : ℕ) (f g : ℕ → ℕ) → total n (λ i. f i + g i) ≡ total n f + total n g
total_sum zero f g = refl
total_sum (suc n) f g = omega (arith, total_sum n f g)

-- 1 for each of the k numbers from o on, and else 0
total_band : (f : ℕ → ℕ) (o k n : ℕ) → ((i : ℕ) → i < n → i < o → f i ≡ 0) → ((i : ℕ) → i < n → o ≤ i → i < o + k → f i ≡ 1) → ((i : ℕ) → i < n → o + k ≤ i → f i ≡ 0)
    → total n f ≡ min (n - o) k
total_band f o k zero a b c = omega arith
total_band f o k (suc n) a b c =
    let e : total n f ≡ min (n - o) k = total_band f o k n (λ i h. a i (omega arith)) (λ i h. b i (omega arith)) (λ i h. c i (omega arith)) in
    ⊎_elim
    (λ h. omega (arith, a n (omega arith) h))
    (λ h. ⊎_elim (λ g. omega (arith, b n (omega arith) h g)) (λ g. omega (arith, c n (omega arith) g)) (lt_or_ge n (o + k)))
    (lt_or_ge n o)

-- by slots, or by records
total_owners : (n : ℕ) (f : ℕ → Held → ℕ) (l : List Held) → total n (λ i. sum_of (f i) l) ≡ sum_of (λ x. total n (λ i. f i x)) l
total_owners n f [] = total_none n (λ i. 0) (λ i h. refl)
total_owners n f (x ∷ l) = total_sum n (λ i. f i x) (λ i. sum_of (f i) l) ∙ ap (total n (λ i. f i x) +◌) (total_owners n f l)

sum_same : (f g : Held → ℕ) (l : List Held) → ((i : ℕ) → f (get_or l i free) ≡ g (get_or l i free)) → sum_of f l ≡ sum_of g l
sum_same f g [] h = refl
sum_same f g (x ∷ l) h = omega (arith, h 0, sum_same f g l (λ i. h (suc i)))

-- a record has as many of the n slots as it says
own_slots : (n r : ℕ) → n ≤ 256 → (x : Held) → (in_use x ≡ true → Lies n r x) → total n (λ i. flag (owns (wadd r i) x)) ≡ x.slots
own_slots n r few x lies = ⊎_elim
    (λ u.
    let w : wsub x.ticket r + x.slots ≤ n = lies u in
    total_band (λ i. flag (owns (wadd r i) x)) (wsub x.ticket r) x.slots n
    (λ i h k. flag_false (owns_before r x.ticket i (wsub x.ticket r) x refl refl (omega arith) (omega arith) k))
    (λ i h k g. flag_true (owns_own r x.ticket i (wsub x.ticket r) x refl refl k g (omega arith)))
    (λ i h k. flag_false (owns_past r i (wsub x.ticket r + x.slots) x (omega arith) k (omega arith)))
    ∙ omega arith)
    (λ u. total_none n (λ i. flag (owns (wadd r i) x)) (λ i h. flag_false (owns_unused (wadd r i) x u)) ∙ sym (unused_none x u))
    (either (in_use x))

pub covered_slots : (n r : ℕ) (l : List Held) → Covers n r l → slots_held l ≡ n
unfolding owners
covered_slots n r l v =
    sum_same (λ x. x.slots) (λ x. total n (λ i. flag (owns (wadd r i) x))) l (λ i. sym (own_slots n r v.small (get_or l i free) (v.each i)))
    ∙ sym (total_owners n (λ i x. flag (owns (wadd r i) x)) l)
    ∙ total_ones n (λ i. sum_of (λ x. flag (owns (wadd r i) x)) l) v.once

-- the slots of a valid list are the slots between the counters
pub valid_slots : (consumed replied : ℕ) (l : List Held) → valid consumed replied l ≡ true → slots_held l ≡ between consumed replied
valid_slots consumed replied l h = covered_slots (between consumed replied) replied l (valid_split consumed replied l h).covered
