-- The laws of the limit. Nothing else opens `within`.
use mathlib.Core.Path.{◌≡◌, refl}
use mathlib.Core.Bool.{Bool, true, false}
use Prim.Native.Nat.{ℕ, ◌+◌, ◌≤◌, ◌<◌}
use native.Mathlib.Omega.{arith}
use lib.Dec.{leb}
use borrow.Author.Tests.{leb-true, le-leb}
use Rattle.std.proofs.lemmas.Bool.{false_from_ne_true}
use Rattle.words.proofs.Word.{and_both}
use Rattle.grammar.specs.Grammar.{within, most_slots}
use Rattle.grammar.specs.Divide.{owed}

-- the most data slots that a packet has
pub within_datas : (d e : ℕ) → within d e ≡ true → d ≤ 18
unfolding within
within_datas d e w = leb-true d 18 (and_both (leb d 18) (leb e 4) w).0

-- the most extras that a packet has
pub within_extras : (d e : ℕ) → within d e ≡ true → e ≤ 4
unfolding within
within_extras d e w = leb-true e 4 (and_both (leb d 18) (leb e 4) w).1

-- the most slots that a packet has
pub within_bound : (d e : ℕ) → within d e ≡ true → d + e ≤ most_slots
within_bound d e w = omega (arith, within_datas d e w, within_extras d e w)

-- every number up to both is within the limit
pub within_most : (d e : ℕ) → d ≤ 18 → e ≤ 4 → within d e ≡ true
unfolding within
within_most d e p q = rw (le-leb d 18 p, le-leb e 4 q)

-- more extras are not
pub within_over_extras : (d e : ℕ) → 4 < e → within d e ≡ false
within_over_extras d e h = false_from_ne_true (within d e) (λ w. omega (arith, within_extras d e w))

-- nor are more data slots
pub within_over_datas : (d e : ℕ) → 18 < d → within d e ≡ false
within_over_datas d e h = false_from_ne_true (within d e) (λ w. omega (arith, within_datas d e w))

-- fewer slots are within the limit too
pub within_down : (d e d' e' : ℕ) → within d e ≡ true → d' ≤ d → e' ≤ e → within d' e' ≡ true
within_down d e d' e' w p q = within_most d' e' (omega (arith, within_datas d e w)) (omega (arith, within_extras d e w))

-- one data slot is
pub within_one : within 1 0 ≡ true
unfolding within
within_one = refl

-- while extras are read, a data slot still owed makes no difference
pub within_owed : (m : Bool) (e : ℕ) → within (1 + owed m) e ≡ within 1 e
unfolding within
within_owed true e = refl
within_owed false e = refl
