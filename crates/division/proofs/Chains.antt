-- Chains by the place of each slot: a chain of n slots is n slots that are each right at their place, and the first ones of n
-- can always be made n. Both kinds of slots have these laws by one proof.
use mathlib.Core.Path.{◌≡◌, refl, sym, ap, ◌∙◌}
use mathlib.Core.List.{List, [], ◌∷◌, ◌++◌}
use mathlib.Core.Bool.{Bool, true, false, ◌&&◌}
use Prim.Native.Nat.{ℕ, zero, suc, ◌+◌}
use native.Mathlib.Omega.{arith}
use lib.ListN.{length}
use lib.Dec.{ltb}
use borrow.Author.Tests.{lt-ltb, le-ltb}
use Rattle.std.specs.Cmp.Derive.{both_true}
use Rattle.words.proofs.Word.{and_both}
use Rattle.netif.specs.Slot.{Slot}
use Rattle.grammar.specs.Grammar.{Chain, final, linked, Owed}
use Rattle.grammar.proofs.Scan.{link, chain_some}
use Rattle.division.specs.Shape.{alike, link_at, begun}

-- two that say the same are equal
pub alike_same : (a b : Bool) → alike a b ≡ true → a ≡ b
alike_same true b h = sym h
alike_same false true h = h
alike_same false false h = refl

pub same_alike : (a b : Bool) → a ≡ b → alike a b ≡ true
same_alike true b h = sym h
same_alike false true h = h
same_alike false false h = refl

module _ (right announces : Slot → Bool) (n : ℕ) where
  -- a slot at its place, and back
  link_right : (j : ℕ) (s : Slot) → link_at right announces n j s ≡ true → (right s ≡ true) × (announces s ≡ ltb (suc j) n)
  unfolding link_at
  link_right j s h =
      let (p, q) = and_both (right s) (alike (announces s) (ltb (suc j) n)) h in
      (p, alike_same (announces s) (ltb (suc j) n) q)

  right_link : (j : ℕ) (s : Slot) → right s ≡ true → announces s ≡ ltb (suc j) n → link_at right announces n j s ≡ true
  unfolding link_at
  right_link j s p q = both_true p (same_alike (announces s) (ltb (suc j) n) q)

  -- all of n slots from place j on are a chain, if there are any
  pub begun_owed : (l : List Slot) (j : ℕ) → begun right announces n j l ≡ true → j + length l ≡ n → Owed (ltb j n) right announces l
  begun_owed [] j h e = rw (le-ltb j n (omega arith)) refl
  begun_owed (s ∷ l) j h e =
      let (p, q) = and_both (link_at right announces n j s) (begun right announces n (suc j) l) h in
      let (r, a) = link_right j s p in
      rw (lt-ltb j n (omega arith)) (link r (ltb (suc j) n) a (begun_owed l (suc j) q (omega arith)))

  -- a chain's slots are right at their places
  chain_begun : (l : List Slot) (j : ℕ) → Chain right announces l → j + length l ≡ n → begun right announces n j l ≡ true
  chain_begun [] j x e = elim x [ ]
  chain_begun (s ∷ []) j (final r a) e = both_true (right_link j s r (a ∙ sym (le-ltb (suc j) n (omega arith)))) refl
  chain_begun (s ∷ l) j (linked r a c) e = both_true (right_link j s r (a ∙ sym (lt-ltb (suc j) n (omega (arith, chain_some c))))) (chain_begun l (suc j) c (omega arith))

  -- the first of some slots
  pub begun_front : (l t : List Slot) (j : ℕ) → begun right announces n j (l ++ t) ≡ true → begun right announces n j l ≡ true
  begun_front [] t j h = refl
  begun_front (s ∷ l) t j h =
      let (p, q) = and_both (link_at right announces n j s) (begun right announces n (suc j) (l ++ t)) h in
      both_true p (begun_front l t (suc j) q)

  pub begun_join : (l t : List Slot) (j : ℕ) → begun right announces n j l ≡ true → begun right announces n (j + length l) t ≡ true → begun right announces n j (l ++ t) ≡ true
  begun_join [] t j h k = (let z : j + 0 ≡ j = omega arith in rw z at k)
  begun_join (s ∷ l) t j h k =
      let (p, q) = and_both (link_at right announces n j s) (begun right announces n (suc j) l) h in
      let z : j + suc (length l) ≡ suc j + length l = omega arith in
      both_true p (begun_join l t (suc j) q (rw z at k))

  -- so too where nothing is owed
  pub owed_begun : (b : Bool) (l : List Slot) → Owed b right announces l → length l ≡ n → begun right announces n 0 l ≡ true
  owed_begun true l c e = chain_begun l 0 c (omega arith)
  owed_begun false l c e = rw c refl

-- slots are owed exactly if there are any
pub owed_some : (right announces : Slot → Bool) (b : Bool) (l : List Slot) → Owed b right announces l → b ≡ ltb 0 (length l)
owed_some right announces true l c = sym (lt-ltb 0 (length l) (omega (arith, chain_some c)))
owed_some right announces false l c = rw c refl

-- k slots, each but the last announcing another, made of one that does and one that does not
module _ (more last : Slot) where
  unfoldable pub filling : ℕ → List Slot
  filling zero = []
  filling (suc zero) = last ∷ []
  filling (suc (suc k)) = more ∷ filling (suc k)

  pub filling_length : (k : ℕ) → length (filling k) ≡ k
  unfolding filling
  filling_length zero = refl
  filling_length (suc zero) = refl
  filling_length (suc (suc k)) = ap suc (filling_length (suc k))

  module _ (right announces : Slot → Bool) (n : ℕ) (more-right : right more ≡ true) (more-more : announces more ≡ true) (last-right : right last ≡ true) (last-last : announces last ≡ false) where
    -- they are the last k of n
    pub filling_begun : (k j : ℕ) → j + k ≡ n → begun right announces n j (filling k) ≡ true
    unfolding filling
    filling_begun zero j e = refl
    filling_begun (suc zero) j e = both_true (right_link right announces n j last last-right (last-last ∙ sym (le-ltb (suc j) n (omega arith)))) refl
    filling_begun (suc (suc k)) j e =
        both_true (right_link right announces n j more more-right (more-more ∙ sym (lt-ltb (suc j) n (omega arith)))) (filling_begun (suc k) (suc j) (omega arith))
