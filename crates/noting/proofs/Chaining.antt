-- The walk along the index from the oldest slot on: the loop's invariant.
use Rattle.std.proofs.Common.{◌≡◌, ℕ, zero, suc, ◌+◌, ◌-◌, ◌/◌, ◌<◌, ◌≤◌, true, false, List, get_or, sym, refl, ap, ◌∙◌, arith, le-ltb, lt-ltb}
use Rattle.noting.specs.Survey.{chained, chain_of}

module _ (index : List ℕ) (n : ℕ) where
  chain_out : (k o : ℕ) → n ≤ o → chained k index n o ≡ true
  chain_out zero o h = refl
  chain_out (suc k) o h = rw (le-ltb o n h) refl

  -- what is asked is what is left, from an offset on
  pub record Met (o : ℕ) : Type 0 where
    pub fuel : ℕ
    pub enough : 256 ≤ fuel + o
    pub bound : o ≤ 511
    pub left : chain_of index n ≡ chained fuel index n o

  pub met_start : Met 0
  unfolding chain_of
  met_start = record { fuel = 256; enough = omega arith; bound = omega arith; left = refl }

  module _ (o : ℕ) (t : Met o) where
    pub met_end : n ≤ o → true ≡ chain_of index n
    met_end h = sym (t.left ∙ chain_out t.fuel o h)

    module _ (few : n ≤ 256) (inside : o < n) where
      turn : chain_of index n ≡ chained (suc (t.fuel - 1)) index n o
      turn = let e : t.fuel ≡ suc (t.fuel - 1) = omega (arith, t.enough) in t.left ∙ ap (λ (k : ℕ). chained k index n o) e

      pub met_none : get_or index o 0 / 256 ≡ 0 → false ≡ chain_of index n
      met_none h = sym (turn ∙ rw (lt-ltb o n inside, lt-ltb (get_or index o 0) 256 (omega (arith, h))) refl)

      pub met_next : (get_or index o 0 / 256 ≡ 0 → ⊥) → get_or index o 0 / 256 < 256 → Met (o + get_or index o 0 / 256)
      met_next h small =
          record {
            fuel = t.fuel - 1;
            enough = omega (arith, t.enough, h);
            bound = omega (arith, few, small);
            left = turn ∙ rw (lt-ltb o n inside, le-ltb (get_or index o 0) 256 (omega (arith, h))) refl;
          }
