-- What the functions of a batch need of its definition.
use mathlib.Core.Path.{◌≡◌, refl}
use mathlib.Core.List.{List}
use mathlib.Core.Bool.{Bool, true, false, cond}
use Prim.Native.Nat.{ℕ, suc}
use Rattle.batch.specs.Batch.{Progress, listed, goes_on, next_take, batch}

module _ (table window : List ℕ) (n : ℕ) (b : Progress) where
  -- a take, and as many more as it leaves
  pub batch_step : batch table window (suc n) b ≡ batch table window (cond (goes_on (next_take table window b).report.answer) n 0) (listed b (next_take table window b))
  batch_step = go (goes_on (next_take table window b).report.answer)
    where
      go : (x : Bool) → cond x (batch table window n (listed b (next_take table window b))) (listed b (next_take table window b)) ≡ batch table window (cond x n 0) (listed b (next_take table window b))
      go true = refl
      go false = refl
