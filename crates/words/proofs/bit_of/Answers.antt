-- `bit_of` meets its contract: the mask keeps the lowest bit of what is shifted.
use mathlib.Core.Path.{ap}
use Prim.Native.Nat.{ℕ, ◌/◌, ◌^◌}
use lib.Dec.{eqb}
use lib.Bits.{and_mask}
use Rattle.words.specs.Word.{bit}
use Rattle.words.proofs.bit_of.Goals as goal

pub returns : goal.returns
unfolding bit
returns c = ap (λ (m : ℕ). eqb m 1) (and_mask (c.args.x / 2 ^ c.args.k) 1)
