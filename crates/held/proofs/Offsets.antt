-- A ticket's offset behind a counter, as the code computes it.
use Rattle.std.proofs.Common.{◌≡◌, ℕ, ◌+◌, ◌-◌, ◌%◌, ◌<◌, arith}
use Rattle.ring.specs.Ring.{wsub}

pub offset_is : (a b : ℕ) → b < 4294967296 → (a + (4294967296 - b)) % 4294967296 ≡ wsub a b
unfolding wsub
offset_is a b h = omega arith
