-- `copying::copy_passes` meets its contract. After k passes the count is k, and the first 8 * k bytes of src are at the front of dst.
use mathlib.Core.Path.{◌≡◌}
use Prim.Native.Nat.{◌*◌}
use lib.ListN.{take}
use Rattle.words.specs.Word.{splice}
use Rattle.copying.proofs.copy_passes.Given as goal

abbrev pub invariant-loop-k : goal.invariant-loop-k
invariant-loop-k l = (l.made ≡ l.k) × (l.dst ≡ splice l.initial.dst 0 (take (8 * l.k) l.src))
