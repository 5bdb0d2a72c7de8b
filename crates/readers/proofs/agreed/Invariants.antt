-- `agreed` meets its contract. The invariant: so many of the places passed are the same.
use mathlib.Core.Path.{◌≡◌}
use Prim.Native.Nat.{◌≤◌}
use Rattle.readers.specs.Compare.{agreeing}
use Rattle.readers.proofs.agreed.Given as goal

abbrev pub invariant-loop-i : goal.invariant-loop-i
invariant-loop-i l = (l.same ≡ agreeing l.i l.a l.b) × (l.same ≤ l.i)
