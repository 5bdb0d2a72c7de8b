-- `shape::chain` meets its contract. The invariant: what is asked of all slots is asked of those that are left.
use Rattle.std.proofs.Common.{◌≡◌}
use Rattle.division.specs.Run.{slots_in}
use Rattle.division.specs.Shape.{begun}
use Rattle.shape.proofs.Reading.{asked}
use Rattle.shape.proofs.chain.Given as goal

abbrev pub invariant-loop-j : goal.invariant-loop-j
invariant-loop-j g l = begun g.K.Behind.right g.K.Behind.announces l.n 0 (slots_in l.run l.from l.count) ≡ asked g.K.Behind.right g.K.Behind.announces l.n l.run l.from l.count l.j
