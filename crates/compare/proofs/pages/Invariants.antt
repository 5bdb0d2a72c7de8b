-- `pages` meets its contract. The invariant: both readers agreed on the pages passed, of which each has one run or none.
use Rattle.std.proofs.Common.{◌+◌, ◌≤◌}
use Rattle.tally.specs.Tally.{Agreeing}
use Rattle.compare.proofs.pages.Given as goal

abbrev pub invariant-loop-i : goal.invariant-loop-i
invariant-loop-i g l = Agreeing l.all.runs l.all × (l.all.runs + 1 ≤ l.i) × (l.i ≤ l.count + 1)
