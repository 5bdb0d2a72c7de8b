-- The list and the page are as they are when the packets of so many slots have left.
use Rattle.std.proofs.Common.{◌-◌}
use Rattle.leaving.proofs.Going.{Goes}
use Rattle.leaving.proofs.leave.Given as goal

abbrev pub invariant-loop-offset : goal.invariant-loop-offset
invariant-loop-offset l = Goes l.between l.replied l.initial.list l.index l.initial.ring l.offset l.list l.ring

abbrev pub decreases-loop-offset : goal.decreases-loop-offset
decreases-loop-offset l = l.between - l.offset
