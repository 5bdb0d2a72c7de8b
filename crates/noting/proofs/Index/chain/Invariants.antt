-- What the walk tells from the oldest slot on, it tells from here on.
use Rattle.std.proofs.Common.{◌-◌}
use Rattle.noting.proofs.Chaining.{Met}
use Rattle.noting.proofs.Index.chain.Given as goal

abbrev pub invariant-loop-offset : goal.invariant-loop-offset
invariant-loop-offset l = Met l.self l.between l.offset

abbrev pub decreases-loop-offset : goal.decreases-loop-offset
decreases-loop-offset l = l.between - l.offset
