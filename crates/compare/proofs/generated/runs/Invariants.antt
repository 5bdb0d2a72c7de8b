-- `generated::runs` meets its contract. The invariant: both readers agreed on the runs passed, which are k.
use Rattle.tally.specs.Tally.{Agreeing}
use Rattle.compare.proofs.generated.runs.Given as goal

abbrev pub invariant-loop-k : goal.invariant-loop-k
invariant-loop-k l = Agreeing l.k l.all
