-- `runs::take` meets its contract. The invariant: the slots passed stand in the run.
use Rattle.runs.specs.Stored.{Taken}
use Rattle.runs.proofs.take.Given as goal

abbrev pub invariant-loop-k : goal.invariant-loop-k
invariant-loop-k l = Taken l.page l.from l.k l.run
