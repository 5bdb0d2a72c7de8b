-- `generated::run` meets its contract: the library promises that both readers agree on every run.
use Rattle.tally.proofs.Agreeing.{counted_agrees}
use Rattle.compare.proofs.generated.run.Goals as goal

pub returns : goal.returns
returns c = counted_agrees _ _ _ c.compare.ensures c.of.ensures
