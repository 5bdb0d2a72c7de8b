-- `stored::compare_run` meets its contract: the library promises that both readers agree on every run.
use Rattle.tally.proofs.Agreeing.{counted_agrees}
use Rattle.compare.proofs.stored.compare_run.Goals as goal

pub returns : goal.returns
returns g c = counted_agrees _ _ _ c.compare-compared.ensures c.of.ensures
