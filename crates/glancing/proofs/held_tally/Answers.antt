-- What the inspection shows is what a take is to know (`glanced_shown`).
use Rattle.glancing.proofs.Unheld.{glanced_shown}
use Rattle.glancing.proofs.held_tally.Goals as goal

pub returns : goal.returns
returns c = let a = c.args in glanced_shown a.consumed a.replied a.list.now c.inspect.result c.inspect.new.index c.inspect.ensures
