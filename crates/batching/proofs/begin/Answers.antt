-- `begin` meets its contract: what was found of the list is what the numbers say of it (`begins_some`).
use Rattle.batching.proofs.Course.{begins_some}
use Rattle.batching.proofs.begin.Goals as goal

pub returns : goal.returns
returns c = begins_some c.args.queue c.args.list.now c.look_over-found.result c.args.most _ c.look_over-found.ensures c.new-2.ensures
