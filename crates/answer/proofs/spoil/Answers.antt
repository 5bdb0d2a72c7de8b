-- `spoil` meets its contract: the counter is moved, and the answer and the queue say so (`gives_consumed`).
use mathlib.Core.Path.{refl}
use Rattle.answer.specs.Report.{spoiled_report}
use Rattle.answer.proofs.Ends.{gives_consumed}
use Rattle.answer.proofs.spoil.Goals as goal

pub returns : goal.returns
returns c = let a = c.args in
    let m = c.consume-notify in
    gives_consumed (spoiled_report a.fault.cause a.fault.place a.slots) a.old a.slots a.ring.now _ m.result.1 _ m.result.0 _ c.keep.ensures refl m.ensures.0 m.ensures.1
