-- `judge_slot` meets its contract: the slot's part by its source, case by case (`Plans`).
use mathlib.Core.Path.{ap}
use Rattle.std.specs.Prelude.{Err}
use Rattle.grant.specs.Lookup.{source_cause}
use Rattle.packet.proofs.Plans.{part_bad, part_at}
use Rattle.causes.proofs.judge_slot.Goals as goal

pub returns-in-Err-Unfit : goal.returns-in-Err-Unfit
returns-in-Err-Unfit c = let a = c.args in
    λ s is. part_bad a.grants.now a.window.now a.place a.size a.slot s is _ 3 c.in-Err-Unfit.ensures (ap (λ u. source_cause (Err u)) c.in-Err-Unfit.field-0-is)

pub returns-in-Err-Outside : goal.returns-in-Err-Outside
returns-in-Err-Outside c = let a = c.args in
    λ s is. part_bad a.grants.now a.window.now a.place a.size a.slot s is _ 4 c.in-Err-Outside.ensures (ap (λ u. source_cause (Err u)) c.in-Err-Outside.field-0-is)

pub returns-in-Ok : goal.returns-in-Ok
returns-in-Ok c = let a = c.args in
    λ s is. part_at a.grants.now a.window.now a.place a.size a.slot s is c.in-Ok.page c.in-Ok.ensures
