-- `shape::shaped` meets its contract: the first slot, and then the slots behind it.
use Rattle.std.proofs.Common.{length, ap, ◌∙◌, arith}
use Rattle.division.proofs.Runs.{slot_length}
use Rattle.shape.proofs.Reading.{by_first}
use Rattle.shape.proofs.shaped.Goals as goal

pub leads-requires : goal.leads-requires
leads-requires c = ap length c.slot.ensures ∙ slot_length c.args.run.now c.args.at (omega arith)

pub returns-then-leads : goal.returns-then-leads
returns-then-leads c = let a = c.args in
    rw (by_first a.run.now a.at a.n a.later a.extras c.requires.1, ← c.slot.ensures, ← c.leads.ensures, c.if-leads.true) c.follow.ensures

pub returns-else-leads : goal.returns-else-leads
returns-else-leads c = let a = c.args in
    rw (by_first a.run.now a.at a.n a.later a.extras c.requires.1, ← c.slot.ensures, ← c.leads.ensures, c.if-leads.false)
