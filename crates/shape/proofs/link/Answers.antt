-- `shape::link` meets its contract: the slot has its width, and is of its kind or not.
use Rattle.std.proofs.Common.{length, ap, ◌∙◌}
use Rattle.division.proofs.Runs.{slot_length}
use Rattle.shape.proofs.Reading.{link_here}
use Rattle.shape.proofs.link.Goals as goal

pub announces-requires : goal.announces-requires
announces-requires g c = ap length c.slot.ensures ∙ slot_length c.args.run.now c.args.i c.requires.0

pub returns : goal.returns
returns g c = rw (← c.slot.ensures) (link_here g.K.Behind.right g.K.Behind.announces c.args.n c.args.j _ _ _ c.announces.ensures c.eq.ensures)
