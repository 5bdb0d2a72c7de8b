-- `replay::examples::slot_place` meets its contract: the last of 256 slots of 12 bytes ends within the page.
use native.Mathlib.Omega.{arith}
use Rattle.ring.specs.Ring.{slot_place}
use Rattle.replay.proofs.examples.slot_place.Goals as goal

pub returns : goal.returns
unfolding slot_place
returns c = omega (arith, c.place.ensures)
