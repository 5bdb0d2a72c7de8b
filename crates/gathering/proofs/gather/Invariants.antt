-- `gather` meets its contract: the parts before this one stand joined at the front of the frame buffer, and end at the position.
use mathlib.Core.Path.{◌≡◌}
use lib.ListN.{length, take}
use Rattle.words.specs.Word.{splice}
use Rattle.packet.specs.Stages.{joined}
use Rattle.gathering.proofs.gather.Given as goal

abbrev pub invariant-loop-part : goal.invariant-loop-part
invariant-loop-part l =
    (l.at ≡ length (joined l.window (take l.part-index l.parts))) × (l.frame ≡ splice l.initial.frame 0 (joined l.window (take l.part-index l.parts)))
