-- `replying::reply` meets its contract: before turn i the slots of the run up to i are replied to, and the others stand as they stood.
use mathlib.Core.Path.{◌≡◌}
use Prim.Native.Nat.{◌+◌, ◌-◌}
use Rattle.packet.specs.Judge.{data_reply, extra_reply}
use Rattle.transmit.specs.Stages.{replied_by}
use Rattle.replying.proofs.reply.Given as goal

abbrev pub invariant-loop-i : goal.invariant-loop-i
invariant-loop-i l = l.ring ≡ replied_by extra_reply l.initial.ring (l.first + 1) (l.i - 1)

abbrev pub invariant-loop-i-2 : goal.invariant-loop-i-2
invariant-loop-i-2 l = l.ring ≡ replied_by (data_reply l.status) l.initial.ring (l.first + (1 + l.extras)) (l.i - (1 + l.extras))
