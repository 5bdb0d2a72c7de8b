-- `reply_errors` meets its contract. The invariant: after i turns the page has the first i replies.
use mathlib.Core.Path.{◌≡◌}
use lib.ListN.{take}
use Rattle.ring.specs.Ring.{with_slots}
use Rattle.netif.specs.Slot.{receive_slots}
use Rattle.receive.specs.Put.{error_replies}
use Rattle.pieces.proofs.reply_errors.Given as goal

abbrev pub invariant-loop-i : goal.invariant-loop-i
invariant-loop-i l = l.ring ≡ with_slots 8 256 l.initial.ring l.first (take l.i (error_replies (receive_slots l.initial.ring l.first l.count)))
