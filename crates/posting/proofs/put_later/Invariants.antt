-- `put_later` meets its contract: what is left of the loop is what is left of the slots (`later_next`).
use Rattle.std.proofs.Common.{◌≡◌, drop}
use Rattle.ring.specs.Ring.{with_slots}
use Rattle.frontend.specs.Post.{later_for}
use Rattle.frontend.proofs.Stored.{left_later}
use Rattle.posting.proofs.put_later.Given as goal

abbrev pub invariant-loop-i : goal.invariant-loop-i
invariant-loop-i l = with_slots 12 256 l.initial.ring l.first (later_for l.first l.later (drop 4096 l.frame)) ≡ left_later l.later l.frame l.first l.ring l.i
