-- `judge` meets its contract. The invariant: the verdict on all requests is that on those left, and the table starts with the pages
-- of those passed.
use mathlib.Core.Path.{◌≡◌}
use Prim.Native.Nat.{◌+◌, ◌-◌}
use lib.ListN.{length, take}
use Rattle.receive.specs.Put.{pages_named, judge}
use Rattle.netif.specs.Slot.{receive_slots}
use Rattle.delivering.proofs.judge.Given as goal

abbrev pub invariant-loop-i : goal.invariant-loop-i
invariant-loop-i l = (judge l.grants l.window 0 (receive_slots l.ring l.first (length l.initial.pages)) ≡ judge l.grants l.window l.i (receive_slots l.ring (l.first + l.i) (length l.initial.pages - l.i)))
    × (take l.i l.pages ≡ pages_named l.grants (receive_slots l.ring l.first l.i))
