-- `fast_reader::cut` meets its contract. The invariant: the packets cut off so far and the slots that are left are the run, as the laws of
-- `Cutting` have it. The measure is the number of slots left, which each packet lessens.
use mathlib.Core.Path.{◌≡◌}
use Prim.Native.Nat.{◌-◌, ◌≤◌}
use lib.ListN.{length}
use Rattle.netif.specs.Slot.{slot_count, transmit_slots}
use Rattle.division.proofs.Cutting.{Cutting}
use Rattle.fast_reader.proofs.cut.Given as goal

abbrev pub invariant-loop-at : goal.invariant-loop-at
invariant-loop-at l = Cutting (transmit_slots l.page 0 l.slots) l.initial.cuts l.cuts l.count (transmit_slots l.page l.at (l.slots - l.at))
    × (l.at ≤ l.slots)
    × (l.count ≤ l.at)
    × (length l.cuts ≡ slot_count)

abbrev pub decreases-loop-at : goal.decreases-loop-at
decreases-loop-at l = l.slots - l.at
