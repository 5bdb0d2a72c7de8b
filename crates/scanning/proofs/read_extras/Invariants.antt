-- What the scan makes of all slots behind the first, it makes of those that are left, behind the extras read so far, whether or not data is owed;
-- they are within the limit, and the last one's gso fields are kept.
use mathlib.Core.Path.{◌≡◌}
use mathlib.Core.Bool.{Bool, true}
use Prim.Native.Nat.{◌+◌, ◌-◌, ◌≤◌}
use Rattle.netif.specs.Slot.{transmit_slots}
use Rattle.grammar.specs.Grammar.{within}
use Rattle.grammar.specs.Divide.{scan}
use Rattle.grammar.specs.Packet.{gso_size_of, gso_type_of}
use Rattle.grammar.specs.Stages.{behind}
use Rattle.scanning.proofs.read_extras.Given as goal

abbrev pub invariant-loop-count : goal.invariant-loop-count
invariant-loop-count l = record {
  so_far : (more : Bool) → scan (behind l.page l.first l.posted 1) 1 0 l.announced more ≡ scan (behind l.page l.first l.posted l.count) 1 (l.count - 1) true more;
  few : l.count ≤ l.posted;
  counted : l.count ≡ l.read.count + 1;
  limit : within 1 l.read.count ≡ true;
  gso_size : l.read.gso_size ≡ gso_size_of l.read.count (transmit_slots l.page l.first l.posted);
  gso_type : l.read.gso_type ≡ gso_type_of l.read.count (transmit_slots l.page l.first l.posted);
}
