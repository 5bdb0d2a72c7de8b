-- What the scan makes of all slots behind the extras, it makes of those that are left, behind the later data slots read so far; their
-- sizes are in the table and in the sum, and one more is within the limit.
use mathlib.Core.Path.{◌≡◌}
use mathlib.Core.Bool.{true, false}
use Prim.Native.Nat.{◌+◌, ◌*◌, ◌≤◌}
use Rattle.netif.specs.Slot.{transmit_slots}
use Rattle.grammar.specs.Grammar.{within}
use Rattle.grammar.specs.Divide.{scan}
use Rattle.grammar.specs.Packet.{sizes as sizes_of}
use Rattle.grammar.specs.Stages.{sizes_in, behind, SizesRead}
use Rattle.scanning.proofs.read_later.Given as goal

abbrev pub invariant-loop-count : goal.invariant-loop-count
invariant-loop-count l = record {
  so_far : scan (behind l.page l.first l.posted (l.extras + 1)) 1 l.extras false l.announced ≡ scan (behind l.page l.first l.posted (l.count + l.extras)) l.count l.extras false true;
  counted : l.count ≡ l.read.count + 1;
  limit : within l.count l.extras ≡ true;
  read : SizesRead l.page l.first l.posted l.extras (sizes_in l.initial.parts) (sizes_in l.parts) l.read.count;
  sum : l.read.sum ≡ sizes_of (transmit_slots l.page (l.first + (l.extras + 1)) l.read.count);
  small : l.read.sum ≤ 65535 * l.read.count;
}
