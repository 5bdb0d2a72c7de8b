-- `settle_alone` meets its contract: where the slot's part lies, or its cause, is the verdict on the packet.
use mathlib.Core.Path.{sym, ap, ◌∙◌}
use Prim.Native.Nat.{◌+◌, ◌*◌}
use native.Mathlib.Omega.{arith}
use Rattle.netif.specs.Slot.{transmit_slot}
use Rattle.packet.specs.Judge.{own_part, judge}
use Rattle.packet.specs.Stages.{slot_page}
use Rattle.packet.proofs.Judge.{good_parts}
use Rattle.packet.proofs.Plans.{by_bad, by_at}
use Rattle.transmit.specs.Take.{go_on, take_packet}
use Rattle.transmit.specs.Stages.{packet_one}
use Rattle.transmit.proofs.Alone.{alone_ready, offset_is, own_is}
use Rattle.transmit.proofs.Settling.{slot_inside}
use Rattle.alone.proofs.settle_alone.Goals as goal

pub refuse-requires : goal.refuse-requires
refuse-requires c = rw c.outline_of.ensures (alone_ready c.args.ring.now c.args.first c.read-head.result c.read-head.ensures)

pub accept_alone-requires : goal.accept_alone-requires
accept_alone-requires c = let a = c.args in
    let table = a.grants.now in
    let window = a.window.now in
    let page = a.ring.now in
    let p = packet_one page a.first in
    let head = c.read-head in
    let told = by_at (judge table window 0 p) (slot_page table (transmit_slot page a.first)) c.in-Ok.page (sym c.in-Ok.is ∙ c.judge_alone.ensures page a.first head.ensures) in
    let inside = slot_inside table window 0 (transmit_slot page a.first) (own_part 0 p) (good_parts table window 0 p told.0).1 in (
      omega (arith, ap (λ x. 4096 * x + 4096) told.1, inside.0),
      omega (arith, offset_is page a.first head.result head.ensures, own_is page a.first head.result head.ensures, inside.1),
    )

pub returns-in-Err : goal.returns-in-Err
returns-in-Err c l lent = let a = c.args in
    let table = a.grants.now in
    let window = a.window.now in
    let p = packet_one a.ring.now a.first in
    let bad = by_bad (judge table window 0 p) (slot_page table (transmit_slot a.ring.now a.first)) c.in-Err.fault (sym c.in-Err.is ∙ c.judge_alone.ensures a.ring.now a.first c.read-head.ensures) in
    rw (ap (take_packet table window (go_on a.first a.replied) a.ring.now a.frame.now l 0 p) bad)
    ((rw c.outline_of.ensures at c.refuse.ensures) table window a.frame.now l lent)

pub returns-in-Ok : goal.returns-in-Ok
returns-in-Ok c l lent = let a = c.args in
    let table = a.grants.now in
    let window = a.window.now in
    let page = a.ring.now in
    let p = packet_one page a.first in
    let told = by_at (judge table window 0 p) (slot_page table (transmit_slot page a.first)) c.in-Ok.page (sym c.in-Ok.is ∙ c.judge_alone.ensures page a.first c.read-head.ensures) in
    c.accept_alone.ensures table page a.first a.replied l lent c.read-head.ensures told.0 told.1
