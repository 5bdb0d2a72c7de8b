-- `hand_over` meets its contract: where the slot's part lies is the verdict on the packet, and the part is the packet's frame.
use mathlib.Core.Path.{◌≡◌, sym, ap, ◌∙◌}
use Prim.Native.Nat.{◌+◌, ◌*◌, ◌≤◌}
use native.Mathlib.Omega.{arith}
use lib.ListN.{length}
use Rattle.words.specs.Word.{splice}
use Rattle.words.proofs.Word.{no_confusion}
use Rattle.netif.specs.Slot.{transmit_slot}
use Rattle.packet.specs.Judge.{own_part, judge}
use Rattle.packet.specs.Stages.{slot_page}
use Rattle.packet.proofs.Judge.{good_parts}
use Rattle.packet.proofs.Plans.{by_at}
use Rattle.transmit.specs.Stages.{packet_one}
use Rattle.transmit.proofs.Alone.{alone_ready, offset_is, own_is, alone_total, alone_frame}
use Rattle.transmit.proofs.Settling.{slot_inside}
use Rattle.alone.proofs.hand_over.Goals as goal

pub copy_part-requires : goal.copy_part-requires
copy_part-requires c = let a = c.args in
    let table = a.grants.now in
    let window = a.window.now in
    let page = a.ring.now in
    let p = packet_one page a.first in
    let head = c.read-head in
    let told = by_at (judge table window 0 p) (slot_page table (transmit_slot page a.first)) c.in-Ok.page (sym c.in-Ok.is ∙ c.judge_alone.ensures page a.first head.ensures) in
    let inside = slot_inside table window 0 (transmit_slot page a.first) (own_part 0 p) (good_parts table window 0 p told.0).1 in
    rw c.part_of.ensures (
      omega (arith, ap (λ x. 4096 * x + 4096) told.1, inside.0),
      omega (arith, offset_is page a.first head.result head.ensures, own_is page a.first head.result head.ensures, inside.1),
      omega (arith, c.from.ensures, c.if-room-from.false),
    )

pub returns : goal.returns
returns c = let a = c.args in
    let table = a.grants.now in
    let window = a.window.now in
    let page = a.ring.now in
    let p = packet_one page a.first in
    let head = c.read-head in
    let told = by_at (judge table window 0 p) (slot_page table (transmit_slot page a.first)) c.in-Ok.page (sym c.in-Ok.is ∙ c.judge_alone.ensures page a.first head.ensures) in
    let room : head.result.size ≤ length a.frame.now = omega (arith, c.from.ensures, c.if-room-from.false) in (
      record {
        not = λ h. no_confusion cc;
        good = λ h. told.0;
        fits = λ h. omega (arith, alone_total page a.first head.result head.ensures, room);
        copied = λ h. (rw c.part_of.ensures at c.copy_part.ensures) ∙ ap (splice a.frame.now 0) (alone_frame page a.first head.result head.ensures table window c.in-Ok.page told.1);
      },
      λ b h. let same : c.accept.result ≡ b = cc in
          sym same ∙ (rw c.outline_of.ensures at c.accept.ensures) p (alone_ready page a.first head.result head.ensures).outline,
    )
