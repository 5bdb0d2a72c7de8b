-- `accept_alone` meets its contract: the slot's part is the packet's frame.
use mathlib.Core.Path.{◌≡◌, refl, ap, ◌∙◌}
use mathlib.Core.Bool.{false}
use native.Mathlib.Omega.{arith}
use Rattle.words.specs.Word.{splice}
use Rattle.held.specs.Records.{full}
use Rattle.transmit.specs.declared.Answer.TheVariants.{NoRoom, NoRecord}
use Rattle.transmit.specs.Take.{go_on}
use Rattle.transmit.specs.Stages.{packet_one}
use Rattle.transmit.proofs.Alone.{alone_ready, alone_total, alone_frame}
use Rattle.transmit.proofs.Settling.{gives_refusal, gives_done, packet_no_room, packet_no_record, packet_done}
use Rattle.alone.proofs.accept_alone.Goals as goal

pub returns-then-frame-from : goal.returns-then-frame-from
returns-then-frame-from c table page first replied l lent head fine at = let a = c.args in
    rw (packet_no_room table a.window.now (go_on first replied) page a.frame.now l 0 (packet_one page first) fine (omega (arith, c.from.ensures, alone_total page first a.head head, c.if-frame-from.true)))
    (gives_refusal 8 (go_on first replied) page a.frame.now l NoRoom refl refl refl)

pub returns-then-full : goal.returns-then-full
returns-then-full c table page first replied l lent head fine at = let a = c.args in
    rw (packet_no_record table a.window.now (go_on first replied) page a.frame.now l 0 (packet_one page first) fine (omega (arith, c.from.ensures, alone_total page first a.head head, c.if-frame-from.false)) (lent.fullness ∙ c.if-full.true))
    (gives_refusal 14 (go_on first replied) page a.frame.now l NoRecord refl refl refl)

pub returns : goal.returns
returns c table page first replied l lent head fine at = let a = c.args in
    let p = packet_one page first in
    let room : full l ≡ false = lent.fullness ∙ c.if-full.false in
    let written = (rw c.part_of.ensures at c.copy_part.ensures) ∙ ap (splice a.frame.now 0) (alone_frame page first a.head head table a.window.now a.page at) in
    rw (packet_done table a.window.now (go_on first replied) page a.frame.now l 0 p fine (omega (arith, c.from.ensures, alone_total page first a.head head, c.if-frame-from.false)) room, written)
    (gives_done table a.window.now page a.frame.now first replied l 0 p _ ((rw c.outline_of.ensures at c.accept.ensures) p (alone_ready page first a.head head).outline) (record { sound = lent.sound; fullness = room }))
