-- `refuse` meets its contract: the packet takes a record and leaves, or waits in its turn (`gives_spoiled`).
use mathlib.Core.Path.{sym, ◌∙◌}
use mathlib.Core.Bool.{false}
use native.Mathlib.Omega.{arith}
use Rattle.ring.proofs.Ring.{slots_length}
use Rattle.packet.specs.Stages.{packet_at}
use Rattle.transmit.specs.Take.{go_on}
use Rattle.transmit.specs.Stages.{Lent}
use Rattle.transmit.proofs.Settling.{gives_spoiled, packet_spoiled}
use Rattle.settling.proofs.refuse.Goals as goal

pub returns : goal.returns
returns c table window frame l lent = let a = c.args in
    let p = packet_at a.ring.now a.first a.o in
    let free : Lent a.first a.replied false l = record { sound = lent.sound; fullness = lent.fullness ∙ c.if-full.false } in
    rw (packet_spoiled table window (go_on a.first a.replied) a.ring.now frame l a.o.extras p a.fault free.fullness)
    (gives_spoiled a.ring.now frame a.first a.replied l a.o.slots a.o.extras p a.fault.cause a.fault.place _ _
    c.ranges.first.fits c.ranges.replied.fits (sym (slots_length 12 256 a.ring.now a.o.slots a.first)) (omega (arith, c.requires.some)) (omega (arith, c.requires.few)) free
    c.reply_now-notify.ensures)
