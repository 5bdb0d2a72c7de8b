-- A take that comes to a packet of one slot, which is good and fits the frame buffer, hands it over.
use mathlib.Core.Path.{◌≡◌, refl, ◌∙◌}
use mathlib.Core.List.{List}
use mathlib.Core.Bool.{Bool, true, false}
use mathlib.Core.Logic.{◌≢◌}
use Prim.Native.Nat.{ℕ, zero, suc, ◌≤◌}
use native.Mathlib.Omega.{arith}
use Rattle.ring.specs.Ring.{posted}
use Rattle.netif.specs.Slot.{transmit_slots}
use Rattle.held.specs.declared.Held.{Held}
use Rattle.held.specs.Records.{full}
use Rattle.transmit.specs.declared.Queue.{Queue}
use Rattle.transmit.specs.declared.Answer.{Answer}
use Rattle.transmit.specs.declared.Answer.TheVariants.{Done}
use Rattle.transmit.specs.Take.{go_on, summary_of, transmit_take}
use Rattle.transmit.specs.Stages.{Lent, Found, Gives, packet_one, ComesToOne, HandedOne}
use Rattle.transmit.proofs.Cases.{take_some, waiting_slots_lem, front_packet}
use Rattle.transmit.proofs.Alone.{alone_front}
use Rattle.transmit.proofs.Settling.{gives_front, gives_done, packet_done}

module _ (table window : List ℕ) (q : Queue) (isSound isFull : Bool) (page : List ℕ) (one : ComesToOne q isSound isFull page) (frame written : List ℕ) (h : HandedOne table window page q.consumed frame true written) where
  pub quick_gives : (l : List Held) → Found q isSound isFull l → (a : Answer) → a ≡ Done (summary_of 0 (packet_one page q.consumed)) 0
      → Gives (transmit_take table window q page frame l) q l a page written
  quick_gives l found a is =
      let c = q.consumed in
      let room : full l ≡ false = found.fullness one.sound ∙ one.room in
      let lent : Lent c q.replied false l = record { sound = found.soundness ∙ one.sound; fullness = room } in
      let whole = alone_front page c (posted page c) (some_posted (posted page c) one.some) one.single in
      rw (take_some table window q page l one.size lent.sound one.runs one.fits frame one.some)
      (gives_front table window q page frame l a page written one.runs
      (rw (
        front_packet table window (go_on c q.replied) page frame l (transmit_slots page c (posted page c)) (waiting_slots_lem page c (posted page c) refl) 1 0 whole.0,
        whole.1,
        packet_done table window (go_on c q.replied) page frame l 0 (packet_one page c) (h.good refl) (h.fits refl) room,
        h.copied refl,
      )
      (gives_done table window page frame c q.replied l 0 (packet_one page c) a is lent)))
    where
      some_posted : (n : ℕ) → n ≢ 0 → 1 ≤ n
      some_posted zero k = absurd (k refl)
      some_posted (suc n) k = omega arith
