-- A take depends on nothing of the window but what the grants fit for transmit cover: on two windows that are the same there it
-- gives the same report, queue, page, frame buffer and records. Up to the packet at the counter no answer asks for the window; the packet is
-- judged alike in both, and a good one's frame is the same.
use mathlib.Core.Path.{◌≡◌, refl}
use mathlib.Core.List.{List}
use mathlib.Core.Bool.{Bool, true, false, not, cond}
use Prim.Native.Nat.{ℕ, ◌+◌}
use lib.ListN.{length, take}
use lib.Dec.{eqb}
use Rattle.std.specs.Prelude.{Ok, Err}
use Rattle.ring.specs.Ring.{page_size, posted}
use Rattle.grant.specs.Lookup.{CoveredAlike}
use Rattle.netif.specs.Slot.{Slot}
use Rattle.grammar.specs.Divide.{Cut, whole, beginning, misshapen, divide, on_cut}
use Rattle.held.specs.declared.Held.{Held}
use Rattle.held.specs.Valid.{valid}
use Rattle.answer.specs.Verdict.{Verdict}
use Rattle.packet.specs.Judge.{judge}
use Rattle.packet.proofs.Covered.{judge_alike, frame_alike}
use Rattle.transmit.specs.declared.Queue.{Queue}
use Rattle.transmit.specs.Take.{overflow, Look, stop, ready, waiting_slots, handed_over, take_packet, take_of, look, transmit_take}

module _ (table window other : List ℕ) (alike : CoveredAlike table window other) (q : Queue) (page frame : List ℕ) (l : List Held) where
  packet_alike : (e : ℕ) (p : List Slot) → take_packet table window q page frame l e p (judge table window e p) ≡ take_packet table other q page frame l e p (judge table other e p)
  unfolding handed_over
  packet_alike e p = rw (← judge_alike table window other alike e p) (go (judge table window e p) refl)
    where
      go : (v : Verdict) → judge table window e p ≡ v → take_packet table window q page frame l e p v ≡ take_packet table other q page frame l e p v
      go (Err f) h = refl
      go (Ok u) h = rw (frame_alike table window other alike e p h)

  -- what stands at the counter, by the tests of a call and the cut of the slots posted
  abbrev found : (w : List ℕ) (bad unsound halted over none : Bool) → Cut → Look
  found w bad unsound halted over none cut =
      cond bad (stop 1)
      (cond unsound (stop 17)
      (cond halted (stop 2)
      (cond over (stop 3)
      (cond none (stop 4)
      (on_cut cut
      (λ d e. ready e (take (d + e) (waiting_slots page q.consumed)) (judge table w e (take (d + e) (waiting_slots page q.consumed))))
      (stop 6)
      (stop 5))))))

  found_alike : (bad unsound halted over none : Bool) (cut : Cut) → take_of table window q page frame l (found window bad unsound halted over none cut) ≡ take_of table other q page frame l (found other bad unsound halted over none cut)
  found_alike true unsound halted over none cut = refl
  found_alike false true halted over none cut = refl
  found_alike false false true over none cut = refl
  found_alike false false false true none cut = refl
  found_alike false false false false true cut = refl
  found_alike false false false false false (whole d e) = packet_alike e (take (d + e) (waiting_slots page q.consumed))
  found_alike false false false false false beginning = refl
  found_alike false false false false false misshapen = refl

  pub take_covered : transmit_take table window q page frame l ≡ transmit_take table other q page frame l
  unfolding transmit_take look
  take_covered =
      found_alike (not (eqb (length page) page_size)) (not (valid q.consumed q.replied l)) q.halted (overflow q.consumed q.replied page) (eqb (posted page q.consumed) 0)
      (divide (waiting_slots page q.consumed))
