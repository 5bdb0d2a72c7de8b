-- A take leaves the frame buffer's length, and the total that it reports fits it: by the cases of the definition.
use mathlib.Core.Path.{◌≡◌, refl}
use mathlib.Core.List.{List}
use mathlib.Core.Bool.{Bool, true, false, not, cond}
use Prim.Native.Nat.{ℕ, ◌+◌, ◌≤◌}
use native.Mathlib.Omega.{arith}
use lib.ListN.{length, take}
use lib.Dec.{ltb, eqb}
use borrow.Author.Tests.{ltb-false}
use Rattle.std.specs.Prelude.{Ok, Err}
use Rattle.words.proofs.Word.{splice_length}
use Rattle.ring.specs.Ring.{page_size, posted}
use Rattle.netif.specs.Slot.{Slot}
use Rattle.grammar.specs.Divide.{Cut, whole, beginning, misshapen, divide, on_cut}
use Rattle.answer.specs.Verdict.{Verdict, good}
use Rattle.packet.specs.Judge.{total_of, judge, frame_of}
use Rattle.packet.proofs.Judge.{frame_length}
use Rattle.held.specs.declared.Held.{Held}
use Rattle.held.specs.Records.{full}
use Rattle.held.specs.Valid.{valid}
use Rattle.transmit.specs.declared.Queue.{Queue}
use Rattle.transmit.specs.Take.{TakeEffect, refusal, spoiled, summary_of, handed_over, take_packet, waiting_slots, overflow, Look, stop, ready, take_of, look, transmit_take}

pub record FrameFits (frame : List ℕ) (e : TakeEffect) : Type 0 where
  pub size : length e.frame ≡ length frame
  pub total : e.report.total ≤ length frame

module _ (table window : List ℕ) (q : Queue) (page frame : List ℕ) (l : List Held) where
  refused_fits : (n : ℕ) → FrameFits frame (refusal n q page frame l)
  refused_fits n = record { size = refl; total = omega arith }

  spoiled_fits : (e : ℕ) (p : List Slot) (cause place : ℕ) → FrameFits frame (spoiled q page frame l e p cause place)
  unfolding spoiled
  spoiled_fits e p cause place = record { size = refl; total = omega arith }

  handed_fits : (e : ℕ) (p : List Slot) → judge table window e p ≡ good → total_of p ≤ length frame → FrameFits frame (handed_over table window q page frame l e p)
  unfolding handed_over summary_of
  handed_fits e p fine h = record { size = splice_length frame 0 (frame_of table window e p) (omega (arith, frame_length table window e p fine)); total = h }

  either : (b : Bool) (x y : TakeEffect) → (b ≡ true → FrameFits frame x) → (b ≡ false → FrameFits frame y) → FrameFits frame (cond b x y)
  either true x y f g = f refl
  either false x y f g = g refl

  packet_fits : (e : ℕ) (p : List Slot) (v : Verdict) → judge table window e p ≡ v → FrameFits frame (take_packet table window q page frame l e p v)
  packet_fits e p (Err f) is = either (full l) _ _ (λ h. refused_fits 14) (λ h. spoiled_fits e p f.cause f.place)
  packet_fits e p (Ok u) is =
      either (ltb (length frame) (total_of p)) _ _ (λ h. refused_fits 8) (λ h.
      either (full l) _ _ (λ k. refused_fits 14) (λ k. handed_fits e p is (ltb-false (length frame) (total_of p) h)))

  abbrev LookFits : Look → Type 0
  LookFits x = FrameFits frame (take_of table window q page frame l x)

  either_look : (b : Bool) (x y : Look) → LookFits x → LookFits y → LookFits (cond b x y)
  either_look true x y f g = f
  either_look false x y f g = g

  front_fits : (c : Cut) → LookFits (on_cut c (λ d e. ready e (take (d + e) (waiting_slots page q.consumed)) (judge table window e (take (d + e) (waiting_slots page q.consumed)))) (stop 6) (stop 5))
  front_fits (whole d e) = packet_fits e (take (d + e) (waiting_slots page q.consumed)) _ refl
  front_fits beginning = refused_fits 6
  front_fits misshapen = refused_fits 5

  pub take_fits : FrameFits frame (transmit_take table window q page frame l)
  unfolding transmit_take look
  take_fits =
      either_look (not (eqb (length page) page_size)) _ _ (refused_fits 1)
      (either_look (not (valid q.consumed q.replied l)) _ _ (refused_fits 17)
      (either_look q.halted _ _ (refused_fits 2)
      (either_look (overflow q.consumed q.replied page) _ _ (refused_fits 3)
      (either_look (eqb (posted page q.consumed) 0) _ _ (refused_fits 4)
      (front_fits (divide (waiting_slots page q.consumed)))))))
