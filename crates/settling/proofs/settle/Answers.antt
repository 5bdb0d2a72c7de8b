-- `settle` meets its contract: by the verdict the packet is spoiled, finds no room, or is handed over with its parts joined in the frame
-- buffer.
use mathlib.Core.Path.{◌≡◌, refl, sym, ap, subst, ◌∙◌}
use mathlib.Core.List.{List}
use mathlib.Core.Bool.{false}
use Prim.Native.Nat.{ℕ, ◌-◌, ◌≤◌}
use native.Mathlib.Omega.{arith}
use lib.ListN.{length, take}
use Rattle.std.specs.Prelude.{Err}
use Rattle.words.specs.Word.{splice}
use Rattle.netif.specs.Slot.{Slot}
use Rattle.grammar.specs.declared.Outline.{Outline}
use Rattle.grammar.specs.declared.Part.{Part}
use Rattle.answer.specs.declared.Fault.{Fault}
use Rattle.answer.specs.Verdict.{good}
use Rattle.packet.specs.Judge.{total_of, judge, frame_of}
use Rattle.packet.specs.Stages.{joined, InWindow, plan, datas_of, packet_at}
use Rattle.packet.proofs.Judge.{frame_length}
use Rattle.packet.proofs.Plans.{total_of_lem, datas_count}
use Rattle.held.specs.declared.Held.{Held}
use Rattle.held.specs.Records.{full}
use Rattle.transmit.specs.declared.Queue.{Queue}
use Rattle.transmit.specs.declared.Answer.TheVariants.{NoRoom, NoRecord}
use Rattle.transmit.specs.Take.{go_on, take_packet}
use Rattle.transmit.specs.Stages.{take_whole}
use Rattle.transmit.proofs.Settling.{plan_inside, plan_joined, gives_refusal, gives_done, packet_no_room, packet_no_record, packet_done}
use Rattle.settling.proofs.settle.Goals as goal
use Rattle.settling.proofs.settle.Goals.{After-judge}

module _ (j : After-judge) where
  abbrev q : Queue
  q = go_on j.args.first j.args.replied

  abbrev table : List ℕ
  table = j.args.grants.now

  abbrev window : List ℕ
  window = j.args.window.now

  abbrev page : List ℕ
  page = j.args.ring.now

  abbrev frame : List ℕ
  frame = j.args.frame.now

  abbrev o : Outline
  o = j.args.o

  abbrev e : ℕ
  e = o.extras

  abbrev p : List Slot
  p = packet_at page q.consumed o

  total : o.head.size ≡ total_of p
  total = total_of_lem o e p j.requires.0.outline

  count : o.slots - e ≡ length (datas_of e p)
  count = sym (datas_count page q.consumed o.slots e j.requires.0.some)

  abbrev parts : List Part
  parts = take (o.slots - e) j.judge.new.parts

  -- it is bad
  spoils : (f : Fault) → j.judge.result ≡ Err f → (l : List Held)
      → take_whole table window q page frame l e p ≡ take_packet table window q page frame l e p (Err f)
  spoils f told l = ap (take_packet table window q page frame l e p) (sym j.judge.ensures.verdict ∙ told)

  -- its plan, if it is good
  module _ (told : j.judge.result ≡ good) where
    fine : judge table window e p ≡ good
    fine = sym j.judge.ensures.verdict ∙ told

    planned : parts ≡ plan table e p
    planned = ap (λ (n : ℕ). take n j.judge.new.parts) count ∙ j.judge.ensures.parts_are told

    is-frame : joined window parts ≡ frame_of table window e p
    is-frame = ap (joined window) planned ∙ plan_joined table window e p

pub returns-then-frame-from : goal.returns-then-frame-from
returns-then-frame-from c l lent = let j = (goal.at.returns-then-frame-from c).After-judge in
    rw (packet_no_room (table j) (window j) (q j) (page j) (frame j) l (e j) (p j) (fine j c.in_default.is) (omega (arith, c.from.ensures, total j, c.if-frame-from.true)))
    (gives_refusal 8 (q j) (page j) (frame j) l NoRoom refl refl refl)

pub returns-then-full : goal.returns-then-full
returns-then-full c l lent = let j = (goal.at.returns-then-full c).After-judge in
    rw (packet_no_record (table j) (window j) (q j) (page j) (frame j) l (e j) (p j) (fine j c.in_default.is) (omega (arith, c.from.ensures, total j, c.if-frame-from.false)) (lent.fullness ∙ c.if-full.true))
    (gives_refusal 14 (q j) (page j) (frame j) l NoRecord refl refl refl)

pub gather-requires : goal.gather-requires
gather-requires c = let j = (goal.at.gather-requires c).After-judge in let told = c.in_default.is in (
  subst (InWindow (window j)) (sym (planned j told)) (plan_inside (table j) (window j) (e j) (p j) (fine j told)),
  omega (arith, ap length (is-frame j told), frame_length (table j) (window j) (e j) (p j) (fine j told), c.from.ensures, total j, c.if-frame-from.false),
)

pub returns-in-Err : goal.returns-in-Err
returns-in-Err c l lent = let j = (goal.at.returns-in-Err c).After-judge in
    rw (spoils j _ c.in-Err.is l)
    (c.refuse.ensures (table j) (window j) (frame j) l lent)

pub returns : goal.returns
returns c l lent = let j = (goal.at.returns c).After-judge in
    let told = c.in_default.is in
    let room : full l ≡ false = lent.fullness ∙ c.if-full.false in
    let written = c.gather.ensures ∙ ap (splice (frame j) 0) (is-frame j told) in
    rw (packet_done (table j) (window j) (q j) (page j) (frame j) l (e j) (p j) (fine j told) (omega (arith, c.from.ensures, total j, c.if-frame-from.false)) room, written)
    (gives_done (table j) (window j) (page j) (frame j) (q j).consumed (q j).replied l (e j) (p j) _ (c.accept.ensures (p j) c.requires.0.outline) (record { sound = lent.sound; fullness = room }))
