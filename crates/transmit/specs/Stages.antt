-- What the functions of a take promise each other.
use Rattle.std.specs.Prelude.{◌≡◌, ◌≢◌, List, map, Bool, true, false, cond, ℕ, ◌≤◌, length, eqb}
use Rattle.words.specs.Word.{splice}
use Rattle.ring.specs.Ring.{page_size, posted, wadd, notify, with_slots, with_producer}
use Rattle.ring.specs.declared.Side.TheVariants.{Replies}
use Rattle.netif.specs.Slot.{Slot, slot_width, slot_count, transmit_slot, transmit_slots}
use Rattle.netif.specs.declared.DataSlot.{DataSlot}
use Rattle.grammar.specs.declared.Outline.{Outline}
use Rattle.grammar.specs.Divide.{alone}
use Rattle.answer.specs.Report.{Report, plain, spoiled_report, taken_report}
use Rattle.answer.specs.Verdict.{good}
use Rattle.packet.specs.Judge.{total_of, judge, frame_of}
use Rattle.held.specs.declared.Held.{Held}
use Rattle.held.specs.Records.{free, full, added, waiting, ended, failed}
use Rattle.held.specs.Valid.{valid}
use Rattle.transmit.specs.declared.Queue.{Queue}
use Rattle.transmit.specs.declared.Answer.{Answer}
use Rattle.transmit.specs.declared.Answer.TheVariants.{Done, BadPage, HaltedAlready, Overflow, Empty, Misshapen, Waiting, Spoiled, NoRoom, NoRecord, BadRecords}
use Rattle.transmit.specs.Take.{halt, TakeEffect, overflow, replies_to, take_packet}

-- ---- an answer, and what follows from it

-- the number and the words of each answer, the queue's counter being the ticket
abbrev pub report_of : (ticket : ℕ) → Answer → Report
report_of ticket (Done s extras) = taken_report s ticket
report_of ticket BadPage = plain 1
report_of ticket HaltedAlready = plain 2
report_of ticket Overflow = plain 3
report_of ticket Empty = plain 4
report_of ticket Misshapen = plain 5
report_of ticket Waiting = plain 6
report_of ticket (Spoiled cause place slots extras notified) = spoiled_report cause place slots notified
report_of ticket NoRoom = plain 8
report_of ticket NoRecord = plain 14
report_of ticket BadRecords = plain 17

-- no packet is held where the two counters are the same
abbrev pub none_held : Queue → Bool
none_held q = eqb q.consumed q.replied

-- a packet is taken, and takes a record
abbrev pub takes : Answer → Bool
takes (Done s extras) = true
takes (Spoiled cause place slots extras notified) = true
takes BadPage = false
takes HaltedAlready = false
takes Overflow = false
takes Empty = false
takes Misshapen = false
takes Waiting = false
takes NoRoom = false
takes NoRecord = false
takes BadRecords = false

-- the queue that an answer leaves; a spoiled packet is replied to at once if none is held before it
abbrev pub queue_after : Queue → Answer → Queue
queue_after q (Done s extras) = record { consumed = wadd q.consumed s.slots; replied = q.replied; halted = q.halted }
queue_after q (Spoiled cause place slots extras notified) = record {
  consumed = wadd q.consumed slots;
  replied = cond (none_held q) (wadd q.consumed slots) q.replied;
  halted = q.halted;
}
queue_after q Overflow = halt q
queue_after q Misshapen = halt q
queue_after q BadPage = q
queue_after q HaltedAlready = q
queue_after q Empty = q
queue_after q Waiting = q
queue_after q NoRoom = q
queue_after q NoRecord = q
queue_after q BadRecords = q

-- the record that a packet takes, in the first free one's place; zeroed if the packet left at once
abbrev pub record_of : Queue → Answer → Held
record_of q (Done s extras) = waiting q.consumed s.slots extras
record_of q (Spoiled cause place slots extras notified) = cond (none_held q) free (ended q.consumed slots extras failed)
record_of q Overflow = free
record_of q Misshapen = free
record_of q BadPage = free
record_of q HaltedAlready = free
record_of q Empty = free
record_of q Waiting = free
record_of q NoRoom = free
record_of q NoRecord = free
record_of q BadRecords = free

abbrev pub list_after : Queue → List Held → Answer → List Held
list_after q l r = cond (takes r) (added l (record_of q r)) l

-- ---- the list, as far as a take is told of it

-- the list is valid, and whether all its records are in use
pub record Lent (consumed replied : ℕ) (isFull : Bool) (l : List Held) : Type 0 where
  pub sound : valid consumed replied l ≡ true
  pub fullness : full l ≡ isFull

-- whether the list is valid; and if it is, whether all its records are in use
pub record Found (q : Queue) (isSound isFull : Bool) (l : List Held) : Type 0 where
  pub soundness : valid q.consumed q.replied l ≡ isSound
  pub fullness : isSound ≡ true → full l ≡ isFull

-- ---- what a take leaves

-- a take on the queue q and the list l answered r and left the page and the frame buffer so: the effect e
pub record Gives (e : TakeEffect) (q : Queue) (l : List Held) (r : Answer) (ring written : List ℕ) : Type 0 where
  pub report : report_of q.consumed r ≡ e.report
  pub queue : queue_after q r ≡ e.queue
  pub page : ring ≡ e.page
  pub frame : written ≡ e.frame
  pub list : list_after q l r ≡ e.list
  pub room : takes r ≡ true → Lent q.consumed q.replied false l

-- ---- a packet

-- what the take makes of the whole packet p with e extras, by its verdict
abbrev pub take_whole : (table window : List ℕ) → Queue → (page frame : List ℕ) → List Held → (e : ℕ) (p : List Slot) → TakeEffect
take_whole table window q page frame l e p = take_packet table window q page frame l e p (judge table window e p)

-- a spoiled packet at counter first was replied to, if no packet is held before it; else its replies wait
pub record RepliedNow (page : List ℕ) (first replied slots extras : ℕ) (after : List ℕ) (notified : Bool) : Type 0 where
  pub pages : after ≡ cond (eqb first replied) (with_producer Replies (replies_to page first slots extras failed) (wadd first slots)) page
  pub notifies : notified ≡ cond (eqb first replied) (notify Replies page first (wadd first slots)) false

-- the page where the k slots from slot n on got the replies that f gives them
unfoldable pub replied_by : (Slot → List ℕ) → List ℕ → (n k : ℕ) → List ℕ
replied_by f page n k = with_slots slot_width slot_count page n (map f (transmit_slots page n k))

-- the slot at counter c as a packet of one, and its outline
abbrev pub packet_one : List ℕ → ℕ → List Slot
packet_one page c = transmit_slots page c 1

abbrev pub alone_outline : DataSlot → Outline
alone_outline d = record { head = d; slots = 1; extras = 0; later_bytes = 0; gso_size = 0; gso_type = 0 }

-- a take comes to a packet of one slot, and a record is free for it; told of the list whether it is valid and whether it is full
pub record ComesToOne (q : Queue) (isSound isFull : Bool) (page : List ℕ) : Type 0 where
  pub size : length page ≡ page_size
  pub sound : isSound ≡ true
  pub room : isFull ≡ false
  pub runs : q.halted ≡ false
  pub fits : overflow q.consumed q.replied page ≡ false
  pub some : posted page q.consumed ≢ 0
  pub single : alone (transmit_slot page q.consumed) ≡ true

-- the slot at counter c as a packet of one was handed over, if it is good and the frame buffer has room; else the frame buffer is as it was
pub record HandedOne (table window page : List ℕ) (c : ℕ) (frame : List ℕ) (handed : Bool) (written : List ℕ) : Type 0 where
  pub not : handed ≡ false → written ≡ frame
  pub good : handed ≡ true → judge table window 0 (packet_one page c) ≡ good
  pub fits : handed ≡ true → total_of (packet_one page c) ≤ length frame
  pub copied : handed ≡ true → written ≡ splice frame 0 (frame_of table window 0 (packet_one page c))
