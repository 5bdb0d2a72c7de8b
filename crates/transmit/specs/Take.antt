-- One take, in the order of document 01's answers. A good packet is handed over and held in a record; its replies wait until it is finished.
use Rattle.std.specs.Prelude.{List, [], ◌∷◌, Bool, true, false, not, cond, ◌||◌, ℕ, ◌+◌, length, take, ltb, eqb, Ok, Err}
use Rattle.words.specs.Word.{splice}
use Rattle.ring.specs.Ring.{page_size, req_prod, posted, asking, notify, wadd, wsub, with_slots, with_producer}
use Rattle.ring.specs.declared.Side.TheVariants.{Replies}
use Rattle.netif.specs.Slot.{Slot, slot_width, slot_count, checksum_blank, data_validated, transmit_slots}
use Rattle.grammar.specs.Packet.{first_of, gso_size_of, gso_type_of}
use Rattle.grammar.specs.Divide.{divide, on_cut}
use Rattle.answer.specs.Report.{Report, halts, asks, plain, spoiled_report, taken_report}
use Rattle.answer.specs.declared.Summary.{Summary}
use Rattle.packet.specs.Judge.{total_of, judge, frame_of, replies_of}
use Rattle.answer.specs.Verdict.{Verdict}
use Rattle.held.specs.declared.Held.{Held}
use Rattle.held.specs.Records.{full, added, waiting, ended, failed}
use Rattle.held.specs.Valid.{between, valid}
use Rattle.held.specs.Release.{settle}
use Rattle.transmit.specs.declared.Queue.{Queue}

-- the queue, halted
abbrev pub halt : Queue → Queue
halt q = record { consumed = q.consumed; replied = q.replied; halted = true }

-- a queue that goes on from two counters
abbrev pub go_on : (consumed replied : ℕ) → Queue
go_on consumed replied = record { consumed = consumed; replied = replied; halted = false }

-- what a take leaves: its report, the queue, the ring page, the frame buffer and the list of records
pub record TakeEffect : Type 0 where
  pub report : Report
  pub queue : Queue
  pub page : List ℕ
  pub frame : List ℕ
  pub list : List Held

-- an answer that takes nothing, with what it leaves
abbrev pub refusal : ℕ → Queue → (page frame : List ℕ) → List Held → TakeEffect
refusal n q page frame l = record {
  report = plain n;
  queue = cond (halts n) (halt q) q;
  page = cond (asks n) (asking page) page;
  frame = frame;
  list = l;
}

-- ---- replies

-- the page after replies to so many slots from counter c on, so many of them extras: ids as the ring has them
unfoldable pub replies_to : List ℕ → (c slots extras status : ℕ) → List ℕ
replies_to page c slots extras status = with_slots slot_width slot_count page c (replies_of extras (transmit_slots page c slots) status)

-- the page after replies to the packets of these records, one behind the other from counter c on: slot counts, extras and status from the
-- record
abbrev pub replies_for : List ℕ → (c : ℕ) → List Held → List ℕ
replies_for page c [] = page
replies_for page c (x ∷ gone) = replies_for (replies_to page c x.slots x.extras x.status) (wadd c x.slots) gone

-- and with rsp_prod at the counter of replies sent, if any left
abbrev pub replied_page : List ℕ → (c : ℕ) (gone : List Held) (replied : ℕ) → List ℕ
replied_page page c [] replied = page
replied_page page c (x ∷ gone) replied = with_producer Replies (replies_for page c (x ∷ gone)) replied

-- ---- a whole packet at the counter

-- a spoiled one takes a record and is finished at once, with error; its replies leave in their turn
unfoldable pub spoiled : Queue → (page frame : List ℕ) → List Held → (e : ℕ) → List Slot → (cause place : ℕ) → TakeEffect
spoiled q page frame l e p cause place =
    let consumed = wadd q.consumed (length p) in
    let s = settle consumed q.replied (added l (ended q.consumed (length p) e failed)) in
    record {
      report = spoiled_report cause place (length p) (notify Replies page q.replied s.replied);
      queue = go_on consumed s.replied;
      page = replied_page page q.replied s.gone s.replied;
      frame = frame;
      list = s.list;
    }

-- what is reported of a good packet
unfoldable pub summary_of : ℕ → List Slot → Summary
summary_of e p = record {
  slots = length p;
  total = total_of p;
  checksum_blank = checksum_blank (first_of p);
  data_validated = data_validated (first_of p);
  gso_size = gso_size_of e p;
  gso_type = gso_type_of e p;
}

module _ (table window : List ℕ) where
  -- a good one is handed over with its ticket, the counter of its first slot; it takes a record, and no reply leaves
  unfoldable pub handed_over : Queue → (page frame : List ℕ) → List Held → (e : ℕ) → List Slot → TakeEffect
  handed_over q page frame l e p = record {
    report = taken_report (summary_of e p) q.consumed;
    queue = go_on (wadd q.consumed (length p)) q.replied;
    page = page;
    frame = splice frame 0 (frame_of table window e p);
    list = added l (waiting q.consumed (length p) e);
  }

  -- 14 if all records are in use: after 8 for a good packet, in place of 7 for a spoiled one
  abbrev pub take_packet : Queue → (page frame : List ℕ) → List Held → (e : ℕ) → List Slot → Verdict → TakeEffect
  take_packet q page frame l e p (Err f) =
      cond (full l) (refusal 14 q page frame l)
      (spoiled q page frame l e p f.cause f.place)
  take_packet q page frame l e p (Ok u) =
      cond (ltb (length frame) (total_of p)) (refusal 8 q page frame l)
      (cond (full l) (refusal 14 q page frame l)
      (handed_over q page frame l e p))

-- ---- what stands at the counter

-- the slots that are posted from counter c on
unfoldable pub waiting_slots : List ℕ → ℕ → List Slot
waiting_slots page c = transmit_slots page c (posted page c)

-- req_prod minus replies sent is above 256, or below the slots held
unfoldable pub overflow : (consumed replied : ℕ) → (page : List ℕ) → Bool
overflow consumed replied page =
    ltb slot_count (wsub (req_prod page) replied)
    || ltb (wsub (req_prod page) replied) (between consumed replied)

-- nothing can be taken, with the answer; or a whole packet with its number of extras and its verdict
pub data Look : Type 0 where
  stop : ℕ → Look
  ready : ℕ → List Slot → Verdict → Look

module _ (table window : List ℕ) where
  -- at the front of the slots posted from counter c on, if some are
  abbrev pub look_front : (c : ℕ) (page : List ℕ) → Look
  look_front c page =
      on_cut (divide (waiting_slots page c))
      (λ d e. ready e (take (d + e) (waiting_slots page c)) (judge table window e (take (d + e) (waiting_slots page c))))
      (stop 6)
      (stop 5)

  -- at the counter, in the order of the answers
  unfoldable pub look : Queue → (page : List ℕ) → List Held → Look
  look q page l =
      cond (not (eqb (length page) page_size)) (stop 1)
      (cond (not (valid q.consumed q.replied l)) (stop 17)
      (cond q.halted (stop 2)
      (cond (overflow q.consumed q.replied page) (stop 3)
      (cond (eqb (posted page q.consumed) 0) (stop 4)
      (look_front q.consumed page)))))

  -- and what the take makes of it
  abbrev pub take_of : Queue → (page frame : List ℕ) → List Held → Look → TakeEffect
  take_of q page frame l (stop n) = refusal n q page frame l
  take_of q page frame l (ready e p v) = take_packet table window q page frame l e p v

  unfoldable pub transmit_take : Queue → (page frame : List ℕ) → List Held → TakeEffect
  transmit_take q page frame l = take_of q page frame l (look q page l)

  -- the same where slots are posted
  unfoldable pub take_front : Queue → (page frame : List ℕ) → List Held → TakeEffect
  take_front q page frame l = take_of q page frame l (look_front q.consumed page)
