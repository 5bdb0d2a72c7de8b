-- Demand 3: what holds of every sequence of publications, takes and finishes on a fresh queue. A take and a finish are what the exported calls are
-- lent, return and leave: each is lent the words, the page and the list of records that the last one left.
use Rattle.std.specs.Prelude.{◌≡◌, true, false, List, [], ◌++◌, ℕ, ◌+◌, ◌≤◌, ◌<◌, length}
use Rattle.words.specs.Word.{Bytes}
use Rattle.ring.specs.Ring.{wrap, wadd, wsub, page_size, req_prod, rsp_prod, posted}
use Rattle.netif.specs.Slot.{Slot, slot_count, transmit_slot, transmit_slots}
use Rattle.grammar.specs.Grammar.{Packet, AtFront}
use Rattle.grammar.specs.Service.{◌▹◌, Serves}
use Rattle.answer.specs.Verdict.{good, bad}
use Rattle.packet.specs.Judge.{judge}
use Rattle.held.specs.declared.Held.{Held}
use Rattle.held.specs.Records.{full, all_free}
use Rattle.held.specs.Valid.{most_records}
use Rattle.transmit.specs.declared.Queue.{Queue}
use Rattle.transmit.specs.Take.{go_on, TakeEffect, refusal, spoiled, handed_over, waiting_slots, transmit_take}
use Rattle.transmit.specs.Finish.{transmit_finish}
use Rattle.transmit.specs.Words.{queue_of, TakeLeft, TakeLeaves, FinishLeft, FinishLeaves}

-- what a host keeps of a queue, its three words, the ring page and the list of records; and the run published so far
pub record State : Type 0 where
  pub consumed : ℕ
  pub replied : ℕ
  pub mark : ℕ
  pub page : List ℕ
  pub list : List Held
  pub run : List Slot

abbrev pub queue_at : State → Queue
queue_at s = queue_of s.consumed s.replied s.mark

-- a fresh queue at counter c: both counters equal, all records free, and at most 256 of them
pub record Fresh (c : ℕ) (page : List ℕ) (l : List Held) : Type 0 where
  pub counter : c < wrap
  pub size : length page ≡ page_size
  pub bytes : Bytes page
  pub requests : req_prod page ≡ c
  pub replies : rsp_prod page ≡ c
  pub records : length l ≤ most_records
  pub unused : all_free l ≡ true

-- ---- a publication

-- of k slots (document 01: an instalment): the page after it is any whose req_prod is k higher and in which the slots that stand
-- published and not consumed are as they were; at most 256 slots are then published and not replied to
pub record Published (s : State) (page : List ℕ) (k : ℕ) : Type 0 where
  pub size : length page ≡ page_size
  pub bytes : Bytes page
  pub raised : req_prod page ≡ wadd (req_prod s.page) k
  pub few : wsub (req_prod s.page) s.replied + k ≤ slot_count
  pub kept : (i : ℕ) → i < posted s.page s.consumed → transmit_slot page (s.consumed + i) ≡ transmit_slot s.page (s.consumed + i)

-- the state after it: the run grows by the k slots as they then stand
unfoldable pub after_publication : State → List ℕ → ℕ → State
after_publication s page k = record {
  consumed = s.consumed;
  replied = s.replied;
  mark = s.mark;
  page = page;
  list = s.list;
  run = s.run ++ transmit_slots page (req_prod s.page) k;
}

-- ---- a take

-- what it was lent, and what it returned and left
pub record Take : Type 0 where
  pub consumed : ℕ
  pub replied : ℕ
  pub mark : ℕ
  pub page : List ℕ
  pub frame : List ℕ
  pub list : List Held
  pub left : TakeLeft

abbrev pub take_lent : State → List ℕ → TakeLeft → Take
take_lent s frame o = record { consumed = s.consumed; replied = s.replied; mark = s.mark; page = s.page; frame = frame; list = s.list; left = o }

abbrev pub answer_of : Take → ℕ
answer_of a = a.left.returned

-- the state after it: what it left is lent to the next
abbrev pub after_take : State → TakeLeft → State
after_take s o = record { consumed = o.consumed; replied = o.replied; mark = o.mark; page = o.page; list = o.list; run = s.run }

-- the queue that it was lent, and that it left the effect e
abbrev pub lent_queue : Take → Queue
lent_queue a = queue_of a.consumed a.replied a.mark

abbrev pub LeftAs : Take → TakeEffect → Type 0
LeftAs a e = TakeLeaves e a.mark a.left

-- it was answered n, and left what that leaves
unfoldable pub Told : ℕ → Take → Type 0
Told n a = LeftAs a (refusal n (lent_queue a) a.page a.frame a.list)

-- a record is free if a whole packet stands ready
unfoldable pub Room : State → Type 0
Room s = (d e : ℕ) → AtFront (waiting_slots s.page s.consumed) d e → full s.list ≡ false

-- ---- a finish

-- lent what the state has, it left o
abbrev pub FinishAt : State → (ticket status : ℕ) → FinishLeft → Type 0
FinishAt s ticket status o = FinishLeaves (transmit_finish s.consumed s.replied s.page s.list ticket status) o

-- the state after it: it was not lent the mark, and left the counter of slots consumed
abbrev pub after_finish : State → FinishLeft → State
after_finish s o = record { consumed = s.consumed; replied = o.replied; mark = s.mark; page = o.page; list = o.list; run = s.run }

-- ---- the sequences

module _ (table window : List ℕ) where
  -- lent what the state has, a take left o
  abbrev pub TakeAt : State → (frame : List ℕ) → TakeLeft → Type 0
  TakeAt s frame o = TakeLeaves (transmit_take table window (queue_at s) s.page frame s.list) s.mark o

  -- a take that may come next: it has a frame buffer with room for every frame, and a free record if a whole packet stands ready
  pub record Next (s : State) (a : Take) : Type 0 where
    pub frame : List ℕ
    pub left : TakeLeft
    pub big : 65535 ≤ length frame
    pub room : Room s
    pub leaves : TakeAt s frame left
    pub is : a ≡ take_lent s frame left

  -- the sequences from a fresh queue at counter c, with the state that each leads to and its takes in order; finishes, refused ones too,
  -- stand anywhere
  pub data Sequence (c : ℕ) : State → List Take → Type 0 where
    fresh : {page : List ℕ} {l : List Held} → Fresh c page l → Sequence c (record { consumed = c; replied = c; mark = 0; page = page; list = l; run = [] }) []
    publish : {s : State} {takes : List Take} → Sequence c s takes → (page : List ℕ) (k : ℕ) → Published s page k → Sequence c (after_publication s page k) takes
    takes : {s : State} {takes : List Take} → Sequence c s takes → (frame : List ℕ) (o : TakeLeft) → 65535 ≤ length frame → Room s → TakeAt s frame o
        → Sequence c (after_take s o) (takes ▹ take_lent s frame o)
    finishes : {s : State} {takes : List Take} → Sequence c s takes → (ticket status : ℕ) (o : FinishLeft) → FinishAt s ticket status o → Sequence c (after_finish s o) takes

  -- a take at counter c took the packet p: handed it over, exactly if no cause for 7 holds of it, or answered 7, with all that is fixed for p
  pub data Took (c : ℕ) (a : Take) (p : List Slot) : Type 0 where
    handed : (k : Packet p) → lent_queue a ≡ go_on c a.replied → judge table window (length k.extras) p ≡ good
        → LeftAs a (handed_over table window (go_on c a.replied) a.page a.frame a.list (length k.extras) p) → Took c a p
    spoilt : (k : Packet p) (cause place : ℕ) → lent_queue a ≡ go_on c a.replied → judge table window (length k.extras) p ≡ bad cause place
        → LeftAs a (spoiled (go_on c a.replied) a.page a.frame a.list (length k.extras) p cause place) → Took c a p

-- demand 3
unfoldable pub Demand3 : Type 0
Demand3 =
    (table window : List ℕ) (c : ℕ) (s : State) (takes : List Take) → Sequence table window c s takes
    → Serves Take answer_of (Took table window) Told c s.run takes s.consumed (queue_at s).halted (Next table window s)
