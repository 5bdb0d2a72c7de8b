-- What the rows of the table are made of: slots, ring pages, lists of records, and calls on them.
use Rattle.std.specs.Prelude.{List, [], ◌∷◌, ◌++◌, ℕ, ◌-◌, length, take, replicate}
use Rattle.words.specs.Word.{u32_at, u16_bytes, u32_bytes}
use Rattle.ring.specs.Ring.{page_size, rsp_prod}
use Rattle.netif.specs.Slot.{Slot, transmit_slot, receive_slot}
use Rattle.answer.specs.Report.{flag}
use Rattle.answer.specs.Effect.{Effect}
use Rattle.answer.specs.Words.{queue_of}
use Rattle.grammar.specs.Divide.{divide, on_cut}
use Rattle.held.specs.declared.Held.{Held}
use Rattle.held.specs.Records.{free}
use Rattle.transmit.specs.declared.Queue.{Queue}
use Rattle.transmit.specs.Take.{go_on, TakeEffect, transmit_take}
use Rattle.transmit.specs.Finish.{FinishEffect, transmit_finish}
use Rattle.receive.specs.Put.{receive_put}

abbrev pub zeros : ℕ → List ℕ
zeros n = replicate n 0

-- ---- slots

-- the data slot and the extra that document 01 spells out, the extra with any type of its own
abbrev pub slot_a : Slot
slot_a = 0x03 ∷ 0x00 ∷ 0x00 ∷ 0x00 ∷ 0x64 ∷ 0x00 ∷ 0x00 ∷ 0x00 ∷ 0x07 ∷ 0x00 ∷ 0x3C ∷ 0x00 ∷ []

abbrev pub extra_a : ℕ → Slot
extra_a type = (type ∷ 0x00 ∷ 0xB4 ∷ 0x05 ∷ 0x01 ∷ 0x00 ∷ 0x00 ∷ 0x00 ∷ []) ++ zeros 4

-- a data slot and a request that name reference 0
abbrev pub data_slot : (offset flags id size : ℕ) → Slot
data_slot offset flags id size = u32_bytes 0 ++ u16_bytes offset ++ u16_bytes flags ++ u16_bytes id ++ u16_bytes size

abbrev pub request : (id : ℕ) → Slot
request id = u16_bytes id ++ u16_bytes 0 ++ u32_bytes 0

-- one, two and three data slots: of these sizes; of 5000, 1000 and 500 bytes, the first at an offset
abbrev pub one_at : (offset : ℕ) → ℕ → List Slot
one_at offset a = data_slot offset 0 1 a ∷ []

abbrev pub one : ℕ → List Slot
one a = one_at 0 a

abbrev pub two : ℕ → ℕ → List Slot
two a b = data_slot 0 4 1 a ∷ data_slot 0 0 2 b ∷ []

abbrev pub three : (offset : ℕ) → List Slot
three offset = data_slot offset 4 1 5000 ∷ data_slot 0 4 2 1000 ∷ data_slot 0 0 3 500 ∷ []

-- a first slot that announces an extra, and the extra
abbrev pub with_extra : (type : ℕ) → List Slot
with_extra type = data_slot 0 8 1 60 ∷ extra_a type ∷ []

-- a first slot that announces extras and more data, and so many extras that each announce another
abbrev pub with_extras : ℕ → List Slot
with_extras n = data_slot 0 12 1 60 ∷ replicate n (1 ∷ 1 ∷ zeros 10)

-- eighteen data slots, all bytes in the first; between them one extra, and before it so many that each announce another
abbrev pub eighteen : ℕ → List Slot
eighteen n = with_extras n ++ (extra_a 1 ∷ replicate 16 (data_slot 0 4 2 0)) ++ (data_slot 0 0 3 0 ∷ [])

-- ---- ring pages

-- a page's header: req_prod and rsp_event, and 0 between them
abbrev pub header : (requests event : ℕ) → List ℕ
header requests event = u32_bytes requests ++ zeros 8 ++ u32_bytes event

-- slots laid end to end
abbrev pub laid : List Slot → List ℕ
laid [] = []
laid (s ∷ l) = s ++ laid l

-- a page at counter 0 on which so many slots are posted, of which these are the first; the guest waits for the first reply
abbrev pub ring_page : ℕ → List Slot → List ℕ
ring_page posted slots = let b = header posted 1 ++ zeros 48 ++ laid slots in b ++ zeros (page_size - length b)

-- ---- calls. Of the references 0 to 3, 0 and 3 grant the window's one page

-- a grant word: its 32 bits, and the start and the length of its range; and one for a whole page
abbrev pub grant_word : (bits start n : ℕ) → List ℕ
grant_word bits start n = u32_bytes bits ++ u16_bytes start ++ u16_bytes n

abbrev pub page_word : (bits : ℕ) → List ℕ
page_word bits = grant_word bits 0 4096

abbrev pub grants : List ℕ
grants = page_word 3 ++ zeros 16 ++ page_word 3

-- a table in which reference 0 grants n bytes of the page
abbrev pub range : (start n : ℕ) → List ℕ
range start n = grant_word 3 start n

abbrev pub window : List ℕ
window = zeros 4096

-- so many free records
abbrev pub records : ℕ → List Held
records n = replicate n free

-- a take with a frame buffer of so many bytes; the usual one, on all of these slots, with room for every frame and a free record
abbrev pub takes_on : Queue → (page : List ℕ) (room : ℕ) → List Held → TakeEffect
takes_on q page room l = transmit_take grants window q page (zeros room) l

abbrev pub takes : List Slot → TakeEffect
takes slots = takes_on (go_on 0 0) (ring_page (length slots) slots) 65535 (records 1)

-- the same with another table
abbrev pub takes_by : (table : List ℕ) → List Slot → TakeEffect
takes_by table slots = transmit_take table window (go_on 0 0) (ring_page (length slots) slots) (zeros 65535) (records 1)

-- a take and a finish on what a take left
abbrev pub then_takes : TakeEffect → TakeEffect
then_takes o = takes_on o.queue o.page 65535 o.list

abbrev pub then_finishes : TakeEffect → (ticket status : ℕ) → FinishEffect
then_finishes o ticket status = transmit_finish o.queue.consumed o.queue.replied o.page o.list ticket status

-- a receive call on all of these requests with a frame of so many bytes
abbrev pub puts_by : (table : List ℕ) → List Slot → ℕ → Effect
puts_by table requests n = receive_put table (queue_of 0 0) (ring_page (length requests) requests) window (zeros n)

abbrev pub puts : List Slot → ℕ → Effect
puts requests n = puts_by grants requests n

-- ---- what is asked of slots

-- data slots of 0 bytes with these flags; extras of type 1 that each announce another, and one that announces none
abbrev pub datas : (n flags : ℕ) → List Slot
datas n flags = replicate n (data_slot 0 flags 1 0)

abbrev pub linked : (n : ℕ) → List Slot
linked n = replicate n (1 ∷ 1 ∷ zeros 10)

abbrev pub final : List Slot
final = extra_a 1 ∷ []

-- what stands at their front: 0 with the packet's numbers of data slots and extras, or 6 for a beginning and 5 for neither
abbrev pub shape : List Slot → List ℕ
shape l = on_cut (divide l) (λ d e. 0 ∷ d ∷ e ∷ []) (6 ∷ []) (5 ∷ [])

-- ---- what is asked of a call

-- the answer, the cause and the place
abbrev pub answered : TakeEffect → List ℕ
answered o = o.report.answer ∷ o.report.cause ∷ o.report.place ∷ []

-- slots, notify, total and the gso fields
abbrev pub reported : TakeEffect → List ℕ
reported o = o.report.slots ∷ o.report.notifies ∷ o.report.total ∷ o.report.gso_size_word ∷ o.report.gso_type_word ∷ []

-- the answer, and what is left: the counter, the mark, and req_event on the page
abbrev pub state : TakeEffect → List ℕ
state o = o.report.answer ∷ o.queue.consumed ∷ flag o.queue.halted ∷ u32_at o.page 4 ∷ []

abbrev pub put_state : Effect → List ℕ
put_state o = o.report.answer ∷ o.queue.consumed ∷ flag o.queue.halted ∷ u32_at o.page 4 ∷ []

-- the bytes of slot n, and of request n, on the page
abbrev pub slot_of : FinishEffect → ℕ → List ℕ
slot_of o n = transmit_slot o.page n

abbrev pub request_of : Effect → ℕ → List ℕ
request_of d n = receive_slot d.page n

-- of a take: the answer, slots, notify and ticket; what is left of both counters, the mark and rsp_prod
abbrev pub take_words : TakeEffect → List ℕ
take_words o =
    o.report.answer
    ∷ o.report.slots
    ∷ o.report.notifies
    ∷ o.report.ticket_word
    ∷ o.queue.consumed
    ∷ o.queue.replied
    ∷ flag o.queue.halted
    ∷ rsp_prod o.page
    ∷ []

-- of a finish: the answer, slots and notify; what is left of the counter of replies sent and rsp_prod
abbrev pub finish_words : FinishEffect → List ℕ
finish_words o = o.report.answer ∷ o.report.slots ∷ o.report.notifies ∷ o.replied ∷ rsp_prod o.page ∷ []

-- the words of records
abbrev pub record_words : List Held → List ℕ
record_words [] = []
record_words (r ∷ l) = r.ticket ∷ r.slots ∷ r.extras ∷ r.status ∷ r.finished ∷ record_words l

-- the id and the status at slot n
abbrev pub reply_of : FinishEffect → ℕ → List ℕ
reply_of o n = take 4 (slot_of o n)
