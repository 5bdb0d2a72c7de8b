-- Document 01's examples, those of its limit by request 1 and of held packets by request 3: one table, and one claim over it.
use Rattle.std.specs.Prelude.{◌≡◌, List, [], ◌∷◌, ◌++◌, map, ℕ, ◌+◌, ◌*◌}
use Prim.Native.String.{String}
use Rattle.ring.specs.Ring.{notify, posted, slot_place, with_producer}
use Rattle.ring.specs.declared.Side.TheVariants.{Replies}
use Rattle.grant.specs.Grant.{granted, writable, page_of}
use Rattle.netif.specs.Slot.{slot_width, slot_count, gref, offset, ident, size, gso_size, gso_type, okay, error}
use Rattle.answer.specs.Report.{flag}
use Rattle.packet.specs.Judge.{parts, data_reply, extra_reply}
use Rattle.held.specs.Records.{dropped, failed, free, waiting, ended}
use Rattle.transmit.specs.Take.{halt, go_on}
use Rattle.transmit.specs.Finish.{transmit_finish}
use Rattle.examples.specs.Calls.{zeros, slot_a, extra_a, request, one_at, one, two, three, with_extra, with_extras, eighteen, header, ring_page, page_word, range, records, takes_on, takes, takes_by, then_takes, then_finishes, puts, puts_by, datas, linked, final, shape, answered, reported, state, put_state, slot_of, request_of, take_words, finish_words, record_words, reply_of}
use Rattle.examples.specs.Holding.{good, bad, junk, with_rsp_event, good_take, good_finish, bad_take, extra_take, wrap_take, wrap_finish, second_take, second_finish, first_finish, mixed_page, behind_take, both_finish, later_take, halted_take, answers}

-- a row: the example's name, what is computed, and what is expected
pub record Row : Type 0 where
  pub name : String
  pub computed : List ℕ
  pub expected : List ℕ

infix 20 ◌∣◌⇒◌
abbrev pub ◌∣◌⇒◌ : String → List ℕ → List ℕ → Row
s ∣ a ⇒ b = record { name = s; computed = a; expected = b }

unfoldable pub rows : List Row
rows =
    -- document 01, "Bench examples", marked (P)
    ("data slot: gref, offset, id, size" ∣ gref slot_a ∷ offset slot_a ∷ ident slot_a ∷ size slot_a ∷ [] ⇒ 3 ∷ 100 ∷ 7 ∷ 60 ∷ [])
    ∷ ("data slot: done leaves" ∣ data_reply okay slot_a ⇒ 0x07 ∷ 0x00 ∷ 0x00 ∷ 0x00 ∷ [])
    ∷ ("data slot: error leaves" ∣ data_reply error slot_a ⇒ 0x07 ∷ 0x00 ∷ 0xFF ∷ 0xFF ∷ [])
    ∷ ("data slot: done leaves, on the ring page" ∣ slot_of (then_finishes (takes (slot_a ∷ [])) 0 okay) 0 ⇒ 0x07 ∷ 0x00 ∷ 0x00 ∷ 0x00 ∷ 0x64 ∷ 0x00 ∷ 0x00 ∷ 0x00 ∷ 0x07 ∷ 0x00 ∷ 0x3C ∷ 0x00 ∷ [])
    ∷ ("sizes 5000, 1000, 500: parts" ∣ parts 0 (three 596) ⇒ 3500 ∷ 1000 ∷ 500 ∷ [])
    ∷ ("first offset 596: done" ∣ answered (takes (three 596)) ⇒ 0 ∷ 0 ∷ 0 ∷ [])
    ∷ ("first offset 597: cause 5" ∣ answered (takes (three 597)) ⇒ 7 ∷ 5 ∷ 0 ∷ [])
    ∷ ("total 13: cause 1" ∣ answered (takes (one 13)) ⇒ 7 ∷ 1 ∷ 0 ∷ [])
    ∷ ("total 14: done" ∣ answered (takes (one 14)) ⇒ 0 ∷ 0 ∷ 0 ∷ [])
    ∷ ("sizes 100, 100: parts" ∣ parts 0 (two 100 100) ⇒ 0 ∷ 100 ∷ [])
    ∷ ("sizes 100, 100: done" ∣ answered (takes (two 100 100)) ⇒ 0 ∷ 0 ∷ 0 ∷ [])
    ∷ ("sizes 100, 101: cause 3" ∣ answered (takes (two 100 101)) ⇒ 7 ∷ 3 ∷ 0 ∷ [])
    ∷ ("consumed 4294967290, req_prod 6: posted" ∣ posted (header 6 0) 4294967290 ∷ [] ⇒ 12 ∷ [])
    ∷ ("consumed 4294967290: slot 250 is next" ∣ slot_place slot_width slot_count 4294967290 ∷ [] ⇒ (64 + 12 * 250) ∷ [])
    ∷ ("old 250, new 253: rsp_event 251 notifies" ∣ flag (notify Replies (header 0 251) 250 253) ∷ [] ⇒ 1 ∷ [])
    ∷ ("old 250, new 253: rsp_event 253 notifies" ∣ flag (notify Replies (header 0 253) 250 253) ∷ [] ⇒ 1 ∷ [])
    ∷ ("old 250, new 253: rsp_event 250 does not" ∣ flag (notify Replies (header 0 250) 250 253) ∷ [] ⇒ 0 ∷ [])
    ∷ ("old 250, new 253: rsp_event 254 does not" ∣ flag (notify Replies (header 0 254) 250 253) ∷ [] ⇒ 0 ∷ [])
    ∷ ("extra: gso size, gso type" ∣ gso_size (extra_a 1) ∷ gso_type (extra_a 1) ∷ [] ⇒ 1460 ∷ 1 ∷ [])
    ∷ ("extra: reply" ∣ extra_reply (extra_a 1) ⇒ 0x00 ∷ 0x00 ∷ 0x01 ∷ 0x00 ∷ [])
    ∷ ("extra: reply, on the ring page" ∣ slot_of (then_finishes (takes (with_extra 1)) 0 okay) 1 ⇒ 0x00 ∷ 0x00 ∷ 0x01 ∷ 0x00 ∷ 0x01 ∷ 0x00 ∷ 0x00 ∷ 0x00 ∷ 0x00 ∷ 0x00 ∷ 0x00 ∷ 0x00 ∷ [])
    ∷ ("extra of type 1: done" ∣ answered (takes (with_extra 1)) ⇒ 0 ∷ 0 ∷ 0 ∷ [])
    ∷ ("extra of type 1: slots, notify, total, gso size, gso type" ∣ reported (takes (with_extra 1)) ⇒ 2 ∷ 0 ∷ 60 ∷ 1460 ∷ 1 ∷ [])
    ∷ ("extra of type 1, finished: the answer, slots, notify, replied, rsp_prod" ∣ finish_words (then_finishes (takes (with_extra 1)) 0 okay) ⇒ 0 ∷ 2 ∷ 1 ∷ 2 ∷ 2 ∷ [])
    ∷ ("extra of type 0: misshapen, halted" ∣ state (takes (with_extra 0)) ⇒ 5 ∷ 0 ∷ 1 ∷ 0 ∷ [])
    ∷ ("extra of type 2: misshapen, halted" ∣ state (takes (with_extra 2)) ⇒ 5 ∷ 0 ∷ 1 ∷ 0 ∷ [])
    ∷ ("receive length 4096, id 9" ∣ request_of (puts (request 9 ∷ []) 4096) 0 ⇒ 0x09 ∷ 0x00 ∷ 0x00 ∷ 0x00 ∷ 0x00 ∷ 0x00 ∷ 0x00 ∷ 0x10 ∷ [])
    ∷ ("receive length 4097: flags 4, status 4096" ∣ request_of (puts (request 9 ∷ request 10 ∷ []) 4097) 0 ⇒ 0x09 ∷ 0x00 ∷ 0x00 ∷ 0x00 ∷ 0x04 ∷ 0x00 ∷ 0x00 ∷ 0x10 ∷ [])
    ∷ ("receive length 4097: flags 0, status 1" ∣ request_of (puts (request 9 ∷ request 10 ∷ []) 4097) 1 ⇒ 0x0A ∷ 0x00 ∷ 0x00 ∷ 0x00 ∷ 0x00 ∷ 0x00 ∷ 0x01 ∷ 0x00 ∷ [])
    -- the largest size of a slot: the part is too long for its page, and there is no cause 2
    ∷ ("total 65535 in one slot: cause 5" ∣ answered (takes (one 65535)) ⇒ 7 ∷ 5 ∷ 0 ∷ [])
    -- the examples of its other sections
    ∷ ("grant word 0D: page 3, granted, not writable" ∣ page_of (page_word 0x0D) 0 ∷ flag (granted (page_word 0x0D) 0) ∷ flag (writable (page_word 0x0D) 0) ∷ [] ⇒ 3 ∷ 1 ∷ 0 ∷ [])
    -- ranges of a page, as request 8 has them, and a part of 60 bytes at offset 100
    ∷ ("range 100 to 160: done" ∣ answered (takes_by (range 100 60) (one_at 100 60)) ⇒ 0 ∷ 0 ∷ 0 ∷ [])
    ∷ ("range 101 to 161: cause 5" ∣ answered (takes_by (range 101 60) (one_at 100 60)) ⇒ 7 ∷ 5 ∷ 0 ∷ [])
    ∷ ("range 100 to 159: cause 5" ∣ answered (takes_by (range 100 59) (one_at 100 60)) ⇒ 7 ∷ 5 ∷ 0 ∷ [])
    ∷ ("range 100 to 4096: done" ∣ answered (takes_by (range 100 3996) (one_at 100 60)) ⇒ 0 ∷ 0 ∷ 0 ∷ [])
    ∷ ("range 100 to 4097: cause 4" ∣ answered (takes_by (range 100 3997) (one_at 100 60)) ⇒ 7 ∷ 4 ∷ 0 ∷ [])
    ∷ ("receive, range 0 to 4095: spoiled" ∣ put_state (puts_by (range 0 4095) (request 9 ∷ []) 60) ⇒ 7 ∷ 1 ∷ 0 ∷ 0 ∷ [])
    ∷ ("receive, range 1 to 4096: spoiled" ∣ put_state (puts_by (range 1 4095) (request 9 ∷ []) 60) ⇒ 7 ∷ 1 ∷ 0 ∷ 0 ∷ [])
    -- the limit, as request 1 has it
    ∷ ("18 data slots, one extra: done" ∣ answered (takes (eighteen 0)) ⇒ 0 ∷ 0 ∷ 0 ∷ [])
    ∷ ("18 data slots, four extras: slots, notify, total, gso size, gso type" ∣ reported (takes (eighteen 3)) ⇒ 22 ∷ 0 ∷ 60 ∷ 1460 ∷ 1 ∷ [])
    ∷ ("another extra announced by the third: waiting" ∣ answered (takes (with_extras 3)) ⇒ 6 ∷ 0 ∷ 0 ∷ [])
    ∷ ("another extra announced by the fourth: misshapen" ∣ answered (takes (with_extras 4)) ⇒ 5 ∷ 0 ∷ 0 ∷ [])
    ∷ ("18 data slots: whole" ∣ shape (datas 17 4 ++ datas 1 0) ⇒ 0 ∷ 18 ∷ 0 ∷ [])
    ∷ ("17 data slots that announce more: a beginning" ∣ shape (datas 17 4) ⇒ 6 ∷ [])
    ∷ ("18 data slots that announce more: misshapen" ∣ shape (datas 18 4) ⇒ 5 ∷ [])
    ∷ ("19 data slots: misshapen" ∣ shape (datas 18 4 ++ datas 1 0) ⇒ 5 ∷ [])
    ∷ ("4 extras: whole" ∣ shape (datas 1 8 ++ linked 3 ++ final) ⇒ 0 ∷ 1 ∷ 4 ∷ [])
    ∷ ("3 extras that announce another: a beginning" ∣ shape (datas 1 8 ++ linked 3) ⇒ 6 ∷ [])
    ∷ ("4 extras that announce another: misshapen" ∣ shape (datas 1 8 ++ linked 4) ⇒ 5 ∷ [])
    ∷ ("5 extras: misshapen" ∣ shape (datas 1 8 ++ linked 4 ++ final) ⇒ 5 ∷ [])
    ∷ ("4 extras, more data announced: a beginning" ∣ shape (datas 1 12 ++ linked 3 ++ final) ⇒ 6 ∷ [])
    ∷ ("21 slots of 18 data slots and 4 extras: a beginning" ∣ shape (datas 1 12 ++ linked 3 ++ final ++ datas 16 4) ⇒ 6 ∷ [])
    ∷ ("the last of 18 data slots with 4 extras announces more: misshapen" ∣ shape (datas 1 12 ++ linked 3 ++ final ++ datas 17 4) ⇒ 5 ∷ [])
    ∷ ("an extra announced by a later data slot: misshapen" ∣ shape (datas 1 4 ++ datas 1 8) ⇒ 5 ∷ [])
    ∷ ("what follows a packet is not asked" ∣ shape (datas 1 0 ++ (extra_a 2 ∷ [])) ⇒ 0 ∷ 1 ∷ 0 ∷ [])
    -- the answers that none of these has, and what is left: the answer, the counter, the mark and req_event
    ∷ ("a page of 4095 bytes: bad page" ∣ state (takes_on (go_on 0 0) (zeros 4095) 65535 (records 1)) ⇒ 1 ∷ 0 ∷ 0 ∷ 0 ∷ [])
    ∷ ("a halted queue: halted already" ∣ state (takes_on (halt (go_on 0 0)) (ring_page 1 (one 14)) 65535 (records 1)) ⇒ 2 ∷ 0 ∷ 1 ∷ 0 ∷ [])
    ∷ ("256 posted: done" ∣ state (takes_on (go_on 0 0) (ring_page 256 (one 14)) 65535 (records 1)) ⇒ 0 ∷ 1 ∷ 0 ∷ 0 ∷ [])
    ∷ ("257 posted: overflow" ∣ state (takes_on (go_on 0 0) (ring_page 257 (one 14)) 65535 (records 1)) ⇒ 3 ∷ 0 ∷ 1 ∷ 0 ∷ [])
    ∷ ("nothing posted: empty" ∣ state (takes []) ⇒ 4 ∷ 0 ∷ 0 ∷ 1 ∷ [])
    ∷ ("two slots of three: waiting" ∣ state (takes_on (go_on 0 0) (ring_page 2 (three 596)) 65535 (records 1)) ⇒ 6 ∷ 0 ∷ 0 ∷ 3 ∷ [])
    ∷ ("total 14, frame buffer 13: no room" ∣ state (takes_on (go_on 0 0) (ring_page 1 (one 14)) 13 (records 1)) ⇒ 8 ∷ 0 ∷ 0 ∷ 0 ∷ [])
    ∷ ("receive length 13: bad frame length" ∣ put_state (puts (request 9 ∷ []) 13) ⇒ 9 ∷ 0 ∷ 0 ∷ 0 ∷ [])
    ∷ ("receive length 4097, one request: no buffers" ∣ put_state (puts (request 9 ∷ []) 4097) ⇒ 10 ∷ 0 ∷ 0 ∷ 2 ∷ [])
    -- held packets, as request 3 has them. Of a take: the answer, slots, notify, ticket; consumed, replied, the mark, rsp_prod. Of a finish: the
    -- answer, slots, notify; replied, rsp_prod. Of a record: ticket, slots, extras, status, finished
    ∷ ("a take: its ticket, no reply" ∣ take_words good_take ⇒ 0 ∷ 1 ∷ 0 ∷ 0 ∷ 1 ∷ 0 ∷ 0 ∷ 0 ∷ [])
    ∷ ("a take: rsp_prod is not written" ∣ take_words (takes_on (go_on 0 0) (with_producer Replies (ring_page 1 (good 7 ∷ [])) 99) 65535 (records 1)) ⇒ 0 ∷ 1 ∷ 0 ∷ 0 ∷ 1 ∷ 0 ∷ 0 ∷ 99 ∷ [])
    ∷ ("a take: the record, status 0 and not finished" ∣ record_words good_take.list ⇒ 0 ∷ 1 ∷ 0 ∷ 0 ∷ 0 ∷ [])
    ∷ ("a take: a free record that is not zeroed is written whole" ∣ record_words (takes_on (go_on 0 0) (ring_page 1 (good 7 ∷ [])) 65535 (junk ∷ [])).list ⇒ 0 ∷ 1 ∷ 0 ∷ 0 ∷ 0 ∷ [])
    ∷ ("finished with okay: slots, notify" ∣ finish_words (good_finish okay) ⇒ 0 ∷ 1 ∷ 1 ∷ 1 ∷ 1 ∷ [])
    ∷ ("finished with okay: id 7, status 0" ∣ reply_of (good_finish okay) 0 ⇒ 0x07 ∷ 0x00 ∷ 0x00 ∷ 0x00 ∷ [])
    ∷ ("finished with error: status -1" ∣ reply_of (good_finish failed) 0 ⇒ 0x07 ∷ 0x00 ∷ 0xFF ∷ 0xFF ∷ [])
    ∷ ("finished with dropped: status -2" ∣ reply_of (good_finish dropped) 0 ⇒ 0x07 ∷ 0x00 ∷ 0xFE ∷ 0xFF ∷ [])
    -- in the order of taking, as far as finished ones reach
    ∷ ("the second of two: its ticket" ∣ take_words second_take ⇒ 0 ∷ 1 ∷ 0 ∷ 1 ∷ 2 ∷ 0 ∷ 0 ∷ 0 ∷ [])
    ∷ ("the second finished: no slot replied to" ∣ finish_words second_finish ⇒ 0 ∷ 0 ∷ 0 ∷ 0 ∷ 0 ∷ [])
    ∷ ("the second finished: rsp_prod is not written" ∣ finish_words (transmit_finish 2 0 (with_producer Replies second_take.page 99) second_take.list 1 okay) ⇒ 0 ∷ 0 ∷ 0 ∷ 0 ∷ 99 ∷ [])
    ∷ ("the first finished: both leave at one finish" ∣ finish_words first_finish ⇒ 0 ∷ 2 ∷ 1 ∷ 2 ∷ 2 ∷ [])
    ∷ ("each has its own status; ids are read when the reply goes out" ∣ reply_of first_finish 0 ++ reply_of first_finish 1 ⇒ 70 ∷ 0 ∷ 0xFF ∷ 0xFF ∷ 8 ∷ 0 ∷ 0 ∷ 0 ∷ [])
    -- slot counts and extras from the record
    ∷ ("an extra in the record" ∣ record_words extra_take.list ⇒ 0 ∷ 2 ∷ 1 ∷ 0 ∷ 0 ∷ [])
    ∷ ("an extra in the record: slots, notify" ∣ finish_words (then_finishes extra_take 0 dropped) ⇒ 0 ∷ 2 ∷ 1 ∷ 2 ∷ 2 ∷ [])
    ∷ ("an extra in the record: status -2, and id 0 with status 1" ∣ reply_of (then_finishes extra_take 0 dropped) 0 ++ reply_of (then_finishes extra_take 0 dropped) 1 ⇒ 1 ∷ 0 ∷ 0xFE ∷ 0xFF ∷ 0 ∷ 0 ∷ 1 ∷ 0 ∷ [])
    ∷ ("across the wrap: ticket 4294967295" ∣ take_words wrap_take ⇒ 0 ∷ 1 ∷ 0 ∷ 4294967295 ∷ 0 ∷ 4294967295 ∷ 0 ∷ 0 ∷ [])
    ∷ ("across the wrap: replied to, at slot 255" ∣ finish_words wrap_finish ++ reply_of wrap_finish 255 ⇒ 0 ∷ 1 ∷ 0 ∷ 0 ∷ 0 ∷ 7 ∷ 0 ∷ 0 ∷ 0 ∷ [])
    -- spoiled packets are finished at once: the one behind a held packet waits, the one alone leaves
    ∷ ("spoiled behind a held packet: its replies wait" ∣ take_words behind_take ⇒ 7 ∷ 1 ∷ 0 ∷ 0 ∷ 2 ∷ 0 ∷ 0 ∷ 0 ∷ [])
    ∷ ("spoiled behind a held packet: the records" ∣ record_words behind_take.list ⇒ 0 ∷ 1 ∷ 0 ∷ 0 ∷ 0 ∷ 1 ∷ 1 ∷ 0 ∷ 4294967295 ∷ 1 ∷ [])
    ∷ ("spoiled behind a held packet: no notify, though the guest waits for the second reply" ∣ take_words (then_takes (takes_on (go_on 0 0) (with_rsp_event mixed_page 2) 65535 (records 2))) ⇒ 7 ∷ 1 ∷ 0 ∷ 0 ∷ 2 ∷ 0 ∷ 0 ∷ 0 ∷ [])
    ∷ ("the held packet dropped: both leave" ∣ finish_words both_finish ⇒ 0 ∷ 2 ∷ 1 ∷ 2 ∷ 2 ∷ [])
    ∷ ("the held packet dropped: its status, and the spoiled one's" ∣ reply_of both_finish 0 ++ reply_of both_finish 1 ⇒ 7 ∷ 0 ∷ 0xFE ∷ 0xFF ∷ 8 ∷ 0 ∷ 0xFF ∷ 0xFF ∷ [])
    ∷ ("freed records are zeroed" ∣ record_words both_finish.list ⇒ zeros 10)
    ∷ ("the first free record is taken" ∣ take_words later_take ++ record_words later_take.list ⇒ 0 ∷ 1 ∷ 0 ∷ 2 ∷ 3 ∷ 2 ∷ 0 ∷ 2 ∷ 2 ∷ 1 ∷ 0 ∷ 0 ∷ 0 ∷ zeros 5)
    ∷ ("spoiled alone: replied to, notify" ∣ take_words bad_take ⇒ 7 ∷ 1 ∷ 1 ∷ 0 ∷ 1 ∷ 1 ∷ 0 ∷ 1 ∷ [])
    ∷ ("spoiled alone: its record is zeroed" ∣ record_words bad_take.list ⇒ zeros 5)
    -- 14: all records are in use
    ∷ ("two of two records in use: 14, nothing changed" ∣ take_words (then_takes behind_take) ++ record_words (then_takes behind_take).list ⇒ 14 ∷ 0 ∷ 0 ∷ 0 ∷ 2 ∷ 0 ∷ 0 ∷ 0 ∷ 0 ∷ 1 ∷ 0 ∷ 0 ∷ 0 ∷ 1 ∷ 1 ∷ 0 ∷ 4294967295 ∷ 1 ∷ [])
    ∷ ("no record, good: 14" ∣ take_words (takes_on (go_on 0 0) (ring_page 1 (good 7 ∷ [])) 65535 []) ⇒ 14 ∷ zeros 7)
    ∷ ("no record, spoiled: 14 in place of 7" ∣ take_words (takes_on (go_on 0 0) (ring_page 1 (bad 8 ∷ [])) 65535 []) ⇒ 14 ∷ zeros 7)
    ∷ ("no record and no room: 8" ∣ take_words (takes_on (go_on 0 0) (ring_page 1 (good 7 ∷ [])) 13 []) ⇒ 8 ∷ zeros 7)
    ∷ ("no record, nothing posted: 4" ∣ take_words (takes_on (go_on 0 0) (ring_page 0 []) 65535 []) ⇒ 4 ∷ zeros 7)
    -- 15: the ticket cannot be finished so
    ∷ ("a ticket not held: 15, nothing changed" ∣ finish_words (then_finishes behind_take 2 okay) ++ record_words (then_finishes behind_take 2 okay).list ⇒ 15 ∷ 0 ∷ 0 ∷ 0 ∷ 0 ∷ 0 ∷ 1 ∷ 0 ∷ 0 ∷ 0 ∷ 1 ∷ 1 ∷ 0 ∷ 4294967295 ∷ 1 ∷ [])
    ∷ ("a ticket already finished: 15" ∣ finish_words (then_finishes behind_take 1 okay) ⇒ 15 ∷ zeros 4)
    ∷ ("finished with 1: 15" ∣ finish_words (then_finishes behind_take 0 1) ⇒ 15 ∷ zeros 4)
    ∷ ("finished with 65535, which is -1 in 16 bits: 15" ∣ finish_words (then_finishes behind_take 0 65535) ⇒ 15 ∷ zeros 4)
    -- 17: the list is wrong, for a take and for a finish
    ∷ ("256 records: right" ∣ answers 0 0 (records 256) ⇒ 4 ∷ 15 ∷ [])
    ∷ ("257 records: 17" ∣ answers 0 0 (records 257) ⇒ 17 ∷ 17 ∷ [])
    ∷ ("a free record that is not zeroed: right" ∣ answers 0 0 (junk ∷ []) ⇒ 4 ∷ 15 ∷ [])
    ∷ ("records in any order: right" ∣ answers 3 0 (waiting 2 1 0 ∷ free ∷ waiting 0 2 0 ∷ []) ⇒ 4 ∷ 0 ∷ [])
    ∷ ("a slot in no record: 17" ∣ answers 2 0 (waiting 0 1 0 ∷ []) ⇒ 17 ∷ 17 ∷ [])
    ∷ ("a slot in two records: 17" ∣ answers 2 0 (waiting 0 1 0 ∷ waiting 0 2 0 ∷ []) ⇒ 17 ∷ 17 ∷ [])
    ∷ ("a record elsewhere: 17" ∣ answers 1 0 (waiting 0 1 0 ∷ waiting 5 1 0 ∷ []) ⇒ 17 ∷ 17 ∷ [])
    ∷ ("a record past the slots consumed: 17" ∣ answers 1 0 (waiting 0 2 0 ∷ []) ⇒ 17 ∷ 17 ∷ [])
    ∷ ("257 slots between the counters: 17" ∣ answers 257 0 [] ⇒ 17 ∷ 17 ∷ [])
    ∷ ("18 data slots, 4 extras: right" ∣ answers 22 0 (waiting 0 22 4 ∷ []) ⇒ 4 ∷ 0 ∷ [])
    ∷ ("19 data slots: 17" ∣ answers 19 0 (waiting 0 19 0 ∷ []) ⇒ 17 ∷ 17 ∷ [])
    ∷ ("5 extras: 17" ∣ answers 6 0 (waiting 0 6 5 ∷ []) ⇒ 17 ∷ 17 ∷ [])
    ∷ ("no data slot: 17" ∣ answers 1 0 (waiting 0 1 1 ∷ []) ⇒ 17 ∷ 17 ∷ [])
    ∷ ("a record of status 1: 17" ∣ answers 1 0 (record { ticket = 0; slots = 1; extras = 0; status = 1; finished = 0 } ∷ []) ⇒ 17 ∷ 17 ∷ [])
    ∷ ("a record of status 65535: 17" ∣ answers 1 0 (record { ticket = 0; slots = 1; extras = 0; status = 65535; finished = 0 } ∷ []) ⇒ 17 ∷ 17 ∷ [])
    ∷ ("the oldest finished: 17" ∣ answers 1 0 (ended 0 1 0 okay ∷ []) ⇒ 17 ∷ 17 ∷ [])
    ∷ ("a later one finished: right" ∣ answers 2 0 (ended 1 1 0 okay ∷ waiting 0 1 0 ∷ []) ⇒ 4 ∷ 0 ∷ [])
    ∷ ("1 before 17" ∣ take_words (takes_on (go_on 1 0) (zeros 4095) 65535 []) ⇒ 1 ∷ 0 ∷ 0 ∷ 0 ∷ 1 ∷ 0 ∷ 0 ∷ 0 ∷ [])
    ∷ ("17 before 2, nothing changed" ∣ take_words (takes_on (halt (go_on 1 0)) (ring_page 1 (good 7 ∷ [])) 65535 []) ⇒ 17 ∷ 0 ∷ 0 ∷ 0 ∷ 1 ∷ 0 ∷ 1 ∷ 0 ∷ [])
    ∷ ("a finish, 1 before 17" ∣ finish_words (transmit_finish 1 0 (zeros 4095) [] 0 okay) ⇒ 1 ∷ zeros 4)
    ∷ ("a finish, 17 before 15" ∣ finish_words (transmit_finish 1 0 (ring_page 1 []) [] 0 1) ⇒ 17 ∷ zeros 4)
    -- overflow: req_prod minus replied is above 256, or below the slots held
    ∷ ("one held, req_prod 256: done" ∣ take_words (takes_on (go_on 1 0) (ring_page 256 (good 7 ∷ good 8 ∷ [])) 65535 (waiting 0 1 0 ∷ records 1)) ⇒ 0 ∷ 1 ∷ 0 ∷ 1 ∷ 2 ∷ 0 ∷ 0 ∷ 0 ∷ [])
    ∷ ("one held, req_prod 257: overflow" ∣ take_words (takes_on (go_on 1 0) (ring_page 257 (good 7 ∷ good 8 ∷ [])) 65535 (waiting 0 1 0 ∷ records 1)) ⇒ 3 ∷ 0 ∷ 0 ∷ 0 ∷ 1 ∷ 0 ∷ 1 ∷ 0 ∷ [])
    ∷ ("two held, req_prod 1: overflow" ∣ take_words halted_take ⇒ 3 ∷ 0 ∷ 0 ∷ 0 ∷ 2 ∷ 0 ∷ 1 ∷ 0 ∷ [])
    ∷ ("a finish on the halted ring: replied to" ∣ finish_words (then_finishes halted_take 0 okay) ⇒ 0 ∷ 2 ∷ 1 ∷ 2 ∷ 2 ∷ [])
    ∷ []

-- the claim: what is computed is what is expected, in every row
unfoldable pub ExamplesHold : Type 0
ExamplesHold = map (λ (r : Row). r.computed) rows ≡ map (λ (r : Row). r.expected) rows
