-- Takes and finishes one after another, for the rows of held packets (request 3).
use Rattle.std.specs.Prelude.{List, [], ◌∷◌, ℕ}
use Rattle.words.specs.Word.{splice, u16_bytes, u32_bytes}
use Rattle.netif.specs.Slot.{Slot, okay}
use Rattle.held.specs.declared.Held.{Held}
use Rattle.held.specs.Records.{dropped, failed, waiting}
use Rattle.transmit.specs.Take.{go_on, TakeEffect}
use Rattle.transmit.specs.Finish.{FinishEffect, transmit_finish}
use Rattle.examples.specs.Calls.{data_slot, with_extra, ring_page, records, takes_on, takes, then_takes, then_finishes}

-- a good packet of one slot with an id, and a spoiled one
abbrev pub good : (id : ℕ) → Slot
good id = data_slot 0 0 id 14

abbrev pub bad : (id : ℕ) → Slot
bad id = data_slot 0 0 id 13

-- a free record that is not zeroed
abbrev pub junk : Held
junk = record { ticket = 5; slots = 0; extras = 9; status = 7; finished = 1 }

-- a page with another rsp_event
abbrev pub with_rsp_event : (page : List ℕ) (n : ℕ) → List ℕ
with_rsp_event page n = splice page 12 (u32_bytes n)

-- ---- one packet, alone

-- good, and finished with a status; spoiled
unfoldable pub good_take : TakeEffect
good_take = takes (good 7 ∷ [])

unfoldable pub good_finish : (status : ℕ) → FinishEffect
good_finish status = then_finishes good_take 0 status

unfoldable pub bad_take : TakeEffect
bad_take = takes_on (go_on 0 0) (ring_page 1 (bad 8 ∷ [])) 65535 (junk ∷ [])

-- with an extra
unfoldable pub extra_take : TakeEffect
extra_take = takes (with_extra 1)

-- at the last counter before the wrap, whose slot is 255
unfoldable pub wrap_take : TakeEffect
wrap_take = takes_on (go_on 4294967295 4294967295) (splice (ring_page 0 []) 3124 (good 7)) 65535 (records 1)

unfoldable pub wrap_finish : FinishEffect
wrap_finish = then_finishes wrap_take 4294967295 okay

-- ---- two good packets, with a record more than they need: the second is finished first, and the first one's id is then rewritten

unfoldable pub second_take : TakeEffect
second_take = then_takes (takes_on (go_on 0 0) (ring_page 2 (good 7 ∷ good 8 ∷ [])) 65535 (records 3))

unfoldable pub second_finish : FinishEffect
second_finish = then_finishes second_take 1 okay

unfoldable pub first_finish : FinishEffect
first_finish = transmit_finish 2 0 (splice second_finish.page 72 (u16_bytes 70)) second_finish.list 0 failed

-- ---- a good packet, a spoiled one and a good one, with two records

unfoldable pub mixed_page : List ℕ
mixed_page = ring_page 3 (good 7 ∷ bad 8 ∷ good 9 ∷ [])

unfoldable pub behind_take : TakeEffect
behind_take = then_takes (takes_on (go_on 0 0) mixed_page 65535 (records 2))

unfoldable pub both_finish : FinishEffect
both_finish = then_finishes behind_take 0 dropped

unfoldable pub later_take : TakeEffect
later_take = takes_on (go_on 2 2) both_finish.page 65535 both_finish.list

-- ---- a ring that a take halts while a packet of two slots is held: req_prod stands below the slots held

unfoldable pub halted_take : TakeEffect
halted_take = takes_on (go_on 2 0) (ring_page 1 (good 7 ∷ good 8 ∷ [])) 65535 (waiting 0 2 0 ∷ [])

-- ---- any list of records

-- the answers to a take where nothing is posted and to a finish of ticket 0: not 17 if the list is right
abbrev pub answers : (consumed replied : ℕ) → List Held → List ℕ
answers consumed replied l =
    (takes_on (go_on consumed replied) (ring_page consumed []) 65535 l).report.answer
    ∷ (transmit_finish consumed replied (ring_page consumed []) l 0 okay).report.answer
    ∷ []
