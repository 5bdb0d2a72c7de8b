-- The sequences speak of something. One from a fresh queue with three records: a good packet is taken; while it is held, a bad one and another good one
-- are published and taken; the last is finished first, and waits; a finish for the bad one is refused; and when the first is finished, all three leave in the
-- order of taking, each with its own id and its own status.
use Rattle.std.specs.Prelude.{◌≡◌, List, [], ◌∷◌, ◌++◌, map, ℕ, ◌-◌, length, take, replicate}
use Rattle.words.specs.Word.{u16_bytes, u32_bytes}
use Rattle.ring.specs.Ring.{page_size}
use Rattle.netif.specs.Slot.{Slot, okay, transmit_reply, transmit_slot}
use Rattle.held.specs.Records.{failed, dropped}
use Rattle.sequences.specs.Sequence.{State, Take, answer_of, Sequence}
use Rattle.sequences.specs.Order.{ledger_of}
use Rattle.sequences.specs.Unrewritten.{Unrewritten}

abbrev pub zeros : ℕ → List ℕ
zeros n = replicate n 0

-- a table whose reference 0 grants the whole of the window's one page
abbrev pub table : List ℕ
table = u32_bytes 3 ++ u16_bytes 0 ++ u16_bytes 4096

abbrev pub window : List ℕ
window = zeros page_size

-- a packet of one slot with this id: good, and too short
abbrev pub sized : (size id : ℕ) → Slot
sized size id = zeros 8 ++ u16_bytes id ++ u16_bytes size

abbrev pub good : (id : ℕ) → Slot
good id = sized 60 id

abbrev pub bad : (id : ℕ) → Slot
bad id = sized 13 id

-- a page at counter 0 on which so many slots are posted, of which these bytes are the first
abbrev pub page_with : (posted : ℕ) (slots : List ℕ) → List ℕ
page_with posted slots = u32_bytes posted ++ zeros 60 ++ slots ++ zeros (page_size - 64 - length slots)

abbrev pub one_posted : List ℕ
one_posted = page_with 1 (good 7)

abbrev pub three_posted : List ℕ
three_posted = page_with 3 (good 7 ++ bad 8 ++ good 9)

pub record Turns : Type 0 where
  pub state : State
  pub takes : List Take
  pub sequence : Sequence table window 0 state takes
  pub unrewritten : Unrewritten table window sequence
  pub answers : map answer_of takes ≡ 0 ∷ 7 ∷ 0 ∷ []
  pub replied : state.replied ≡ 3
  pub left : ledger_of table window sequence ≡ []
  pub first : take 4 (transmit_slot state.page 0) ≡ transmit_reply 7 dropped
  pub second : take 4 (transmit_slot state.page 1) ≡ transmit_reply 8 failed
  pub third : take 4 (transmit_slot state.page 2) ≡ transmit_reply 9 okay
