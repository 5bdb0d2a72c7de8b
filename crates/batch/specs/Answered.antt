-- Some batches, and what each leaves: answers, count, frames and results by their places.
use Rattle.std.specs.Prelude.{◌≡◌, List, [], ◌∷◌, ◌++◌, map, ℕ, ◌-◌, length, take, drop, replicate}
use Rattle.words.specs.Word.{u16_bytes, u32_bytes}
use Rattle.ring.specs.Ring.{page_size}
use Rattle.netif.specs.Slot.{Slot}
use Rattle.held.specs.Records.{free}
use Rattle.transmit.specs.Take.{go_on}
use Rattle.batch.specs.Batch.{BatchEffect, transmit_batch}
use Rattle.batch.specs.Repeated.{answer_word}

-- a window of one page, all of it granted by reference 0: 14 ones, 14 twos, and zeros
abbrev pub table : List ℕ
table = u32_bytes 3 ++ u16_bytes 0 ++ u16_bytes 4096

abbrev pub ones : List ℕ
ones = replicate 14 1

abbrev pub twos : List ℕ
twos = replicate 14 2

abbrev pub window : List ℕ
window = ones ++ twos ++ replicate 4068 0

-- a packet of one slot
abbrev pub packet : (offset size : ℕ) → Slot
packet offset size = u32_bytes 0 ++ u16_bytes offset ++ u16_bytes 0 ++ u16_bytes 0 ++ u16_bytes size

-- a page at counter 0 on which so many slots are posted, of which these bytes are the first
abbrev pub page_with : (posted : ℕ) (slots : List ℕ) → List ℕ
page_with posted slots = u32_bytes posted ++ replicate 60 0 ++ slots ++ replicate (page_size - 64 - length slots) 0

-- a good packet, a spoiled one of 13 bytes, and another good one
abbrev pub three : List ℕ
three = page_with 3 (packet 0 14 ++ packet 0 13 ++ packet 14 14)

-- a result as it is lent
abbrev pub lent : List ℕ
lent = 9 ∷ []

-- a batch on a page at counter 0, nothing held and three records free, lent a frame buffer of so many zeros and so many results
abbrev pub tried : (page : List ℕ) (room entries most : ℕ) → BatchEffect
tried page room entries most = transmit_batch table window (go_on 0 0) page (replicate room 0) (free ∷ free ∷ free ∷ []) (replicate entries lent) most

abbrev pub answers : BatchEffect → List ℕ
answers e = map answer_word e.results

pub record Answered : Type 0 where
  -- all are taken, and the answer that ends it is listed: frames end to end, the spoiled one between them without bytes; the results behind stay
  pub all_count : (tried three 30 6 5).count ≡ 4
  pub all_answers : answers (tried three 30 6 5) ≡ 0 ∷ 7 ∷ 0 ∷ 4 ∷ 9 ∷ 9 ∷ []
  pub all_frames : (tried three 30 6 5).frame ≡ ones ++ twos ++ (0 ∷ 0 ∷ [])
  pub all_behind : drop 4 (tried three 30 6 5).results ≡ lent ∷ lent ∷ []
  -- no more than asked for, of which the spoiled one is one; a list as long as asked for is enough
  pub two_answers : answers (tried three 30 2 2) ≡ 0 ∷ 7 ∷ []
  pub two_consumed : (tried three 30 2 2).queue.consumed ≡ 2
  -- the second good one finds no room: 8 ends it
  pub short_count : (tried three 27 5 5).count ≡ 3
  pub short_answers : answers (tried three 27 5 5) ≡ 0 ∷ 7 ∷ 8 ∷ 9 ∷ 9 ∷ []
  pub short_frames : (tried three 27 5 5).frame ≡ ones ++ replicate 13 0
  -- 16: a list one shorter than asked for, and 257 asked for; with 256 it is a batch, here of an empty page
  pub list_answer : (tried three 30 4 5).answer ≡ 16
  pub list_count : (tried three 30 4 5).count ≡ 0
  pub many_answer : (tried (page_with 0 []) 0 257 257).answer ≡ 16
  pub most_answer : (tried (page_with 0 []) 0 256 256).answer ≡ 0
  pub most_answers : take 2 (answers (tried (page_with 0 []) 0 256 256)) ≡ 4 ∷ 9 ∷ []
