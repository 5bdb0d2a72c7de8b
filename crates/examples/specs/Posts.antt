-- The guest's side (request 2): a row for every answer, both edges of free slots, the wrap, and packets that are posted and then taken; one
-- table, and one claim over it.
use Rattle.std.specs.Prelude.{◌≡◌, List, [], ◌∷◌, ◌++◌, map, ℕ, suc, ◌-◌, length, replicate, Option, None}
use Rattle.words.specs.Word.{u32_at, u32_bytes}
use Rattle.ring.specs.Ring.{page_size}
use Rattle.netif.specs.Slot.{transmit_slot}
use Rattle.transmit.specs.Take.{go_on, TakeEffect, transmit_take}
use Rattle.frontend.specs.declared.Gso.{Gso}
use Rattle.frontend.specs.Post.{Posting, given, post}
use Rattle.examples.specs.Calls.{zeros, grant_word, page_word, records, reported}
use Rattle.examples.specs.Examples.{Row, ◌∣◌⇒◌}

-- of the references 0 to 5, 0 and 1 grant the window's two pages, 2 is read only, 3 names page 0 too, 4 a page behind the window, and 5 all
-- of page 0 but its last byte
abbrev pub own_grants : List ℕ
own_grants = page_word 3 ++ page_word 7 ++ page_word 1 ++ page_word 3 ++ page_word 11 ++ grant_word 3 0 4095

abbrev pub own_window : List ℕ
own_window = zeros 8192

-- a frame of n bytes, each 7
abbrev pub sevens : ℕ → List ℕ
sevens n = replicate n 7

-- a page on which n slots were ever posted; the backend waits for the next
abbrev pub own_page : ℕ → List ℕ
own_page n = let b = u32_bytes n ++ u32_bytes (suc n) in b ++ zeros (page_size - length b)

-- posted on a page, with so many replies read
abbrev pub posts_on : (page : List ℕ) (read : ℕ) → Option Gso → (refs frame : List ℕ) → Posting
posts_on page read o refs frame = post own_grants page own_window read o refs frame

-- and taken at counter n with room for so many bytes and a free record
abbrev pub takes_at : (n room : ℕ) (window page : List ℕ) → TakeEffect
takes_at n room window page = transmit_take own_grants window (go_on n n) page (zeros room) (records 1)

abbrev pub takes_back : (n room : ℕ) → Posting → TakeEffect
takes_back n room d = takes_at n room d.window d.page

-- the answer, slots, notify, and req_prod
abbrev pub posted_words : Posting → List ℕ
posted_words d = d.report.answer ∷ d.report.slots ∷ d.report.notifies ∷ u32_at d.page 0 ∷ []

unfoldable pub post_rows : List Row
post_rows =
    ("60 bytes: the answer, slots, notify, req_prod" ∣ posted_words (posts_on (own_page 5) 5 None (1 ∷ []) (sevens 60)) ⇒ 0 ∷ 1 ∷ 1 ∷ 6 ∷ [])
    ∷ ("60 bytes: the slot" ∣ transmit_slot (posts_on (own_page 5) 5 None (1 ∷ []) (sevens 60)).page 5 ⇒ 1 ∷ 0 ∷ 0 ∷ 0 ∷ 0 ∷ 0 ∷ 0 ∷ 0 ∷ 5 ∷ 0 ∷ 60 ∷ 0 ∷ [])
    ∷ ("4097 bytes with gso: the first slot" ∣ transmit_slot (posts_on (own_page 5) 5 (given 1460 1) (1 ∷ 0 ∷ []) (sevens 4097)).page 5 ⇒ 1 ∷ 0 ∷ 0 ∷ 0 ∷ 0 ∷ 0 ∷ 12 ∷ 0 ∷ 5 ∷ 0 ∷ 1 ∷ 16 ∷ [])
    ∷ ("4097 bytes with gso: the extra" ∣ transmit_slot (posts_on (own_page 5) 5 (given 1460 1) (1 ∷ 0 ∷ []) (sevens 4097)).page 6 ⇒ 1 ∷ 0 ∷ 0xB4 ∷ 0x05 ∷ 1 ∷ 0 ∷ 0 ∷ 0 ∷ 0 ∷ 0 ∷ 0 ∷ 0 ∷ [])
    ∷ ("4097 bytes with gso: the last slot" ∣ transmit_slot (posts_on (own_page 5) 5 (given 1460 1) (1 ∷ 0 ∷ []) (sevens 4097)).page 7 ⇒ 0 ∷ 0 ∷ 0 ∷ 0 ∷ 0 ∷ 0 ∷ 0 ∷ 0 ∷ 7 ∷ 0 ∷ 1 ∷ 0 ∷ [])
    ∷ ("across the wrap: the answer, slots, notify, req_prod" ∣ posted_words (posts_on (own_page 4294967295) 4294967295 (given 1460 1) (1 ∷ 0 ∷ []) (sevens 4097)) ⇒ 0 ∷ 3 ∷ 1 ∷ 2 ∷ [])
    ∷ ("posted, then taken: slots, notify, total, gso size, gso type" ∣ reported (takes_back 5 60 (posts_on (own_page 5) 5 (given 1460 1) (1 ∷ []) (sevens 60))) ⇒ 2 ∷ 0 ∷ 60 ∷ 1460 ∷ 1 ∷ [])
    ∷ ("posted, then taken: the frame" ∣ (takes_back 5 16 (posts_on (own_page 5) 5 None (1 ∷ []) (sevens 16))).frame ⇒ sevens 16)
    ∷ ("a page of 4095 bytes: bad page" ∣ posted_words (posts_on (zeros 4095) 0 (given 0 0) [] []) ⇒ 1 ∷ 0 ∷ 0 ∷ 0 ∷ [])
    ∷ ("13 bytes: bad frame length, before gso" ∣ posted_words (posts_on (own_page 5) 5 (given 0 1) (1 ∷ []) (sevens 13)) ⇒ 9 ∷ 0 ∷ 0 ∷ 5 ∷ [])
    ∷ ("gso size 0: bad gso, before the list" ∣ posted_words (posts_on (own_page 5) 5 (given 0 1) [] (sevens 60)) ⇒ 13 ∷ 0 ∷ 0 ∷ 5 ∷ [])
    ∷ ("gso type 3: bad gso" ∣ posted_words (posts_on (own_page 5) 5 (given 1460 3) (1 ∷ []) (sevens 60)) ⇒ 13 ∷ 0 ∷ 0 ∷ 5 ∷ [])
    ∷ ("one reference for two pages: bad pages, before free slots" ∣ posted_words (posts_on (own_page 261) 5 None (1 ∷ []) (sevens 4097)) ⇒ 12 ∷ 0 ∷ 0 ∷ 261 ∷ [])
    ∷ ("read only: bad pages" ∣ posted_words (posts_on (own_page 5) 5 None (2 ∷ []) (sevens 60)) ⇒ 12 ∷ 0 ∷ 0 ∷ 5 ∷ [])
    ∷ ("a part of a page: bad pages" ∣ posted_words (posts_on (own_page 5) 5 None (5 ∷ []) (sevens 60)) ⇒ 12 ∷ 0 ∷ 0 ∷ 5 ∷ [])
    ∷ ("a page behind the window: bad pages" ∣ posted_words (posts_on (own_page 5) 5 None (4 ∷ []) (sevens 60)) ⇒ 12 ∷ 0 ∷ 0 ∷ 5 ∷ [])
    ∷ ("two references to page 0: bad pages" ∣ posted_words (posts_on (own_page 5) 5 None (0 ∷ 3 ∷ []) (sevens 4097)) ⇒ 12 ∷ 0 ∷ 0 ∷ 5 ∷ [])
    ∷ ("an unused reference is not tested" ∣ posted_words (posts_on (own_page 5) 5 None (0 ∷ 3 ∷ []) (sevens 60)) ⇒ 0 ∷ 1 ∷ 1 ∷ 6 ∷ [])
    ∷ ("one slot free" ∣ posted_words (posts_on (own_page 260) 5 None (0 ∷ []) (sevens 60)) ⇒ 0 ∷ 1 ∷ 1 ∷ 261 ∷ [])
    ∷ ("one slot free for two: no slots" ∣ posted_words (posts_on (own_page 260) 5 (given 1460 1) (0 ∷ []) (sevens 60)) ⇒ 11 ∷ 0 ∷ 0 ∷ 260 ∷ [])
    ∷ ("a difference past 256: no slots" ∣ posted_words (posts_on (own_page 5) 6 None (0 ∷ []) (sevens 60)) ⇒ 11 ∷ 0 ∷ 0 ∷ 5 ∷ [])
    ∷ []

unfoldable pub PostsHold : Type 0
PostsHold = map (λ (r : Row). r.computed) post_rows ≡ map (λ (r : Row). r.expected) post_rows
