-- What holds of every ring page, for a ring of n slots of w bytes each: its slots do not overlap, and what is stored
-- there, a reply, req_event or a side's counter, is read back and leaves all else. `Ring` has the same of a row of replies.
use Rattle.std.proofs.Common.{◌≡◌, refl, ℕ, ◌+◌, ◌*◌, ◌%◌, ◌<◌, ◌≤◌, false, ◌≢◌, ◌⊎◌, List, length, get_or, sym, ap, ◌∙◌, zero-add, arith, le-ltb}
use native.Mathlib.Nat.{mod-mod_of_dvd, dvd_of_mod-eq-zero}
use Rattle.words.specs.Word.{u32_at, u32_bytes, splice}
use Rattle.words.proofs.Word.{splice_length, splice_before, splice_after, splice_inside, u32_same, u32_stored}
use Rattle.ring.specs.Ring.{wrap, page_size, wadd, wsub, req_prod, req_event, rsp_prod, rsp_event, event_of, producer_at, with_producer, notify, with_req_event, asking, slot_place, slot_at}
use Rattle.ring.specs.declared.TheConstants.{PAGE_SIZE}
use Rattle.ring.specs.declared.Side.{Side}
use Rattle.ring.specs.declared.Side.TheVariants.{Requests, Replies}
use Rattle.ring.proofs.Counters.{not_moved}
use Rattle.ring.proofs.Ring.{same_turn, places_apart, reply_length, reply_header, reply_slot, reply_here, slot_length, header_slot}

-- a page of the code has the size that the definitions speak of
pub page_is : PAGE_SIZE ≡ page_size
page_is = refl

-- ---- slots of different counters

module _ (w n : ℕ) (turn : wrap % n ≡ 0) where
  -- of the n counters from c on, across the wrap, no two name one slot
  pub counters_differ : (c i j : ℕ) → i < j → j < n → wadd c i % n ≢ wadd c j % n
  unfolding wadd
  counters_differ c i j h k e =
      let same : c + i ≡ c + j = same_turn n (c + i) (c + j) (omega arith) (omega arith) (sym (lap (c + i)) ∙ e ∙ lap (c + j)) in
      omega arith
    where
      lap : (x : ℕ) → x % wrap % n ≡ x % n
      lap x = mod-mod_of_dvd n x (dvd_of_mod-eq-zero n turn)

  -- and of two slots that they name, one ends before the other begins
  pub slots_apart : (c i j : ℕ) → i < j → j < n
      → (slot_place w n (wadd c i) + w ≤ slot_place w n (wadd c j)) ⊎ (slot_place w n (wadd c j) + w ≤ slot_place w n (wadd c i))
  slots_apart c i j h k = places_apart w n (wadd c i) (wadd c j) (counters_differ c i j h k)

-- ---- a reply of at most w bytes stored at slot i

-- the header's four counters are read as before
pub record SameHeader (page after : List ℕ) : Type 0 where
  pub req_prod_stays : req_prod after ≡ req_prod page
  pub req_event_stays : req_event after ≡ req_event page
  pub rsp_prod_stays : rsp_prod after ≡ rsp_prod page
  pub rsp_event_stays : rsp_event after ≡ rsp_event page

module _ (w n : ℕ) (some : 0 < n) (page : List ℕ) (fits : 64 + w * n ≤ length page) (i : ℕ) (r : List ℕ) (short : length r ≤ w) where
  pub reply_leaves_size : length (splice page (slot_place w n i) r) ≡ length page
  reply_leaves_size = reply_length w n some page fits i r short

  pub reply_leaves_header : SameHeader page (splice page (slot_place w n i) r)
  reply_leaves_header = record { req_prod_stays = stays 0 (omega arith); req_event_stays = stays 4 (omega arith); rsp_prod_stays = stays 8 (omega arith); rsp_event_stays = stays 12 (omega arith) }
    where
      stays : (a : ℕ) → a + 4 ≤ 64 → u32_at (splice page (slot_place w n i) r) a ≡ u32_at page a
      stays a h = u32_same (splice page (slot_place w n i) r) page a (λ j f g. reply_header w n some page fits i r short j (omega arith))

  pub reply_leaves_slot : (j : ℕ) → i % n ≢ j % n → slot_at w n (splice page (slot_place w n i) r) j ≡ slot_at w n page j
  reply_leaves_slot = reply_slot w n some page fits i r short

  -- the slot's first bytes are the reply's
  pub reply_read_back : (j : ℕ) → j < length r → get_or (slot_at w n (splice page (slot_place w n i) r) i) j 0 ≡ get_or r j 0
  reply_read_back j h =
      ap (λ (s : List ℕ). get_or s j 0) (reply_here w n some page fits i r short)
      ∙ (rw zero-add at (splice_inside (slot_at w n page i) 0 r (omega (arith, slot_length w n some page fits i)) j h))

  -- and its others stay
  pub reply_leaves_rest : (j : ℕ) → length r ≤ j → get_or (slot_at w n (splice page (slot_place w n i) r) i) j 0 ≡ get_or (slot_at w n page i) j 0
  reply_leaves_rest j h =
      ap (λ (s : List ℕ). get_or s j 0) (reply_here w n some page fits i r short)
      ∙ splice_after (slot_at w n page i) 0 r (omega (arith, slot_length w n some page fits i)) j (omega arith)

-- ---- a counter stored in the header

module _ (page : List ℕ) (header : 64 ≤ length page) (a x : ℕ) (field : a + 4 ≤ 64) where
  stored_size : length (splice page a (u32_bytes x)) ≡ length page
  unfolding u32_bytes
  stored_size = splice_length page a (u32_bytes x) (omega arith)

  -- the counters below it and above it
  stored_below : (b : ℕ) → b + 4 ≤ a → u32_at (splice page a (u32_bytes x)) b ≡ u32_at page b
  unfolding u32_bytes
  stored_below b h = u32_same (splice page a (u32_bytes x)) page b (λ j f g. splice_before page a (u32_bytes x) (omega arith) j (omega arith))

  stored_above : (b : ℕ) → a + 4 ≤ b → u32_at (splice page a (u32_bytes x)) b ≡ u32_at page b
  unfolding u32_bytes
  stored_above b h = u32_same (splice page a (u32_bytes x)) page b (λ j f g. splice_after page a (u32_bytes x) (omega arith) j (omega arith))

pub producer_low : (s : Side) → producer_at s ≤ 8
producer_low Requests = omega arith
producer_low Replies = omega arith

module _ (page : List ℕ) (header : 64 ≤ length page) (x : ℕ) where
  -- req_event
  pub event_leaves_size : length (with_req_event page x) ≡ length page
  unfolding with_req_event
  event_leaves_size = stored_size page header 4 x (omega arith)

  pub event_leaves_counters : (req_prod (with_req_event page x) ≡ req_prod page) × (rsp_prod (with_req_event page x) ≡ rsp_prod page) × (rsp_event (with_req_event page x) ≡ rsp_event page)
  unfolding with_req_event
  event_leaves_counters = (stored_below page header 4 x (omega arith) 0 (omega arith), stored_above page header 4 x (omega arith) 8 (omega arith), stored_above page header 4 x (omega arith) 12 (omega arith))

  pub event_leaves_slot : (w n : ℕ) → 0 < n → 64 + w * n ≤ length page → (j : ℕ) → slot_at w n (with_req_event page x) j ≡ slot_at w n page j
  unfolding with_req_event u32_bytes
  event_leaves_slot w n some fits = header_slot w n some page 4 (u32_bytes x) (omega arith) fits

  pub event_read_back : req_event (with_req_event page x) ≡ x % wrap
  unfolding with_req_event
  event_read_back = u32_stored page 4 x (omega arith)

-- a side's counter
module _ (page : List ℕ) (header : 64 ≤ length page) (s : Side) (x : ℕ) where
  pub producer_leaves_size : length (with_producer s page x) ≡ length page
  unfolding with_producer
  producer_leaves_size = stored_size page header (producer_at s) x (omega (arith, producer_low s))

  pub producer_leaves_events : (req_event (with_producer s page x) ≡ req_event page) × (rsp_event (with_producer s page x) ≡ rsp_event page)
  unfolding with_producer
  producer_leaves_events = go s
    where
      go : (s : Side) → (req_event (splice page (producer_at s) (u32_bytes x)) ≡ req_event page) × (rsp_event (splice page (producer_at s) (u32_bytes x)) ≡ rsp_event page)
      go Requests = (stored_above page header 0 x (omega arith) 4 (omega arith), stored_above page header 0 x (omega arith) 12 (omega arith))
      go Replies = (stored_below page header 8 x (omega arith) 4 (omega arith), stored_above page header 8 x (omega arith) 12 (omega arith))

  pub producer_leaves_slot : (w n : ℕ) → 0 < n → 64 + w * n ≤ length page → (j : ℕ) → slot_at w n (with_producer s page x) j ≡ slot_at w n page j
  unfolding with_producer u32_bytes
  producer_leaves_slot w n some fits = header_slot w n some page (producer_at s) (u32_bytes x) (omega (arith, producer_low s)) fits

  pub producer_read_back : u32_at (with_producer s page x) (producer_at s) ≡ x % wrap
  unfolding with_producer
  producer_read_back = u32_stored page (producer_at s) x (omega (arith, producer_low s))

  -- the other side's wish for an event stays
  pub notify_moved : (old new : ℕ) → notify s (with_producer s page x) old new ≡ notify s page old new
  unfolding with_producer notify
  notify_moved old new = rw (stored_above page header (producer_at s) x (omega (arith, producer_low s)) (producer_at s + 4) (omega arith))

-- a counter that does not move is no event
pub notify_none : (s : Side) (page : List ℕ) (c : ℕ) → notify s page c c ≡ false
unfolding notify
notify_none s page c = rw (not_moved c) (le-ltb (wsub c (event_of s page)) 0 (omega arith))

-- the backend's counter leaves the guest's, and the other way round
module _ (page : List ℕ) (header : 64 ≤ length page) (x : ℕ) where
  pub replies_leave_requests : req_prod (with_producer Replies page x) ≡ req_prod page
  unfolding with_producer
  replies_leave_requests = stored_below page header 8 x (omega arith) 0 (omega arith)

  pub requests_leave_replies : rsp_prod (with_producer Requests page x) ≡ rsp_prod page
  unfolding with_producer
  requests_leave_replies = stored_above page header 0 x (omega arith) 8 (omega arith)

-- asking for an event: req_event is then req_prod and one, across the wrap
pub asked : (page : List ℕ) → 64 ≤ length page → req_event (asking page) ≡ wadd (req_prod page) 1
unfolding asking wadd
asked page header = event_read_back page header (wadd (req_prod page) 1) ∙ (omega arith)
