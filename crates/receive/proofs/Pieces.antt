-- The pieces of a frame as the code writes and reports them.
use mathlib.Core.Path.{◌≡◌, refl, sym, ap, ◌∙◌}
use mathlib.Core.Logic.{⊎_elim}
use mathlib.Core.List.{List, [], ◌∷◌, ◌++◌, append_assoc}
use Prim.Native.Nat.{ℕ, zero, suc, ◌+◌, ◌-◌, ◌*◌, ◌≤◌, ◌<◌, min}
use native.Mathlib.Omega.{arith}
use native.Mathlib.Numerals.{add-one}
use native.Mathlib.Nat.{add-zero}
use lib.ListN.{length, take, drop, get_or, length-take, length-drop, length-map}
use lib.Seq.{drop-drop, take_all, take-suc, length-take-le}
use lib.Dec.{ltb}
use borrow.Author.Tests.{lt-ltb, le-ltb}
use Rattle.words.specs.Word.{u16_at, u16_bytes, splice}
use Rattle.words.proofs.Word.{lt_or_ge, splice_join}
use Rattle.ring.specs.Ring.{wadd, with_producer, slot_place, with_slots}
use Rattle.ring.specs.declared.Side.TheVariants.{Replies}
use Rattle.ring.proofs.Ring.{Short, short_map, place_fits, slots_at, slots_length, slot_u16}
use Rattle.grant.specs.Grant.{with_page}
use Rattle.netif.specs.Slot.{Slot, error, request_ident, receive_reply, receive_slot, receive_slots}
use Rattle.receive.specs.Put.{scatter, reply_flags, piece_replies, error_reply, error_replies}
use Rattle.receive.specs.Stages.{AllUsable}
use Rattle.ring.proofs.Replied.{reply_next, reply_stands}
use Rattle.words.proofs.Lists.{map_at}

-- ---- the pieces written

-- one more piece, which begins where the pages before it end
pub scatter_more : (window pages frame : List ℕ) (p : ℕ) → scatter window (pages ++ (p ∷ [])) frame ≡ with_page (scatter window pages frame) p (take 4096 (drop (4096 * length pages) frame))
scatter_more window [] frame p = refl
scatter_more window (q ∷ l) frame p =
    let w = with_page window q (take 4096 frame) in
    let z : 4096 + 4096 * length l ≡ 4096 * suc (length l) = omega arith in
    scatter_more w l (drop 4096 frame) p
    ∙ ap (λ (x : List ℕ). with_page (scatter w l (drop 4096 frame)) p (take 4096 x)) (drop-drop (4096 * length l) 4096 frame ∙ ap (λ (x : ℕ). drop x frame) z)

-- the next page of those that get whole pieces
pub scatter_next : (window pages frame : List ℕ) (i : ℕ) → i < length pages
    → scatter window (take (i + 1) pages) frame ≡ with_page (scatter window (take i pages) frame) (get_or pages i 0) (take 4096 (drop (4096 * i) frame))
scatter_next window pages frame i h =
    let more : take (i + 1) pages ≡ take i pages ++ (get_or pages i 0 ∷ []) = rw add-one (take-suc pages i 0 h) in
    ap (λ (l : List ℕ). scatter window l frame) more
    ∙ scatter_more window (take i pages) frame (get_or pages i 0)
    ∙ ap (λ (k : ℕ). with_page (scatter window (take i pages) frame) (get_or pages i 0) (take 4096 (drop (4096 * k) frame))) (length-take-le i pages (omega arith))

-- pages that lie in the window: each of them, and those before the last with the last
pub usable_at : (n : ℕ) (pages : List ℕ) → AllUsable n pages → (i : ℕ) → i < length pages → 4096 * get_or pages i 0 + 4096 ≤ n
usable_at n [] u i h = absurd (omega arith)
usable_at n (p ∷ l) u zero h = u.0
usable_at n (p ∷ l) u (suc i) h = usable_at n l u.1 i (omega arith)

pub usable_parts : (n : ℕ) (pages : List ℕ) (p : ℕ) → AllUsable n (pages ++ (p ∷ [])) → AllUsable n pages × (4096 * p + 4096 ≤ n)
usable_parts n [] p u = (tt, u.0)
usable_parts n (q ∷ l) p u = let (rest, last) = usable_parts n l p u.1 in ((u.0, rest), last)

-- ---- the replies

reply_length : (i f s : ℕ) → length (receive_reply i 0 f s) ≡ 8
unfolding receive_reply u16_bytes
reply_length i f s = refl

pub pieces_short : (l : List Slot) (frame : List ℕ) → Short 8 (piece_replies l frame)
pieces_short [] frame = tt
pieces_short (s ∷ l) frame = (omega (arith, reply_length (request_ident s) (reply_flags (ltb 0 (length l))) (length (take 4096 frame))), pieces_short l (drop 4096 frame))

pub errors_short : (l : List Slot) → Short 8 (error_replies l)
errors_short = short_map 8 error_reply (λ (s : Slot). omega (arith, reply_length (request_ident s) 0 error))

pub pieces_length : (l : List Slot) (frame : List ℕ) → length (piece_replies l frame) ≡ length l
pieces_length [] frame = refl
pieces_length (s ∷ l) frame = ap suc (pieces_length l (drop 4096 frame))

pub errors_length : (l : List Slot) → length (error_replies l) ≡ length l
errors_length l = length-map l error_reply

-- whether others follow, as the code asks it
pub follows : (i n : ℕ) → ltb 0 (n - suc i) ≡ ltb (i + 1) n
follows i n = ⊎_elim
    (λ h. lt-ltb 0 (n - suc i) (omega arith) ∙ sym (lt-ltb (i + 1) n h))
    (λ h. le-ltb 0 (n - suc i) (omega arith) ∙ sym (le-ltb (i + 1) n h))
    (lt_or_ge (i + 1) n)

piece_at : (l : List Slot) (frame : List ℕ) (i : ℕ) → i < length l
    → get_or (piece_replies l frame) i [] ≡ receive_reply (request_ident (get_or l i [])) 0 (reply_flags (ltb 0 (length (drop (suc i) l)))) (length (take 4096 (drop (4096 * i) frame)))
piece_at [] frame i h = absurd (omega arith)
piece_at (s ∷ l) frame zero h = refl
piece_at (s ∷ l) frame (suc i) h =
    let z : 4096 + 4096 * i ≡ 4096 * suc i = omega arith in
    piece_at l (drop 4096 frame) i (omega arith)
    ∙ ap (λ (x : List ℕ). receive_reply (request_ident (get_or l i [])) 0 (reply_flags (ltb 0 (length (drop (suc i) l)))) (length (take 4096 x)))
    (drop-drop (4096 * i) 4096 frame ∙ ap (λ (x : ℕ). drop x frame) z)

module _ (page : List ℕ) (first count i : ℕ) (few : i < count) where
  here : get_or (receive_slots page first count) i [] ≡ receive_slot page (first + i)
  here = slots_at 8 256 page count first i few

  pub error_here : get_or (error_replies (receive_slots page first count)) i [] ≡ error_reply (receive_slot page (first + i))
  error_here = map_at error_reply (receive_slots page first count) i [] [] (omega (arith, slots_length 8 256 page count first)) ∙ ap error_reply here

  pub piece_here : (frame : List ℕ) (flags status : ℕ) → flags ≡ reply_flags (ltb (i + 1) count) → status ≡ min 4096 (length frame - 4096 * i)
      → get_or (piece_replies (receive_slots page first count) frame) i [] ≡ receive_reply (request_ident (receive_slot page (first + i))) 0 flags status
  piece_here frame flags status p q =
      let all : length (receive_slots page first count) ≡ count = slots_length 8 256 page count first in
      let f : reply_flags (ltb 0 (length (drop (suc i) (receive_slots page first count)))) ≡ flags
      = ap (λ (n : ℕ). reply_flags (ltb 0 n)) (length-drop (suc i) (receive_slots page first count) ∙ ap (◌- suc i) all) ∙ ap reply_flags (follows i count) ∙ sym p in
      let s : length (take 4096 (drop (4096 * i) frame)) ≡ status
      = length-take 4096 (drop (4096 * i) frame) ∙ ap (min 4096) (length-drop (4096 * i) frame) ∙ sym q in
      piece_at (receive_slots page first count) frame i (omega arith) ∙ rw (here, f, s)

-- ---- one reply: its own id stands where the request had it

module _ (page : List ℕ) (n : ℕ) where
  id_here : request_ident (receive_slot page n) ≡ u16_at page (slot_place 8 256 n)
  unfolding request_ident
  id_here = slot_u16 8 256 page n 0 (omega arith) ∙ ap (u16_at page) (add-zero (slot_place 8 256 n))

  pair_length : (x y : ℕ) → length (u16_bytes x ++ u16_bytes y) ≡ 4
  unfolding u16_bytes
  pair_length x y = refl

  pub reply_stored : (mid last : List ℕ) (at id flags status : ℕ) → length page ≡ 4096 → at ≡ slot_place 8 256 n → id ≡ u16_at page at
      → mid ≡ splice page (slot_place 8 256 n) (u16_bytes id ++ u16_bytes 0) → last ≡ splice mid (at + 4) (u16_bytes flags ++ u16_bytes status)
      → last ≡ splice page (slot_place 8 256 n) (receive_reply (request_ident (receive_slot page n)) 0 flags status)
  unfolding receive_reply
  reply_stored mid last at id flags status size a r p q =
      let same : request_ident (receive_slot page n) ≡ id = id_here ∙ sym (r ∙ ap (u16_at page) a) in
      q
      ∙ ap (λ (x : List ℕ). splice x (at + 4) (u16_bytes flags ++ u16_bytes status)) p
      ∙ splice_join page (slot_place 8 256 n) (u16_bytes id ++ u16_bytes 0) (u16_bytes flags ++ u16_bytes status) (at + 4) (omega (arith, pair_length id 0))
      (omega (arith, pair_length id 0, place_fits 8 256 n 4096 (omega arith) (omega arith)))
      ∙ sym (rw (same, append_assoc (u16_bytes id ++ u16_bytes 0) (u16_bytes flags) (u16_bytes status)))

-- ---- the loops that reply

module _ (page : List ℕ) (size : length page ≡ 4096) (first count : ℕ) (few : count ≤ 16) where
  error_count : length (error_replies (receive_slots page first count)) ≡ count
  error_count = errors_length (receive_slots page first count) ∙ slots_length 8 256 page count first

  pub errors_next : (n i : ℕ) (now next : List ℕ) → i < count → n ≡ wadd first i → now ≡ with_slots 8 256 page first (take i (error_replies (receive_slots page first count)))
      → next ≡ splice now (slot_place 8 256 n) (error_reply (receive_slot now n)) → next ≡ with_slots 8 256 page first (take (i + 1) (error_replies (receive_slots page first count)))
  errors_next n i now next h a p q =
      reply_next 8 256 (omega arith) refl page (omega arith) first (error_replies (receive_slots page first count)) (errors_short (receive_slots page first count)) (omega (arith, error_count))
      error_reply n i now next (omega (arith, error_count)) a (error_here page first count i h) p q

  pub errors_last : (i : ℕ) (now : List ℕ) → i ≡ count → now ≡ with_slots 8 256 page first (take i (error_replies (receive_slots page first count))) → now ≡ with_slots 8 256 page first (error_replies (receive_slots page first count))
  errors_last i now h p = p ∙ ap (with_slots 8 256 page first) (take_all i (error_replies (receive_slots page first count)) (omega (arith, error_count)))

  -- each request refused has its reply in the first bytes of its slot, and the slot's others stay
  pub error_stands : (new i : ℕ) → i < count
      → receive_slot (with_producer Replies (with_slots 8 256 page first (error_replies (receive_slots page first count))) new) (first + i)
      ≡ splice (receive_slot page (first + i)) 0 (error_reply (receive_slot page (first + i)))
  error_stands new i h =
      reply_stands 8 256 (omega arith) page (omega arith) first (error_replies (receive_slots page first count)) (errors_short (receive_slots page first count)) (omega (arith, error_count))
      new i (omega (arith, error_count)) _ (error_here page first count i h)

  module _ (frame : List ℕ) where
    piece_count : length (piece_replies (receive_slots page first count) frame) ≡ count
    piece_count = pieces_length (receive_slots page first count) frame ∙ slots_length 8 256 page count first

    pub pieces_next : (n i flags status : ℕ) (now next : List ℕ) → i < count → n ≡ wadd first i → flags ≡ reply_flags (ltb (i + 1) count) → status ≡ min 4096 (length frame - 4096 * i)
        → now ≡ with_slots 8 256 page first (take i (piece_replies (receive_slots page first count) frame))
        → next ≡ splice now (slot_place 8 256 n) (receive_reply (request_ident (receive_slot now n)) 0 flags status)
        → next ≡ with_slots 8 256 page first (take (i + 1) (piece_replies (receive_slots page first count) frame))
    pieces_next n i flags status now next h a f s p q =
        reply_next 8 256 (omega arith) refl page (omega arith) first (piece_replies (receive_slots page first count) frame) (pieces_short (receive_slots page first count) frame) (omega (arith, piece_count))
        (λ (x : Slot). receive_reply (request_ident x) 0 flags status) n i now next (omega (arith, piece_count)) a (piece_here page first count i h frame flags status f s) p q

    pub pieces_last : (i : ℕ) (now : List ℕ) → i ≡ count → now ≡ with_slots 8 256 page first (take i (piece_replies (receive_slots page first count) frame)) → now ≡ with_slots 8 256 page first (piece_replies (receive_slots page first count) frame)
    pieces_last i now h p = p ∙ ap (with_slots 8 256 page first) (take_all i (piece_replies (receive_slots page first count) frame) (omega (arith, piece_count)))

    -- and so has each request that got a piece
    pub piece_stands : (new i : ℕ) → i < count
        → receive_slot (with_producer Replies (with_slots 8 256 page first (piece_replies (receive_slots page first count) frame)) new) (first + i)
        ≡ splice (receive_slot page (first + i)) 0 (receive_reply (request_ident (receive_slot page (first + i))) 0 (reply_flags (ltb (i + 1) count)) (min 4096 (length frame - 4096 * i)))
    piece_stands new i h =
        reply_stands 8 256 (omega arith) page (omega arith) first (piece_replies (receive_slots page first count) frame) (pieces_short (receive_slots page first count) frame) (omega (arith, piece_count))
        new i (omega (arith, piece_count)) _ (piece_here page first count i h frame (reply_flags (ltb (i + 1) count)) (min 4096 (length frame - 4096 * i)) refl refl)
