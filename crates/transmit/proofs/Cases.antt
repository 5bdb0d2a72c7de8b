-- What a take's definition comes to in each of its cases, and what it leaves of the ring page.
use mathlib.Core.Path.{◌≡◌, refl, ap, ◌∙◌}
use mathlib.Core.List.{List, map}
use mathlib.Core.Bool.{Bool, true, false, ◌||◌}
use Prim.Native.Nat.{ℕ, suc, ◌+◌, ◌≤◌, ◌<◌}
use native.Mathlib.Omega.{arith}
use lib.ListN.{length, take, get_or, length-append, length-take, length-drop, length-map}
use lib.Dec.{ltb, eqb}
use borrow.Author.Tests.{eq-eqb, ne_eqb, lt-ltb, le-ltb, ltb-false}
use Rattle.words.specs.Word.{u16_bytes, u32_bytes}
use Rattle.ring.specs.Ring.{wsub, req_prod, posted, asking, with_req_event}
use Rattle.ring.proofs.Counters.{posted_left}
use Rattle.netif.specs.Slot.{Slot, transmit_reply, transmit_slot, transmit_slots}
use Rattle.grammar.specs.Divide.{whole, beginning, misshapen, divide, on_cut}
use Rattle.packet.specs.Judge.{judge, data_reply, extra_reply, replies_of}
use Rattle.grammar.specs.Packet.{first_of, extras_of, later_of}
use Rattle.held.specs.declared.Held.{Held}
use Rattle.held.specs.Valid.{between, valid}
use Rattle.transmit.specs.declared.Queue.{Queue}
use Rattle.transmit.specs.Take.{go_on, refusal, overflow, take_packet, waiting_slots, replies_to, Look, stop, ready, look_front, look, take_of, transmit_take, take_front}
use Rattle.words.proofs.Word.{no_confusion, splice_length, splice_before, u32_same}
use Rattle.ring.proofs.Ring.{Short, short_map, short_append, slots_length, replies_length, replies_header, replies_slot, header_slot}

-- ---- the page

module _ (page : List ℕ) (size : length page ≡ 4096) where
  pub asking_length : length (asking page) ≡ 4096
  unfolding asking with_req_event u32_bytes
  asking_length = splice_length page 4 _ (omega arith) ∙ size

  pub asking_requests : req_prod (asking page) ≡ req_prod page
  unfolding asking with_req_event u32_bytes
  asking_requests = u32_same (asking page) page 0 (λ j a b. splice_before page 4 _ (omega arith) j (omega arith))

  pub asking_slot : (j : ℕ) → transmit_slot (asking page) j ≡ transmit_slot page j
  unfolding asking with_req_event u32_bytes
  asking_slot j = header_slot 12 256 (omega arith) page 4 _ (omega arith) (omega arith) j

-- ---- replies

pub data_short : (status : ℕ) (s : Slot) → length (data_reply status s) ≤ 12
unfolding data_reply transmit_reply u16_bytes
data_short status s = omega arith

pub extra_short : (s : Slot) → length (extra_reply s) ≤ 12
unfolding extra_reply transmit_reply u16_bytes
extra_short s = omega arith

pub replies_short : (e : ℕ) (p : List Slot) (status : ℕ) → Short 12 (replies_of e p status)
unfolding replies_of
replies_short e p status = (
  data_short status (first_of p),
  short_append 12 (map extra_reply (extras_of e p)) (map (data_reply status) (later_of e p))
      (short_map 12 extra_reply extra_short (extras_of e p))
      (short_map 12 (data_reply status) (data_short status) (later_of e p)),
)

pub replies_count : (e : ℕ) (p : List Slot) (status : ℕ) → suc e ≤ length p → length (replies_of e p status) ≡ length p
unfolding replies_of
replies_count e p status h =
    simp (length-append, length-map, length-take, length-drop) (omega arith)

module _ (page : List ℕ) (size : length page ≡ 4096) (c slots e status : ℕ) where
  abbrev all : List (List ℕ)
  all = replies_of e (transmit_slots page c slots) status

  pub to_length : length (replies_to page c slots e status) ≡ 4096
  unfolding replies_to
  to_length = replies_length 12 256 (omega arith) all page c (omega arith) (replies_short e _ status) ∙ size

  pub to_header : (j : ℕ) → j < 64 → get_or (replies_to page c slots e status) j 0 ≡ get_or page j 0
  unfolding replies_to
  to_header j h = replies_header 12 256 (omega arith) all page c (omega arith) (replies_short e _ status) j h

  -- the slots behind stay
  pub to_slot : e < slots → (j : ℕ) → c + slots ≤ j → j < c + 256 → transmit_slot (replies_to page c slots e status) j ≡ transmit_slot page j
  unfolding replies_to
  to_slot h j a b =
      let n : length (transmit_slots page c slots) ≡ slots = slots_length 12 256 page slots c in
      replies_slot 12 256 (omega arith) all page c (omega arith) (replies_short e _ status) j
      (omega (arith, replies_count e (transmit_slots page c slots) status (omega arith))) b

module _ (table window : List ℕ) (q : Queue) (page : List ℕ) (l : List Held) where
  -- ---- the cases of a take

  pub take_of_lem : (frame : List ℕ) (x : Look) → look table window q page l ≡ x → transmit_take table window q page frame l ≡ take_of table window q page frame l x
  unfolding transmit_take
  take_of_lem frame x h = ap (take_of table window q page frame l) h

  pub look_bad : eqb (length page) 4096 ≡ false → look table window q page l ≡ stop 1
  unfolding look
  look_bad h = rw h

  module _ (size : length page ≡ 4096) where
    pub look_unsound : valid q.consumed q.replied l ≡ false → look table window q page l ≡ stop 17
    unfolding look
    look_unsound h = rw (eq-eqb (length page) 4096 size, h)

    module _ (sound : valid q.consumed q.replied l ≡ true) where
      pub look_halted : q.halted ≡ true → look table window q page l ≡ stop 2
      unfolding look
      look_halted h = rw (eq-eqb (length page) 4096 size, sound, h)

      module _ (runs : q.halted ≡ false) where
        pub look_over : overflow q.consumed q.replied page ≡ true → look table window q page l ≡ stop 3
        unfolding look
        look_over k = rw (eq-eqb (length page) 4096 size, sound, runs, k)

        module _ (fits : overflow q.consumed q.replied page ≡ false) where
          pub look_empty : posted page q.consumed ≡ 0 → look table window q page l ≡ stop 4
          unfolding look
          look_empty k = rw (eq-eqb (length page) 4096 size, sound, runs, fits, k)

          pub look_front_lem : (posted page q.consumed ≡ 0 → ⊥) → look table window q page l ≡ look_front table window q.consumed page
          unfolding look
          look_front_lem n = rw (eq-eqb (length page) 4096 size, sound, runs, fits, ne_eqb (posted page q.consumed) 0 n)

          pub take_some : (frame : List ℕ) → (posted page q.consumed ≡ 0 → ⊥) → transmit_take table window q page frame l ≡ take_front table window q page frame l
          unfolding take_front
          take_some frame n = take_of_lem frame (look_front table window q.consumed page) (look_front_lem n)

          -- slots p are posted
          pub look_some : (p : List Slot) → waiting_slots page q.consumed ≡ p → posted page q.consumed ≡ length p → 0 < length p
              → look table window q page l ≡ on_cut (divide p) (λ d e. ready e (take (d + e) p) (judge table window e (take (d + e) p))) (stop 6) (stop 5)
          look_some p w k some = look_front_lem (λ z. omega arith) ∙ rw w

-- a queue that is not halted goes on from its counters
pub running : (q : Queue) → q.halted ≡ false → q ≡ go_on q.consumed q.replied
running q h = λ i. record { consumed = q.consumed; replied = q.replied; halted = h i }

-- overflow, by the slots that are posted and not replied to
module _ (page : List ℕ) (consumed replied : ℕ) where
  pub over_many : 256 < posted page replied → overflow consumed replied page ≡ true
  unfolding overflow posted
  over_many h = rw (lt-ltb 256 (wsub (req_prod page) replied) h)

  pub over_few : posted page replied ≤ 256 → overflow consumed replied page ≡ ltb (posted page replied) (wsub consumed replied)
  unfolding overflow posted between
  over_few h = rw (le-ltb 256 (wsub (req_prod page) replied) h)

or_false : (a b : Bool) → a || b ≡ false → (a ≡ false) × (b ≡ false)
or_false true b h = no_confusion cc
or_false false b h = (refl, h)

-- no overflow: at most 256 slots are posted
pub few_posted : (page : List ℕ) (consumed replied : ℕ) → overflow consumed replied page ≡ false → posted page consumed ≤ 256
unfolding overflow posted between
few_posted page consumed replied h =
    let sent : ℕ = wsub (req_prod page) replied in
    let (a, b) = or_false (ltb 256 sent) (ltb sent (wsub consumed replied)) h in
    omega (arith, posted_left (req_prod page) consumed replied (ltb-false sent (wsub consumed replied) b), ltb-false 256 sent a)

pub waiting_slots_lem : (page : List ℕ) (c n : ℕ) → n ≡ posted page c → waiting_slots page c ≡ transmit_slots page c n
unfolding waiting_slots
waiting_slots_lem page c n h = rw h

-- slots p are posted: by their cut
module _ (table window : List ℕ) (q : Queue) (page frame : List ℕ) (l : List Held) (p : List Slot) (slots : waiting_slots page q.consumed ≡ p) where
  pub front_stops : divide p ≡ beginning → take_front table window q page frame l ≡ refusal 6 q page frame l
  unfolding take_front
  front_stops h = rw (slots, h)

  pub front_wrong : divide p ≡ misshapen → take_front table window q page frame l ≡ refusal 5 q page frame l
  unfolding take_front
  front_wrong h = rw (slots, h)

  pub front_packet : (d e : ℕ) → divide p ≡ whole d e
      → take_front table window q page frame l ≡ take_packet table window q page frame l e (take (d + e) p) (judge table window e (take (d + e) p))
  unfolding take_front
  front_packet d e h = rw (slots, h)

-- a halted queue stays as it is
pub halted_stays : (table window : List ℕ) (q : Queue) (page frame : List ℕ) (l : List Held) → q.halted ≡ true
    → (transmit_take table window q page frame l).queue.halted ≡ true
unfolding transmit_take look
halted_stays table window q page frame l h = go (eqb (length page) 4096) (valid q.consumed q.replied l) refl refl
  where
    go : (b v : Bool) → eqb (length page) 4096 ≡ b → valid q.consumed q.replied l ≡ v → (transmit_take table window q page frame l).queue.halted ≡ true
    go true true e k = rw (e, k, h)
    go true false e k = rw (e, k, h)
    go false v e k = rw (e, h)
