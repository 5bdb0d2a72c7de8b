-- The laws of judging a packet: a good one's total is a frame's, and its parts joined are that many bytes.
use mathlib.Core.Path.{◌≡◌, refl, ◌∙◌}
use mathlib.Core.List.{List, [], ◌∷◌}
use mathlib.Core.Bool.{Bool, true, false, not}
use Prim.Native.Nat.{ℕ, suc, ◌≤◌}
use native.Mathlib.Omega.{arith}
use lib.ListN.{length, length-append}
use lib.Dec.{ltb}
use borrow.Author.Tests.{ltb-false, not-false}
use Rattle.words.specs.Word.{Bytes}
use Rattle.grant.specs.Grant.{in_range, fit_transmit}
use Rattle.grant.proofs.Grant.{part_length}
use Rattle.grammar.specs.Packet.{first_of, later_of, sizes}
use Rattle.netif.specs.Slot.{Slot, gref, offset, size}
use Rattle.packet.specs.Judge.{total_of, own_part, judge_sizes, judge_slot, judge_later, judge_slots, judge, part_of, later_parts, frame_of}
use Rattle.std.specs.Prelude.{Ok, Err}
use Rattle.answer.specs.Verdict.{Verdict, good, ◌or_else◌, test}
use Rattle.words.proofs.Word.{no_confusion, u16_small}

-- ---- judging

pub or_else_good : (v u : Verdict) → v or_else u ≡ good → (v ≡ good) × (u ≡ good)
or_else_good (Ok v) u h = (refl, h)
or_else_good (Err f) u h = no_confusion cc

pub test_good : (b : Bool) (c k : ℕ) → test b c k ≡ good → b ≡ false
test_good true c k h = no_confusion cc
test_good false c k h = refl

pub sizes_good : (total later : ℕ) → judge_sizes total later ≡ good → later ≤ total
unfolding judge_sizes
sizes_good total later h =
    ltb-false total later (test_good _ 3 0 (or_else_good (test (ltb total 14) 1 0) _ h).1)

module _ (table window : List ℕ) where
  -- a good packet, rule by rule
  pub good_parts : (e : ℕ) (p : List Slot) → judge table window e p ≡ good
      → (judge_sizes (total_of p) (sizes (later_of e p)) ≡ good) × (judge_slot table window 0 (first_of p) (own_part e p) ≡ good) × (judge_later table window (suc e) (later_of e p) ≡ good)
  unfolding judge judge_slots
  good_parts e p h =
      let a = or_else_good (judge_sizes (total_of p) (sizes (later_of e p))) _ h in
      let b = or_else_good (judge_slots table window e p) _ a.1 in
      let c = or_else_good (judge_slot table window 0 (first_of p) (own_part e p)) _ b.0 in
      (a.0, c.0, c.1)

  -- its later sizes leave the first slot a part
  pub good_sizes : (e : ℕ) (p : List Slot) → judge table window e p ≡ good → sizes (later_of e p) ≤ total_of p
  good_sizes e p h = sizes_good (total_of p) (sizes (later_of e p)) (good_parts e p h).0

  -- ---- parts

  -- a good slot's grant is fit and has its part in range
  pub slot_granted : (k : ℕ) (s : Slot) (n : ℕ) → judge_slot table window k s n ≡ good → (fit_transmit table window (gref s) ≡ true) × (in_range table (gref s) (offset s) n ≡ true)
  unfolding judge_slot
  slot_granted k s n h =
      let (a, b) = or_else_good (test (not (fit_transmit table window (gref s))) 4 k) (test (not (in_range table (gref s) (offset s) n)) 5 k) h in
      (not-false _ (test_good _ 4 k a), not-false _ (test_good _ 5 k b))

  slot_good : (k : ℕ) (s : Slot) (n : ℕ) → judge_slot table window k s n ≡ good → length (part_of table window s n) ≡ n
  unfolding part_of
  slot_good k s n h = let (f, r) = slot_granted k s n h in part_length table window (gref s) (offset s) n r f

  later_good : (l : List Slot) (k : ℕ) → judge_later table window k l ≡ good → length (later_parts table window l) ≡ sizes l
  later_good [] k h = refl
  later_good (s ∷ l) k h =
      let (a, b) = or_else_good (judge_slot table window k s (size s)) (judge_later table window (suc k) l) h in
      length-append (part_of table window s (size s)) (later_parts table window l) ∙ rw (slot_good k s (size s) a, later_good l (suc k) b)

  -- the parts of a good packet joined are as many bytes as its total
  pub frame_length : (e : ℕ) (p : List Slot) → judge table window e p ≡ good → length (frame_of table window e p) ≡ total_of p
  unfolding frame_of own_part
  frame_length e p h =
      let g = good_parts e p h in
      length-append (part_of table window (first_of p) (own_part e p)) (later_parts table window (later_of e p))
      ∙ rw (slot_good 0 (first_of p) (own_part e p) g.1, later_good (later_of e p) (suc e) g.2) (omega (arith, good_sizes e p h))

-- the total of a packet whose slots are bytes is at most 65,535, a size being 16 bits
pub total_small : (p : List Slot) → Bytes (first_of p) → total_of p ≤ 65535
unfolding total_of size
total_small p h = omega (arith, u16_small (first_of p) h 10)
