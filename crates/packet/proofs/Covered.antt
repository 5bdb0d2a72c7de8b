-- A packet in two windows that are the same on what the grants cover: it is judged alike, since judging asks for the window's length
-- only, and a good one's frame is the same, since each of its parts is a part of what its grant covers.
use mathlib.Core.Path.{◌≡◌, refl}
use mathlib.Core.List.{List, [], ◌∷◌}
use Prim.Native.Nat.{ℕ, suc}
use Rattle.grant.specs.Lookup.{CoveredAlike}
use Rattle.grant.proofs.Grant.{fit_alike, part_alike}
use Rattle.grammar.specs.Packet.{first_of, later_of}
use Rattle.netif.specs.Slot.{Slot, gref, offset, size}
use Rattle.answer.specs.Verdict.{good}
use Rattle.packet.specs.Judge.{own_part, judge_slot, judge_later, judge_slots, judge, part_of, later_parts, frame_of}
use Rattle.packet.proofs.Judge.{or_else_good, slot_granted, good_parts}

module _ (table window other : List ℕ) (alike : CoveredAlike table window other) where
  slot_alike : (k : ℕ) (s : Slot) (n : ℕ) → judge_slot table window k s n ≡ judge_slot table other k s n
  unfolding judge_slot
  slot_alike k s n = rw (fit_alike table window other (gref s) alike.lengths)

  later_alike : (l : List Slot) (k : ℕ) → judge_later table window k l ≡ judge_later table other k l
  later_alike [] k = refl
  later_alike (s ∷ l) k = rw (slot_alike k s (size s), later_alike l (suc k))

  pub judge_alike : (e : ℕ) (p : List Slot) → judge table window e p ≡ judge table other e p
  unfolding judge judge_slots
  judge_alike e p = rw (slot_alike 0 (first_of p) (own_part e p), later_alike (later_of e p) (suc e))

  slot_part_lem : (k : ℕ) (s : Slot) (n : ℕ) → judge_slot table window k s n ≡ good → part_of table window s n ≡ part_of table other s n
  unfolding part_of
  slot_part_lem k s n h =
      let (f, r) = slot_granted table window k s n h in
      part_alike table window other (gref s) (offset s) n r (alike.ranges (gref s) f)

  later_parts_lem : (l : List Slot) (k : ℕ) → judge_later table window k l ≡ good → later_parts table window l ≡ later_parts table other l
  later_parts_lem [] k h = refl
  later_parts_lem (s ∷ l) k h =
      let (a, b) = or_else_good (judge_slot table window k s (size s)) (judge_later table window (suc k) l) h in
      rw (slot_part_lem k s (size s) a, later_parts_lem l (suc k) b)

  pub frame_alike : (e : ℕ) (p : List Slot) → judge table window e p ≡ good → frame_of table window e p ≡ frame_of table other e p
  unfolding frame_of
  frame_alike e p h =
      let g = good_parts table window e p h in
      rw (slot_part_lem 0 (first_of p) (own_part e p) g.1, later_parts_lem (later_of e p) (suc e) g.2)
