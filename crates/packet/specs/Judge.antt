-- What document 01 fixes for one packet: its cause for 7, its parts, its frame and its replies.
-- A packet is given as its slots p and the number e of its extras, which stand behind the first slot.
use Rattle.std.specs.Prelude.{List, [], ◌∷◌, ◌++◌, map, not, ◌||◌, ℕ, zero, suc, ◌-◌, ltb, eqb}
use Rattle.grant.specs.Grant.{in_range, fit_transmit, window_part}
use Rattle.answer.specs.Verdict.{Verdict, good, ◌or_else◌, test}
use Rattle.netif.specs.Slot.{Slot, gref, offset, ident, size, null, transmit_reply}
use Rattle.grammar.specs.Packet.{first_of, extras_of, later_of, sizes, gso_size_of, gso_type_of}

-- ---- sizes and parts

-- the first slot's size is that of the whole frame
unfoldable pub total_of : List Slot → ℕ
total_of p = size (first_of p)

-- the first slot's own part is what the later slots leave
unfoldable pub own_part : ℕ → List Slot → ℕ
own_part e p = total_of p - sizes (later_of e p)

unfoldable pub parts : ℕ → List Slot → List ℕ
parts e p = own_part e p ∷ map size (later_of e p)

-- ---- the cause for 7

-- causes 1 and 3: of the total and the later sizes together. Document 01's cause 2, a total above 65,535, is not asked: it holds of no
-- packet whose slots are bytes (`proofs/CauseTwo.antt`)
unfoldable pub judge_sizes : (total later : ℕ) → Verdict
judge_sizes total later = test (ltb total 14) 1 0 or_else test (ltb total later) 3 0

-- cause 6: of the gso fields, only if there are extras
abbrev pub judge_gso : (extras size type : ℕ) → Verdict
judge_gso zero n t = good
judge_gso (suc e) n t = test (eqb n 0 || not (eqb t 1 || eqb t 2)) 6 (suc e)

module _ (table window : List ℕ) where
  -- a data slot at a place of the packet, with its part
  unfoldable pub judge_slot : ℕ → Slot → ℕ → Verdict
  judge_slot k s n = test (not (fit_transmit table window (gref s))) 4 k or_else test (not (in_range table (gref s) (offset s) n)) 5 k

  abbrev pub judge_later : ℕ → List Slot → Verdict
  judge_later k [] = good
  judge_later k (s ∷ l) = judge_slot k s (size s) or_else judge_later (suc k) l

  -- causes 4 and 5 of all data slots
  unfoldable pub judge_slots : ℕ → List Slot → Verdict
  judge_slots e p = judge_slot 0 (first_of p) (own_part e p) or_else judge_later (suc e) (later_of e p)

  unfoldable pub judge : ℕ → List Slot → Verdict
  judge e p =
      judge_sizes (total_of p) (sizes (later_of e p))
      or_else judge_slots e p
      or_else judge_gso e (gso_size_of e p) (gso_type_of e p)

  -- the frame: the parts joined
  unfoldable pub part_of : Slot → ℕ → List ℕ
  part_of s n = window_part table window (gref s) (offset s) n

  abbrev pub later_parts : List Slot → List ℕ
  later_parts [] = []
  later_parts (s ∷ l) = part_of s (size s) ++ later_parts l

  unfoldable pub frame_of : ℕ → List Slot → List ℕ
  frame_of e p = part_of (first_of p) (own_part e p) ++ later_parts (later_of e p)

-- ---- replies

-- a data slot's: its id with a status; an extra's: id 0 and status null
unfoldable pub data_reply : ℕ → Slot → List ℕ
data_reply status s = transmit_reply (ident s) status

unfoldable pub extra_reply : Slot → List ℕ
extra_reply s = transmit_reply 0 null

unfoldable pub replies_of : ℕ → List Slot → ℕ → List (List ℕ)
replies_of e p status = data_reply status (first_of p) ∷ (map extra_reply (extras_of e p) ++ map (data_reply status) (later_of e p))
