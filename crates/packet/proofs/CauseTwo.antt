-- Why cause 2 of document 01, a total above 65,535, is not asked. A packet whose slots are bytes has a smaller total, so the test for
-- it would pass and change no verdict. That no verdict has the number 2 goes by the definition, test by test.
use mathlib.Core.Path.{◌≡◌, ap}
use mathlib.Core.List.{List, [], ◌∷◌}
use mathlib.Core.Bool.{Bool, true, false, not, ◌||◌}
use Prim.Native.Nat.{ℕ, zero, suc}
use native.Mathlib.Omega.{arith}
use lib.Dec.{ltb, eqb}
use borrow.Author.Tests.{le-ltb}
use Rattle.words.specs.Word.{Bytes}
use Rattle.words.proofs.Word.{no_confusion}
use Rattle.grant.specs.Grant.{in_range, fit_transmit}
use Rattle.grammar.specs.Packet.{first_of, later_of, sizes, gso_size_of, gso_type_of}
use Rattle.netif.specs.Slot.{Slot, gref, offset, size}
use Rattle.std.specs.Prelude.{Ok, Err}
use Rattle.answer.specs.Verdict.{Verdict, good, bad, ◌or_else◌, test}
use Rattle.packet.specs.Judge.{total_of, own_part, judge_sizes, judge_gso, judge_slot, judge_later, judge_slots, judge}
use Rattle.packet.proofs.Judge.{total_small}

-- causes 1, 2 and 3 in document 01's order give the verdict that the definition gives without 2
pub sizes_as_listed : (p : List Slot) (later : ℕ) → Bytes (first_of p)
    → (test (ltb (total_of p) 14) 1 0 or_else test (ltb 65535 (total_of p)) 2 0 or_else test (ltb (total_of p) later) 3 0) ≡ judge_sizes (total_of p) later
unfolding judge_sizes
sizes_as_listed p later b = rw (le-ltb 65535 (total_of p) (total_small p b))

-- ---- no verdict has cause 2

abbrev cause_of : Verdict → ℕ
cause_of (Ok u) = 0
cause_of (Err f) = f.cause

module _ (k : ℕ) where
  not_good : good ≡ bad 2 k → ⊥
  not_good h = no_confusion cc

  not_test : (b : Bool) (c j : ℕ) → (c ≡ 2 → ⊥) → test b c j ≡ bad 2 k → ⊥
  not_test true c j a h = a (ap cause_of h)
  not_test false c j a h = not_good h

  not_or_else : (v u : Verdict) → (v ≡ bad 2 k → ⊥) → (u ≡ bad 2 k → ⊥) → v or_else u ≡ bad 2 k → ⊥
  not_or_else (Ok v) u a b h = b h
  not_or_else (Err f) u a b h = a h

  not_sizes : (total later : ℕ) → judge_sizes total later ≡ bad 2 k → ⊥
  unfolding judge_sizes
  not_sizes total later =
      not_or_else (test (ltb total 14) 1 0) _ (not_test (ltb total 14) 1 0 (λ z. omega arith)) (not_test (ltb total later) 3 0 (λ z. omega arith))

  not_gso : (e n t : ℕ) → judge_gso e n t ≡ bad 2 k → ⊥
  not_gso zero n t = not_good
  not_gso (suc e) n t = not_test (eqb n 0 || not (eqb t 1 || eqb t 2)) 6 (suc e) (λ z. omega arith)

  module _ (table window : List ℕ) where
    not_slot : (j : ℕ) (s : Slot) (n : ℕ) → judge_slot table window j s n ≡ bad 2 k → ⊥
    unfolding judge_slot
    not_slot j s n =
        not_or_else (test (not (fit_transmit table window (gref s))) 4 j) _
        (not_test (not (fit_transmit table window (gref s))) 4 j (λ z. omega arith))
        (not_test (not (in_range table (gref s) (offset s) n)) 5 j (λ z. omega arith))

    not_later : (j : ℕ) (l : List Slot) → judge_later table window j l ≡ bad 2 k → ⊥
    not_later j [] = not_good
    not_later j (s ∷ l) = not_or_else (judge_slot table window j s (size s)) _ (not_slot j s (size s)) (not_later (suc j) l)

    not_slots : (e : ℕ) (p : List Slot) → judge_slots table window e p ≡ bad 2 k → ⊥
    unfolding judge_slots
    not_slots e p =
        not_or_else (judge_slot table window 0 (first_of p) (own_part e p)) _ (not_slot 0 (first_of p) (own_part e p)) (not_later (suc e) (later_of e p))

    -- no packet gets cause 2, whatever its slots hold
    pub no_cause_2 : (e : ℕ) (p : List Slot) → judge table window e p ≡ bad 2 k → ⊥
    unfolding judge
    no_cause_2 e p =
        not_or_else (judge_sizes (total_of p) (sizes (later_of e p))) _ (not_sizes (total_of p) (sizes (later_of e p)))
        (not_or_else (judge_slots table window e p) _ (not_slots e p) (not_gso e (gso_size_of e p) (gso_type_of e p)))
