-- The comparison of two tables: no answer has more packets than a run has slots, and a table agrees with itself at every place.
use mathlib.Core.Path.{◌≡◌, refl, ap}
use mathlib.Core.List.{List, [], ◌∷◌}
use Rattle.std.specs.Prelude.{Result, Ok, Err}
use Prim.Native.Nat.{ℕ, zero, suc, ◌/◌, ◌≤◌}
use native.Mathlib.Omega.{arith}
use lib.ListN.{length, get_or, length-append}
use borrow.Author.Tests.{eq-eqb}
use Rattle.netif.specs.Slot.{Slot, slot_width, slot_count}
use Rattle.grammar.specs.Grammar.{AllPackets, join_all}
use Rattle.grammar.proofs.Grammar.{packet_some}
use Rattle.division.specs.Answer.{DividedAs}
use Rattle.division.specs.declared.Cuts.{Cuts}
use Rattle.division.specs.declared.Refused.{Refused}
use Rattle.division.specs.declared.Refused.TheVariants as refused
use Rattle.division.proofs.Runs.{slots_length}
use Rattle.readers.specs.Compare.{count_of, agreeing}

-- packets are no more than their slots
few_packets : (ps : List (List Slot)) → AllPackets ps → length ps ≤ length (join_all ps)
few_packets [] h = omega arith
few_packets (p ∷ ps) h = omega (arith, packet_some h.0, few_packets ps h.1, length-append p (join_all ps))

pub count_few : (bytes before after : List ℕ) (r : Result Cuts Refused) → DividedAs bytes before after r → count_of r ≤ slot_count
count_few bytes before after (Err refused.Uneven) h = omega arith
count_few bytes before after (Err refused.TooLong) h = omega arith
count_few bytes before after (Ok r) h =
    let a = h.2 in
    omega (arith, a.count, few_packets a.packets a.division.each, ap length a.division.joined, length-append (join_all a.packets) a.rest, slots_length bytes (length bytes / slot_width) 0)

-- a table agrees with itself at every place
pub agreeing_all : (n : ℕ) (a b : List ℕ) → a ≡ b → agreeing n a b ≡ n
agreeing_all zero a b e = refl
agreeing_all (suc n) a b e = rw (agreeing_all n a b e, eq-eqb _ _ (ap (λ l. get_or l n 0) e)) (omega arith)
