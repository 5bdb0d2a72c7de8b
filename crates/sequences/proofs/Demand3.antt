-- Demand 3, by the invariant of the sequences.
use mathlib.Core.Path.{◌≡◌, ap, ◌∙◌}
use mathlib.Core.List.{List}
use Prim.Native.Nat.{ℕ, ◌+◌, ◌≤◌}
use native.Mathlib.Omega.{arith}
use lib.ListN.{length, length-append}
use Rattle.ring.specs.Ring.{wsub, req_prod}
use Rattle.ring.proofs.Counters.{wsub_on}
use Rattle.netif.specs.Slot.{Slot, slot_count}
use Rattle.grammar.specs.Grammar.{join_all}
use Rattle.grammar.proofs.Service.{reads_serves, join_append}
use Rattle.held.specs.Valid.{between}
use Rattle.sequences.specs.Sequence.{State, Take, answer_of, Sequence, Took, Told, Next, Demand3}
use Rattle.sequences.specs.Ledger.{packets_in, slots_in}
use Rattle.sequences.specs.Order.{ledger_of}
use Rattle.sequences.proofs.Invariant.{inv, case_of}

-- demand 3 holds
pub demand3 : Demand3
unfolding Demand3
demand3 table window c s takes z =
    let v = inv table window z in
    reads_serves Take answer_of (Took table window) Told v.reads (Next table window s) (case_of table window v)

-- the premise on a publication holds wherever the whole run, as document 01 has it, stays within 256 slots
pub few_of_run : (table window : List ℕ) (c : ℕ) (s : State) (takes : List Take) → Sequence table window c s takes
    → (k : ℕ) → length s.run + k ≤ slot_count → wsub (req_prod s.page) s.replied + k ≤ slot_count
unfolding between
few_of_run table window c s takes z k h =
    let v = inv table window z in
    let es = ledger_of table window z in
    let n : wsub (req_prod s.page) s.replied ≡ wsub s.consumed s.replied + length v.left
    = ap (λ (x : ℕ). wsub x s.replied) v.stands.requests ∙ wsub_on s.consumed s.replied (length v.left) (omega (arith, v.stands.few)) in
    let m : length s.run ≡ length (join_all v.done) + length v.left = ap length v.reads.joined ∙ length-append (join_all v.done) v.left in
    let d : length (join_all v.done) ≡ length (join_all v.accounts.gone) + slots_in es
    = ap (λ (x : List (List Slot)). length (join_all x)) v.accounts.joined ∙ ap length (join_append v.accounts.gone (packets_in es)) ∙ length-append (join_all v.accounts.gone) (join_all (packets_in es)) in
    omega (arith, v.accounts.slots)
