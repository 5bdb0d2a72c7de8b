-- Demand 3's claim about a sequence of transmit calls, over what a call is and what its answers mean.
-- It speaks of a run of slots, its packets and the calls' answers; no ring page, queue or list of records stands in it.
use Rattle.std.specs.Prelude.{◌≡◌, ◌≢◌, ◌⊎◌, ◌↔◌, List, [], ◌∷◌, ◌++◌, Bool, true, false, cond, ◌||◌, ℕ, suc, ◌≤◌, length, take, eqb}
use Rattle.ring.specs.Ring.{wadd}
use Rattle.netif.specs.Slot.{Slot}
use Rattle.grammar.specs.Grammar.{Begins, BeginsProperly, Division, join_all}
use Rattle.grammar.specs.Divide.{packets_of, rest_of}

-- a list with one more at its end
infixl 60 ◌▹◌
abbrev pub ◌▹◌ : {A : Type 0} → List A → A → List A
l ▹ a = l ++ (a ∷ [])

-- an answer other than 0 and 7 to one more call, the packets taken and the packets there, and the rest
pub record Ending (answer takes packets : ℕ) (rest : List Slot) : Type 0 where
  pub none : takes ≡ packets
  pub waiting : (answer ≡ 6) ↔ ((rest ≢ []) × BeginsProperly rest)
  pub empty : (answer ≡ 4) ↔ (rest ≡ [])
  pub halted : ((answer ≡ 5) ⊎ (answer ≡ 2)) ↔ (Begins rest → ⊥)

-- calls and their answers; `Took c a p`: the call a took the packet p at counter c, with all that is fixed for p;
-- `Told n a`: the call a was answered n, and left what is fixed for n
module _ (Call : Type 0) (answer : Call → ℕ) (Took : ℕ → Call → List Slot → Type 0) (Told : ℕ → Call → Type 0) where
  -- calls on a queue fresh at counter c: those answered 0 or 7 took these packets, one each and in order; every other was
  -- told empty (4), waiting (6) or halted (5, and 2 on each later call). The mark says whether one was told halted
  pub data Served (c : ℕ) : (mark : Bool) → List Call → List (List Slot) → Type 0 where
    none : Served c false [] []
    took : {calls : List Call} {ps : List (List Slot)} {p : List Slot} → Served c false calls ps
        → (a : Call) → Took (wadd c (length (join_all ps))) a p → Served c false (calls ▹ a) (ps ▹ p)
    empty : {calls : List Call} {ps : List (List Slot)} → Served c false calls ps → (a : Call) → Told 4 a → Served c false (calls ▹ a) ps
    waiting : {calls : List Call} {ps : List (List Slot)} → Served c false calls ps → (a : Call) → Told 6 a → Served c false (calls ▹ a) ps
    halts : {calls : List Call} {ps : List (List Slot)} → Served c false calls ps → (a : Call) → Told 5 a → Served c true (calls ▹ a) ps
    halted : {calls : List Call} {ps : List (List Slot)} → Served c true calls ps → (a : Call) → Told 2 a → Served c true (calls ▹ a) ps

  -- how many calls were answered 0 or 7
  abbrev pub taken : List Call → ℕ
  taken [] = 0
  taken (a ∷ calls) = cond (eqb (answer a) 0 || eqb (answer a) 7) (suc (taken calls)) (taken calls)

  -- what holds where these calls were made on a queue fresh at counter c, the guest having published the run, and have left
  -- this counter and mark; `Next` are the calls that may come next
  pub record Serves (c : ℕ) (run : List Slot) (calls : List Call) (consumed : ℕ) (mark : Bool) (Next : Call → Type 0) : Type 0 where
    pub divided : Division run (packets_of run) (rest_of run)
    pub only : (ps : List (List Slot)) (r : List Slot) → Division run ps r → (ps ≡ packets_of run) × (r ≡ rest_of run)
    pub few : taken calls ≤ length (packets_of run)
    pub served : Served c mark calls (take (taken calls) (packets_of run))
    pub counter : consumed ≡ wadd c (length (join_all (take (taken calls) (packets_of run))))
    pub ends : (a : Call) → Next a → answer a ≢ 0 → answer a ≢ 7 → Ending (answer a) (taken calls) (length (packets_of run)) (rest_of run)
