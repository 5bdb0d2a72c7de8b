-- Document 01, "Causes for 7": the verdict on a packet or on requests, good, or bad with a cause and a place.
use Rattle.std.specs.Prelude.{Bool, cond, ℕ, Result, Ok, Err}
use Rattle.answer.specs.declared.Fault.{Fault}

abbrev pub Verdict : Type 0
Verdict = Result Unit Fault

-- good, and bad with this cause and place
abbrev pub good : Verdict
good = Ok tt

abbrev pub bad : (cause place : ℕ) → Verdict
bad cause place = Err (record { cause = cause; place = place })

-- the first found wins
infixr 30 ◌or_else◌
abbrev pub ◌or_else◌ : Verdict → Verdict → Verdict
(Ok u) or_else v = v
(Err f) or_else v = Err f

-- bad with this cause and place if the test holds
abbrev pub test : Bool → ℕ → ℕ → Verdict
test b c k = cond b (bad c k) good
