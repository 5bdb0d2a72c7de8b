-- What the fast reader answers: a run's leading packets and its rest as the divider gives them.
use Rattle.std.specs.Prelude.{Result, Ok, Err, List, [], ◌∷◌, map, cond, ℕ, ◌/◌, ◌%◌, length, eqb, leb}
use Rattle.words.specs.Word.{splice}
use Rattle.netif.specs.Slot.{Slot, slot_width, slot_count}
use Rattle.grammar.specs.Divide.{divide, on_cut, packets_of, rest_of}
use Rattle.division.specs.Run.{run_of}
use Rattle.division.specs.declared.Ending.{Ending}
use Rattle.division.specs.declared.Ending.TheVariants as ending
use Rattle.division.specs.declared.Cuts.{Cuts}
use Rattle.division.specs.declared.Refused.{Refused}
use Rattle.division.specs.declared.Refused.TheVariants as refused

-- how a rest, at whose front no packet stands, ends a division
abbrev pub ending_of : List Slot → Ending
ending_of [] = ending.Empty
ending_of (s ∷ l) = on_cut (divide (s ∷ l)) (λ d e. ending.Empty) ending.Waiting ending.Misshapen

-- the division of a run, and each packet's number of slots
unfoldable pub cuts_of : List Slot → Cuts
cuts_of run = record { count = length (packets_of run); ending = ending_of (rest_of run) }

unfoldable pub lengths_of : List Slot → List ℕ
lengths_of run = map length (packets_of run)

-- the answer for bytes lent as a run, and what it leaves of a table; a refusal leaves the table
abbrev pub by_length : {A : Type 0} → List ℕ → A → A → A → A
by_length bytes uneven long good = cond (eqb (length bytes % slot_width) 0) (cond (leb (length bytes / slot_width) slot_count) good long) uneven

unfoldable pub divided_of : List ℕ → Result Cuts Refused
divided_of bytes = by_length bytes (Err refused.Uneven) (Err refused.TooLong) (Ok (cuts_of (run_of bytes)))

unfoldable pub table_of : List ℕ → List ℕ → List ℕ
table_of bytes before = by_length bytes before before (splice before 0 (lengths_of (run_of bytes)))
