-- What the slow reader answers, by the grammar alone: the answer and its table are stated without a divider.
use Rattle.std.specs.Prelude.{◌≡◌, ◌≢◌, Result, Ok, Err, List, [], map, ℕ, ◌/◌, ◌%◌, ◌≤◌, ◌<◌, length, take, codes}
use Rattle.words.specs.Word.{splice}
use Rattle.netif.specs.Slot.{Slot, slot_width, slot_count}
use Rattle.grammar.specs.Grammar.{Packet, Begins, BeginsProperly, NoneAtFront, Division}
use Rattle.division.specs.Run.{run_of}
use Rattle.division.specs.declared.Ending.{Ending}
use Rattle.division.specs.declared.Ending.TheVariants as ending
use Rattle.division.specs.declared.Cuts.{Cuts}
use Rattle.division.specs.declared.Refused.{Refused}
use Rattle.division.specs.declared.Refused.TheVariants as refused

-- what is left of a run (document 01: the rest): nothing, a nonempty proper beginning of a packet, or the beginning of none
abbrev pub EndsAs : List Slot → Ending → Type 0
EndsAs rest ending.Empty = rest ≡ []
EndsAs rest ending.Waiting = (rest ≢ []) × BeginsProperly rest
EndsAs rest ending.Misshapen = Begins rest → ⊥

-- the number that document 01 gives such a rest, as the answer of a call that finds it
abbrev pub number_of : Ending → ℕ
number_of ending.Empty = 4
number_of ending.Waiting = 6
number_of ending.Misshapen = 5

-- the word that such a rest is printed as (document 01: the name of that answer), and the reason for a refusal; `tests/reference/FORMAT.md`
-- has all five
abbrev pub name_of : Ending → List ℕ
name_of ending.Empty = codes "empty"
name_of ending.Waiting = codes "waiting"
name_of ending.Misshapen = codes "misshapen"

abbrev pub reason_of : Refused → List ℕ
reason_of refused.Uneven = codes "uneven"
reason_of refused.TooLong = codes "too-long"

-- the division of a run (document 01: its leading packets and the rest): how many packets there are and what the rest is, and in the
-- table each packet's number of slots
pub record CutAs (run : List Slot) (before after : List ℕ) (r : Cuts) : Type 0 where
  pub packets : List (List Slot)
  pub rest : List Slot
  pub division : Division run packets rest
  pub count : r.count ≡ length packets
  pub table : after ≡ splice before 0 (map length packets)
  pub ending : EndsAs rest r.ending

-- the answer for bytes lent as a run; a refusal leaves the table
abbrev pub DividedAs : List ℕ → (before after : List ℕ) → Result Cuts Refused → Type 0
DividedAs bytes before after (Err refused.Uneven) = (length bytes % slot_width ≢ 0) × (after ≡ before)
DividedAs bytes before after (Err refused.TooLong) = (length bytes % slot_width ≡ 0) × (slot_count < length bytes / slot_width) × (after ≡ before)
DividedAs bytes before after (Ok r) =
    (length bytes % slot_width ≡ 0) × (length bytes / slot_width ≤ slot_count) × CutAs (run_of bytes) before after r

-- what stands at the front of the slots that are left: a packet of so many slots, or none, as the rest ends
abbrev pub StepIs : List Slot → Result ℕ Ending → Type 0
StepIs l (Ok n) = (n ≤ length l) × Packet (take n l)
StepIs l (Err e) = NoneAtFront l × EndsAs l e
