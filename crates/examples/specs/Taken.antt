-- Demand 3 speaks of something: sequences of takes from a fresh queue with these answers. (`Turns` in sequences has one with finishes.)
use Rattle.std.specs.Prelude.{◌≡◌, List, [], ◌∷◌, map, ℕ}
use Rattle.sequences.specs.Sequence.{State, Take, answer_of, Sequence}
use Rattle.examples.specs.Calls.{grants, window}

unfoldable pub Answered : List ℕ → Type 0
Answered answers = (s : State) × (takes : List Take) × Sequence grants window 0 s takes × (map answer_of takes ≡ answers)

-- a packet in two publications: waiting between them, and then done
unfoldable pub OneTaken : Type 0
OneTaken = Answered (6 ∷ 0 ∷ [])

-- a packet too short, and behind it slots that begin none: spoiled, then halted, and halted already on the next take
unfoldable pub OneHalts : Type 0
OneHalts = Answered (7 ∷ 5 ∷ 2 ∷ [])
