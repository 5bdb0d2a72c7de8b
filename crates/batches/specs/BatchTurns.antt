-- The sequences with batches speak of something. One from a fresh queue with three records: three packets are published, of which the second is bad; one batch
-- takes them all; and when the third and then the first is finished, all three leave.
use Rattle.std.specs.Prelude.{◌≡◌, List, [], ◌∷◌, map, ℕ}
use Rattle.batch.specs.Repeated.{answer_word}
use Rattle.sequences.specs.Sequence.{State}
use Rattle.sequences.specs.Turns.{table, window}
use Rattle.batches.specs.BatchSequence.{BatchSequence, Keeping}

pub record BatchTurns : Type 0 where
  pub state : State
  pub words : List (List ℕ)
  pub sequence : BatchSequence table window 0 state words
  pub keeping : Keeping table window sequence
  pub answers : map answer_word words ≡ 0 ∷ 7 ∷ 0 ∷ []
  pub consumed : state.consumed ≡ 3
  pub replied : state.replied ≡ 3
