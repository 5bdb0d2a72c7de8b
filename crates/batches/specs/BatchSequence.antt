-- Batches in the sequences of demand 3: each such sequence is one of single takes, with the takes of each batch one after another in its place. So all
-- that holds of sequences of takes, publications and finishes holds of it.
use Rattle.std.specs.Prelude.{◌≡◌, ◌≢◌, not, List, [], ◌++◌, map, ℕ, suc, ◌+◌, ◌*◌, ◌≤◌, ◌<◌, length, take}
use Rattle.words.specs.Lists.{sum_of}
use Rattle.grammar.specs.Divide.{packets_of, rest_of}
use Rattle.grammar.specs.Service.{◌▹◌, Ending, taken, Serves}
use Rattle.answer.specs.Report.{flag}
use Rattle.held.specs.declared.Held.{Held}
use Rattle.held.specs.Records.{in_use}
use Rattle.transmit.specs.Words.{TakeLeft, FinishLeft}
use Rattle.batch.specs.Words.{BatchLeft}
use Rattle.batch.specs.Repeated.{Start, BatchFrom, answer_word, count_of, answer_at, WentOn}
use Rattle.sequences.specs.Sequence.{State, queue_at, Fresh, Published, after_publication, Take, answer_of, after_take, Told, Room, FinishAt, after_finish, TakeAt, Next, Sequence, Took}
use Rattle.sequences.specs.Unrewritten.{KeepsHeld, Unrewritten}

-- ---- a batch

-- what it starts from: what the state has, and a frame buffer
abbrev pub start_at : State → (frame : List ℕ) → Start
start_at s frame = record { consumed = s.consumed; replied = s.replied; mark = s.mark; page = s.page; frame = frame; list = s.list }

-- the state after it: what it left is lent to the next call
abbrev pub after_batch : State → BatchLeft → State
after_batch s o = record { consumed = o.consumed; replied = o.replied; mark = o.mark; page = o.page; list = o.list; run = s.run }

-- the words of the reports that it listed
abbrev pub listed_by : BatchLeft → List (List ℕ)
listed_by o = take (count_of o) o.results

module _ (table window : List ℕ) where
  -- lent what the state has, a batch left o
  abbrev pub BatchAt : State → (frame : List ℕ) (results : List (List ℕ)) (most : ℕ) → BatchLeft → Type 0
  BatchAt s frame results most o = BatchFrom table window (start_at s frame) results most o

  -- it has room for every frame, and before each of its takes a record is free if a whole packet stands ready: what that take finds is what the batch of
  -- those before it leaves
  pub record Enough (s : State) (frame : List ℕ) (results : List (List ℕ)) (most : ℕ) : Type 0 where
    pub big : 65535 * most ≤ length frame
    pub rooms : (i : ℕ) → i < most → (o : BatchLeft) → BatchAt s frame results i o → WentOn o i → Room (after_batch s o)

  -- ---- the sequences

  -- from a fresh queue at counter c, with the state that each leads to and the words of the reports of its takes, single ones and those of batches, in
  -- order; finishes and refused batches stand anywhere
  pub data BatchSequence (c : ℕ) : State → List (List ℕ) → Type 0 where
    fresh : {page : List ℕ} {l : List Held} → Fresh c page l → BatchSequence c (record { consumed = c; replied = c; mark = 0; page = page; list = l; run = [] }) []
    publish : {s : State} {words : List (List ℕ)} → BatchSequence c s words → (page : List ℕ) (k : ℕ) → Published s page k → BatchSequence c (after_publication s page k) words
    takes : {s : State} {words : List (List ℕ)} → BatchSequence c s words → (frame : List ℕ) (o : TakeLeft) → 65535 ≤ length frame → Room s → TakeAt table window s frame o
        → BatchSequence c (after_take s o) (words ▹ o.words)
    batches : {s : State} {words : List (List ℕ)} → BatchSequence c s words → (frame : List ℕ) (results : List (List ℕ)) (most : ℕ) (o : BatchLeft)
        → (o.returned ≡ 0 → Enough s frame results most) → BatchAt s frame results most o → BatchSequence c (after_batch s o) (words ++ listed_by o)
    finishes : {s : State} {words : List (List ℕ)} → BatchSequence c s words → (ticket status : ℕ) (o : FinishLeft) → FinishAt s ticket status o → BatchSequence c (after_finish s o) words

  -- each of whose publications keeps the slots of held packets
  abbrev pub Keeping : {c : ℕ} {s : State} {words : List (List ℕ)} → BatchSequence c s words → Type 0
  Keeping (BatchSequence.fresh f) = Unit {0}
  Keeping (BatchSequence.publish {s} z page k u) = Keeping z × KeepsHeld s page
  Keeping (BatchSequence.takes z frame o big room leaves) = Keeping z
  Keeping (BatchSequence.batches z frame results most o enough leaves) = Keeping z
  Keeping (BatchSequence.finishes z ticket status o leaves) = Keeping z

  -- ---- as single takes

  -- a sequence that leads to the same state, whose takes have these words; if published slots are not rewritten, they are not in it
  pub record AsTakes {c : ℕ} {s : State} {words : List (List ℕ)} (z : BatchSequence c s words) : Type 0 where
    pub single : List Take
    pub sequence : Sequence table window c s single
    pub reports : map (λ (a : Take). a.left.words) single ≡ words
    pub answers : map answer_of single ≡ map answer_word words
    pub unrewritten : Keeping z → Unrewritten table window sequence

-- ---- what holds of them

-- each is such a sequence of single takes
unfoldable pub BatchesAsTakes : Type 0
BatchesAsTakes = (table window : List ℕ) (c : ℕ) (s : State) (words : List (List ℕ)) (z : BatchSequence table window c s words) → AsTakes table window z

-- demand 3 of takes whose words these are; and where a batch comes next whose last report is answered neither 0 nor 7, that answer says of the run what
-- a take's says: the reports before it took all packets that were left
pub record ServesListed (table window : List ℕ) (c : ℕ) (s : State) (words : List (List ℕ)) : Type 0 where
  pub single : List Take
  pub reports : map (λ (a : Take). a.left.words) single ≡ words
  pub answers : map answer_of single ≡ map answer_word words
  pub serves : Serves Take answer_of (Took table window) Told c s.run single s.consumed (queue_at s).halted (Next table window s)
  pub ends : (frame : List ℕ) (results : List (List ℕ)) (most : ℕ) (o : BatchLeft) → Enough table window s frame results most → BatchAt table window s frame results most o
      → (i : ℕ) → count_of o ≡ suc i → answer_at o i ≢ 0 → answer_at o i ≢ 7
      → Ending (answer_at o i) (taken Take answer_of (Took table window) Told single + i) (length (packets_of s.run)) (rest_of s.run)

-- so demand 3 holds with batches
unfoldable pub BatchDemand3 : Type 0
BatchDemand3 =
    (table window : List ℕ) (c : ℕ) (s : State) (words : List (List ℕ)) → BatchSequence table window c s words → ServesListed table window c s words

-- ---- room

-- the records that are free
abbrev pub free_records : List Held → ℕ
free_records l = sum_of (λ (r : Held). flag (not (in_use r))) l

-- as many as packets are asked for are enough
unfoldable pub RecordsSuffice : Type 0
RecordsSuffice =
    (table window : List ℕ) (s : State) (frame : List ℕ) (results : List (List ℕ)) (most : ℕ) → 65535 * most ≤ length frame → most ≤ free_records s.list
    → Enough table window s frame results most
