-- Conservation with batches among the calls: whatever grants, window, ring page, frame buffer and list of results each call is lent.
use Rattle.std.specs.Prelude.{◌≡◌, true, cond, ◌||◌, List, ℕ, ◌+◌, ◌≤◌, length, eqb}
use Rattle.words.specs.Lists.{sum_of}
use Rattle.held.specs.declared.Held.{Held}
use Rattle.held.specs.Records.{all_free, slots_held}
use Rattle.held.specs.Valid.{most_records, valid}
use Rattle.transmit.specs.Take.{transmit_take}
use Rattle.transmit.specs.Finish.{transmit_finish}
use Rattle.transmit.specs.Keeps.{slots_word, took_slots, replied_slots}
use Rattle.transmit.specs.Words.{queue_of, TakeLeft, TakeLeaves, FinishLeft, FinishLeaves}
use Rattle.batch.specs.Batch.{transmit_batch}
use Rattle.batch.specs.Words.{BatchLeft, BatchLeaves}
use Rattle.batch.specs.Repeated.{answer_word}
use Rattle.sequences.specs.Conservation.{Calls}
use Rattle.batches.specs.BatchSequence.{listed_by}

-- the slots that a batch took: those of its reports that are answered 0 or 7
abbrev pub took_by : (words : List ℕ) → ℕ
took_by words = cond (eqb (answer_word words) 0 || eqb (answer_word words) 7) (slots_word words) 0

abbrev pub batch_took : BatchLeft → ℕ
batch_took o = sum_of took_by (listed_by o)

-- the calls of conservation, and batches: the words and the list that they lead to, the slots taken and the slots replied to
pub data BatchCalls : (consumed replied mark : ℕ) → List Held → (took sent : ℕ) → Type 0 where
  fresh : (c : ℕ) (l : List Held) → all_free l ≡ true → BatchCalls c c 0 l 0 0
  takes : {consumed replied mark : ℕ} {l : List Held} {took sent : ℕ} → BatchCalls consumed replied mark l took sent
      → (table window page frame : List ℕ) (o : TakeLeft) → TakeLeaves (transmit_take table window (queue_of consumed replied mark) page frame l) mark o
      → BatchCalls o.consumed o.replied o.mark o.list (took + took_slots o) (sent + replied_slots replied o.replied)
  batches : {consumed replied mark : ℕ} {l : List Held} {took sent : ℕ} → BatchCalls consumed replied mark l took sent
      → (table window page frame : List ℕ) (results : List (List ℕ)) (most : ℕ) (o : BatchLeft)
      → BatchLeaves (transmit_batch table window (queue_of consumed replied mark) page frame l results most) mark o
      → BatchCalls o.consumed o.replied o.mark o.list (took + batch_took o) (sent + replied_slots replied o.replied)
  finishes : {consumed replied mark : ℕ} {l : List Held} {took sent : ℕ} → BatchCalls consumed replied mark l took sent
      → (page : List ℕ) (ticket status : ℕ) (o : FinishLeft) → FinishLeaves (transmit_finish consumed replied page l ticket status) o
      → BatchCalls consumed o.replied mark o.list took (sent + replied_slots replied o.replied)

-- they are calls of conservation, with the takes of each batch one after another in its place
unfoldable pub BatchesAsCalls : Type 0
BatchesAsCalls =
    (consumed replied mark : ℕ) (l : List Held) (took sent : ℕ) → BatchCalls consumed replied mark l took sent → Calls consumed replied mark l took sent

-- so slots taken equal slots replied to plus slots of held packets
unfoldable pub BatchConservation : Type 0
BatchConservation =
    (consumed replied mark : ℕ) (l : List Held) (took sent : ℕ) → BatchCalls consumed replied mark l took sent → took ≡ sent + slots_held l

-- and a list of at most 256 records stays valid, so that no call is answered 17 and no batch lists it
unfoldable pub BatchStaysValid : Type 0
BatchStaysValid =
    (consumed replied mark : ℕ) (l : List Held) (took sent : ℕ) → BatchCalls consumed replied mark l took sent → length l ≤ most_records → valid consumed replied l ≡ true
