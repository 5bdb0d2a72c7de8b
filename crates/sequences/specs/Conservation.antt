-- From a fresh queue the slots taken are replied to or held, whatever grants, window, ring page and frame buffer each call is lent.
use Rattle.std.specs.Prelude.{◌≡◌, true, List, ℕ, ◌+◌, ◌≤◌, length}
use Rattle.held.specs.declared.Held.{Held}
use Rattle.held.specs.Records.{all_free, slots_held}
use Rattle.held.specs.Valid.{most_records, valid}
use Rattle.transmit.specs.Take.{transmit_take}
use Rattle.transmit.specs.Finish.{transmit_finish}
use Rattle.transmit.specs.Keeps.{took_slots, replied_slots}
use Rattle.transmit.specs.Words.{queue_of, TakeLeft, TakeLeaves, FinishLeft, FinishLeaves}

-- takes and finishes from a fresh queue, whose counters are equal and whose records are all free: the words and the list of each are lent on
-- as it left them. The words and the list that they lead to, the slots taken and the slots replied to
pub data Calls : (consumed replied mark : ℕ) → List Held → (took sent : ℕ) → Type 0 where
  fresh : (c : ℕ) (l : List Held) → all_free l ≡ true → Calls c c 0 l 0 0
  takes : {consumed replied mark : ℕ} {l : List Held} {took sent : ℕ} → Calls consumed replied mark l took sent
      → (table window page frame : List ℕ) (o : TakeLeft) → TakeLeaves (transmit_take table window (queue_of consumed replied mark) page frame l) mark o
      → Calls o.consumed o.replied o.mark o.list (took + took_slots o) (sent + replied_slots replied o.replied)
  finishes : {consumed replied mark : ℕ} {l : List Held} {took sent : ℕ} → Calls consumed replied mark l took sent
      → (page : List ℕ) (ticket status : ℕ) (o : FinishLeft) → FinishLeaves (transmit_finish consumed replied page l ticket status) o
      → Calls consumed o.replied mark o.list took (sent + replied_slots replied o.replied)

-- slots taken equal slots replied to plus slots of held packets
unfoldable pub Conservation : Type 0
Conservation =
    (consumed replied mark : ℕ) (l : List Held) (took sent : ℕ) → Calls consumed replied mark l took sent → took ≡ sent + slots_held l

-- and a list of at most 256 records stays valid, so that no call is answered 17
unfoldable pub StaysValid : Type 0
StaysValid =
    (consumed replied mark : ℕ) (l : List Held) (took sent : ℕ) → Calls consumed replied mark l took sent → length l ≤ most_records → valid consumed replied l ≡ true
