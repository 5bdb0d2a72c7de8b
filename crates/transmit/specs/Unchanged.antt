-- What each answer of a take and of a finish leaves as it was, told by the number returned alone.
use Rattle.std.specs.Prelude.{◌≡◌, ◌≢◌, ◌⊎◌, List, ℕ}
use Rattle.ring.specs.Ring.{asking}
use Rattle.answer.specs.Report.{plain}
use Rattle.answer.specs.Words.{report_words}
use Rattle.held.specs.declared.Held.{Held}
use Rattle.transmit.specs.Take.{transmit_take}
use Rattle.transmit.specs.Finish.{transmit_finish}
use Rattle.transmit.specs.Words.{queue_of, TakeLeft, TakeLeaves, FinishLeft, FinishLeaves}

-- a take that was lent these left o; so 1, 2, 8, 14 and 17 change nothing
pub record TakeUnchanged (consumed replied mark : ℕ) (page frame : List ℕ) (l : List Held) (o : TakeLeft) : Type 0 where
  -- only 0 and 7 consume slots and change the list of records; only 7 replies
  pub counter : o.returned ≢ 0 → o.returned ≢ 7 → o.consumed ≡ consumed
  pub records : o.returned ≢ 0 → o.returned ≢ 7 → o.list ≡ l
  pub replies : o.returned ≢ 7 → o.replied ≡ replied
  -- only 3 and 5 halt the queue
  pub marks : o.returned ≢ 3 → o.returned ≢ 5 → o.mark ≡ mark
  -- only 4, 6 and 7 write to the page: 4 and 6 ask for an event
  pub pages : o.returned ≢ 4 → o.returned ≢ 6 → o.returned ≢ 7 → o.page ≡ page
  pub asks : (o.returned ≡ 4) ⊎ (o.returned ≡ 6) → o.page ≡ asking page
  -- only 0 writes to the frame buffer
  pub frames : o.returned ≢ 0 → o.frame ≡ frame
  -- only 0 and 7 report more than their number
  pub says : o.returned ≢ 0 → o.returned ≢ 7 → o.words ≡ report_words (plain o.returned)

unfoldable pub TakesUnchanged : Type 0
TakesUnchanged =
    (table window : List ℕ) (consumed replied mark : ℕ) (page frame : List ℕ) (l : List Held) (o : TakeLeft)
    → TakeLeaves (transmit_take table window (queue_of consumed replied mark) page frame l) mark o → TakeUnchanged consumed replied mark page frame l o

-- a finish not answered 0 changes nothing, and reports no more than its number
pub record FinishUnchanged (replied : ℕ) (page : List ℕ) (l : List Held) (o : FinishLeft) : Type 0 where
  pub replies : o.replied ≡ replied
  pub pages : o.page ≡ page
  pub records : o.list ≡ l
  pub says : o.words ≡ report_words (plain o.returned)

unfoldable pub FinishesUnchanged : Type 0
FinishesUnchanged =
    (consumed replied : ℕ) (page : List ℕ) (l : List Held) (ticket status : ℕ) (o : FinishLeft)
    → FinishLeaves (transmit_finish consumed replied page l ticket status) o → o.returned ≢ 0 → FinishUnchanged replied page l o
