-- A take and a finish as C has them: the queue and the report as words, and what each call leaves of all that it was lent.
use Rattle.std.specs.Prelude.{◌≡◌, List, not, ℕ, eqb}
use Rattle.answer.specs.Words.{mark_after, report_words}
use Rattle.held.specs.declared.Held.{Held}
use Rattle.transmit.specs.declared.Queue.{Queue}
use Rattle.transmit.specs.Take.{TakeEffect}
use Rattle.transmit.specs.Finish.{FinishEffect}

-- the queue that three words say: the mark is 0, or anything else for halted
abbrev pub queue_of : (consumed replied mark : ℕ) → Queue
queue_of consumed replied mark = record { consumed = consumed; replied = replied; halted = not (eqb mark 0) }

-- the number that a take returned, and what it left: the three words of the queue, the ring page, the frame buffer, the records and the
-- report's words
pub record TakeLeft : Type 0 where
  pub returned : ℕ
  pub consumed : ℕ
  pub replied : ℕ
  pub mark : ℕ
  pub page : List ℕ
  pub frame : List ℕ
  pub list : List Held
  pub words : List ℕ

-- a take that was lent this mark left what the effect e is
pub record TakeLeaves (e : TakeEffect) (lent : ℕ) (l : TakeLeft) : Type 0 where
  pub returns : l.returned ≡ e.report.answer
  pub reports : l.words ≡ report_words e.report
  pub counter : l.consumed ≡ e.queue.consumed
  pub replies : l.replied ≡ e.queue.replied
  pub marks : l.mark ≡ mark_after lent e.queue.halted
  pub pages : l.page ≡ e.page
  pub frames : l.frame ≡ e.frame
  pub records : l.list ≡ e.list

-- the number that a finish returned, and what it left: the counter of replies sent, the ring page, the records and the report's words
pub record FinishLeft : Type 0 where
  pub returned : ℕ
  pub replied : ℕ
  pub page : List ℕ
  pub list : List Held
  pub words : List ℕ

pub record FinishLeaves (e : FinishEffect) (l : FinishLeft) : Type 0 where
  pub returns : l.returned ≡ e.report.answer
  pub reports : l.words ≡ report_words e.report
  pub replies : l.replied ≡ e.replied
  pub pages : l.page ≡ e.page
  pub records : l.list ≡ e.list
