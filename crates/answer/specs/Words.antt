-- A call as C has it: the queue and the report as words, and what the call leaves of all that it was lent.
use Rattle.std.specs.Prelude.{◌≡◌, List, [], ◌∷◌, Bool, not, cond, ℕ, eqb}
use Rattle.answer.specs.declared.Queue.{Queue}
use Rattle.answer.specs.Report.{Report, flag}
use Rattle.answer.specs.Effect.{Effect}

-- the queue that two words say: the mark is 0, or anything else for halted
abbrev pub queue_of : (consumed mark : ℕ) → Queue
queue_of consumed mark = record { consumed = consumed; halted = not (eqb mark 0) }

-- the mark after a call: 1 where the call halted the queue, else as it was
unfoldable pub mark_after : (mark : ℕ) (halted : Bool) → ℕ
mark_after mark halted = cond (eqb mark 0) (flag halted) mark

-- the eleven words of a report, in order
unfoldable pub report_words : Report → List ℕ
report_words r =
    r.answer ∷ r.cause ∷ r.place ∷ r.slots ∷ r.notifies ∷ r.total ∷ r.blank ∷ r.validated ∷ r.gso_size_word ∷ r.gso_type_word ∷ r.ticket_word ∷ []

-- the number that a call returned, and what it left: the two words of the queue, the ring page, the buffer and the report's words
pub record Left : Type 0 where
  pub returned : ℕ
  pub consumed : ℕ
  pub mark : ℕ
  pub page : List ℕ
  pub buffer : List ℕ
  pub words : List ℕ

-- a call that was lent this mark left what the effect e is
pub record Leaves (e : Effect) (lent : ℕ) (l : Left) : Type 0 where
  pub returns : l.returned ≡ e.report.answer
  pub reports : l.words ≡ report_words e.report
  pub counter : l.consumed ≡ e.queue.consumed
  pub marks : l.mark ≡ mark_after lent e.queue.halted
  pub pages : l.page ≡ e.page
  pub buffers : l.buffer ≡ e.buffer
