-- A batch as C has it: the queue and the results as words, and what the call leaves of all that it was lent.
use Rattle.std.specs.Prelude.{◌≡◌, List, [], ◌∷◌, ℕ}
use Rattle.answer.specs.Words.{mark_after}
use Rattle.held.specs.declared.Held.{Held}
use Rattle.batch.specs.Batch.{BatchEffect}

-- the number that it returned, and what it left: the three words of the queue, the ring page, the frame buffer, the records, the list of
-- results and its own two words
pub record BatchLeft : Type 0 where
  pub returned : ℕ
  pub consumed : ℕ
  pub replied : ℕ
  pub mark : ℕ
  pub page : List ℕ
  pub frame : List ℕ
  pub list : List Held
  pub results : List (List ℕ)
  pub words : List ℕ

-- a batch that was lent this mark left what the effect e is
pub record BatchLeaves (e : BatchEffect) (lent : ℕ) (l : BatchLeft) : Type 0 where
  pub returns : l.returned ≡ e.answer
  pub reports : l.words ≡ e.answer ∷ e.count ∷ []
  pub counter : l.consumed ≡ e.queue.consumed
  pub replies : l.replied ≡ e.queue.replied
  pub marks : l.mark ≡ mark_after lent e.queue.halted
  pub pages : l.page ≡ e.page
  pub frames : l.frame ≡ e.frame
  pub records : l.list ≡ e.list
  pub listings : l.results ≡ e.results
