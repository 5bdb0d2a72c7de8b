-- The C interface: what each call leaves of all that it was lent.
use Rattle.std.specs.Prelude.{◌≡◌, List, cond, ℕ, eqb, Option, Some, None}
use Rattle.answer.specs.Words.{report_words, Left, Leaves}
use Rattle.answer.specs.Words.{queue_of as receiveQueueOf}
use Rattle.held.specs.declared.Held.{Held}
use Rattle.transmit.specs.Take.{transmit_take}
use Rattle.transmit.specs.Finish.{transmit_finish}
use Rattle.transmit.specs.Words.{queue_of, TakeLeft, TakeLeaves, FinishLeft, FinishLeaves}
use Rattle.receive.specs.Put.{receive_put}
use Rattle.frontend.specs.declared.Gso.{Gso}
use Rattle.frontend.specs.Post.{post}

-- a take, lent grants, a window, a queue's three words, a ring page, a list of records and a frame buffer
abbrev pub TakeCallLeaves : (grants window : List ℕ) (consumed replied mark : ℕ) (ring : List ℕ) (list : List Held) (frame : List ℕ) → TakeLeft → Type 0
TakeCallLeaves grants window consumed replied mark ring list frame l = TakeLeaves (transmit_take grants window (queue_of consumed replied mark) ring frame list) mark l

-- a finish, lent a queue's two counters, a ring page and a list of records, with a ticket and its status
abbrev pub FinishCallLeaves : (consumed replied : ℕ) (ring : List ℕ) (list : List Held) (ticket status : ℕ) → FinishLeft → Type 0
FinishCallLeaves consumed replied ring list ticket status l = FinishLeaves (transmit_finish consumed replied ring list ticket status) l

-- a receive call, lent grants, a window, a queue's two words, a ring page and a frame
abbrev pub ReceiveLeaves : (grants window : List ℕ) (consumed mark : ℕ) (ring frame : List ℕ) → Left → Type 0
ReceiveLeaves grants window consumed mark ring frame l = Leaves (receive_put grants (receiveQueueOf consumed mark) ring window frame) mark l

-- what each leaves, lent on, says the queue that the definition leaves: the next call goes on with it
pub record LentOn : Type 0 where
  pub takes : (grants window : List ℕ) (consumed replied mark : ℕ) (ring : List ℕ) (list : List Held) (frame : List ℕ) (l : TakeLeft)
      → TakeCallLeaves grants window consumed replied mark ring list frame l
      → queue_of l.consumed l.replied l.mark ≡ (transmit_take grants window (queue_of consumed replied mark) ring frame list).queue
  -- a finish is not lent the mark, and leaves the counter of slots consumed
  pub finishes : (consumed replied mark : ℕ) (ring : List ℕ) (list : List Held) (ticket status : ℕ) (l : FinishLeft)
      → FinishCallLeaves consumed replied ring list ticket status l
      → queue_of consumed l.replied mark ≡ queue_of consumed (transmit_finish consumed replied ring list ticket status).replied mark
  pub receives : (grants window : List ℕ) (consumed mark : ℕ) (ring frame : List ℕ) (l : Left)
      → ReceiveLeaves grants window consumed mark ring frame l
      → receiveQueueOf l.consumed l.mark ≡ (receive_put grants (receiveQueueOf consumed mark) ring window frame).queue

-- the gso that three words say: none where the first is 0
unfoldable pub gso_of : (given size type : ℕ) → Option Gso
gso_of given size type = cond (eqb given 0) None (Some (record { size = size; kind = type }))

-- posting, lent a count of replies read, gso words, grants, a window, a ring page, references and a frame
pub record PostLeaves (grants window : List ℕ) (read given size type : ℕ) (ring refs frame : List ℕ) (returned : ℕ) (ringAfter windowAfter words : List ℕ) : Type 0 where
  pub returns : returned ≡ (post grants ring window read (gso_of given size type) refs frame).report.answer
  pub reports : words ≡ report_words (post grants ring window read (gso_of given size type) refs frame).report
  pub page : ringAfter ≡ (post grants ring window read (gso_of given size type) refs frame).page
  pub pages : windowAfter ≡ (post grants ring window read (gso_of given size type) refs frame).window
