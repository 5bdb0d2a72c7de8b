-- What a take comes to, told of its list and with its record kept in it.
use Rattle.std.specs.Prelude.{◌≡◌, List, Option, None, Some, is_some, false, cond, ℕ}
use Rattle.held.specs.declared.Held.{Held}
use Rattle.held.specs.Records.{added}
use Rattle.transmit.specs.Take.{TakeEffect}
use Rattle.transmit.specs.declared.Queue.{Queue}
use Rattle.transmit.specs.declared.Answer.{Answer}
use Rattle.transmit.specs.Stages.{report_of, takes, queue_after, record_of, Lent}
use Rattle.concluding.specs.declared.Taken.{Taken}

-- the record that a packet takes, none where nothing is taken
abbrev pub record_taken : Queue → Answer → Option Held
record_taken q a = cond (takes a) (Some (record_of q a)) None

-- the ticket in a record, 0 where there is none
abbrev pub ticket_in : Option Held → ℕ
ticket_in None = 0
ticket_in (Some h) = h.ticket

-- the list with a record kept in the first free one's place, if there is one to keep
abbrev pub kept_in : List Held → Option Held → List Held
kept_in l None = l
kept_in l (Some h) = added l h

-- what a take with this answer on the queue q comes to
pub record TakenFor (q : Queue) (a : Answer) (t : Taken) : Type 0 where
  pub answers : t.answer ≡ a
  pub queue : t.queue ≡ queue_after q a
  pub ticket : t.ticket ≡ ticket_in (record_taken q a)
  pub keeps : t.record ≡ record_taken q a

-- the effect e on the queue q and the list l, the record not stored yet
pub record Concludes (e : TakeEffect) (q : Queue) (l : List Held) (t : Taken) (ring written : List ℕ) : Type 0 where
  pub report : report_of t.ticket t.answer ≡ e.report
  pub queue : t.queue ≡ e.queue
  pub page : ring ≡ e.page
  pub frame : written ≡ e.frame
  pub list : kept_in l t.record ≡ e.list
  pub room : (h : Held) → t.record ≡ Some h → Lent q.consumed q.replied false l

-- the same, and it takes what its answer says
pub record ConcludesAs (e : TakeEffect) (q : Queue) (l : List Held) (t : Taken) (ring written : List ℕ) : Type 0 where
  pub concludes : Concludes e q l t ring written
  pub takings : is_some t.record ≡ takes t.answer

-- the effect e
pub record TakenAs (e : TakeEffect) (t : Taken) (ring written : List ℕ) (list : List Held) : Type 0 where
  pub report : report_of t.ticket t.answer ≡ e.report
  pub queue : t.queue ≡ e.queue
  pub page : ring ≡ e.page
  pub frame : written ≡ e.frame
  pub records : list ≡ e.list
