-- What a finish answers, and what follows from it.
use Rattle.std.specs.Prelude.{◌≡◌, List, Result, Ok, Err, not, cond, ◌&&◌, ℕ, eqb}
use Rattle.ring.specs.Ring.{wadd, with_producer, notify}
use Rattle.ring.specs.declared.Side.TheVariants.{Replies}
use Rattle.answer.specs.Report.{Report, plain}
use Rattle.held.specs.declared.Held.{Held}
use Rattle.held.specs.Records.{is_status, finish, can_finish}
use Rattle.transmit.specs.Finish.{FinishEffect, unfinished, finished_report, finished}
use Rattle.finishing.specs.declared.Sent.{Sent}
use Rattle.finishing.specs.declared.Refusal.{Refusal}
use Rattle.finishing.specs.declared.Refusal.TheVariants.{BadPage, BadRecords, BadTicket}

-- the number and the words of each answer
abbrev pub report_of : Result Sent Refusal → Report
report_of (Ok s) = finished_report s.slots s.notify
report_of (Err BadPage) = plain 1
report_of (Err BadRecords) = plain 17
report_of (Err BadTicket) = plain 15

-- the counter of replies sent that it leaves
abbrev pub replied_after : ℕ → Result Sent Refusal → ℕ
replied_after replied (Ok s) = wadd replied s.slots
replied_after replied (Err e) = replied

-- a finish, so many replies being sent before, answered r and left the page and the list so: the effect e
pub record FinishGives (e : FinishEffect) (before : ℕ) (r : Result Sent Refusal) (ring : List ℕ) (l : List Held) : Type 0 where
  pub report : report_of r ≡ e.report
  pub replied : replied_after before r ≡ e.replied
  pub page : ring ≡ e.page
  pub list : l ≡ e.list

-- ---- its steps

-- on a ring page and a list that are right
abbrev pub finish_held : (consumed replied : ℕ) (page : List ℕ) → List Held → (ticket status : ℕ) → FinishEffect
finish_held consumed replied page l ticket status =
    cond (not (can_finish l ticket && is_status status)) (unfinished 15 replied page l)
    (finished consumed replied page (finish l ticket status))

-- so many slots have their replies on the page: rsp_prod is moved behind them if there are some, and it is told whether to notify
pub record Published (page : List ℕ) (replied slots : ℕ) (r : Sent) (after : List ℕ) : Type 0 where
  pub answer : r ≡ record { slots = slots; notify = notify Replies page replied (wadd replied slots) }
  pub moved : after ≡ cond (eqb slots 0) page (with_producer Replies page (wadd replied slots))
