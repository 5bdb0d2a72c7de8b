-- One finish: the host's word on a ticket, okay, error or dropped. Replies leave in the order of taking, as far as finished packets reach.
use Rattle.std.specs.Prelude.{List, Bool, not, cond, ◌&&◌, ℕ, length, eqb}
use Rattle.ring.specs.Ring.{page_size, notify}
use Rattle.ring.specs.declared.Side.TheVariants.{Replies}
use Rattle.answer.specs.Report.{Report, plain, done_report, plain_summary}
use Rattle.held.specs.declared.Held.{Held}
use Rattle.held.specs.Records.{is_status, slots_held, finish, can_finish}
use Rattle.held.specs.Valid.{valid}
use Rattle.held.specs.Release.{settle}
use Rattle.transmit.specs.Take.{replied_page}

-- what a finish leaves: its report, the counter of replies sent, the ring page and the list of records
pub record FinishEffect : Type 0 where
  pub report : Report
  pub replied : ℕ
  pub page : List ℕ
  pub list : List Held

-- 1, 15 and 17 change nothing
abbrev pub unfinished : ℕ → (replied : ℕ) (page : List ℕ) → List Held → FinishEffect
unfinished n replied page l = record { report = plain n; replied = replied; page = page; list = l }

-- done: slots replied to, and notify
abbrev pub finished_report : (slots : ℕ) (notified : Bool) → Report
finished_report slots notified = done_report (plain_summary slots 0) notified

-- the list l has the packet finished: what can leave leaves
unfoldable pub finished : (consumed replied : ℕ) (page : List ℕ) → List Held → FinishEffect
finished consumed replied page l =
    let s = settle consumed replied l in
    record {
      report = finished_report (slots_held s.gone) (notify Replies page replied s.replied);
      replied = s.replied;
      page = replied_page page replied s.gone s.replied;
      list = s.list;
    }

-- 1, 17 and 15 are tested, in this order, and nothing else: whether the ring is halted is not asked
unfoldable pub transmit_finish : (consumed replied : ℕ) (page : List ℕ) → List Held → (ticket status : ℕ) → FinishEffect
transmit_finish consumed replied page l ticket status =
    cond (not (eqb (length page) page_size)) (unfinished 1 replied page l)
    (cond (not (valid consumed replied l)) (unfinished 17 replied page l)
    (cond (not (can_finish l ticket && is_status status)) (unfinished 15 replied page l)
    (finished consumed replied page (finish l ticket status))))
