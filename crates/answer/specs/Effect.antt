-- What a call leaves of what it was lent.
use Rattle.std.specs.Prelude.{◌≡◌, List, Bool, cond, ℕ}
use Rattle.ring.specs.Ring.{wadd, asking, notify, with_producer}
use Rattle.ring.specs.declared.Side.TheVariants.{Replies}
use Rattle.answer.specs.declared.Queue.{Queue}
use Rattle.answer.specs.declared.Outcome.{Outcome}
use Rattle.answer.specs.Report.{Report, halt, go_on, halts, asks, plain, report_of}

-- the report, the queue, the ring page, and the buffer that the call may write: of a receive call the window
pub record Effect : Type 0 where
  pub report : Report
  pub queue : Queue
  pub page : List ℕ
  pub buffer : List ℕ

-- an answer that consumes nothing, with what it leaves
abbrev pub refusal : ℕ → Queue → List ℕ → List ℕ → Effect
refusal n q page buffer = record {
  report = plain n;
  queue = cond (halts n) (halt q) q;
  page = cond (asks n) (asking page) page;
  buffer = buffer;
}

-- so many slots from counter c on are consumed, whose replies stand in the page: rsp_prod goes behind them, and the report says whether
-- to notify. Replies leave rsp_event, so that it makes no difference when it is read (`notify_replied` in ring)
unfoldable pub consume : (Bool → Report) → (c slots : ℕ) (replied buffer : List ℕ) → Effect
consume report c slots replied buffer = record {
  report = report (notify Replies replied c (wadd c slots));
  queue = go_on (wadd c slots);
  page = with_producer Replies replied (wadd c slots);
  buffer = buffer;
}

-- a call returned r and left the page and the buffer so: the effect e
pub record Gives (e : Effect) (r : Outcome) (ring written : List ℕ) : Type 0 where
  pub report : report_of r.answer ≡ e.report
  pub queue : r.queue ≡ e.queue
  pub page : ring ≡ e.page
  pub buffer : written ≡ e.buffer
