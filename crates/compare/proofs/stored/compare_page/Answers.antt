-- `stored::compare_page` meets its contract: at most 256 slots are taken, so that they fit the run.
use Rattle.std.proofs.Common.{◌≡◌, ℕ, ◌<◌, ◌≤◌, List, le-leb}
use borrow.Author.Tests.{lt-leb}
use Rattle.ring.specs.Ring.{rsp_prod, posted}
use Rattle.netif.specs.Slot.{slot_count}
use Rattle.runs.specs.Stored.{runs_of}
use Rattle.tally.proofs.Agreeing.{default_nothing, nothing_agrees}
use Rattle.compare.proofs.stored.compare_page.Goals as goal

module _ (page : List ℕ) (from n : ℕ) (p : from ≡ rsp_prod page) (q : n ≡ posted page from) where
  no_run : slot_count < n → runs_of page ≡ 0
  no_run h = rw (← p, ← q, lt-leb n slot_count h)

  one-run : n ≤ slot_count → runs_of page ≡ 1
  one-run h = rw (← p, ← q, le-leb n slot_count h)

pub returns-then-posted-gt-COUNT : goal.returns-then-posted-gt-COUNT
returns-then-posted-gt-COUNT g c = rw (no_run c.args.page.now _ _ c.counter-from.ensures c.posted-posted.ensures c.if-posted-gt-COUNT.true) (nothing_agrees (default_nothing c.default.ensures))

pub returns : goal.returns
returns g c = rw (one-run c.args.page.now _ _ c.counter-from.ensures c.posted-posted.ensures c.if-posted-gt-COUNT.false) c.compare_run.ensures
