-- `stored::compare` meets its contract: a page has one run or none.
use Rattle.std.proofs.Common.{ℕ, ◌≤◌, Bool, true, false, cond, leb, List, arith}
use Rattle.ring.specs.Ring.{rsp_prod, posted}
use Rattle.netif.specs.Slot.{slot_count}
use Rattle.runs.specs.Stored.{runs_of}
use Rattle.tally.proofs.Agreeing.{agrees_own}
use Rattle.compare.proofs.stored.compare.Goals as goal

one-or-none : (page : List ℕ) → runs_of page ≤ 1
one-or-none page = go (leb (posted page (rsp_prod page)) slot_count)
  where
    go : (b : Bool) → cond b 1 0 ≤ 1
    go true = omega arith
    go false = omega arith

pub returns : goal.returns
returns g c = let a = c.compare_page.ensures in
    (agrees_own a, omega (arith, a.runs, one-or-none))
