-- `pages` meets its contract: a page has one run or none, on which both readers agreed.
use Rattle.std.proofs.Common.{arith}
use Rattle.tally.proofs.Agreeing.{default_nothing, nothing_agrees, agrees_own, together_agrees}
use Rattle.compare.proofs.pages.Goals as goal

pub loop-i-init : goal.loop-i-init
loop-i-init g c = let n = nothing_agrees (default_nothing c.default-all.ensures) in
    (agrees_own n, omega (arith, n.runs), omega arith)

pub loop-i-preserved : goal.loop-i-preserved
loop-i-preserved g c = let l = c.loop-i in
    let p = c.page.ensures in
    let t = together_agrees (omega arith) l.invariant.0 p.0 c.add-all.ensures in
    (agrees_own t, omega (arith, t.runs), omega arith)

pub returns : goal.returns
returns g c = (c.loop-i.invariant.0, omega arith)
