-- `shape::chain` meets its contract: the first slot that is not right ends the loop, and after the last none is left.
use Rattle.std.proofs.Common.{sym, ◌∙◌}
use Rattle.shape.proofs.Reading.{asked_all, asked_none, asked_wrong, asked_next}
use Rattle.shape.proofs.chain.Goals as goal

pub loop-j-init : goal.loop-j-init
loop-j-init g c = asked_all _ _ c.args.n c.args.run.now c.args.from c.args.count

pub returns-then-not-link : goal.returns-then-not-link
returns-then-not-link g c = sym (c.loop-j.invariant ∙ asked_wrong _ _ _ _ _ _ _ c.loop-j-test.true _ c.link.ensures c.if-not-link.true)

pub loop-j-preserved : goal.loop-j-preserved
loop-j-preserved g c = c.loop-j.invariant ∙ asked_next _ _ _ _ _ _ _ c.loop-j-test.true _ c.link.ensures c.if-not-link.false

pub returns : goal.returns
returns g c = sym (c.loop-j.invariant ∙ asked_none _ _ _ _ _ _ _ c.loop-j-test.false)
