-- `put_later` meets its contract: what is left of the loop is what is left of the slots (`later_next`).
use Rattle.std.proofs.Common.{◌∙◌}
use Rattle.frontend.proofs.Stored.{later_next}
use Rattle.posting.proofs.put_later.Goals as goal

pub loop-i-preserved : goal.loop-i-preserved
loop-i-preserved c = let a = c.args in
    c.loop-i.invariant
    ∙ later_next a.later.now a.frame.now a.first c.loop-i.ring _ c.loop-i.i _ _ _ c.loop-i-test.true c.ahead-n.ensures c.flags-flags.ensures c.piece_of-size.ensures c.put_data.ensures
