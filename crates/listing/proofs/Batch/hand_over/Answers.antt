-- `hand_over` meets its contract: a packet of one slot that is handed over is what the take comes to (`hands_over`).
use Rattle.std.proofs.Common.{rules}
use Rattle.listing.proofs.Laws.{full_told, hands_over}
use Rattle.listing.proofs.Batch.hand_over.Goals as goal

pub returns-clause-some : goal.returns-clause-some
returns-clause-some c = let a = c.args in
    hands_over a.grants.now a.window.now a.self.now.queue a.self.now.good c.is_none.result _ c.in_ok-page.page.now a.ring.now a.frame.now _ (search rules)
    (full_told a.self.now.free c.is_none.result c.is_none.ensures) (c.comes_to_one.ensures c.if-not-comes_to_one.false) _ c.hand_over.ensures.0 c.hand_over.ensures.1
