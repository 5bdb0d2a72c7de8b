-- `answer` meets its contract: what is handed over, or what is decided on the frame buffer as it was (`decided_as`).
use Rattle.listing.proofs.Laws.{decided_as}
use Rattle.listing.proofs.Batch.answer.Goals as goal

pub returns-in-Some : goal.returns-in-Some
returns-in-Some c = c.hand_over.ensures.some _ c.in-Some.is

pub returns-in-None : goal.returns-in-None
returns-in-None c = let a = c.args in
    decided_as a.grants.now a.window.now a.self.now.queue a.self.now.good a.self.now.free c.is_none-full.result c.is_none-full.ensures a.ring.now a.frame.now _
    (c.hand_over.ensures.none c.in-None.is) _ _ _ c.decide.ensures
