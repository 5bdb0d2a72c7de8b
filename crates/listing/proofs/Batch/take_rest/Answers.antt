-- `take_rest` meets its contract: what is lent of the frame buffer is given back behind the bytes filled (`rest_concludes`).
use Rattle.listing.proofs.Laws.{concludes_as, rest_concludes}
use Rattle.listing.proofs.Batch.take_rest.Goals as goal

pub returns : goal.returns
returns c l found = let a = c.args in
    rest_concludes a.grants.now a.window.now a.self.now.queue a.ring.now a.frame.now a.self.now.filled l _ _ _ c.requires
    (concludes_as _ a.self.now.queue l _ _ _ _ (c.answer-answer.ensures l found) c.taken_of.ensures)
