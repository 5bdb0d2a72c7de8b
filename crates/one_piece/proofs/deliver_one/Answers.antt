-- `deliver_one` meets its contract: page, reply, then rsp_prod behind it, are what the definition consumes (`one_delivered`).
use Rattle.receive.proofs.Calls.{one_delivered}
use Rattle.one_piece.proofs.deliver_one.Goals as goal

pub returns : goal.returns
returns c = let a = c.args in
    one_delivered a.old a.ring.now a.window.now a.frame.now c.requires.0 a.page _ _ _ _ c.reply.ensures
    (rw c.summary_of.ensures at c.finish.ensures) c.write.ensures
