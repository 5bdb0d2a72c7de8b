-- `reply_now` meets its contract: the replies, then rsp_prod behind them, where no packet is held.
use Rattle.transmit.proofs.Settling.{replied_now}
use Rattle.settling.proofs.reply_now.Goals as goal

pub returns-then-first-replied : goal.returns-then-first-replied
returns-then-first-replied c = let a = c.args in
    replied_now a.ring.now c.told-ring a.first a.replied a.slots a.extras c.if-first-replied.true _ _ _ _ c.reply.ensures c.ahead-new.ensures c.publish.ensures
