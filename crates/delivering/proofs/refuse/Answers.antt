-- `refuse` meets its contract: the replies, then rsp_prod behind them, are what the definition consumes (`refused`).
use Rattle.receive.proofs.Calls.{refused}
use Rattle.delivering.proofs.refuse.Goals as goal

pub returns : goal.returns
returns c = let a = c.args in
    refused a.old a.count a.ring.now a.fault.cause a.fault.place _ _ _ c.reply_errors.ensures c.spoil.ensures
