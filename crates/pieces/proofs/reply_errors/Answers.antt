-- `reply_errors` meets its contract. Each turn is one more reply (`errors_next`), made of a request that the replies before it left as
-- it was.
use native.Mathlib.Omega.{arith}
use Rattle.receive.proofs.Pieces.{errors_next, errors_last}
use Rattle.pieces.proofs.reply_errors.Goals as goal

pub loop-i-preserved : goal.loop-i-preserved
loop-i-preserved c = let a = c.args in
    let l = c.loop-i in
    errors_next a.ring.now (omega arith) a.first a.count (omega arith) c.ahead.result l.i l.ring _ (omega arith) c.ahead.ensures l.invariant c.reply.ensures

pub returns : goal.returns
returns c = let a = c.args in
    let l = c.loop-i in
    errors_last a.ring.now (omega arith) a.first a.count (omega arith) l.i _ (omega arith) l.invariant
