-- `reply_pieces` meets its contract. Each turn is one more reply (`pieces_next`), whose flags and status are those of piece i.
use native.Mathlib.Omega.{arith}
use Rattle.receive.proofs.Pieces.{pieces_next, pieces_last}
use Rattle.pieces.proofs.reply_pieces.Goals as goal

pub loop-i-preserved : goal.loop-i-preserved
loop-i-preserved c = let a = c.args in
    let l = c.loop-i in
    let flags = c.reply_flags in
    let status = c.piece_of-status in
    pieces_next a.ring.now (omega arith) a.first a.count (omega arith) a.frame.now c.ahead.result l.i flags.result status.result l.ring _ (omega arith)
    c.ahead.ensures flags.ensures status.ensures l.invariant c.reply.ensures

pub returns : goal.returns
returns c = let a = c.args in
    let l = c.loop-i in
    pieces_last a.ring.now (omega arith) a.first a.count (omega arith) a.frame.now l.i _ (omega arith) l.invariant
