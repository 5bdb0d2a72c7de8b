-- `deliver` meets its contract: the pieces, the replies, then rsp_prod behind them, are what the definition consumes (`delivered`).
use native.Mathlib.Omega.{arith}
use lib.ListN.{length}
use Rattle.receive.proofs.Calls.{needed_few, needed_cover, needed_reach, delivered}
use Rattle.delivering.proofs.deliver.Goals as goal

pub overflow_cast-count : goal.overflow_cast-count
overflow_cast-count c = omega (arith, needed_few (length c.args.frame.now) c.requires.0)

pub scatter-requires : goal.scatter-requires
scatter-requires c = let n = length c.args.frame.now in (omega (arith, needed_cover n), omega (arith, needed_reach n), c.requires.2)

pub reply_pieces-requires : goal.reply_pieces-requires
reply_pieces-requires c = let n = length c.args.frame.now in (omega (arith, needed_few n c.requires.0), omega (arith, needed_cover n))

pub returns : goal.returns
returns c = let a = c.args in
    delivered a.old (length a.pages.now) a.ring.now a.pages.now a.window.now a.frame.now _ _ _ _ c.reply_pieces.ensures
    (rw c.summary_of.ensures at c.finish.ensures) c.scatter.ensures
