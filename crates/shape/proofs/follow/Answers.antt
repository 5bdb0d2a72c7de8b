-- `shape::follow` meets its contract: the extras that are seen are the first of the slots, the later data slots stand behind them.
use Rattle.shape.proofs.Reading.{follows_wrong, follows_right}
use Rattle.shape.proofs.follow.Goals as goal

pub returns-then-chain : goal.returns-then-chain
returns-then-chain c = let a = c.args in
    follows_right a.run.now a.from a.count a.later a.extras _ c.min-seen.ensures _ c.chain.ensures c.if-chain.true _ c.chain-then-chain.ensures

pub returns-else-chain : goal.returns-else-chain
returns-else-chain c = let a = c.args in
    follows_wrong a.run.now a.from a.count a.later a.extras _ c.min-seen.ensures _ c.chain.ensures c.if-chain.false
