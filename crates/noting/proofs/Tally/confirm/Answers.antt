-- The sum of slots, then the walk. Each way out is one law of `Noting`.
use Rattle.std.proofs.Common.{sym, ◌∙◌}
use Rattle.noting.proofs.Noting.{confirm_all, confirm_gap, confirm_sum}
use Rattle.noting.proofs.Tally.confirm.Goals as goal
use Rattle.noting.proofs.Tally.confirm.Goals.{else-self-between-via-then-self-between+else-chain, else-self-between-via-else-self-between}

pub returns-then-chain : goal.returns-then-chain
returns-then-chain c = confirm_all c.args.self c.args.index.now c.args.between c.if-self-between.true (sym c.chain.ensures ∙ c.if-chain.true)

pub returns-else-self-between : goal.returns-else-self-between
returns-else-self-between c = let a = c.args in
    elim c.else-self-between.branch [
      | else-self-between-via-then-self-between+else-chain w ↦ confirm_gap a.self a.index.now a.between w.if-self-between.true (sym w.chain.ensures ∙ w.if-chain.false)
      | else-self-between-via-else-self-between w ↦ confirm_sum a.self a.index.now a.between w.if-self-between.false
    ]
