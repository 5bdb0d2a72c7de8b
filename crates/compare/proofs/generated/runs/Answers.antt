-- `generated::runs` meets its contract: one more run is agreed on, and at the end they are all.
use Rattle.std.proofs.Common.{◌≡◌, arith}
use Rattle.tally.proofs.Agreeing.{default_nothing, nothing_agrees, together_agrees}
use Rattle.compare.proofs.generated.runs.Goals as goal

pub loop-k-init : goal.loop-k-init
loop-k-init c = nothing_agrees (default_nothing c.default-all.ensures)

pub loop-k-preserved : goal.loop-k-preserved
loop-k-preserved c = together_agrees (omega arith) c.loop-k.invariant c.run.ensures c.add-all.ensures

pub returns : goal.returns
returns c = let all : c.loop-k.k ≡ 512 = omega arith in
    rw all at c.loop-k.invariant
