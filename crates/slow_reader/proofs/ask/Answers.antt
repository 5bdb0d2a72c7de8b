-- `slow_reader::ask` meets its contract. The invariant: the slots begin no packet of fewer extras. Slots that begin a packet agree with its
-- shape, which is within the limit, so that it was tried.
use Prim.Native.Nat.{suc}
use native.Mathlib.Omega.{arith}
use borrow.Author.Count.{below_more}
use Rattle.grammar.proofs.Within.{within_extras}
use Rattle.division.specs.Run.{slots_in}
use Rattle.division.proofs.Shapes.{begins_shape}
use Rattle.slow_reader.proofs.ask.Goals as goal

pub loop-extras-init : goal.loop-extras-init
loop-extras-init c = λ e h. absurd (omega arith)

pub loop-extras-preserved : goal.loop-extras-preserved
loop-extras-preserved c = let l = c.loop-extras in
    below_more _ _ l.invariant c.in_default.ensures

pub returns : goal.returns
returns c = let a = c.args in
    λ b.
    let (d, e, w, n, h) = begins_shape (slots_in a.run.now a.at a.n) b in
    c.loop-extras.invariant e (omega (arith, within_extras (suc d) e w)) d w n h
