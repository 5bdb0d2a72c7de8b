-- `take_many` meets its contract: what was asked at the start is what is left to do (`ToDo`), turn by turn, and nothing is left behind the last take
-- or the first that takes nothing.
use mathlib.Core.Path.{◌≡◌, refl, ap}
use mathlib.Core.Bool.{Bool, cond}
use Prim.Native.Nat.{ℕ, suc, ◌+◌, ◌-◌}
use native.Mathlib.Omega.{arith}
use Rattle.batch.specs.Batch.{Progress, begun}
use Rattle.batching.proofs.Course.{ToDo, to_do_at, to_do_start, to_do_next, to_do_none}
use Rattle.batching.proofs.take_many.Goals as goal
use Rattle.batching.proofs.take_many.Goals.{After-take_next}

pub loop-init : goal.loop-init
loop-init c = let a = c.args in
    let s = c.begin-batch.ensures in
    record {
      known = s.known;
      filled = omega (arith, s.filled);
      bounded = omega (arith, s.filled);
      counted = s.count;
      to_do = to_do_at a.grants.now a.window.now a.most (begun a.queue a.ring.now a.frame.now a.list.now) a.results.now _ _ _ _ _ _ _ (omega arith)
          (to_do_start a.grants.now a.window.now a.most a.queue a.ring.now a.list.now a.frame.now a.results.now _ s);
    }

-- what is left behind a take
next : (c : After-take_next) → ToDo c.args.grants.now c.args.window.now c.args.most (begun c.args.queue c.args.ring.now c.args.frame.now c.args.list.now) c.args.results.now
    (cond c.take_next.result (c.args.most - (c.loop.counter + 1)) 0) c.take_next.new.batch c.take_next.new.ring c.take_next.new.list c.take_next.new.frame c.take_next.new.results
next c = let a = c.args in
    let k = c.loop in
    let start : Progress = begun a.queue a.ring.now a.frame.now a.list.now in
    to_do_next a.grants.now a.window.now a.most start a.results.now k.batch k.ring k.list k.frame k.results (a.most - (k.counter + 1))
    (to_do_at a.grants.now a.window.now a.most start a.results.now _ (suc (a.most - (k.counter + 1))) _ _ _ _ _ (omega (arith, c.loop-test.true)) k.invariant.to_do)
    (omega (arith, k.invariant.counted, c.loop-test.true, c.requires.0, k.auto.results)) _ _ _ _ _ _ c.take_next.ensures.1

pub loop-preserved : goal.loop-preserved
loop-preserved c = let a = c.args in
    let fits = c.take_next.ensures.0 in
    record {
      known = λ h. fits.known c.if-not-take_next.false;
      filled = fits.filled;
      bounded = fits.bounded;
      counted = omega (arith, c.take_next.ensures.1.count, c.loop.invariant.counted);
      to_do = to_do_at a.grants.now a.window.now a.most (begun a.queue a.ring.now a.frame.now a.list.now) a.results.now _ _ _ _ _ _ _
          (ap (λ (b : Bool). cond b (a.most - (c.loop.counter + 1)) 0) c.if-not-take_next.false) (next (goal.at.loop-preserved c).After-take_next);
    }

pub returns-then-not-take_next : goal.returns-then-not-take_next
returns-then-not-take_next c = let a = c.args in
    to_do_none a.grants.now a.window.now a.most (begun a.queue a.ring.now a.frame.now a.list.now) a.results.now _ _ _ _ _ _
    (next (goal.at.returns-then-not-take_next c).After-take_next) (ap (λ (b : Bool). cond b (a.most - (c.loop.counter + 1)) 0) c.if-not-take_next.true)
