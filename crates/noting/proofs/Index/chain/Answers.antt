-- What the walk tells from the oldest slot on, it tells from here on. Each way out is one law of `Chaining`.
use Rattle.std.proofs.Common.{arith}
use Rattle.noting.proofs.Chaining.{met_start, met_end, met_none, met_next}
use Rattle.noting.proofs.Index.chain.Goals as goal

pub loop-offset-init : goal.loop-offset-init
loop-offset-init c = met_start c.args.self.now c.args.between

pub returns-then-slots-eq0 : goal.returns-then-slots-eq0
returns-then-slots-eq0 c = let turn = c.loop-offset in
    met_none c.args.self.now c.args.between turn.offset turn.invariant c.requires c.loop-offset-test.true
    (rw (← c.slots-slots.ensures.value) c.if-slots-eq0.true)

pub overflow_add-offset : goal.overflow_add-offset
overflow_add-offset c = record { fits = omega (arith, c.loop-offset.invariant.bound, c.slots-slots.ensures.few) }

pub loop-offset-smaller : goal.loop-offset-smaller
loop-offset-smaller c = omega (arith, c.loop-offset-test.true, c.if-slots-eq0.false)

pub loop-offset-preserved : goal.loop-offset-preserved
loop-offset-preserved c = let turn = c.loop-offset in
    let read = c.slots-slots.ensures in
    rw read.value
    (met_next c.args.self.now c.args.between turn.offset turn.invariant c.requires c.loop-offset-test.true
    (rw (← read.value) c.if-slots-eq0.false) (rw (← read.value) read.few))

pub returns : goal.returns
returns c = met_end c.args.self.now c.args.between c.loop-offset.offset c.loop-offset.invariant c.loop-offset-test.false
