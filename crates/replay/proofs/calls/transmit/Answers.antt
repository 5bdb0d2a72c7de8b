-- `replay::calls::transmit` meets its contract: the call that takes nothing is the last, or the calls are as many as there may be.
use mathlib.Core.Path.{◌≡◌, refl}
use native.Mathlib.Omega.{arith}
use Rattle.replay.specs.Calls.{most_calls, TransmitCalls}
use Rattle.replay.proofs.Calling.{transmit_more, transmit_last}
use Rattle.replay.proofs.calls.transmit.Goals as goal

pub loop-call-init : goal.loop-call-init
loop-call-init g c = let a = c.counter-consumed.ensures in
    λ after t. rw a at t

pub loop-call-preserved : goal.loop-call-preserved
loop-call-preserved g c = let r = c.transmit_call in
    λ after t. c.loop-call.invariant after (transmit_more c.loop-call-test.true c.if-not-transmit_call.false r.ensures t)

pub returns-then-not-transmit_call : goal.returns-then-not-transmit_call
returns-then-not-transmit_call g c = let r = c.transmit_call in
    c.loop-call.invariant _ (transmit_last c.loop-call-test.true c.if-not-transmit_call.true r.ensures refl)

pub returns : goal.returns
returns g c = let l = c.loop-call in
    let z : l.call ≡ most_calls = omega arith in
    l.invariant _ (rw z (TransmitCalls.most refl))
