-- `replay::calls::receive` meets its contract: the call that takes nothing is the last, or the calls are as many as there may be.
use mathlib.Core.Path.{◌≡◌}
use native.Mathlib.Omega.{arith}
use Rattle.replay.specs.Calls.{most_calls, ReceiveCalls}
use Rattle.replay.proofs.Calling.{receive_more, receive_last}
use Rattle.replay.proofs.calls.receive.Goals as goal

pub loop-call-init : goal.loop-call-init
loop-call-init g c = let a = c.counter-consumed.ensures in
    λ after windowAfter t. rw a at t

pub loop-call-preserved : goal.loop-call-preserved
loop-call-preserved g c = let r = c.receive_call in
    λ after windowAfter t. c.loop-call.invariant after windowAfter (receive_more c.loop-call-test.true c.if-not-receive_call.false r.ensures t)

pub returns-then-not-receive_call : goal.returns-then-not-receive_call
returns-then-not-receive_call g c = let r = c.receive_call in
    c.loop-call.invariant _ _ (receive_last c.loop-call-test.true c.if-not-receive_call.true r.ensures)

pub returns : goal.returns
returns g c = let l = c.loop-call in
    let z : l.call ≡ most_calls = omega arith in
    l.invariant _ _ (rw z ReceiveCalls.most)
