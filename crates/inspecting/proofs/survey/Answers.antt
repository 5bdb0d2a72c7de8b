-- Each turn notes one record.
use Rattle.std.proofs.Common.{◌≡◌, ℕ, length, refl, arith}
use Rattle.inspecting.proofs.Turns.{turn_start, turn_next, turn_refused, turn_invalid, turn_end, turn_tickets}
use Rattle.inspecting.proofs.survey.Goals as goal

pub loop-i-init : goal.loop-i-init
loop-i-init c = let a = c.args in turn_start a.list.now a.replied a.between a.index.now c.requires.2 c.new-tally.result c.new-tally.ensures

pub returns-in_err-tally : goal.returns-in_err-tally
returns-in_err-tally c = let a = c.args in let t = c.loop-i in let n = c.note in
    rw c.from_residual.ensures
    (record {
      found = turn_refused a.list.now a.replied a.between a.index.now t.index t.tally t.i t.invariant c.loop-i-test.true _ refl n.new.index n.result n.ensures.notes c.in_err-tally.was;
      tickets = λ h. cc;
      refused = λ _ k apart. turn_invalid a.list.now a.replied a.between a.index.now t.index t.tally t.i t.invariant c.loop-i-test.true _ refl n.new.index n.result n.ensures.notes c.ranges.replied.fits c.requires.1 n.ensures.word c.in_err-tally.was k apart;
    })

pub loop-i-preserved : goal.loop-i-preserved
loop-i-preserved c = let a = c.args in let t = c.loop-i in let n = c.note in
    turn_next a.list.now a.replied a.between a.index.now t.index t.tally t.i t.invariant c.loop-i-test.true _ refl n.new.index n.result n.ensures.notes c.ranges.replied.fits c.requires.1 n.ensures.word c.in_ok-tally.tally c.in_ok-tally.was

pub returns : goal.returns
returns c = let a = c.args in let t = c.loop-i in
    let all : t.i ≡ length a.list.now = omega (arith, c.loop-i-test.false, t.auto.i-end) in
    record {
      found = turn_end a.list.now a.replied a.between a.index.now t.index t.tally t.i t.invariant all;
      tickets = λ h. turn_tickets a.list.now a.replied a.between a.index.now t.index t.tally t.i t.invariant all;
      refused = λ h. cc;
    }
