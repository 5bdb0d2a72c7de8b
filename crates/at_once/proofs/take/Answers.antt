-- `take` meets its contract: what the two calls left is what is promised (`called_done`, `called_other`).
use mathlib.Core.Path.{refl}
use Rattle.at_once.proofs.Lent.{called_done, called_other}
use Rattle.at_once.proofs.take.Goals as goal

pub returns-then-answer-ne-DONE : goal.returns-then-answer-ne-DONE
returns-then-answer-ne-DONE c = let t = c.tollmeander_transmit_take-answer in
    called_other c.args.grants.now c.args.window.now c.args.frame.now c.args.finish.now
    (record { consumed = c.args.consumed.now; replied = c.args.replied.now; mark = c.args.halted.now; page = c.args.ring.now })
    refl
    (record {
      returned = t.result;
      consumed = t.new.consumed;
      replied = t.new.replied;
      mark = t.new.halted;
      page = t.new.ring;
      frame = t.new.frame;
      list = t.new.held;
      words = t.new.report;
    })
    t.ensures c.if-answer-ne-DONE.true

pub returns : goal.returns
returns c = let t = c.tollmeander_transmit_take-answer in
    let f = c.tollmeander_transmit_finish in
    called_done c.args.grants.now c.args.window.now c.args.frame.now c.args.finish.now
    (record { consumed = c.args.consumed.now; replied = c.args.replied.now; mark = c.args.halted.now; page = c.args.ring.now })
    refl
    (record {
      returned = t.result;
      consumed = t.new.consumed;
      replied = t.new.replied;
      mark = t.new.halted;
      page = t.new.ring;
      frame = t.new.frame;
      list = t.new.held;
      words = t.new.report;
    })
    t.ensures
    (record { returned = f.result; replied = f.new.replied; page = f.new.ring; list = f.new.held; words = f.new.report })
    c.if-answer-ne-DONE.false refl f.ensures
