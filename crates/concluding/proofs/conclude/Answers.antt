-- `conclude` meets its contract: what a take with the answer comes to (`concludes`).
use mathlib.Core.Path.{sym, ap, ◌∙◌}
use Rattle.std.specs.Prelude.{is_none}
use Rattle.concluding.proofs.Answers.{concludes, none_told}
use Rattle.concluding.proofs.conclude.Goals as goal

pub returns : goal.returns
returns c l found = concludes _ c.args.queue l _ _ _ _
    (c.decide-answer.ensures l (record {
      soundness = found.soundness ∙ sym c.is_some.ensures;
      fullness = λ h. found.fullness (sym c.is_some.ensures ∙ h) ∙ ap is_none (sym c.free_in.ensures) ∙ sym (none_told c.free_in.result c.is_none-full.result c.is_none-full.ensures);
    }))
    c.taken_of.ensures
