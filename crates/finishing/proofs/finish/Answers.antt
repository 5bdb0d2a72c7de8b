-- Each way out is one law of `Answers`.
use Rattle.std.proofs.Common.{◌≡◌, is_some, sym, ap, ◌∙◌, length}
use Rattle.std.proofs.lemmas.Result.{err_from_is_err_and}
use Rattle.finishing.specs.declared.Refusal.TheVariants.{BadRecords}
use Rattle.finishing.proofs.Answers.{refusal_is, finish_page, finish_records, finish_valid}
use Rattle.finishing.proofs.finish.Goals as goal
use Rattle.finishing.proofs.finish.Goals.{In-Some}

pub returns-in_default : goal.returns-in_default
returns-in_default c = let a = c.args in
    finish_page a.list.now a.consumed a.replied a.ring.now a.ticket a.status c.in_default.ensures.cases

-- the page's bytes are the slice's
same : (c : In-Some) → c.in-Some.ring.now ≡ c.args.ring.now
same c = c.in-Some.ensures.cases.same

size : (c : In-Some) → length c.in-Some.ring.now ≡ 4096
size c = ap length c.in-Some.ensures.cases.same ∙ c.in-Some.ensures.cases.long

pub returns-in_err-tally : goal.returns-in_err-tally
returns-in_err-tally c = let a = c.args in
    let p = err_from_is_err_and c.from_residual.result c.from_residual.ensures.1 in
    let e = refusal_is _ BadRecords c.inspect-found.result c.in_err-tally.ensures.ok_part c.in_err-tally.ensures.value in
    rw (p.1, p.2, e, ← same (goal.at.returns-in_err-tally c).In-Some) (finish_records a.list.now a.consumed a.replied c.in-Some.ring.now a.ticket a.status (size (goal.at.returns-in_err-tally c).In-Some) (sym c.inspect-found.ensures.good ∙ ap is_some c.in_err-tally.ensures.ok_part))

pub finish_held-requires : goal.finish_held-requires
finish_held-requires c = (c.inspect-found.ensures.seen c.in_ok-tally.tally c.in_ok-tally.ensures.ok_part).indexed

pub returns : goal.returns
returns c = let a = c.args in let f = c.finish_held in
    let is = c.in_ok-tally.ensures.ok_part in
    rw (← same (goal.at.returns c).In-Some) (finish_valid a.list.now a.consumed a.replied c.in-Some.ring.now a.ticket a.status (size (goal.at.returns c).In-Some) (sym c.inspect-found.ensures.good ∙ ap is_some is) f.result f.new.ring f.new.list
    (f.ensures a.consumed (c.inspect-found.ensures.seen c.in_ok-tally.tally is).slots))
