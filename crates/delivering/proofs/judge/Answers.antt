-- `judge` meets its contract. Each way out is one law of `Requests`.
use mathlib.Core.Path.{◌≡◌, sym, ◌∙◌}
use native.Mathlib.Omega.{arith}
use lib.ListN.{length}
use Rattle.std.proofs.lemmas.Result.{err_from_is_err_and}
use Rattle.answer.specs.Verdict.{bad}
use Rattle.receive.proofs.Requests.{judged_unfit, judge_fit, table_next}
use Rattle.delivering.proofs.judge.Goals as goal

pub returns-in_err-page : goal.returns-in_err-page
returns-in_err-page c = let a = c.args in
    let l = c.loop-i in
    let p = err_from_is_err_and c.from_residual.result c.from_residual.ensures.1 in
    let fault = rw c.in_err-page.ensures.ok_part at c.in_err-page.ensures.value in
    let e : c.from_residual.result ≡ bad 4 l.i = cc (p.1, p.2, fault) in
    rw e (judged_unfit a.grants.now a.window.now a.ring.now a.first (length a.pages.now) c.ahead.result l.i c.ahead.ensures c.read-request.result c.read-request.ensures
    _ l.invariant.0 (omega arith) (sym c.in_err-page.ensures.ok_part ∙ c.page_of.ensures))

pub loop-i-preserved : goal.loop-i-preserved
loop-i-preserved c = let a = c.args in
    let l = c.loop-i in
    let n = c.ahead in
    let r = c.read-request in
    let fit = sym c.in_ok-page.ensures.ok_part ∙ c.page_of.ensures in (
      l.invariant.0 ∙ judge_fit a.grants.now a.window.now a.ring.now a.first (length a.pages.now) n.result l.i n.ensures r.result r.ensures _ fit (omega arith),
      table_next a.grants.now a.window.now a.ring.now a.first (length a.pages.now) n.result l.i n.ensures r.result r.ensures _ fit l.pages (omega arith) l.invariant.1,
    )
