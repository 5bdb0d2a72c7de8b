-- `post` meets its contract: each way out is one law of `Calls`.
use Rattle.std.proofs.Common.{sym, ◌∙◌}
use Rattle.std.proofs.lemmas.Option.{MatchOption-at_some, MatchOption-at_none}
use Rattle.std.proofs.lemmas.Result.{err_from_is_err_and}
use borrow.Author.Tests.{eq-eqb, ne_eqb}
use Rattle.std.specs.Array.{IsWholeChunk}
use Rattle.frontend.proofs.Searching.{told}
use Rattle.frontend.proofs.Calls.{frame_small, posts_bad_page, posts_bad_length, posts_bad_gso}
use Rattle.post.proofs.post.Goals as goal
use Rattle.post.proofs.post.Goals.{In_ok-ring}

-- the page is the slice that was lent
whole : (c : In_ok-ring) → IsWholeChunk c.args.ring.now c.in_ok-ring.ring.now 4096
whole c = MatchOption-at_some _ _ _ c.in_ok-ring.ensures.ok_part c.as_mut_array.ensures.cases

pub returns-in_err-ring : goal.returns-in_err-ring
returns-in_err-ring c = let a = c.args in
    let p = err_from_is_err_and c.from_residual.result c.from_residual.ensures.1 in
    let q = c.in_err-ring.ensures in
    let other = MatchOption-at_none _ _ q.ok_part c.as_mut_array.ensures.cases in
    rw (p.1, p.2, told _ _ _ q.value q.ok_part)
    (posts_bad_page a.grants.now a.ring.now a.window.now a.read a.gso a.references.now a.frame.now (ne_eqb _ _ other))

pub returns-then-bad_length : goal.returns-then-bad_length
returns-then-bad_length c = let a = c.args in
    let page = whole (goal.at.returns-then-bad_length c).In_ok-ring in
    rw page.same
    (posts_bad_length a.grants.now a.ring.now a.window.now a.read a.gso a.references.now a.frame.now (eq-eqb _ _ page.long) (sym c.bad_length.ensures ∙ c.if-bad_length.true))

pub returns-then-bad_gso : goal.returns-then-bad_gso
returns-then-bad_gso c = let a = c.args in
    let page = whole (goal.at.returns-then-bad_gso c).In_ok-ring in
    rw page.same
    (posts_bad_gso a.grants.now a.ring.now a.window.now a.read a.gso a.references.now a.frame.now (eq-eqb _ _ page.long) (sym c.bad_length.ensures ∙ c.if-bad_length.false) (sym c.bad_gso.ensures ∙ c.if-bad_gso.true))

pub needed-count-requires : goal.needed-count-requires
needed-count-requires c = frame_small _ (sym c.bad_length.ensures ∙ c.if-bad_length.false)
