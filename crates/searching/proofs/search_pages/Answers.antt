-- `search_pages` meets its contract: each turn is one law of `Searching`, and so is each way out.
use Rattle.std.proofs.Common.{◌≡◌, sym, ◌∙◌, arith, ◌<◌, length, Some}
use Rattle.std.proofs.lemmas.Result.{err_from_is_err_and}
use Rattle.frontend.proofs.Searching.{search_unfit, search_enters, table_next, search_hits, search_misses, search_leaves, told, searched_ended}
use Rattle.searching.proofs.search_pages.Goals as goal
use Rattle.searching.proofs.search_pages.Goals.{In_ok-page}
use Rattle.grant.specs.Lookup.{write_page}
use lib.ListN.{length-set, get_or}

-- the page that was found
fit : (c : In_ok-page) → Some c.in_ok-page.page ≡ write_page c.args.grants.now c.args.window.now (get_or c.args.references.now c.search.i 0)
fit c = sym c.in_ok-page.ensures.ok_part ∙ c.fit_to_write.ensures

pub returns-in_err-page : goal.returns-in_err-page
returns-in_err-page c = let a = c.args in
    let v = c.search in
    let p = err_from_is_err_and c.from_residual.result c.from_residual.ensures.1 in
    let q = c.in_err-page.ensures in
    rw (p.1, p.2, told _ _ _ q.value q.ok_part) (searched_ended a.grants.now a.window.now a.references.now v.pages _
    (v.invariant.left
    ∙ search_unfit a.grants.now a.window.now a.references.now v.pages v.i c.search-test.true (sym q.ok_part ∙ c.fit_to_write.ensures)))

pub loop-j-init : goal.loop-j-init
loop-j-init c = let a = c.args in
    let v = c.search in record {
      none_found = v.invariant.none_found;
      left = v.invariant.left ∙ search_enters a.grants.now a.window.now a.references.now v.pages v.i c.search-test.true _ (fit (goal.at.loop-j-init c).In_ok-page) (omega (arith, v.invariant.sized, c.search-test.true, c.requires));
    }

pub loop-j-preserved : goal.loop-j-preserved
loop-j-preserved c = let a = c.args in
    let v = c.search in
    let w = c.loop-j in record {
      none_found = w.invariant.none_found;
      left = w.invariant.left ∙ search_misses a.grants.now a.window.now a.references.now v.pages _ v.i w.j (omega (arith, v.invariant.sized, c.search-test.true, c.requires)) c.loop-j-test.true c.if-pages-j.false;
    }

pub search-preserved : goal.search-preserved
search-preserved c = let a = c.args in
    let v = c.search in
    let w = c.loop-j in
    let x = c.in_ok-page.page in
    let t = c.search-test.true in
    let some : v.i < length v.pages = omega (arith, t, v.invariant.sized, c.requires) in record {
      sized = length-set v.pages v.i x ∙ v.invariant.sized;
      none_found = w.invariant.none_found;
      named = table_next a.grants.now a.window.now a.references.now v.pages v.i t x (fit (goal.at.search-preserved c).In_ok-page) some v.invariant.named;
      left = w.invariant.left ∙ search_leaves a.grants.now a.window.now a.references.now v.pages x v.i w.j some c.loop-j-test.false;
    }

pub returns-then-pages-j : goal.returns-then-pages-j
returns-then-pages-j c = let a = c.args in
    let v = c.search in
    let w = c.loop-j in
    searched_ended a.grants.now a.window.now a.references.now v.pages _
    (w.invariant.left ∙ search_hits a.grants.now a.window.now a.references.now v.pages _ v.i w.j (omega (arith, v.invariant.sized, c.search-test.true, c.requires)) c.loop-j-test.true c.if-pages-j.true)
