-- `bad_pages` meets its contract: each way out is one law of `Naming`.
use borrow.Author.Tests.{lt-ltb}
use Rattle.frontend.proofs.Naming.{sorted_short, sorted_searched}
use Rattle.searching.proofs.bad_pages.Goals as goal

pub returns-then-references-count : goal.returns-then-references-count
returns-then-references-count c = let a = c.args in
    let short = c.if-references-count.true in
    rw (lt-ltb _ _ short) (sorted_short a.grants.now a.window.now a.references.now a.count short _)

pub returns-else-references-count : goal.returns-else-references-count
returns-else-references-count c = let a = c.args in
    rw c.is_err.ensures.value (sorted_searched a.grants.now a.window.now a.references.now a.count c.if-references-count.false _ _ c.search_pages.ensures)
