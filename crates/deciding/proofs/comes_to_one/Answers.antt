-- What holds of the page holds of the slice that was lent, which is the page.
use Rattle.std.proofs.Common.{sym, subst, List, ℕ}
use Rattle.std.proofs.lemmas.Option.{MatchOption-at_some}
use Rattle.std.specs.Array.{IsWholeChunk}
use Rattle.transmit.specs.Stages.{ComesToOne}
use Rattle.deciding.proofs.comes_to_one.Goals as goal

pub returns-in-Some : goal.returns-in-Some
returns-in-Some c told = let a = c.args in
    let whole : IsWholeChunk a.ring.now c.in-Some.page.now 4096 = MatchOption-at_some _ _ _ c.in-Some.is c.as_array.ensures.cases in
    let P : List ℕ → Type 0 = λ page. ComesToOne a.queue a.sound a.full page in
    subst P whole.same (c.page_comes_to_one.ensures told)
