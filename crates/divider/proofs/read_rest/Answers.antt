-- `read_rest` meets its contract: what the later data slots come to, by `read_later`, is what the whole run comes to.
use mathlib.Core.Path.{◌∙◌}
use Rattle.grammar.proofs.Reading.{read_unfinished, read_whole}
use Rattle.divider.proofs.read_rest.Goals as goal

pub returns-in-Err : goal.returns-in-Err
returns-in-Err c = read_unfinished _ _ _ _ (c.requires.rest ∙ c.in-Err.ensures.0)

pub returns : goal.returns
returns c = let a = c.args in
    let p = c.requires in
    let r = c.in-Ok.later in
    let e = c.in-Ok.ensures in
    read_whole a.page.now a.first a.posted r.count a.extras.count e.read.few c.read.result r.sum a.extras.gso_size a.extras.gso_type _ _
    (p.rest ∙ e.rest) c.read.ensures e.sum p.gso_size p.gso_type e.read.table
