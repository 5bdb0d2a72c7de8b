-- `settle_one` meets its contract: the page that the one request names, or that there is none, is the verdict on it.
use Rattle.receive.proofs.Calls.{one_unfit, one_page, one_fit}
use Rattle.one_piece.proofs.settle_one.Goals as goal

pub deliver_one-requires : goal.deliver_one-requires
deliver_one-requires c = let a = c.args in
    (c.requires, one_page a.grants.now a.window.now a.ring.now a.old c.read.result c.read.ensures _ c.in-Some.ensures)

pub returns-in-None : goal.returns-in-None
returns-in-None c = let a = c.args in
    one_unfit a.grants.now a.window.now a.ring.now a.old c.read.result c.read.ensures c.in-None.ensures a.frame.now _ _ _
    (c.refuse.ensures a.window.now)

pub returns-in-Some : goal.returns-in-Some
returns-in-Some c = let a = c.args in
    one_fit a.grants.now a.window.now a.ring.now a.old c.read.result c.read.ensures _ c.in-Some.ensures a.frame.now _ _ _
    c.deliver_one.ensures
