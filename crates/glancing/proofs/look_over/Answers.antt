-- Where nothing is held, by a law of `Unheld`; else by `held_tally`.
use Rattle.glancing.proofs.Unheld.{glanced_unheld}
use Rattle.glancing.proofs.look_over.Goals as goal

pub returns-then-consumed-replied : goal.returns-then-consumed-replied
returns-then-consumed-replied c = let a = c.args in
    rw (c.unheld_tally.ensures, ← c.if-consumed-replied.true) (glanced_unheld a.consumed a.list.now)
