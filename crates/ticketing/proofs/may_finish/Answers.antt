-- The two tests are the clause's.
use Rattle.std.proofs.Common.{refl}
use Rattle.fitting.proofs.Fits.{not_finished}
use Rattle.ticketing.proofs.may_finish.Goals as goal

pub returns-then-not-is_finished : goal.returns-then-not-is_finished
returns-then-not-is_finished c = rw (← not_finished c.args.h, ← c.is_finished.ensures, c.if-not-is_finished.true) c.is_status.ensures

pub returns-else-not-is_finished : goal.returns-else-not-is_finished
returns-else-not-is_finished c = rw (← not_finished c.args.h, ← c.is_finished.ensures, c.if-not-is_finished.false) refl
