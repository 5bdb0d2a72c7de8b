-- The export meets its contract: the call's own promise, and its answer and queue as words.
use mathlib.Core.Path.{refl}
use Rattle.answer.proofs.Ends.{leaves_words}
use Rattle.tollmeander.proofs.tollmeander_receive_put.Goals as goal

pub returns : goal.returns
returns c = leaves_words _ c.put-outcome.result _ _ c.args.halted.now _
    (rw c.queue_of-queue.ensures at c.put-outcome.ensures) c.write_put.ensures refl c.mark_after.ensures refl refl
