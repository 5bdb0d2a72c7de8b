-- `fast_reader::divide` meets its contract: the slots of the page are the run's, so what was cut off them is a division of the run, and by the
-- agreement there is one answer for that.
use mathlib.Core.Path.{refl, ap, ◌∙◌}
use Prim.Native.Nat.{◌/◌}
use native.Mathlib.Omega.{arith}
use lib.ListN.{length}
use Rattle.netif.specs.Slot.{slot_width, transmit_slots}
use Rattle.std.specs.Prelude.{Ok, Err}
use Rattle.division.specs.declared.Refused.TheVariants as refused
use Rattle.fast_reader.proofs.Laid.{slots_laid}
use Rattle.division.proofs.Agreement.{divided_only}
use Rattle.fast_reader.proofs.divide.Goals as goal

pub returns-then-run-ne0 : goal.returns-then-run-ne0
returns-then-run-ne0 c = divided_only _ _ _ (Err refused.Uneven) ((λ k. omega arith), refl)

pub returns-then-slots : goal.returns-then-slots
returns-then-slots c = divided_only _ _ _ (Err refused.TooLong) (omega arith, omega arith, refl)

pub returns : goal.returns
returns c = let a = c.args in
    let k = length a.run.now / slot_width in
    let run = ap (λ page. transmit_slots page 0 k) c.put_bytes.ensures
    ∙ slots_laid _ a.run.now (omega arith) (omega arith) k 0 (omega arith) in
    divided_only _ _ _ (Ok c.cut.result) (omega arith, omega arith, rw run at c.cut.ensures)
