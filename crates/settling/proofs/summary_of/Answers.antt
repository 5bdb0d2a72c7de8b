-- `summary_of` meets its contract: field by field (`summary_is`).
use mathlib.Core.Path.{◌∙◌}
use Rattle.transmit.proofs.Settling.{summary_is}
use Rattle.settling.proofs.summary_of.Goals as goal

pub returns : goal.returns
returns c = let o = c.args.o in
    λ p is. (λ i. record {
      slots = o.slots;
      total = c.from.ensures i;
      checksum_blank = c.checksum_blank.result;
      data_validated = c.data_validated.result;
      gso_size = o.gso_size;
      gso_type = o.gso_type;
    })
    ∙ summary_is o o.extras p is _ _ c.checksum_blank.ensures c.data_validated.ensures
