-- `put_data` meets its contract: three stores, one behind the other (`data_stored`).
use Rattle.frontend.proofs.Stored.{data_stored}
use Rattle.encoding.proofs.put_data.Goals as goal

pub returns : goal.returns
returns c = let a = c.args in
    data_stored a.ring.now _ _ _ a.n c.place-at.result c.told-ring c.place-at.ensures a.gref a.flags a.size c.put_u32.ensures c.put_pair.ensures c.put_pair-2.ensures
