-- `put_extra` meets its contract: three stores, one behind the other (`extra_stored`).
use Rattle.std.proofs.Common.{arith}
use Rattle.frontend.proofs.Stored.{extra_stored}
use Rattle.encoding.proofs.put_extra.Goals as goal

pub returns : goal.returns
returns c = let a = c.args in
    let first = rw c.from.ensures at c.put_pair.ensures in
    let second = rw c.from-2.ensures at c.put_u32.ensures in
    extra_stored a.ring.now _ _ _ a.n c.place-at.result c.told-ring c.place-at.ensures a.size a.kind (omega (arith, c.ranges.kind)) first second c.put_u32-2.ensures
