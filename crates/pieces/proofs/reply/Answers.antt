-- `reply` meets its contract. A slot lies on the page, so the stores do; the two stores are one splice, and the id read is that of
-- the request (`reply_stored`).
use native.Mathlib.Omega.{arith}
use Rattle.ring.proofs.Ring.{place_fits}
use Rattle.receive.proofs.Pieces.{reply_stored}
use Rattle.pieces.proofs.reply.Goals as goal

pub u16_at-id-requires : goal.u16_at-id-requires
u16_at-id-requires c = omega (arith, c.place-at.ensures, place_fits 8 256 c.args.n 4096 (omega arith) (omega arith))

pub overflow_add-at : goal.overflow_add-at
overflow_add-at c = omega (arith, c.place-at.ensures, place_fits 8 256 c.args.n 4096 (omega arith) (omega arith))

pub put_pair-requires : goal.put_pair-requires
put_pair-requires c = omega (arith, c.place-at.ensures, place_fits 8 256 c.args.n 4096 (omega arith) (omega arith))

pub returns : goal.returns
returns c = let a = c.args in
    let id = c.u16_at-id in
    reply_stored a.ring.now a.n _ _ c.place-at.result id.result a.flags a.status (omega arith) c.place-at.ensures id.ensures c.reply.ensures c.put_pair.ensures
