-- `put_packet` meets its contract: the slots one after the other (`packet_written`).
use Rattle.std.proofs.Common.{length, drop}
use lib.ListN.{get_or}
use Rattle.frontend.proofs.Calls.{packet_written, used_cons, used_count, used_rest}
use Rattle.posting.proofs.put_packet.Goals as goal

pub returns : goal.returns
returns c = let a = c.args in
    let refs = a.references.now in
    let later = rw (used_rest refs) at c.put_later.ensures in
    rw (used_cons refs c.requires.0)
    (packet_written a.ring.now c.told-ring a.gso (get_or refs 0 0) (drop 1 refs) a.frame.now (length refs) _ _ (used_count refs c.requires.0)
    c.extras_of-extras.ensures c.flags-flags.ensures _ _ _ _ _ _ _ c.requests-old.ensures c.put_data.ensures c.ahead.ensures c.put_extras.ensures
    c.ahead-2.ensures later c.ahead-new.ensures _ _ c.publish.ensures)
