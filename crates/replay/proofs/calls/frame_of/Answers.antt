-- The longest frame fills the buffer.
use Rattle.std.proofs.Common.{◌≤◌, length, sym, arith}
use lib.Seq.{length-take-le}
use Rattle.replay.proofs.Calling.{length_most, counted_fewer}
use Rattle.replay.proofs.calls.frame_of.Goals as goal

pub returns : goal.returns
returns c =
    let n = c.frame_length.ensures in
    let fits : c.frame_length.result ≤ length c.fill.new.bytes = omega (arith, n, length_most c.args.call) in
    ((fits, sym (length-take-le c.frame_length.result c.fill.new.bytes fits)), n, counted_fewer _ _ 65535 _ (omega arith) c.fill.ensures)
