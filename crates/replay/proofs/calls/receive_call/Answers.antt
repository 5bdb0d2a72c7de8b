-- `replay::calls::receive_call` meets its contract: the exported call leaves what it promises for the frame, which is the front of the buffer.
use Rattle.replay.proofs.Calling.{receive_called, frame_front}
use Rattle.replay.proofs.calls.receive_call.Goals as goal

pub returns : goal.returns
returns g c = let frame = frame_front c.args.call _ _ c.frame_of-n.ensures.1 c.frame_of-n.ensures.0.0 c.frame_of-n.ensures.2 in
    receive_called frame c.tollmeander_receive_put-answer.ensures c.took.ensures
