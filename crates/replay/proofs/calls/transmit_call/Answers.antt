-- `replay::calls::transmit_call` meets its contract: the calls leave what they promise, and the answer says whether something was taken.
use Rattle.replay.proofs.Calling.{transmit_called}
use Rattle.replay.proofs.calls.transmit_call.Goals as goal

pub returns : goal.returns
returns g c = transmit_called c.take-answer.ensures c.took.ensures
