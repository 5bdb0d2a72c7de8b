-- What a call leaves, lent on, says the queue that the definition leaves, since no call undoes a halt.
use mathlib.Core.Path.{ap}
use Prim.Native.Nat.{ℕ}
use Rattle.answer.specs.Words.{queue_of as receiveQueueOf}
use Rattle.answer.proofs.LentOn.{lent_on}
use Rattle.transmit.specs.Words.{queue_of}
use Rattle.transmit.proofs.LentOn.{take_lent_on}
use Rattle.receive.specs.Put.{receive_put}
use Rattle.receive.proofs.Calls.{halted_stays}
use Rattle.interface.specs.Interface.{LentOn}

pub lent_on_holds : LentOn
lent_on_holds = record {
  takes = λ grants window consumed replied mark ring list frame l. take_lent_on grants window consumed replied mark ring frame list l;
  finishes = λ consumed replied mark ring list ticket status l h. ap (λ (x : ℕ). queue_of consumed x mark) h.replies;
  receives = λ grants window consumed mark ring frame l.
      lent_on (receive_put grants (receiveQueueOf consumed mark) ring window frame) consumed mark l
      (halted_stays grants (receiveQueueOf consumed mark) ring window frame);
}
