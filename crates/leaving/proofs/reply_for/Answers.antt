-- `reply_for` meets its contract: replies carry the low bits of the status (`low_status`).
use mathlib.Core.Path.{sym, ap, ◌∙◌}
use Prim.Native.Nat.{ℕ, ◌%◌}
use Rattle.transmit.specs.Take.{replies_to}
use Rattle.transmit.proofs.Replies.{low_status}
use Rattle.ring.specs.Ring.{wadd}
use Rattle.leaving.proofs.reply_for.Goals as goal

pub returns : goal.returns
returns c = let a = c.args in
    let first = c.ahead-first in
    let replied = c.reply in
    replied.ensures
    ∙ ap (λ (n : ℕ). replies_to a.ring.now n a.h.slots a.h.extras (a.h.status % 65536)) first.ensures
    ∙ sym (low_status a.ring.now (wadd a.replied a.offset) a.h.slots a.h.extras a.h.status)
