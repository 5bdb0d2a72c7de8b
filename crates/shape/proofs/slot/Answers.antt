-- `shape::slot` meets its contract: the part's end minus its start is the slot's width.
use mathlib.Core.Path.{◌≡◌, ap}
use Prim.Native.Nat.{ℕ, ◌+◌, ◌-◌, ◌*◌}
use native.Mathlib.Omega.{arith}
use lib.ListN.{take, drop}
use Rattle.netif.specs.Slot.{slot_width}
use Rattle.division.specs.Run.{slot_in}
use Rattle.shape.proofs.slot.Goals as goal

pub returns : goal.returns
unfolding slot_in
returns c = let a = c.args in
    let i = a.i in
    let e : slot_width * i + slot_width - slot_width * i ≡ slot_width = omega arith in
    ap (λ (k : ℕ). take k (drop (slot_width * i) a.run.now)) e
