-- `replying::reply` meets its contract: each turn replies to one slot more (`by_more`), and the three runs are together the definition's
-- (`replied_all`).
use mathlib.Core.Path.{◌≡◌, sym, ap, ◌∙◌}
use mathlib.Core.List.{List}
use Prim.Native.Nat.{ℕ, suc, ◌+◌, ◌-◌, ◌≤◌}
use native.Mathlib.Omega.{arith}
use lib.ListN.{length}
use borrow.Author.Rules.{rules}
use Rattle.words.specs.Word.{splice}
use Rattle.ring.specs.Ring.{slot_place, wadd}
use Rattle.netif.specs.Slot.{Slot, transmit_slot, transmit_reply}
use Rattle.packet.specs.Judge.{data_reply, extra_reply}
use Rattle.transmit.specs.Take.{replies_to}
use Rattle.transmit.specs.Stages.{replied_by}
use Rattle.transmit.proofs.Cases.{data_short, extra_short}
use Rattle.transmit.proofs.Replies.{by_none, by_length_lem, by_more, replied_all}
use Rattle.replying.proofs.reply.Goals as goal

-- one turn, from slot i of the packet to the next
turn : (f : Slot → List ℕ) → ((s : Slot) → length (f s) ≤ 12) → (page : List ℕ) → length page ≡ 4096 → (first from i m : ℕ) → from ≤ i → i ≤ 255 → m ≡ wadd first i
    → (now : List ℕ) → now ≡ replied_by f page (first + from) (i - from)
    → splice now (slot_place 12 256 m) (f (transmit_slot now m)) ≡ replied_by f page (first + from) (i + 1 - from)
turn f short page size first from i m low few here now so =
    let z : i ≡ from + (i - from) = omega arith in
    let y : i - from + 1 ≡ i + 1 - from = omega arith in
    by_more f short page size first from (i - from) m (here ∙ ap (wadd first) z) (omega arith) now so ∙ ap (replied_by f page (first + from)) y

pub loop-i-init : goal.loop-i-init
loop-i-init c = by_none extra_reply extra_short c.reply_data.new.ring c.reply_data.array_long (c.args.first + 1)

pub loop-i-preserved : goal.loop-i-preserved
unfolding extra_reply transmit_reply
loop-i-preserved c =
    c.reply.ensures
    ∙ turn extra_reply extra_short c.reply_data.new.ring c.reply_data.array_long c.args.first 1 c.loop-i.i c.ahead.result c.loop-i.auto.i (omega (arith, c.loop-i-test.true, c.requires)) c.ahead.ensures c.loop-i.ring c.loop-i.invariant

-- the page behind the replies to the extras is as long
long : (page ring : List ℕ) → length page ≡ 4096 → (n k : ℕ) → ring ≡ replied_by extra_reply page n k → length ring ≡ 4096
long page ring size n k is = ap length is ∙ by_length_lem extra_reply extra_short page size n k

pub loop-i-2-init : goal.loop-i-2-init
loop-i-2-init c = let z : 1 + c.args.extras - (1 + c.args.extras) ≡ 0 = omega arith in
    rw z
    (by_none (data_reply c.args.status) (data_short c.args.status) c.loop-i.ring (long c.reply_data.new.ring c.loop-i.ring c.reply_data.array_long _ _ c.loop-i.invariant) (c.args.first + (1 + c.args.extras)))

pub loop-i-2-preserved : goal.loop-i-2-preserved
loop-i-2-preserved c =
    c.reply_data-in-loop-i-2.ensures
    ∙ turn (data_reply c.args.status) (data_short c.args.status) c.loop-i.ring (long c.reply_data.new.ring c.loop-i.ring c.reply_data.array_long _ _ c.loop-i.invariant) c.args.first (1 + c.args.extras) c.loop-i-2.i c.ahead-in-loop-i-2.result c.loop-i-2.auto.i
    (omega (arith, c.loop-i-2-test.true, c.requires)) c.ahead-in-loop-i-2.ensures c.loop-i-2.ring c.loop-i-2.invariant

pub returns : goal.returns
returns c = let a = c.args in
    let k = a.slots - (1 + a.extras) in
    let first : c.loop-i.i - 1 ≡ a.extras = omega (arith, c.loop-i-test.false, c.loop-i.auto.i, c.loop-i.auto.i-end (omega arith)) in
    let last : c.loop-i-2.i ≡ a.slots = omega (arith, c.loop-i-2-test.false, c.requires, c.loop-i-2.auto.i-end (omega (arith, c.requires))) in
    let all : suc (a.extras + k) ≡ a.slots = omega (arith, c.requires) in
    (rw last at c.loop-i-2.invariant)
    ∙ ap (λ q. replied_by (data_reply a.status) q (a.first + (1 + a.extras)) k)
    ((rw first at c.loop-i.invariant) ∙ ap (λ q. replied_by extra_reply q (a.first + 1) a.extras) c.reply_data.ensures)
    ∙ replied_all a.ring.now c.told-ring a.first a.extras k a.status (omega (arith, c.requires))
    ∙ ap (λ s. replies_to a.ring.now a.first s a.extras a.status) all
