-- `fast_reader::cut` meets its contract. The invariant: the packets cut off so far and the slots that are left are the run, as the laws of
-- `Cutting` have it. The measure is the number of slots left, which each packet lessens.
use mathlib.Core.Path.{◌≡◌, ap, subst}
use Prim.Native.Nat.{◌-◌}
use native.Mathlib.Omega.{arith}
use lib.ListN.{length-set}
use Rattle.ring.proofs.Ring.{slots_length}
use Rattle.netif.specs.Slot.{slot_width, slot_count, transmit_slots}
use Rattle.division.specs.declared.Ending.TheVariants as ending
use Rattle.division.proofs.Cutting.{Cutting, none_of_nothing, packet_left, cutting_start, cutting_next, cutting_end}
use Rattle.fast_reader.proofs.Laid.{left_drop}
use Rattle.fast_reader.proofs.cut.Goals as goal

pub loop-at-init : goal.loop-at-init
loop-at-init c = let a = c.args in
    let all : a.slots - 0 ≡ a.slots = omega arith in
    (rw all (cutting_start (transmit_slots a.page.now 0 a.slots) a.cuts.now), omega arith, omega arith, c.requires.1)

pub returns-in-Err : goal.returns-in-Err
returns-in-Err c = let l = c.loop-at in
    let h = c.in-Err.ensures in
    cutting_end _ _ _ _ _ l.invariant.0 _ h.0 h.1

pub overflow_add-at : goal.overflow_add-at
overflow_add-at c = let a = c.args in
    let l = c.loop-at in
    let p = packet_left _ a.slots l.at _ (slots_length slot_width slot_count a.page.now (a.slots - l.at) l.at) l.invariant.1 c.in-Ok.ensures in
    omega (arith, p.1)

pub loop-at-smaller : goal.loop-at-smaller
loop-at-smaller c = let a = c.args in
    let l = c.loop-at in
    let p = packet_left _ a.slots l.at _ (slots_length slot_width slot_count a.page.now (a.slots - l.at) l.at) l.invariant.1 c.in-Ok.ensures in
    omega (arith, p.0, p.1)

pub loop-at-preserved : goal.loop-at-preserved
loop-at-preserved c = let a = c.args in
    let l = c.loop-at in
    let p = packet_left _ a.slots l.at _ (slots_length slot_width slot_count a.page.now (a.slots - l.at) l.at) l.invariant.1 c.in-Ok.ensures in
    let next = cutting_next _ _ _ _ _ l.invariant.0 _ c.in-Ok.ensures.0 c.in-Ok.ensures.1 (omega arith) in
    (subst (Cutting _ _ _ _) (left_drop a.page.now a.slots l.at _ p.1) next, p.1, omega (arith, p.0), simp length-set l.invariant.3)

pub returns : goal.returns
returns c = let a = c.args in
    let l = c.loop-at in
    let none : a.slots - l.at ≡ 0 = omega arith in
    let nothing = ap (transmit_slots a.page.now l.at) none in
    cutting_end _ _ _ _ _ l.invariant.0 ending.Empty (none_of_nothing _ nothing) nothing
