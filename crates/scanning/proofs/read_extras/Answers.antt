-- `read_extras` meets its contract: each way out is one law of `Loop`.
use mathlib.Core.Path.{◌≡◌, refl, sym, ap, ◌∙◌}
use mathlib.Core.List.{List, ◌∷◌}
use mathlib.Core.Bool.{Bool, true, false}
use Prim.Native.Nat.{ℕ, ◌+◌, ◌-◌, ◌≤◌, ◌<◌}
use native.Mathlib.Omega.{arith}
use Rattle.ring.specs.Ring.{wadd}
use Rattle.netif.specs.Slot.{Slot, is_extra, another_extra, transmit_slot}
use Rattle.grammar.specs.Grammar.{within}
use Rattle.grammar.specs.Divide.{Cut, beginning, misshapen, owed, scan}
use Rattle.grammar.specs.Stages.{behind, SomeExtras}
use Rattle.grammar.proofs.Within.{within_one, within_owed, within_extras}
use Rattle.grammar.proofs.Loop.{extra_closed, extra_end, extra_bad, extra_next, behind_none, behind_more, gso_size_here, gso_type_here, kind_other, kind_extra, another_bit, gso_size_field, gso_type_field}
use Rattle.grammar.proofs.Reading.{no_extras}
use Rattle.scanning.proofs.read_extras.Goals as goal
use Rattle.scanning.proofs.read_extras.Goals.{In-loop-count}

-- where the extra at `count` is owed, and the limit allows it
module _ (page : List ℕ) (first posted count : ℕ) (announced : Bool)
    (so_far : (more : Bool) → scan (behind page first posted 1) 1 0 announced more ≡ scan (behind page first posted count) 1 (count - 1) true more)
    (some : 1 ≤ count) where
  -- the slots that are left
  abbrev left : List Slot
  left = behind page first posted count

  -- what the scan makes of all
  abbrev cut : Bool → Cut
  cut more = scan (behind page first posted 1) 1 0 announced more

  one : count - 1 + 1 ≡ count
  one = omega arith

  closed : within 1 count ≡ false → (more : Bool) → cut more ≡ misshapen
  closed w more = so_far more ∙ extra_closed left 1 (count - 1) more (within_owed more (count - 1 + 1) ∙ ap (within 1) one ∙ w)

  module _ (right : within 1 count ≡ true) where
    owing : (more : Bool) → within (1 + owed more) (count - 1 + 1) ≡ true
    owing more = within_owed more (count - 1 + 1) ∙ ap (within 1) one ∙ right

    ended : count ≡ posted → (more : Bool) → cut more ≡ beginning
    ended h more = so_far more ∙ extra_end left 1 (count - 1) more (owing more) (behind_none page first posted count h)

    module _ (n : ℕ) (k : count < posted) (here : n ≡ wadd first count) where
      next : left ≡ transmit_slot page n ∷ behind page first posted (count + 1)
      next = behind_more page first posted n count k here

      bad : is_extra (transmit_slot page n) ≡ false → (more : Bool) → cut more ≡ misshapen
      bad e more = so_far more ∙ extra_bad left 1 (count - 1) more (owing more) _ _ next e

      scanned_on : is_extra (transmit_slot page n) ≡ true → {b : Bool} → another_extra (transmit_slot page n) ≡ b → (e : ℕ) → count ≡ e
          → (more : Bool) → cut more ≡ scan (behind page first posted (count + 1)) 1 e b more
      scanned_on good another e h more =
          let to_e : count - 1 + 1 ≡ e = omega arith in
          so_far more ∙ extra_next left 1 (count - 1) more (owing more) _ _ next good
          ∙ (λ i. scan (behind page first posted (count + 1)) 1 (to_e i) (another i) more)

-- the extras before the one at the loop's count were read
module _ (c : In-loop-count) where
  read_before : SomeExtras c.args.page.now c.args.first c.args.posted c.loop-count.read
  read_before = let i = c.loop-count.invariant in record { few = omega arith; limit = i.limit; gso_size = i.gso_size; gso_type = i.gso_type }

pub returns-then-not-announced : goal.returns-then-not-announced
returns-then-not-announced c = no_extras c.args.page.now c.args.first c.args.posted c.args.announced c.if-not-announced.true c.requires

pub loop-count-init : goal.loop-count-init
loop-count-init c = let a = c.args in
    record {
      so_far = λ more. ap (λ b. scan (behind a.page.now a.first a.posted 1) 1 0 b more) c.if-not-announced.false;
      few = c.requires;
      counted = refl;
      limit = within_one;
      gso_size = refl;
      gso_type = refl;
    }

pub returns-then-not-fits : goal.returns-then-not-fits
returns-then-not-fits c = let a = c.args in
    let l = c.loop-count in (
      closed a.page.now a.first a.posted l.count a.announced l.invariant.so_far l.auto.count (sym c.fits.ensures ∙ c.if-not-fits.true),
      read_before (goal.at.returns-then-not-fits c).In-loop-count,
    )

pub returns-then-count-posted : goal.returns-then-count-posted
returns-then-count-posted c = let a = c.args in
    let l = c.loop-count in (
      ended a.page.now a.first a.posted l.count a.announced l.invariant.so_far l.auto.count (sym c.fits.ensures ∙ c.if-not-fits.false) c.if-count-posted.true,
      read_before (goal.at.returns-then-count-posted c).In-loop-count,
    )

pub returns-then-extra-ne-GSO : goal.returns-then-extra-ne-GSO
returns-then-extra-ne-GSO c = let a = c.args in
    let l = c.loop-count in (
      bad a.page.now a.first a.posted l.count a.announced l.invariant.so_far l.auto.count (sym c.fits.ensures ∙ c.if-not-fits.false) _ (omega arith) c.ahead.ensures
          (kind_other _ c.read-extra.result c.read-extra.ensures c.if-extra-ne-GSO.true),
      read_before (goal.at.returns-then-extra-ne-GSO c).In-loop-count,
    )

pub returns-then-not-another_follows : goal.returns-then-not-another_follows
returns-then-not-another_follows c = let a = c.args in
    let l = c.loop-count in
    let extra = c.read-extra in
    let right = sym c.fits.ensures ∙ c.if-not-fits.false in
    record {
      few = omega arith;
      limit = right;
      rest = scanned_on a.page.now a.first a.posted l.count a.announced l.invariant.so_far l.auto.count right _ (omega arith) c.ahead.ensures
          (kind_extra _ extra.result extra.ensures c.if-extra-ne-GSO.false)
          (sym (another_bit _ extra.result extra.ensures) ∙ sym c.another_follows.ensures ∙ c.if-not-another_follows.true) l.count refl;
      gso_size = gso_size_field _ extra.result extra.ensures ∙ sym (gso_size_here a.page.now a.first a.posted _ l.count l.auto.count (omega arith) c.ahead.ensures);
      gso_type = gso_type_field _ extra.result extra.ensures ∙ sym (gso_type_here a.page.now a.first a.posted _ l.count l.auto.count (omega arith) c.ahead.ensures);
    }

pub loop-count-preserved : goal.loop-count-preserved
loop-count-preserved c = let a = c.args in
    let l = c.loop-count in
    let extra = c.read-extra in
    let right = sym c.fits.ensures ∙ c.if-not-fits.false in
    record {
      so_far = scanned_on a.page.now a.first a.posted l.count a.announced l.invariant.so_far l.auto.count right _ (omega arith) c.ahead.ensures
          (kind_extra _ extra.result extra.ensures c.if-extra-ne-GSO.false)
          (sym (another_bit _ extra.result extra.ensures) ∙ sym c.another_follows.ensures ∙ c.if-not-another_follows.false) (l.count + 1 - 1) (omega arith);
      few = omega arith;
      counted = omega arith;
      limit = right;
      gso_size = gso_size_field _ extra.result extra.ensures ∙ sym (gso_size_here a.page.now a.first a.posted _ l.count l.auto.count (omega arith) c.ahead.ensures);
      gso_type = gso_type_field _ extra.result extra.ensures ∙ sym (gso_type_here a.page.now a.first a.posted _ l.count l.auto.count (omega arith) c.ahead.ensures);
    }

-- the limit has ended the loop before
pub returns : goal.returns
returns c = absurd (omega (arith, within_extras 1 c.loop-count.read.count c.loop-count.invariant.limit))
