-- `read_later` meets its contract: each way out is one law of `Loop`.
use mathlib.Core.Path.{◌≡◌, refl, sym, ap, ◌∙◌}
use mathlib.Core.List.{List, ◌∷◌, map}
use mathlib.Core.Bool.{Bool, true, false}
use Prim.Native.Nat.{ℕ, ◌+◌, ◌-◌, ◌≤◌, ◌<◌}
use native.Mathlib.Omega.{arith}
use lib.ListN.{length, set, length-map}
use Rattle.std.proofs.lemmas.List.{map-set}
use Rattle.words.specs.Word.{splice}
use Rattle.words.proofs.Word.{splice_none}
use Rattle.ring.specs.Ring.{wadd}
use Rattle.netif.specs.Slot.{Slot, size, more_data, extra_follows, transmit_slot, transmit_slots}
use Rattle.grammar.specs.Grammar.{within}
use Rattle.grammar.specs.Divide.{Cut, beginning, misshapen, scan}
use Rattle.grammar.specs.Packet.{sizes as sizes_of}
use Rattle.grammar.specs.Stages.{sizes_in, behind, SizesRead, SomeLater}
use Rattle.grammar.proofs.Within.{within_datas}
use Rattle.grammar.proofs.Loop.{data_closed, data_end, data_bad, data_next, nothing_owed, behind_none, behind_more, sum_next, column_next, more_bit, follows_bit, size_field}
use Rattle.scanning.proofs.read_later.Goals as goal
use Rattle.scanning.proofs.read_later.Goals.{In-loop-count, After-more_data}

-- the later data slot numbered `count`, the first being 1, behind so many others
module _ (page : List ℕ) (first posted extras count before_it n : ℕ) (one_more : count ≡ before_it + 1) (here : n ≡ wadd first (count + extras)) where
  there : n ≡ wadd first (extras + 1 + before_it)
  there = here ∙ ap (wadd first) (omega arith)

  -- it is added
  added : (v : ℕ) → v ≡ size (transmit_slot page n)
      → sizes_of (transmit_slots page (first + (extras + 1)) before_it) + v ≡ sizes_of (transmit_slots page (first + (extras + 1)) count)
  added v h = sum_next page first n (extras + 1) before_it there v h ∙ (λ i. sizes_of (transmit_slots page (first + (extras + 1)) (sym one_more i)))

  -- and entered
  entered : (v : ℕ) → v ≡ size (transmit_slot page n) → count + extras < posted → count ≤ 17 → (before now after : List ℕ) → length before ≡ 18
      → SizesRead page first posted extras before now before_it → after ≡ set now count v → SizesRead page first posted extras before after count
  entered v h k few before now after s r w = record {
    few = omega arith;
    table = w
        ∙ (λ i. set (r.table i) (one_more i) v)
        ∙ column_next page first n (extras + 1) before_it there size v h before (omega arith)
        ∙ (λ i. splice before 1 (map size (transmit_slots page (first + (extras + 1)) (sym one_more i))));
  }

-- where it is owed
module _ (page : List ℕ) (first posted extras count : ℕ) (cut : Cut)
    (so_far : cut ≡ scan (behind page first posted (count + extras)) count extras false true) where
  -- the slots that are left
  abbrev left : List Slot
  left = behind page first posted (count + extras)

  closed : within (count + 1) extras ≡ false → cut ≡ misshapen
  closed w = so_far ∙ data_closed left count extras w

  module _ (right : within (count + 1) extras ≡ true) where
    ended : count + extras ≡ posted → cut ≡ beginning
    ended e = so_far ∙ data_end left count extras right (behind_none page first posted (count + extras) e)

    module _ (n : ℕ) (k : count + extras < posted) (here : n ≡ wadd first (count + extras)) where
      next : left ≡ transmit_slot page n ∷ behind page first posted (count + extras + 1)
      next = behind_more page first posted n (count + extras) k here

      bad : extra_follows (transmit_slot page n) ≡ true → cut ≡ misshapen
      bad e = so_far ∙ data_bad left count extras right _ _ next e

      scanned_on : extra_follows (transmit_slot page n) ≡ false → {b : Bool} → more_data (transmit_slot page n) ≡ b
          → cut ≡ scan (behind page first posted (count + 1 + extras)) (count + 1) extras false b
      scanned_on none more =
          let one : count + extras + 1 ≡ count + 1 + extras = omega arith in
          so_far ∙ data_next left count extras right _ _ next none
          ∙ (λ i. scan (behind page first posted (one i)) (count + 1) extras false (more i))

pub returns-then-not-announced : goal.returns-then-not-announced
returns-then-not-announced c = let a = c.args in
    let none = c.if-not-announced.true in
    record {
      read = record { few = omega arith; table = sym (splice_none _ 1) };
      rest = ap (scan (behind a.page.now a.first a.posted (a.extras + 1)) 1 a.extras false) none ∙ nothing_owed _ 1 a.extras c.requires.1;
      sum = refl;
    }

pub loop-count-init : goal.loop-count-init
loop-count-init c = let a = c.args in
    let place : a.extras + 1 ≡ 1 + a.extras = omega arith in
    record {
      so_far = λ i. scan (behind a.page.now a.first a.posted (place i)) 1 a.extras false (c.if-not-announced.false i);
      counted = refl;
      limit = c.requires.1;
      read = record { few = omega arith; table = sym (splice_none _ 1) };
      sum = refl;
      small = omega arith;
    }

-- what was read before this turn
module _ (c : In-loop-count) where
  read_before : SomeLater c.args.page.now c.args.first c.args.posted c.args.extras (sizes_in c.args.parts.now) (sizes_in c.loop-count.parts) c.loop-count.read
  read_before = record { read = c.loop-count.invariant.read; sum = c.loop-count.invariant.sum }

pub returns-then-not-fits : goal.returns-then-not-fits
returns-then-not-fits c = let a = c.args in
    let l = c.loop-count in (
      closed a.page.now a.first a.posted a.extras l.count _ l.invariant.so_far (sym c.fits.ensures ∙ c.if-not-fits.true),
      read_before (goal.at.returns-then-not-fits c).In-loop-count,
    )

pub returns-then-i-posted : goal.returns-then-i-posted
returns-then-i-posted c = let a = c.args in
    let l = c.loop-count in (
      ended a.page.now a.first a.posted a.extras l.count _ l.invariant.so_far (sym c.fits.ensures ∙ c.if-not-fits.false) c.if-i-posted.true,
      read_before (goal.at.returns-then-i-posted c).In-loop-count,
    )

pub returns-then-extra_follows : goal.returns-then-extra_follows
returns-then-extra_follows c = let a = c.args in
    let l = c.loop-count in (
      bad a.page.now a.first a.posted a.extras l.count _ l.invariant.so_far (sym c.fits.ensures ∙ c.if-not-fits.false) _ (omega arith) c.ahead.ensures
          (sym (follows_bit _ c.read-slot.result c.read-slot.ensures) ∙ sym c.extra_follows.ensures ∙ c.if-extra_follows.true),
      read_before (goal.at.returns-then-extra_follows c).In-loop-count,
    )

pub bounds-parts-count : goal.bounds-parts-count
bounds-parts-count c = omega (arith, within_datas (c.loop-count.count + 1) c.args.extras (sym c.fits.ensures ∙ c.if-not-fits.false))

-- a later data slot was read
module _ (c : After-more_data) where
  its_size : c.read-slot.result.size ≡ size (transmit_slot c.args.page.now c.ahead.result)
  its_size = size_field _ c.read-slot.result c.read-slot.ensures

  allowed : within (c.loop-count.count + 1) c.args.extras ≡ true
  allowed = sym c.fits.ensures ∙ c.if-not-fits.false

  scanned : {b : Bool} → c.more_data.result ≡ b
      → scan (behind c.args.page.now c.args.first c.args.posted (c.args.extras + 1)) 1 c.args.extras false c.args.announced
      ≡ scan (behind c.args.page.now c.args.first c.args.posted (c.loop-count.count + 1 + c.args.extras)) (c.loop-count.count + 1) c.args.extras false b
  scanned more =
      scanned_on c.args.page.now c.args.first c.args.posted c.args.extras c.loop-count.count _ c.loop-count.invariant.so_far allowed _ (omega arith) c.ahead.ensures
      (sym (follows_bit _ c.read-slot.result c.read-slot.ensures) ∙ sym c.extra_follows.ensures ∙ c.if-extra_follows.false)
      (sym (more_bit _ c.read-slot.result c.read-slot.ensures) ∙ sym c.more_data.ensures ∙ more)

  summed : c.loop-count.read.sum + c.from.result ≡ sizes_of (transmit_slots c.args.page.now (c.args.first + (c.args.extras + 1)) c.loop-count.count)
  summed =
      ap (◌+ c.from.result) c.loop-count.invariant.sum
      ∙ added c.args.page.now c.args.first c.args.posted c.args.extras c.loop-count.count c.loop-count.read.count _ c.loop-count.invariant.counted c.ahead.ensures _ (c.from.ensures ∙ its_size)

  stored : {after : List ℕ} → after ≡ set (sizes_in c.loop-count.parts) c.loop-count.count c.read-slot.result.size
      → SizesRead c.args.page.now c.args.first c.args.posted c.args.extras (sizes_in c.args.parts.now) after c.loop-count.count
  stored w =
      entered c.args.page.now c.args.first c.args.posted c.args.extras c.loop-count.count c.loop-count.read.count _ c.loop-count.invariant.counted c.ahead.ensures _ its_size
      (omega arith) (omega (arith, within_datas (c.loop-count.count + 1) c.args.extras allowed)) _ _ _
      (length-map c.args.parts.now (λ p. p.size) ∙ c.told-parts) c.loop-count.invariant.read w

pub returns-then-not-more_data : goal.returns-then-not-more_data
returns-then-not-more_data c = let r = (goal.at.returns-then-not-more_data c).After-more_data in
    let l = c.loop-count in
    record {
      read = stored r (map-set _ l.parts l.count _);
      rest = scanned r c.if-not-more_data.true ∙ nothing_owed _ (l.count + 1) c.args.extras (allowed r);
      sum = summed r;
    }

pub loop-count-preserved : goal.loop-count-preserved
loop-count-preserved c = let r = (goal.at.loop-count-preserved c).After-more_data in
    let l = c.loop-count in
    record {
      so_far = scanned r c.if-not-more_data.false;
      counted = refl;
      limit = allowed r;
      read = stored r (map-set _ l.parts l.count _);
      sum = summed r;
      small = omega arith;
    }

-- the limit has ended the loop before
pub returns : goal.returns
returns c = absurd (omega (arith, within_datas c.loop-count.count c.args.extras c.loop-count.invariant.limit))
