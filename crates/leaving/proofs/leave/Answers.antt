-- Each step and each way out is one law of `Going`.
use Rattle.std.proofs.Common.{◌≡◌, ℕ, ◌+◌, ◌≤◌, ◌<◌, List, true, get_or, sym, refl, ◌∙◌, arith}
use Rattle.held.specs.declared.Held.{Held}
use Rattle.held.specs.Records.{free, is_finished}
use Rattle.held.proofs.Cover.{covers_split}
use Rattle.leaving.proofs.Going.{Goes, goes_start, goes_all, goes_inside, goes_counts, goes_waits, goes_some, goes_within, goes_step}
use Rattle.leaving.proofs.leave.Goals as goal
use Rattle.leaving.proofs.leave.Goals.{After-place-at, Else-not-is_finished}

as_left : (n r : ℕ) (l₀ : List Held) (index page₀ : List ℕ) (at : ℕ) {l m : List Held} {page written : List ℕ} → m ≡ l → written ≡ page → Goes n r l₀ index page₀ at l page → Goes n r l₀ index page₀ at m written
as_left n r l₀ index page₀ at p q t = rw (p, q) t

counts : (c : After-place-at) → let x = get_or c.loop-offset.list c.place-at.result free in (x.slots ≤ 256) × (x.extras < x.slots)
counts c = let a = c.args in goes_counts a.between a.replied a.list.now a.index.now a.ring.now c.requires c.loop-offset.invariant c.loop-offset-test.true c.place-at.result c.place-at.ensures (get_or c.loop-offset.list c.place-at.result free) refl

module _ (c : Else-not-is_finished) where
  finished : is_finished (get_or c.loop-offset.list c.place-at.result free) ≡ true
  finished = sym c.is_finished.ensures ∙ c.if-not-is_finished.false

  some : 0 < (get_or c.loop-offset.list c.place-at.result free).slots
  some = let a = c.args in goes_some a.between a.replied a.list.now a.index.now a.ring.now c.requires c.loop-offset.invariant c.loop-offset-test.true c.place-at.result c.place-at.ensures (get_or c.loop-offset.list c.place-at.result free) refl finished

  within : c.loop-offset.offset + (get_or c.loop-offset.list c.place-at.result free).slots ≤ c.args.between
  within = let a = c.args in goes_within a.between a.replied a.list.now a.index.now a.ring.now c.requires c.loop-offset.invariant c.loop-offset-test.true c.place-at.result c.place-at.ensures (get_or c.loop-offset.list c.place-at.result free) refl finished

pub loop-offset-init : goal.loop-offset-init
loop-offset-init c = let a = c.args in goes_start a.between a.replied a.list.now a.index.now a.ring.now c.requires c.ranges.replied.fits

pub place-at-requires : goal.place-at-requires
place-at-requires c = let a = c.args in omega (arith, (covers_split a.between a.replied a.list.now c.requires.covered).small, c.loop-offset-test.true)

pub slice_copy_out-h : goal.slice_copy_out-h
slice_copy_out-h c = let a = c.args in
    goes_inside a.between a.replied a.list.now a.index.now a.ring.now c.requires c.loop-offset.invariant c.loop-offset-test.true c.place-at.result c.place-at.ensures

pub returns-then-not-is_finished : goal.returns-then-not-is_finished
returns-then-not-is_finished c = let a = c.args in
    goes_waits a.between a.replied a.list.now a.index.now a.ring.now c.requires c.loop-offset.invariant c.loop-offset-test.true c.place-at.result c.place-at.ensures (get_or c.loop-offset.list c.place-at.result free) refl (sym c.is_finished.ensures ∙ c.if-not-is_finished.true)

pub reply_for-requires : goal.reply_for-requires
reply_for-requires c = counts (goal.at.reply_for-requires c).After-place-at

pub release-requires : goal.release-requires
release-requires c = let a = c.args in
    goes_inside a.between a.replied a.list.now a.index.now a.ring.now c.requires c.loop-offset.invariant c.loop-offset-test.true c.place-at.result c.place-at.ensures

pub overflow_add-offset : goal.overflow_add-offset
overflow_add-offset c = record { fits = omega (arith, within (goal.at.overflow_add-offset c).Else-not-is_finished) }

pub loop-offset-smaller : goal.loop-offset-smaller
loop-offset-smaller c = omega (arith, some (goal.at.loop-offset-smaller c).Else-not-is_finished, c.loop-offset-test.true)

pub loop-offset-preserved : goal.loop-offset-preserved
loop-offset-preserved c = let a = c.args in
    as_left a.between a.replied a.list.now a.index.now a.ring.now _ c.release.ensures c.reply_for.ensures
    (goes_step a.between a.replied a.list.now a.index.now a.ring.now c.requires c.loop-offset.invariant c.loop-offset-test.true c.place-at.result c.place-at.ensures (get_or c.loop-offset.list c.place-at.result free) refl
    (finished (goal.at.loop-offset-preserved c).Else-not-is_finished))

pub returns : goal.returns
returns c = let a = c.args in goes_all a.between a.replied a.list.now a.index.now a.ring.now c.requires c.loop-offset.invariant c.loop-offset-test.false
