-- `keep` meets its contract: the record stands in the first free one's place, and from there on the next free one is looked for (`vacancy_behind`).
use mathlib.Core.Path.{◌≡◌, refl, sym, ap, ◌∙◌}
use mathlib.Core.List.{List}
use Prim.Native.Nat.{ℕ, ◌<◌, ◌≤◌}
use native.Mathlib.Omega.{arith}
use lib.ListN.{length, set, length-set}
use Rattle.std.proofs.Common.{rules}
use Rattle.std.specs.Prelude.{Option, Some, None}
use Rattle.held.specs.declared.Held.{Held}
use Rattle.held.specs.Records.{full, first_free, vacancy, added}
use Rattle.concluding.specs.Taken.{kept_in}
use Rattle.batching.proofs.Free.{vacant_place, vacancy_some, vacancy_behind}
use Rattle.batching.proofs.keep.Goals as goal

record_kept : (l : List Held) (at : ℕ) (h : Held) (kept : Option Held) → kept ≡ Some h → at ≡ first_free l → (l' : List Held) → l' ≡ set l at h → l' ≡ kept_in l kept
unfolding added
record_kept l at h kept is same l' by = rw is (by ∙ ap (λ (n : ℕ). set l n h) same)

pub returns-in_err-at : goal.returns-in_err-at
returns-in_err-at c =
    let (open-list, place) = c.requires c.in-Some.held c.in-Some.is in
    let some = vacancy_some c.args.list.now open-list in
    let none = c.in_err-at.was in
    absurd (cc (none, place, some))

pub add-requires : goal.add-requires
add-requires c = (vacant_place c.args.list.now c.in_ok-at.at (sym c.in_ok-at.was ∙ (c.requires c.in-Some.held c.in-Some.is).1)).1

pub offset_bounds-list-at : goal.offset_bounds-list-at
offset_bounds-list-at c =
    let inside : c.in_ok-at.at < length c.args.list.now = (vacant_place c.args.list.now c.in_ok-at.at (sym c.in_ok-at.was ∙ (c.requires c.in-Some.held c.in-Some.is).1)).1 in
    search rules

pub slice_bounds-first_free-count : goal.slice_bounds-first_free-count
slice_bounds-first_free-count c =
    let inside : c.in_ok-at.at < length c.args.list.now = (vacant_place c.args.list.now c.in_ok-at.at (sym c.in_ok-at.was ∙ (c.requires c.in-Some.held c.in-Some.is).1)).1 in
    omega (arith, ap length c.add.ensures, length-set c.args.list.now c.in_ok-at.at c.in-Some.held)

pub slice_bounds-first_free-start : goal.slice_bounds-first_free-start
slice_bounds-first_free-start c =
    let inside : c.in_ok-at.at < length c.args.list.now = (vacant_place c.args.list.now c.in_ok-at.at (sym c.in_ok-at.was ∙ (c.requires c.in-Some.held c.in-Some.is).1)).1 in
    search rules

pub returns-in_err-next : goal.returns-in_err-next
returns-in_err-next c =
    let l = c.args.list.now in
    let place = vacant_place l c.in_ok-at.at (sym c.in_ok-at.was ∙ (c.requires c.in-Some.held c.in-Some.is).1) in
    record {
      records = record_kept l c.in_ok-at.at c.in-Some.held c.args.kept c.in-Some.is place.0 _ c.add.ensures;
      place = λ h is. c.from_residual-in_err-next.ensures ∙ (vacancy_behind l c.in-Some.held c.in_ok-at.at place.0 _ c.add.ensures _ c.first_free.ensures).0 c.in_err-next.was;
      stays = λ none. cc (none, c.in-Some.is);
    }

pub returns : goal.returns
returns c =
    let l = c.args.list.now in
    let place = vacant_place l c.in_ok-at.at (sym c.in_ok-at.was ∙ (c.requires c.in-Some.held c.in-Some.is).1) in
    record {
      records = record_kept l c.in_ok-at.at c.in-Some.held c.args.kept c.in-Some.is place.0 _ c.add.ensures;
      place = λ h is. (vacancy_behind l c.in-Some.held c.in_ok-at.at place.0 _ c.add.ensures _ c.first_free.ensures).1 _ c.in_ok-next.was;
      stays = λ none. cc (none, c.in-Some.is);
    }
