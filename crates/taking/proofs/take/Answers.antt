-- `taking::take` meets its contract: what was found of the list is what the take is told, and the record that it takes goes to the first
-- free one's place (`free_here`, `place_fits`, `taken_one`).
use mathlib.Core.Path.{◌≡◌, sym, ap, ◌∙◌}
use mathlib.Core.List.{List}
use Prim.Native.Nat.{ℕ, ◌<◌}
use lib.ListN.{length, set}
use Rattle.std.specs.Prelude.{Some, is_some}
use Rattle.held.specs.declared.Held.{Held}
use Rattle.held.specs.Records.{first_free}
use Rattle.noting.specs.Survey.{free_in}
use Rattle.transmit.specs.Take.{transmit_take}
use Rattle.concluding.specs.Taken.{Concludes}
use Rattle.taking.proofs.Storing.{found_of, free_here, place_fits, taken_one, taken_none}
use Rattle.taking.proofs.take.Goals as goal
use Rattle.taking.proofs.take.Goals.{In-Some}

module _ (c : In-Some) where
  -- what the take is told of the list is what it comes to
  abbrev concluded : Concludes (transmit_take c.args.grants.now c.args.window.now c.args.queue c.args.ring.now c.args.frame.now c.args.list.now) c.args.queue c.args.list.now
      c.conclude-taken.result c.conclude-taken.new.ring c.conclude-taken.new.frame
  concluded = c.conclude-taken.ensures c.args.list.now (found_of c.args.queue c.args.list.now _ c.look_over-found.ensures)

  place : free_in c.look_over-found.result ≡ Some (first_free c.args.list.now)
  place = free_here c.args.queue c.args.list.now _ c.look_over-found.ensures _ c.conclude-taken.result _ _ concluded c.in-Some.held c.in-Some.is

pub unwrap-at-requires : goal.unwrap-at-requires
unwrap-at-requires c = ap is_some (c.free_in.ensures ∙ place (goal.at.unwrap-at-requires c).In-Some)

pub add-requires : goal.add-requires
add-requires c = let s = (goal.at.add-requires c).In-Some in
    let at : Some c.unwrap-at.result ≡ Some (first_free c.args.list.now) = sym c.unwrap-at.ensures ∙ c.free_in.ensures ∙ place s in
    let same : c.unwrap-at.result ≡ first_free c.args.list.now = cc in
    rw same (place_fits c.args.queue c.args.list.now _ c.look_over-found.ensures _ c.conclude-taken.result _ _ (concluded s) c.in-Some.held c.in-Some.is)

pub returns-in-Some : goal.returns-in-Some
returns-in-Some c = let s = (goal.at.returns-in-Some c).In-Some in
    let at : Some c.unwrap-at.result ≡ Some (first_free c.args.list.now) = sym c.unwrap-at.ensures ∙ c.free_in.ensures ∙ place s in
    let same : c.unwrap-at.result ≡ first_free c.args.list.now = cc in
    taken_one c.args.queue c.args.list.now _ c.look_over-found.ensures _ c.conclude-taken.result _ _ (concluded s) c.in-Some.held c.in-Some.is c.add.new.list (rw same at c.add.ensures)

pub returns-in_default : goal.returns-in_default
returns-in_default c = let l = c.args.list.now in
    taken_none c.args.queue l _ c.look_over-found.ensures _ c.conclude-taken.result _ _ (c.conclude-taken.ensures l (found_of c.args.queue l _ c.look_over-found.ensures)) c.in_default.is
