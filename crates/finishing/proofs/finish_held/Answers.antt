-- Each way out is one law of `Answers`.
use Rattle.std.proofs.Common.{◌≡◌, ℕ, ◌<◌, ◌≤◌, Option, Some, None, length, sym, ◌∙◌, arith}
use Rattle.std.proofs.lemmas.Result.{err_from_is_err_and}
use Rattle.ring.specs.Ring.{wadd, wsub}
use Rattle.ring.proofs.Counters.{posted_of}
use Rattle.held.specs.Valid.{between}
use Rattle.held.proofs.Cover.{covers_split}
use Rattle.ticketing.specs.Place.{place_in}
use Rattle.finishing.specs.declared.Refusal.TheVariants.{BadTicket}
use Rattle.finishing.proofs.Answers.{refusal_is, finish_unheld, finish_inside, finish_refused, finish_indexed, finish_done}
use Rattle.finishing.proofs.finish_held.Goals as goal
use Rattle.finishing.proofs.finish_held.Goals.{Start, In_ok-at}

-- a counter that is so many slots ahead
between_ahead : (r n : ℕ) → n ≤ 256 → n ≡ between (wadd r n) r
unfolding between
between_ahead r n few = sym (posted_of r n (omega arith))

few : (c : Start) → c.args.slots ≤ 256
few c = let a = c.args in (covers_split a.slots a.replied a.list.now c.requires.covered).small

module _ (c : In_ok-at) where
  place : ◌≡◌ {A = Option ℕ} (Some c.in_ok-at.at) (place_in c.args.index.now (wsub c.args.ticket c.args.replied) c.args.slots)
  place = sym c.in_ok-at.ensures.ok_part ∙ c.find.ensures

  inside : c.in_ok-at.at < length c.args.list.now
  inside = let a = c.args in
      finish_inside a.list.now (wadd a.replied a.slots) a.replied a.ring.now a.ticket a.status c.told-ring a.slots (between_ahead a.replied a.slots (few (goal.at.In_ok-at c).Start)) a.index.now c.requires c.ranges.ticket.fits c.in_ok-at.at place

pub find-requires : goal.find-requires
find-requires c = few (goal.at.find-requires c).Start

pub returns-in_err-at : goal.returns-in_err-at
returns-in_err-at c = let a = c.args in λ n apart.
    let p = err_from_is_err_and c.from_residual.result c.from_residual.ensures.1 in
    let e = refusal_is _ BadTicket c.find.result c.in_err-at.ensures.ok_part c.in_err-at.ensures.value in
    let f : ◌≡◌ {A = Option ℕ} None (place_in a.index.now (wsub a.ticket a.replied) a.slots) = sym c.in_err-at.ensures.ok_part ∙ c.find.ensures in
    rw (p.1, p.2, e) (finish_unheld a.list.now n a.replied a.ring.now a.ticket a.status c.told-ring a.slots apart a.index.now c.requires c.ranges.ticket.fits f)

pub offset_bounds-list-at : goal.offset_bounds-list-at
offset_bounds-list-at c = record { fits = omega (arith, inside c, c.requires.few) }

pub slice_copy_out-may_finish : goal.slice_copy_out-may_finish
slice_copy_out-may_finish c = inside (goal.at.slice_copy_out-may_finish c).In_ok-at

pub returns-then-not-may_finish : goal.returns-then-not-may_finish
returns-then-not-may_finish c = let a = c.args in λ n apart.
    finish_refused a.list.now n a.replied a.ring.now a.ticket a.status c.told-ring a.slots apart a.index.now c.requires c.ranges.ticket.fits c.in_ok-at.at (place (goal.at.returns-then-not-may_finish c).In_ok-at)
    c.may_finish.result c.may_finish.ensures c.if-not-may_finish.true

pub finish-requires : goal.finish-requires
finish-requires c = inside (goal.at.finish-requires c).In_ok-at

pub leave-left-requires : goal.leave-left-requires
leave-left-requires c = let a = c.args in
    finish_indexed a.list.now (wadd a.replied a.slots) a.replied a.ring.now a.ticket a.status c.told-ring a.slots (between_ahead a.replied a.slots (few (goal.at.leave-left-requires c).Start)) a.index.now c.requires c.ranges.ticket.fits c.in_ok-at.at
    (place (goal.at.leave-left-requires c).In_ok-at) c.may_finish.result c.may_finish.ensures c.if-not-may_finish.false c.finish.new.list c.finish.ensures

pub returns : goal.returns
returns c = let a = c.args in λ n apart.
    finish_done a.list.now n a.replied a.ring.now a.ticket a.status c.told-ring a.slots apart a.index.now c.requires c.ranges.ticket.fits c.in_ok-at.at (place (goal.at.returns c).In_ok-at)
    c.may_finish.result c.may_finish.ensures c.if-not-may_finish.false c.finish.new.list c.finish.ensures
    c.ranges.replied.fits c.leave-left.result c.leave-left.new.list c.leave-left.new.ring c.publish.result c.publish.new.ring c.leave-left.ensures c.publish.ensures
