-- `post_one` meets its contract: the one page, or that there is none, is what is found of the list; each way out is then one law of `Calls`.
use Rattle.std.proofs.Common.{arith, ◌≡◌, ◌+◌, ◌*◌, ◌≤◌, refl, sym, ap, ◌∙◌, [], ◌∷◌, false, length, Some, slice_get}
use Rattle.std.proofs.lemmas.Result.{err_from_is_err_and}
use Rattle.std.specs.Prelude.{option_copied}
use Rattle.receive.proofs.Calls.{one_piece}
use Rattle.grant.specs.Lookup.{write_page}
use Rattle.frontend.specs.Stages.{PagesTested}
use Rattle.frontend.proofs.Searching.{told}
use Rattle.frontend.proofs.Naming.{sorted_short, none_first, one_used, one_unfit, one_fit, one_page}
use Rattle.frontend.proofs.Calls.{frame_counts, one_scattered, posts_bad_pages, posts_no_slots, posts_posted}
use Rattle.one_page.proofs.post_one.Goals as goal
use Rattle.one_page.proofs.post_one.Goals.{In_ok-page}

-- the first reference, and what is found by it
module _ (c : In_ok-page) where
  first : slice_get c.args.references.now 0 ≡ Some c.in_ok-reference.field-0.now
  first = sym c.first.ensures.value ∙ ap option_copied c.in_ok-reference.ensures.ok_part

  fit : Some c.in_ok-page.page ≡ write_page c.args.grants.now c.args.window.now c.in_ok-reference.field-0.now
  fit = sym c.in_ok-page.ensures.ok_part ∙ c.fit_to_write.ensures

  tested : PagesTested c.args.grants.now c.args.window.now c.args.references.now 1 (c.in_ok-page.page ∷ []) false
  tested = one_fit c.args.grants.now c.args.window.now c.args.references.now _ first _ fit

pub returns-in_err-reference : goal.returns-in_err-reference
returns-in_err-reference c = let a = c.args in
    let p = err_from_is_err_and c.from_residual.result c.from_residual.ensures.1 in
    let q = c.in_err-reference.ensures in
    let short = none_first a.references.now (sym c.first.ensures.value ∙ ap option_copied q.ok_part) in
    rw (p.1, p.2, told _ _ _ q.value q.ok_part)
    (posts_bad_pages a.grants.now a.ring.now a.window.now a.read a.gso a.references.now a.frame.now c.told-ring c.requires.0 c.requires.1 1 (sym c.requires.2) _ _ (sorted_short a.grants.now a.window.now a.references.now 1 short []) refl)

pub returns-in_err-page : goal.returns-in_err-page
returns-in_err-page c = let a = c.args in
    let p = err_from_is_err_and c.from_residual-in_err-page.result c.from_residual-in_err-page.ensures.1 in
    let q = c.in_err-page.ensures in
    let first = sym c.first.ensures.value ∙ ap option_copied c.in_ok-reference.ensures.ok_part in
    let unfit = sym q.ok_part ∙ c.fit_to_write.ensures in
    rw (p.1, p.2, told _ _ _ q.value q.ok_part)
    (posts_bad_pages a.grants.now a.ring.now a.window.now a.read a.gso a.references.now a.frame.now c.told-ring c.requires.0 c.requires.1 1 (sym c.requires.2) _ _ (one_unfit a.grants.now a.window.now a.references.now _ first unfit) refl)

pub returns-then-free-slots : goal.returns-then-free-slots
returns-then-free-slots c = let a = c.args in
    posts_no_slots a.grants.now a.ring.now a.window.now a.read a.gso a.references.now a.frame.now c.told-ring c.requires.0 c.requires.1 1 (sym c.requires.2) _ _ (tested (goal.at.returns-then-free-slots c).In_ok-page) refl _ _ c.extras_of-slots.ensures c.free.ensures c.if-free-slots.true

pub write-requires : goal.write-requires
write-requires c = let a = c.args in
    let at = (goal.at.write-requires c).In_ok-page in
    (one_page a.grants.now a.window.now a.references.now _ (first at) _ (fit at), one_piece (length a.frame.now) c.requires.2)

pub put_packet-notify-requires : goal.put_packet-notify-requires
put_packet-notify-requires c = let a = c.args in
    let k = frame_counts (length a.frame.now) 1 c.requires.0 (sym c.requires.2) in
    let one = one_used a.grants.now a.window.now a.references.now _ (first (goal.at.put_packet-notify-requires c).In_ok-page) in
    (omega (arith, one), omega (arith, one), k.small, omega (arith, one, k.under))

pub returns : goal.returns
returns c = let a = c.args in
    posts_posted a.grants.now a.ring.now a.window.now a.read a.gso a.references.now a.frame.now c.told-ring c.requires.0 c.requires.1 1 (sym c.requires.2) _ _ (tested (goal.at.returns c).In_ok-page) refl _ _ c.extras_of-slots.ensures c.free.ensures c.if-free-slots.false _ _ _
    (c.write.ensures ∙ one_scattered a.window.now a.frame.now c.in_ok-page.page c.requires.2) c.put_packet-notify.ensures
