-- `take_next` meets its contract: what a take leaves is the take that the definition makes next, and the numbers fit again (`step_taken`,
-- `step_fits`).
use Rattle.batching.proofs.Course.{take_told, keep_fits, step_taken, step_fits}
use Rattle.batching.proofs.take_next.Goals as goal

pub keep-free-requires : goal.keep-free-requires
keep-free-requires c = let b = c.args.batch.now in
    let l = c.args.list.now in
    let frame = c.args.frame.now in
    let told = take_told c.args.grants.now c.args.window.now b c.args.ring.now l frame c.requires.0 in
    keep_fits c.args.grants.now c.args.window.now b c.args.ring.now l frame c.requires.0 _ _ _ (c.take_listed-taken.ensures.1 l told)

pub returns : goal.returns
returns c = let b = c.args.batch.now in
    let l = c.args.list.now in
    let frame = c.args.frame.now in
    let told = take_told c.args.grants.now c.args.window.now b c.args.ring.now l frame c.requires.0 in
    let whole = c.take_listed-taken.ensures.1 l told in (
      step_fits c.args.grants.now c.args.window.now b c.args.ring.now l frame c.requires.0 _ _ _ whole _ _ c.keep-free.ensures.records c.keep-free.ensures.place _ c.advance.ensures.0 c.args.results.now _ c.take_listed-taken.ensures.0 _ c.is_some.ensures c.advance.ensures.1,
      step_taken c.args.grants.now c.args.window.now b c.args.ring.now l frame c.requires.0 _ _ _ whole _ _ c.keep-free.ensures.records c.keep-free.ensures.place _ c.advance.ensures.0 c.args.results.now _ c.take_listed-taken.ensures.0 _ c.is_some.ensures,
    )
