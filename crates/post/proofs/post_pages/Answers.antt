-- `post_pages` meets its contract: each way out is one law of `Calls`.
use Rattle.std.proofs.Common.{arith, ◌≡◌, ◌≤◌, sym, length, take}
use lib.Seq.{length-take-le}
use Rattle.frontend.proofs.Shape.{few_extras}
use Rattle.frontend.proofs.Calls.{Counts, frame_counts, sorted_facts, posts_bad_pages, posts_no_slots, posts_posted}
use Rattle.post.proofs.post_pages.Goals as goal
use Rattle.post.proofs.post_pages.Goals.{Else-bad_pages}

-- where all references that are used are fit and name different pages
module _ (c : Else-bad_pages) where
  counts : Counts (length c.args.frame.now) c.args.count
  counts = frame_counts (length c.args.frame.now) c.args.count c.requires.0 c.requires.2

  pages_used : length (take c.args.count c.bad_pages.new.pages) ≡ c.args.count
  pages_used = length-take-le c.args.count c.bad_pages.new.pages (omega (arith, counts.few, c.bad_pages.array_long))

  enough : c.args.count ≤ length c.args.references.now
  enough = (sorted_facts c.args.grants.now c.args.window.now c.args.references.now c.args.count _ _ c.bad_pages.ensures c.if-bad_pages.false).0

  used : length (take c.args.count c.args.references.now) ≡ c.args.count
  used = length-take-le c.args.count c.args.references.now enough

pub bad_pages-requires : goal.bad_pages-requires
bad_pages-requires c = let k = frame_counts (length c.args.frame.now) c.args.count c.requires.0 c.requires.2 in k.few

pub returns-then-bad_pages : goal.returns-then-bad_pages
returns-then-bad_pages c = let a = c.args in
    posts_bad_pages a.grants.now a.ring.now a.window.now a.read a.gso a.references.now a.frame.now c.told-ring c.requires.0 c.requires.1 a.count c.requires.2 _ _ c.bad_pages.ensures c.if-bad_pages.true

pub overflow_add-slots : goal.overflow_add-slots
overflow_add-slots c =
    let k = counts (goal.at.overflow_add-slots c).Else-bad_pages in
    omega (arith, k.few, c.extras_of.ensures, few_extras c.args.gso)

pub returns-then-free-slots : goal.returns-then-free-slots
returns-then-free-slots c = let a = c.args in
    posts_no_slots a.grants.now a.ring.now a.window.now a.read a.gso a.references.now a.frame.now c.told-ring c.requires.0 c.requires.1 a.count c.requires.2 _ _ c.bad_pages.ensures c.if-bad_pages.false _ _ c.extras_of.ensures c.free.ensures c.if-free-slots.true

pub slice_bounds-pages-end : goal.slice_bounds-pages-end
slice_bounds-pages-end c =
    let k = counts (goal.at.slice_bounds-pages-end c).Else-bad_pages in
    omega (arith, k.few, c.bad_pages.array_long)

pub slice_bounds-scatter-end : goal.slice_bounds-scatter-end
slice_bounds-scatter-end c = sym (pages_used (goal.at.slice_bounds-scatter-end c).Else-bad_pages)

pub scatter-requires : goal.scatter-requires
scatter-requires c = let a = c.args in
    let at = (goal.at.scatter-requires c).Else-bad_pages in
    let k = counts at in
    let n = pages_used at in
    (omega (arith, n, k.under), omega (arith, n, k.reach), (sorted_facts a.grants.now a.window.now a.references.now a.count _ _ c.bad_pages.ensures c.if-bad_pages.false).1)

pub slice_bounds-put_packet-end : goal.slice_bounds-put_packet-end
slice_bounds-put_packet-end c = sym (used (goal.at.slice_bounds-put_packet-end c).Else-bad_pages)

pub put_packet-notify-requires : goal.put_packet-notify-requires
put_packet-notify-requires c =
    let at = (goal.at.put_packet-notify-requires c).Else-bad_pages in
    let k = counts at in
    let n = used at in
    (omega (arith, n, k.some), omega (arith, n, k.few), k.small, omega (arith, n, k.under))

pub returns : goal.returns
returns c = let a = c.args in
    posts_posted a.grants.now a.ring.now a.window.now a.read a.gso a.references.now a.frame.now c.told-ring c.requires.0 c.requires.1 a.count c.requires.2 _ _ c.bad_pages.ensures c.if-bad_pages.false _ _ c.extras_of.ensures c.free.ensures c.if-free-slots.false _ _ _
    c.scatter.ensures c.put_packet-notify.ensures
