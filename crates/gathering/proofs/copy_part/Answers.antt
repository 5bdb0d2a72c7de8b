-- `gathering::copy_part` meets its contract: the copy into the frame's part, and the frame put together again around it.
use mathlib.Core.Path.{ap, ◌∙◌}
use mathlib.Core.List.{◌++◌}
use Prim.Native.Nat.{◌+◌, ◌-◌}
use native.Mathlib.Omega.{arith}
use lib.ListN.{length, take, drop, length-take, length-drop}
use Rattle.words.specs.Word.{splice}
use Rattle.words.proofs.Word.{part_written}
use Rattle.grant.specs.Grant.{page_part}
use Rattle.packet.proofs.Joining.{part_size}
use Rattle.gathering.proofs.copy_part.Goals as goal

pub copy-requires : goal.copy-requires
copy-requires c = let a = c.args in
    let p = c.requires in
    let e = ap length c.lookup.ensures.part ∙ part_size a.window.now a.part.page a.part.offset a.part.size p.0 p.1 in
    (simp (length-take, length-drop) (omega (arith, e)), omega (arith, e))

pub returns : goal.returns
returns c = let a = c.args in
    let p = c.requires in
    let part = page_part a.window.now a.part.page a.part.offset a.part.size in
    let n = a.at + a.part.size - a.at in
    let e = c.lookup.ensures.part in
    ap (λ b. take a.at a.frame.now ++ (b ++ drop n (drop a.at a.frame.now))) (c.copy.ensures.0 ∙ ap (splice (take n (drop a.at a.frame.now)) 0) e)
    ∙ part_written a.frame.now part a.at n (omega (arith, part_size a.window.now a.part.page a.part.offset a.part.size p.0 p.1)) (omega arith)
