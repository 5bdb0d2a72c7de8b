-- `scatter` meets its contract. One turn is `scatter_next`, and the last piece, all that is left of the frame, `scatter_more`.
use mathlib.Core.Path.{◌≡◌, sym, ap, ◌∙◌}
use mathlib.Core.List.{List, [], ◌∷◌, ◌++◌}
use Prim.Native.Nat.{ℕ, ◌+◌, ◌-◌, ◌*◌, ◌≤◌}
use native.Mathlib.Omega.{arith}
use lib.ListN.{length, take, drop, get_or, length-take, length-drop}
use lib.Seq.{take_all}
use Rattle.grant.specs.Grant.{with_page}
use Rattle.receive.specs.Put.{scatter}
use Rattle.receive.specs.Stages.{AllUsable}
use Rattle.receive.proofs.Pieces.{scatter_next, scatter_more, usable_at, usable_parts}
use Rattle.pieces.proofs.scatter.Goals as goal

-- the pages lie in the window: those before the last, and the last
parts : (n : ℕ) (pages whole : List ℕ) (last : ℕ) → pages ≡ whole ++ (last ∷ []) → AllUsable n pages → AllUsable n whole × (4096 * last + 4096 ≤ n)
parts n pages whole last e u = usable_parts n whole last (rw e at u)

-- what is left of the frame is the last piece
ends : (window pages whole frame : List ℕ) (last i : ℕ) (now next : List ℕ) → pages ≡ whole ++ (last ∷ []) → length frame ≤ 4096 * (length whole + 1) → length whole ≤ i
    → now ≡ scatter window (take i whole) frame → next ≡ with_page now last (take (length frame - 4096 * length whole) (drop (4096 * length whole) frame))
    → next ≡ scatter window pages frame
ends window pages whole frame last i now next e few done so written =
    let rest = drop (4096 * length whole) frame in
    let piece : take (length frame - 4096 * length whole) rest ≡ take 4096 rest
    = take_all _ rest (omega (arith, length-drop (4096 * length whole) frame)) ∙ sym (take_all 4096 rest (omega (arith, length-drop (4096 * length whole) frame))) in
    written
    ∙ ap (with_page now last) piece
    ∙ ap (λ (w : List ℕ). with_page w last (take 4096 rest)) (so ∙ ap (λ (l : List ℕ). scatter window l frame) (take_all i whole done))
    ∙ sym (scatter_more window whole frame last)
    ∙ ap (λ (l : List ℕ). scatter window l frame) (sym e)

pub write-requires : goal.write-requires
write-requires c = let a = c.args in
    let l = c.loop-i in
    let s = c.in-Some in
    let u = parts (length a.window.now) a.pages.now s.whole.now s.last.now s.ensures.cases.0 c.requires.2 in
    (omega (arith, usable_at (length a.window.now) s.whole.now u.0 l.i c.loop-i-test.true), omega (arith, length-take (4096 * l.i + 4096 - 4096 * l.i) (drop (4096 * l.i) a.frame.now)))

pub loop-i-preserved : goal.loop-i-preserved
loop-i-preserved c = let a = c.args in
    let l = c.loop-i in
    let whole = c.in-Some.whole.now in
    let size : 4096 * l.i + 4096 - 4096 * l.i ≡ 4096 = omega arith in
    c.write.ensures
    ∙ ap (λ (n : ℕ). with_page l.window (get_or whole l.i 0) (take n (drop (4096 * l.i) a.frame.now))) size
    ∙ ap (λ (w : List ℕ). with_page w (get_or whole l.i 0) (take 4096 (drop (4096 * l.i) a.frame.now))) l.invariant
    ∙ sym (scatter_next a.window.now whole a.frame.now l.i c.loop-i-test.true)

pub write-requires-2 : goal.write-requires-2
write-requires-2 c = let a = c.args in
    let s = c.in-Some in
    let u = parts (length a.window.now) a.pages.now s.whole.now s.last.now s.ensures.cases.0 c.requires.2 in
    let k = 4096 * length s.whole.now in
    (omega (arith, u.1), omega (arith, s.ensures.cases.1, length-take (length a.frame.now - k) (drop k a.frame.now)))

pub returns : goal.returns
returns c = let a = c.args in
    let l = c.loop-i in
    let s = c.in-Some in
    ends a.window.now a.pages.now s.whole.now a.frame.now s.last.now l.i l.window _ s.ensures.cases.0 (omega (arith, s.ensures.cases.1)) c.loop-i-test.false l.invariant
    c.write-2.ensures
