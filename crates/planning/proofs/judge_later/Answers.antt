-- `judge_later` meets its contract. The invariant: the verdict on all later data slots is that on those left, since those passed
-- are good; their parts are in the table, whose sizes stay, and what is behind them. Each way out is one law of `Plans`.
use mathlib.Core.Path.{◌≡◌, refl, sym, ap, ◌∙◌}
use mathlib.Core.List.{List, append-nil}
use Prim.Native.Nat.{ℕ, suc, ◌+◌, ◌-◌, ◌<◌}
use native.Mathlib.Omega.{arith}
use native.Mathlib.Nat.{add-zero}
use lib.ListN.{length, get_or, get_or-map, length-map}
use lib.Seq.{map-set_same}
use Rattle.std.proofs.lemmas.List.{drop-set-lt}
use Rattle.std.proofs.lemmas.Result.{err_from_is_err_and}
use Rattle.words.proofs.Word.{no_confusion}
use Rattle.grammar.specs.declared.Part.{Part}
use Rattle.grammar.specs.Stages.{sizes_in}
use Rattle.packet.proofs.Plans.{later_none, turn_bad, turn_good, turn_next}
use Rattle.planning.proofs.judge_later.Goals as goal

-- a part's size, as the table of sizes has it, while that is as it was
size_there : (before now : List Part) → sizes_in now ≡ sizes_in before → (i : ℕ) → (get_or now i (record { page = 0; offset = 0; size = 0 })).size ≡ get_or (sizes_in before) i 0
size_there before now h i = sym (get_or-map (λ (p : Part). p.size) now i (record { page = 0; offset = 0; size = 0 })) ∙ ap (λ (l : List ℕ). get_or l i 0) h

pub loop-i-init : goal.loop-i-init
loop-i-init c = let a = c.args in
    let z : a.later - 0 ≡ a.later = omega arith in
    (rw (add-zero (suc a.extras), add-zero (a.first + (a.extras + 1)), z), sym (append-nil _), refl, λ m h. refl)

pub returns-in_err-page : goal.returns-in_err-page
returns-in_err-page c = let a = c.args in
    let l = c.loop-i in
    let e = err_from_is_err_and c.from_residual.result c.from_residual.ensures.1 in
    let this_bad = turn_bad a.grants.now a.window.now a.ring.now a.first a.extras a.later l.i (omega arith) (sizes_in a.parts.now) c.requires.2 _ c.ahead.ensures c.read-slot.result c.read-slot.ensures
    _ (size_there a.parts.now l.parts l.invariant.2 (l.i + 1)) _ c.judge_slot.ensures c.in_err-page.field-0.0 c.in_err-page.was in
    rw (e.1, e.2) (record { verdict = sym (l.invariant.0 ∙ this_bad); parts_are = λ h. no_confusion cc; behind = λ h. no_confusion cc; sizes_stay = l.invariant.2 })

pub loop-i-preserved : goal.loop-i-preserved
loop-i-preserved c = let a = c.args in
    let l = c.loop-i in
    let k : l.i < a.later = omega arith in
    let q = c.in_ok-page.page in
    let there = size_there a.parts.now l.parts l.invariant.2 (l.i + 1) in
    let this_good = turn_good a.grants.now a.window.now a.ring.now a.first a.extras a.later l.i k (sizes_in a.parts.now) c.requires.2 _ c.ahead.ensures c.read-slot.result c.read-slot.ensures _ there _ c.judge_slot.ensures q c.in_ok-page.was in
    let this_next = turn_next a.grants.now a.window.now a.ring.now a.first a.extras a.later l.i k (sizes_in a.parts.now) c.requires.2 _ c.ahead.ensures c.read-slot.result c.read-slot.ensures _ there _ c.judge_slot.ensures q c.in_ok-page.was in (
      l.invariant.0 ∙ this_good,
      this_next a.parts.now l.parts l.invariant.1 (omega (arith, c.told-parts, ap length l.invariant.2, length-map l.parts (λ (p : Part). p.size), length-map a.parts.now (λ (p : Part). p.size))),
      map-set_same (λ (p : Part). p.size) l.parts (l.i + 1) _ _ refl ∙ l.invariant.2,
      λ m h. drop-set-lt m l.parts (l.i + 1) _ (omega arith) ∙ l.invariant.3 m (omega arith),
    )

pub returns : goal.returns
returns c = let a = c.args in
    let l = c.loop-i in
    let z : l.i ≡ a.later = omega arith in
    record {
      verdict = sym (l.invariant.0 ∙ later_none a.grants.now a.window.now a.ring.now _ _ (a.later - l.i) (omega arith));
      parts_are = λ h. rw z at l.invariant.1;
      behind = λ h. l.invariant.3 (a.later + 1) (omega arith);
      sizes_stay = l.invariant.2;
    }
