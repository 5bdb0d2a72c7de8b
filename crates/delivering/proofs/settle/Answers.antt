-- `settle` meets its contract: what the judge found decides between `refuse` and `deliver`, in the definition as in the code.
use mathlib.Core.Path.{◌≡◌, refl, sym, ◌∙◌}
use mathlib.Core.List.{List}
use Prim.Native.Nat.{ℕ, ◌≤◌}
use native.Mathlib.Omega.{arith}
use lib.ListN.{length, take, length-take}
use Rattle.netif.specs.Slot.{receive_slots}
use Rattle.answer.specs.Verdict.{Verdict}
use Rattle.answer.specs.Effect.{Gives}
use Rattle.answer.specs.declared.Outcome.{Outcome}
use Rattle.receive.specs.Put.{needed, deliver}
use Rattle.receive.specs.Stages.{Judged}
use Rattle.receive.proofs.Calls.{needed_few, good_pages, settled_bad, settled_good}
use Rattle.delivering.proofs.settle.Goals as goal

few : (count n : ℕ) → n ≤ 65535 → count ≡ needed n → count ≤ 16
few count n h e = omega (arith, needed_few n h)

-- the part of the table that the requests need is as long as there are requests
taken : (count : ℕ) (table : List ℕ) → length table ≡ 16 → count ≤ 16 → length (take count table) ≡ count
taken count table h g = simp length-take (omega arith)

judged : (table window page : List ℕ) (old count k : ℕ) (pages : List ℕ) (v : Verdict) → k ≡ count → Judged table window (receive_slots page old k) pages v
    → Judged table window (receive_slots page old count) pages v
judged table window page old count k pages v e j = rw e at j

delivered : (page window pages frame : List ℕ) (old count k : ℕ) (r : Outcome) (ring' window' : List ℕ) → k ≡ count
    → Gives (deliver old page window (receive_slots page old k) pages frame) r ring' window' → Gives (deliver old page window (receive_slots page old count) pages frame) r ring' window'
delivered page window pages frame old count k r ring' window' e d = rw e at d

pub slice_bounds-table-end : goal.slice_bounds-table-end
slice_bounds-table-end c = few c.args.count _ c.requires.0 c.requires.1

pub slice_bounds-pages-end : goal.slice_bounds-pages-end
slice_bounds-pages-end c = sym (taken c.args.count _ refl (few c.args.count _ c.requires.0 c.requires.1))

pub refuse-requires : goal.refuse-requires
refuse-requires c = few c.args.count _ c.requires.0 c.requires.1

pub deliver-requires : goal.deliver-requires
deliver-requires c = let a = c.args in
    let k = taken a.count _ refl (few a.count _ c.requires.0 c.requires.1) in
    let j = judged a.grants.now a.window.now a.ring.now a.old a.count _ c.judge.new.pages c.judge.result k c.judge.ensures in (
      c.requires.0,
      c.judge.auto.pages ∙ k ∙ c.requires.1,
      good_pages a.grants.now a.window.now a.ring.now a.old a.count c.judge.new.pages (c.judge.auto.pages ∙ k) c.judge.result j c.in-Ok.is,
    )

pub returns-in-Err : goal.returns-in-Err
returns-in-Err c = let a = c.args in
    let k = taken a.count _ refl (few a.count _ c.requires.0 c.requires.1) in
    let j = judged a.grants.now a.window.now a.ring.now a.old a.count _ c.judge.new.pages c.judge.result k c.judge.ensures in
    settled_bad a.grants.now a.window.now a.ring.now a.old a.count c.judge.new.pages (c.judge.auto.pages ∙ k) c.judge.result j a.frame.now _ _ _ c.in-Err.fault c.in-Err.is
    (c.refuse.ensures a.window.now)

pub returns-in-Ok : goal.returns-in-Ok
returns-in-Ok c = let a = c.args in
    let k = taken a.count _ refl (few a.count _ c.requires.0 c.requires.1) in
    let j = judged a.grants.now a.window.now a.ring.now a.old a.count _ c.judge.new.pages c.judge.result k c.judge.ensures in
    settled_good a.grants.now a.window.now a.ring.now a.old a.count c.judge.new.pages (c.judge.auto.pages ∙ k) c.judge.result j a.frame.now _ _ _ c.in-Ok.is
    (delivered a.ring.now a.window.now c.judge.new.pages a.frame.now a.old a.count _ _ _ _ (c.judge.auto.pages ∙ k) c.deliver.ensures)
