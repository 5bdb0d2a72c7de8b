-- `agreed` meets its contract. The invariant: so many of the places passed are the same.
use borrow.Author.Tests.{eq-eqb, ne_eqb}
use mathlib.Core.Path.{◌≡◌, ap, ◌∙◌}
use mathlib.Core.List.{List}
use Prim.Native.Nat.{ℕ, ◌+◌}
use native.Mathlib.Omega.{arith}
use native.Mathlib.Numerals.{add-one}
use lib.ListN.{get_or}
use Rattle.readers.specs.Compare.{agreeing}
use Rattle.readers.proofs.agreed.Goals as goal
use Rattle.readers.proofs.agreed.Goals.{then-a-i, else-a-i}

module _ (a b : List ℕ) (i same : ℕ) (h : same ≡ agreeing i a b) where
  -- one more place: the same in both, or not
  agreeing-same : get_or a i 0 ≡ get_or b i 0 → same + 1 ≡ agreeing (i + 1) a b
  agreeing-same e = rw (add-one i, eq-eqb _ _ e) (ap (◌+ 1) h)

  agreeing-other : (get_or a i 0 ≡ get_or b i 0 → ⊥) → same ≡ agreeing (i + 1) a b
  agreeing-other e = rw (add-one i, ne_eqb _ _ e) (omega arith)

pub loop-i-preserved : goal.loop-i-preserved
loop-i-preserved c = let l = c.loop-i in
    elim c.if-a-i.branch [
      | then-a-i w ↦ (w.same-is ∙ agreeing-same _ _ l.i l.same l.invariant.0 w.if-a-i.true, omega arith)
      | else-a-i w ↦ (w.same-is ∙ agreeing-other _ _ l.i l.same l.invariant.0 w.if-a-i.false, omega arith)
    ]

pub returns : goal.returns
returns c = let a = c.args in
    let l = c.loop-i in
    let all : l.i ≡ a.n = omega arith in
    l.invariant.0 ∙ ap (λ k. agreeing k a.a.now a.b.now) all
