-- `compare` meets its contract: by the agreement both readers answer the same and leave the same table.
use mathlib.Core.Path.{ap, ◌∙◌}
use native.Mathlib.Omega.{arith}
use Rattle.readers.specs.Compare.{count_of, compared_of}
use Rattle.division.proofs.Agreement.{readers_agree}
use Rattle.readers.proofs.Counting.{count_few, agreeing_all}
use Rattle.readers.proofs.compare.Goals as goal

pub agreed-requires : goal.agreed-requires
agreed-requires c = let k = c.count_of in
    omega (arith, k.ensures, count_few _ _ _ c.divide-slow.result c.divide-slow.ensures)

pub returns : goal.returns
unfolding compared_of
returns c = let k = c.count_of in
    let fast = c.divide-fast.ensures.0 in
    let (same, table) = readers_agree _ _ _ _ _ c.divide-fast.result c.divide-slow.ensures c.divide-fast.ensures in
    let agreed = c.agreed.ensures ∙ agreeing_all _ _ _ table ∙ k.ensures ∙ ap count_of (same ∙ fast) in
    λ i. record { slow = (same ∙ fast) i; fast = fast i; agreed = agreed i }
