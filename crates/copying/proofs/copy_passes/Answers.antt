-- `copying::copy_passes` meets its contract. After k passes the count is k, and the first 8 * k bytes of src are at the front of dst.
use mathlib.Core.Path.{◌≡◌, refl, sym, ap, ◌∙◌}
use Prim.Native.Nat.{◌+◌, ◌*◌}
use native.Mathlib.Omega.{arith}
use lib.ListN.{take, drop}
use Rattle.words.specs.Word.{splice}
use Rattle.words.proofs.Word.{splice_none}
use Rattle.copying.proofs.Copied.{splice_front_more}
use Rattle.copying.proofs.copy_passes.Goals as goal

pub loop-k-init : goal.loop-k-init
loop-k-init c = (refl, sym (splice_none _ _))

pub loop-k-preserved : goal.loop-k-preserved
loop-k-preserved c = let l = c.loop-k in
    let a = c.args in
    let next : 8 * l.k + 8 ≡ 8 * (l.k + 1) = omega arith in (
      omega arith,
      c.put_bytes.ensures
          ∙ ap (splice l.dst (8 * l.k)) c.bytes_at-eight.ensures
          ∙ ap (λ d. splice d (8 * l.k) (take 8 (drop (8 * l.k) a.src.now))) l.invariant.1
          ∙ splice_front_more a.dst.now a.src.now (8 * l.k) 8 (omega arith) (omega arith)
          ∙ ap (λ n. splice a.dst.now 0 (take n a.src.now)) next,
    )

pub returns : goal.returns
returns c = let l = c.loop-k in
    let all : l.k ≡ c.args.passes = omega arith in
    (rw all at l.invariant.1, l.invariant.0 ∙ all)
