-- `copying::copy` meets its contract. The passes copy the first 8 * (n / 8) bytes of src. Without a tail these are all; with one they reach
-- the last eight, which were copied before. Fewer than eight bytes are copied one by one.
use mathlib.Core.Path.{◌≡◌, ap, ◌∙◌}
use Prim.Native.Nat.{◌-◌, ◌*◌, ◌/◌}
use native.Mathlib.Omega.{arith}
use lib.ListN.{length, take, drop, length-drop}
use lib.Seq.{take_all}
use Rattle.words.specs.Word.{splice}
use Rattle.copying.proofs.Copied.{splice_whole}
use Rattle.copying.proofs.copy.Goals as goal
use Rattle.copying.proofs.copy.Goals.{then-n-ne0+else-n-lt8, else-n-ne0}
use Rattle.copying.proofs.copy.Goals.{Joined-n-ne0}

met : (j : Joined-n-ne0)
    → (length j.if-n-ne0.dst ≡ length j.args.dst.now)
    × (splice j.if-n-ne0.dst 0 (take (8 * (length j.args.src.now / 8)) j.args.src.now)
    ≡ splice j.args.dst.now 0 j.args.src.now)
met j =
    let a = j.args in
    let src = a.src.now in
    let e = length src - 8 in
    elim j.if-n-ne0.branch [
      | then-n-ne0+else-n-lt8 w ↦
          let last : w.put_bytes.new.b ≡ splice a.dst.now e (drop e src)
          = w.put_bytes.ensures ∙ ap (splice a.dst.now e) (w.bytes_at.ensures ∙ take_all 8 (drop e src) (simp length-drop (omega arith))) in (
            ap length w.dst-is ∙ w.put_bytes.auto.b,
            ap (λ d. splice d 0 (take (8 * (length src / 8)) src)) (w.dst-is ∙ last)
                ∙ splice_whole a.dst.now src e (8 * (length src / 8)) (omega arith) (omega arith) (omega (arith, j.requires.0)),
          )
      | else-n-ne0 w ↦ (
        ap length w.dst-is,
        ap (λ d. splice d 0 (take (8 * (length src / 8)) src)) w.dst-is ∙ ap (splice a.dst.now 0) (take_all (8 * (length src / 8)) src (omega arith)),
      )
    ]

pub copy_eights-requires : goal.copy_eights-requires
copy_eights-requires c = let m = met (goal.at.copy_eights-requires c).Joined-n-ne0 in (omega (arith, m.0, c.requires), omega arith)

pub shape_of-dst : goal.shape_of-dst
shape_of-dst c = c.copy_eights.auto.dst ∙ (met (goal.at.shape_of-dst c).Joined-n-ne0).0

pub returns : goal.returns
returns c = let passed = c.copy_eights.ensures in (passed.0 ∙ (met (goal.at.returns c).Joined-n-ne0).1, passed.1)
