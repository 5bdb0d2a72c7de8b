-- `path_of` meets its contract: both names are in the buffer, end to end, and the text is their bytes.
use mathlib.Core.Path.{◌≡◌, ap, ◌∙◌}
use mathlib.Core.List.{List, ◌++◌}
use Prim.Native.Nat.{ℕ, ◌+◌}
use native.Mathlib.Omega.{arith}
use lib.ListN.{length, take, length-append}
use lib.Seq.{take-append_seam}
use Rattle.words.specs.Word.{splice}
use Rattle.words.proofs.Word.{splice_join}
use Rattle.replay.proofs.stored.path_of.Goals as goal

-- what is stored at the front is read there
front : (l b : List ℕ) (n : ℕ) → n ≡ length b → take n (splice l 0 b) ≡ b
unfolding splice
front l b n h = rw h (take-append_seam b _)

pub returns : goal.returns
returns c = let a = c.args in
    let joined = c.put_bytes-2.ensures ∙ ap (λ (l : List ℕ). splice l (length a.folder.now) a.file.now) c.put_bytes.ensures
    ∙ splice_join a.room.now 0 a.folder.now a.file.now (length a.folder.now) (omega arith) (omega arith) in
    let long = length-append a.folder.now a.file.now in
    let text = c.in-Ok.ensures.cases.0 ∙ ap (take (length a.folder.now + length a.file.now)) joined
    ∙ front a.room.now (a.folder.now ++ a.file.now) _ (omega (arith, long)) in
    (text, omega (arith, ap length text, long))
