-- `checksum::of` meets its contract: the steps over the bytes are the definition's.
use Rattle.std.proofs.Common.{◌≡◌, ℕ, List, [], ◌∷◌, ◌∙◌, refl, rules}
use Rattle.std.specs.List.{fold}
use Rattle.lines.specs.Fnv.{step, steps}
use Rattle.lines.proofs.checksum.of.Goals as goal

fold-steps : (hash : ℕ) (l : List ℕ) → fold step hash l ≡ steps hash l
fold-steps hash [] = refl
fold-steps hash (b ∷ l) = fold-steps (step hash b) l

pub returns : goal.returns
returns c =
    let e : c.fold.result ≡ fold step 2166136261 c.args.bytes.now = search rules in
    e ∙ fold-steps 2166136261 c.args.bytes.now
