-- The chain's answer is that of the definition.
use Rattle.std.proofs.Common.{not, ◌∙◌, rules, tests}
use Rattle.std.proofs.lemmas.Iterator.{YieldsList-from_slice}
use Rattle.std.proofs.lemmas.Iterator.Search.{all_from_yields_List}
use Rattle.held.specs.declared.Held.{Held}
use Rattle.held.specs.Records.{in_use}
use Rattle.glancing.proofs.Unheld.{all_is}
use Rattle.glancing.proofs.all_free.Goals as goal

pub returns : goal.returns
returns c = let xs = c.args.list.now in
    all_from_yields_List (λ (r : Held). not (in_use r)) _ _ c.all.result c.all.ensures.ran (YieldsList-from_slice xs cc) (λ x b q k. search (rules, tests)) ∙ all_is xs
