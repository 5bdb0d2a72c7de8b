-- The export meets its contract: the call's own promise, and its answer as words.
use mathlib.Core.Path.{ap, ◌∙◌}
use Rattle.answer.specs.Report.{Report}
use Rattle.answer.specs.Words.{report_words}
use Rattle.tollmeander.proofs.tollmeander_transmit_post.Goals as goal

pub returns : goal.returns
returns c = let g = rw c.gso_of-extra.ensures at c.post-answer.ensures in
    let w = c.write_post.ensures in
    record {
      returns = w.0 ∙ ap (λ (x : Report). x.answer) g.report;
      reports = w.1 ∙ ap report_words g.report;
      page = g.page;
      pages = g.window;
    }
