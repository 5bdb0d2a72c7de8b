-- How a call ends: what its answer, its queue and the page come to is the effect of a refusal, or of slots consumed.
use mathlib.Core.Path.{◌≡◌, refl, ap, ◌∙◌}
use mathlib.Core.List.{List}
use mathlib.Core.Bool.{Bool, false}
use Prim.Native.Nat.{ℕ}
use Rattle.ring.specs.Ring.{wadd, ProducerMoved}
use Rattle.ring.specs.declared.Side.TheVariants.{Replies}
use Rattle.answer.specs.Report.{Report, go_on, plain, report_of}
use Rattle.answer.specs.Effect.{Effect, refusal, consume, Gives}
use Rattle.answer.specs.Words.{mark_after, report_words, Left, Leaves}
use Rattle.answer.specs.declared.Queue.{Queue}
use Rattle.answer.specs.declared.Answer.{Answer}
use Rattle.answer.specs.declared.Outcome.{Outcome}

-- a queue that is not halted goes on from its counter
pub running : (q : Queue) → q.halted ≡ false → q ≡ go_on q.consumed
running q h = λ i. record { consumed = q.consumed; halted = h i }

-- an answer that consumes nothing
pub gives_refusal : (n : ℕ) (q : Queue) (page buffer : List ℕ) (a : Answer) → report_of a ≡ plain n
    → Gives (refusal n q page buffer) (record { answer = a; queue = (refusal n q page buffer).queue }) (refusal n q page buffer).page buffer
gives_refusal n q page buffer a h = record { report = h; queue = refl; page = refl; buffer = refl }

-- rsp_prod was moved behind so many slots, whose replies stand in the page
pub gives_consumed : (report : Bool → Report) (c slots : ℕ) (page after : List ℕ) (notifies : Bool) (a : Answer) (q : Queue) (r : Outcome)
    → r ≡ record { answer = a; queue = q } → report_of a ≡ report notifies → q ≡ go_on (wadd c slots) → ProducerMoved Replies page c (wadd c slots) after notifies
    → (buffer : List ℕ) → Gives (consume report c slots page buffer) r after buffer
unfolding consume
gives_consumed report c slots page after notifies a q r is answers goes moved buffer = record {
  report = ap (λ (x : Outcome). report_of x.answer) is ∙ answers ∙ ap report moved.notifies;
  queue = ap (λ (x : Outcome). x.queue) is ∙ goes;
  page = moved.page;
  buffer = refl;
}

-- as words: the call returned r, and its answer and queue were written out
pub leaves_words : (e : Effect) (r : Outcome) (ring written : List ℕ) (lent : ℕ) (l : Left) → Gives e r ring written
    → (l.returned ≡ (report_of r.answer).answer) × (l.words ≡ report_words (report_of r.answer)) → l.consumed ≡ r.queue.consumed
    → l.mark ≡ mark_after lent r.queue.halted → l.page ≡ ring → l.buffer ≡ written → Leaves e lent l
leaves_words e r ring written lent l g (returned, words) counter mark page buffer = record {
  returns = returned ∙ ap (λ (x : Report). x.answer) g.report;
  reports = words ∙ ap report_words g.report;
  counter = counter ∙ ap (λ (x : Queue). x.consumed) g.queue;
  marks = mark ∙ ap (λ (x : Queue). mark_after lent x.halted) g.queue;
  pages = page ∙ g.page;
  buffers = buffer ∙ g.buffer;
}
