-- Where both readers agree: on nothing, on one run by what the library promises, and on comparisons put together.
use Rattle.std.proofs.Common.{◌≡◌, ℕ, ◌+◌, ◌^◌, ◌<◌, List, sym, refl, ap, ◌∙◌, arith, eq-eqb}
use Rattle.std.specs.Prelude.{Result, Ok, Err}
use Rattle.division.specs.Answer.{number_of}
use Rattle.readers.specs.Compare.{count_of, compared_of}
use Rattle.division.specs.declared.Cuts.{Cuts}
use Rattle.division.specs.declared.Refused.{Refused}
use Rattle.division.specs.declared.Refused.TheVariants as refused
use Rattle.readers.specs.declared.Compared.{Compared}
use Rattle.tally.specs.Answer.{same_of, alike_of}
use Rattle.tally.specs.Tally.{sum_of, Nothing, Together, Counted, Agreeing}
use Rattle.tally.specs.declared.Tally.{Tally}
use Rattle.tally.specs.contracts.TallyDefault

-- the default counts nothing
pub default_nothing : {r : Tally} → TallyDefault.TheImpl.is_default-value.it r → Nothing r
default_nothing (runs, (slots, (slow, (fast, (agreed, (alike, (empty, (waiting, (misshapen, (uneven, too_long)))))))))) = record {
  runs = runs;
  slots = slots;
  slow = slow;
  fast = fast;
  agreed = agreed;
  alike = alike;
  empty = empty;
  waiting = waiting;
  misshapen = misshapen;
  uneven = uneven;
  too_long = too_long;
}

pub nothing_agrees : {r : Tally} → Nothing r → Agreeing 0 r
nothing_agrees n = record {
  runs = n.runs;
  cuts = n.fast ∙ sym n.slow;
  agreed = n.agreed ∙ sym n.slow;
  alike = n.alike;
}

pub together_agrees : {m n : ℕ} {a b r : Tally} → m + n < 2 ^ 64 → Agreeing m a → Agreeing n b → Together a b r → Agreeing (m + n) r
together_agrees {m} {n} h a b t =
    let fits : sum_of m n ≡ m + n = omega arith in
    record {
      runs = t.runs ∙ rw (a.runs, b.runs) fits;
      cuts = t.fast ∙ rw (a.cuts, b.cuts) (sym t.slow);
      agreed = t.agreed ∙ rw (a.agreed, b.agreed) (sym t.slow);
      alike = t.alike ∙ rw (a.alike, b.alike) fits;
    }

-- a tally's own count
pub agrees_own : {n : ℕ} {r : Tally} → Agreeing n r → Agreeing r.runs r
agrees_own a = record { runs = refl; cuts = a.cuts; agreed = a.agreed; alike = a.alike ∙ sym a.runs }

-- an answer ends like itself
same_self : (n : ℕ) → same_of n n ≡ 1
same_self n = rw (eq-eqb n n refl)

alike_self : (a : Result Cuts Refused) → alike_of a a ≡ 1
alike_self (Err refused.Uneven) = refl
alike_self (Err refused.TooLong) = refl
alike_self (Ok r) = same_self (number_of r.ending)

pub counted_agrees : (bytes : List ℕ) (slots : ℕ) (compared : Compared) {r : Tally} → compared ≡ compared_of bytes → Counted slots compared r → Agreeing 1 r
unfolding compared_of
counted_agrees bytes slots compared e c =
    let fast = ap (λ (x : Compared). x.fast) e ∙ sym (ap (λ (x : Compared). x.slow) e) in
    let agreed = ap (λ (x : Compared). x.agreed) e ∙ sym (ap (λ (x : Compared). count_of x.slow) e) in
    record {
      runs = c.runs;
      cuts = c.fast ∙ ap count_of fast ∙ sym c.slow;
      agreed = c.agreed ∙ agreed ∙ sym c.slow;
      alike = c.alike ∙ ap (alike_of compared.slow) fast ∙ alike_self compared.slow;
    }
