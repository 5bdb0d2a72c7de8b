-- The calls with batches are calls of conservation, by induction on the packets asked for. What the takes of a batch reply to, added up, is what its counter of
-- replies sent has moved, since each replies to at most 512 slots: those held, at most 256 where a packet can be taken, and those taken.
use mathlib.Core.Path.{◌≡◌, refl, sym, ap, subst, ◌∙◌}
use mathlib.Core.Logic.{◌⊎◌, inl, inr, ⊎_elim}
use mathlib.Core.Bool.{Bool, true, false, cond, ◌||◌}
use mathlib.Core.List.{List, [], ◌∷◌}
use Prim.Native.Nat.{ℕ, zero, suc, ◌+◌, ◌*◌, ◌%◌, ◌≤◌, ◌<◌}
use native.Mathlib.Nat.{add-zero}
use native.Mathlib.Omega.{arith}
use lib.ListN.{length, take, drop, get_or, length-drop}
use lib.Dec.{eqb}
use Rattle.words.specs.Lists.{sum_of}
use Rattle.words.proofs.Word.{lt_or_ge}
use Rattle.ring.specs.Ring.{wrap, wsub}
use Rattle.ring.proofs.Counters.{wsub_leads, wsub_of, leads_on, not_moved}
use Rattle.answer.specs.Words.{report_words}
use Rattle.held.specs.declared.Held.{Held}
use Rattle.held.specs.Valid.{valid}
use Rattle.held.proofs.Cover.{valid_split}
use Rattle.held.proofs.Slots.{valid_slots}
use Rattle.transmit.specs.Take.{transmit_take}
use Rattle.transmit.specs.Words.{TakeLeft}
use Rattle.transmit.specs.Keeps.{slots_word, took_slots, TakeKeeps}
use Rattle.transmit.specs.Unchanged.{TakesUnchanged}
use Rattle.transmit.proofs.Keeps.{take_keeps}
use Rattle.transmit.proofs.Unchanged.{takes_unchanged}
use Rattle.batch.specs.Words.{BatchLeft}
use Rattle.batch.specs.Repeated.{Start, start_queue, TakeFrom, BatchFrom, answer_word, GoesOn}
use Rattle.batch.specs.Listed.{unchanged, BatchRefusals}
use Rattle.batch.proofs.Taking.{take_slots, take_valid}
use Rattle.batch.proofs.Unrolled.{start_after, take_left_of, take_left_so, goes_or_not, Unrolls, unrolled}
use Rattle.batch.proofs.Listed.{batch_refusals}
use Rattle.sequences.specs.Conservation.{Calls, Conservation, StaysValid}
use Rattle.sequences.proofs.Conservation.{conservation, stays_valid}
use Rattle.batches.specs.BatchSequence.{listed_by}
use Rattle.batches.specs.BatchCalls.{took_by, batch_took, BatchCalls, BatchesAsCalls, BatchConservation, BatchStaysValid}

module _ (table window : List ℕ) (s : Start) (o : TakeLeft) (t : TakeFrom table window s o) where
  -- the answer of a take is the first of its words, and so what it took is what its words say
  answer_is : o.returned ≡ answer_word o.words
  unfolding report_words
  answer_is = t.returns ∙ sym (ap answer_word t.reports)

  took_is : took_slots o ≡ took_by o.words
  took_is = rw answer_is

  few_took : took_slots o ≤ 256
  unfolding report_words
  few_took = go (eqb o.returned 0 || eqb o.returned 7)
    where
      go : (b : Bool) → cond b (slots_word o.words) 0 ≤ 256
      go true = omega (arith, ap slots_word t.reports, take_slots table window (start_queue s) s.page s.frame s.list)
      go false = omega arith

  -- a take replies to at most 512 slots
  few_replied : wsub o.replied s.replied ≤ 512
  unfolding TakeKeeps TakesUnchanged
  few_replied = ⊎_elim goes stops (goes_or_not o.returned)
    where
      goes : GoesOn o.returned → wsub o.replied s.replied ≤ 512
      goes g =
          let v : valid s.consumed s.replied s.list ≡ true = take_valid table window (start_queue s) s.page s.frame s.list (rw t.returns at g) in
          let k = (take_keeps table window s.consumed s.replied s.mark s.page s.frame s.list o t).0 in
          omega (arith, k.sums, few_took, valid_slots s.consumed s.replied s.list v, (valid_split s.consumed s.replied s.list v).covered.small)

      stops : (GoesOn o.returned → ⊥) → wsub o.replied s.replied ≤ 512
      stops g =
          let same : o.replied ≡ s.replied = (takes_unchanged table window s.consumed s.replied s.mark s.page s.frame s.list o t).replies (λ h. g (inr h)) in
          rw same (omega (arith, not_moved s.replied))

-- calls by other names of what they lead to
renamed : {consumed c replied r mark m took t sent u : ℕ} {l k : List Held} → consumed ≡ c → replied ≡ r → mark ≡ m → l ≡ k → took ≡ t → sent ≡ u → Calls c r m k t u → Calls consumed replied mark l took sent
renamed a b d e f g z = rw (a, b, d, e, f, g) z

-- calls that lead on from these to what o has, with so many slots taken and so many replied to
record Leads (n : ℕ) (s : Start) (took sent : ℕ) (o : BatchLeft) : Type 0 where
  replies : ℕ
  calls : Calls o.consumed o.replied o.mark o.list (took + batch_took o) (sent + replies)
  moved : (s.replied + replies) % wrap ≡ o.replied % wrap
  few : replies ≤ 512 * n

-- nothing was changed
unmoved : (n : ℕ) (s : Start) (results : List (List ℕ)) (took sent : ℕ) → Calls s.consumed s.replied s.mark s.list took sent → Leads 0 s took sent (unchanged n s results)
unmoved n s results took sent z = record { replies = 0; calls = renamed refl refl refl refl (omega arith) (omega arith) z; moved = ap (◌% wrap) (add-zero s.replied); few = omega arith }

module _ (table window : List ℕ) where
  Claim : ℕ → Type 0
  Claim n =
      (s : Start) (results : List (List ℕ)) (took sent : ℕ) → n ≤ 256 → n ≤ length results → Calls s.consumed s.replied s.mark s.list took sent
      → (o : BatchLeft) → BatchFrom table window s results n o → Leads n s took sent o

  step : (n : ℕ) → Claim n → (s : Start) (results : List (List ℕ)) (took sent : ℕ) → suc n ≤ 256 → suc n ≤ length results → Calls s.consumed s.replied s.mark s.list took sent
      → (l : BatchLeft) (o : TakeLeft) → TakeFrom table window s o → Unrolls table window results n o l → Leads (suc n) s took sent l
  unfolding Claim
  step n more s results took sent few long z l o t (Unrolls.stops off h) =
      let listed : listed_by l ≡ o.words ∷ [] = λ i. take (get_or (h.reports i) 1 0) (h.listings i) in
      let count : took + batch_took l ≡ took + took_slots o = omega (arith, ap (sum_of took_by) listed, took_is table window s o t) in
      record {
        replies = wsub o.replied s.replied;
        calls = renamed h.counter h.replies h.marks h.records count refl (Calls.takes z table window s.page s.frame o t);
        moved = wsub_leads o.replied s.replied ∙ ap (◌% wrap) (sym h.replies);
        few = omega (arith, few_replied table window s o t);
      }
  step n more s results took sent few long z l o t (Unrolls.goes on b y h) =
      let w = wsub o.replied s.replied in
      let g = more (start_after o) (drop 1 results) (took + took_slots o) (sent + w) (omega arith) (omega (arith, length-drop 1 results)) (Calls.takes z table window s.page s.frame o t) b y in
      let listed : listed_by l ≡ o.words ∷ listed_by b = λ i. take (get_or (h.reports i) 1 0) (h.listings i) in
      let count : took + batch_took l ≡ took + took_slots o + batch_took b = omega (arith, ap (sum_of took_by) listed, took_is table window s o t) in
      record {
        replies = w + g.replies;
        calls = renamed h.counter h.replies h.marks h.records count (omega arith) g.calls;
        moved = sym (leads_on o.replied s.replied w g.replies (wsub_leads o.replied s.replied)) ∙ g.moved ∙ ap (◌% wrap) (sym h.replies);
        few = omega (arith, few_replied table window s o t, g.few);
      }

  leads : (n : ℕ) → Claim n
  unfolding Claim BatchRefusals
  leads zero s results took sent few long z o y =
      let same : o ≡ unchanged 0 s results = (batch_refusals table window s results 0 o y).none refl in
      subst (Leads 0 s took sent) (sym same) (unmoved 0 s results took sent z)
  leads (suc n) s results took sent few long z l y =
      let w = transmit_take table window (start_queue s) s.page s.frame s.list in
      step n (leads n) s results took sent few long z l (take_left_of w s.mark) (take_left_so w s.mark) (unrolled table window s results n few long (take_left_of w s.mark) (take_left_so w s.mark) l y)

  -- with the slots that the batch replied to
  moved_by : (n : ℕ) (s : Start) (took sent : ℕ) (o : BatchLeft) → n ≤ 256 → Leads n s took sent o → Calls o.consumed o.replied o.mark o.list (took + batch_took o) (sent + wsub o.replied s.replied)
  moved_by n s took sent o few g =
      let e : wsub o.replied s.replied ≡ g.replies = wsub_of o.replied s.replied g.replies (omega (arith, g.few)) g.moved in
      rw e g.calls

  batch_calls : (s : Start) (results : List (List ℕ)) (most took sent : ℕ) → Calls s.consumed s.replied s.mark s.list took sent → (o : BatchLeft) → BatchFrom table window s results most o
      → Calls o.consumed o.replied o.mark o.list (took + batch_took o) (sent + wsub o.replied s.replied)
  unfolding Claim BatchRefusals
  batch_calls s results most took sent z o y =
      ⊎_elim (λ h. refused (inl h)) (λ long. ⊎_elim (λ h. refused (inr h)) (λ few.
      moved_by most s took sent o few (leads most s results took sent few long z o y)) (lt_or_ge 256 most)) (lt_or_ge (length results) most)
    where
      refused : (length results < most) ⊎ (256 < most) → Calls o.consumed o.replied o.mark o.list (took + batch_took o) (sent + wsub o.replied s.replied)
      refused h =
          let same : o ≡ unchanged 16 s results = (batch_refusals table window s results most o y).refused h in
          moved_by 0 s took sent o (omega arith) (subst (Leads 0 s took sent) (sym same) (unmoved 16 s results took sent z))

pub batches_as_calls : BatchesAsCalls
unfolding BatchesAsCalls
batches_as_calls _ _ _ _ _ _ (BatchCalls.fresh c l h) = Calls.fresh c l h
batches_as_calls _ _ _ _ _ _ (BatchCalls.takes {consumed} {replied} {mark} {l} {took} {sent} z table window page frame o h) =
    Calls.takes (batches_as_calls consumed replied mark l took sent z) table window page frame o h
batches_as_calls _ _ _ _ _ _ (BatchCalls.batches {consumed} {replied} {mark} {l} {took} {sent} z table window page frame results most o h) =
    batch_calls table window (record { consumed = consumed; replied = replied; mark = mark; page = page; frame = frame; list = l }) results most took sent
    (batches_as_calls consumed replied mark l took sent z) o h
batches_as_calls _ _ _ _ _ _ (BatchCalls.finishes {consumed} {replied} {mark} {l} {took} {sent} z page ticket status o h) =
    Calls.finishes (batches_as_calls consumed replied mark l took sent z) page ticket status o h

pub batch_conservation : BatchConservation
unfolding BatchConservation BatchesAsCalls Conservation
batch_conservation consumed replied mark l took sent z = conservation consumed replied mark l took sent (batches_as_calls consumed replied mark l took sent z)

pub batch_stays_valid : BatchStaysValid
unfolding BatchStaysValid BatchesAsCalls StaysValid
batch_stays_valid consumed replied mark l took sent z few = stays_valid consumed replied mark l took sent (batches_as_calls consumed replied mark l took sent z) few
