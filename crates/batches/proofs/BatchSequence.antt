-- A batch in a sequence is its takes one after another, by induction on the packets asked for: a batch of n + 1 is a take, with which the sequence goes on,
-- and then a batch of n (`unrolled`), for which room is left, since no total is above 65,535.
use mathlib.Core.Path.{◌≡◌, refl, sym, ap, subst, ◌∙◌}
use mathlib.Core.Logic.{◌⊎◌, inl, inr, ⊎_elim}
use mathlib.Core.Bool.{Bool, true, false, cond, ◌||◌}
use mathlib.Core.List.{List, [], ◌∷◌, ◌++◌, map, map-append, append_assoc, append-nil}
use Prim.Native.Nat.{ℕ, zero, suc, ◌+◌, ◌≤◌, ◌<◌}
use native.Mathlib.Omega.{arith}
use lib.ListN.{length, take, drop, get_or, length-drop}
use lib.Dec.{eqb}
use Rattle.words.specs.Word.{Bytes}
use Rattle.words.proofs.Word.{lt_or_ge}
use Rattle.ring.proofs.Standing.{EachBytes}
use Rattle.netif.specs.Slot.{Slot}
use Rattle.grammar.specs.Packet.{first_of}
use Rattle.grammar.specs.Divide.{packets_of, rest_of}
use Rattle.grammar.specs.Service.{◌▹◌, Ending, taken}
use Rattle.grammar.proofs.Grammar.{packet_some}
use Rattle.grammar.proofs.Service.{Case}
use Rattle.answer.specs.Words.{report_words}
use Rattle.packet.proofs.Judge.{total_small}
use Rattle.transmit.specs.Take.{summary_of, spoiled, handed_over, transmit_take}
use Rattle.transmit.specs.Words.{TakeLeft}
use Rattle.batch.specs.Batch.{transmit_batch}
use Rattle.batch.specs.Words.{BatchLeft}
use Rattle.batch.specs.Repeated.{start_queue, answer_word, total_word, count_of, answer_at, GoesOn, WentOn}
use Rattle.batch.specs.Listed.{unchanged, BatchRefusals, BatchLists}
use Rattle.batch.proofs.Repeated.{left_same, left_of, left_so}
use Rattle.batch.proofs.Unrolled.{start_after, take_left_of, take_left_so, AsBoth, Unrolls, total_fits, unrolled}
use Rattle.batch.proofs.Listed.{batch_refusals, batch_lists}
use Rattle.sequences.specs.Sequence.{State, queue_at, Room, Take, take_lent, answer_of, after_take, TakeAt, Sequence, Took, Told, Demand3}
use Rattle.sequences.specs.Unrewritten.{Unrewritten}
use Rattle.sequences.proofs.Invariant.{inv, case_of}
use Rattle.sequences.proofs.Demand3.{demand3}
use Rattle.batches.specs.BatchSequence.{start_at, after_batch, listed_by, BatchAt, Enough, BatchSequence, Keeping, AsTakes, BatchesAsTakes, BatchDemand3}

first_bytes : (p t : List Slot) → 1 ≤ length p → EachBytes (p ++ t) → Bytes (first_of p)
first_bytes [] t n h = absurd (omega arith)
first_bytes (s ∷ p) t n h = h.0

abbrev words_of : List Take → List (List ℕ)
words_of single = map (λ (a : Take). a.left.words) single

module _ (table window : List ℕ) where
  -- ---- the total of a take in a sequence

  took_total : (n : ℕ) (a : Take) (p : List Slot) → Bytes (first_of p) → Took table window n a p → total_word a.left.words ≤ 65535
  unfolding handed_over spoiled summary_of report_words
  took_total n a p b (Took.handed k q j h) = omega (arith, ap total_word h.reports, total_small p b)
  took_total n a p b (Took.spoilt k cause place q j h) = omega (arith, ap total_word h.reports)

  told_total : (n : ℕ) (a : Take) → Told n a → total_word a.left.words ≤ 65535
  unfolding Told report_words
  told_total n a h = omega (arith, ap total_word h.reports)

  total_of_lem : {c : ℕ} {s : State} {takes : List Take} → Sequence table window c s takes → (frame : List ℕ) (o : TakeLeft) → 65535 ≤ length frame → Room s → TakeAt table window s frame o
      → total_word o.words ≤ 65535
  total_of_lem {c} {s} z frame o big room leaves =
      go (case_of table window (inv table window z) (take_lent s frame o) (record { frame = frame; left = o; big = big; room = room; leaves = leaves; is = refl }))
    where
      go : Case Take answer_of (Took table window) Told s.consumed (queue_at s).halted (inv table window z).left (take_lent s frame o) → total_word o.words ≤ 65535
      go (Case.again m n t) = told_total 2 (take_lent s frame o) t
      go (Case.empty m e n t) = told_total 4 (take_lent s frame o) t
      go (Case.waiting m e g n t) = told_total 6 (take_lent s frame o) t
      go (Case.wrong m g n t) = told_total 5 (take_lent s frame o) t
      go (Case.packet m p t k e n w) = took_total s.consumed (take_lent s frame o) p (first_bytes p t (packet_some k) (rw e at (inv table window z).stands.bytes)) w

  -- ---- a sequence that goes on with takes

  -- from the sequence z to the state t, by takes with these words
  record Goes {c : ℕ} {s : State} {takes : List Take} (z : Sequence table window c s takes) (t : State) (words : List (List ℕ)) : Type 0 where
    single : List Take
    sequence : Sequence table window c t single
    reports : words_of single ≡ words_of takes ++ words
    answers : map answer_of single ≡ map answer_of takes ++ map answer_word words
    unrewritten : Unrewritten table window z → Unrewritten table window sequence

  goes_none : {c : ℕ} {s : State} {takes : List Take} (z : Sequence table window c s takes) → Goes z s []
  goes_none {c} {s} {takes} z = record { single = takes; sequence = z; reports = sym (append-nil (words_of takes)); answers = sym (append-nil (map answer_of takes)); unrewritten = λ h. h }

  -- the answer of a take is the first of its words
  answer_is : (s : State) (frame : List ℕ) (o : TakeLeft) → TakeAt table window s frame o → o.returned ≡ answer_word o.words
  unfolding report_words
  answer_is s frame o h = h.returns ∙ sym (ap answer_word h.reports)

  module _ {c : ℕ} {s : State} {takes : List Take} (z : Sequence table window c s takes) (frame : List ℕ) (o : TakeLeft) (big : 65535 ≤ length frame) (room : Room s) (leaves : TakeAt table window s frame o) where
    -- one take
    one : Goes z (after_take s o) (o.words ∷ [])
    one = record {
      single = takes ▹ take_lent s frame o;
      sequence = Sequence.takes z frame o big room leaves;
      reports = map-append (λ (a : Take). a.left.words) takes (take_lent s frame o ∷ []);
      answers = map-append answer_of takes (take_lent s frame o ∷ []) ∙ ap (λ (n : ℕ). map answer_of takes ++ (n ∷ [])) (answer_is s frame o leaves);
      unrewritten = λ h. h;
    }

    -- and more behind it
    then : {t : State} {words : List (List ℕ)} → Goes (Sequence.takes z frame o big room leaves) t words → Goes z t (o.words ∷ words)
    then {t} {words} g = record {
      single = g.single;
      sequence = g.sequence;
      reports = g.reports ∙ ap (◌++ words) (map-append (λ (a : Take). a.left.words) takes (take_lent s frame o ∷ [])) ∙ append_assoc (words_of takes) (o.words ∷ []) words;
      answers = g.answers ∙ ap (◌++ map answer_word words) (map-append answer_of takes (take_lent s frame o ∷ [])) ∙ append_assoc (map answer_of takes) (o.returned ∷ []) (map answer_word words)
          ∙ ap (λ (n : ℕ). map answer_of takes ++ (n ∷ map answer_word words)) (answer_is s frame o leaves);
      unrewritten = λ h. g.unrewritten h;
    }

  -- ---- a batch

  module _ (s : State) (frame : List ℕ) (results : List (List ℕ)) (n : ℕ) (few : suc n ≤ 256) (long : suc n ≤ length results) (o : TakeLeft) (leaves : TakeAt table window s frame o) where
    -- what a take that goes on and a batch behind it leave
    both_state : (b l : BatchLeft) → AsBoth o b l → after_batch s l ≡ after_batch (after_take s o) b
    both_state b l h = λ i. record { consumed = h.counter i; replied = h.replies i; mark = h.marks i; page = h.pages i; list = h.records i; run = s.run }

    both_listed : (b l : BatchLeft) → AsBoth o b l → listed_by l ≡ o.words ∷ listed_by b
    both_listed b l h = λ i. take (get_or (h.reports i) 1 0) (h.listings i)

    both_went : (i : ℕ) (b l : BatchLeft) → AsBoth o b l → GoesOn (answer_word o.words) → WentOn b i → WentOn l (suc i)
    both_went i b l h on w = record { count = ap (λ (x : List ℕ). get_or x 1 0) h.reports ∙ ap suc w.count; each = go }
      where
        go : (j : ℕ) → j < suc i → GoesOn (answer_at l j)
        go zero k = rw h.listings on
        go (suc j) k = rw h.listings (w.each j (omega arith))

    -- the takes of the rest find room
    rooms_behind : GoesOn (answer_word o.words) → ((i : ℕ) → i < suc n → (b : BatchLeft) → BatchAt table window s frame results i b → WentOn b i → Room (after_batch s b))
        → (i : ℕ) → i < n → (b : BatchLeft) → BatchAt table window (after_take s o) (drop (total_word o.words) o.frame) (drop 1 results) i b → WentOn b i
        → Room (after_batch (after_take s o) b)
    rooms_behind on rooms i k b y w =
        let e = transmit_batch table window (queue_at s) s.page frame s.list results (suc i) in
        go (left_of e s.mark) (left_so e s.mark)
      where
        go : (l : BatchLeft) → BatchAt table window s frame results (suc i) l → Room (after_batch (after_take s o) b)
        go l x = by_first (unrolled table window (start_at s frame) results i (omega arith) (omega arith) o leaves l x)
          where
            by_first : Unrolls table window results i o l → Room (after_batch (after_take s o) b)
            by_first (Unrolls.stops off h) = absurd (off on)
            by_first (Unrolls.goes g d v h) =
                let same : d ≡ b = left_same (transmit_batch table window (start_queue (start_after o)) o.page (drop (total_word o.words) o.frame) o.list (drop 1 results) i) o.mark d b v y in
                subst Room (both_state d l h ∙ ap (after_batch (after_take s o)) same) (rooms (suc i) (omega arith) l x (both_went i d l h on (subst (λ (x : BatchLeft). WentOn x i) (sym same) w)))

  -- what a batch of n comes to
  Claim : ℕ → Type 0
  Claim n =
      (c : ℕ) (s : State) (takes : List Take) (z : Sequence table window c s takes) (frame : List ℕ) (results : List (List ℕ)) → n ≤ 256 → n ≤ length results
      → Enough table window s frame results n → (o : BatchLeft) → BatchAt table window s frame results n o → Goes z (after_batch s o) (listed_by o)

  -- a batch of none leaves the state as it is, and so does a refused one
  none_left : (s : State) (frame : List ℕ) (results : List (List ℕ)) (o : BatchLeft) → BatchAt table window s frame results 0 o → o ≡ unchanged 0 (start_at s frame) results
  unfolding BatchRefusals
  none_left s frame results o y = (batch_refusals table window (start_at s frame) results 0 o y).none refl

  room_first : (s : State) (frame : List ℕ) (results : List (List ℕ)) (n : ℕ) → Enough table window s frame results (suc n) → Room s
  room_first s frame results n e =
      let w = transmit_batch table window (queue_at s) s.page frame s.list results 0 in
      go (left_of w s.mark) (left_so w s.mark)
    where
      nothing : WentOn (unchanged 0 (start_at s frame) results) 0
      nothing = record { count = refl; each = λ i h. absurd (omega arith) }

      go : (o : BatchLeft) → BatchAt table window s frame results 0 o → Room s
      go o y =
          let same = none_left s frame results o y in
          subst (λ (x : BatchLeft). Room (after_batch s x)) same (e.rooms 0 (omega arith) o y (subst (λ (x : BatchLeft). WentOn x 0) (sym same) nothing))

  -- the rest of a batch has enough where the batch has
  enough_behind : {c : ℕ} {s : State} {takes : List Take} → Sequence table window c s takes → (frame : List ℕ) (results : List (List ℕ)) (n : ℕ) → suc n ≤ 256 → suc n ≤ length results
      → Enough table window s frame results (suc n) → (o : TakeLeft) → TakeAt table window s frame o → GoesOn (answer_word o.words)
      → Enough table window (after_take s o) (drop (total_word o.words) o.frame) (drop 1 results) n
  enough_behind {c} {s} z frame results n few long e o leaves on =
      let f = total_fits table window (start_at s frame) o leaves in
      let t = total_of_lem z frame o (omega (arith, e.big)) (room_first s frame results n e) leaves in
      record {
        big = omega (arith, e.big, t, f.0, f.1, length-drop (total_word o.words) o.frame);
        rooms = rooms_behind s frame results n few long o leaves on e.rooms;
      }

  step : (n : ℕ) → Claim n → (c : ℕ) (s : State) (takes : List Take) (z : Sequence table window c s takes) (frame : List ℕ) (results : List (List ℕ)) → suc n ≤ 256 → suc n ≤ length results
      → Enough table window s frame results (suc n) → (l : BatchLeft) → (o : TakeLeft) → TakeAt table window s frame o → Unrolls table window results n o l → Goes z (after_batch s l) (listed_by l)
  unfolding Claim
  step n more c s takes z frame results few long e l o leaves (Unrolls.stops off h) =
      let listed : listed_by l ≡ o.words ∷ [] = λ i. take (get_or (h.reports i) 1 0) (h.listings i) in
      let state : after_batch s l ≡ after_take s o = λ i. record { consumed = h.counter i; replied = h.replies i; mark = h.marks i; page = h.pages i; list = h.records i; run = s.run } in
      subst (λ (t : State). Goes z t (listed_by l)) (sym state)
      (subst (Goes z (after_take s o)) (sym listed) (one z frame o (omega (arith, e.big)) (room_first s frame results n e) leaves))
  step n more c s takes z frame results few long e l o leaves (Unrolls.goes on b y h) =
      let big : 65535 ≤ length frame = omega (arith, e.big) in
      let room = room_first s frame results n e in
      subst (λ (t : State). Goes z t (listed_by l)) (sym (both_state s frame results n few long o leaves b l h))
      (subst (Goes z (after_batch (after_take s o) b)) (sym (both_listed s frame results n few long o leaves b l h))
      (then z frame o big room leaves
      (more c (after_take s o) (takes ▹ take_lent s frame o) (Sequence.takes z frame o big room leaves) (drop (total_word o.words) o.frame) (drop 1 results) (omega arith)
      (omega (arith, length-drop 1 results)) (enough_behind z frame results n few long e o leaves on) b y)))

  batch_goes : (n : ℕ) → Claim n
  unfolding Claim
  batch_goes zero c s takes z frame results few long e o y =
      subst (λ (x : BatchLeft). Goes z (after_batch s x) (listed_by x)) (sym (none_left s frame results o y)) (goes_none z)
  batch_goes (suc n) c s takes z frame results few long e l y =
      let w = transmit_take table window (queue_at s) s.page frame s.list in
      step n (batch_goes n) c s takes z frame results few long e l (take_left_of w s.mark) (take_left_so w s.mark)
      (unrolled table window (start_at s frame) results n few long (take_left_of w s.mark) (take_left_so w s.mark) l y)

  -- ---- the last report of a batch

  abbrev taken_by : List Take → ℕ
  taken_by takes = taken Take answer_of (Took table window) Told takes

  -- a take that goes on is one more
  taken_more : (takes : List Take) (a : Take) → GoesOn (answer_of a) → taken_by (takes ▹ a) ≡ suc (taken_by takes)
  taken_more [] a (inl h) = rw h
  taken_more [] a (inr h) = rw h
  taken_more (b ∷ takes) a h = go (eqb (answer_of b) 0 || eqb (answer_of b) 7) (taken_more takes a h)
    where
      go : (x : Bool) → taken_by (takes ▹ a) ≡ suc (taken_by takes) → cond x (suc (taken_by (takes ▹ a))) (taken_by (takes ▹ a)) ≡ suc (cond x (suc (taken_by takes)) (taken_by takes))
      go true k = ap suc k
      go false k = k

  renamed : {a b t u n : ℕ} {rest : List Slot} → a ≡ b → t ≡ u → Ending b u n rest → Ending a t n rest
  renamed h k e = rw (h, k) e

  Ended : State → ℕ → BatchLeft → Type 0
  Ended s before l =
      (i : ℕ) → count_of l ≡ suc i → (GoesOn (answer_at l i) → ⊥) → Ending (answer_at l i) (before + i) (length (packets_of s.run)) (rest_of s.run)

  EndClaim : ℕ → Type 0
  EndClaim n =
      (c : ℕ) (s : State) (takes : List Take) (z : Sequence table window c s takes) (frame : List ℕ) (results : List (List ℕ)) → n ≤ 256 → n ≤ length results
      → Enough table window s frame results n → (l : BatchLeft) → BatchAt table window s frame results n l → Ended s (taken_by takes) l

  end_step : (n : ℕ) → EndClaim n → (c : ℕ) (s : State) (takes : List Take) (z : Sequence table window c s takes) (frame : List ℕ) (results : List (List ℕ)) → suc n ≤ 256 → suc n ≤ length results
      → Enough table window s frame results (suc n) → (l : BatchLeft) → (o : TakeLeft) → TakeAt table window s frame o → Unrolls table window results n o l → Ended s (taken_by takes) l
  unfolding EndClaim Ended Demand3
  end_step n more c s takes z frame results few long e l o leaves (Unrolls.stops off h) i count last =
      let z0 : i ≡ 0 = omega (arith, sym count ∙ ap (λ (w : List ℕ). get_or w 1 0) h.reports) in
      let first : answer_at l i ≡ o.returned = ap (answer_at l) z0 ∙ ap (λ (r : List (List ℕ)). answer_word (get_or r 0 [])) h.listings ∙ sym (answer_is s frame o leaves) in
      let neither : GoesOn o.returned → ⊥ = λ g. last (rw first g) in
      renamed first (omega arith)
      ((demand3 table window c s takes z).ends (take_lent s frame o)
      (record { frame = frame; left = o; big = omega (arith, e.big); room = room_first s frame results n e; leaves = leaves; is = refl }) (λ g. neither (inl g)) (λ g. neither (inr g)))
  end_step n more c s takes z frame results few long e l o leaves (Unrolls.goes on b y h) zero count last =
      absurd (last (rw h.listings on))
  end_step n more c s takes z frame results few long e l o leaves (Unrolls.goes on b y h) (suc i) count last =
      let big : 65535 ≤ length frame = omega (arith, e.big) in
      let room = room_first s frame results n e in
      let same : answer_at l (suc i) ≡ answer_at b i = ap (λ (r : List (List ℕ)). answer_word (get_or r (suc i) [])) h.listings in
      let counted : count_of b ≡ suc i = omega (arith, sym count ∙ ap (λ (w : List ℕ). get_or w 1 0) h.reports) in
      let one_more : taken_by (takes ▹ take_lent s frame o) ≡ suc (taken_by takes) = taken_more takes (take_lent s frame o) (rw (answer_is s frame o leaves) on) in
      renamed same (omega (arith, one_more))
      (more c (after_take s o) (takes ▹ take_lent s frame o) (Sequence.takes z frame o big room leaves) (drop (total_word o.words) o.frame) (drop 1 results) (omega arith)
      (omega (arith, length-drop 1 results)) (enough_behind z frame results n few long e o leaves on) b y i counted (λ g. last (rw same g)))

  batch_ends : (n : ℕ) → EndClaim n
  unfolding EndClaim Ended
  batch_ends zero c s takes z frame results few long e l y = λ i count last. absurd (omega (arith, sym count ∙ ap count_of (none_left s frame results l y)))
  batch_ends (suc n) c s takes z frame results few long e l y =
      let w = transmit_take table window (queue_at s) s.page frame s.list in
      end_step n (batch_ends n) c s takes z frame results few long e l (take_left_of w s.mark) (take_left_so w s.mark)
      (unrolled table window (start_at s frame) results n few long (take_left_of w s.mark) (take_left_so w s.mark) l y)

  -- a refused batch lists nothing
  any_ends : (c : ℕ) (s : State) (takes : List Take) (z : Sequence table window c s takes) (frame : List ℕ) (results : List (List ℕ)) (most : ℕ) (o : BatchLeft)
      → Enough table window s frame results most → BatchAt table window s frame results most o → Ended s (taken_by takes) o
  unfolding EndClaim Ended BatchRefusals
  any_ends c s takes z frame results most o enough y =
      ⊎_elim (λ h. refused (inl h)) (λ long. ⊎_elim (λ h. refused (inr h)) (λ few. batch_ends most c s takes z frame results few long enough o y) (lt_or_ge 256 most)) (lt_or_ge (length results) most)
    where
      refused : (length results < most) ⊎ (256 < most) → Ended s (taken_by takes) o
      refused h i count last = absurd (omega (arith, sym count ∙ ap count_of ((batch_refusals table window (start_at s frame) results most o y).refused h)))

  -- ---- the sequences

  -- a batch that is refused leaves the state as it is
  any_goes : (c : ℕ) (s : State) (takes : List Take) (z : Sequence table window c s takes) (frame : List ℕ) (results : List (List ℕ)) (most : ℕ) (o : BatchLeft)
      → (o.returned ≡ 0 → Enough table window s frame results most) → BatchAt table window s frame results most o → Goes z (after_batch s o) (listed_by o)
  unfolding Claim BatchRefusals BatchLists
  any_goes c s takes z frame results most o enough y =
      ⊎_elim (λ h. refused (inl h)) (λ long. ⊎_elim (λ h. refused (inr h)) (λ few.
      batch_goes most c s takes z frame results few long (enough (batch_lists table window (start_at s frame) results most few long o y).returns) o y) (lt_or_ge 256 most)) (lt_or_ge (length results) most)
    where
      refused : (length results < most) ⊎ (256 < most) → Goes z (after_batch s o) (listed_by o)
      refused h = subst (λ (x : BatchLeft). Goes z (after_batch s x) (listed_by x)) (sym ((batch_refusals table window (start_at s frame) results most o y).refused h)) (goes_none z)

  -- goes on from what stands for the sequence before
  as_goes : {c : ℕ} {s t : State} {words more : List (List ℕ)} (z : BatchSequence table window c s words) (y : BatchSequence table window c t (words ++ more)) → (Keeping table window y → Keeping table window z)
      → (a : AsTakes table window z) → Goes a.sequence t more → AsTakes table window y
  as_goes {c} {s} {t} {words} {more} z y keeps a g = record {
    single = g.single;
    sequence = g.sequence;
    reports = g.reports ∙ ap (◌++ more) a.reports;
    answers = g.answers ∙ ap (◌++ map answer_word more) a.answers ∙ sym (map-append answer_word words more);
    unrewritten = λ h. g.unrewritten (a.unrewritten (keeps h));
  }

  as_takes : {c : ℕ} {s : State} {words : List (List ℕ)} (z : BatchSequence table window c s words) → AsTakes table window z
  as_takes (BatchSequence.fresh f) = record { single = []; sequence = Sequence.fresh f; reports = refl; answers = refl; unrewritten = λ h. h }
  as_takes (BatchSequence.publish z page k u) =
      let a = as_takes z in
      record { single = a.single; sequence = Sequence.publish a.sequence page k u; reports = a.reports; answers = a.answers; unrewritten = λ h. (a.unrewritten h.0, h.1) }
  as_takes (BatchSequence.takes {s} z frame o big room leaves) =
      let a = as_takes z in
      as_goes z (BatchSequence.takes z frame o big room leaves) (λ h. h) a (one a.sequence frame o big room leaves)
  as_takes {c} (BatchSequence.batches {s} z frame results most o enough leaves) =
      let a = as_takes z in
      as_goes z (BatchSequence.batches z frame results most o enough leaves) (λ h. h) a (any_goes c s a.single a.sequence frame results most o enough leaves)
  as_takes (BatchSequence.finishes z ticket status o leaves) =
      let a = as_takes z in
      record { single = a.single; sequence = Sequence.finishes a.sequence ticket status o leaves; reports = a.reports; answers = a.answers; unrewritten = λ h. a.unrewritten h }

pub batches_as_takes : BatchesAsTakes
unfolding BatchesAsTakes
batches_as_takes table window c s words z = as_takes table window z

pub batch_demand3 : BatchDemand3
unfolding BatchDemand3 Demand3 Ended
batch_demand3 table window c s words z =
    let a = as_takes table window z in
    record {
      single = a.single;
      reports = a.reports;
      answers = a.answers;
      serves = demand3 table window c s a.single a.sequence;
      ends = λ frame results most o enough y i count x w. any_ends table window c s a.single a.sequence frame results most o enough y i count (λ g. ⊎_elim x w g);
    }
