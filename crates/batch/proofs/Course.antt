-- The laws of `batch`, each by induction on its takes: how it ends, that it is two batches, and what is filled of the frame buffer. A batch that goes
-- on from what stands behind other frames and reports (`behind`) does not touch them, so that it is one that begins anew on the rest.
use mathlib.Core.Path.{◌≡◌, refl, sym, ap, ◌∙◌}
use mathlib.Core.Logic.{⊎_elim}
use mathlib.Core.List.{List, [], ◌∷◌, ◌++◌, append_assoc, append-nil}
use mathlib.Core.Bool.{Bool, true, false, cond}
use Prim.Native.Nat.{ℕ, zero, suc, ◌+◌, ◌≤◌, ◌<◌}
use native.Mathlib.Nat.{suc-add, zero-add}
use native.Mathlib.Omega.{arith}
use lib.ListN.{length, take, drop, take-append-drop, length-append, length-drop}
use lib.Seq.{take-append-add, drop-append-add, length-take-le, drop-drop}
use Rattle.words.specs.Lists.{all, sum_of}
use Rattle.words.proofs.Word.{and_both, true_and, clash}
use Rattle.grammar.specs.Service.{◌▹◌}
use Rattle.answer.specs.Report.{Report}
use Rattle.held.specs.declared.Held.{Held}
use Rattle.transmit.specs.declared.Queue.{Queue}
use Rattle.transmit.specs.Take.{TakeEffect}
use Rattle.transmit.proofs.Cases.{halted_stays}
use Rattle.batch.specs.Batch.{Progress, begun, listed, goes_on, next_take, batch}
use Rattle.batch.specs.Repeated.{Ends}
use Rattle.batch.proofs.Taking.{goes_on_lem, take_answers, take_writes}

abbrev pub on_report : Report → Bool
on_report r = goes_on r.answer

abbrev pub totals : List Report → ℕ
totals reports = sum_of (λ (r : Report). r.total) reports

pub all_append : {A : Type 0} (f : A → Bool) (l m : List A) → all f l ≡ true → all f m ≡ true → all f (l ++ m) ≡ true
all_append f [] m h k = k
all_append f (x ∷ l) m h k = let (a, b) = and_both (f x) (all f l) h in true_and (f x) (all f (l ++ m)) a (all_append f l m b k)

pub sum_append : {A : Type 0} (f : A → ℕ) (l m : List A) → sum_of f (l ++ m) ≡ sum_of f l + sum_of f m
sum_append f [] m = sym (zero-add (sum_of f m))
sum_append f (x ∷ l) m = omega (arith, sum_append f l m)

pub length_snoc : {A : Type 0} (l : List A) (a : A) → length (l ▹ a) ≡ suc (length l)
length_snoc l a = omega (arith, length-append l (a ∷ []))

-- a property by the two sides of a test
by_test : {A : Type 0} (P : A → Type 0) (b : Bool) (x y : A) → (b ≡ true → P x) → (b ≡ false → P y) → P (cond b x y)
by_test P true x y f g = f refl
by_test P false x y f g = g refl

module _ (table window : List ℕ) where
  -- ---- how it ends

  -- what n takes from b on list: n reports that all go on, or fewer of them and one that ends it
  pub data Course (n : ℕ) : List Report → Type 0 where
    whole : (more : List Report) → length more ≡ n → all on_report more ≡ true → Course n more
    ended : (more : List Report) (r : Report) → length more < n → all on_report more ≡ true → Ends r.answer → Course n (more ▹ r)

  pub record Lists (n : ℕ) (b c : Progress) : Type 0 where
    pub more : List Report
    pub joined : c.reports ≡ b.reports ++ more
    pub course : Course n more

  course_on : {n : ℕ} {more : List Report} (r : Report) → goes_on r.answer ≡ true → Course n more → Course (suc n) (r ∷ more)
  course_on r h (Course.whole more k a) = Course.whole (r ∷ more) (ap suc k) (true_and (on_report r) (all on_report more) h a)
  course_on r h (Course.ended more x k a e) = Course.ended (r ∷ more) x (omega arith) (true_and (on_report r) (all on_report more) h a) e

  -- a take that does not go on has an answer that ends a batch
  ending : (b : Progress) → goes_on (next_take table window b).report.answer ≡ false → Ends (next_take table window b).report.answer
  ending b h = ⊎_elim (λ g. absurd (clash (goes_on_lem _ g) h)) (λ g. g) (take_answers table window b.queue b.page (drop b.filled b.frame) b.list)

  pub batch_course : (n : ℕ) (b : Progress) → Lists n b (batch table window n b)
  batch_course zero b = record { more = []; joined = sym (append-nil b.reports); course = Course.whole [] refl refl }
  batch_course (suc n) b =
      let e = next_take table window b in
      by_test (Lists (suc n) b) (goes_on e.report.answer) (batch table window n (listed b e)) (listed b e)
      (λ h. (let k = batch_course n (listed b e) in record {
        more = e.report ∷ k.more;
        joined = k.joined ∙ append_assoc b.reports (e.report ∷ []) k.more;
        course = course_on e.report h k.course;
      }))
      (λ h. record { more = e.report ∷ []; joined = refl; course = Course.ended [] e.report (omega arith) refl (ending b h) })

  -- ---- two batches

  -- n more takes, if the first m all went on
  pub batch_split : (m n : ℕ) (b : Progress) → all on_report (batch table window m b).reports ≡ true → batch table window (m + n) b ≡ batch table window n (batch table window m b)
  batch_split zero n b h = rw zero-add
  batch_split (suc m) n b h = rw suc-add (go (goes_on (next_take table window b).report.answer) refl h (batch_split m n (listed b (next_take table window b))))
    where
      go : (x : Bool) → goes_on (next_take table window b).report.answer ≡ x
          → all on_report (cond x (batch table window m (listed b (next_take table window b))) (listed b (next_take table window b))).reports ≡ true
          → (all on_report (batch table window m (listed b (next_take table window b))).reports ≡ true
          → batch table window (m + n) (listed b (next_take table window b)) ≡ batch table window n (batch table window m (listed b (next_take table window b))))
          → cond x (batch table window (m + n) (listed b (next_take table window b))) (listed b (next_take table window b))
          ≡ batch table window n (cond x (batch table window m (listed b (next_take table window b))) (listed b (next_take table window b)))
      go true e k ih = ih k
      go false e k ih = absurd (clash (all_last b.reports (next_take table window b).report k) e)
        where
          all_last : (l : List Report) (r : Report) → all on_report (l ▹ r) ≡ true → on_report r ≡ true
          all_last [] r k = (and_both (on_report r) true k).0
          all_last (x ∷ l) r k = all_last l r (and_both (on_report x) (all on_report (l ▹ r)) k).1

  -- and none if one of them ended it
  pub batch_over : (m n : ℕ) (b : Progress) → all on_report b.reports ≡ true → all on_report (batch table window m b).reports ≡ false
      → batch table window (m + n) b ≡ batch table window m b
  batch_over zero n b g h = absurd (clash g h)
  batch_over (suc m) n b g h = rw suc-add (go (goes_on (next_take table window b).report.answer) refl h (batch_over m n (listed b (next_take table window b))))
    where
      go : (x : Bool) → goes_on (next_take table window b).report.answer ≡ x
          → all on_report (cond x (batch table window m (listed b (next_take table window b))) (listed b (next_take table window b))).reports ≡ false
          → (all on_report (b.reports ▹ (next_take table window b).report) ≡ true → all on_report (batch table window m (listed b (next_take table window b))).reports ≡ false
          → batch table window (m + n) (listed b (next_take table window b)) ≡ batch table window m (listed b (next_take table window b)))
          → cond x (batch table window (m + n) (listed b (next_take table window b))) (listed b (next_take table window b))
          ≡ cond x (batch table window m (listed b (next_take table window b))) (listed b (next_take table window b))
      go true e k ih = ih (all_append on_report b.reports ((next_take table window b).report ∷ []) g (true_and (on_report (next_take table window b).report) true e refl)) k
      go false e k ih = refl

  -- ---- behind other frames and reports

  -- what stands where c stands on the rest of a frame buffer, behind the first bytes p and the reports rs
  abbrev pub behind : (p : List ℕ) (rs : List Report) → Progress → Progress
  behind p rs c = record { queue = c.queue; page = c.page; list = c.list; frame = p ++ c.frame; filled = length p + c.filled; reports = rs ++ c.reports }

  next_behind : (p : List ℕ) (rs : List Report) (c : Progress) → next_take table window (behind p rs c) ≡ next_take table window c
  next_behind p rs c = rw drop-append-add

  listed_behind : (p : List ℕ) (rs : List Report) (c : Progress) (e : TakeEffect) → listed (behind p rs c) e ≡ behind p rs (listed c e)
  listed_behind p rs c e =
      let f : take (length p + c.filled) (p ++ c.frame) ++ e.frame ≡ p ++ (take c.filled c.frame ++ e.frame)
      = ap (◌++ e.frame) (take-append-add p c.frame c.filled) ∙ append_assoc p (take c.filled c.frame) e.frame in
      let n : length p + c.filled + e.report.total ≡ length p + (c.filled + e.report.total) = omega arith in
      let r : (rs ++ c.reports) ▹ e.report ≡ rs ++ (c.reports ▹ e.report) = append_assoc rs c.reports (e.report ∷ []) in
      λ i. record { queue = e.queue; page = e.page; list = e.list; frame = f i; filled = n i; reports = r i }

  pub batch_behind : (n : ℕ) (p : List ℕ) (rs : List Report) (c : Progress) → batch table window n (behind p rs c) ≡ behind p rs (batch table window n c)
  batch_behind zero p rs c = refl
  batch_behind (suc n) p rs c =
      rw (next_behind p rs c, listed_behind p rs c (next_take table window c))
      (go (goes_on (next_take table window c).report.answer) (batch_behind n p rs (listed c (next_take table window c))))
    where
      go : (x : Bool) → batch table window n (behind p rs (listed c (next_take table window c))) ≡ behind p rs (batch table window n (listed c (next_take table window c)))
          → cond x (batch table window n (behind p rs (listed c (next_take table window c)))) (behind p rs (listed c (next_take table window c)))
          ≡ behind p rs (cond x (batch table window n (listed c (next_take table window c))) (listed c (next_take table window c)))
      go true h = h
      go false h = refl

  -- a batch goes on as one begun anew on the rest of the frame buffer
  pub batch_anew : (n : ℕ) (b : Progress) → b.filled ≤ length b.frame
      → batch table window n b ≡ behind (take b.filled b.frame) b.reports (batch table window n (begun b.queue b.page (drop b.filled b.frame) b.list))
  batch_anew n b h = ap (batch table window n) same ∙ batch_behind n (take b.filled b.frame) b.reports (begun b.queue b.page (drop b.filled b.frame) b.list)
    where
      same : b ≡ behind (take b.filled b.frame) b.reports (begun b.queue b.page (drop b.filled b.frame) b.list)
      same =
          let f = sym (take-append-drop b.filled b.frame) in
          let n : b.filled ≡ length (take b.filled b.frame) + 0 = omega (arith, length-take-le b.filled b.frame h) in
          let r = sym (append-nil b.reports) in
          λ i. record { queue = b.queue; page = b.page; list = b.list; frame = f i; filled = n i; reports = r i }

  -- ---- the frame buffer

  -- the totals listed are filled, they fit, and what is behind them is as it was lent
  pub record Fills (frame : List ℕ) (b : Progress) : Type 0 where
    pub sums : b.filled ≡ totals b.reports
    pub fits : b.filled ≤ length b.frame
    pub long : length b.frame ≡ length frame
    pub stays : drop b.filled b.frame ≡ drop b.filled frame

  listed_fills : (frame : List ℕ) (b : Progress) → Fills frame b → Fills frame (listed b (next_take table window b))
  listed_fills frame b f =
      let e = next_take table window b in
      let w = take_writes table window b.queue b.page (drop b.filled b.frame) b.list in
      let p = take b.filled b.frame in
      let n : length p ≡ b.filled = length-take-le b.filled b.frame f.fits in
      let size : length (p ++ e.frame) ≡ length b.frame = omega (arith, length-append p e.frame, w.long, length-drop b.filled b.frame, f.fits) in
      record {
        sums = omega (arith, f.sums, sum_append (λ (r : Report). r.total) b.reports (e.report ∷ []));
        fits = omega (arith, w.fits, length-drop b.filled b.frame, f.fits);
        long = size ∙ f.long;
        stays =
            ap (λ (k : ℕ). drop (k + e.report.total) (p ++ e.frame)) (sym n) ∙ drop-append-add p e.frame e.report.total ∙ w.stays
            ∙ ap (drop e.report.total) f.stays ∙ drop-drop e.report.total b.filled frame;
      }

  pub batch_fills : (frame : List ℕ) (n : ℕ) (b : Progress) → Fills frame b → Fills frame (batch table window n b)
  batch_fills frame zero b f = f
  batch_fills frame (suc n) b f =
      let g = listed_fills frame b f in
      by_test (Fills frame) (goes_on (next_take table window b).report.answer) (batch table window n (listed b (next_take table window b))) (listed b (next_take table window b))
      (λ h. batch_fills frame n (listed b (next_take table window b)) g) (λ h. g)

  pub begun_fills : (q : Queue) (page frame : List ℕ) (l : List Held) → Fills frame (begun q page frame l)
  begun_fills q page frame l = record { sums = refl; fits = omega arith; long = refl; stays = refl }

  -- ---- a halt

  pub batch_halted : (n : ℕ) (b : Progress) → b.queue.halted ≡ true → (batch table window n b).queue.halted ≡ true
  batch_halted zero b h = h
  batch_halted (suc n) b h =
      let g : (next_take table window b).queue.halted ≡ true = halted_stays table window b.queue b.page (drop b.filled b.frame) b.list h in
      by_test (λ (c : Progress). c.queue.halted ≡ true) (goes_on (next_take table window b).report.answer) (batch table window n (listed b (next_take table window b))) (listed b (next_take table window b))
      (λ k. batch_halted n (listed b (next_take table window b)) g) (λ k. g)
