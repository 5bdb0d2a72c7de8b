-- The course of a batch. What a take leaves is the take that the definition makes next, with its report listed (`step_taken`), and the numbers fit
-- again (`step_fits`); so what was asked at the start is what is left to do (`ToDo`, by `to_do_start`, `to_do_next`, `to_do_none`).
use mathlib.Core.Path.{◌≡◌, refl, sym, ap, ◌∙◌}
use mathlib.Core.List.{List, [], ◌∷◌, ◌++◌, map}
use mathlib.Core.Bool.{Bool, true, false, not, cond}
use Prim.Native.Nat.{ℕ, suc, ◌+◌, ◌-◌, ◌*◌, ◌≤◌, ◌<◌}
use native.Mathlib.Omega.{arith}
use lib.ListN.{length, take, drop, get_or, set, length-set, length-append, length-drop}
use lib.Seq.{set_at, drop-cons, append_snoc, length-take-le}
use Rattle.std.specs.Prelude.{Option, Some, None, is_some, is_none}
use Rattle.grammar.specs.Service.{◌▹◌}
use Rattle.answer.specs.Report.{Report}
use Rattle.answer.specs.Words.{report_words}
use Rattle.held.specs.declared.Held.{Held}
use Rattle.held.specs.Records.{full, first_free, vacancy}
use Rattle.held.specs.Valid.{valid}
use Rattle.noting.specs.declared.Tally.{Tally}
use Rattle.noting.specs.Survey.{free_in}
use Rattle.glancing.specs.Glance.{Glanced}
use Rattle.transmit.specs.declared.Queue.{Queue}
use Rattle.transmit.specs.declared.Answer.{Answer}
use Rattle.transmit.specs.declared.Answer.TheVariants.{Done, BadPage, HaltedAlready, Overflow, Empty, Misshapen, Waiting, Spoiled, NoRoom, NoRecord, BadRecords}
use Rattle.transmit.specs.Take.{TakeEffect}
use Rattle.transmit.specs.Stages.{report_of, takes, Lent, Found}
use Rattle.transmit.proofs.Keeps.{stays_valid}
use Rattle.transmit.proofs.Frame.{take_fits}
use Rattle.concluding.specs.declared.Taken.{Taken}
use Rattle.concluding.specs.Taken.{kept_in, Concludes, ConcludesAs}
use Rattle.batch.specs.Batch.{Progress, begun, goes_on, next_take, batch, stored}
use Rattle.batch.proofs.Batch.{batch_step}
use Rattle.listing.specs.declared.Batch.{Batch}
use Rattle.listing.specs.Listing.{started, behind, listed_in, total_of, advanced}
use Rattle.batching.specs.Course.{Known, Begins, InCourse, GoesOn, taking, Steps, Batched}

-- ---- the start

-- a list is full where it has no first free record
full_vacancy : (l : List Held) → full l ≡ is_none (vacancy l)
unfolding vacancy
full_vacancy l = go (full l)
  where
    go : (b : Bool) → b ≡ is_none (cond b None (Some (first_free l)))
    go true = refl
    go false = refl

pub begins_none : (q : Queue) (l : List Held) (most : ℕ) (b : Batch) → most ≡ 0 → b ≡ started q None → Begins q most l b
begins_none q l most b none is = rw is (record { queue = refl; filled = refl; count = refl; known = λ h. absurd (omega (arith, h, none)) })

pub begins_some : (q : Queue) (l : List Held) (found : Option Tally) (most : ℕ) (b : Batch) → Glanced q.consumed q.replied l found → b ≡ started q found → Begins q most l b
begins_some q l found most b g is = rw is (record { queue = refl; filled = refl; count = refl; known = λ h. known })
  where
    place : (f : Option Tally) → found ≡ f → is_some f ≡ true → free_in f ≡ vacancy l
    place None e h = cc
    place (Some s) e h = g.place s e

    known : Known (started q found) l
    known = record {
      found = record { soundness = sym g.good; fullness = λ h. full_vacancy l ∙ ap is_none (sym (place found refl h)) };
      place = place found refl;
    }

-- ---- a take

-- a report says of its answer whether it takes a packet, and how many bytes it hands over
goes_on_lem : (k : ℕ) (a : Answer) → goes_on (report_of k a).answer ≡ takes a
goes_on_lem k (Done s e) = refl
goes_on_lem k BadPage = refl
goes_on_lem k HaltedAlready = refl
goes_on_lem k Overflow = refl
goes_on_lem k Empty = refl
goes_on_lem k Misshapen = refl
goes_on_lem k Waiting = refl
goes_on_lem k (Spoiled c p n e b) = refl
goes_on_lem k NoRoom = refl
goes_on_lem k NoRecord = refl
goes_on_lem k BadRecords = refl

total_told : (k : ℕ) (a : Answer) → (report_of k a).total ≡ total_of a
total_told k (Done s e) = refl
total_told k BadPage = refl
total_told k HaltedAlready = refl
total_told k Overflow = refl
total_told k Empty = refl
total_told k Misshapen = refl
total_told k Waiting = refl
total_told k (Spoiled c p n e b) = refl
total_told k NoRoom = refl
total_told k NoRecord = refl
total_told k BadRecords = refl

module _ (table window : List ℕ) (b : Batch) (page : List ℕ) (l : List Held) (frame : List ℕ) (fits : InCourse b l frame) where
  abbrev e : TakeEffect
  e = taking table window b page l frame

  pub take_told : Found b.queue b.good (is_none b.free) l
  take_told = (fits.known refl).found

  module _ (t : Taken) (page' frame' : List ℕ) (whole : ConcludesAs (behind b.filled frame e) b.queue l t page' frame') where
    c : Concludes (behind b.filled frame e) b.queue l t page' frame'
    c = whole.concludes

    -- where a packet is taken, the list is valid, a record is free, and the place is the first free one's
    lent : is_some t.«record» ≡ true → Lent b.queue.consumed b.queue.replied false l
    lent h = go t.«record» refl h
      where
        go : (r : Option Held) → t.«record» ≡ r → is_some r ≡ true → Lent b.queue.consumed b.queue.replied false l
        go None e h' = cc
        go (Some x) e h' = c.room x e

    good : is_some t.«record» ≡ true → b.good ≡ true
    good h = sym take_told.soundness ∙ (lent h).sound

    pub keep_fits : (h : Held) → t.«record» ≡ Some h → (full l ≡ false) × (b.free ≡ vacancy l)
    keep_fits h is = let some : is_some t.«record» ≡ true = ap is_some is in ((lent some).fullness, (fits.known refl).place (good some))

    going : goes_on e.report.answer ≡ is_some t.«record»
    going = ap (λ (r : Report). goes_on r.answer) (sym c.report) ∙ goes_on_lem t.ticket t.answer ∙ sym whole.takings

    total : total_of t.answer ≡ e.report.total
    total = sym (total_told t.ticket t.answer) ∙ ap (λ (r : Report). r.total) c.report

    -- of what `KeptAt` says, that the place stays where nothing is kept is not asked
    module _ (next : Option ℕ) (l' : List Held) (kept : l' ≡ kept_in l t.«record») (placed : (h : Held) → t.«record» ≡ Some h → next ≡ vacancy l') (b' : Batch) (is : b' ≡ advanced b t next) (results results' : List (List ℕ)) (written : results' ≡ listed_in results b.count t)
        (more : Bool) (told : more ≡ is_some t.«record») where
      pub step_taken : Steps table window b page l frame results more b' page' l' frame' results'
      step_taken = rw is (record {
        goes = told ∙ sym going;
        queue = c.queue;
        filled = ap (b.filled +◌) total;
        count = refl;
        pages = c.page;
        records = kept ∙ c.list;
        frames = c.frame;
        listings = written ∙ ap (λ (r : Report). set results b.count (report_words r)) c.report;
      })

      -- the first free record behind it
      next_place : is_some t.«record» ≡ true → next ≡ vacancy l'
      next_place h = go t.«record» refl h
        where
          go : (r : Option Held) → t.«record» ≡ r → is_some r ≡ true → next ≡ vacancy l'
          go None e h' = cc
          go (Some x) e h' = placed x e

      next_known : is_some t.«record» ≡ true → Known b' l'
      next_known h =
          let s = step_taken in
          record {
            found = record {
              soundness = (λ i. valid (s.queue i).consumed (s.queue i).replied (s.records i)) ∙ stays_valid table window b.queue page (drop b.filled frame) l (lent h).sound ∙ sym (good h)
                  ∙ sym (ap (λ (x : Batch). x.good) is);
              fullness = λ g. full_vacancy l' ∙ ap is_none (sym (next_place h) ∙ sym (ap (λ (x : Batch). x.free) is));
            };
            place = λ g. ap (λ (x : Batch). x.free) is ∙ next_place h;
          }

      pub step_fits : b'.filled ≤ b'.count * 4294967295 → GoesOn more b' l' frame'
      step_fits bound =
          let s = step_taken in
          let lent = take_fits table window b.queue page (drop b.filled frame) l in
          record {
            known = λ h. next_known (sym told ∙ h);
            filled = omega (arith, s.filled, lent.total, lent.size, ap length s.frames, length-append (take b.filled frame) e.frame, length-take-le b.filled frame fits.filled, length-drop b.filled frame);
            bounded = bound;
          }

-- ---- what is left to do

-- what was asked at the start is what is left to do, and the reports listed so far stand in the list of results
pub record ToDo (table window : List ℕ) (most : ℕ) (start : Progress) (lent : List (List ℕ)) (left : ℕ) (b : Batch) (page : List ℕ) (l : List Held) (frame : List ℕ) (results : List (List ℕ)) : Type 0 where
  pub reports : List Report
  pub counted : length reports ≡ b.count
  pub entries : results ≡ stored lent reports
  pub same : batch table window most start ≡ batch table window left (record { queue = b.queue; page = page; list = l; frame = frame; filled = b.filled; reports = reports })

-- the same with another name of what is left
pub to_do_at : (table window : List ℕ) (most : ℕ) (start : Progress) (lent : List (List ℕ)) (left left' : ℕ) (b : Batch) (page : List ℕ) (l : List Held) (frame : List ℕ) (results : List (List ℕ))
    → left ≡ left' → ToDo table window most start lent left b page l frame results → ToDo table window most start lent left' b page l frame results
to_do_at table window most start lent left left' b page l frame results e v = record { reports = v.reports; counted = v.counted; entries = v.entries; same = v.same ∙ ap (λ (n : ℕ). batch table window n (record { queue = b.queue; page = page; list = l; frame = frame; filled = b.filled; reports = v.reports })) e }

length_words : (rs : List Report) → length (map report_words rs) ≡ length rs
length_words [] = refl
length_words (r ∷ rs) = ap suc (length_words rs)

map_snoc : (rs : List Report) (r : Report) → map report_words (rs ▹ r) ≡ map report_words rs ▹ report_words r
map_snoc [] r = refl
map_snoc (x ∷ rs) r = ap (report_words x ∷◌) (map_snoc rs r)

length_snoc : (rs : List Report) (r : Report) → length (rs ▹ r) ≡ suc (length rs)
length_snoc rs r = omega (arith, length-append rs (r ∷ []))

-- a store behind the reports listed lists one more
stored_next : (lent : List (List ℕ)) (rs : List Report) (r : Report) → length rs < length lent → set (stored lent rs) (length rs) (report_words r) ≡ stored lent (rs ▹ r)
unfolding stored
stored_next lent rs r h =
    ap (λ (x : List (List ℕ)). set (map report_words rs ++ x) (length rs) (report_words r)) (drop-cons lent (length rs) [] h)
    ∙ set_at (map report_words rs) (get_or lent (length rs) []) (drop (suc (length rs)) lent) (report_words r) (length rs) (length_words rs)
    ∙ sym (append_snoc (map report_words rs) (report_words r) (drop (suc (length rs)) lent))
    ∙ ap (◌++ drop (suc (length rs)) lent) (sym (map_snoc rs r))
    ∙ ap (λ (n : ℕ). map report_words (rs ▹ r) ++ drop n lent) (sym (length_snoc rs r))

stored_length : (lent : List (List ℕ)) (rs : List Report) → length (stored lent rs) ≡ length rs + (length lent - length rs)
unfolding stored
stored_length lent rs = omega (arith, length-append (map report_words rs) (drop (length rs) lent), length_words rs, length-drop (length rs) lent)

module _ (table window : List ℕ) (most : ℕ) where
  pub to_do_start : (q : Queue) (page : List ℕ) (l : List Held) (frame : List ℕ) (lent : List (List ℕ)) (b : Batch) → Begins q most l b
      → ToDo table window most (begun q page frame l) lent most b page l frame lent
  unfolding stored
  to_do_start q page l frame lent b s = record {
    reports = [];
    counted = sym s.count;
    entries = refl;
    same = sym (λ i. batch table window most (record { queue = s.queue i; page = page; list = l; frame = frame; filled = s.filled i; reports = [] }));
  }

  module _ (start : Progress) (lent : List (List ℕ)) (b : Batch) (page : List ℕ) (l : List Held) (frame : List ℕ) (results : List (List ℕ)) where
    pub to_do_next : (left : ℕ) → ToDo table window most start lent (suc left) b page l frame results → b.count < length results
        → (more : Bool) (b' : Batch) (page' : List ℕ) (l' : List Held) (frame' : List ℕ) (results' : List (List ℕ))
        → Steps table window b page l frame results more b' page' l' frame' results' → ToDo table window most start lent (cond more left 0) b' page' l' frame' results'
    to_do_next left v room more b' page' l' frame' results' s =
        let now : Progress = record { queue = b.queue; page = page; list = l; frame = frame; filled = b.filled; reports = v.reports } in
        let more-lent : length v.reports < length lent = omega (arith, v.counted, room, ap length v.entries, stored_length lent v.reports) in
        let r = (next_take table window now).report in
        record {
          reports = v.reports ▹ r;
          counted = length_snoc v.reports r ∙ omega (arith, v.counted, s.count);
          entries = s.listings ∙ (λ i. set (v.entries i) (sym v.counted i) (report_words r)) ∙ stored_next lent v.reports r more-lent;
          same = v.same ∙ batch_step table window left now
              ∙ sym (λ i. batch table window (cond (s.goes i) left 0) (record { queue = s.queue i; page = s.pages i; list = s.records i; frame = s.frames i; filled = s.filled i; reports = v.reports ▹ r }));
        }

    pub to_do_none : (left : ℕ) → ToDo table window most start lent left b page l frame results → left ≡ 0 → Batched (batch table window most start) lent b page l frame results
    to_do_none left v h =
        let now : Progress = record { queue = b.queue; page = page; list = l; frame = frame; filled = b.filled; reports = v.reports } in
        let all : batch table window most start ≡ now = v.same ∙ ap (λ (n : ℕ). batch table window n now) h in
        rw all (record { queue = refl; count = sym v.counted; pages = refl; records = refl; frames = refl; listings = v.entries })
