-- The course of a batch: its numbers, and what each take does to them and to what is lent.
use Rattle.std.specs.Prelude.{◌≡◌, List, Option, Some, None, is_none, ◌++◌, Bool, true, ℕ, ◌+◌, ◌*◌, ◌≤◌, length, take, drop, set}
use Rattle.answer.specs.Words.{report_words}
use Rattle.held.specs.declared.Held.{Held}
use Rattle.held.specs.Records.{vacancy}
use Rattle.transmit.specs.declared.Queue.{Queue}
use Rattle.transmit.specs.Take.{TakeEffect, transmit_take}
use Rattle.transmit.specs.Stages.{Found}
use Rattle.concluding.specs.Taken.{kept_in}
use Rattle.batch.specs.Batch.{Progress, goes_on, stored}
use Rattle.listing.specs.declared.Batch.{Batch}

-- a take's record is kept, if it takes one, and the first free record is looked for again; else its place stays
pub record KeptAt (l : List Held) (free : Option ℕ) (kept : Option Held) (next : Option ℕ) (l' : List Held) : Type 0 where
  pub records : l' ≡ kept_in l kept
  pub place : (h : Held) → kept ≡ Some h → next ≡ vacancy l'
  pub stays : kept ≡ None → next ≡ free

-- what the numbers say of the list of records: whether it is valid; and if it is, where its first free record is
pub record Known (b : Batch) (l : List Held) : Type 0 where
  pub found : Found b.queue b.good (is_none b.free) l
  pub place : b.good ≡ true → b.free ≡ vacancy l

-- the numbers before the first take
pub record Begins (q : Queue) (most : ℕ) (l : List Held) (b : Batch) : Type 0 where
  pub queue : b.queue ≡ q
  pub filled : b.filled ≡ 0
  pub count : b.count ≡ 0
  pub known : 1 ≤ most → Known b l

-- the numbers between two takes fit what is lent; of the list they speak if a take follows
pub record GoesOn (more : Bool) (b : Batch) (l : List Held) (frame : List ℕ) : Type 0 where
  pub known : more ≡ true → Known b l
  pub filled : b.filled ≤ length frame
  pub bounded : b.filled ≤ b.count * 4294967295

-- so they do before a take
abbrev pub InCourse : Batch → List Held → (frame : List ℕ) → Type 0
InCourse b l frame = GoesOn true b l frame

-- the take with these numbers on what is lent
abbrev pub taking : (table window : List ℕ) → Batch → (page : List ℕ) → List Held → (frame : List ℕ) → TakeEffect
taking table window b page l frame = transmit_take table window b.queue page (drop b.filled frame) l

-- it told whether another may follow, and left other numbers and this of what was lent
pub record Steps (table window : List ℕ) (b : Batch) (page : List ℕ) (l : List Held) (frame : List ℕ) (results : List (List ℕ)) (more : Bool) (b' : Batch) (page' : List ℕ) (l' : List Held) (frame' : List ℕ) (results' : List (List ℕ)) : Type 0 where
  pub goes : more ≡ goes_on (taking table window b page l frame).report.answer
  pub queue : b'.queue ≡ (taking table window b page l frame).queue
  pub filled : b'.filled ≡ b.filled + (taking table window b page l frame).report.total
  pub count : b'.count ≡ b.count + 1
  pub pages : page' ≡ (taking table window b page l frame).page
  pub records : l' ≡ (taking table window b page l frame).list
  pub frames : frame' ≡ take b.filled frame ++ (taking table window b page l frame).frame
  pub listings : results' ≡ set results b.count (report_words (taking table window b page l frame).report)

-- a batch that was lent this list of results left the numbers b and what is lent so: the progress p
pub record Batched (p : Progress) (lent : List (List ℕ)) (b : Batch) (page : List ℕ) (l : List Held) (frame : List ℕ) (results : List (List ℕ)) : Type 0 where
  pub queue : b.queue ≡ p.queue
  pub count : b.count ≡ length p.reports
  pub pages : page ≡ p.page
  pub records : l ≡ p.list
  pub frames : frame ≡ p.frame
  pub listings : results ≡ stored lent p.reports
