-- What follows from an answer. Of the answers that are left to `_` in a match, by their tags: nothing is taken, and where the queue is not
-- halted either it stays.
use mathlib.Core.Path.{◌≡◌, refl, sym, ap, ◌∙◌}
use mathlib.Core.List.{List, [], ◌∷◌}
use mathlib.Core.Bool.{Bool, true, false, not, cond}
use Prim.Native.Nat.{ℕ}
use types.Run.{OneOf, miss}
use denote.Enum.Declared.{tag_of}
use Rattle.std.specs.Prelude.{Option, None, Some, is_some, is_none}
use Rattle.words.proofs.Word.{no_confusion}
use Rattle.held.specs.declared.Held.{Held}
use Rattle.held.specs.Records.{free, added}
use Rattle.transmit.specs.contracts.Answer.{the_type}
use Rattle.transmit.specs.declared.Queue.{Queue}
use Rattle.transmit.specs.declared.Answer.{Answer}
use Rattle.transmit.specs.declared.Answer.TheVariants.{Done, BadPage, HaltedAlready, Overflow, Empty, Misshapen, Waiting, Spoiled, NoRoom, NoRecord, BadRecords}
use Rattle.transmit.specs.Take.{TakeEffect}
use Rattle.transmit.specs.Stages.{report_of, takes, queue_after, record_of, Gives}
use Rattle.concluding.specs.declared.Taken.{Taken}
use Rattle.concluding.specs.Taken.{record_taken, ticket_in, kept_in, TakenFor, Concludes}

-- the tags of all but Done and Spoiled
abbrev none : List ℕ
none = 1 ∷ 2 ∷ 3 ∷ 4 ∷ 5 ∷ 6 ∷ 8 ∷ 9 ∷ 10 ∷ []

pub taking-none : (q : Queue) (a : Answer) → OneOf none (tag_of the_type a) → (takes a ≡ false) × (record_of q a ≡ free)
taking-none q (Done s e) h = absurd (miss none 0 tt h)
taking-none q (Spoiled c k n e b) h = absurd (miss none 7 tt h)
taking-none q BadPage h = (refl, refl)
taking-none q HaltedAlready h = (refl, refl)
taking-none q Overflow h = (refl, refl)
taking-none q Empty h = (refl, refl)
taking-none q Misshapen h = (refl, refl)
taking-none q Waiting h = (refl, refl)
taking-none q NoRoom h = (refl, refl)
taking-none q NoRecord h = (refl, refl)
taking-none q BadRecords h = (refl, refl)

-- and of all but the two that halt too
abbrev stay : List ℕ
stay = 1 ∷ 2 ∷ 4 ∷ 6 ∷ 8 ∷ 9 ∷ 10 ∷ []

pub staying : (q : Queue) (a : Answer) → OneOf stay (tag_of the_type a) → queue_after q a ≡ q
staying q (Done s e) h = absurd (miss stay 0 tt h)
staying q (Spoiled c k n e b) h = absurd (miss stay 7 tt h)
staying q BadPage h = refl
staying q HaltedAlready h = refl
staying q Overflow h = absurd (miss stay 3 tt h)
staying q Empty h = refl
staying q Misshapen h = absurd (miss stay 5 tt h)
staying q Waiting h = refl
staying q NoRoom h = refl
staying q NoRecord h = refl
staying q BadRecords h = refl

-- a record is kept where one is taken
kept : (b : Bool) (h : Held) (l : List Held) → kept_in l (cond b (Some h) None) ≡ cond b (added l h) l
kept true h l = refl
kept false h l = refl

kept_some : (b : Bool) (h k : Held) → cond b (Some h) None ≡ Some k → b ≡ true
kept_some true h k is = refl
kept_some false h k is = no_confusion cc

kept_takes : (b : Bool) (h : Held) → is_some (cond b (Some h) None) ≡ b
kept_takes true h = refl
kept_takes false h = refl

pub takes_told : (q : Queue) (a : Answer) → is_some (record_taken q a) ≡ takes a
takes_told q a = kept_takes (takes a) (record_of q a)

-- the ticket is reported where a packet is handed over, and its record has it
pub ticket_told : (q : Queue) (a : Answer) → report_of (ticket_in (record_taken q a)) a ≡ report_of q.consumed a
ticket_told q (Done s e) = refl
ticket_told q (Spoiled c k n e b) = refl
ticket_told q BadPage = refl
ticket_told q HaltedAlready = refl
ticket_told q Overflow = refl
ticket_told q Empty = refl
ticket_told q Misshapen = refl
ticket_told q Waiting = refl
ticket_told q NoRoom = refl
ticket_told q NoRecord = refl
ticket_told q BadRecords = refl

-- what a test for none tells
pub none_told : (o : Option ℕ) (b : Bool) → is_some o ≡ not b → b ≡ is_none o
none_told None true h = refl
none_told None false h = no_confusion cc
none_told (Some x) true h = no_confusion cc
none_told (Some x) false h = refl

-- an answer with the queue behind it and its record
pub concludes : (e : TakeEffect) (q : Queue) (l : List Held) (a : Answer) (ring written : List ℕ) (t : Taken) → Gives e q l a ring written
    → TakenFor q a t → Concludes e q l t ring written
concludes e q l a ring written t g k = record {
  report = (λ i. report_of (k.ticket i) (k.answers i)) ∙ ticket_told q a ∙ g.report;
  queue = k.queue ∙ g.queue;
  page = g.page;
  frame = g.frame;
  list = ap (kept_in l) k.keeps ∙ kept (takes a) (record_of q a) l ∙ g.list;
  room = λ h is. g.room (kept_some (takes a) (record_of q a) h (sym k.keeps ∙ is));
}
