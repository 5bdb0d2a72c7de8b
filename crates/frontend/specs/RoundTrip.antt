-- What is posted comes back from a take, and no packet of its total has fewer data slots.
use Rattle.std.specs.Prelude.{◌≡◌, true, false, List, [], ◌∷◌, ℕ, ◌+◌, ◌-◌, ◌≤◌, ◌<◌, length, Option}
use Rattle.words.specs.Word.{splice}
use Rattle.ring.specs.Ring.{wrap, page_size, wadd, req_prod, posted}
use Rattle.netif.specs.Slot.{Slot, slot_count, transmit_slot}
use Rattle.grammar.specs.Divide.{whole, divide}
use Rattle.answer.specs.Verdict.{good}
use Rattle.grant.specs.Grant.{page_of}
use Rattle.grant.specs.Lookup.{SameWord, SamePage}
use Rattle.packet.specs.Judge.{total_of, judge}
use Rattle.held.specs.declared.Held.{Held}
use Rattle.held.specs.Records.{full, added, waiting}
use Rattle.held.specs.Valid.{between, valid}
use Rattle.transmit.specs.declared.Queue.{Queue}
use Rattle.transmit.specs.Take.{go_on, TakeEffect, waiting_slots, transmit_take}
use Rattle.receive.specs.Put.{needed}
use Rattle.frontend.specs.declared.Gso.{Gso}
use Rattle.frontend.specs.Post.{gso_extras, size_given, type_given, slots_for, used_refs, post}

-- references of 32 bits
abbrev pub Refs : List ℕ → Type 0
Refs [] = Unit {0}
Refs (g ∷ l) = (g < wrap) × Refs l

-- the grants of references, and the pages that they name, are as they were: words and pages byte for byte
abbrev pub SameGrants : (table window table' window' : List ℕ) → List ℕ → Type 0
SameGrants table window table' window' [] = Unit {0}
SameGrants table window table' window' (g ∷ l) = SameWord table table' g × SamePage window window' (page_of table g) × SameGrants table window table' window' l

-- n slots from counter c on are as they were, and req_prod but for so many slots posted behind them (none is the request's own case); of
-- the rest of the page nothing is said
pub record SameSlots (page page' : List ℕ) (c n more : ℕ) : Type 0 where
  pub size : length page' ≡ page_size
  pub requests : req_prod page' ≡ wadd (req_prod page) more
  pub slots : (i : ℕ) → i < n → transmit_slot page' (c + i) ≡ transmit_slot page (c + i)

-- room for the frame in a take at counter c, lent a counter of replies sent, a list of records and a frame buffer
pub record HasRoom (c replied : ℕ) (records : List Held) (frame buffer : List ℕ) : Type 0 where
  -- the buffer is as long as the frame: else the answer is 8
  pub long : length frame ≤ length buffer
  -- a record is free: else it is 14
  pub record_free : full records ≡ false
  -- the list is valid for the two counters: else it is 17
  pub sound : valid c replied records ≡ true

-- the slots held before counter c, and n from there on, are at most a ring: else the answer is 3
unfoldable pub FitsRing : (c replied n : ℕ) → Type 0
FitsRing c replied n = between c replied + n ≤ slot_count

-- a count of replies read is not past a counter of replies sent: of the slots up to req_prod it leaves no fewer
unfoldable pub NotPast : (page : List ℕ) (read replied : ℕ) → Type 0
NotPast page read replied = posted page replied ≤ posted page read

-- the frame and the gso fields came back: done, with the frame in the buffer's first bytes. The packet is held in a record, and no reply
-- has left
pub record ComesBack (o : Option Gso) (frame buffer : List ℕ) (c replied : ℕ) (page : List ℕ) (records : List Held) (n : ℕ) (r : TakeEffect) : Type 0 where
  pub done : r.report.answer ≡ 0
  pub no_cause : r.report.cause ≡ 0
  pub no_place : r.report.place ≡ 0
  pub slots : r.report.slots ≡ n
  pub quiet : r.report.notifies ≡ 0
  pub total : r.report.total ≡ length frame
  pub blank : r.report.blank ≡ 0
  pub validated : r.report.validated ≡ 0
  pub gso_sizes : r.report.gso_size_word ≡ size_given o
  pub gso_types : r.report.gso_type_word ≡ type_given o
  pub ticket : r.report.ticket_word ≡ c
  pub queue : r.queue ≡ go_on (wadd c n) replied
  pub page_stays : r.page ≡ page
  pub frame_bytes : r.frame ≡ splice buffer 0 frame
  pub held : r.list ≡ added records (waiting c n (gso_extras o))

-- what is posted, with its slots, req_prod, pages and grants untouched since, comes back from a take at its first slot, unhalted and with
-- room
unfoldable pub RoundTrip : Type 0
RoundTrip =
    (table window page : List ℕ) (read : ℕ) (o : Option Gso) (refs frame : List ℕ) → Refs refs → size_given o < 65536
    → (post table page window read o refs frame).report.answer ≡ 0
    → (table' window' page' buffer : List ℕ) (replied : ℕ) (records : List Held) (more : ℕ)
    → SameGrants table (post table page window read o refs frame).window table' window' (used_refs refs frame)
    → SameSlots (post table page window read o refs frame).page page' (req_prod page) (slots_for o (length frame)) more
    → FitsRing (req_prod page) replied (slots_for o (length frame) + more)
    → HasRoom (req_prod page) replied records frame buffer
    → ComesBack o frame buffer (req_prod page) replied page' records (slots_for o (length frame))
    (transmit_take table' window' (go_on (req_prod page) replied) page' buffer records)

-- with nothing posted behind it, and a count of replies read not past the replies sent, it fits the ring
unfoldable pub PostFits : Type 0
PostFits =
    (table window page : List ℕ) (read : ℕ) (o : Option Gso) (refs frame : List ℕ)
    → (post table page window read o refs frame).report.answer ≡ 0
    → (replied : ℕ) → NotPast page read replied
    → FitsRing (req_prod page) replied (slots_for o (length frame))

-- no packet of a total with fewer data slots is done
unfoldable pub Fewest : Type 0
Fewest = (table window : List ℕ) (e : ℕ) (p : List Slot) → e < length p → judge table window e p ≡ good → needed (total_of p) ≤ length p - e

-- so too of a take that takes d data slots
unfoldable pub FewestDone : Type 0
FewestDone =
    (table window : List ℕ) (q : Queue) (page buffer : List ℕ) (records : List Held) (d e : ℕ) → divide (waiting_slots page q.consumed) ≡ whole d e
    → (transmit_take table window q page buffer records).report.answer ≡ 0
    → needed (transmit_take table window q page buffer records).report.total ≤ d
