-- The guest's side (request 2): a frame laid into pages and posted as one packet, in the order of the answers.
use Rattle.std.specs.Prelude.{List, [], ◌∷◌, ◌++◌, Bool, true, false, not, cond, ℕ, suc, ◌+◌, ◌-◌, ◌%◌, length, take, drop, ltb, eqb, Option, Some, None, Result, Ok, Err}
use Rattle.ring.specs.Ring.{page_size, wadd, req_prod, posted, notify, with_posted}
use Rattle.ring.specs.declared.Side.TheVariants.{Requests}
use Rattle.netif.specs.Slot.{Slot, slot_width, slot_count}
use Rattle.netif.specs.Encode.{data_bytes, extra_bytes}
use Rattle.answer.specs.Report.{Report, plain, done_report, plain_summary}
use Rattle.answer.specs.Verdict.{Verdict}
use Rattle.packet.specs.Judge.{judge_gso}
use Rattle.receive.specs.Put.{bad_length, piece_size, needed, scatter}
use Rattle.frontend.specs.declared.Gso.{Gso}
use Rattle.frontend.specs.declared.Posted.{Posted}
use Rattle.frontend.specs.declared.Refusal.{Refusal}
use Rattle.frontend.specs.declared.Refusal.TheVariants.{BadPage, BadLength, NoSlots, BadPages, BadGso}
use Rattle.frontend.specs.Pages.{bad_pages, pages_of}

-- ---- gso

-- gso with these fields
abbrev pub given : (size kind : ℕ) → Option Gso
given size kind = Some (record { size = size; kind = kind })

-- the extras that it needs, and its fields; without it 0 and 0
abbrev pub gso_extras : Option Gso → ℕ
gso_extras None = 0
gso_extras (Some o) = 1

abbrev pub size_given : Option Gso → ℕ
size_given None = 0
size_given (Some o) = o.size

abbrev pub type_given : Option Gso → ℕ
type_given None = 0
type_given (Some o) = o.kind

abbrev pub is_bad : Verdict → Bool
is_bad (Ok u) = false
is_bad (Err f) = true

-- answer 13: cause 6 would refuse it
unfoldable pub bad_gso : Option Gso → Bool
bad_gso o = is_bad (judge_gso (gso_extras o) (size_given o) (type_given o))

-- ---- the packet

-- flags of a data slot: bit 2 if more data follows, bit 3 if an extra does
unfoldable pub flags_for : (more extra : Bool) → ℕ
flags_for more extra = cond more 4 0 + cond extra 8 0

-- a data slot at counter n: its id is the counter's low 16 bits
unfoldable pub data_for : (n g flags size : ℕ) → Slot
data_for n g fl size = data_bytes (record { gref = g; offset = 0; flags = fl; id = n % 65536; size = size })

-- other references follow
abbrev pub others : List ℕ → Bool
others [] = false
others (g ∷ l) = true

-- the data slots behind the first, from counter n on, for the pieces of what is left of the frame
abbrev pub later_for : (n : ℕ) (refs frame : List ℕ) → List Slot
later_for n [] frame = []
later_for n (g ∷ l) frame = data_for n g (flags_for (others l) false) (length (take piece_size frame)) ∷ later_for (suc n) l (drop piece_size frame)

-- the extra, if there is gso
abbrev pub extras_for : Option Gso → List Slot
extras_for None = []
extras_for (Some o) = extra_bytes (record { kind = 1; flags = 0; gso_size = o.size; gso_type = o.kind }) ∷ []

-- the packet from counter n on: the first data slot's size is that of the whole frame
abbrev pub packet_for : (n : ℕ) → Option Gso → (refs frame : List ℕ) → List Slot
packet_for n o [] frame = []
packet_for n o (g ∷ l) frame =
    data_for n g (flags_for (others l) (ltb 0 (gso_extras o))) (length frame)
    ∷ (extras_for o ++ later_for (suc n + gso_extras o) l (drop piece_size frame))

-- ---- the call

-- free slots, by the driver's count of replies read: 256 minus (req_prod minus that count), none if the difference passes 256
unfoldable pub free_slots : List ℕ → ℕ → ℕ
free_slots page read = slot_count - posted page read

-- what it leaves
pub record Posting : Type 0 where
  pub report : Report
  pub page : List ℕ
  pub window : List ℕ

-- the number and the words of each answer: posted reports slots and notify
abbrev pub report_of : Result Posted Refusal → Report
report_of (Ok p) = done_report (plain_summary p.slots 0) p.notify
report_of (Err BadPage) = plain 1
report_of (Err BadLength) = plain 9
report_of (Err NoSlots) = plain 11
report_of (Err BadPages) = plain 12
report_of (Err BadGso) = plain 13

-- an answer that changes nothing
abbrev pub refused : ℕ → List ℕ → List ℕ → Posting
refused n page window = record { report = plain n; page = page; window = window }

-- the frame's slots: one for each page, and the extra
unfoldable pub slots_for : Option Gso → ℕ → ℕ
slots_for o n = needed n + gso_extras o

-- the references that a frame uses
abbrev pub used_refs : (refs frame : List ℕ) → List ℕ
used_refs refs frame = take (needed (length frame)) refs

-- the packet at req_prod
abbrev pub packet_of : List ℕ → Option Gso → (refs frame : List ℕ) → List Slot
packet_of page o refs frame = packet_for (req_prod page) o (used_refs refs frame) frame

module _ (table : List ℕ) where
  -- the packet is posted, and its pages hold the frame
  unfoldable pub post_packet : List ℕ → List ℕ → Option Gso → (refs frame : List ℕ) → Posting
  post_packet page window o refs frame = record {
    report = done_report (plain_summary (slots_for o (length frame)) 0) (notify Requests page (req_prod page) (wadd (req_prod page) (slots_for o (length frame))));
    page = with_posted slot_width slot_count page (packet_of page o refs frame);
    window = scatter window (pages_of table (used_refs refs frame)) frame;
  }

  -- bad page, bad length, bad gso, bad pages, too few free slots, and then posted
  unfoldable pub post : List ℕ → List ℕ → (read : ℕ) → Option Gso → (refs frame : List ℕ) → Posting
  post page window read o refs frame =
      cond (not (eqb (length page) page_size)) (refused 1 page window)
      (cond (bad_length (length frame)) (refused 9 page window)
      (cond (bad_gso o) (refused 13 page window)
      (cond (bad_pages table window refs (needed (length frame))) (refused 12 page window)
      (cond (ltb (free_slots page read) (slots_for o (length frame))) (refused 11 page window)
      (post_packet page window o refs frame)))))
