-- What the stages of posting promise each other.
use Rattle.std.specs.Prelude.{◌≡◌, Bool, false, List, [], ℕ, length, take, Option, Result, Ok}
use Rattle.ring.specs.Ring.{req_prod, wadd, notify, with_posted}
use Rattle.ring.specs.declared.Side.TheVariants.{Requests}
use Rattle.netif.specs.Slot.{slot_width, slot_count}
use Rattle.frontend.specs.declared.Unusable.{Unusable}
use Rattle.frontend.specs.declared.Posted.{Posted}
use Rattle.frontend.specs.declared.Refusal.{Refusal}
use Rattle.frontend.specs.declared.Gso.{Gso}
use Rattle.frontend.specs.Pages.{pages_of, bad_pages}
use Rattle.frontend.specs.Search.{search_from}
use Rattle.frontend.specs.Post.{Posting, report_of, packet_for}

-- the search was made; where it found nothing, the table starts with the pages that the references name
pub record Searched (table window refs pages : List ℕ) (r : Result Unit Unusable) : Type 0 where
  pub answer : r ≡ search_from table window [] refs
  pub named : r ≡ Ok tt → take (length refs) pages ≡ pages_of table refs

-- answer 12 was looked for; where it does not hold, the table starts with the pages
pub record PagesTested (table window refs : List ℕ) (count : ℕ) (pages : List ℕ) (r : Bool) : Type 0 where
  pub answer : r ≡ bad_pages table window refs count
  pub named : r ≡ false → take count pages ≡ pages_of table (take count refs)

-- the packet was written and published, and the backend's wish for an event read
pub record WithPacket (page : List ℕ) (o : Option Gso) (refs frame after : List ℕ) (r : Bool) : Type 0 where
  pub written : after ≡ with_posted slot_width slot_count page (packet_for (req_prod page) o refs frame)
  pub notifies : r ≡ notify Requests page (req_prod page) (wadd (req_prod page) (length (packet_for (req_prod page) o refs frame)))

-- a call's answer, ring page and window are those of a posting
pub record Posts (d : Posting) (r : Result Posted Refusal) (ring' window' : List ℕ) : Type 0 where
  pub report : report_of r ≡ d.report
  pub page : ring' ≡ d.page
  pub window : window' ≡ d.window
