-- Request 2's promise of the exported calls: what tollmeander_transmit_post is lent and leaves, and what tollmeander_transmit_take is
-- then lent and leaves. Counters, marks and reports are the words that C has, buffers their bytes.
use Rattle.std.specs.Prelude.{◌≡◌, List, [], ◌∷◌, ℕ, ◌+◌, ◌≤◌, ◌<◌, length, get_or, Option}
use Rattle.words.specs.Word.{splice}
use Rattle.ring.specs.Ring.{page_size, wadd, req_prod}
use Rattle.netif.specs.Slot.{transmit_slot}
use Rattle.grammar.specs.Divide.{whole, divide}
use Rattle.receive.specs.Put.{needed}
use Rattle.held.specs.declared.Held.{Held}
use Rattle.held.specs.Records.{added, waiting}
use Rattle.transmit.specs.Take.{waiting_slots}
use Rattle.transmit.specs.Words.{TakeLeft}
use Rattle.frontend.specs.declared.Gso.{Gso}
use Rattle.frontend.specs.Post.{gso_extras, size_given, type_given, slots_for, used_refs}
use Rattle.frontend.specs.RoundTrip.{Refs, SameGrants, SameSlots, HasRoom, FitsRing, NotPast}
use Rattle.interface.specs.Interface.{gso_of, TakeCallLeaves, PostLeaves}

-- what is taken is what was posted: the call is done and reports the slots, the frame's length, no flag, the gso asked for and the first
-- slot's counter as the ticket; the counter is behind the packet, the ring is not halted, and the frame is in the buffer's first bytes. The
-- packet is held in the first free record; no reply has left, and the guest is not notified
pub record GivesBack (o : Option Gso) (frame buffer : List ℕ) (first replied : ℕ) (ring : List ℕ) (list : List Held) (l : TakeLeft) : Type 0 where
  pub returns : l.returned ≡ 0
  pub reports : l.words ≡ 0 ∷ 0 ∷ 0 ∷ slots_for o (length frame) ∷ 0 ∷ length frame ∷ 0 ∷ 0 ∷ size_given o ∷ type_given o ∷ first ∷ []
  pub counter : l.consumed ≡ wadd first (slots_for o (length frame))
  pub replies : l.replied ≡ replied
  pub unhalted : l.mark ≡ 0
  pub page : l.page ≡ ring
  pub frame_bytes : l.frame ≡ splice buffer 0 frame
  pub held : l.list ≡ added list (waiting first (slots_for o (length frame)) (gso_extras o))

-- a frame was posted: what the call was lent and left, and that it is done. References are of 32 bits and the gso size of 16, as their
-- parameters are
pub record PostIsDone (grants window : List ℕ) (read given size type : ℕ) (ring refs frame : List ℕ) (ringLeft windowLeft words : List ℕ) : Type 0 where
  pub left : PostLeaves grants window read given size type ring refs frame 0 ringLeft windowLeft words
  pub references : Refs refs
  pub sized : size < 65536

-- a packet that was posted comes back from a take at its first slot, unhalted and with room, though so many slots were posted behind it,
-- and whatever else was written to ring page, grant table and window; all that is held and posted fits the ring
unfoldable pub PostThenTake : Type 0
PostThenTake =
    (grants window ring refs frame ringLeft windowLeft words : List ℕ) (read given size type : ℕ)
    → PostIsDone grants window read given size type ring refs frame ringLeft windowLeft words
    → (grants' window' ring' buffer : List ℕ) (replied : ℕ) (list : List Held) (more : ℕ)
    → SameGrants grants windowLeft grants' window' (used_refs refs frame)
    → SameSlots ringLeft ring' (req_prod ring) (slots_for (gso_of given size type) (length frame)) more
    → FitsRing (req_prod ring) replied (slots_for (gso_of given size type) (length frame) + more)
    → HasRoom (req_prod ring) replied list frame buffer
    → (l : TakeLeft) → TakeCallLeaves grants' window' (req_prod ring) replied 0 ring' list buffer l
    → GivesBack (gso_of given size type) frame buffer (req_prod ring) replied ring' list l

-- the packet's slots, req_prod, its pages and its grants are as the post left them
pub record Untouched (grants windowLeft ringLeft grants' window' ring' refs : List ℕ) (first slots : ℕ) : Type 0 where
  pub page : length ring' ≡ page_size
  pub requests : req_prod ring' ≡ req_prod ringLeft
  pub slots_stay : (i : ℕ) → i < slots → transmit_slot ring' (first + i) ≡ transmit_slot ringLeft (first + i)
  pub grants_stay : SameGrants grants windowLeft grants' window' refs

-- the request's own case: these are untouched, and the count of replies read is not past the replies sent
unfoldable pub PostThenTakeUntouched : Type 0
PostThenTakeUntouched =
    (grants window ring refs frame ringLeft windowLeft words : List ℕ) (read given size type : ℕ)
    → PostIsDone grants window read given size type ring refs frame ringLeft windowLeft words
    → (grants' window' ring' buffer : List ℕ) (replied : ℕ) (list : List Held)
    → NotPast ring read replied
    → Untouched grants windowLeft ringLeft grants' window' ring' (used_refs refs frame) (req_prod ring) (slots_for (gso_of given size type) (length frame))
    → HasRoom (req_prod ring) replied list frame buffer
    → (l : TakeLeft) → TakeCallLeaves grants' window' (req_prod ring) replied 0 ring' list buffer l
    → GivesBack (gso_of given size type) frame buffer (req_prod ring) replied ring' list l

-- no packet with fewer data slots is done: a take that is done, of a packet of d data slots and e extras, reports a total of at most d pages
unfoldable pub NoFewerSlots : Type 0
NoFewerSlots =
    (grants window ring buffer : List ℕ) (list : List Held) (consumed replied mark d e : ℕ) → divide (waiting_slots ring consumed) ≡ whole d e
    → (l : TakeLeft) → TakeCallLeaves grants window consumed replied mark ring list buffer l → l.returned ≡ 0 → needed (get_or l.words 5 0) ≤ d
