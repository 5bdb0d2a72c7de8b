-- Posting is a publication as demand 3's sequences have it.
use Rattle.std.specs.Prelude.{◌≡◌, List, ℕ, ◌<◌, length, Option}
use Rattle.words.specs.Word.{Bytes}
use Rattle.ring.specs.Ring.{req_prod}
use Rattle.netif.specs.Slot.{Slot, transmit_slots}
use Rattle.grammar.specs.Grammar.{Packet}
use Rattle.sequences.specs.Sequence.{State, Published, Take, Sequence}
use Rattle.sequences.specs.Unrewritten.{KeepsHeld}
use Rattle.frontend.specs.declared.Gso.{Gso}
use Rattle.frontend.specs.Post.{type_given, packet_of, post}
use Rattle.frontend.specs.RoundTrip.{NotPast}

-- a page that is the state's with the packet p published: no slot that is published and not replied to is written over, and at most 256 are
-- then there. What joins the run is a packet
pub record Publishes (s : State) (page : List ℕ) (p : List Slot) : Type 0 where
  pub published : Published s page (length p)
  pub keeps : KeepsHeld s page
  pub joins : transmit_slots page (req_prod s.page) (length p) ≡ p
  pub packet : Packet p

-- in every state that a sequence leads to, a done post is one, if its count of replies read is not past the replies sent
unfoldable pub PostPublishes : Type 0
PostPublishes =
    (table window : List ℕ) (c : ℕ) (s : State) (takes : List Take) → Sequence table window c s takes
    → (table' window' : List ℕ) (read : ℕ) (o : Option Gso) (refs frame : List ℕ) → Bytes s.page → type_given o < 256
    → NotPast s.page read s.replied
    → (post table' s.page window' read o refs frame).report.answer ≡ 0
    → Publishes s (post table' s.page window' read o refs frame).page (packet_of s.page o refs frame)
