-- Posting is a publication: with a count not past the replies sent all that is posted and not replied to fits the ring (`free_fits`), so by
-- ring's laws of posting none of it is written over.
use mathlib.Core.Path.{◌≡◌, refl, ap, ◌∙◌}
use mathlib.Core.List.{List, [], ◌∷◌}
use Prim.Native.Nat.{ℕ, suc, ◌+◌, ◌-◌, ◌*◌, ◌≤◌, ◌<◌}
use native.Mathlib.Omega.{arith}
use lib.ListN.{length, length-take}
use Rattle.std.specs.Prelude.{Option}
use Rattle.words.specs.Word.{Bytes}
use Rattle.ring.specs.Ring.{wsub, req_prod, posted, with_posted}
use Rattle.ring.proofs.Counters.{wsub_on, posted_left}
use Rattle.ring.proofs.Posting.{posted_size, posted_requests, posted_slots, posted_keeps, posted_bytes}
use Rattle.netif.specs.Slot.{Slot}
use Rattle.receive.specs.Put.{needed}
use Rattle.receive.proofs.Calls.{needed_cover, needed_reach}
use Rattle.held.specs.Valid.{between}
use Rattle.sequences.specs.Sequence.{State, Take, Sequence}
use Rattle.sequences.specs.Unrewritten.{KeepsHeld}
use Rattle.sequences.proofs.Invariant.{inv}
use Rattle.frontend.specs.declared.Gso.{Gso}
use Rattle.frontend.specs.Post.{type_given, packet_for, free_slots, slots_for, used_refs, post_packet}
use Rattle.frontend.specs.RoundTrip.{FitsRing, NotPast}
use Rattle.frontend.proofs.Shape.{packet_count, packet_for_lem}
use Rattle.frontend.proofs.Standing.{whole_packet, bytes_packet}
use Rattle.frontend.proofs.RoundTrip.{accepted, slots_count, free_fits}
use Rattle.publishing.specs.Publishing.{Publishes, PostPublishes}

-- the slots held are among those that are posted and not replied to
HeldPosted : State → Type 0
HeldPosted s = between s.consumed s.replied ≤ posted s.page s.replied

held_posted : (table window : List ℕ) (c : ℕ) (s : State) (takes : List Take) → Sequence table window c s takes → HeldPosted s
unfolding HeldPosted between posted
held_posted table window c s takes z =
    let t = (inv table window z).stands in
    let left = (inv table window z).left in
    let n : wsub (req_prod s.page) s.replied ≡ wsub s.consumed s.replied + length left
    = ap (λ (x : ℕ). wsub x s.replied) t.requests ∙ wsub_on s.consumed s.replied (length left) (omega (arith, t.few)) in
    omega arith

-- ---- the publication

module _ (s : State) (size : length s.page ≡ 4096) (o : Option Gso) (frame : List ℕ) (g : ℕ) (l : List ℕ) (few : length l ≤ 15) (bytes : Bytes s.page) (typed : type_given o < 256)
    (held : HeldPosted s) (fits : FitsRing (req_prod s.page) s.replied (length (packet_for (req_prod s.page) o (g ∷ l) frame))) where
  abbrev r : ℕ
  r = req_prod s.page

  abbrev p : List Slot
  p = packet_for r o (g ∷ l) frame

  publishes : Publishes s (with_posted 12 256 s.page p) p
  unfolding HeldPosted FitsRing between posted KeepsHeld
  publishes =
      let whole = whole_packet r o (g ∷ l) frame in
      let short : length p ≤ 256 = omega (arith, fits) in
      let behind : wsub r s.consumed ≡ wsub r s.replied - wsub s.consumed s.replied = posted_left r s.consumed s.replied held in
      record {
        published = record {
          size = posted_size 12 256 (omega arith) s.page (omega arith) p whole ∙ size;
          bytes = posted_bytes 12 256 (omega arith) s.page (omega arith) p whole bytes (bytes_packet r o (g ∷ l) frame typed);
          raised = posted_requests 12 256 (omega arith) s.page (omega arith) p whole;
          few = fits;
          kept = λ i h. posted_keeps 12 256 (omega arith) s.page (omega arith) p whole refl s.consumed i h (omega (arith, behind, fits));
        };
        keeps = λ i h. posted_keeps 12 256 (omega arith) s.page (omega arith) p whole refl s.replied i (omega (arith, held)) fits;
        joins = posted_slots 12 256 (omega arith) s.page (omega arith) p whole short;
        packet = packet_for_lem r o g l frame (omega arith);
      }

module _ (s : State) (size : length s.page ≡ 4096) (o : Option Gso) (frame : List ℕ) (long : 14 ≤ length frame) (small : length frame < 65536) (bytes : Bytes s.page) (typed : type_given o < 256)
    (held : HeldPosted s) (read : ℕ) (past : NotPast s.page read s.replied) (free : slots_for o (length frame) ≤ free_slots s.page read) where
  all : (u : List ℕ) → length u ≡ needed (length frame) → Publishes s (with_posted 12 256 s.page (packet_for (req_prod s.page) o u frame)) (packet_for (req_prod s.page) o u frame)
  all [] count = let x : length frame ≤ 4096 * needed (length frame) = needed_reach (length frame) in absurd (omega arith)
  all (g ∷ l) count =
      let x : 4096 * needed (length frame) ≤ length frame + 4095 = needed_cover (length frame) in
      let e : length (packet_for (req_prod s.page) o (g ∷ l) frame) ≡ slots_for o (length frame)
      = packet_count (req_prod s.page) o g l frame ∙ slots_count o (length frame) (suc (length l)) count in
      publishes s size o frame g l (omega arith) bytes typed held
      (free_fits s.page read s.replied (length (packet_for (req_prod s.page) o (g ∷ l) frame)) past (omega arith) (omega (arith, packet_count (req_prod s.page) o g l frame)))

pub post_publishes : PostPublishes
unfolding PostPublishes post_packet
post_publishes table window c s takes z table' window' read o refs frame bytes typed past h =
    let a = accepted table' s.page window' read o refs frame h in
    rw a.result
    (all s a.size o frame a.long a.small bytes typed (held_posted table window c s takes z) read past a.free (used_refs refs frame)
    (length-take (needed (length frame)) refs ∙ (omega (arith, a.enough))))
