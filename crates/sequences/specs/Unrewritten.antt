-- Demand 3's premise that published slots are not rewritten, in full: the slots of held packets stay too. Then each reply has the id of the slot
-- that was taken.
use Rattle.std.specs.Prelude.{◌≡◌, List, [], ◌∷◌, ◌++◌, ℕ, ◌+◌, ◌<◌, length, get_or}
use Rattle.words.specs.Word.{splice}
use Rattle.ring.specs.Ring.{wadd}
use Rattle.netif.specs.Slot.{Slot, transmit_slot, transmit_slots}
use Rattle.grammar.specs.Grammar.{Packet, join_all}
use Rattle.grammar.specs.Service.{◌▹◌}
use Rattle.held.specs.Records.{failed}
use Rattle.held.specs.Valid.{between}
use Rattle.transmit.specs.Take.{waiting_slots}
use Rattle.transmit.specs.Words.{FinishLeft}
use Rattle.transmit.specs.Replied.{reply_at}
use Rattle.sequences.specs.Sequence.{State, Take, answer_of, FinishAt, Sequence, Next}
use Rattle.sequences.specs.Ledger.{finally, Entry, entry, packets_in, marked, leaving}
use Rattle.sequences.specs.Order.{took_packet, ledger_of}

-- the page of a publication has the slots of held packets as they were; those not consumed yet are so in each publication (`Published.kept`)
unfoldable pub KeepsHeld : State → (page : List ℕ) → Type 0
KeepsHeld s page =
    (i : ℕ) → i < between s.consumed s.replied → transmit_slot page (s.replied + i) ≡ transmit_slot s.page (s.replied + i)

module _ (table window : List ℕ) where
  -- a sequence each of whose publications does so
  abbrev pub Unrewritten : {c : ℕ} {s : State} {takes : List Take} → Sequence table window c s takes → Type 0
  Unrewritten (Sequence.fresh f) = Unit {0}
  Unrewritten (Sequence.publish {s} z page k u) = Unrewritten z × KeepsHeld s page
  Unrewritten (Sequence.takes z frame o big room leaves) = Unrewritten z
  Unrewritten (Sequence.finishes z ticket status o leaves) = Unrewritten z

-- the packets taken and not replied to stand on the page, unchanged, from the counter of replies sent to that of slots consumed
unfoldable pub HeldStand : Type 0
HeldStand =
    (table window : List ℕ) (c : ℕ) (s : State) (takes : List Take) (z : Sequence table window c s takes) → Unrewritten table window z
    → transmit_slots s.page s.replied (between s.consumed s.replied) ≡ join_all (packets_in (ledger_of table window z))

-- the ledger's slots are slots of the run, whatever is rewritten: the run is the slots of the packets replied to, then those of the ledger's packets, then
-- those that stand to be taken; the counter of replies sent is at the first of the ledger's
pub record RunOf (c : ℕ) (s : State) (es : List Entry) : Type 0 where
  pub gone : List (List Slot)
  pub joined : s.run ≡ join_all gone ++ join_all (packets_in es) ++ waiting_slots s.page s.consumed
  pub counter : s.replied ≡ wadd c (length (join_all gone))

unfoldable pub HeldOfRun : Type 0
HeldOfRun =
    (table window : List ℕ) (c : ℕ) (s : State) (takes : List Take) (z : Sequence table window c s takes) → RunOf c s (ledger_of table window z)

-- the entry's packet, which begins at counter c, is replied to on the page: each of its slots, as it was taken, has its reply in its first four bytes
-- and is unchanged in the others
pub record Answered (page : List ℕ) (c : ℕ) (e : Entry) : Type 0 where
  pub packet : Packet e.packet
  pub status : ℕ
  pub ended : e.fate ≡ finally status
  pub replies : (i : ℕ) → i < length e.packet
      → transmit_slot page (c + i) ≡ splice (get_or e.packet i []) 0 (reply_at (length packet.extras) i status (get_or e.packet i []))

-- so for entries one behind the other from counter c on
abbrev pub AllAnswered : (page : List ℕ) → ℕ → List Entry → Type 0
AllAnswered page c [] = Unit {0}
AllAnswered page c (e ∷ es) = Answered page c e × AllAnswered page (wadd c (length e.packet)) es

-- at every finish that is done, each slot of the packets that leave gets its reply: a data slot with the id that it had when it was taken and the status
-- that its packet was finished with, an extra with id 0 and status null
unfoldable pub StatedReplies : Type 0
StatedReplies =
    (table window : List ℕ) (c : ℕ) (s : State) (takes : List Take) (z : Sequence table window c s takes) → Unrewritten table window z
    → (ticket status : ℕ) (o : FinishLeft) → FinishAt s ticket status o → o.returned ≡ 0
    → AllAnswered o.page s.replied (leaving (marked s.replied ticket status (ledger_of table window z)))

-- at every take answered 7 likewise
unfoldable pub StatedSpoiled : Type 0
StatedSpoiled =
    (table window : List ℕ) (c : ℕ) (s : State) (takes : List Take) (z : Sequence table window c s takes) → Unrewritten table window z
    → (a : Take) → Next table window s a → answer_of a ≡ 7
    → AllAnswered a.left.page s.replied (leaving (ledger_of table window z ▹ entry (took_packet s a.left) (finally failed)))
