-- The order in which replies leave: the ledger of a sequence, and what holds of it, of the records and of the ring page.
use Rattle.std.specs.Prelude.{◌≡◌, ◌≢◌, ◌↔◌, true, cond, List, [], ◌++◌, ℕ, length, take, eqb}
use Rattle.ring.specs.Ring.{wadd}
use Rattle.netif.specs.Slot.{Slot}
use Rattle.grammar.specs.Grammar.{join_all}
use Rattle.grammar.specs.Divide.{packets_of}
use Rattle.grammar.specs.Service.{◌▹◌, taken}
use Rattle.held.specs.declared.Held.{Held}
use Rattle.held.specs.Records.{is_status, slots_held, failed}
use Rattle.held.specs.Valid.{between}
use Rattle.transmit.specs.Take.{waiting_slots}
use Rattle.transmit.specs.Words.{TakeLeft, FinishLeft}
use Rattle.transmit.specs.Replied.{RepliedTo}
use Rattle.transmit.specs.Keeps.{slots_word}
use Rattle.sequences.specs.Sequence.{State, Take, answer_of, FinishAt, Sequence, Next, Took, Told}
use Rattle.sequences.specs.Ledger.{pending, finally, Entry, entry, packets_in, slots_in, marked, leaving, staying, Waits, RecordsOf, HeldFrom}

-- ---- the ledger

-- the slots that a take took, as they stood: as many as its report has
abbrev pub took_packet : State → TakeLeft → List Slot
took_packet s o = take (slots_word o.words) (waiting_slots s.page s.consumed)

-- the ledger after a take with this answer, which took the packet p if any: 0 adds a packet that waits, 7 one that is finished with error, and
-- what can leave leaves
abbrev pub ledger_taking : (answer : ℕ) → List Slot → List Entry → List Entry
ledger_taking answer p es =
    cond (eqb answer 0) (es ▹ entry p pending)
    (cond (eqb answer 7) (staying (es ▹ entry p (finally failed)))
    es)

-- and after a finish, the oldest entry being at counter c: 0 marks the ticket's packet, and what can leave leaves
abbrev pub ledger_finishing : (answer c ticket status : ℕ) → List Entry → List Entry
ledger_finishing answer c ticket status es = cond (eqb answer 0) (staying (marked c ticket status es)) es

module _ (table window : List ℕ) where
  -- the ledger of a sequence, by the answers, the slots taken, and the tickets and statuses finished
  abbrev pub ledger_of : {c : ℕ} {s : State} {takes : List Take} → Sequence table window c s takes → List Entry
  ledger_of (Sequence.fresh f) = []
  ledger_of (Sequence.publish z page k u) = ledger_of z
  ledger_of (Sequence.takes {s} z frame o big room leaves) = ledger_taking o.returned (took_packet s o) (ledger_of z)
  ledger_of (Sequence.finishes {s} z ticket status o leaves) = ledger_finishing o.returned s.replied ticket status (ledger_of z)

-- ---- the records are the ledger's

-- of the packets taken the first ones are replied to, the others are in the ledger, and the records are theirs
pub record Accounts (c consumed replied : ℕ) (l : List Held) (packets : List (List Slot)) (es : List Entry) : Type 0 where
  pub gone : List (List Slot)
  pub joined : packets ≡ gone ++ packets_in es
  pub counter : replied ≡ wadd c (length (join_all gone))
  pub slots : between consumed replied ≡ slots_in es
  pub records : HeldFrom l replied es

-- the packets that the takes of a sequence took
unfoldable pub packets_taken : (table window : List ℕ) → List Take → (run : List Slot) → List (List Slot)
packets_taken table window takes run = take (taken Take answer_of (Took table window) Told takes) (packets_of run)

-- so it is after every sequence
unfoldable pub InOrder : Type 0
InOrder =
    (table window : List ℕ) (c : ℕ) (s : State) (takes : List Take) (z : Sequence table window c s takes)
    → Accounts c s.consumed s.replied s.list (packets_taken table window takes s.run) (ledger_of table window z)

-- and no other records are held than the ledger's
unfoldable pub NoOthers : Type 0
NoOthers =
    (table window : List ℕ) (c : ℕ) (s : State) (takes : List Take) (z : Sequence table window c s takes) → slots_held s.list ≡ slots_in (ledger_of table window z)

-- ---- what leaves

-- replies to these entries' packets leave from counter c on: each slot has its reply, and nothing else on the page is changed but rsp_prod, which is
-- the new counter; the records are the entries'
pub record Replies (c : ℕ) (page : List ℕ) (es : List Entry) (new : ℕ) (after : List ℕ) : Type 0 where
  pub records : List Held
  pub theirs : RecordsOf records es
  pub counter : new ≡ wadd c (slots_in es)
  pub written : RepliedTo page c records new after

-- at every finish that is done, replies to the entries that can leave then do so, and the report has their slots
unfoldable pub RepliesLeave : Type 0
RepliesLeave =
    (table window : List ℕ) (c : ℕ) (s : State) (takes : List Take) (z : Sequence table window c s takes)
    (ticket status : ℕ) (o : FinishLeft) → FinishAt s ticket status o → o.returned ≡ 0
    → (let es = leaving (marked s.replied ticket status (ledger_of table window z)) in
    Replies s.replied s.page es o.replied o.page × (slots_word o.words ≡ slots_in es))

-- at every take answered 7 likewise
unfoldable pub SpoiledLeave : Type 0
SpoiledLeave =
    (table window : List ℕ) (c : ℕ) (s : State) (takes : List Take) (z : Sequence table window c s takes)
    (a : Take) → Next table window s a → answer_of a ≡ 7
    → Replies s.replied s.page (leaving (ledger_of table window z ▹ entry (took_packet s a.left) (finally failed))) a.left.replied a.left.page

-- a finish is done exactly if the ticket's packet waits and the status is one of the three; else it is answered 15
unfoldable pub FinishesDone : Type 0
FinishesDone =
    (table window : List ℕ) (c : ℕ) (s : State) (takes : List Take) (z : Sequence table window c s takes)
    (ticket status : ℕ) (o : FinishLeft) → FinishAt s ticket status o
    → ((o.returned ≡ 0) ↔ (Waits s.replied ticket (ledger_of table window z) × (is_status status ≡ true))) × (o.returned ≢ 0 → o.returned ≡ 15)
