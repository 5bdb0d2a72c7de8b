-- Which packets are held, told without records: the packets taken and not replied to, in the order of taking, each with how it ended. Replies leave
-- in that order, as far as finished ones reach. Then: which records are these packets'.
use Rattle.std.specs.Prelude.{◌≡◌, ◌⊎◌, true, false, cond, List, [], ◌∷◌, map, ℕ, length, eqb}
use Rattle.ring.specs.Ring.{wadd}
use Rattle.netif.specs.Slot.{Slot, okay}
use Rattle.grammar.specs.Grammar.{Packet, join_all}
use Rattle.held.specs.declared.Held.{Held}
use Rattle.held.specs.Records.{is_finished, record_at}

-- not finished yet, or finished with a status
pub data Fate : Type 0 where
  pending : Fate
  finally : ℕ → Fate

-- a packet taken, and its fate
pub record Entry : Type 0 where
  pub packet : List Slot
  pub fate : Fate

abbrev pub entry : List Slot → Fate → Entry
entry p f = record { packet = p; fate = f }

-- the packets of entries, and how many slots they have
abbrev pub packets_in : List Entry → List (List Slot)
packets_in es = map (λ (e : Entry). e.packet) es

abbrev pub slots_in : List Entry → ℕ
slots_in es = length (join_all (packets_in es))

-- the packet whose first slot has the counter `ticket` gets a status, the first entry's counter being c
abbrev pub marked : (c ticket status : ℕ) → List Entry → List Entry
marked c ticket status [] = []
marked c ticket status (e ∷ es) =
    cond (eqb c ticket)
    (entry e.packet (finally status) ∷ es)
    (e ∷ marked (wadd c (length e.packet)) ticket status es)

-- as far as finished ones reach: the entries that leave, and those that stay
abbrev pub on_fate : {A : Type 0} → Fate → A → A → A
on_fate pending w f = w
on_fate (finally status) w f = f

abbrev pub leaving : List Entry → List Entry
leaving [] = []
leaving (e ∷ es) = on_fate e.fate [] (e ∷ leaving es)

abbrev pub staying : List Entry → List Entry
staying [] = []
staying (e ∷ es) = on_fate e.fate (e ∷ es) (staying es)

-- the packet whose first slot has the counter `ticket` is in the ledger and waits, the first entry's counter being c
abbrev pub Waits : (c ticket : ℕ) → List Entry → Type 0
Waits c ticket [] = ⊥
Waits c ticket (e ∷ es) = ((c ≡ ticket) × (e.fate ≡ pending)) ⊎ Waits (wadd c (length e.packet)) ticket es

-- ---- and the records

-- a record says so: status 0 until finished
abbrev pub HasFate : Held → Fate → Type 0
HasFate x pending = (is_finished x ≡ false) × (x.status ≡ okay)
HasFate x (finally status) = (is_finished x ≡ true) × (x.status ≡ status)

-- the record x is the entry e's: it has the packet's counts, and its fate
pub record RecordOf (x : Held) (e : Entry) : Type 0 where
  pub packet : Packet e.packet
  pub slots : x.slots ≡ length e.packet
  pub extras : x.extras ≡ length packet.extras
  pub fate : HasFate x e.fate

-- records and entries, one each and in order
abbrev pub RecordsOf : List Held → List Entry → Type 0
RecordsOf [] [] = Unit {0}
RecordsOf [] (e ∷ es) = ⊥
RecordsOf (x ∷ xs) [] = ⊥
RecordsOf (x ∷ xs) (e ∷ es) = RecordOf x e × RecordsOf xs es

-- the entries' records stand in the list, each at the counter of its packet's first slot, from counter c on
abbrev pub HeldFrom : List Held → ℕ → List Entry → Type 0
HeldFrom l c [] = Unit {0}
HeldFrom l c (e ∷ es) = RecordOf (record_at l c) e × HeldFrom l (wadd c (length e.packet)) es
