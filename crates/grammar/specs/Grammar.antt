-- Document 01, "Packet grammar", with the limit of request 1, stated without the divider.
use Rattle.std.specs.Prelude.{◌≡◌, ◌≢◌, List, [], ◌∷◌, ◌++◌, Bool, true, false, not, ◌&&◌, ℕ, suc, ◌+◌, length, leb}
use Rattle.netif.specs.Slot.{Slot, more_data, extra_follows, is_extra, another_extra}

-- the limit of a packet: at most 18 data slots, and at most 4 extras
unfoldable pub within : ℕ → ℕ → Bool
within datas extras = leb datas 18 && leb extras 4

-- the most slots that it allows
abbrev pub most_slots : ℕ
most_slots = 18 + 4

-- one or more slots, each right, each but the last announcing another, the last announcing none
pub data Chain (right announces : Slot → Bool) : List Slot → Type 0 where
  final : {s : Slot} → right s ≡ true → announces s ≡ false → Chain right announces (s ∷ [])
  linked : {s : Slot} {l : List Slot} → right s ≡ true → announces s ≡ true → Chain right announces l → Chain right announces (s ∷ l)

-- such a chain exactly if it is owed, and else nothing
abbrev pub Owed : Bool → (right announces : Slot → Bool) → List Slot → Type 0
Owed true right announces l = Chain right announces l
Owed false right announces l = l ≡ []

-- a data slot after the first
abbrev pub is_later : Slot → Bool
is_later s = not (extra_follows s)

-- a packet: a first data slot, extras exactly if it says so, later data slots exactly if it says so, within the limit
pub record Packet (l : List Slot) : Type 0 where
  pub first : Slot
  pub extras : List Slot
  pub later : List Slot
  pub slots : l ≡ first ∷ (extras ++ later)
  pub extras_owed : Owed (extra_follows first) is_extra another_extra extras
  pub later_owed : Owed (more_data first) is_later more_data later
  pub limit : within (suc (length later)) (length extras) ≡ true

-- slots begin a packet if they are its first ones; properly if they are not all of it
unfoldable pub Begins : List Slot → Type 0
Begins l = (t : List Slot) × Packet (l ++ t)

unfoldable pub BeginsProperly : List Slot → Type 0
BeginsProperly l = (t : List Slot) × (t ≢ []) × Packet (l ++ t)

-- a packet of so many data slots and extras stands at the front of a list
pub record AtFront (l : List Slot) (datas extra_count : ℕ) : Type 0 where
  pub front : List Slot
  pub tail : List Slot
  pub joined : l ≡ front ++ tail
  pub packet : Packet front
  pub counts_data : suc (length packet.later) ≡ datas
  pub counts_extras : length packet.extras ≡ extra_count

-- no packet stands at the front
unfoldable pub NoneAtFront : List Slot → Type 0
NoneAtFront l = (p t : List Slot) → l ≡ p ++ t → Packet p → ⊥

-- misshapen: the list begins no packet, and none stands at its front
abbrev pub MisshapenFront : List Slot → Type 0
MisshapenFront l = (Begins l → ⊥) × NoneAtFront l

-- lists of slots laid end to end
abbrev pub join_all : List (List Slot) → List Slot
join_all [] = []
join_all (p ∷ ps) = p ++ join_all ps

-- each of them a packet
abbrev pub AllPackets : List (List Slot) → Type 0
AllPackets [] = Unit {0}
AllPackets (p ∷ ps) = Packet p × AllPackets ps

-- the division of a run into its leading packets and the rest
pub record Division (run : List Slot) (packets : List (List Slot)) (rest : List Slot) : Type 0 where
  pub joined : run ≡ join_all packets ++ rest
  pub each : AllPackets packets
  pub ends : NoneAtFront rest
