-- What stands on the ring page after replies have left: slot by slot, in document 01's layout of a transmit reply.
use Rattle.std.specs.Prelude.{◌≡◌, ◌≢◌, ◌⊎◌, List, [], ◌∷◌, Bool, not, cond, ◌&&◌, ℕ, ◌+◌, ◌-◌, ◌*◌, ◌≤◌, ◌<◌, length, ltb, leb, eqb}
use Rattle.words.specs.Word.{byte_at, splice}
use Rattle.ring.specs.Ring.{rsp_prod}
use Rattle.netif.specs.Slot.{Slot, slot_width, slot_count, transmit_slot}
use Rattle.packet.specs.Judge.{data_reply, extra_reply}
use Rattle.held.specs.declared.Held.{Held}
use Rattle.held.specs.Records.{slots_held}

-- whether place i of a packet with so many extras is an extra's
abbrev pub extra_place : (extras i : ℕ) → Bool
extra_place extras i = not (eqb i 0) && leb i extras

-- the reply to the slot s at place i of such a packet: an extra gets id 0 and status null, a data slot its own id and the packet's status
abbrev pub reply_at : (extras i status : ℕ) → Slot → List ℕ
reply_at extras i status s = cond (extra_place extras i) (extra_reply s) (data_reply status s)

-- of packets one behind the other, by their records: the reply to the slot s, i slots behind the first slot
abbrev pub reply_of : List Held → ℕ → Slot → List ℕ
reply_of [] i s = []
reply_of (x ∷ gone) i s = cond (ltb i x.slots) (reply_at x.extras i x.status s) (reply_of gone (i - x.slots) s)

-- the page after replies to the packets of the records `gone`, which stand one behind the other from counter c on
pub record RepliedTo (page : List ℕ) (c : ℕ) (gone : List Held) (new : ℕ) (after : List ℕ) : Type 0 where
  pub size : length after ≡ length page
  -- each slot of these packets has its reply in its first four bytes, and its other eight stay
  pub slots : (i : ℕ) → i < slots_held gone → transmit_slot after (c + i) ≡ splice (transmit_slot page (c + i)) 0 (reply_of gone i (transmit_slot page (c + i)))
  -- every other slot stays
  pub others : (i : ℕ) → slots_held gone ≤ i → i < slot_count → transmit_slot after (c + i) ≡ transmit_slot page (c + i)
  -- rsp_prod is the new counter of replies sent
  pub published : gone ≢ [] → rsp_prod after ≡ new
  -- the rest of the header stays, and so do the bytes behind the slots
  pub header : (j : ℕ) → j < 64 → (j < 8) ⊎ (12 ≤ j) → byte_at after j ≡ byte_at page j
  pub behind : (j : ℕ) → 64 + slot_width * slot_count ≤ j → byte_at after j ≡ byte_at page j
  -- if nothing leaves, rsp_prod stays too
  pub nothing : gone ≡ [] → after ≡ page
