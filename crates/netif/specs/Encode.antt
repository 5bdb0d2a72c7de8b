-- Document 01, "Slot layouts", from the fields to the bytes: what a guest puts into a slot. Pad, features and unused bytes are 0.
use Rattle.std.specs.Prelude.{[], ◌∷◌, ◌++◌}
use Rattle.words.specs.Word.{u16_bytes, u32_bytes}
use Rattle.netif.specs.Slot.{Slot}
use Rattle.netif.specs.declared.DataSlot.{DataSlot}
use Rattle.netif.specs.declared.Extra.{Extra}
use Rattle.netif.specs.declared.Request.{Request}

-- a data slot: gref, offset, flags, id, size
unfoldable pub data_bytes : DataSlot → Slot
data_bytes d = u32_bytes d.gref ++ u16_bytes d.offset ++ u16_bytes d.flags ++ u16_bytes d.id ++ u16_bytes d.size

-- an extra: type, flags, gso size, gso type; pad, features, unused
unfoldable pub extra_bytes : Extra → Slot
extra_bytes x = (x.kind ∷ x.flags ∷ []) ++ u16_bytes x.gso_size ++ (x.gso_type ∷ 0 ∷ 0 ∷ 0 ∷ 0 ∷ 0 ∷ 0 ∷ 0 ∷ [])

-- a receive request: id, unused, gref
unfoldable pub request_bytes : Request → Slot
request_bytes r = u16_bytes r.id ++ (0 ∷ 0 ∷ []) ++ u32_bytes r.gref
