-- Document 01, "Slot layouts": the fields of slots, as functions of their bytes, and the bytes of replies.
use Rattle.std.specs.Prelude.{List, ◌++◌, Bool, ℕ, eqb}
use Rattle.words.specs.Word.{byte_at, u16_at, u32_at, u16_bytes, bit}
use Rattle.ring.specs.Ring.{slot_at, slots_from}

-- the transmit ring's slots, and the receive ring's: their width in bytes and their number
abbrev pub slot_width : ℕ
slot_width = 12

abbrev pub slot_count : ℕ
slot_count = 256

abbrev pub request_width : ℕ
request_width = 8

abbrev pub request_count : ℕ
request_count = 256

-- a slot is its bytes
abbrev pub Slot : Type 0
Slot = List ℕ

-- slot n of the transmit ring, and of the receive ring; and the k slots from slot n on
abbrev pub transmit_slot : (page : List ℕ) (n : ℕ) → Slot
transmit_slot page n = slot_at slot_width slot_count page n

abbrev pub transmit_slots : (page : List ℕ) (n k : ℕ) → List Slot
transmit_slots page n k = slots_from slot_width slot_count page n k

abbrev pub receive_slot : (page : List ℕ) (n : ℕ) → Slot
receive_slot page n = slot_at request_width request_count page n

abbrev pub receive_slots : (page : List ℕ) (n k : ℕ) → List Slot
receive_slots page n k = slots_from request_width request_count page n k

-- a data slot: gref at byte 0, offset at 4, flags at 6, id at 8, size at 10
unfoldable pub gref : Slot → ℕ
gref s = u32_at s 0

unfoldable pub offset : Slot → ℕ
offset s = u16_at s 4

unfoldable pub flags : Slot → ℕ
flags s = u16_at s 6

unfoldable pub ident : Slot → ℕ
ident s = u16_at s 8

unfoldable pub size : Slot → ℕ
size s = u16_at s 10

-- its flags: bit 0 checksum blank, 1 data validated, 2 more data, 3 extra follows
unfoldable pub checksum_blank : Slot → Bool
checksum_blank s = bit 0 (flags s)

unfoldable pub data_validated : Slot → Bool
data_validated s = bit 1 (flags s)

unfoldable pub more_data : Slot → Bool
more_data s = bit 2 (flags s)

unfoldable pub extra_follows : Slot → Bool
extra_follows s = bit 3 (flags s)

-- an extra: type 1 at byte 0, flags at 1 with bit 0 for another extra, gso size at 2, gso type at 4
unfoldable pub is_extra : Slot → Bool
is_extra s = eqb (byte_at s 0) 1

unfoldable pub another_extra : Slot → Bool
another_extra s = bit 0 (byte_at s 1)

unfoldable pub gso_size : Slot → ℕ
gso_size s = u16_at s 2

unfoldable pub gso_type : Slot → ℕ
gso_type s = byte_at s 4

-- statuses, as 16-bit two's complement: okay 0, error -1, null 1 for extras
abbrev pub okay : ℕ
okay = 0

abbrev pub error : ℕ
error = 65535

abbrev pub null : ℕ
null = 1

-- a transmit reply: id and status, 4 bytes; the slot's other bytes stay
unfoldable pub transmit_reply : ℕ → ℕ → List ℕ
transmit_reply i status = u16_bytes i ++ u16_bytes status

-- a receive request: id at byte 0, gref at 4
unfoldable pub request_ident : Slot → ℕ
request_ident s = u16_at s 0

unfoldable pub request_gref : Slot → ℕ
request_gref s = u32_at s 4

-- its reply: id, offset, flags and status, all 8 bytes
unfoldable pub receive_reply : ℕ → ℕ → ℕ → ℕ → List ℕ
receive_reply i off fl status = u16_bytes i ++ u16_bytes off ++ u16_bytes fl ++ u16_bytes status
