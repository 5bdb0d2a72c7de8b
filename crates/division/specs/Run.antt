-- A run of slots in memory: 12 bytes a slot, end to end.
use Rattle.std.specs.Prelude.{List, [], ◌∷◌, ℕ, zero, suc, ◌*◌, ◌/◌, length, take, drop}
use Rattle.netif.specs.Slot.{Slot, slot_width}

-- slot i
unfoldable pub slot_in : List ℕ → ℕ → Slot
slot_in bytes i = take slot_width (drop (slot_width * i) bytes)

-- the k slots from slot i on
abbrev pub slots_in : List ℕ → ℕ → ℕ → List Slot
slots_in bytes i zero = []
slots_in bytes i (suc k) = slot_in bytes i ∷ slots_in bytes (suc i) k

-- all of them
abbrev pub run_of : List ℕ → List Slot
run_of bytes = slots_in bytes 0 (length bytes / slot_width)
