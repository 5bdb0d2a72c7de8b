-- Document 01, "Packet grammar": a packet taken apart. It is given as its slots p and the number e of its extras, which stand behind the first slot.
use Rattle.std.specs.Prelude.{List, [], ◌∷◌, ℕ, zero, suc, ◌+◌, take, drop, get_or}
use Rattle.netif.specs.Slot.{Slot, size, gso_size, gso_type}

-- the first data slot
abbrev pub first_of : List Slot → Slot
first_of p = get_or p 0 []

-- the extras
abbrev pub extras_of : ℕ → List Slot → List Slot
extras_of e p = take e (drop 1 p)

-- the data slots after the first
abbrev pub later_of : ℕ → List Slot → List Slot
later_of e p = drop (suc e) p

-- of several extras the last counts
abbrev pub last_extra : ℕ → List Slot → Slot
last_extra e p = get_or p e []

-- the sizes of data slots together
abbrev pub sizes : List Slot → ℕ
sizes [] = 0
sizes (s ∷ l) = size s + sizes l

-- the gso fields reported: the last extra's, and 0 without extras
abbrev pub gso_size_of : ℕ → List Slot → ℕ
gso_size_of zero p = 0
gso_size_of (suc e) p = gso_size (last_extra (suc e) p)

abbrev pub gso_type_of : ℕ → List Slot → ℕ
gso_type_of zero p = 0
gso_type_of (suc e) p = gso_type (last_extra (suc e) p)
