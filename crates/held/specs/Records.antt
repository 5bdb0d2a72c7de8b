-- Request 3, the records of held packets: `Held` in src/lib.rt is one, and a list of them is lent. What a record says, and how a list is changed:
-- a packet is added, finished, and freed when its replies leave.
use Rattle.std.specs.Prelude.{List, Bool, cond, not, ◌&&◌, ◌||◌, ℕ, Option, None, Some, get_or, set, eqb}
use Rattle.words.specs.Lists.{all, place_of, sum_of}
use Rattle.netif.specs.Slot.{okay}
use Rattle.held.specs.declared.Held.{Held}

-- the statuses that a packet can be finished with, as 32-bit two's complement: okay 0, error -1, dropped -2. A reply carries their low 16 bits
abbrev pub failed : ℕ
failed = 4294967295

abbrev pub dropped : ℕ
dropped = 4294967294

abbrev pub is_status : ℕ → Bool
is_status x = eqb x okay || (eqb x failed || eqb x dropped)

-- a record is free exactly if its slot count is 0, whatever its other words are, and else in use
unfoldable pub in_use : Held → Bool
in_use r = not (eqb r.slots 0)

-- a zeroed record: a freed one
abbrev pub free : Held
free = record { ticket = 0; slots = 0; extras = 0; status = 0; finished = 0 }

-- finished: any number but 0
unfoldable pub is_finished : Held → Bool
is_finished r = not (eqb r.finished 0)

-- all records are in use; all of them are free
unfoldable pub full : List Held → Bool
full l = all in_use l

unfoldable pub all_free : List Held → Bool
all_free l = all (λ r. not (in_use r)) l

-- the slots of held packets
abbrev pub slots_held : List Held → ℕ
slots_held l = sum_of (λ r. r.slots) l

-- the place of the first record that is held with a ticket, and that record: past the end and a zeroed one, if none is
unfoldable pub place_at : List Held → ℕ → ℕ
place_at l ticket = place_of (λ r. in_use r && eqb r.ticket ticket) l

unfoldable pub record_at : List Held → ℕ → Held
record_at l ticket = get_or l (place_at l ticket) free

-- a packet that waits to be finished has status 0; and one that is finished with a status
abbrev pub waiting : (ticket slots extras : ℕ) → Held
waiting ticket slots extras = record { ticket = ticket; slots = slots; extras = extras; status = okay; finished = 0 }

abbrev pub ended : (ticket slots extras status : ℕ) → Held
ended ticket slots extras status = record { ticket = ticket; slots = slots; extras = extras; status = status; finished = 1 }

-- the first free record is taken for a packet
unfoldable pub first_free : List Held → ℕ
first_free l = place_of (λ r. not (in_use r)) l

-- its place, if there is one
unfoldable pub vacancy : List Held → Option ℕ
vacancy l = cond (full l) None (Some (first_free l))

unfoldable pub added : List Held → Held → List Held
added l r = set l (first_free l) r

-- a ticket can be finished exactly if it is held and not finished yet; its record then has the status, and keeps its counts
unfoldable pub can_finish : List Held → (ticket : ℕ) → Bool
can_finish l ticket = in_use (record_at l ticket) && not (is_finished (record_at l ticket))

unfoldable pub finish : List Held → (ticket status : ℕ) → List Held
finish l ticket status = set l (place_at l ticket) (ended ticket (record_at l ticket).slots (record_at l ticket).extras status)

-- the record of a ticket is freed
unfoldable pub freed : List Held → (ticket : ℕ) → List Held
freed l ticket = set l (place_at l ticket) free
