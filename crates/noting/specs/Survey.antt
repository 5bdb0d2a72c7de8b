-- The code's way to an inspection, in linear time: a pass over the records that enters each held one in the index and adds up their slots, and a
-- walk along the index. `proofs/Judging.antt` has it that both succeed exactly if the list is valid.
use Rattle.std.specs.Prelude.{ℕ, Option, None, Some, zero, suc, ◌+◌, ◌*◌, ◌/◌, Bool, true, false, cond, ◌&&◌, List, [], ◌∷◌, ◌==◌, nat_le, nat_lt, slice_index, slice_set}
use Rattle.std.specs.Option.{option_or}
use Rattle.ring.specs.Ring.{wsub}
use Rattle.netif.specs.Slot.{slot_count}
use Rattle.held.specs.declared.Held.{Held}
use Rattle.held.specs.Valid.{most_records}
use Rattle.fitting.specs.Fits.{fits_at}
use Rattle.noting.specs.declared.Tally.{Tally}

-- at most 256 records, and at most 256 slots between the counters
abbrev pub within_limits : (records slots : ℕ) → Bool
within_limits records slots = nat_le records most_records && nat_le slots slot_count

-- a tally, none of a list that is refused; and an index
pub record Found : Type 0 where
  pub tally : Option Tally
  pub index : List ℕ

abbrev pub made : Option Tally → List ℕ → Found
made t index = record { tally = t; index = index }

-- the place of the first free record, if the list is not refused and one is free
abbrev pub free_in : Option Tally → Option ℕ
free_in None = None
free_in (Some s) = s.free

-- ---- a pass over the records

-- before the first record
abbrev pub unread : Tally
unread = record { free = None; slots = 0 }

-- a free record at place i: noted if it is the first
unfoldable pub noted_free : ℕ → Tally → Tally
noted_free i s = record { free = option_or s.free (Some i); slots = s.slots }

-- a held one: its slots and its place are entered at its offset
unfoldable pub noted_held : ℕ → Held → (offset : ℕ) → Tally → List ℕ → Found
noted_held i h o s index =
    made (Some (record { free = s.free; slots = s.slots + h.slots }))
    (slice_set index o (h.slots * 256 + i))

-- one that does not fit, or is held at an offset where another is: refused
unfoldable pub noted : ℕ → Held → (replied n : ℕ) → Tally → List ℕ → Found
noted i h replied n s index =
    cond (h.slots == 0) (made (Some (noted_free i s)) index)
    (cond (fits_at h (wsub h.ticket replied) n && slice_index index (wsub h.ticket replied) == 0)
    (noted_held i h (wsub h.ticket replied) s index)
    (made None index))

-- no more is noted of a list that is refused
abbrev pub noted_on : ℕ → Held → (replied n : ℕ) → Option Tally → List ℕ → Found
noted_on i h replied n None index = made None index
noted_on i h replied n (Some s) index = noted i h replied n s index

-- the records from place i on
abbrev pub noted_from : ℕ → List Held → (replied n : ℕ) → Found → Found
noted_from i [] replied n f = f
noted_from i (h ∷ l) replied n f = noted_from (suc i) l replied n (noted_on i h replied n f.tally f.index)

unfoldable pub surveyed : List Held → (replied n : ℕ) → (index : List ℕ) → Found
surveyed l replied n index = noted_from 0 l replied n (made (Some unread) index)

-- ---- the walk along the index

-- from an offset on a record is held where the one before ends, up to slot n; at most k records
abbrev pub chained : (k : ℕ) → List ℕ → (n offset : ℕ) → Bool
chained zero index n o = true
chained (suc k) index n o =
    cond (nat_lt o n)
    (cond (nat_lt (slice_index index o) 256) false (chained k index n (o + slice_index index o / 256)))
    true

unfoldable pub chain_of : List ℕ → (n : ℕ) → Bool
chain_of index n = chained 256 index n 0

-- as many slots are held as lie between the counters, and the walk finds no gap: each of these is held once
unfoldable pub confirmed : Tally → List ℕ → (n : ℕ) → Option Tally
confirmed s index n = cond (s.slots == n && chain_of index n) (Some s) None
