-- The run of a stored ring page.
use Rattle.std.specs.Prelude.{◌≡◌, ℕ, ◌+◌, ◌<◌, cond, List, nat_le}
use Rattle.ring.specs.Ring.{rsp_prod, posted}
use Rattle.netif.specs.Slot.{slot_count, transmit_slot}
use Rattle.division.specs.Run.{slot_in}

-- the first slots of a run are so many slots of a page, from a counter on
unfoldable pub Taken : List ℕ → (from slots : ℕ) → List ℕ → Type 0
Taken page from slots run = (k : ℕ) → k < slots → slot_in run k ≡ transmit_slot page (from + k)

-- the runs of a page: one, unless more slots are posted than a ring has
abbrev pub runs_of : List ℕ → ℕ
runs_of page = cond (nat_le (posted page (rsp_prod page)) slot_count) 1 0
