-- What is tested of one held record by itself.
use Rattle.std.specs.Prelude.{ℕ, ◌+◌, Bool, true, cond, ◌&&◌, ◌==◌, nat_le, nat_lt}
use Rattle.held.specs.declared.Held.{Held}
use Rattle.held.specs.Records.{is_status}
use Rattle.held.specs.Valid.{is_count}

-- a record at an offset from the counter of replies sent, where n slots lie between the counters: its slots lie within these, its counts are
-- a packet's, its status is one of the three, and the oldest is not finished
unfoldable pub fits_at : Held → (offset n : ℕ) → Bool
fits_at h offset n =
    nat_lt offset n
    && (nat_le (offset + h.slots) n
    && (is_count h.slots h.extras
    && (is_status h.status
    && cond (offset == 0) (h.finished == 0) true)))
