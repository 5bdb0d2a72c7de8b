-- Where the index has a ticket.
use Rattle.std.specs.Prelude.{ℕ, ◌%◌, cond, List, Option, None, Some, ◌==◌, nat_le, slice_index}

-- the place that an index has at an offset, of n slots; none if it has none
unfoldable pub place_in : (index : List ℕ) (offset n : ℕ) → Option ℕ
place_in index offset n =
    cond (nat_le n offset) None (cond (slice_index index offset == 0) None (Some (slice_index index offset % 256)))
