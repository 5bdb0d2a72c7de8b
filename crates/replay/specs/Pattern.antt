-- The bytes that the program makes up, for windows and frames.
use Rattle.std.specs.Prelude.{◌≡◌, List, ℕ, ◌+◌, ◌%◌, ◌<◌}
use Rattle.words.specs.Word.{byte_at}

-- bytes that count up from a start, modulo 251: the first n of a list
unfoldable pub Counted : (start n : ℕ) → List ℕ → Type 0
Counted start n l = (i : ℕ) → i < n → byte_at l i ≡ (i + start) % 251
