-- Document 01, "Grants", with ranges of pages as request 8 has them: grant words and the pages of the guest's window. Only this crate
-- knows a grant word's size and meaning.
use Rattle.std.specs.Prelude.{List, Bool, ◌&&◌, ℕ, ◌+◌, ◌*◌, ◌/◌, length, take, drop, leb, eqb}
use Rattle.words.specs.Word.{u16_at, u32_at, splice, bit}

-- the bytes of a grant word: 32 bits, then the start and the length of the range granted, of 16 bits each
abbrev pub word_size : ℕ
word_size = 8

module _ (table : List ℕ) (g : ℕ) where
  -- whether reference g has a word
  unfoldable pub has_word : Bool
  has_word = leb (word_size * g + word_size) (length table)

  -- the word's 32 bits. Bit 0: granted; bit 1: writable; bits 2 to 31: the page number
  unfoldable pub word_bits : ℕ
  word_bits = u32_at table (word_size * g)

  unfoldable pub granted : Bool
  granted = bit 0 word_bits

  unfoldable pub writable : Bool
  writable = bit 1 word_bits

  unfoldable pub page_of : ℕ
  page_of = word_bits / 4

  -- the range granted of the page: its start, its length, and its end
  unfoldable pub range_start : ℕ
  range_start = u16_at table (word_size * g + 4)

  unfoldable pub range_length : ℕ
  range_length = u16_at table (word_size * g + 6)

  unfoldable pub range_end : ℕ
  range_end = range_start + range_length

  -- it lies in the page
  unfoldable pub range_in_page : Bool
  range_in_page = leb range_end 4096

  -- it is the whole page
  unfoldable pub whole_page : Bool
  whole_page = eqb range_start 0 && eqb range_length 4096

-- n bytes from an offset of the page lie within the range that reference g grants of it: cause 5 is that they do not
unfoldable pub in_range : List ℕ → ℕ → ℕ → ℕ → Bool
in_range table g offset n = leb (range_start table g) offset && leb (offset + n) (range_end table g)

-- page p is usable: it lies within the window
unfoldable pub usable : List ℕ → ℕ → Bool
usable window p = leb (4096 * p + 4096) (length window)

module _ (table window : List ℕ) (g : ℕ) where
  -- fit for transmit: it has a word, is granted, its range lies in the page and its page is usable
  unfoldable pub fit_transmit : Bool
  fit_transmit = has_word table g && granted table g && range_in_page table g && usable window (page_of table g)

  -- fit for receive: writable as well, and the whole page
  unfoldable pub fit_receive : Bool
  fit_receive = fit_transmit && (writable table g && whole_page table g)

-- n bytes from an offset of page p: a part of the window itself
unfoldable pub page_part : List ℕ → (p offset n : ℕ) → List ℕ
page_part window p offset n = take n (drop (4096 * p + offset) window)

-- the same of the page that reference g grants
abbrev pub window_part : (table window : List ℕ) (g offset n : ℕ) → List ℕ
window_part table window g offset n = page_part window (page_of table g) offset n

-- what reference g covers: the range granted, a part of the window itself
abbrev pub range_of : (table window : List ℕ) (g : ℕ) → List ℕ
range_of table window g = window_part table window g (range_start table g) (range_length table g)

-- the window with bytes written at offset 0 of page p
unfoldable pub with_page : List ℕ → (p : ℕ) (bytes : List ℕ) → List ℕ
with_page window p bytes = splice window (4096 * p) bytes
