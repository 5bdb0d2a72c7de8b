-- What an inspection of a list of held packets shows: whether it is valid (answer 17 if not), the first free record, and an index from a slot's
-- offset behind the counter of replies sent to the record that is held there.
use Rattle.std.specs.Prelude.{◌≡◌, ℕ, ◌+◌, ◌*◌, ◌<◌, ◌≤◌, true, ◌≢◌, List, Option, Some, is_some, length, get_or, slice_index, slice_index_or}
use Rattle.ring.specs.Ring.{wrap, wsub}
use Rattle.held.specs.declared.Held.{Held}
use Rattle.held.specs.Records.{is_status, in_use, free, vacancy}
use Rattle.held.specs.Valid.{most_records, between, each_held, is_count, covers, valid}
use Rattle.noting.specs.declared.Tally.{Tally}

-- the entry e of the index at offset o from counter r on, of the first i records: slots and place of the record that is held there; 0 if none is
pub data Stands (l : List Held) (r i o e : ℕ) : Type 0 where
  entered : (p : ℕ) → p < i → e ≡ (get_or l p free).slots * 256 + p → in_use (slice_index_or l p free) ≡ true → wsub (get_or l p free).ticket r ≡ o → Stands l r i o e
  empty : e ≡ 0 → ((j : ℕ) → j < i → in_use (slice_index_or l j free) ≡ true → wsub (get_or l j free).ticket r ≢ o) → Stands l r i o e

-- tickets are 32-bit numbers
unfoldable pub Tickets : List Held → Type 0
Tickets l = (j : ℕ) → (get_or l j free).ticket < wrap

-- a list and its index: at most 256 records, of which the held ones cover the n slots from counter r on and are sound, and the index has each
-- at its offset
pub record Indexed (n r : ℕ) (l : List Held) (index : List ℕ) : Type 0 where
  pub few : length l ≤ most_records
  pub covered : covers n r l ≡ true
  pub counts : each_held (λ x. is_count x.slots x.extras) l ≡ true
  pub statuses : each_held (λ x. is_status x.status) l ≡ true
  pub entries : (o : ℕ) → o < n → Stands l r (length l) o (slice_index index o)
  pub tickets : Tickets l

-- of a valid list: the first free record's place, or that all are in use; the slots between the counters, and the index
pub record Seen (consumed replied : ℕ) (l : List Held) (s : Tally) (index : List ℕ) : Type 0 where
  pub place : s.free ≡ vacancy l
  pub slots : s.slots ≡ between consumed replied
  pub indexed : Indexed s.slots replied l index

pub record Shown (consumed replied : ℕ) (l : List Held) (found : Option Tally) (index : List ℕ) : Type 0 where
  pub good : is_some found ≡ valid consumed replied l
  pub seen : (s : Tally) → found ≡ Some s → Seen consumed replied l s index
