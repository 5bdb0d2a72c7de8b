-- Answer 17: what a list of held packets must be, between the counter of slots consumed and that of replies sent.
use Rattle.std.specs.Prelude.{List, Bool, not, ◌&&◌, ◌||◌, ℕ, ◌+◌, ◌-◌, length, ltb, leb, eqb}
use Rattle.words.specs.Lists.{all, below, sum_of}
use Rattle.ring.specs.Ring.{wadd, wsub}
use Rattle.netif.specs.Slot.{slot_count}
use Rattle.answer.specs.Report.{flag}
use Rattle.grammar.specs.Grammar.{within}
use Rattle.held.specs.declared.Held.{Held}
use Rattle.held.specs.Records.{is_status, in_use, is_finished, record_at}

-- the most records of a list
abbrev pub most_records : ℕ
most_records = 256

-- the slots between the two counters: taken and not replied to
unfoldable pub between : (consumed replied : ℕ) → ℕ
between consumed replied = wsub consumed replied

-- a test passed by each held record; free ones may hold anything
unfoldable pub each_held : (Held → Bool) → List Held → Bool
each_held f l = all (λ r. not (in_use r) || f r) l

-- slot counter c is one of the record's slots, counted from its ticket on
unfoldable pub owns : ℕ → Held → Bool
owns c r = ltb (wsub c r.ticket) r.slots

-- how many records of the list have it
unfoldable pub owners : List Held → ℕ → ℕ
owners l c = sum_of (λ r. flag (owns c r)) l

-- the held records cover exactly the n slots from counter r on, and n is at most 256: no record has a slot elsewhere, and each of
-- these slots belongs to exactly one record
unfoldable pub covers : (n r : ℕ) → List Held → Bool
covers n r l =
    leb n slot_count
    && (each_held (λ x. leb (wsub x.ticket r + x.slots) n) l
    && below n (λ i. eqb (owners l (wadd r i)) 1))

-- some packet has so many slots, so many of them extras
unfoldable pub is_count : (slots extras : ℕ) → Bool
is_count slots extras = ltb extras slots && within (slots - extras) extras

-- the oldest packet, which is held at the counter of replies sent, is not finished
unfoldable pub oldest_waits : ℕ → List Held → Bool
oldest_waits replied l = not (is_finished (record_at l replied))

-- a list that is not answered 17: at most 256 records, which cover the slots between the counters, with counts that a packet has, a status
-- among the three, and an oldest that is not finished
unfoldable pub valid : (consumed replied : ℕ) → List Held → Bool
valid consumed replied l =
    leb (length l) most_records
    && (covers (between consumed replied) replied l
    && (each_held (λ x. is_count x.slots x.extras) l
    && (each_held (λ x. is_status x.status) l
    && oldest_waits replied l)))
