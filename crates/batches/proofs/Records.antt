-- A take uses at most one record, whatever it answers: a store to one changes the count of free ones by at most one, and replies that leave free
-- records. So a batch for which as many are free as packets are asked for finds one free before each of its takes.
use mathlib.Core.Path.{◌≡◌, refl, ap}
use mathlib.Core.Logic.{◌⊎◌, inl, inr, ⊎_elim}
use mathlib.Core.Bool.{Bool, true, false, not, cond, ◌&&◌}
use mathlib.Core.List.{List, [], ◌∷◌}
use Prim.Native.Nat.{ℕ, zero, suc, ◌+◌, ◌≤◌, ◌<◌}
use native.Mathlib.Omega.{arith}
use lib.ListN.{length, drop, get_or, set}
use lib.Seq.{set_out}
use Rattle.words.specs.Lists.{all}
use Rattle.words.proofs.Word.{lt_or_ge}
use Rattle.words.proofs.Lists.{sum_set}
use Rattle.ring.specs.Ring.{wadd}
use Rattle.answer.specs.Report.{flag}
use Rattle.held.specs.declared.Held.{Held}
use Rattle.held.specs.Records.{free, in_use, is_finished, full, place_at, record_at, waiting, ended, failed, first_free, added, freed}
use Rattle.held.specs.Valid.{between}
use Rattle.held.specs.Release.{nothing, firstly, release, settle}
use Rattle.held.proofs.Cover.{unused_free}
use Rattle.transmit.specs.declared.Queue.{Queue}
use Rattle.transmit.specs.Take.{TakeEffect, spoiled, handed_over, transmit_take}
use Rattle.batch.specs.Batch.{Progress, begun, listed, goes_on, next_take, batch}
use Rattle.batch.specs.Words.{BatchLeft}
use Rattle.batch.specs.Repeated.{WentOn}
use Rattle.batch.specs.Listed.{BatchRefusals}
use Rattle.batch.proofs.Taking.{take_cases}
use Rattle.batch.proofs.Repeated.{from_words}
use Rattle.batch.proofs.Listed.{batch_refusals}
use Rattle.sequences.specs.Sequence.{queue_at, Room}
use Rattle.batches.specs.BatchSequence.{start_at, BatchAt, free_records, RecordsSuffice}

abbrev is_free : Held → ℕ
is_free r = flag (not (in_use r))

small_flag : (b : Bool) → flag b ≤ 1
small_flag true = omega arith
small_flag false = omega arith

-- a store to a record
set_one : (l : List Held) (i : ℕ) (x : Held) → free_records l ≤ suc (free_records (set l i x))
set_one l i x = ⊎_elim
    (λ h. omega (arith, sum_set is_free free l i x h, small_flag (not (in_use (get_or l i free))), small_flag (not (in_use x))))
    (λ h. rw (set_out l i x h) (omega arith)) (lt_or_ge i (length l))

-- and of a free one
set_none : (l : List Held) (i : ℕ) → free_records l ≤ free_records (set l i free)
set_none l i =
    let f : is_free free ≡ 1 = ap (λ (b : Bool). flag (not b)) unused_free in
    ⊎_elim
    (λ h. omega (arith, sum_set is_free free l i free h, small_flag (not (in_use (get_or l i free)))))
    (λ h. rw (set_out l i free h) (omega arith)) (lt_or_ge i (length l))

release_none : (k r : ℕ) (l : List Held) → free_records l ≤ free_records (release k r l).list
unfolding freed
release_none zero r l = omega arith
release_none (suc k) r l = go (is_finished (record_at l r)) (release_none k (wadd r (record_at l r).slots) (freed l r))
  where
    go : (b : Bool) → free_records (freed l r) ≤ free_records (release k (wadd r (record_at l r).slots) (freed l r)).list
        → free_records l ≤ free_records (cond b (firstly (record_at l r) (release k (wadd r (record_at l r).slots) (freed l r))) (nothing r l)).list
    go true h = omega (arith, set_none l (place_at l r))
    go false h = omega arith

-- all are in use only if none is free
none_free : (l : List Held) → 0 < free_records l → full l ≡ false
unfolding full
none_free [] h = absurd (omega arith)
none_free (x ∷ l) h = go (in_use x) h (none_free l)
  where
    go : (b : Bool) → 0 < flag (not b) + free_records l → (0 < free_records l → all in_use l ≡ false) → b && all in_use l ≡ false
    go true k f = f (omega arith)
    go false k f = refl

module _ (table window : List ℕ) where
  take_one : (q : Queue) (page frame : List ℕ) (l : List Held) → free_records l ≤ suc (free_records (transmit_take table window q page frame l).list)
  unfolding handed_over spoiled added settle
  take_one q page frame l = take_cases table window q page frame l (λ (e : TakeEffect). free_records l ≤ suc (free_records e.list)) (λ n h. omega arith)
      (λ e p v w j r. set_one l (first_free l) (waiting q.consumed (length p) e))
      (λ e p c k v w.
      let x = ended q.consumed (length p) e failed in
      let m = wadd q.consumed (length p) in
      omega (arith, set_one l (first_free l) x, release_none (between m q.replied) q.replied (set l (first_free l) x)))

  batch_uses : (n : ℕ) (b : Progress) → free_records b.list ≤ n + free_records (batch table window n b).list
  batch_uses zero b = omega arith
  batch_uses (suc n) b =
      go (goes_on (next_take table window b).report.answer) (batch_uses n (listed b (next_take table window b)))
      (take_one b.queue b.page (drop b.filled b.frame) b.list)
    where
      go : (x : Bool) → free_records (next_take table window b).list ≤ n + free_records (batch table window n (listed b (next_take table window b))).list
          → free_records b.list ≤ suc (free_records (next_take table window b).list)
          → free_records b.list ≤ suc n + free_records (cond x (batch table window n (listed b (next_take table window b))) (listed b (next_take table window b))).list
      go true h k = omega arith
      go false h k = omega arith

pub records_suffice : RecordsSuffice
unfolding RecordsSuffice Room BatchRefusals
records_suffice table window s frame results most big free-ones = record { big = big; rooms = λ i h o y w d e f. none_free o.list (some i h o y w) }
  where
    some : (i : ℕ) → i < most → (o : BatchLeft) → BatchAt table window s frame results i o → WentOn o i → 0 < free_records o.list
    some i h o y w = ⊎_elim (λ short. refused (inl short)) (λ long. ⊎_elim (λ many. refused (inr many)) (λ few.
        (let k = from_words table window (start_at s frame) results i few long o y in
        omega (arith, ap free_records k.records, batch_uses table window i (begun (queue_at s) s.page frame s.list)))) (lt_or_ge 256 i)) (lt_or_ge (length results) i)
      where
        refused : (length results < i) ⊎ (256 < i) → 0 < free_records o.list
        refused r =
            let e = (batch_refusals table window (start_at s frame) results i o y).refused r in
            omega (arith, ap (λ (x : BatchLeft). free_records x.list) e)
