-- `runs::take` meets its contract. A slot that is written stands in the run, and those before it stay.
use Rattle.std.proofs.Common.{◌≡◌, ℕ, ◌+◌, ◌*◌, ◌<◌, ◌≤◌, List, length, take, drop, sym, ap, ◌∙◌, subst, arith, length-drop, length-take, get_or-drop, get_or-take, ext_get_or, below_none, below_more}
use Rattle.words.specs.Word.{splice}
use Rattle.words.proofs.Word.{splice_length, splice_before, splice_inside, part_same}
use Rattle.ring.specs.Ring.{wadd}
use Rattle.ring.proofs.Ring.{slot_length}
use Rattle.ring.proofs.Replied.{slot_ahead}
use Rattle.netif.specs.Slot.{slot_width, slot_count, transmit_slot}
use Rattle.division.specs.Run.{slot_in}
use Rattle.runs.specs.Stored.{Taken}
use Rattle.runs.proofs.take.Goals as goal

module _ (run s : List ℕ) (i : ℕ) (width : length s ≡ slot_width) (fits : slot_width * i + slot_width ≤ length run) where
  -- a slot that is written stands there, and those before it stay
  slot_here : slot_in (splice run (slot_width * i) s) i ≡ s
  unfolding slot_in
  slot_here =
      let h : slot_width * i + length s ≤ length run = omega arith in
      let next = splice run (slot_width * i) s in
      let e : length next ≡ length run = splice_length run (slot_width * i) s h in
      let w : length (take slot_width (drop (slot_width * i) next)) ≡ slot_width = simp (length-take, length-drop) (omega arith) in
      ext_get_or 0 (take slot_width (drop (slot_width * i) next)) s (omega arith)
      (λ j k. get_or-take slot_width (drop (slot_width * i) next) j 0 (omega arith) ∙ get_or-drop (slot_width * i) next j 0 ∙ splice_inside run (slot_width * i) s h j (omega arith))

  slot_there : (k : ℕ) → k < i → slot_in (splice run (slot_width * i) s) k ≡ slot_in run k
  unfolding slot_in
  slot_there k lt =
      let h : slot_width * i + length s ≤ length run = omega arith in
      part_same (splice run (slot_width * i) s) run (slot_width * k) slot_width (splice_length run (slot_width * i) s h) (λ j a b. splice_before run (slot_width * i) s h j (omega arith))

taken_none : (page : List ℕ) (from : ℕ) (run : List ℕ) → Taken page from 0 run
unfolding Taken
taken_none page from run = below_none _

taken_more : (page : List ℕ) (from i m : ℕ) (run : List ℕ) → 64 + slot_width * slot_count ≤ length page → slot_width * i + slot_width ≤ length run → m ≡ wadd from i
    → Taken page from i run → Taken page from (i + 1) (splice run (slot_width * i) (transmit_slot page m))
unfolding Taken
taken_more page from i m run big fits ahead all =
    let s = transmit_slot page m in
    let w = slot_length slot_width slot_count (omega arith) page big m in
    below_more _ i
    (λ k lt. slot_there run s i w fits k lt ∙ all k lt)
    (slot_here run s i w fits ∙ slot_ahead slot_width slot_count (omega arith) page from m i ahead)

taken-all : (page : List ℕ) (from i n : ℕ) (run : List ℕ) → n ≤ i → Taken page from i run → Taken page from n run
unfolding Taken
taken-all page from i n run h all k lt = all k (omega arith)

pub loop-k-init : goal.loop-k-init
loop-k-init c = taken_none _ _ _

pub put_bytes-requires : goal.put_bytes-requires
put_bytes-requires c = omega (arith, ap length c.slot-slot.ensures, slot_length slot_width slot_count (omega arith) c.args.page.now (omega arith) c.ahead.result)

pub loop-k-preserved : goal.loop-k-preserved
loop-k-preserved c = let a = c.args in
    let l = c.loop-k in
    let e = c.put_bytes.ensures ∙ ap (splice l.run (slot_width * l.k)) c.slot-slot.ensures in
    subst (Taken a.page.now a.from (l.k + 1)) (sym e) (taken_more a.page.now a.from l.k _ l.run (omega arith) (omega arith) c.ahead.ensures l.invariant)

pub returns : goal.returns
returns c = taken-all _ _ c.loop-k.k _ _ (omega arith) c.loop-k.invariant
