-- Replies one by one, over the slot's width and the number of slots, as a loop writes them: the slots that are left meanwhile, and
-- that replies leave both sides' wishes for an event.
use Rattle.std.proofs.Common.{◌≡◌, ℕ, suc, ◌+◌, ◌-◌, ◌*◌, ◌%◌, ◌<◌, ◌≤◌, List, [], ◌∷◌, length, get_or, take, sym, refl, ap, ◌∙◌, add-one, arith, length-take-le, take-suc}
use Rattle.words.specs.Word.{splice}
use Rattle.words.proofs.Word.{u32_same}
use Rattle.ring.specs.Ring.{wrap, wadd, producer_at, with_producer, notify, slot_place, slot_at, slots_from, with_slots}
use Rattle.ring.specs.declared.Side.{Side}
use Rattle.ring.specs.declared.Side.TheVariants.{Replies}
use Rattle.ring.proofs.Facts.{producer_low, producer_leaves_slot}
use Rattle.ring.proofs.Ring.{slot_wrap, place_wrap, replies_more, Short, short_take, replies_length, replies_slot, replies_header, replies_here}

-- ---- the counter i slots on

module _ (w n : ℕ) (turn : wrap % n ≡ 0) (page : List ℕ) (first : ℕ) where
  pub slot_ahead : (m i : ℕ) → m ≡ wadd first i → slot_at w n page m ≡ slot_at w n page (first + i)
  unfolding wadd
  slot_ahead m i h = ap (slot_at w n page) h ∙ slot_wrap w n page (first + i) turn

  pub place_ahead : (m i : ℕ) → m ≡ wadd first i → slot_place w n m ≡ slot_place w n (first + i)
  unfolding wadd
  place_ahead m i h = ap (slot_place w n) h ∙ place_wrap w n (first + i) turn

  -- of count slots, the one i behind the first, and those behind it
  pub slots_ahead : (m i count : ℕ) → i < count → m ≡ wadd first i
      → slots_from w n page (first + i) (count - i) ≡ slot_at w n page m ∷ slots_from w n page (first + (i + 1)) (count - (i + 1))
  slots_ahead m i count k h =
      let z : count - i ≡ suc (count - (i + 1)) = omega arith in
      let p : first + (i + 1) ≡ suc (first + i) = omega arith in
      rw (z, p, slot_ahead m i h)

-- ---- replies one by one

module _ (w n : ℕ) (some : 0 < n) (turn : wrap % n ≡ 0) (page : List ℕ) (fits : 64 + w * n ≤ length page) (first : ℕ) (rs : List (List ℕ)) (short : Short w rs) (few : length rs ≤ n) where
  -- after i replies: the reply to the next request, made of that request as it stands then, is one more
  pub reply_next : (f : List ℕ → List ℕ) (m i : ℕ) (now next : List ℕ) → i < length rs → m ≡ wadd first i
      → get_or rs i [] ≡ f (slot_at w n page (first + i)) → now ≡ with_slots w n page first (take i rs)
      → next ≡ splice now (slot_place w n m) (f (slot_at w n now m)) → next ≡ with_slots w n page first (take (i + 1) rs)
  reply_next f m i now next h a g p q =
      let e : length (take i rs) ≡ i = length-take-le i rs (omega arith) in
      let stands : slot_at w n now m ≡ slot_at w n page (first + i)
      = slot_ahead w n turn now first m i a ∙ ap (λ (x : List ℕ). slot_at w n x (first + i)) p ∙ replies_slot w n some (take i rs) page first fits (short_take w rs i short) (first + i) (omega arith) (omega arith) in
      let b : f (slot_at w n now m) ≡ get_or rs i [] = ap f stands ∙ sym g in
      q
      ∙ rw (place_ahead w n turn page first m i a, b, p) refl
      ∙ sym (rw e at (replies_more w n (take i rs) page first (get_or rs i [])))
      ∙ rw (add-one i, take-suc rs i [] h)

-- with rsp_prod moved, reply j stands in the first bytes of its slot, and the slot's others stay
pub reply_stands : (w n : ℕ) → 0 < n → (page : List ℕ) → 64 + w * n ≤ length page → (first : ℕ) (rs : List (List ℕ)) → Short w rs → length rs ≤ n
    → (new j : ℕ) → j < length rs → (r : List ℕ) → get_or rs j [] ≡ r
    → slot_at w n (with_producer Replies (with_slots w n page first rs) new) (first + j) ≡ splice (slot_at w n page (first + j)) 0 r
reply_stands w n some page fits first rs short few new j h r e =
    let size : length (with_slots w n page first rs) ≡ length page = replies_length w n some rs page first fits short in
    producer_leaves_slot (with_slots w n page first rs) (omega arith) Replies new w n some (omega arith) (first + j)
    ∙ replies_here w n some rs page first fits short few j h
    ∙ ap (splice (slot_at w n page (first + j)) 0) e

-- what is written to slots leaves both sides' wishes for an event
pub notify_replied : (w n : ℕ) → 0 < n → (page : List ℕ) → 64 + w * n ≤ length page → (first : ℕ) (rs : List (List ℕ)) → Short w rs
    → (s : Side) (old new : ℕ) → notify s (with_slots w n page first rs) old new ≡ notify s page old new
unfolding notify
notify_replied w n some page fits first rs short s old new =
    rw (u32_same (with_slots w n page first rs) page (producer_at s + 4) (λ j a b. replies_header w n some rs page first fits short j (omega (arith, producer_low s))))
