-- A packet by the place of each slot: slots that agree with a shape within the limit are a packet if they are as many as it has, and
-- a proper beginning if they are fewer; and slots that begin a packet agree with its shape.
use mathlib.Core.Path.{◌≡◌, refl, sym, ap, ◌∙◌}
use mathlib.Core.Logic.{◌≢◌, ⊎_elim}
use mathlib.Core.List.{List, [], ◌∷◌, ◌++◌, append-nil, append_assoc}
use mathlib.Core.Bool.{true}
use Prim.Native.Nat.{ℕ, suc, ◌+◌, ◌-◌, ◌≤◌, ◌<◌}
use native.Mathlib.Omega.{arith}
use lib.ListN.{length, take, drop, length-append, length-drop, length-take, take-append-drop, drop_of_length-le}
use lib.Seq.{length-take-le, take_at, drop_at, take_all, take-append-le, drop-append-le, take-append-add}
use lib.Dec.{ltb}
use Rattle.std.specs.Cmp.Derive.{both_true}
use Rattle.words.specs.Word.{bit, u16_at}
use Rattle.words.proofs.Word.{and_both, lt_or_ge}
use Rattle.words.proofs.Lists.{length_zero}
use Rattle.netif.specs.Slot.{Slot, flags, more_data, extra_follows, is_extra, another_extra}
use Rattle.grammar.specs.Grammar.{within, is_later, Packet, Begins, BeginsProperly}
use Rattle.grammar.proofs.Grammar.{packet_length}
use Rattle.division.specs.Shape.{alike, begun, follows, leads, shaped}
use Rattle.division.proofs.Chains.{alike_same, same_alike, begun_owed, owed_begun, begun_front, begun_join, owed_some, filling, filling_length, filling_begun}

-- ---- from a shape to a packet

module _ (d e : ℕ) (w : within (suc d) e ≡ true) where
  -- as many slots as the shape has
  pub shape_packet : (l : List Slot) → length l ≡ suc d + e → shaped d e l ≡ true → Packet l
  unfolding leads follows
  shape_packet [] n h = absurd (omega arith)
  shape_packet (s ∷ q) n h =
      let (a, b) = and_both (leads d e s) (follows d e q) h in
      let (x, m) = and_both (alike (extra_follows s) (ltb 0 e)) (alike (more_data s) (ltb 0 d)) a in
      let (f, g) = and_both (begun is_extra another_extra e 0 (take e q)) (begun is_later more_data d 0 (drop e q)) b in
      let extras : length (take e q) ≡ e = length-take-le e q (omega arith) in
      let later : length (drop e q) ≡ d = omega (arith, length-drop e q) in
      record {
        first = s;
        extras = take e q;
        later = drop e q;
        slots = ap (s ∷◌) (sym (take-append-drop e q));
        extras_owed = rw (alike_same (extra_follows s) (ltb 0 e) x) (begun_owed is_extra another_extra e (take e q) 0 f (omega arith));
        later_owed = rw (alike_same (more_data s) (ltb 0 d) m) (begun_owed is_later more_data d (drop e q) 0 g (omega arith));
        limit = rw (later, extras) w;
      }

-- ---- from a packet to its shape

pub packet_shape : {l : List Slot} (p : Packet l) → shaped (length p.later) (length p.extras) l ≡ true
unfolding leads follows
packet_shape {l} p =
    let xs = p.extras in
    let ys = p.later in
    rw (p.slots, take_at xs ys (length xs) refl, drop_at xs ys (length xs) refl)
    (both_true
    (both_true
    (same_alike (extra_follows p.first) (ltb 0 (length xs)) (owed_some is_extra another_extra (extra_follows p.first) xs p.extras_owed))
    (same_alike (more_data p.first) (ltb 0 (length ys)) (owed_some is_later more_data (more_data p.first) ys p.later_owed)))
    (both_true
    (owed_begun is_extra another_extra (length xs) (extra_follows p.first) xs p.extras_owed refl)
    (owed_begun is_later more_data (length ys) (more_data p.first) ys p.later_owed refl)))

-- the first of some slots that follow
follows_front : (d e : ℕ) (q t : List Slot) → follows d e (q ++ t) ≡ true → follows d e q ≡ true
unfolding follows
follows_front d e q t h =
    let (f, g) = and_both (begun is_extra another_extra e 0 (take e (q ++ t))) (begun is_later more_data d 0 (drop e (q ++ t))) h in
    ⊎_elim
    (λ k.
    let all : take e q ≡ q = take_all e q (omega arith) in
    let none : drop e q ≡ [] = drop_of_length-le q {i = e} (omega arith) in
    let z : e ≡ length q + (e - length q) = omega arith in
    let more : take e (q ++ t) ≡ q ++ take (e - length q) t = ap (λ n. take n (q ++ t)) z ∙ take-append-add q t (e - length q) in
    rw (all, none) (both_true (begun_front is_extra another_extra e q (take (e - length q) t) 0 (rw more at f)) refl))
    (λ k. both_true (rw (take-append-le e q t k) at f) (begun_front is_later more_data d (drop e q) t 0 (rw (drop-append-le e q t k) at g)))
    (lt_or_ge (length q) e)

shaped_front : (d e : ℕ) (l t : List Slot) → shaped d e (l ++ t) ≡ true → shaped d e l ≡ true
shaped_front d e [] t h = refl
shaped_front d e (s ∷ q) t h =
    let (a, b) = and_both (leads d e s) (follows d e (q ++ t)) h in
    both_true a (follows_front d e q t b)

-- slots that begin a packet agree with its shape
pub begins_shape : (l : List Slot) → Begins l → (d : ℕ) × (e : ℕ) × (within (suc d) e ≡ true) × (length l ≤ suc d + e) × (shaped d e l ≡ true)
unfolding Begins
begins_shape l b =
    let p = b.1 in (
      length p.later,
      length p.extras,
      p.limit,
      omega (arith, packet_length p, length-append l b.0),
      shaped_front (length p.later) (length p.extras) l b.0 (packet_shape p),
    )

-- ---- slots that are fewer than a shape has are made as many

-- an extra and a data slot that announce another, and that announce none
slot : ℕ → ℕ → ℕ → Slot
slot a b c = a ∷ b ∷ 0 ∷ 0 ∷ 0 ∷ 0 ∷ c ∷ 0 ∷ 0 ∷ 0 ∷ 0 ∷ 0 ∷ []

extras_filled : (n k j : ℕ) → j + k ≡ n → begun is_extra another_extra n j (filling (slot 1 1 0) (slot 1 0 0) k) ≡ true
unfolding slot is_extra another_extra bit
extras_filled n = filling_begun (slot 1 1 0) (slot 1 0 0) is_extra another_extra n refl refl refl refl

later_filled : (n k j : ℕ) → j + k ≡ n → begun is_later more_data n j (filling (slot 0 0 4) (slot 0 0 0) k) ≡ true
unfolding slot extra_follows more_data flags bit u16_at
later_filled n = filling_begun (slot 0 0 4) (slot 0 0 0) is_later more_data n refl refl refl refl

some_more : (t : List Slot) → 1 ≤ length t → t ≢ []
some_more t h z = omega (arith, ap length z)

module _ (d e : ℕ) (w : within (suc d) e ≡ true) where
  -- what is seen of the extras and of the later data slots, and what is missing of each; where extras are missing, no data was seen
  pub shape_begins : (l : List Slot) → 1 ≤ length l → length l < suc d + e → shaped d e l ≡ true → BeginsProperly l
  unfolding BeginsProperly leads follows
  shape_begins [] o n h = absurd (omega arith)
  shape_begins (s ∷ q) o n h =
      let (a, b) = and_both (leads d e s) (follows d e q) h in
      let (f, g) = and_both (begun is_extra another_extra e 0 (take e q)) (begun is_later more_data d 0 (drop e q)) b in
      let xs = filling (slot 1 1 0) (slot 1 0 0) (e - length q) in
      let ys = filling (slot 0 0 4) (slot 0 0 0) (d - (length q - e)) in
      let x : length xs ≡ e - length q = filling_length (slot 1 1 0) (slot 1 0 0) (e - length q) in
      let y : length ys ≡ d - (length q - e) = filling_length (slot 0 0 4) (slot 0 0 0) (d - (length q - e)) in
      let extras : length (take e q ++ xs) ≡ e = omega (arith, length-append (take e q) xs, length-take e q) in
      let later : length (drop e q ++ ys) ≡ d = omega (arith, length-append (drop e q) ys, length-drop e q) in
      let f' : begun is_extra another_extra e 0 (take e q ++ xs) ≡ true
      = begun_join is_extra another_extra e (take e q) xs 0 f (extras_filled e (e - length q) (0 + length (take e q)) (omega (arith, length-take e q))) in
      let g' : begun is_later more_data d 0 (drop e q ++ ys) ≡ true
      = begun_join is_later more_data d (drop e q) ys 0 g (later_filled d (d - (length q - e)) (0 + length (drop e q)) (omega (arith, length-drop e q))) in
      let p = shape_packet d e w (s ∷ ((take e q ++ xs) ++ (drop e q ++ ys)))
      (omega (arith, length-append (take e q ++ xs) (drop e q ++ ys)))
      (rw (take_at (take e q ++ xs) (drop e q ++ ys) e extras, drop_at (take e q ++ xs) (drop e q ++ ys) e extras) (both_true a (both_true f' g'))) in
      (xs ++ ys, some_more (xs ++ ys) (omega (arith, length-append xs ys)), rw (regroup q xs ys x) p)
    where
      regroup : (q xs ys : List Slot) → length xs ≡ e - length q → q ++ (xs ++ ys) ≡ (take e q ++ xs) ++ (drop e q ++ ys)
      regroup q xs ys x = ⊎_elim
          (λ k.
          let all : take e q ≡ q = take_all e q (omega arith) in
          let none : drop e q ≡ [] = drop_of_length-le q {i = e} (omega arith) in
          rw (all, none) (sym (append_assoc q xs ys)))
          (λ k.
          let none : xs ≡ [] = length_zero xs (omega arith) in
          rw (none, append-nil (take e q)) (ap (◌++ ys) (sym (take-append-drop e q)) ∙ append_assoc (take e q) (drop e q) ys))
          (lt_or_ge (length q) e)
