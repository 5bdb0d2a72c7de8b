-- Slots that a guest posts: written whole from req_prod on, and req_prod behind them. Each stands in its place, the slots before req_prod
-- stay as far as one turn of the ring, and so does the backend's wish for an event. A counter before req_prod and the slots posted behind
-- it lead to req_prod, so what is written there is what is written from their sum on, which `replies_slot` speaks of.
use Rattle.std.proofs.Common.{◌≡◌, ℕ, zero, suc, ◌+◌, ◌*◌, ◌%◌, ◌<◌, ◌≤◌, List, [], ◌∷◌, length, get_or, sym, refl, ap, ◌∙◌, add-zero, arith}
use native.Mathlib.Nat.{add-mod_right, mod-mod_of_dvd, dvd_of_mod-eq-zero, suc-mod}
use Rattle.words.specs.Word.{Bytes, u32_bytes, splice}
use Rattle.words.proofs.Word.{splice_all, splice_length, bytes_spliced, bytes_u32}
use Rattle.ring.specs.Ring.{wrap, wadd, wsub, req_prod, posted, with_producer, notify, slot_place, slot_at, slots_from, with_slots, with_posted}
use Rattle.ring.specs.declared.Side.TheVariants.{Requests}
use Rattle.ring.proofs.Ring.{Short, place_fits, slot_mod, slot_length, replies_length, replies_here, replies_slot}
use Rattle.ring.proofs.Facts.{producer_leaves_size, producer_leaves_slot, producer_read_back, notify_moved}
use Rattle.ring.proofs.Replied.{notify_replied}
use Rattle.ring.proofs.Standing.{EachBytes}

-- ---- whole slots

abbrev pub Whole : ℕ → List (List ℕ) → Type 0
Whole w [] = Unit {0}
Whole w (s ∷ l) = (length s ≡ w) × Whole w l

pub whole_short : (w : ℕ) (l : List (List ℕ)) → Whole w l → Short w l
whole_short w [] h = tt
whole_short w (s ∷ l) h = (omega (arith, h.0), whole_short w l h.1)

whole_at : (w : ℕ) (l : List (List ℕ)) → Whole w l → (j : ℕ) → j < length l → length (get_or l j []) ≡ w
whole_at w [] h j k = absurd (omega arith)
whole_at w (s ∷ l) h zero k = h.0
whole_at w (s ∷ l) h (suc j) k = whole_at w l h.1 j (omega arith)

module _ (w n : ℕ) where
  -- slots that stand one by one
  pub slots_of : (page : List ℕ) (c : ℕ) (l : List (List ℕ)) → ((j : ℕ) → j < length l → slot_at w n page (c + j) ≡ get_or l j []) → slots_from w n page c (length l) ≡ l
  slots_of page c [] f = refl
  slots_of page c (s ∷ l) f =
      let a : slot_at w n page c ≡ s = (let z : c + 0 ≡ c = add-zero c in rw z at (f 0 (omega arith))) in
      let b : slots_from w n page (suc c) (length l) ≡ l = slots_of page (suc c) l (λ j k. ap (slot_at w n page) (omega arith) ∙ f (suc j) (omega arith)) in
      cc

  -- counters that have one remainder write to the same slots
  place_mod : (i j : ℕ) → i % n ≡ j % n → slot_place w n i ≡ slot_place w n j
  unfolding slot_place
  place_mod i j h = rw h

  replies_mod : (rs : List (List ℕ)) (page : List ℕ) (i j : ℕ) → i % n ≡ j % n → with_slots w n page i rs ≡ with_slots w n page j rs
  replies_mod [] page i j h = refl
  replies_mod (r ∷ rs) page i j h =
      replies_mod rs (splice page (slot_place w n i) r) (suc i) (suc j) (suc-mod i n ∙ ap (λ (x : ℕ). suc x % n) h ∙ sym (suc-mod j n))
      ∙ ap (λ (x : ℕ). with_slots w n (splice page x r) (suc j) rs) (place_mod i j h)

  pub replies_wadd : wrap % n ≡ 0 → (rs : List (List ℕ)) (page : List ℕ) (c i : ℕ) → with_slots w n page (wadd c i) rs ≡ with_slots w n page (c + i) rs
  unfolding wadd
  replies_wadd turn rs page c i = replies_mod rs page ((c + i) % wrap) (c + i) (mod-mod_of_dvd n (c + i) (dvd_of_mod-eq-zero n turn))

-- a counter, and what is posted behind it, lead to req_prod
leads : (r c : ℕ) → (c + wsub r c) % wrap ≡ r % wrap
unfolding wsub
leads r c = omega arith

-- ---- slots posted

module _ (w n : ℕ) (some : 0 < n) (page : List ℕ) (fits : 64 + w * n ≤ length page) (l : List (List ℕ)) (whole : Whole w l) where
  abbrev written : List ℕ
  written = with_slots w n page (req_prod page) l

  written_length : length written ≡ length page
  written_length = replies_length w n some l page (req_prod page) fits (whole_short w l whole)

  header : 64 ≤ length written
  header = omega (arith, written_length)

  pub posted_size : length (with_posted w n page l) ≡ length page
  unfolding with_posted
  posted_size = producer_leaves_size written header Requests (wadd (req_prod page) (length l)) ∙ written_length

  pub posted_requests : req_prod (with_posted w n page l) ≡ wadd (req_prod page) (length l)
  unfolding with_posted wadd
  posted_requests = producer_read_back written header Requests (wadd (req_prod page) (length l)) ∙ (omega arith)

  pub posted_notify : (old new : ℕ) → notify Requests (with_posted w n page l) old new ≡ notify Requests page old new
  unfolding with_posted
  posted_notify old new =
      notify_moved written header Requests (wadd (req_prod page) (length l)) old new
      ∙ notify_replied w n some page fits (req_prod page) l (whole_short w l whole) Requests old new

  header_stays : (j : ℕ) → slot_at w n (with_posted w n page l) j ≡ slot_at w n written j
  unfolding with_posted
  header_stays j = producer_leaves_slot written header Requests (wadd (req_prod page) (length l)) w n some (omega (arith, written_length)) j

  -- each stands in its place
  pub posted_slot : length l ≤ n → (j : ℕ) → j < length l → slot_at w n (with_posted w n page l) (req_prod page + j) ≡ get_or l j []
  posted_slot few j h =
      header_stays (req_prod page + j)
      ∙ replies_here w n some l page (req_prod page) fits (whole_short w l whole) few j h
      ∙ splice_all (slot_at w n page (req_prod page + j)) (get_or l j []) (slot_length w n some page fits (req_prod page + j) ∙ sym (whole_at w l whole j h))

  pub posted_slots : length l ≤ n → slots_from w n (with_posted w n page l) (req_prod page) (length l) ≡ l
  posted_slots few = slots_of w n (with_posted w n page l) (req_prod page) l (posted_slot few)

  -- those that were posted behind a counter stay, if all of them fit on the ring
  pub posted_keeps : wrap % n ≡ 0 → (c i : ℕ) → i < posted page c → posted page c + length l ≤ n → slot_at w n (with_posted w n page l) (c + i) ≡ slot_at w n page (c + i)
  unfolding posted
  posted_keeps turn c i h few =
      let k = wsub (req_prod page) c in
      let there : req_prod page % n ≡ (c + k) % n
      = sym (mod-mod_of_dvd n (req_prod page) (dvd_of_mod-eq-zero n turn)) ∙ ap (◌% n) (sym (leads (req_prod page) c)) ∙ mod-mod_of_dvd n (c + k) (dvd_of_mod-eq-zero n turn) in
      let same : written ≡ with_slots w n page (c + k) l = replies_mod w n l page (req_prod page) (c + k) there in
      header_stays (c + i)
      ∙ ap (λ (p : List ℕ). slot_at w n p (c + i)) same
      ∙ slot_mod w n (with_slots w n page (c + k) l) (c + i) (c + i + n) (sym (add-mod_right (c + i) n))
      ∙ replies_slot w n some l page (c + k) fits (whole_short w l whole) (c + i + n) (omega arith) (omega arith)
      ∙ slot_mod w n page (c + i + n) (c + i) (add-mod_right (c + i) n)

-- ---- bytes

bytes_written : (w n : ℕ) → 0 < n → (rs : List (List ℕ)) (page : List ℕ) (i : ℕ) → 64 + w * n ≤ length page → Whole w rs → Bytes page → EachBytes rs → Bytes (with_slots w n page i rs)
bytes_written w n some [] page i fits whole h k = h
bytes_written w n some (r ∷ rs) page i fits whole h k =
    let room : slot_place w n i + length r ≤ length page = omega (arith, whole.0, place_fits w n i (length page) some fits) in
    let e : length (splice page (slot_place w n i) r) ≡ length page = splice_length page (slot_place w n i) r room in
    bytes_written w n some rs (splice page (slot_place w n i) r) (suc i) (omega (arith, e)) whole.1 (bytes_spliced page r (slot_place w n i) room h k.0) k.1

pub posted_bytes : (w n : ℕ) → 0 < n → (page : List ℕ) → 64 + w * n ≤ length page → (l : List (List ℕ)) → Whole w l → Bytes page → EachBytes l → Bytes (with_posted w n page l)
unfolding with_posted with_producer u32_bytes
posted_bytes w n some page fits l whole h k =
    let e : length (with_slots w n page (req_prod page) l) ≡ length page = replies_length w n some l page (req_prod page) fits (whole_short w l whole) in
    bytes_spliced (with_slots w n page (req_prod page) l) (u32_bytes (wadd (req_prod page) (length l))) 0 (omega (arith, e))
    (bytes_written w n some l page (req_prod page) fits whole h k) (bytes_u32 (wadd (req_prod page) (length l)))
