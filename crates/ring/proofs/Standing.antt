-- The slots that are posted and not consumed, as the page has them: what keeps them standing.
-- `held` slots before the counter are still to be replied to, so that the ring has no place for more than count of both.
use Rattle.std.proofs.Common.{◌≡◌, ℕ, zero, suc, ◌+◌, ◌-◌, ◌%◌, ◌<◌, ◌≤◌, List, [], ◌∷◌, ◌++◌, length, drop, sym, refl, ap, ◌∙◌, arith, length-append, drop_at}
use Rattle.words.specs.Word.{Bytes}
use Rattle.ring.specs.Ring.{wrap, wadd, wsub, req_prod, posted, slot_at, slots_from}
use Rattle.ring.proofs.Counters.{posted_of, wadd_wadd}
use Rattle.ring.proofs.Ring.{slot_bytes, slot_wrap, slots_wrap, slots_length, slots_split, slots_same}

-- ---- lists of slots of bytes

abbrev pub EachBytes : List (List ℕ) → Type 0
EachBytes [] = Unit {0}
EachBytes (s ∷ l) = Bytes s × EachBytes l

bytes_append : (l m : List (List ℕ)) → EachBytes l → EachBytes m → EachBytes (l ++ m)
bytes_append [] m h k = k
bytes_append (s ∷ l) m h k = (h.0, bytes_append l m h.1 k)

bytes_behind : (l m : List (List ℕ)) → EachBytes (l ++ m) → EachBytes m
bytes_behind [] m h = h
bytes_behind (s ∷ l) m h = bytes_behind l m h.1

module _ (w n : ℕ) (turn : wrap % n ≡ 0) (small : n < wrap) where
  slots_bytes : (page : List ℕ) → Bytes page → (k i : ℕ) → EachBytes (slots_from w n page i k)
  slots_bytes page h zero i = tt
  slots_bytes page h (suc k) i = (slot_bytes w n page h i, slots_bytes page h k (suc i))

  slots_wadd : (page : List ℕ) (c j k : ℕ) → slots_from w n page (wadd c j) k ≡ slots_from w n page (c + j) k
  unfolding wadd
  slots_wadd page c j k = slots_wrap w n page k (c + j) turn

  -- a slot behind a counter that wraps
  pub slot_wadd : (page : List ℕ) (c j i : ℕ) → slot_at w n page (wadd c j + i) ≡ slot_at w n page (c + j + i)
  unfolding wadd
  slot_wadd page c j i =
      sym (slot_wrap w n page ((c + j) % wrap + i) turn) ∙ ap (slot_at w n page) (go (c + j)) ∙ slot_wrap w n page (c + j + i) turn
    where
      go : (x : ℕ) → (x % wrap + i) % wrap ≡ (x + i) % wrap
      go x = omega arith

  -- the slots behind the first ones
  slots_behind : (page : List ℕ) (c : ℕ) (l m : List (List ℕ)) → slots_from w n page c (length l + length m) ≡ l ++ m → slots_from w n page (c + length l) (length m) ≡ m
  slots_behind page c l m h =
      sym (drop_at (slots_from w n page c (length l)) (slots_from w n page (c + length l) (length m)) (length l) (slots_length w n page (length l) c))
      ∙ ap (drop (length l)) (sym (slots_split w n page (length l) (length m) c) ∙ h)
      ∙ drop_at l m (length l) refl

  -- from counter c on, the slots left stand on the page
  pub record Stands (page : List ℕ) (held c : ℕ) (left : List (List ℕ)) : Type 0 where
    pub few : held + length left ≤ n
    pub requests : req_prod page ≡ wadd c (length left)
    pub stands : slots_from w n page c (length left) ≡ left
    pub bytes : EachBytes left

  pub stands_none : (page : List ℕ) (c : ℕ) → req_prod page ≡ wadd c 0 → Stands page 0 c []
  stands_none page c h = record { few = omega arith; requests = h; stands = refl; bytes = tt }

  module _ {page : List ℕ} {held c : ℕ} {left : List (List ℕ)} (v : Stands page held c left) where
    pub stands_posted : posted page c ≡ length left
    unfolding posted
    stands_posted = ap (λ (x : ℕ). wsub x c) v.requests ∙ posted_of c (length left) (omega (arith, v.few))

    pub stands_slots : slots_from w n page c (posted page c) ≡ left
    stands_slots = ap (slots_from w n page c) stands_posted ∙ v.stands

    -- a page with the same req_prod and the same slots there
    pub stands_same : (page' : List ℕ) → req_prod page' ≡ req_prod page → ((i : ℕ) → i < length left → slot_at w n page' (c + i) ≡ slot_at w n page (c + i)) → Stands page' held c left
    stands_same page' h f = record {
      few = v.few;
      requests = h ∙ v.requests;
      stands = slots_same w n page' page (length left) c (λ j a b. (let e : c + (j - c) ≡ j = omega arith in rw e at (f (j - c) (omega arith)))) ∙ v.stands;
      bytes = v.bytes;
    }

    pub stands_less : (held' : ℕ) → held' ≤ held → Stands page held' c left
    stands_less held' h = record { few = omega (arith, v.few); requests = v.requests; stands = v.stands; bytes = v.bytes }

    -- a publication
    pub stands_more : (page' : List ℕ) (k : ℕ) → Bytes page' → req_prod page' ≡ wadd (req_prod page) k → held + posted page c + k ≤ n
        → ((i : ℕ) → i < posted page c → slot_at w n page' (c + i) ≡ slot_at w n page (c + i))
        → Stands page' held c (left ++ slots_from w n page' (req_prod page) k)
    stands_more page' k b h f s =
        let more : slots_from w n page' (req_prod page) k ≡ slots_from w n page' (c + length left) k = rw v.requests (slots_wadd page' c (length left) k) in
        let new : length (slots_from w n page' (req_prod page) k) ≡ k = slots_length w n page' k (req_prod page) in
        let size' : length (left ++ slots_from w n page' (req_prod page) k) ≡ length left + k
        = length-append left (slots_from w n page' (req_prod page) k) ∙ ap (length left +◌) new in
        let old : slots_from w n page' c (length left) ≡ left
        = slots_same w n page' page (length left) c (λ j x y. (let e : c + (j - c) ≡ j = omega arith in rw e at (s (j - c) (omega (arith, stands_posted))))) ∙ v.stands in
        record {
          few = omega (arith, stands_posted);
          requests = h ∙ rw v.requests (wadd_wadd c (length left) k) ∙ ap (wadd c) (sym size');
          stands = rw size' (slots_split w n page' (length left) k c ∙ rw (old, more) refl);
          bytes = bytes_append left (slots_from w n page' (req_prod page) k) v.bytes (slots_bytes page' b k (req_prod page));
        }

  -- the counter moved over the first ones, which are then held
  pub stands_on : {page : List ℕ} {held c : ℕ} (p t : List (List ℕ)) → Stands page held c (p ++ t) → Stands page (held + length p) (wadd c (length p)) t
  stands_on {page} {held} {c} p t v =
      let sizes : length (p ++ t) ≡ length p + length t = length-append p t in
      record {
        few = omega (arith, v.few);
        requests = v.requests ∙ ap (wadd c) sizes ∙ sym (wadd_wadd c (length p) (length t));
        stands = slots_wadd page c (length p) (length t) ∙ slots_behind page c p t (ap (slots_from w n page c) (sym sizes) ∙ v.stands);
        bytes = bytes_behind p t v.bytes;
      }
