-- A packet's replies as the code writes them: slot after slot in three runs, which together are the definition's; and what stands
-- in each slot afterwards.
use mathlib.Core.Path.{◌≡◌, refl, sym, ap, ◌∙◌}
use mathlib.Core.Logic.{⊎_elim}
use mathlib.Core.List.{List, [], ◌∷◌, ◌++◌, map, map-append}
use Prim.Native.Nat.{ℕ, zero, suc, ◌+◌, ◌-◌, ◌*◌, ◌/◌, ◌%◌, ◌≤◌, ◌<◌}
use native.Mathlib.Nat.{add_assoc, mul-add-mod_self_left}
use native.Mathlib.Omega.{arith}
use native.Mathlib.Numerals.{add-one}
use lib.ListN.{length, take, drop, get_or, length-take, length-drop, length-map, get_or-append}
use borrow.Author.Tests.{ne_eqb, le-leb, lt-leb}
use lib.Seq.{take_at, drop_at, take_all, get_or-drop, get_or-append-add}
use Rattle.words.proofs.Word.{lt_or_ge}
use Rattle.words.proofs.Lists.{map_at}
use Rattle.words.specs.Word.{u16_bytes, splice}
use Rattle.ring.specs.Ring.{wrap, wadd, slot_place, with_slots}
use Rattle.ring.proofs.Ring.{slots_length, slots_at, slots_same, slots_split, slots_snoc, short_map, replies_length, replies_here, replies_slot, replies_append}
use Rattle.ring.proofs.Replied.{reply_next}
use Rattle.netif.specs.Slot.{Slot, slot_width, slot_count, ident, transmit_reply, transmit_slot, transmit_slots}
use Rattle.grammar.specs.Packet.{first_of, extras_of, later_of}
use Rattle.packet.specs.Judge.{data_reply, extra_reply, replies_of}
use Rattle.transmit.specs.Take.{replies_to}
use Rattle.transmit.specs.Replied.{reply_at}
use Rattle.transmit.specs.Stages.{replied_by}
use Rattle.transmit.proofs.Cases.{data_short, extra_short, replies_short, replies_count}

-- ---- a run of replies, each made by f of its slot

module _ (f : Slot → List ℕ) (short : (s : Slot) → length (f s) ≤ 12) (page : List ℕ) (size : length page ≡ 4096) (n : ℕ) where
  run_length : (k : ℕ) → length (map f (transmit_slots page n k)) ≡ k
  run_length k = length-map (transmit_slots page n k) f ∙ slots_length 12 256 page k n

  pub by_none : page ≡ replied_by f page n 0
  unfolding replied_by
  by_none = refl

  pub by_length_lem : (k : ℕ) → length (replied_by f page n k) ≡ 4096
  unfolding replied_by
  by_length_lem k = replies_length 12 256 (omega arith) (map f (transmit_slots page n k)) page n (omega arith) (short_map 12 f short (transmit_slots page n k)) ∙ size

  -- the slots behind stay
  pub by_slot : (k j : ℕ) → n + k ≤ j → j < n + 256 → transmit_slot (replied_by f page n k) j ≡ transmit_slot page j
  unfolding replied_by
  by_slot k j a b =
      replies_slot 12 256 (omega arith) (map f (transmit_slots page n k)) page n (omega arith) (short_map 12 f short (transmit_slots page n k)) j (omega (arith, run_length k)) b

  by_parts : (k : ℕ) → take k (map f (transmit_slots page n (k + 1))) ≡ map f (transmit_slots page n k)
  by_parts k =
      ap (λ (l : List Slot). take k (map f l)) (slots_snoc 12 256 page k n) ∙ ap (take k) (map-append f (transmit_slots page n k) (transmit_slot page (n + k) ∷ []))
      ∙ take_at (map f (transmit_slots page n k)) (f (transmit_slot page (n + k)) ∷ []) k (run_length k)

-- one more reply, at a counter that wraps
module _ (f : Slot → List ℕ) (short : (s : Slot) → length (f s) ≤ 12) (page : List ℕ) (size : length page ≡ 4096) (first from i m : ℕ) (here : m ≡ wadd first (from + i)) where
  pub by_more : i < 256 → (now : List ℕ) → now ≡ replied_by f page (first + from) i → splice now (slot_place 12 256 m) (f (transmit_slot now m)) ≡ replied_by f page (first + from) (i + 1)
  unfolding replied_by wadd
  by_more k now inv =
      let rs : List (List ℕ) = map f (transmit_slots page (first + from) (i + 1)) in
      let many : length (map f (transmit_slots page (first + from) (i + 1))) ≡ i + 1 = run_length f short page size (first + from) (i + 1) in
      let slots : length (transmit_slots page (first + from) (i + 1)) ≡ i + 1 = slots_length 12 256 page (i + 1) (first + from) in
      let counter : m ≡ wadd (first + from) i = here ∙ ap (λ (x : ℕ). x % wrap) (sym (add_assoc first from i)) in
      reply_next 12 256 (omega arith) refl page (omega arith) (first + from) rs (short_map 12 f short (transmit_slots page (first + from) (i + 1))) (omega arith)
      f m i now (splice now (slot_place 12 256 m) (f (transmit_slot now m))) (omega arith) counter
      (map_at f (transmit_slots page (first + from) (i + 1)) i [] [] (omega arith) ∙ ap f (slots_at 12 256 page (i + 1) (first + from) i (omega arith)))
      (inv ∙ ap (with_slots 12 256 page (first + from)) (sym (by_parts f short page size (first + from) i)))
      refl
      ∙ ap (with_slots 12 256 page (first + from)) (take_all (i + 1) rs (omega arith))

-- ---- the three runs

module _ (page : List ℕ) (size : length page ≡ 4096) (c e k status : ℕ) (few : e + k < 256) where
  r : List ℕ
  r = data_reply status (transmit_slot page c)

  page1 : List ℕ
  page1 = splice page (slot_place 12 256 c) (data_reply status (transmit_slot page c))

  page1_length : length page1 ≡ 4096
  unfolding page1
  page1_length = replies_length 12 256 (omega arith) (data_reply status (transmit_slot page c) ∷ []) page c (omega arith) (data_short status (transmit_slot page c), tt) ∙ size

  page1_slot : (j : ℕ) → c + 1 ≤ j → j < c + 256 → transmit_slot page1 j ≡ transmit_slot page j
  unfolding page1
  page1_slot j a b = replies_slot 12 256 (omega arith) (data_reply status (transmit_slot page c) ∷ []) page c (omega arith) (data_short status (transmit_slot page c), tt) j a b

  page1_extras : transmit_slots page1 (c + 1) e ≡ transmit_slots page (suc c) e
  page1_extras = slots_same 12 256 page1 page e (c + 1) (λ j a b. page1_slot j a (omega arith)) ∙ ap (λ (x : ℕ). transmit_slots page x e) (add-one c)

  page2_later : transmit_slots (replied_by extra_reply page1 (c + 1) e) (c + (1 + e)) k ≡ transmit_slots page (suc c + e) k
  page2_later =
      slots_same 12 256 (replied_by extra_reply page1 (c + 1) e) page k (c + (1 + e))
      (λ j a b. by_slot extra_reply extra_short page1 page1_length (c + 1) e j (omega arith) (omega arith) ∙ page1_slot j (omega arith) (omega arith))
      ∙ ap (λ (x : ℕ). transmit_slots page x k) (omega arith)

  -- the definition's replies, by the slots of the page
  all_replies : replies_of e (transmit_slots page c (suc (e + k))) status
      ≡ data_reply status (transmit_slot page c) ∷ (map extra_reply (transmit_slots page (suc c) e) ++ map (data_reply status) (transmit_slots page (suc c + e) k))
  unfolding replies_of
  all_replies =
      let s : transmit_slots page (suc c) (e + k) ≡ transmit_slots page (suc c) e ++ transmit_slots page (suc c + e) k = slots_split 12 256 page e k (suc c) in
      let x : take e (transmit_slots page (suc c) (e + k)) ≡ transmit_slots page (suc c) e
      = ap (take e) s ∙ take_at (transmit_slots page (suc c) e) (transmit_slots page (suc c + e) k) e (slots_length 12 256 page e (suc c)) in
      let y : drop e (transmit_slots page (suc c) (e + k)) ≡ transmit_slots page (suc c + e) k
      = ap (drop e) s ∙ drop_at (transmit_slots page (suc c) e) (transmit_slots page (suc c + e) k) e (slots_length 12 256 page e (suc c)) in
      rw (x, y)

  pub replied_all : replied_by (data_reply status) (replied_by extra_reply (splice page (slot_place 12 256 c) (data_reply status (transmit_slot page c))) (c + 1) e) (c + (1 + e)) k ≡ replies_to page c (suc (e + k)) e status
  unfolding replies_to replied_by page1
  replied_all =
      let ex : List (List ℕ) = map extra_reply (transmit_slots page (suc c) e) in
      let la : List (List ℕ) = map (data_reply status) (transmit_slots page (suc c + e) k) in
      let m : length (map extra_reply (transmit_slots page (suc c) e)) ≡ e = length-map (transmit_slots page (suc c) e) extra_reply ∙ slots_length 12 256 page e (suc c) in
      let two : replied_by extra_reply page1 (c + 1) e ≡ with_slots 12 256 page1 (suc c) ex = ap (λ (l : List Slot). with_slots 12 256 page1 (c + 1) (map extra_reply l)) page1_extras ∙ ap (λ (x : ℕ). with_slots 12 256 page1 x ex) (add-one c) in
      ap (λ (l : List Slot). with_slots 12 256 (replied_by extra_reply page1 (c + 1) e) (c + (1 + e)) (map (data_reply status) l)) page2_later
      ∙ ap (λ (p : List ℕ). with_slots 12 256 p (c + (1 + e)) la) two
      ∙ ap (λ (x : ℕ). with_slots 12 256 (with_slots 12 256 page1 (suc c) ex) x la) (omega arith)
      ∙ sym (replies_append 12 256 ex la page1 (suc c))
      ∙ ap (with_slots 12 256 page c) (sym all_replies)

-- ---- the page afterwards, slot by slot

replies_at : (e : ℕ) (p : List Slot) (status i : ℕ) → suc e ≤ length p → i < length p → get_or (replies_of e p status) i [] ≡ reply_at e i status (get_or p i [])
unfolding replies_of extra_reply
replies_at e p status zero h k = refl
replies_at e p status (suc j) h k = ⊎_elim extra later (lt_or_ge j e)
  where
    ex : List (List ℕ)
    ex = map extra_reply (extras_of e p)

    la : List (List ℕ)
    la = map (data_reply status) (later_of e p)

    many : length ex ≡ e
    many = length-map (extras_of e p) extra_reply ∙ simp (length-take, length-drop) (omega arith)

    extra : j < e → get_or (ex ++ la) j [] ≡ reply_at e (suc j) status (get_or p (suc j) [])
    extra g =
        rw (ne_eqb (suc j) 0 (omega arith), le-leb (suc j) e g)
        (get_or-append ex la [] j (omega (arith, many)) ∙ map_at extra_reply (extras_of e p) j [] [] (simp (length-take, length-drop) (omega arith)))

    later : e ≤ j → get_or (ex ++ la) j [] ≡ reply_at e (suc j) status (get_or p (suc j) [])
    later g =
        let z : j ≡ length ex + (j - e) = omega (arith, many) in
        let y : suc e + (j - e) ≡ suc j = omega arith in
        rw (ne_eqb (suc j) 0 (omega arith), lt-leb (suc j) e (omega arith))
        (ap (λ (n : ℕ). get_or (ex ++ la) n []) z
        ∙ get_or-append-add ex la (j - e) []
        ∙ map_at (data_reply status) (later_of e p) (j - e) [] [] (simp length-drop (omega arith))
        ∙ ap (data_reply status) (get_or-drop (suc e) p (j - e) [] ∙ ap (λ (n : ℕ). get_or p n []) y))

-- a reply carries the low 16 bits of a status
low_bytes : (x : ℕ) → u16_bytes (x % 65536) ≡ u16_bytes x
unfolding u16_bytes
low_bytes x =
    let low : x % 65536 % 256 ≡ x % 256 = omega arith in
    let split : x / 256 ≡ 256 * (x / 65536) + x % 65536 / 256 = omega arith in
    let high : x % 65536 / 256 % 256 ≡ x / 256 % 256 = sym (ap (λ (y : ℕ). y % 256) split ∙ mul-add-mod_self_left 256 (x / 65536) (x % 65536 / 256)) in
    λ i. low i ∷ high i ∷ []

pub low_status : (page : List ℕ) (c slots e status : ℕ) → replies_to page c slots e status ≡ replies_to page c slots e (status % 65536)
unfolding replies_to replies_of data_reply transmit_reply
low_status page c slots e status =
    ap (λ (b : List ℕ). with_slots slot_width slot_count page c
    ((u16_bytes (ident (first_of (transmit_slots page c slots))) ++ b)
    ∷ map extra_reply (extras_of e (transmit_slots page c slots)) ++ map (λ s. u16_bytes (ident s) ++ b) (later_of e (transmit_slots page c slots))))
    (sym (low_bytes status))

-- each slot replied to has its id, or 0, and the status, or null, in its first four bytes, and its others stay
pub replied_at : (page : List ℕ) → length page ≡ 4096 → (c slots e status : ℕ) → e < slots → slots ≤ 256 → (i : ℕ) → i < slots
    → transmit_slot (replies_to page c slots e status) (c + i) ≡ splice (transmit_slot page (c + i)) 0 (reply_at e i status (transmit_slot page (c + i)))
unfolding replies_to
replied_at page size c slots e status some few i h =
    let n : length (transmit_slots page c slots) ≡ slots = slots_length 12 256 page slots c in
    let m : length (replies_of e (transmit_slots page c slots) status) ≡ slots = replies_count e (transmit_slots page c slots) status (omega arith) ∙ n in
    replies_here 12 256 (omega arith) (replies_of e (transmit_slots page c slots) status) page c (omega arith) (replies_short e (transmit_slots page c slots) status) (omega arith) i (omega arith)
    ∙ ap (splice (transmit_slot page (c + i)) 0) (replies_at e (transmit_slots page c slots) status i (omega arith) (omega arith) ∙ ap (reply_at e i status) (slots_at 12 256 page slots c i h))
