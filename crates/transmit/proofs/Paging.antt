-- The ring page after replies have left: packet after packet, each slot with its reply, and all else as it was.
use mathlib.Core.Path.{◌≡◌, refl, sym, ap, ◌∙◌}
use mathlib.Core.Logic.{⊎_elim}
use mathlib.Core.List.{List, [], ◌∷◌}
use Prim.Native.Nat.{ℕ, ◌+◌, ◌-◌, ◌%◌, ◌≤◌, ◌<◌}
use native.Mathlib.Nat.{add-mod_right}
use native.Mathlib.Omega.{arith}
use lib.ListN.{length, get_or}
use lib.Dec.{lit<}
use borrow.Author.Tests.{lt-ltb, le-ltb}
use Rattle.words.specs.Word.{u32_bytes, splice}
use Rattle.words.proofs.Word.{lt_or_ge, no_confusion, splice_before, splice_after}
use Rattle.ring.specs.Ring.{wrap, wadd, wsub, with_producer}
use Rattle.ring.specs.declared.Side.TheVariants.{Replies}
use Rattle.ring.proofs.Counters.{wadd_small, wsub_leads}
use Rattle.ring.proofs.Ring.{slot_mod, replies_behind}
use Rattle.ring.proofs.Standing.{slot_wadd}
use Rattle.ring.proofs.Facts.{producer_leaves_size, producer_leaves_slot, producer_read_back}
use Rattle.netif.specs.Slot.{Slot, transmit_slot, transmit_slots}
use Rattle.packet.specs.Judge.{replies_of}
use Rattle.held.specs.declared.Held.{Held}
use Rattle.held.specs.Records.{slots_held}
use Rattle.held.specs.Valid.{between}
use Rattle.held.specs.Release.{settle}
use Rattle.held.proofs.Cover.{EachHeld, Covers, Sound, sound_extras}
use Rattle.held.proofs.Leaving.{Leaves, settle_keeps}
use Rattle.transmit.specs.Take.{replies_to, replies_for, replied_page}
use Rattle.transmit.specs.Replied.{reply_of, RepliedTo}
use Rattle.transmit.proofs.Cases.{replies_short, to_length, to_header, to_slot}
use Rattle.transmit.proofs.Replies.{replied_at}

-- ---- slots of the transmit ring by another counter

-- 256 slots make whole turns of a counter
abbrev pub turn : wrap % 256 ≡ 0
turn = refl

abbrev pub small : 256 < wrap
small = lit< tt

-- a slot of the first n, one turn on from the slot behind them
turn_slot : (page : List ℕ) (c n i : ℕ) → n ≤ 256 → transmit_slot page (c + i) ≡ transmit_slot page (wadd c n + (256 - n + i))
turn_slot page c n i h =
    slot_mod 12 256 page (c + i) (c + n + (256 - n + i)) (sym (ap (λ (x : ℕ). x % 256) (omega arith) ∙ add-mod_right (c + i) 256))
    ∙ sym (slot_wadd 12 256 turn small page c n (256 - n + i))

-- the slot i behind the first n
pub slot_behind : (page : List ℕ) (c n i : ℕ) → transmit_slot page (wadd c n + i) ≡ transmit_slot page (c + (n + i))
slot_behind page c n i = slot_wadd 12 256 turn small page c n i ∙ ap (transmit_slot page) (omega arith)

next_slot : (page : List ℕ) (c n i : ℕ) → n ≤ i → transmit_slot page (c + i) ≡ transmit_slot page (wadd c n + (i - n))
next_slot page c n i h = ap (λ (j : ℕ). transmit_slot page (c + j)) (omega arith) ∙ sym (slot_behind page c n (i - n))

-- the slot i behind c, counted from r
pub same_slot : (page : List ℕ) (c r i : ℕ) → transmit_slot page (c + i) ≡ transmit_slot page (r + (wsub c r + i))
same_slot page c r i = slot_mod 12 256 page (c + i) (r + (wsub c r + i)) (go (wsub c r) (wsub_leads c r))
  where
    go : (n : ℕ) → (r + n) % wrap ≡ c % wrap → (c + i) % 256 ≡ (r + (n + i)) % 256
    go n e = omega arith

-- ---- packets one behind the other

record Written (page : List ℕ) (c : ℕ) (gone : List Held) (after : List ℕ) : Type 0 where
  size : length after ≡ 4096
  slots : (i : ℕ) → i < slots_held gone → transmit_slot after (c + i) ≡ splice (transmit_slot page (c + i)) 0 (reply_of gone i (transmit_slot page (c + i)))
  others : (i : ℕ) → slots_held gone ≤ i → i < 256 → transmit_slot after (c + i) ≡ transmit_slot page (c + i)
  header : (j : ℕ) → j < 64 → get_or after j 0 ≡ get_or page j 0
  behind : (j : ℕ) → 3136 ≤ j → get_or after j 0 ≡ get_or page j 0

one_behind : (page : List ℕ) → length page ≡ 4096 → (c slots e status j : ℕ) → 3136 ≤ j → get_or (replies_to page c slots e status) j 0 ≡ get_or page j 0
unfolding replies_to
one_behind page size c slots e status j h =
    replies_behind 12 256 (omega arith) (replies_of e (transmit_slots page c slots) status) page c (omega arith) (replies_short e (transmit_slots page c slots) status) j h

written : (gone : List Held) (page : List ℕ) (c : ℕ) → length page ≡ 4096 → Leaves c gone → slots_held gone ≤ 256 → Written page c gone (replies_for page c gone)
written [] page c size g few = record { size = size; slots = λ i h. absurd (omega arith); others = λ i a b. refl; header = λ j h. refl; behind = λ j h. refl }
written (x ∷ gone) page c size g few =
    let some : x.extras < x.slots = sound_extras x g.2 in
    let here : List ℕ = replies_to page c x.slots x.extras x.status in
    let size' : length (replies_to page c x.slots x.extras x.status) ≡ 4096 = to_length page size c x.slots x.extras x.status in
    let w = written gone here (wadd c x.slots) size' g.4 (omega arith) in
    let next : (i : ℕ) → x.slots ≤ i → i < 256 → transmit_slot here (wadd c x.slots + (i - x.slots)) ≡ transmit_slot page (c + i)
    = λ i h k. sym (next_slot here c x.slots i h) ∙ to_slot page size c x.slots x.extras x.status some (c + i) (omega arith) (omega arith) in
    record {
      size = w.size;
      slots = λ i h. ⊎_elim
          (λ k. rw (lt-ltb i x.slots k)
          (turn_slot (replies_for here (wadd c x.slots) gone) c x.slots i (omega arith)
          ∙ w.others (256 - x.slots + i) (omega arith) (omega arith)
          ∙ sym (turn_slot here c x.slots i (omega arith))
          ∙ replied_at page size c x.slots x.extras x.status some (omega arith) i k))
          (λ k. rw (le-ltb i x.slots k)
          (next_slot (replies_for here (wadd c x.slots) gone) c x.slots i k
          ∙ w.slots (i - x.slots) (omega arith)
          ∙ ap (λ (s : Slot). splice s 0 (reply_of gone (i - x.slots) s)) (next i k (omega arith))))
          (lt_or_ge i x.slots);
      others = λ i a b.
          next_slot (replies_for here (wadd c x.slots) gone) c x.slots i (omega arith)
          ∙ w.others (i - x.slots) (omega arith) (omega arith)
          ∙ next i (omega arith) b;
      header = λ j h. w.header j h ∙ to_header page size c x.slots x.extras x.status j h;
      behind = λ j h. w.behind j h ∙ one_behind page size c x.slots x.extras x.status j h;
    }

-- ---- and rsp_prod

small_mod : (n : ℕ) → n < wrap → n % wrap ≡ n
small_mod n k = omega arith

module _ (page : List ℕ) (size : length page ≡ 4096) (new : ℕ) where
  producer_before : (j : ℕ) → j < 8 → get_or (with_producer Replies page new) j 0 ≡ get_or page j 0
  unfolding with_producer u32_bytes
  producer_before j k = splice_before page 8 _ (omega arith) j k

  producer_behind : (j : ℕ) → 12 ≤ j → get_or (with_producer Replies page new) j 0 ≡ get_or page j 0
  unfolding with_producer u32_bytes
  producer_behind j k = splice_after page 8 _ (omega arith) j (omega arith)

  producer_slot : (j : ℕ) → transmit_slot (with_producer Replies page new) j ≡ transmit_slot page j
  producer_slot j = producer_leaves_slot page (omega arith) Replies new 12 256 (omega arith) (omega arith) j

replied_to : (gone : List Held) (page : List ℕ) (c new : ℕ) → length page ≡ 4096 → Leaves c gone → slots_held gone ≤ 256 → ((gone ≡ [] → ⊥) → new < wrap)
    → RepliedTo page c gone new (replied_page page c gone new)
replied_to [] page c new size g few h = record {
  size = refl;
  slots = λ i k. absurd (omega arith);
  others = λ i a b. refl;
  published = λ k. absurd (k refl);
  header = λ j a b. refl;
  behind = λ j k. refl;
  nothing = λ k. refl;
}
replied_to (x ∷ gone) page c new size g few h =
    let w = written (x ∷ gone) page c size g few in
    let p : List ℕ = replies_for page c (x ∷ gone) in
    record {
      size = producer_leaves_size p (omega (arith, w.size)) Replies new ∙ w.size ∙ sym size;
      slots = λ i k. producer_slot p w.size new (c + i) ∙ w.slots i k;
      others = λ i a b. producer_slot p w.size new (c + i) ∙ w.others i a b;
      published = λ k. producer_read_back p (omega (arith, w.size)) Replies new ∙ small_mod new (h k);
      header = λ j a b. ⊎_elim (λ k. producer_before p w.size new j k) (λ k. producer_behind p w.size new j k) b ∙ w.header j a;
      behind = λ j k. producer_behind p w.size new j (omega arith) ∙ w.behind j k;
      nothing = λ k. no_confusion cc;
    }

-- what leaves from a list that covers the slots between the counters c and r
pub settle_replied : (c r : ℕ) (l : List Held) (page : List ℕ) → length page ≡ 4096 → Covers (between c r) r l → EachHeld Sound l
    → let s = settle c r l in RepliedTo page r s.gone s.replied (replied_page page r s.gone s.replied)
unfolding between
settle_replied c r l page size v s =
    let k = settle_keeps c r l v s in
    replied_to (settle c r l).gone page r (settle c r l).replied size k.gone (omega (arith, k.moved, k.left, v.small))
    (λ h. ⊎_elim (λ g. absurd (h g.0)) (λ g. omega (arith, g, wadd_small r (slots_held (settle c r l).gone))) k.counter)
