-- The divider's steps as its loops meet them: what one more slot, or none, makes of a scan; and the slots of a ring page as the
-- loops read them.
use mathlib.Core.Path.{◌≡◌, refl, sym, ap, ◌∙◌}
use mathlib.Core.List.{List, [], ◌∷◌, ◌++◌, map, map-append}
use mathlib.Core.Bool.{Bool, true, false}
use Prim.Native.Nat.{ℕ, zero, suc, ◌+◌, ◌-◌, ◌≤◌, ◌<◌}
use native.Mathlib.Nat.{add_assoc}
use native.Mathlib.Omega.{arith}
use native.Mathlib.Numerals.{add-one}
use lib.ListN.{length, get_or, set, length-map}
use borrow.Author.Tests.{eq-eqb, ne_eqb}
use Rattle.words.specs.Word.{splice, bit}
use Rattle.words.proofs.Word.{splice_more}
use Rattle.ring.specs.Ring.{wadd}
use Rattle.ring.proofs.Ring.{slots_at, slots_length, slots_snoc}
use Rattle.ring.proofs.Replied.{slot_ahead, slots_ahead}
use Rattle.netif.specs.Slot.{Slot, size, more_data, extra_follows, is_extra, another_extra, gso_size, gso_type, transmit_slot, transmit_slots}
use Rattle.netif.specs.Decode.{data_of, extra_of}
use Rattle.grammar.specs.Grammar.{within}
use Rattle.grammar.specs.Divide.{whole, beginning, misshapen, owed, scan}
use Rattle.grammar.specs.Packet.{sizes, gso_size_of, gso_type_of}
use Rattle.grammar.specs.Stages.{behind}
use Rattle.netif.specs.declared.DataSlot.{DataSlot}
use Rattle.netif.specs.declared.Extra.{Extra}

-- ---- one step of the scan: an extra is owed

pub extra_closed : (l : List Slot) (d e : ℕ) (m : Bool) → within (d + owed m) (e + 1) ≡ false → scan l d e true m ≡ misshapen
extra_closed [] d e m w = rw w
extra_closed (s ∷ l) d e m w = rw w

module _ (l : List Slot) (d e : ℕ) (m : Bool) (w : within (d + owed m) (e + 1) ≡ true) where
  pub extra_end : l ≡ [] → scan l d e true m ≡ beginning
  extra_end z = rw (z, w)

  pub extra_bad : (s : Slot) (q : List Slot) → l ≡ s ∷ q → is_extra s ≡ false → scan l d e true m ≡ misshapen
  extra_bad s q z b = rw (z, w, b)

  pub extra_next : (s : Slot) (q : List Slot) → l ≡ s ∷ q → is_extra s ≡ true → scan l d e true m ≡ scan q d (e + 1) (another_extra s) m
  extra_next s q z b = rw (z, w, b, add-one e)

-- ---- one step of the scan: data is owed

pub data_closed : (l : List Slot) (d e : ℕ) → within (d + 1) e ≡ false → scan l d e false true ≡ misshapen
data_closed [] d e w = rw w
data_closed (s ∷ l) d e w = rw w

module _ (l : List Slot) (d e : ℕ) (w : within (d + 1) e ≡ true) where
  pub data_end : l ≡ [] → scan l d e false true ≡ beginning
  data_end z = rw (z, w)

  pub data_bad : (s : Slot) (q : List Slot) → l ≡ s ∷ q → extra_follows s ≡ true → scan l d e false true ≡ misshapen
  data_bad s q z b = rw (z, w, b)

  pub data_next : (s : Slot) (q : List Slot) → l ≡ s ∷ q → extra_follows s ≡ false → scan l d e false true ≡ scan q (d + 1) e false (more_data s)
  data_next s q z b = rw (z, w, b, add-one d)

pub nothing_owed : (l : List Slot) (d e : ℕ) → within d e ≡ true → scan l d e false false ≡ whole d e
nothing_owed [] d e w = rw w
nothing_owed (s ∷ l) d e w = rw w

-- ---- the slots of a page

module _ (page : List ℕ) (first posted : ℕ) where
  pub behind_none : (i : ℕ) → i ≡ posted → behind page first posted i ≡ []
  behind_none i h =
      let z : posted - i ≡ 0 = omega arith in
      rw z

  pub behind_more : (n i : ℕ) → i < posted → n ≡ wadd first i → behind page first posted i ≡ transmit_slot page n ∷ behind page first posted (i + 1)
  behind_more n i k h = slots_ahead 12 256 refl page first n i posted k h

  -- a packet's extra at its place
  slot_here : (n i : ℕ) → i < posted → n ≡ wadd first i → get_or (transmit_slots page first posted) i [] ≡ transmit_slot page n
  slot_here n i k h = slots_at 12 256 page posted first i k ∙ sym (slot_ahead 12 256 refl page first n i h)

  pub gso_size_here : (n e : ℕ) → 1 ≤ e → e < posted → n ≡ wadd first e → gso_size_of e (transmit_slots page first posted) ≡ gso_size (transmit_slot page n)
  gso_size_here n zero s k h = absurd (omega arith)
  gso_size_here n (suc e) s k h = ap gso_size (slot_here n (suc e) k h)

  pub gso_type_here : (n e : ℕ) → 1 ≤ e → e < posted → n ≡ wadd first e → gso_type_of e (transmit_slots page first posted) ≡ gso_type (transmit_slot page n)
  gso_type_here n zero s k h = absurd (omega arith)
  gso_type_here n (suc e) s k h = ap gso_type (slot_here n (suc e) k h)

  pub gso_size_next : (n e : ℕ) → e + 1 < posted → n ≡ wadd first (e + 1) → gso_size_of (e + 1) (transmit_slots page first posted) ≡ gso_size (transmit_slot page n)
  gso_size_next n e k h = rw add-one (ap gso_size (rw add-one at (slot_here n (e + 1) k h)))

  pub gso_type_next : (n e : ℕ) → e + 1 < posted → n ≡ wadd first (e + 1) → gso_type_of (e + 1) (transmit_slots page first posted) ≡ gso_type (transmit_slot page n)
  gso_type_next n e k h = rw add-one (ap gso_type (rw add-one at (slot_here n (e + 1) k h)))

-- ---- the later data slots' sizes

pub sizes_snoc : (l : List Slot) (s : Slot) → sizes (l ++ (s ∷ [])) ≡ sizes l + size s
sizes_snoc [] s = omega arith
sizes_snoc (x ∷ l) s = rw (sizes_snoc l s) (omega arith)

module _ (page : List ℕ) (first n i k : ℕ) (here : n ≡ wadd first (i + k)) where
  slot_there : transmit_slot page n ≡ transmit_slot page (first + i + k)
  slot_there = slot_ahead 12 256 refl page first n (i + k) here ∙ ap (transmit_slot page) (sym (add_assoc first i k))

  pub sum_next : (v : ℕ) → v ≡ size (transmit_slot page n) → sizes (transmit_slots page (first + i) k) + v ≡ sizes (transmit_slots page (first + i) (k + 1))
  sum_next v h =
      sym (ap sizes (slots_snoc 12 256 page k (first + i))
      ∙ sizes_snoc (transmit_slots page (first + i) k) (transmit_slot page (first + i + k))
      ∙ ap (sizes (transmit_slots page (first + i) k) +◌) (sym (h ∙ ap size slot_there)))

  -- a table that holds what f says of each slot, from the place 1 on: one slot more
  pub column_next : (f : Slot → ℕ) (v : ℕ) → v ≡ f (transmit_slot page n) → (t : List ℕ) → k + 1 < length t
      → set (splice t 1 (map f (transmit_slots page (first + i) k))) (k + 1) v ≡ splice t 1 (map f (transmit_slots page (first + i) (k + 1)))
  column_next f v h t few =
      let m : length (map f (transmit_slots page (first + i) k)) ≡ k = length-map (transmit_slots page (first + i) k) f ∙ slots_length 12 256 page k (first + i) in
      splice_more t 1 (map f (transmit_slots page (first + i) k)) v (k + 1) (omega arith) few
      ∙ ap (splice t 1)
      (ap (λ (x : ℕ). map f (transmit_slots page (first + i) k) ++ (x ∷ [])) (h ∙ ap f slot_there)
      ∙ sym (map-append f (transmit_slots page (first + i) k) (transmit_slot page (first + i + k) ∷ []))
      ∙ sym (ap (map f) (slots_snoc 12 256 page k (first + i))))

-- ---- slots as the code holds them

module _ (s : Slot) (r : Extra) (h : r ≡ extra_of s) where
  pub kind_other : (r.kind ≡ 1 → ⊥) → is_extra s ≡ false
  unfolding is_extra extra_of
  kind_other k = ne_eqb _ 1 (λ e. k (ap (λ (x : Extra). x.kind) h ∙ e))

  pub kind_extra : r.kind ≡ 1 → is_extra s ≡ true
  unfolding is_extra extra_of
  kind_extra k = eq-eqb _ 1 (sym (ap (λ (x : Extra). x.kind) h) ∙ k)

  pub another_bit : bit 0 r.flags ≡ another_extra s
  unfolding another_extra extra_of
  another_bit = ap (λ (x : Extra). bit 0 x.flags) h

  pub gso_size_field : r.gso_size ≡ gso_size s
  unfolding extra_of
  gso_size_field = ap (λ (x : Extra). x.gso_size) h

  pub gso_type_field : r.gso_type ≡ gso_type s
  unfolding extra_of
  gso_type_field = ap (λ (x : Extra). x.gso_type) h

module _ (s : Slot) (r : DataSlot) (h : r ≡ data_of s) where
  pub more_bit : bit 2 r.flags ≡ more_data s
  unfolding more_data data_of
  more_bit = ap (λ (x : DataSlot). bit 2 x.flags) h

  pub follows_bit : bit 3 r.flags ≡ extra_follows s
  unfolding extra_follows data_of
  follows_bit = ap (λ (x : DataSlot). bit 3 x.flags) h

  pub size_field : r.size ≡ size s
  unfolding data_of
  size_field = ap (λ (x : DataSlot). x.size) h
