-- From what the divider's loops have read to what stands at the front: the packet that they found, taken off the page.
use mathlib.Core.Path.{◌≡◌, refl, sym, ap, ◌∙◌}
use mathlib.Core.List.{List, [], ◌∷◌, map}
use mathlib.Core.Bool.{Bool, true, false, not}
use Prim.Native.Nat.{ℕ, zero, suc, ◌+◌, ◌-◌, ◌≤◌, ◌<◌}
use native.Mathlib.Omega.{arith}
use native.Mathlib.Numerals.{add-one}
use lib.ListN.{length, take}
use lib.Seq.{get_or-take}
use Rattle.std.specs.Prelude.{Ok, Err}
use Rattle.std.proofs.lemmas.Bool.{not-true}
use Rattle.words.specs.Word.{splice, bit}
use Rattle.words.proofs.Word.{and_both}
use Rattle.ring.proofs.Ring.{slots_take, slots_drop, slots_length}
use Rattle.netif.specs.Slot.{Slot, size, more_data, extra_follows, transmit_slot, transmit_slots}
use Rattle.netif.specs.Decode.{data_of}
use Rattle.grammar.specs.Divide.{whole, scan, divide, alone}
use Rattle.grammar.specs.Packet.{first_of, later_of, sizes, gso_size_of, gso_type_of}
use Rattle.grammar.specs.Stages.{outline_of, front_of, FrontRead, cut_of, behind, AllExtras, AfterExtras}
use Rattle.netif.specs.declared.DataSlot.{DataSlot}
use Rattle.grammar.specs.declared.Unfinished.{Unfinished}
use Rattle.grammar.specs.declared.Unfinished.TheVariants.{Beginning, Misshapen}
use Rattle.grammar.specs.declared.Extras.{Extras}
use Rattle.grammar.proofs.Within.{within_one}
use Rattle.grammar.proofs.Loop.{nothing_owed, more_bit, follows_bit}

-- ---- no whole packet

pub read_unfinished : (l : List Slot) (before after : List ℕ) (e : Unfinished) → divide l ≡ cut_of e → FrontRead l before after (Err e)
unfolding front_of
read_unfinished l before after Beginning h = record { answer = rw h; table = λ d e k. cc }
read_unfinished l before after Misshapen h = record { answer = rw h; table = λ d e k. cc }

-- ---- the gso fields of the slots in front

gso_size_front : (e n : ℕ) (l : List Slot) → e < n → gso_size_of e (take n l) ≡ gso_size_of e l
gso_size_front zero n l h = refl
gso_size_front (suc e) n l h = rw (get_or-take n l (suc e) [] h)

gso_type_front : (e n : ℕ) (l : List Slot) → e < n → gso_type_of e (take n l) ≡ gso_type_of e l
gso_type_front zero n l h = refl
gso_type_front (suc e) n l h = rw (get_or-take n l (suc e) [] h)

module _ (page : List ℕ) (first posted : ℕ) where
  -- the first slot: what the whole run comes to, by the slots behind it
  pub head_read : (head : DataSlot) (x m : Bool) → 1 ≤ posted → head ≡ data_of (transmit_slot page first) → x ≡ bit 3 head.flags → m ≡ bit 2 head.flags
      → divide (transmit_slots page first posted) ≡ scan (behind page first posted 1) 1 0 x m
  unfolding divide
  head_read head x m h f p q =
      let z : posted ≡ suc (posted - 1) = omega arith in
      ap (λ (k : ℕ). divide (transmit_slots page first k)) z
      ∙ rw (sym (follows_bit _ head f) ∙ sym p, sym (more_bit _ head f) ∙ sym q, ← add-one first)

  -- where all extras were read, the later data slots are next
  pub after_extras : (x m : Bool) (r : Extras) → divide (transmit_slots page first posted) ≡ scan (behind page first posted 1) 1 0 x m
      → AllExtras page first posted x r → AfterExtras page first posted m r
  after_extras x m r h e = record { few = e.few; limit = e.limit; rest = h ∙ e.rest m; gso_size = e.gso_size; gso_type = e.gso_type }

  -- where none is announced, there are none
  pub no_extras : (x : Bool) → x ≡ false → 1 ≤ posted → AllExtras page first posted x (record { count = 0; gso_size = 0; gso_type = 0 })
  no_extras x n h = record { few = h; limit = within_one; rest = λ more. ap (λ b. scan (behind page first posted 1) 1 0 b more) n; gso_size = refl; gso_type = refl }

  -- ---- a packet of k later data slots and e extras

  module _ (k e : ℕ) (few : k + 1 + e ≤ posted) where
    packet_here : take (k + 1 + e) (transmit_slots page first posted) ≡ transmit_slots page first (k + 1 + e)
    packet_here =
        let z : k + 1 + e + (posted - (k + 1 + e)) ≡ posted = omega arith in
        rw z at (slots_take 12 256 page (k + 1 + e) (posted - (k + 1 + e)) first)

    later_here : later_of e (take (k + 1 + e) (transmit_slots page first posted)) ≡ transmit_slots page (first + (e + 1)) k
    later_here =
        let z : suc e + k ≡ k + 1 + e = omega arith in
        let y : first + suc e ≡ first + (e + 1) = omega arith in
        ap (later_of e) packet_here ∙ rw (z, y) at (slots_drop 12 256 page (suc e) k first)

    first_here : first_of (take (k + 1 + e) (transmit_slots page first posted)) ≡ transmit_slot page first
    first_here =
        let z : k + 1 + e ≡ suc (k + e) = omega arith in
        ap first_of packet_here ∙ rw z

    outline_here : (h : DataSlot) (sum z t : ℕ) → h ≡ data_of (transmit_slot page first) → sum ≡ sizes (transmit_slots page (first + (e + 1)) k)
        → z ≡ gso_size_of e (transmit_slots page first posted) → t ≡ gso_type_of e (transmit_slots page first posted)
        → record { head = h; slots = k + 1 + e; extras = e; later_bytes = sum; gso_size = z; gso_type = t } ≡ outline_of e (take (k + 1 + e) (transmit_slots page first posted))
    unfolding outline_of
    outline_here h sum z t p q r s =
        let a : h ≡ data_of (first_of (take (k + 1 + e) (transmit_slots page first posted))) = p ∙ ap data_of (sym first_here) in
        let b : k + 1 + e ≡ length (take (k + 1 + e) (transmit_slots page first posted)) = sym (ap length packet_here ∙ slots_length 12 256 page (k + 1 + e) first) in
        let c : sum ≡ sizes (later_of e (take (k + 1 + e) (transmit_slots page first posted))) = q ∙ ap sizes (sym later_here) in
        let d : z ≡ gso_size_of e (take (k + 1 + e) (transmit_slots page first posted)) = r ∙ sym (gso_size_front e (k + 1 + e) _ (omega arith)) in
        let f : t ≡ gso_type_of e (take (k + 1 + e) (transmit_slots page first posted)) = s ∙ sym (gso_type_front e (k + 1 + e) _ (omega arith)) in
        λ i. record { head = a i; slots = b i; extras = e; later_bytes = c i; gso_size = d i; gso_type = f i }

    pub read_whole : (h : DataSlot) (sum z t : ℕ) (before after : List ℕ) → divide (transmit_slots page first posted) ≡ whole (k + 1) e
        → h ≡ data_of (transmit_slot page first) → sum ≡ sizes (transmit_slots page (first + (e + 1)) k)
        → z ≡ gso_size_of e (transmit_slots page first posted) → t ≡ gso_type_of e (transmit_slots page first posted)
        → after ≡ splice before 1 (map size (transmit_slots page (first + (e + 1)) k))
        → FrontRead (transmit_slots page first posted) before after (Ok (record { head = h; slots = k + 1 + e; extras = e; later_bytes = sum; gso_size = z; gso_type = t }))
    unfolding front_of
    read_whole h sum z t before after w p q r s u = record {
      answer = ap Ok (outline_here h sum z t p q r s) ∙ sym (rw w);
      table = λ d f v.
          let a : d ≡ k + 1 = cc in
          let b : f ≡ e = cc in
          rw (a, b) (u ∙ ap (λ (l : List Slot). splice before 1 (map size l)) (sym later_here));
    }

-- a first slot that announces nothing
pub alone_whole : (s : Slot) (l : List Slot) → alone s ≡ true → divide (s ∷ l) ≡ whole 1 0
unfolding alone divide
alone_whole s l h =
    let k = and_both (not (more_data s)) (not (extra_follows s)) h in
    rw (not-true _ k.0, not-true _ k.1) (nothing_owed l 1 0 within_one)
