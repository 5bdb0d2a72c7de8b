-- Judging as the code does it: a slot's part by its source, and its verdict by that, the later data slots one by one, and what a good
-- packet's plan comes to: its parts lie in the window, and joined they are the frame.
use mathlib.Core.Logic.{◌⊎◌, inl, inr}
use mathlib.Core.Path.{◌≡◌, refl, sym, ap, ◌∙◌}
use mathlib.Core.Bool.{Bool, true, false, cond, not}
use mathlib.Core.List.{List, [], ◌∷◌, ◌++◌, map, map-append, append_assoc}
use Prim.Native.Nat.{ℕ, zero, suc, ◌+◌, ◌-◌, ◌≤◌, ◌<◌}
use native.Mathlib.Omega.{arith}
use native.Mathlib.Nat.{add_assoc}
use native.Mathlib.Numerals.{add-one}
use lib.ListN.{length, take, drop, get_or, set, length-map, length-take, length-drop}
use lib.Seq.{get_or-take, take_at}
use Rattle.words.specs.Word.{splice, bit}
use Rattle.words.proofs.Lists.{map_at}
use Rattle.words.proofs.Word.{no_confusion}
use borrow.Author.Tests.{lt-ltb, le-ltb, ne_eqb}
use Rattle.ring.specs.Ring.{wadd}
use Rattle.ring.proofs.Ring.{slot_wrap, slots_at, slots_length, slots_drop, slots_snoc}
use Rattle.grant.specs.Grant.{in_range, fit_transmit}
use Rattle.grant.specs.Lookup.{source_of, source_cause}
use Rattle.std.specs.Prelude.{Result, Ok, Err}
use Rattle.answer.specs.Verdict.{Verdict, good, bad, ◌or_else◌, test}
use Rattle.grant.proofs.Grant.{found_at, source_cause_lem}
use Rattle.grant.specs.declared.Unlent.{Unlent}
use Rattle.netif.specs.Slot.{Slot, gref, offset, size, checksum_blank, data_validated, transmit_slot, transmit_slots}
use Rattle.netif.specs.Decode.{data_of}
use Rattle.grammar.specs.Packet.{first_of, later_of, sizes, gso_size_of, gso_type_of}
use Rattle.grammar.specs.Stages.{outline_of, sizes_in}
use Rattle.grammar.specs.declared.Outline.{Outline}
use Rattle.grammar.specs.declared.Part.{Part}
use Rattle.std.proofs.lemmas.List.{take_more_set}
use Rattle.netif.specs.declared.DataSlot.{DataSlot}
use Rattle.answer.specs.declared.Fault.{Fault}
use Rattle.packet.specs.Judge.{total_of, own_part, judge_sizes, judge_gso, judge_slot, judge_later, judge_slots, judge}
use Rattle.packet.specs.Stages.{datas_of, slot_page, planned, later_plan, plan, part_by, slot_part, SizesOf, later_at}

-- ---- causes 1 and 3

module _ (total later : ℕ) where
  pub sizes_short : total < 14 → bad 1 0 ≡ judge_sizes total later
  unfolding judge_sizes
  sizes_short h = rw (lt-ltb total 14 h)

  pub sizes_over : 14 ≤ total → total < later → bad 3 0 ≡ judge_sizes total later
  unfolding judge_sizes
  sizes_over h k = rw (le-ltb total 14 h, lt-ltb total later k)

  pub sizes_right : 14 ≤ total → later ≤ total → good ≡ judge_sizes total later
  unfolding judge_sizes
  sizes_right h k = rw (le-ltb total 14 h, le-ltb total later k)

-- ---- cause 6

pub gso_none : (e n t : ℕ) → e ≡ 0 → good ≡ judge_gso e n t
gso_none e n t h = rw h

pub gso_right : (e n t : ℕ) → (n ≡ 0 → ⊥) → (t ≡ 1) ⊎ (t ≡ 2) → good ≡ judge_gso e n t
gso_right zero n t h k = refl
gso_right (suc e) n t h (inl k) = rw (ne_eqb n 0 h, k)
gso_right (suc e) n t h (inr k) = rw (ne_eqb n 0 h, k)

pub gso_zero : (e n t : ℕ) → (e ≡ 0 → ⊥) → n ≡ 0 → bad 6 e ≡ judge_gso e n t
gso_zero zero n t h k = absurd (h refl)
gso_zero (suc e) n t h k = rw k

pub gso_other : (e n t : ℕ) → (e ≡ 0 → ⊥) → (n ≡ 0 → ⊥) → (t ≡ 1 → ⊥) → (t ≡ 2 → ⊥) → bad 6 e ≡ judge_gso e n t
gso_other zero n t h k a b = absurd (h refl)
gso_other (suc e) n t h k a b = rw (ne_eqb n 0 k, ne_eqb t 1 a, ne_eqb t 2 b)

-- ---- a slot's part, by its source

abbrev bad_part : (cause place : ℕ) → Result ℕ Fault
bad_part cause place = Err (record { cause = cause; place = place })

module _ (table window : List ℕ) (k n : ℕ) (d : DataSlot) (s : Slot) (is : d ≡ data_of s) where
  fields : (d.gref ≡ gref s) × (d.offset ≡ offset s)
  unfolding data_of
  fields = (ap (λ (x : DataSlot). x.gref) is, ap (λ (x : DataSlot). x.offset) is)

  found : {r : Result ℕ Unlent} → r ≡ source_of table window d.gref d.offset n → r ≡ source_of table window (gref s) (offset s) n
  found h = h ∙ (λ i. source_of table window (fields.0 i) (fields.1 i) n)

  -- the cause that the source tells is the slot's
  pub part_bad : (r : Result ℕ Unlent) (c : ℕ) → r ≡ source_of table window d.gref d.offset n → source_cause r ≡ suc c → bad_part (suc c) k ≡ slot_part table window k s n
  unfolding slot_part judge_slot
  part_bad r c h e = go (fit_transmit table window (gref s)) (in_range table (gref s) (offset s) n) (sym e ∙ ap source_cause (found h) ∙ source_cause_lem table window (gref s) (offset s) n)
    where
      go : (f b : Bool) → suc c ≡ cond f (cond b 0 5) 4 → bad_part (suc c) k ≡ part_by (test (not f) 4 k or_else test (not b) 5 k) (slot_page table s)
      go true true x = no_confusion cc
      go true false x = ap (λ (y : ℕ). bad_part y k) x
      go false b x = ap (λ (y : ℕ). bad_part y k) x

  pub part_at : (q : ℕ) → Ok q ≡ source_of table window d.gref d.offset n → Ok q ≡ slot_part table window k s n
  unfolding slot_part judge_slot slot_page
  part_at q h = let e = found_at table window (gref s) (offset s) n q (found h) in rw (e.0, e.1, e.2)

-- and its verdict, by its part
pub by_bad : (v : Verdict) (page : ℕ) (f : Fault) → Err f ≡ part_by v page → v ≡ Err f
by_bad (Ok u) page f h = no_confusion cc
by_bad (Err g) page f h = cc

pub by_at : (v : Verdict) (page q : ℕ) → Ok q ≡ part_by v page → (v ≡ good) × (q ≡ page)
by_at (Ok u) page q h = (refl, (cc))
by_at (Err f) page q h = no_confusion cc

module _ (table window : List ℕ) (k : ℕ) (s : Slot) (n : ℕ) where
  pub slot_bad : (f : Fault) → Err f ≡ slot_part table window k s n → judge_slot table window k s n ≡ Err f
  unfolding slot_part
  slot_bad f h = by_bad (judge_slot table window k s n) (slot_page table s) f h

  pub slot_at : (q : ℕ) → Ok q ≡ slot_part table window k s n → (judge_slot table window k s n ≡ good) × (q ≡ slot_page table s)
  unfolding slot_part
  slot_at q h = by_at (judge_slot table window k s n) (slot_page table s) q h

-- ---- the table of sizes

-- as the divider leaves it
pub sizes_read : (before after : List ℕ) (later : List Slot) → after ≡ splice before 1 (map size later) → 0 < length before → SizesOf after later
unfolding SizesOf splice
sizes_read [] after later h some = absurd (omega arith)
sizes_read (x ∷ before) after later h some =
    rw h (take_at (map size later) (drop (1 + length (map size later)) (x ∷ before)) (length later) (length-map later size))

-- place by place
sizes_at : (sizes : List ℕ) (later : List Slot) → SizesOf sizes later → (j : ℕ) → j < length later → get_or sizes (j + 1) 0 ≡ size (get_or later j [])
unfolding SizesOf
sizes_at [] later h j k = absurd (omega (arith, ap length h, length-map later size, length-take (length later) (drop {A = ℕ} 1 []), length-drop {A = ℕ} 1 []))
sizes_at (x ∷ sizes) later h j k =
    rw (add-one j) (sym (get_or-take (length later) sizes j 0 k) ∙ ap (λ (l : List ℕ). get_or l j 0) h ∙ map_at size later j [] 0 k)

-- another first part leaves the later ones
pub later_held : (t : List Part) (v : Part) (later : List Slot) → SizesOf (sizes_in t) later → SizesOf (sizes_in (set t 0 v)) later
unfolding SizesOf
later_held [] v later h = h
later_held (x ∷ t) v later h = h

-- ---- the later data slots, one by one

module _ (table window page : List ℕ) (c extras later i : ℕ) (k : i < later) where
  abbrev here : Slot
  here = transmit_slot page (c + (extras + 1) + i)

  later_bad : (f : Fault) → judge_slot table window (suc extras + i) here (size here) ≡ Err f
      → judge_later table window (suc extras + i) (transmit_slots page (c + (extras + 1) + i) (later - i)) ≡ Err f
  later_bad f h =
      let z : later - i ≡ suc (later - (i + 1)) = omega arith in
      rw (z, h)

  later_good : judge_slot table window (suc extras + i) here (size here) ≡ good
      → judge_later table window (suc extras + i) (transmit_slots page (c + (extras + 1) + i) (later - i))
      ≡ judge_later table window (suc extras + (i + 1)) (transmit_slots page (c + (extras + 1) + (i + 1)) (later - (i + 1)))
  later_good h =
      let z : later - i ≡ suc (later - (i + 1)) = omega arith in
      let y : c + (extras + 1) + (i + 1) ≡ suc (c + (extras + 1) + i) = omega arith in
      let x : suc extras + (i + 1) ≡ suc (suc extras + i) = omega arith in
      rw (z, h, y, x)

pub later_none : (table window page : List ℕ) (k n m : ℕ) → m ≡ 0 → judge_later table window k (transmit_slots page n m) ≡ good
later_none table window page k n m h = rw h

-- the turn of the loop that judges later data slot i, whose part has m bytes and is r
module _ (table window page : List ℕ) (c extras later i : ℕ) (k : i < later) (sizes : List ℕ) (held : SizesOf sizes (later_at page c extras later))
    (n : ℕ) (wrapped : n ≡ wadd c (extras + 1 + i)) (d : DataSlot) (is : d ≡ data_of (transmit_slot page n)) (m : ℕ) (entered : m ≡ get_or sizes (i + 1) 0)
    (r : Result ℕ Fault) (judged : (s : Slot) → d ≡ data_of s → r ≡ slot_part table window (extras + 1 + i) s m) where
  abbrev this : Slot
  this = transmit_slot page (c + (extras + 1) + i)

  same : transmit_slot page n ≡ this
  unfolding wadd
  same = ap (transmit_slot page) wrapped ∙ slot_wrap 12 256 page (c + (extras + 1 + i)) refl ∙ ap (transmit_slot page) (sym (add_assoc c (extras + 1) i))

  its_size : m ≡ size this
  its_size =
      entered
      ∙ sizes_at sizes (later_at page c extras later) held i (omega (arith, slots_length 12 256 page later (c + (extras + 1))))
      ∙ ap size (slots_at 12 256 page later (c + (extras + 1)) i k)

  its_part : r ≡ slot_part table window (suc extras + i) this (size this)
  its_part =
      let z : extras + 1 + i ≡ suc extras + i = omega arith in
      judged this (is ∙ ap data_of same) ∙ (λ j. slot_part table window (z j) this (its_size j))

  pub turn_bad : (f : Fault) → r ≡ Err f → judge_later table window (suc extras + i) (transmit_slots page (c + (extras + 1) + i) (later - i)) ≡ Err f
  turn_bad f h = later_bad table window page c extras later i k f (slot_bad table window (suc extras + i) this (size this) f (sym h ∙ its_part))

  module _ (q : ℕ) (h : r ≡ Ok q) where
    at_this : (judge_slot table window (suc extras + i) this (size this) ≡ good) × (q ≡ slot_page table this)
    at_this = slot_at table window (suc extras + i) this (size this) q (sym h ∙ its_part)

    pub turn_good : judge_later table window (suc extras + i) (transmit_slots page (c + (extras + 1) + i) (later - i))
        ≡ judge_later table window (suc extras + (i + 1)) (transmit_slots page (c + (extras + 1) + (i + 1)) (later - (i + 1)))
    turn_good = later_good table window page c extras later i k at_this.0

    its_offset : d.offset ≡ offset this
    unfolding data_of
    its_offset = ap (λ (x : DataSlot). x.offset) is ∙ ap offset same

    turn_part : record { page = q; offset = d.offset; size = m } ≡ later_plan table this
    turn_part = λ j. record { page = at_this.1 j; offset = its_offset j; size = its_size j }

    -- the part goes into the table behind those before it
    pub turn_next : (before now : List Part) → take (i + 1) now ≡ take 1 before ++ map (later_plan table) (later_at page c extras i) → i + 1 < length now
        → take (i + 1 + 1) (set now (i + 1) (record { page = q; offset = d.offset; size = m })) ≡ take 1 before ++ map (later_plan table) (later_at page c extras (i + 1))
    turn_next before now so_far fits =
        take_more_set now (i + 1) _ fits
        ∙ ap (◌++ (record { page = q; offset = d.offset; size = m } ∷ [])) so_far
        ∙ append_assoc (take 1 before) (map (later_plan table) (later_at page c extras i)) _
        ∙ ap (take 1 before ++◌)
        (ap (λ (x : Part). map (later_plan table) (later_at page c extras i) ++ (x ∷ [])) turn_part
        ∙ sym (map-append (later_plan table) (later_at page c extras i) (this ∷ []))
        ∙ sym (ap (map (later_plan table)) (slots_snoc 12 256 page i (c + (extras + 1)))))

-- ---- a packet on the page, taken apart

module _ (page : List ℕ) (c n e : ℕ) (h : e < n) where
  pub packet_later : later_of e (transmit_slots page c n) ≡ later_at page c e (n - 1 - e)
  packet_later =
      let z : suc e + (n - 1 - e) ≡ n = omega arith in
      let y : c + suc e ≡ c + (e + 1) = omega arith in
      rw (z, y) at (slots_drop 12 256 page (suc e) (n - 1 - e) c)

  pub packet_first : first_of (transmit_slots page c n) ≡ transmit_slot page c
  packet_first =
      let z : n ≡ suc (n - 1) = omega arith in
      rw z

  pub datas_count : length (datas_of e (transmit_slots page c n)) ≡ n - e
  datas_count = ap (λ (l : List Slot). suc (length l)) packet_later ∙ ap suc (slots_length 12 256 page (n - 1 - e) (c + (e + 1))) ∙ (omega arith)

-- the outline of a packet, field by field
module _ (o : Outline) (e : ℕ) (p : List Slot) (h : o ≡ outline_of e p) where
  pub head_of : o.head ≡ data_of (first_of p)
  unfolding outline_of
  head_of = ap (λ (x : Outline). x.head) h

  pub total_of_lem : o.head.size ≡ total_of p
  unfolding outline_of data_of total_of
  total_of_lem = ap (λ (x : Outline). x.head.size) h

  pub head_offset : o.head.offset ≡ offset (first_of p)
  unfolding outline_of data_of
  head_offset = ap (λ (x : Outline). x.head.offset) h

  pub blank_of : bit 0 o.head.flags ≡ checksum_blank (first_of p)
  unfolding outline_of data_of checksum_blank
  blank_of = ap (λ (x : Outline). bit 0 x.head.flags) h

  pub validated_of : bit 1 o.head.flags ≡ data_validated (first_of p)
  unfolding outline_of data_of data_validated
  validated_of = ap (λ (x : Outline). bit 1 x.head.flags) h

  pub sum_of : o.later_bytes ≡ sizes (later_of e p)
  unfolding outline_of
  sum_of = ap (λ (x : Outline). x.later_bytes) h

  pub own_of : o.head.size - o.later_bytes ≡ own_part e p
  unfolding own_part
  own_of = λ i. total_of_lem i - sum_of i

  pub gso_size_of_lem : o.gso_size ≡ gso_size_of e p
  unfolding outline_of
  gso_size_of_lem = ap (λ (x : Outline). x.gso_size) h

  pub gso_type_of_lem : o.gso_type ≡ gso_type_of e p
  unfolding outline_of
  gso_type_of_lem = ap (λ (x : Outline). x.gso_type) h

-- ---- the plan

-- the first slot's part stands in the table, and the later ones' behind it
pub plan_whole : (table : List ℕ) (e : ℕ) (p later : List Slot) → later_of e p ≡ later → (before after : List Part) (v : Part) → 0 < length before → v ≡ planned table (first_of p) (own_part e p)
    → take (length later + 1) after ≡ take 1 (set before 0 v) ++ map (later_plan table) later → take (length (datas_of e p)) after ≡ plan table e p
plan_whole table e p later h [] after v some first w = absurd (omega arith)
plan_whole table e p later h (x ∷ t) after v some first w =
    let back = sym h in
    ap (λ (l : List Slot). take (suc (length l)) after) h ∙ ap (λ (n : ℕ). take n after) (sym (add-one (length later))) ∙ w ∙ (λ i. first i ∷ map (later_plan table) (back i))

-- ---- the verdict on all data slots

module _ (table window : List ℕ) (e : ℕ) (p : List Slot) where
  pub slots_bad : (f : Fault) → judge_slot table window 0 (first_of p) (own_part e p) ≡ Err f → judge_slots table window e p ≡ Err f
  unfolding judge_slots
  slots_bad f h = rw h

  pub slots_later : judge_slot table window 0 (first_of p) (own_part e p) ≡ good → judge_slots table window e p ≡ judge_later table window (suc e) (later_of e p)
  unfolding judge_slots
  slots_later h = rw h

  -- the verdict, rule after rule
  pub judge_sizes_bad : (f : Fault) → judge_sizes (total_of p) (sizes (later_of e p)) ≡ Err f → judge table window e p ≡ Err f
  unfolding judge
  judge_sizes_bad f h = rw h

  pub judge_slots_bad : (f : Fault) → judge_sizes (total_of p) (sizes (later_of e p)) ≡ good → judge_slots table window e p ≡ Err f → judge table window e p ≡ Err f
  unfolding judge
  judge_slots_bad f h g = rw (h, g)

  pub judge_gso_lem : judge_sizes (total_of p) (sizes (later_of e p)) ≡ good → judge_slots table window e p ≡ good → judge table window e p ≡ judge_gso e (gso_size_of e p) (gso_type_of e p)
  unfolding judge
  judge_gso_lem h g = rw (h, g)
