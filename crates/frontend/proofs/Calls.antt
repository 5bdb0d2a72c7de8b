-- The packet as the code writes it, slot after slot, and the call as the code goes through it.
use mathlib.Core.Path.{◌≡◌, refl, sym, ap, ◌∙◌}
use mathlib.Core.List.{List, [], ◌∷◌, ◌++◌}
use mathlib.Core.Bool.{Bool, true, false, not, ◌||◌}
use Prim.Native.Nat.{ℕ, suc, ◌+◌, ◌-◌, ◌*◌, ◌≤◌, ◌<◌}
use native.Mathlib.Omega.{arith}
use lib.ListN.{length, take, drop, get_or, length-drop}
use lib.Seq.{drop-cons, length-take-le, take_all}
use lib.Dec.{ltb, eqb}
use borrow.Author.Tests.{eq-eqb, lt-ltb, le-ltb, ltb-false, not-false}
use Rattle.std.specs.Prelude.{Option, Ok, Err, is_err}
use Rattle.words.specs.Word.{splice}
use Rattle.words.proofs.Word.{or_none}
use Rattle.ring.specs.Ring.{wadd, req_prod, notify, ProducerMoved, slot_place, with_slots, with_producer, with_posted}
use Rattle.ring.specs.declared.Side.TheVariants.{Requests}
use Rattle.ring.proofs.Ring.{replies_append}
use Rattle.ring.proofs.Posting.{replies_wadd, whole_short}
use Rattle.ring.proofs.Replied.{notify_replied}
use Rattle.netif.specs.Slot.{Slot}
use Rattle.grant.specs.Grant.{with_page}
use Rattle.receive.specs.Put.{bad_length, needed, scatter}
use Rattle.receive.proofs.Calls.{one_piece}
use Rattle.frontend.specs.declared.Gso.{Gso}
use Rattle.answer.specs.Verdict.{Verdict}
use Rattle.answer.specs.Report.{done_report, plain_summary}
use Rattle.frontend.specs.declared.Refusal.TheVariants.{BadPage, BadLength, NoSlots, BadPages, BadGso}
use Rattle.frontend.specs.Pages.{all_fit, twice, pages_of, bad_pages}
use Rattle.frontend.specs.Post.{gso_extras, is_bad, bad_gso, flags_for, others, data_for, later_for, extras_for, packet_for, free_slots, slots_for, post_packet, post}
use Rattle.frontend.specs.Stages.{PagesTested, WithPacket, Posts}
use Rattle.receive.specs.Stages.{AllUsable}
use Rattle.frontend.proofs.Shape.{packet_count, extras_count}
use Rattle.frontend.proofs.Standing.{whole_packet}
use Rattle.frontend.proofs.Written.{fit_usable}
use Rattle.frontend.proofs.Stored.{later_wadd}

-- ---- the packet

more_later : (l : List ℕ) (count : ℕ) → suc (length l) ≡ count → others l ≡ ltb 1 count
more_later [] count h = rw (← h) refl
more_later (g ∷ l) count h = sym (lt-ltb 1 count (omega arith))

module _ (page : List ℕ) (size : length page ≡ 4096) (o : Option Gso) (g : ℕ) (l frame : List ℕ) (count e fl : ℕ) (counts : suc (length l) ≡ count) (extras : e ≡ gso_extras o) (flagged : fl ≡ flags_for (ltb 1 count) (ltb 0 e)) where
  abbrev p : List Slot
  p = packet_for (req_prod page) o (g ∷ l) frame

  module _ (p1 p2 p3 : List ℕ) (old n1 n2 new : ℕ) (at : old ≡ req_prod page)
      (w1 : p1 ≡ splice page (slot_place 12 256 old) (data_for old g fl (length frame)))
      (a1 : n1 ≡ wadd old 1) (w2 : p2 ≡ with_slots 12 256 p1 n1 (extras_for o))
      (a2 : n2 ≡ wadd old (1 + e)) (w3 : p3 ≡ with_slots 12 256 p2 n2 (later_for n2 l (drop 4096 frame)))
      (a4 : new ≡ wadd old (count + e)) where
    slots_written : p3 ≡ with_slots 12 256 page (req_prod page) p
    slots_written =
        let first : data_for old g fl (length frame) ≡ data_for (req_prod page) g (flags_for (others l) (ltb 0 (gso_extras o))) (length frame)
        = rw (at, flagged, extras, more_later l count counts) refl in
        let q1 : p1 ≡ splice page (slot_place 12 256 (req_prod page)) (data_for (req_prod page) g (flags_for (others l) (ltb 0 (gso_extras o))) (length frame))
        = w1 ∙ (λ i. splice page (slot_place 12 256 (at i)) (first i)) in
        let c = req_prod page in
        let z1 : c + 1 ≡ suc c = omega arith in
        let z2 : c + (1 + gso_extras o) ≡ suc c + gso_extras o = omega arith in
        let z3 : suc c + length (extras_for o) ≡ suc c + gso_extras o = ap (suc c +◌) (extras_count o) in
        let q2 : p2 ≡ with_slots 12 256 p1 (suc c) (extras_for o) = w2 ∙ rw (a1, at) (replies_wadd 12 256 refl (extras_for o) p1 c 1) ∙ ap (λ (x : ℕ). with_slots 12 256 p1 x (extras_for o)) z1 in
        let q3 : p3 ≡ with_slots 12 256 p2 (suc c + gso_extras o) (later_for (suc c + gso_extras o) l (drop 4096 frame))
        = w3 ∙ rw (a2, at, extras, later_wadd l (drop 4096 frame) c (1 + gso_extras o)) (replies_wadd 12 256 refl (later_for (c + (1 + gso_extras o)) l (drop 4096 frame)) p2 c (1 + gso_extras o))
        ∙ ap (λ (x : ℕ). with_slots 12 256 p2 x (later_for x l (drop 4096 frame))) z2 in
        q3
        ∙ ap (λ (x : List ℕ). with_slots 12 256 x (suc c + gso_extras o) (later_for (suc c + gso_extras o) l (drop 4096 frame))) q2
        ∙ ap (λ (x : ℕ). with_slots 12 256 (with_slots 12 256 p1 (suc c) (extras_for o)) x (later_for (suc c + gso_extras o) l (drop 4096 frame))) (sym z3)
        ∙ sym (replies_append 12 256 (extras_for o) (later_for (suc c + gso_extras o) l (drop 4096 frame)) p1 (suc c))
        ∙ ap (λ (x : List ℕ). with_slots 12 256 x (suc c) (extras_for o ++ later_for (suc c + gso_extras o) l (drop 4096 frame))) q1

    moved : new ≡ wadd (req_prod page) (length p)
    moved = a4 ∙ rw (at, extras, ← counts, packet_count (req_prod page) o g l frame) refl

    pub packet_written : (after : List ℕ) (r : Bool) → ProducerMoved Requests p3 old new after r → WithPacket page o (g ∷ l) frame after r
    unfolding with_posted
    packet_written after r h = record {
      written = h.page ∙ (λ i. with_producer Requests (slots_written i) (moved i));
      notifies = h.notifies ∙ (λ i. notify Requests (slots_written i) (at i) (moved i)) ∙ notify_replied 12 256 (omega arith) page (omega arith) (req_prod page) p (whole_short 12 p (whole_packet (req_prod page) o (g ∷ l) frame)) Requests (req_prod page) (wadd (req_prod page) (length p));
    }

-- the references that are used, the first of them apart
pub used_cons : (refs : List ℕ) → 1 ≤ length refs → refs ≡ get_or refs 0 0 ∷ drop 1 refs
used_cons refs h = drop-cons refs 0 0 h

pub used_count : (refs : List ℕ) → 1 ≤ length refs → suc (length (drop 1 refs)) ≡ length refs
used_count refs h = omega (arith, length-drop 1 refs)

-- those behind the first, as the code cuts them out
pub used_rest : (refs : List ℕ) → take (length refs - 1) (drop 1 refs) ≡ drop 1 refs
used_rest refs = take_all (length refs - 1) (drop 1 refs) (omega (arith, length-drop 1 refs))

pub packet_slots : (n : ℕ) (o : Option Gso) (refs frame : List ℕ) → 1 ≤ length refs → length (packet_for n o refs frame) ≡ length refs + gso_extras o
packet_slots n o refs frame h = ap (λ (x : List ℕ). length (packet_for n o x frame)) (used_cons refs h) ∙ packet_count n o (get_or refs 0 0) (drop 1 refs) frame ∙ ap (◌+ gso_extras o) (used_count refs h)

-- ---- the call

pub record Counts (n k : ℕ) : Type 0 where
  pub small : n ≤ 65535
  pub some : 1 ≤ k
  pub few : k ≤ 16
  pub under : 4096 * k ≤ n + 4095
  pub reach : n ≤ 4096 * k

pub frame_counts : (n k : ℕ) → bad_length n ≡ false → k ≡ needed n → Counts n k
unfolding bad_length needed
frame_counts n k h e =
    let (a, b) = or_none (ltb n 14) (ltb 65535 n) h in
    let long : 14 ≤ n = ltb-false n 14 a in
    let short : n ≤ 65535 = ltb-false 65535 n b in
    record { small = short; some = omega arith; few = omega arith; under = omega arith; reach = omega arith }

pub frame_small : (n : ℕ) → bad_length n ≡ false → n ≤ 65535
unfolding bad_length
frame_small n h = ltb-false 65535 n (or_none (ltb n 14) (ltb 65535 n) h).1

-- the references are enough, and their pages lie in the window
pub sorted_facts : (table window refs : List ℕ) (k : ℕ) (pages : List ℕ) (r : Bool) → PagesTested table window refs k pages r → r ≡ false → (k ≤ length refs) × AllUsable (length window) (take k pages)
unfolding bad_pages
sorted_facts table window refs k pages r s h =
    let t : bad_pages table window refs k ≡ false = sym s.answer ∙ h in
    let (a, b) = or_none (ltb (length refs) k || not (all_fit table window (take k refs))) (twice (pages_of table (take k refs))) t in
    let (d, e) = or_none (ltb (length refs) k) (not (all_fit table window (take k refs))) a in
    (ltb-false (length refs) k d, rw (s.named h) (fit_usable table window (take k refs) (not-false _ e)))

-- whether gso is bad, as the code asks it
pub bad_is_err : (v : Verdict) → is_err v ≡ is_bad v
bad_is_err (Ok u) = refl
bad_is_err (Err f) = refl

-- a frame of one page is one piece
pub one_scattered : (window frame : List ℕ) (p : ℕ) → needed (length frame) ≡ 1 → with_page window p frame ≡ scatter window (take 1 (p ∷ [])) frame
one_scattered window frame p h = ap (with_page window p) (sym (take_all 4096 frame (one_piece (length frame) h)))

module _ (table page window : List ℕ) (read : ℕ) (o : Option Gso) (refs frame : List ℕ) where
  pub posts_bad_page : eqb (length page) 4096 ≡ false → Posts (post table page window read o refs frame) (Err BadPage) page window
  unfolding post
  posts_bad_page h = rw h (record { report = refl; page = refl; window = refl })

  module _ (size : eqb (length page) 4096 ≡ true) where
    pub posts_bad_length : bad_length (length frame) ≡ true → Posts (post table page window read o refs frame) (Err BadLength) page window
    unfolding post
    posts_bad_length h = rw (size, h) (record { report = refl; page = refl; window = refl })

    module _ (framed : bad_length (length frame) ≡ false) where
      pub posts_bad_gso : bad_gso o ≡ true → Posts (post table page window read o refs frame) (Err BadGso) page window
      unfolding post
      posts_bad_gso h = rw (size, framed, h) (record { report = refl; page = refl; window = refl })

  module _ (size : length page ≡ 4096) (framed : bad_length (length frame) ≡ false) (gso : bad_gso o ≡ false) (k : ℕ) (count : k ≡ needed (length frame)) (pages : List ℕ) (r : Bool) (sorted : PagesTested table window refs k pages r) where
    bad_as : bad_pages table window refs (needed (length frame)) ≡ r
    bad_as = ap (bad_pages table window refs) (sym count) ∙ sym sorted.answer

    pub posts_bad_pages : r ≡ true → Posts (post table page window read o refs frame) (Err BadPages) page window
    unfolding post
    posts_bad_pages h = rw (eq-eqb (length page) 4096 size, framed, gso, bad_as ∙ h) (record { report = refl; page = refl; window = refl })

    module _ (good : r ≡ false) (e f : ℕ) (extras : e ≡ gso_extras o) (free : f ≡ free_slots page read) where
      slots_as : slots_for o (length frame) ≡ k + e
      unfolding slots_for
      slots_as = rw (count, extras) refl

      pub posts_no_slots : f < k + e → Posts (post table page window read o refs frame) (Err NoSlots) page window
      unfolding post
      posts_no_slots h =
          rw (eq-eqb (length page) 4096 size, framed, gso, bad_as ∙ good, ← free, slots_as, lt-ltb f (k + e) h) (record { report = refl; page = refl; window = refl })

      pub posts_posted : k + e ≤ f → (window' page' : List ℕ) (n : Bool) → window' ≡ scatter window (take k pages) frame → WithPacket page o (take k refs) frame page' n
          → Posts (post table page window read o refs frame) (Ok (record { slots = k + e; notify = n })) page' window'
      unfolding post post_packet
      posts_posted h window' page' n w p =
          let c = frame_counts (length frame) k framed count in
          let enough = (sorted_facts table window refs k pages r sorted good).0 in
          let used : length (take k refs) ≡ k = length-take-le k refs enough in
          let len : length (packet_for (req_prod page) o (take k refs) frame) ≡ k + e = packet_slots (req_prod page) o (take k refs) frame (omega (arith, c.some, used)) ∙ (λ i. used i + sym extras i) in
          let told : n ≡ notify Requests page (req_prod page) (wadd (req_prod page) (k + e)) = p.notifies ∙ ap (λ (x : ℕ). notify Requests page (req_prod page) (wadd (req_prod page) x)) len in
          rw (eq-eqb (length page) 4096 size, framed, gso, bad_as ∙ good, ← free, slots_as, le-ltb f (k + e) h, ← count)
          (record { report = ap (done_report (plain_summary (k + e) 0)) told; page = p.written; window = w ∙ ap (λ (x : List ℕ). scatter window x frame) (sorted.named good) })
