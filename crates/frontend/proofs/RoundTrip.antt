-- What is posted comes back. A done post has passed its tests (`accepted`), so its packet stands from req_prod on and its pages hold the
-- frame; the grammar cuts the packet off whatever follows (`packet_divide`), it is judged good and its frame is the one posted
-- (`Reading`), and transmit's `packet_done` is then the take.
use mathlib.Core.Path.{◌≡◌, refl, sym, ap, ◌∙◌}
use mathlib.Core.List.{List, [], ◌∷◌, ◌++◌}
use mathlib.Core.Bool.{Bool, true, false, not, cond, ◌||◌}
use Prim.Native.Nat.{ℕ, zero, suc, ◌+◌, ◌*◌, ◌≤◌, ◌<◌}
use native.Mathlib.Omega.{arith}
use lib.ListN.{length, take, drop, length-take}
use lib.Seq.{take_at}
use lib.Dec.{ltb, eqb}
use borrow.Author.Tests.{eqb-true, ltb-false, le-ltb, not-false}
use Rattle.std.specs.Prelude.{Option}
use Rattle.words.specs.Word.{splice}
use Rattle.words.proofs.Word.{or_none}
use Rattle.ring.specs.Ring.{wrap, wadd, wsub, req_prod, posted, with_posted}
use Rattle.ring.proofs.Ring.{slots_length, slots_split}
use Rattle.ring.proofs.Counters.{posted_of, wadd_wadd, wsub_on}
use Rattle.netif.specs.Slot.{Slot, transmit_slots}
use Rattle.grammar.specs.Divide.{whole, divide}
use Rattle.answer.specs.Report.{flag}
use Rattle.answer.specs.Verdict.{good}
use Rattle.grammar.proofs.Grammar.{packet_divide}
use Rattle.packet.specs.Judge.{total_of, judge, frame_of}
use Rattle.held.specs.declared.Held.{Held}
use Rattle.held.specs.Records.{full, added, waiting}
use Rattle.held.specs.Valid.{between, valid}
use Rattle.transmit.specs.Take.{go_on, TakeEffect, overflow, waiting_slots, summary_of, handed_over, transmit_take}
use Rattle.transmit.proofs.Cases.{over_few, take_some, waiting_slots_lem, front_packet}
use Rattle.transmit.proofs.Settling.{packet_done}
use Rattle.receive.specs.Put.{bad_length, needed, scatter}
use Rattle.receive.proofs.Calls.{needed_cover, needed_reach}
use Rattle.frontend.specs.declared.Gso.{Gso}
use Rattle.frontend.specs.Pages.{all_fit, twice, pages_of, bad_pages}
use Rattle.frontend.specs.Post.{Posting, gso_extras, size_given, bad_gso, others, packet_for, free_slots, slots_for, used_refs, refused, post_packet, post}
use Rattle.frontend.specs.RoundTrip.{Refs, SameGrants, SameSlots, HasRoom, FitsRing, NotPast, ComesBack, RoundTrip, PostFits}
use Rattle.frontend.proofs.Fields.{blank_of, validated_of}
use Rattle.frontend.proofs.Shape.{few_extras, packet_count, later_count, extras_count, packet_for_lem, gso_size_posted, gso_type_posted, total_posted}
use Rattle.frontend.proofs.Written.{scatter_length, scatter_holds, Readable, Holds, fit_usable, same_holds, same_readable}
use Rattle.ring.proofs.Posting.{slots_of, posted_requests, posted_slot}
use Rattle.frontend.proofs.Standing.{whole_packet}
use Rattle.frontend.proofs.Reading.{frame_posted, judged_posted}

-- ---- what a done answer says

-- a test that was passed
step : (b : Bool) (n : ℕ) (page window : List ℕ) (y : Posting) → (cond b (refused (suc n) page window) y).report.answer ≡ 0
    → (b ≡ false) × (cond b (refused (suc n) page window) y ≡ y) × (y.report.answer ≡ 0)
step true n page window y h = absurd (omega arith)
step false n page window y h = (refl, refl, h)

pub record Accepted (table page window : List ℕ) (read : ℕ) (o : Option Gso) (refs frame : List ℕ) : Type 0 where
  pub size : length page ≡ 4096
  pub long : 14 ≤ length frame
  pub small : length frame < 65536
  pub gso : bad_gso o ≡ false
  pub enough : needed (length frame) ≤ length refs
  pub fit : all_fit table window (used_refs refs frame) ≡ true
  pub apart : twice (pages_of table (used_refs refs frame)) ≡ false
  pub free : slots_for o (length frame) ≤ free_slots page read
  pub result : post table page window read o refs frame ≡ post_packet table page window o refs frame

pub accepted : (table page window : List ℕ) (read : ℕ) (o : Option Gso) (refs frame : List ℕ) → (post table page window read o refs frame).report.answer ≡ 0 → Accepted table page window read o refs frame
unfolding post bad_length bad_pages
accepted table page window read o refs frame h =
    let (a, ea, ha) = step (not (eqb (length page) 4096)) 0 page window _ h in
    let (b, eb, hb) = step (bad_length (length frame)) 8 page window _ ha in
    let (c, ec, hc) = step (bad_gso o) 12 page window _ hb in
    let (d, ed, hd) = step (bad_pages table window refs (needed (length frame))) 11 page window _ hc in
    let (e, ee, he) = step (ltb (free_slots page read) (slots_for o (length frame))) 10 page window _ hd in
    let (b1, b2) = or_none (ltb (length frame) 14) (ltb 65535 (length frame)) b in
    let (d1, d3) = or_none (ltb (length refs) (needed (length frame)) || not (all_fit table window (used_refs refs frame))) (twice (pages_of table (used_refs refs frame))) d in
    let (d4, d5) = or_none (ltb (length refs) (needed (length frame))) (not (all_fit table window (used_refs refs frame))) d1 in
    record {
      size = eqb-true (length page) 4096 (not-false (eqb (length page) 4096) a);
      long = ltb-false (length frame) 14 b1;
      small = omega (arith, ltb-false 65535 (length frame) b2);
      gso = c;
      enough = ltb-false (length refs) (needed (length frame)) d4;
      fit = not-false (all_fit table window (used_refs refs frame)) d5;
      apart = d3;
      free = ltb-false (free_slots page read) (slots_for o (length frame)) e;
      result = ea ∙ eb ∙ ec ∙ ed ∙ ee;
    }

-- ---- the slots of a frame

pub slots_count : (o : Option Gso) (n k : ℕ) → k ≡ needed n → k + gso_extras o ≡ slots_for o n
unfolding slots_for
slots_count o n k h = ap (◌+ gso_extras o) h

-- k slots are posted from counter c on
module _ (page : List ℕ) (c k : ℕ) (h : req_prod page ≡ wadd c k) where
  waits : k < wrap → posted page c ≡ k
  unfolding posted
  waits s = rw h (posted_of c k s)

  -- and with those held they fit the ring
  no_overflow : (replied : ℕ) → FitsRing c replied k → overflow c replied page ≡ false
  unfolding posted between FitsRing
  no_overflow replied fits =
      let sent : posted page replied ≡ wsub c replied + k = ap (λ (x : ℕ). wsub x replied) h ∙ wsub_on c replied k (omega arith) in
      over_few page c replied (omega arith) ∙ le-ltb (posted page replied) (wsub c replied) (omega arith)

-- by a count of replies read that is not past the replies sent, as many slots as are free fit the ring
pub free_fits : (page : List ℕ) (read replied n : ℕ) → NotPast page read replied → n ≤ free_slots page read → 0 < n → FitsRing (req_prod page) replied n
unfolding NotPast free_slots posted between FitsRing
free_fits page read replied n a b some = omega arith

-- ---- what a done call leaves

module _ (table page window : List ℕ) (read : ℕ) (o : Option Gso) (refs frame : List ℕ) (h : (post table page window read o refs frame).report.answer ≡ 0) where
  packet_slots : (u : List ℕ) → length u ≡ needed (length frame) → 14 ≤ length frame → length (packet_for (req_prod page) o u frame) ≡ slots_for o (length frame)
  packet_slots [] count long = let x : length frame ≤ 4096 * needed (length frame) = needed_reach (length frame) in absurd (omega arith)
  packet_slots (g ∷ l) count long = packet_count (req_prod page) o g l frame ∙ slots_count o (length frame) (suc (length l)) count

  -- req_prod is behind the packet
  pub done_requests : req_prod (post table page window read o refs frame).page ≡ wadd (req_prod page) (slots_for o (length frame))
  unfolding post_packet
  done_requests =
      let a = accepted table page window read o refs frame h in
      let u = used_refs refs frame in
      let count : length u ≡ needed (length frame) = length-take (needed (length frame)) refs ∙ (omega (arith, a.enough)) in
      rw a.result
      (posted_requests 12 256 (omega arith) page (omega (arith, a.size)) (packet_for (req_prod page) o u frame) (whole_packet (req_prod page) o u frame)
      ∙ ap (wadd (req_prod page)) (packet_slots u count a.long))

-- ---- the take at the first slot

-- a packet p of d data slots and e extras stands at the front and is good, and there is room
module _ (table window : List ℕ) (c replied : ℕ) (page buffer : List ℕ) (records : List Held) (size : length page ≡ 4096) (p t : List Slot) (some : 0 < length p)
    (requests : req_prod page ≡ wadd c (length p + length t)) (stands : transmit_slots page c (length p + length t) ≡ p ++ t) (fits : FitsRing c replied (length p + length t))
    (d e : ℕ) (cut : divide (p ++ t) ≡ whole d e) (count : length p ≡ d + e)
    (good : judge table window e p ≡ good) (long : total_of p ≤ length buffer) (free : full records ≡ false) (sound : valid c replied records ≡ true) where
  pub takes_front : transmit_take table window (go_on c replied) page buffer records ≡ handed_over table window (go_on c replied) page buffer records e p
  unfolding FitsRing
  takes_front =
      let n = length p + length t in
      let posts : posted page c ≡ n = waits page c n requests (omega arith) in
      let slots : waiting_slots page c ≡ p ++ t = waiting_slots_lem page c n (sym posts) ∙ stands in
      let whole-p : take (d + e) (p ++ t) ≡ p = take_at p t (d + e) count in
      take_some table window (go_on c replied) page records size sound refl (no_overflow page c n requests replied fits) buffer (λ z. omega (arith, posts))
      ∙ front_packet table window (go_on c replied) page buffer records (p ++ t) slots d e cut
      ∙ rw whole-p (packet_done table window (go_on c replied) page buffer records e p good long free)

module _ (table window : List ℕ) (c replied : ℕ) (page buffer : List ℕ) (records : List Held) (o : Option Gso) (g : ℕ) (l frame : List ℕ) where
  -- what a packet that was handed over gives
  module _ (r : TakeEffect) (h : r ≡ handed_over table window (go_on c replied) page buffer records (gso_extras o) (packet_for c o (g ∷ l) frame))
      (small : length frame < 65536) (sized : size_given o < 65536) (framed : frame_of table window (gso_extras o) (packet_for c o (g ∷ l) frame) ≡ frame) where
    pub handed_back : (n : ℕ) → length (packet_for c o (g ∷ l) frame) ≡ n → ComesBack o frame buffer c replied page records n r
    unfolding handed_over summary_of
    handed_back n k = rw h (record {
      done = refl;
      no_cause = refl;
      no_place = refl;
      slots = k;
      quiet = refl;
      total = total_posted c o g l frame small;
      blank = ap flag (blank_of c g (length frame) (others l) (ltb 0 (gso_extras o)));
      validated = ap flag (validated_of c g (length frame) (others l) (ltb 0 (gso_extras o)));
      gso_sizes = gso_size_posted c o g l frame sized;
      gso_types = gso_type_posted c o g l frame;
      ticket = refl;
      queue = ap (λ (x : ℕ). go_on (wadd c x) replied) k;
      page_stays = refl;
      frame_bytes = ap (splice buffer 0) framed;
      held = ap (λ (x : ℕ). added records (waiting c x (gso_extras o))) k;
    })

-- ---- the round trip

module _ (table window page : List ℕ) (read : ℕ) (o : Option Gso) (frame : List ℕ) (size : length page ≡ 4096) (long : 14 ≤ length frame) (small : length frame < 65536) (gso : bad_gso o ≡ false) (sized : size_given o < 65536)
    (g : ℕ) (l : List ℕ) (count : suc (length l) ≡ needed (length frame)) (refs : Refs (g ∷ l)) (fit : all_fit table window (g ∷ l) ≡ true) (apart : twice (pages_of table (g ∷ l)) ≡ false)
    (table' window' page' buffer : List ℕ) (replied : ℕ) (records : List Held) (more : ℕ)
    (grants : SameGrants table (scatter window (pages_of table (g ∷ l)) frame) table' window' (g ∷ l))
    (slots : SameSlots (with_posted 12 256 page (packet_for (req_prod page) o (g ∷ l) frame)) page' (req_prod page) (slots_for o (length frame)) more)
    (ring : FitsRing (req_prod page) replied (slots_for o (length frame) + more)) (room : HasRoom (req_prod page) replied records frame buffer) where
  trip : ComesBack o frame buffer (req_prod page) replied page' records (slots_for o (length frame)) (transmit_take table' window' (go_on (req_prod page) replied) page' buffer records)
  unfolding packet_for_lem
  trip =
      let c = req_prod page in
      let p = packet_for c o (g ∷ l) frame in
      let N = slots_for o (length frame) in
      let fits : length frame ≤ 4096 * suc (length l) = (let x : length frame ≤ 4096 * needed (length frame) = needed_reach (length frame) in omega arith) in
      let under : 4096 * suc (length l) < length frame + 4096 = (let x : 4096 * needed (length frame) ≤ length frame + 4095 = needed_cover (length frame) in omega arith) in
      let few : length l ≤ 15 = omega arith in
      let n : length p ≡ N = packet_count c o g l frame ∙ slots_count o (length frame) (suc (length l)) count in
      let e1 : gso_extras o ≤ 1 = few_extras o in
      let short : length p ≤ 256 = omega (arith, packet_count c o g l frame) in
      let whole-p = whole_packet c o (g ∷ l) frame in
      let requests : req_prod page' ≡ wadd c (length p + more)
      = slots.requests ∙ ap (λ (x : ℕ). wadd x more) (posted_requests 12 256 (omega arith) page (omega arith) p whole-p) ∙ wadd_wadd c (length p) more in
      let t = transmit_slots page' (c + length p) more in
      let tail : length t ≡ more = slots_length 12 256 page' more (c + length p) in
      let front : transmit_slots page' c (length p) ≡ p
      = slots_of 12 256 page' c p (λ j h. slots.slots j (omega (arith, n)) ∙ posted_slot 12 256 (omega arith) page (omega arith) p whole-p short j h) in
      let stands : transmit_slots page' c (length p + more) ≡ p ++ t
      = slots_split 12 256 page' (length p) more c ∙ ap (◌++ t) front in
      let cut : divide (p ++ t) ≡ whole (suc (length l)) (gso_extras o)
      = packet_divide (packet_for_lem c o g l frame (omega arith)) t ∙ (λ i. whole (suc (later_count (suc c + gso_extras o) l (drop 4096 frame) i)) (extras_count o i)) in
      let after : length (scatter window (pages_of table (g ∷ l)) frame) ≡ length window
      = scatter_length (pages_of table (g ∷ l)) window frame (fit_usable table window (g ∷ l) fit) in
      let held : Holds table' window' (g ∷ l) frame
      = same_holds table (scatter window (pages_of table (g ∷ l)) frame) table' window' (g ∷ l) frame grants
      (scatter_holds table (g ∷ l) window frame (fit_usable table window (g ∷ l) fit) apart fits) in
      let readable : Readable table' window' (g ∷ l)
      = same_readable table (scatter window (pages_of table (g ∷ l)) frame) table' window' window (g ∷ l) after fit grants in
      let good : judge table' window' (gso_extras o) p ≡ good = judged_posted table' window' c o g l frame small fits refs long gso sized readable in
      let total : total_of p ≡ length frame = total_posted c o g l frame small in
      let all : slots_for o (length frame) + more ≡ length p + length t = (λ i. sym n i + sym tail i) in
      let r : transmit_take table' window' (go_on c replied) page' buffer records ≡ handed_over table' window' (go_on c replied) page' buffer records (gso_extras o) p
      = takes_front table' window' c replied page' buffer records slots.size p t (omega (arith, packet_count c o g l frame)) (rw tail requests) (rw tail stands) (rw all at ring)
      (suc (length l)) (gso_extras o) cut (packet_count c o g l frame) good (omega (arith, room.long)) room.record_free room.sound in
      handed_back table' window' c replied page' buffer records o g l frame (transmit_take table' window' (go_on c replied) page' buffer records) r small sized
      (frame_posted table' window' c o g l frame small fits refs held) N n

refs_take : (refs : List ℕ) (k : ℕ) → Refs refs → Refs (take k refs)
refs_take refs zero h = tt
refs_take [] (suc k) h = tt
refs_take (g ∷ l) (suc k) h = (h.0, refs_take l k h.1)

-- for the references that are used
module _ (table window page : List ℕ) (read : ℕ) (o : Option Gso) (frame : List ℕ) (size : length page ≡ 4096) (long : 14 ≤ length frame) (small : length frame < 65536) (gso : bad_gso o ≡ false) (sized : size_given o < 65536)
    (table' window' page' buffer : List ℕ) (replied : ℕ) (records : List Held) (more : ℕ)
    (ring : FitsRing (req_prod page) replied (slots_for o (length frame) + more)) (room : HasRoom (req_prod page) replied records frame buffer) where
  finish : (u : List ℕ) → length u ≡ needed (length frame) → Refs u → all_fit table window u ≡ true → twice (pages_of table u) ≡ false
      → SameGrants table (scatter window (pages_of table u) frame) table' window' u
      → SameSlots (with_posted 12 256 page (packet_for (req_prod page) o u frame)) page' (req_prod page) (slots_for o (length frame)) more
      → ComesBack o frame buffer (req_prod page) replied page' records (slots_for o (length frame)) (transmit_take table' window' (go_on (req_prod page) replied) page' buffer records)
  finish [] count refs fit apart grants slots =
      let x : length frame ≤ 4096 * needed (length frame) = needed_reach (length frame) in absurd (omega arith)
  finish (g ∷ l) count refs fit apart grants slots =
      trip table window page read o frame size long small gso sized g l count refs fit apart table' window' page' buffer replied records more grants slots ring room

pub round_trip : RoundTrip
unfolding RoundTrip post_packet
round_trip table window page read o refs frame small32 sized h table' window' page' buffer replied records more grants slots ring room =
    let a = accepted table page window read o refs frame h in
    finish table window page read o frame a.size a.long a.small a.gso sized table' window' page' buffer replied records more ring room (used_refs refs frame)
    (length-take (needed (length frame)) refs ∙ (omega (arith, a.enough))) (refs_take refs (needed (length frame)) small32) a.fit a.apart
    (rw a.result at grants) (rw a.result at slots)

pub post_fits : PostFits
unfolding PostFits slots_for
post_fits table window page read o refs frame h replied past =
    let a = accepted table page window read o refs frame h in
    let x : length frame ≤ 4096 * needed (length frame) = needed_reach (length frame) in
    free_fits page read replied (slots_for o (length frame)) past a.free (omega (arith, a.long))
