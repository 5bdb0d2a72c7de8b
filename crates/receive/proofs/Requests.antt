-- The requests of a frame as the code judges them: one more that is fit, one that is not, the table of their pages, and that
-- the pages of requests that are all fit lie in the window.
use mathlib.Core.Path.{◌≡◌, refl, sym, ap, ◌∙◌}
use mathlib.Core.List.{List, [], ◌∷◌, ◌++◌, map-append}
use mathlib.Core.Bool.{Bool, true, false, not}
use Prim.Native.Nat.{ℕ, suc, ◌+◌, ◌-◌, ◌<◌}
use native.Mathlib.Omega.{arith}
use native.Mathlib.Numerals.{add-one}
use lib.ListN.{length, take, set}
use lib.Seq.{take-suc-set}
use Rattle.words.proofs.Word.{no_confusion}
use Rattle.ring.specs.Ring.{wadd}
use Rattle.ring.proofs.Ring.{slots_snoc, slots_length}
use Rattle.grant.specs.Grant.{fit_receive}
use Rattle.grant.specs.Lookup.{write_page}
use Rattle.std.specs.Prelude.{Some, None}
use Rattle.grant.proofs.Grant.{write_fit, write_unfit, receive_transmit, fit_page}
use Rattle.netif.specs.Slot.{Slot, request_gref, receive_slot, receive_slots}
use Rattle.netif.specs.Decode.{request_of}
use Rattle.answer.specs.Verdict.{Verdict, good, bad, test, ◌or_else◌}
use Rattle.netif.specs.declared.Request.{Request}
use Rattle.receive.specs.Put.{page_named, pages_named, judge}
use Rattle.receive.specs.Stages.{AllUsable, Judged}
use Rattle.ring.proofs.Replied.{slot_ahead, slots_ahead}

pub gref_field : (s : Slot) (r : Request) → r ≡ request_of s → r.gref ≡ request_gref s
unfolding request_of
gref_field s r h = ap (λ (x : Request). x.gref) h

not_good : (c k : ℕ) → bad c k ≡ good → ⊥
not_good c k h = no_confusion cc

-- the request at slot n: the page that its grant names, or that it is unfit
module _ (table window page : List ℕ) (n : ℕ) (r : Request) (reads : r ≡ request_of (receive_slot page n)) where
  grefs : r.gref ≡ request_gref (receive_slot page n)
  grefs = gref_field (receive_slot page n) r reads

  pub request_unfit : None ≡ write_page table window r.gref → fit_receive table window (request_gref (receive_slot page n)) ≡ false
  request_unfit h = write_unfit table window (request_gref (receive_slot page n)) (rw grefs at h)

  pub request_fit : (p : ℕ) → Some p ≡ write_page table window r.gref → (fit_receive table window (request_gref (receive_slot page n)) ≡ true) × (p ≡ page_named table (receive_slot page n))
  request_fit p h = write_fit table window (request_gref (receive_slot page n)) p (rw grefs at h)

module _ (table window page : List ℕ) (first count n i : ℕ) (here : n ≡ wadd first i) (r : Request) (reads : r ≡ request_of (receive_slot page n)) where
  judge_unfit : i < count → None ≡ write_page table window r.gref → judge table window i (receive_slots page (first + i) (count - i)) ≡ bad 4 i
  judge_unfit k h = rw (slots_ahead 8 256 refl page first n i count k here, request_unfit table window page n r reads h)

  -- it is unfit
  pub judged_unfit : (pages : List ℕ) → judge table window 0 (receive_slots page first count) ≡ judge table window i (receive_slots page (first + i) (count - i))
      → i < count → None ≡ write_page table window r.gref → Judged table window (receive_slots page first count) pages (bad 4 i)
  judged_unfit pages inv k h = record { verdict = sym (inv ∙ judge_unfit k h); named = λ g. absurd (not_good 4 i g) }

  -- it is fit
  module _ (p : ℕ) (fit : Some p ≡ write_page table window r.gref) where
    fits : (fit_receive table window (request_gref (receive_slot page n)) ≡ true) × (p ≡ page_named table (receive_slot page n))
    fits = request_fit table window page n r reads p fit

    pub judge_fit : i < count → judge table window i (receive_slots page (first + i) (count - i)) ≡ judge table window (i + 1) (receive_slots page (first + (i + 1)) (count - (i + 1)))
    judge_fit k = rw (slots_ahead 8 256 refl page first n i count k here, fits.0, add-one i)

    pub table_next : (pages : List ℕ) → i < length pages → take i pages ≡ pages_named table (receive_slots page first i) → take (i + 1) (set pages i p) ≡ pages_named table (receive_slots page first (i + 1))
    table_next pages h e =
        let named : p ≡ page_named table (receive_slot page (first + i)) = fits.1 ∙ ap (page_named table) (slot_ahead 8 256 refl page first n i here) in
        rw (add-one i) (take-suc-set pages i p h)
        ∙ ap (◌++ (p ∷ [])) e
        ∙ ap (λ (x : ℕ). pages_named table (receive_slots page first i) ++ (x ∷ [])) named
        ∙ sym (map-append (page_named table) (receive_slots page first i) (receive_slot page (first + i) ∷ []))
        ∙ sym (ap (pages_named table) (slots_snoc 8 256 page i first))

-- none is left
pub judged_good : (table window page : List ℕ) (first count i : ℕ) (pages : List ℕ)
    → judge table window 0 (receive_slots page first count) ≡ judge table window i (receive_slots page (first + i) (count - i)) → take i pages ≡ pages_named table (receive_slots page first i)
    → i ≡ count → Judged table window (receive_slots page first count) pages good
judged_good table window page first count i pages inv named h =
    let none : count - i ≡ 0 = omega arith in
    let all : length (receive_slots page first count) ≡ i = slots_length 8 256 page count first ∙ sym h in
    record {
      verdict = sym (inv ∙ ap (λ (k : ℕ). judge table window i (receive_slots page (first + i) k)) none);
      named = λ g. rw all (named ∙ ap (λ (k : ℕ). pages_named table (receive_slots page first k)) h);
    }

-- the verdict on requests that are all fit
rest_good : (b : Bool) (k : ℕ) (v : Verdict) → test (not b) 4 k or_else v ≡ good → (b ≡ true) × (v ≡ good)
rest_good true k v h = (refl, h)
rest_good false k v h = no_confusion cc

pub good_usable : (table window : List ℕ) (l : List Slot) (k : ℕ) → judge table window k l ≡ good → AllUsable (length window) (pages_named table l)
good_usable table window [] k h = tt
good_usable table window (s ∷ l) k h =
    let (fit, rest) = rest_good (fit_receive table window (request_gref s)) k (judge table window (suc k) l) h in
    (fit_page table window (request_gref s) (receive_transmit table window (request_gref s) fit), good_usable table window l (suc k) rest)
