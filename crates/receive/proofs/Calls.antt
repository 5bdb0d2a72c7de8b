-- From the stages to the call: what is left after replies and scatter is what the definition says, and which of its cases a call
-- comes to, test by test.
use mathlib.Core.Path.{◌≡◌, refl, sym, ap, ◌∙◌}
use mathlib.Core.List.{List, [], ◌∷◌}
use mathlib.Core.Bool.{Bool, true, false, ◌||◌}
use Prim.Native.Nat.{ℕ, ◌+◌, ◌*◌, ◌≤◌, ◌<◌}
use native.Mathlib.Omega.{arith}
use lib.ListN.{length, take}
use lib.Seq.{take_all}
use lib.Dec.{ltb, eqb}
use borrow.Author.Tests.{lt-ltb, le-ltb, ltb-false}
use Rattle.words.specs.Word.{splice}
use Rattle.words.proofs.Word.{no_confusion}
use Rattle.ring.specs.Ring.{slot_place, posted, with_slots}
use Rattle.ring.proofs.Ring.{slots_length}
use Rattle.grant.specs.Grant.{with_page}
use Rattle.grant.specs.Lookup.{write_page}
use Rattle.std.specs.Prelude.{Some, None, Err}
use Rattle.grant.proofs.Grant.{receive_transmit, fit_page}
use Rattle.netif.specs.Slot.{request_ident, request_gref, receive_reply, receive_slot, receive_slots}
use Rattle.netif.specs.Decode.{request_of}
use Rattle.netif.specs.declared.Request.{Request}
use Rattle.answer.specs.Report.{spoiled_report, done_report, plain_summary}
use Rattle.answer.specs.Effect.{refusal, consume, Gives}
use Rattle.answer.specs.declared.Queue.{Queue}
use Rattle.answer.specs.declared.Outcome.{Outcome}
use Rattle.answer.specs.Verdict.{Verdict, good}
use Rattle.answer.specs.declared.Fault.{Fault}
use Rattle.receive.specs.Put.{bad_length, needed, pages_named, scatter, error_replies, piece_replies, refuse, deliver, settle, receive_put}
use Rattle.receive.specs.Stages.{AllUsable, Judged}
use Rattle.receive.proofs.Requests.{request_unfit, request_fit, good_usable}

-- ---- the requests that a frame needs

pub needed_few : (n : ℕ) → n ≤ 65535 → needed n ≤ 16
unfolding needed
needed_few n h = omega arith

pub needed_cover : (n : ℕ) → 4096 * needed n ≤ n + 4095
unfolding needed
needed_cover n = omega arith

pub needed_reach : (n : ℕ) → n ≤ 4096 * needed n
unfolding needed
needed_reach n = omega arith

pub one_piece : (n : ℕ) → needed n ≡ 1 → n ≤ 4096
unfolding needed
one_piece n h = omega arith

-- ---- consumed

module _ (old count : ℕ) (page : List ℕ) where
  all : count ≡ length (receive_slots page old count)
  all = sym (slots_length 8 256 page count old)

  pub refused : (cause place : ℕ) (replied after : List ℕ) (r : Outcome) → replied ≡ with_slots 8 256 page old (error_replies (receive_slots page old count))
      → ((buffer : List ℕ) → Gives (consume (spoiled_report cause place count) old count replied buffer) r after buffer)
      → (window : List ℕ) → Gives (refuse old page window (receive_slots page old count) cause place) r after window
  unfolding refuse
  refused cause place replied after r m e window = rw (← all, ← m) (e window)

  pub delivered : (pages window frame replied after window' : List ℕ) (r : Outcome) → replied ≡ with_slots 8 256 page old (piece_replies (receive_slots page old count) frame)
      → ((buffer : List ℕ) → Gives (consume (done_report (plain_summary count (length frame))) old count replied buffer) r after buffer)
      → window' ≡ scatter window pages frame → Gives (deliver old page window (receive_slots page old count) pages frame) r after window'
  unfolding deliver
  delivered pages window frame replied after window' r m e w = rw (← all, ← m, w) (e (scatter window pages frame))

-- ---- a frame of one piece

module _ (old : ℕ) (page window frame : List ℕ) (short : length frame ≤ 4096) where
  whole : take 4096 frame ≡ frame
  whole = take_all 4096 frame short

  pub one_delivered : (p : ℕ) (mid last window' : List ℕ) (r : Outcome)
      → mid ≡ splice page (slot_place 8 256 old) (receive_reply (request_ident (receive_slot page old)) 0 0 (length frame)) → ((buffer : List ℕ) → Gives (consume (done_report (plain_summary 1 (length frame))) old 1 mid buffer) r last buffer)
      → window' ≡ with_page window p frame → Gives (deliver old page window (receive_slots page old 1) (p ∷ []) frame) r last window'
  one_delivered p mid last window' r m e w =
      delivered old 1 page (p ∷ []) window frame mid last window' r
      (m ∙ ap (λ (l : List ℕ). splice page (slot_place 8 256 old) (receive_reply (request_ident (receive_slot page old)) 0 0 (length l))) (sym whole))
      e (w ∙ ap (with_page window p) (sym whole))

module _ (table window page : List ℕ) (old : ℕ) (q : Request) (reads : q ≡ request_of (receive_slot page old)) where
  pub one_unfit : None ≡ write_page table window q.gref → (frame : List ℕ) (r : Outcome) (ring' window' : List ℕ) → Gives (refuse old page window (receive_slots page old 1) 4 0) r ring' window'
      → Gives (settle table old page window (receive_slots page old 1) frame) r ring' window'
  one_unfit h frame r ring' window' d = rw (request_unfit table window page old q reads h) d

  module _ (p : ℕ) (fit : Some p ≡ write_page table window q.gref) where
    pub one_page : 4096 * p + 4096 ≤ length window
    one_page =
        let (fits, named) = request_fit table window page old q reads p fit in
        rw named (fit_page table window (request_gref (receive_slot page old)) (receive_transmit table window (request_gref (receive_slot page old)) fits))

    pub one_fit : (frame : List ℕ) (r : Outcome) (ring' window' : List ℕ) → Gives (deliver old page window (receive_slots page old 1) (p ∷ []) frame) r ring' window'
        → Gives (settle table old page window (receive_slots page old 1) frame) r ring' window'
    one_fit frame r ring' window' d = let (fits, named) = request_fit table window page old q reads p fit in rw (fits, ← named) d

-- ---- by what the judge found

module _ (table window page : List ℕ) (old count : ℕ) (pages : List ℕ) (long : length pages ≡ count) (v : Verdict) (judged : Judged table window (receive_slots page old count) pages v) where
  named : v ≡ good → pages ≡ pages_named table (receive_slots page old count)
  named h = sym (take_all (length (receive_slots page old count)) pages (omega (arith, slots_length 8 256 page count old))) ∙ judged.named h

  pub good_pages : v ≡ good → AllUsable (length window) pages
  good_pages h = rw (named h) (good_usable table window (receive_slots page old count) 0 (sym judged.verdict ∙ h))

  module _ (frame : List ℕ) (r : Outcome) (ring' window' : List ℕ) where
    pub settled_bad : (f : Fault) → v ≡ Err f → Gives (refuse old page window (receive_slots page old count) f.cause f.place) r ring' window'
        → Gives (settle table old page window (receive_slots page old count) frame) r ring' window'
    settled_bad f h d = rw (← judged.verdict, h) d

    pub settled_good : v ≡ good → Gives (deliver old page window (receive_slots page old count) pages frame) r ring' window'
        → Gives (settle table old page window (receive_slots page old count) frame) r ring' window'
    settled_good h d = rw (← judged.verdict, h) (rw (named h) at d)

-- ---- the call

or_false : (a b : Bool) → a || b ≡ false → b ≡ false
or_false true b h = no_confusion cc
or_false false b h = h

pub good_length : (n : ℕ) → bad_length n ≡ false → n ≤ 65535
unfolding bad_length
good_length n h = ltb-false 65535 n (or_false (ltb n 14) (ltb 65535 n) h)

pub sized_page : (page : List ℕ) → length page ≡ 4096 → eqb (length page) 4096 ≡ true
sized_page page h = ap (λ (n : ℕ). eqb n 4096) h

module _ (table : List ℕ) (q : Queue) (page window frame : List ℕ) where
  pub put_bad_page : eqb (length page) 4096 ≡ false → receive_put table q page window frame ≡ refusal 1 q page window
  unfolding receive_put
  put_bad_page h = rw h

  module _ (sized : eqb (length page) 4096 ≡ true) where
    pub put_bad_length : bad_length (length frame) ≡ true → receive_put table q page window frame ≡ refusal 9 q page window
    unfolding receive_put
    put_bad_length h = rw (sized, h)

    module _ (fine : bad_length (length frame) ≡ false) where
      pub put_halted : q.halted ≡ true → receive_put table q page window frame ≡ refusal 2 q page window
      unfolding receive_put
      put_halted h = rw (sized, fine, h)

      module _ (runs : q.halted ≡ false) (m : ℕ) (counts : m ≡ posted page q.consumed) where
        pub put_overflow : 256 < m → receive_put table q page window frame ≡ refusal 3 q page window
        unfolding receive_put
        put_overflow h = rw (sized, fine, runs, ← counts, lt-ltb 256 m h)

        module _ (room : m ≤ 256) (k : ℕ) (needs : k ≡ needed (length frame)) where
          pub put_no_buffers : m < k → receive_put table q page window frame ≡ refusal 10 q page window
          unfolding receive_put
          put_no_buffers h = rw (sized, fine, runs, ← counts, le-ltb 256 m room, ← needs, lt-ltb m k h)

          pub put_settled : k ≤ m → receive_put table q page window frame ≡ settle table q.consumed page window (receive_slots page q.consumed k) frame
          unfolding receive_put
          put_settled h = rw (sized, fine, runs, ← counts, le-ltb 256 m room, ← needs, le-ltb m k h)

-- a halted queue stays as it is
pub halted_stays : (table : List ℕ) (q : Queue) (page window frame : List ℕ) → q.halted ≡ true → (receive_put table q page window frame).queue.halted ≡ true
unfolding receive_put
halted_stays table q page window frame h = go (eqb (length page) 4096) (bad_length (length frame)) refl refl
  where
    go : (b d : Bool) → eqb (length page) 4096 ≡ b → bad_length (length frame) ≡ d → (receive_put table q page window frame).queue.halted ≡ true
    go false d e f = rw (e, h)
    go true true e f = rw (e, f, h)
    go true false e f = rw (e, f, h)
