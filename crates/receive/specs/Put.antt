-- Document 01, "Receive": one receive call, in the order of its answers.
use Rattle.std.specs.Prelude.{List, [], ◌∷◌, map, Bool, not, cond, ◌||◌, ℕ, suc, ◌+◌, ◌/◌, length, take, drop, ltb, eqb, Ok, Err}
use Rattle.ring.specs.Ring.{page_size, posted, with_slots}
use Rattle.grant.specs.Grant.{fit_receive, page_of, with_page}
use Rattle.netif.specs.Slot.{Slot, request_width, request_count, error, request_ident, request_gref, receive_reply, receive_slots}
use Rattle.answer.specs.Report.{spoiled_report, done_report, plain_summary}
use Rattle.answer.specs.Effect.{Effect, refusal, consume}
use Rattle.answer.specs.Verdict.{Verdict, good, test, ◌or_else◌}
use Rattle.answer.specs.declared.Queue.{Queue}

-- a frame is 14 to 65,535 bytes long
unfoldable pub bad_length : ℕ → Bool
bad_length n = ltb n 14 || ltb 65535 n

-- a frame goes out in pieces of so many bytes, the last perhaps shorter
abbrev pub piece_size : ℕ
piece_size = 4096

-- the requests that it needs, one for each piece: its length by the size of a piece, rounded up
unfoldable pub needed : ℕ → ℕ
needed n = (n + 4095) / piece_size

module _ (table : List ℕ) where
  -- the pages that requests name
  abbrev pub page_named : Slot → ℕ
  page_named s = page_of table (request_gref s)

  abbrev pub pages_named : List Slot → List ℕ
  pages_named l = map page_named l

  -- each request's grant, from place k on: the first unfit one is cause 4, with its place
  abbrev pub judge : List ℕ → ℕ → List Slot → Verdict
  judge window k [] = good
  judge window k (s ∷ l) = test (not (fit_receive table window (request_gref s))) 4 k or_else judge window (suc k) l

-- the frame's pieces at offset 0 of the pages, in order
abbrev pub scatter : List ℕ → List ℕ → List ℕ → List ℕ
scatter window [] frame = window
scatter window (p ∷ l) frame = scatter (with_page window p (take piece_size frame)) l (drop piece_size frame)

-- the flags of a reply: 4 if others follow it, 0 on the last
abbrev pub reply_flags : Bool → ℕ
reply_flags more = cond more 4 0

-- replies to requests that got the pieces of a frame: the status is the piece's length
abbrev pub piece_replies : List Slot → List ℕ → List (List ℕ)
piece_replies [] frame = []
piece_replies (s ∷ l) frame =
    receive_reply (request_ident s) 0 (reply_flags (ltb 0 (length l))) (length (take piece_size frame)) ∷ piece_replies l (drop piece_size frame)

-- replies to requests of which one is unfit
abbrev pub error_reply : Slot → List ℕ
error_reply s = receive_reply (request_ident s) 0 0 error

abbrev pub error_replies : List Slot → List (List ℕ)
error_replies l = map error_reply l

-- one of the requests is unfit: all get an error, and no page is written
unfoldable pub refuse : (old : ℕ) (page window : List ℕ) (requests : List Slot) (cause place : ℕ) → Effect
refuse old page window requests cause place =
    consume (spoiled_report cause place (length requests)) old (length requests) (with_slots request_width request_count page old (error_replies requests)) window

-- all are fit: their pages get the pieces of the frame
unfoldable pub deliver : (old : ℕ) (page window : List ℕ) (requests : List Slot) (pages frame : List ℕ) → Effect
deliver old page window requests pages frame =
    consume (done_report (plain_summary (length requests) (length frame))) old (length requests)
    (with_slots request_width request_count page old (piece_replies requests frame))
    (scatter window pages frame)

module _ (table : List ℕ) where
  -- requests are consumed, by what is found of them
  abbrev pub settle_by : (old : ℕ) (page window : List ℕ) (requests : List Slot) (frame : List ℕ) → Verdict → Effect
  settle_by old page window requests frame (Err f) = refuse old page window requests f.cause f.place
  settle_by old page window requests frame (Ok u) = deliver old page window requests (pages_named table requests) frame

  -- all are tested before anything is written
  abbrev pub settle : (old : ℕ) (page window : List ℕ) (requests : List Slot) (frame : List ℕ) → Effect
  settle old page window requests frame = settle_by old page window requests frame (judge table window 0 requests)

  -- the call: bad page, bad length, halted already, overflow, no buffers, and then spoiled or done
  unfoldable pub receive_put : Queue → List ℕ → List ℕ → List ℕ → Effect
  receive_put q page window frame =
      cond (not (eqb (length page) page_size)) (refusal 1 q page window)
      (cond (bad_length (length frame)) (refusal 9 q page window)
      (cond q.halted (refusal 2 q page window)
      (cond (ltb request_count (posted page q.consumed)) (refusal 3 q page window)
      (cond (ltb (posted page q.consumed) (needed (length frame))) (refusal 10 q page window)
      (settle q.consumed page window (receive_slots page q.consumed (needed (length frame))) frame)))))
