-- The calls on a ring, one after another, up to and including the first that takes nothing: what they leave of the page and of the window.
use Rattle.std.specs.Prelude.{◌≡◌, List, [], ◌∷◌, Bool, true, false, ◌||◌, ℕ, suc, ◌+◌, ◌*◌, ◌%◌, ◌<◌, length, replicate, get_or, eqb}
use Rattle.ring.specs.Ring.{rsp_prod}
use Rattle.netif.specs.Slot.{slot_count}
use Rattle.interface.specs.Interface.{ReceiveLeaves}
use Rattle.at_once.specs.Call.{Ring, Called}
use Rattle.replay.specs.Pattern.{Counted}

-- whether a call with this answer took something: done or spoiled
abbrev pub takes : ℕ → Bool
takes answer = eqb answer 0 || eqb answer 7

-- the most calls: a ring holds so many slots, and each call but the last takes one or more
abbrev pub most_calls : ℕ
most_calls = slot_count + 1

-- a stored transmit ring: both counters are its rsp_prod, and it is not halted
abbrev pub stored : List ℕ → Ring
stored page = record { consumed = rsp_prod page; replied = rsp_prod page; mark = 0; page = page }

-- a take that is finished at once, lent a frame buffer and reports of zeros
pub record TransmitCalled (grants window : List ℕ) (before : Ring) (took : Bool) (after : Ring) : Type 0 where
  pub answer : ℕ
  pub frame : List ℕ
  pub report : List ℕ
  pub finish : List ℕ
  pub called : Called grants window (replicate 65535 0) (replicate 11 0) before answer after frame report finish
  pub answered : took ≡ takes answer

-- transmit calls from one number on, on a ring, with this page at the end
pub data TransmitCalls (grants window after : List ℕ) : (call : ℕ) → Ring → Type 0 where
  most : {r : Ring} → r.page ≡ after → TransmitCalls grants window after most_calls r
  last : {call : ℕ} {r s : Ring} → call < most_calls → TransmitCalled grants window r false s → s.page ≡ after → TransmitCalls grants window after call r
  more : {call : ℕ} {r s : Ring} → call < most_calls → TransmitCalled grants window r true s → TransmitCalls grants window after (suc call) s
      → TransmitCalls grants window after call r

-- the lengths of the frames that receive calls deliver, in turn
abbrev pub lengths : List ℕ
lengths = 14 ∷ 60 ∷ 1514 ∷ 4095 ∷ 4096 ∷ 4097 ∷ 8192 ∷ 9000 ∷ 65535 ∷ []

abbrev pub length_of : ℕ → ℕ
length_of call = get_or lengths (call % 9) 0

-- the frame that a receive call delivers
pub record FrameOf (call : ℕ) (frame : List ℕ) : Type 0 where
  pub size : length frame ≡ length_of call
  pub bytes : Counted (7 * call + 1) (length frame) frame

-- a receive call by its number
pub record ReceiveCalled (grants : List ℕ) (call consumed mark : ℕ) (ring window : List ℕ) (took : Bool) (consumedAfter markLeft : ℕ)
    (ringAfter windowAfter : List ℕ) : Type 0 where
  pub answer : ℕ
  pub frame : List ℕ
  pub words : List ℕ
  pub delivers : FrameOf call frame
  pub left : ReceiveLeaves grants window consumed mark ring frame
      (record { returned = answer; consumed = consumedAfter; mark = markLeft; page = ringAfter; buffer = windowAfter; words = words })
  pub answered : took ≡ takes answer

-- receive calls from one number on, on a queue, a page and a window, with these at the end
pub data ReceiveCalls (grants after windowAfter : List ℕ) : (call consumed mark : ℕ) → (ring window : List ℕ) → Type 0 where
  most : {consumed mark : ℕ} → ReceiveCalls grants after windowAfter most_calls consumed mark after windowAfter
  last : {call consumed mark consumedAfter markLeft : ℕ} {ring window : List ℕ} → call < most_calls
      → ReceiveCalled grants call consumed mark ring window false consumedAfter markLeft after windowAfter
      → ReceiveCalls grants after windowAfter call consumed mark ring window
  more : {call consumed mark consumedAfter markLeft : ℕ} {ring window ring' window' : List ℕ} → call < most_calls
      → ReceiveCalled grants call consumed mark ring window true consumedAfter markLeft ring' window'
      → ReceiveCalls grants after windowAfter (suc call) consumedAfter markLeft ring' window'
      → ReceiveCalls grants after windowAfter call consumed mark ring window
