-- The laws of the calls on a ring, and of the frames that receive calls deliver.
use mathlib.Core.Path.{◌≡◌, refl, ◌∙◌}
use mathlib.Core.List.{List, [], ◌∷◌}
use mathlib.Core.Bool.{Bool, true, false, ◌&&◌}
use Prim.Native.Nat.{ℕ, zero, suc, ◌+◌, ◌*◌, ◌%◌, ◌≤◌, ◌<◌}
use native.Mathlib.Omega.{arith}
use native.Mathlib.Numerals.{add-one}
use lib.ListN.{length, take, replicate, get_or}
use lib.Seq.{length-take-le, get_or-take}
use lib.Dec.{leb}
use borrow.Author.Tests.{leb-true}
use Rattle.words.proofs.Word.{and_both}
use Rattle.interface.specs.Interface.{ReceiveLeaves}
use Rattle.at_once.specs.Call.{Ring, Called}
use Rattle.replay.specs.Pattern.{Counted}
use Rattle.replay.specs.Calls.{takes, most_calls, lengths, length_of, FrameOf, TransmitCalled, TransmitCalls, ReceiveCalled, ReceiveCalls}

-- a call with its answer
pub transmit_called : {grants window frame report finish : List ℕ} {before after : Ring} {answer : ℕ} {took : Bool}
    → Called grants window (replicate 65535 0) (replicate 11 0) before answer after frame report finish → took ≡ takes answer
    → TransmitCalled grants window before took after
transmit_called called answered = record { answer = _; frame = _; report = _; finish = _; called = called; answered = answered }

pub receive_called : {grants ring window ringAfter windowAfter frame words : List ℕ} {call consumed mark answer consumedAfter markLeft : ℕ} {took : Bool}
    → FrameOf call frame
    → ReceiveLeaves grants window consumed mark ring frame
    (record { returned = answer; consumed = consumedAfter; mark = markLeft; page = ringAfter; buffer = windowAfter; words = words })
    → took ≡ takes answer → ReceiveCalled grants call consumed mark ring window took consumedAfter markLeft ringAfter windowAfter
receive_called delivers left answered = record { answer = _; frame = _; words = _; delivers = delivers; left = left; answered = answered }

-- a call that takes something, and those behind it; and one that takes nothing
pub transmit_more : {grants window after : List ℕ} {r s : Ring} {call : ℕ} {took : Bool} → call < most_calls → took ≡ true → TransmitCalled grants window r took s
    → TransmitCalls grants window after (call + 1) s → TransmitCalls grants window after call r
transmit_more h e c t = TransmitCalls.more h (rw e at c) (rw add-one at t)

pub transmit_last : {grants window after : List ℕ} {r s : Ring} {call : ℕ} {took : Bool} → call < most_calls → took ≡ false → TransmitCalled grants window r took s
    → s.page ≡ after → TransmitCalls grants window after call r
transmit_last h e c p = TransmitCalls.last h (rw e at c) p

pub receive_more : {grants after windowAfter ring window ring' window' : List ℕ} {call consumed mark consumed' mark' : ℕ} {took : Bool} → call < most_calls → took ≡ true
    → ReceiveCalled grants call consumed mark ring window took consumed' mark' ring' window'
    → ReceiveCalls grants after windowAfter (call + 1) consumed' mark' ring' window' → ReceiveCalls grants after windowAfter call consumed mark ring window
receive_more h e c t = ReceiveCalls.more h (rw e at c) (rw add-one at t)

pub receive_last : {grants after windowAfter ring window : List ℕ} {call consumed mark consumed' mark' : ℕ} {took : Bool} → call < most_calls → took ≡ false
    → ReceiveCalled grants call consumed mark ring window took consumed' mark' after windowAfter → ReceiveCalls grants after windowAfter call consumed mark ring window
receive_last h e c = ReceiveCalls.last h (rw e at c)

-- no frame is longer than 65,535 bytes
all_least : ℕ → List ℕ → Bool
all_least m [] = true
all_least m (x ∷ l) = leb x m && all_least m l

entry_least : (m : ℕ) (l : List ℕ) (i : ℕ) → all_least m l ≡ true → get_or l i 0 ≤ m
unfolding all_least
entry_least m [] i h = omega arith
entry_least m (x ∷ l) zero h = leb-true x m (and_both (leb x m) (all_least m l) h).0
entry_least m (x ∷ l) (suc i) h = entry_least m l i (and_both (leb x m) (all_least m l) h).1

pub length_most : (call : ℕ) → length_of call ≤ 65535
unfolding all_least
length_most call = entry_least 65535 lengths (call % 9) refl

-- fewer bytes that count up
pub counted_fewer : (start i n : ℕ) (l : List ℕ) → n ≤ i → Counted start i l → Counted start n l
unfolding Counted
counted_fewer start i n l h all k lt = all k (omega arith)

-- the front of a buffer that was filled for a call is its frame
pub frame_front : (call n : ℕ) (buffer : List ℕ) → n ≡ length_of call → n ≤ length buffer → Counted (7 * call + 1) 65535 buffer → FrameOf call (take n buffer)
unfolding Counted
frame_front call n buffer e h all =
    let size : length (take n buffer) ≡ n = length-take-le n buffer h in
    record {
      size = size ∙ e;
      bytes = λ i lt. get_or-take n buffer i 0 (omega arith) ∙ all i (omega (arith, e, length_most call));
    }
