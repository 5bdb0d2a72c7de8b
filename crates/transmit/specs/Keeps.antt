-- What every take and every finish keep, whatever grants, window, ring page and frame buffer each is lent: a valid list of records stays valid, each
-- slot is accounted for, and rsp_prod and notify go by replies sent.
use Rattle.std.specs.Prelude.{◌≡◌, ◌≢◌, true, cond, ◌||◌, List, ℕ, ◌+◌, ◌<◌, length, get_or, eqb}
use Rattle.ring.specs.Ring.{wrap, wsub, rsp_prod, notify}
use Rattle.ring.specs.declared.Side.TheVariants.{Replies}
use Rattle.answer.specs.Report.{flag}
use Rattle.held.specs.declared.Held.{Held}
use Rattle.held.specs.Records.{slots_held}
use Rattle.held.specs.Valid.{valid}
use Rattle.transmit.specs.Take.{transmit_take}
use Rattle.transmit.specs.Finish.{transmit_finish}
use Rattle.transmit.specs.Words.{queue_of, TakeLeft, TakeLeaves, FinishLeft, FinishLeaves}

-- the slots and the notify that a report has: its fourth and its fifth word
abbrev pub slots_word : List ℕ → ℕ
slots_word words = get_or words 3 0

abbrev pub notify_word : List ℕ → ℕ
notify_word words = get_or words 4 0

-- the slots that a take took: its report's, if it was answered 0 or 7
abbrev pub took_slots : TakeLeft → ℕ
took_slots o = cond (eqb o.returned 0 || eqb o.returned 7) (slots_word o.words) 0

-- the slots that a call replied to: as many as the counter of replies sent has moved
abbrev pub replied_slots : (before after : ℕ) → ℕ
replied_slots before after = wsub after before

-- a call that was lent two counters and a list, took so many slots and left two counters and a list: a valid list stays valid, no record is
-- added or lost, and slots held before and slots taken are slots held after and slots replied to
pub record Keeps (consumed replied : ℕ) (l : List Held) (took consumed' replied' : ℕ) (l' : List Held) : Type 0 where
  pub stays : valid consumed replied l ≡ true → valid consumed' replied' l' ≡ true
  pub long : length l' ≡ length l
  pub sums : slots_held l' + replied_slots replied replied' ≡ slots_held l + took

-- a call that was lent a counter of replies sent and a page, left others, and reported a notify: this says whether the guest asked for an event
-- between the two counters, and rsp_prod is written exactly if a reply left
pub record Sent (replied : ℕ) (page : List ℕ) (replied' : ℕ) (page' : List ℕ) (notified : ℕ) : Type 0 where
  pub notifies : notified ≡ flag (notify Replies page replied replied')
  pub moves : replied' ≢ replied → rsp_prod page' ≡ replied'
  pub rests : replied' ≡ replied → rsp_prod page' ≡ rsp_prod page

unfoldable pub TakeKeeps : Type 0
TakeKeeps =
    (table window : List ℕ) (consumed replied mark : ℕ) (page frame : List ℕ) (l : List Held) (o : TakeLeft)
    → TakeLeaves (transmit_take table window (queue_of consumed replied mark) page frame l) mark o
    → Keeps consumed replied l (took_slots o) o.consumed o.replied o.list
    × (replied < wrap → Sent replied page o.replied o.page (notify_word o.words))

-- and a finish reports the slots that it replied to
unfoldable pub FinishKeeps : Type 0
FinishKeeps =
    (consumed replied : ℕ) (page : List ℕ) (l : List Held) (ticket status : ℕ) (o : FinishLeft)
    → FinishLeaves (transmit_finish consumed replied page l ticket status) o
    → Keeps consumed replied l 0 consumed o.replied o.list
    × (replied < wrap → Sent replied page o.replied o.page (notify_word o.words))
    × (slots_word o.words ≡ replied_slots replied o.replied)
