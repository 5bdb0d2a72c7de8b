-- A take whose packet is finished at once: what the two calls were lent and left.
use Rattle.std.specs.Prelude.{◌≡◌, Bool, true, false, List, [], ◌∷◌, ℕ, get_or, eqb}
use Rattle.netif.specs.Slot.{okay}
use Rattle.held.specs.declared.Held.{Held}
use Rattle.held.specs.Records.{free}
use Rattle.interface.specs.Interface.{TakeCallLeaves, FinishCallLeaves}

-- what is lent and left of a ring: the three words of its queue, and the page
pub record Ring : Type 0 where
  pub consumed : ℕ
  pub replied : ℕ
  pub mark : ℕ
  pub page : List ℕ

-- a take left the ring `took`: if it is done, a finish of its ticket with okay follows, lent what it left, and has its words in the second
-- report; else nothing follows
pub data Finished (took : Ring) (list : List Held) (ticket : ℕ) (words : List ℕ) (after : Ring) (wordsAfter : List ℕ) : (done : Bool) → Type 0 where
  finishes : (returned : ℕ) (list_after : List Held)
      → FinishCallLeaves took.consumed took.replied took.page list ticket okay
      (record { returned = returned; replied = after.replied; page = after.page; list = list_after; words = wordsAfter })
      → after.consumed ≡ took.consumed → after.mark ≡ took.mark → Finished took list ticket words after wordsAfter true
  stays : after ≡ took → wordsAfter ≡ words → Finished took list ticket words after wordsAfter false

-- a take that is lent a list of one free record, and what follows; the ticket is the report's last word
pub record Called (grants window frame finish : List ℕ) (before : Ring) (answer : ℕ) (after : Ring) (frameAfter report finishAfter : List ℕ) : Type 0 where
  pub took : Ring
  pub list : List Held
  pub takes : TakeCallLeaves grants window before.consumed before.replied before.mark before.page (free ∷ []) frame
      (record {
        returned = answer;
        consumed = took.consumed;
        replied = took.replied;
        mark = took.mark;
        page = took.page;
        frame = frameAfter;
        list = list;
        words = report;
      })
  pub next : Finished took list (get_or report 10 0) finish after finishAfter (eqb answer 0)
