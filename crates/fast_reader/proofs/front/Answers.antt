-- `fast_reader::front` meets its contract: what the divider answers is, by the grammar's laws, what stands at the front, and a packet that
-- it reports is as many slots long as its outline says.
use mathlib.Core.Path.{◌≡◌, refl, sym, ap, ◌∙◌, subst}
use mathlib.Core.Logic.{◌≢◌}
use mathlib.Core.List.{List, []}
use Rattle.std.specs.Prelude.{Result, Ok, Err}
use Prim.Native.Nat.{ℕ, ◌+◌, ◌≤◌}
use native.Mathlib.Omega.{arith}
use lib.ListN.{length, take, length-append}
use Rattle.words.proofs.Word.{no_confusion}
use Rattle.ring.proofs.Ring.{slots_length}
use Rattle.netif.specs.Slot.{Slot, slot_width, slot_count, transmit_slots}
use Rattle.grammar.specs.Grammar.{AtFront}
use Rattle.grammar.specs.Divide.{Cut, whole, beginning, misshapen, divide}
use Rattle.grammar.specs.Stages.{outline_of, front_of}
use Rattle.grammar.specs.declared.Outline.{Outline}
use Rattle.grammar.specs.declared.Unfinished.{Unfinished}
use Rattle.grammar.specs.declared.Unfinished.TheVariants as unfinished
use Rattle.grammar.proofs.Grammar.{front_slots, whole_iff, beginning_iff, misshapen_iff, none_found}
use Rattle.division.specs.Answer.{StepIs}
use Rattle.division.specs.declared.Ending.{Ending}
use Rattle.division.specs.declared.Ending.TheVariants as ending
use Rattle.fast_reader.proofs.front.Goals as goal

abbrev step_of : Result Outline Unfinished → Result ℕ Ending
step_of (Ok o) = Ok o.slots
step_of (Err unfinished.Beginning) = Err ending.Waiting
step_of (Err unfinished.Misshapen) = Err ending.Misshapen

module _ (l : List Slot) where
  -- a packet of so many data slots and extras at the front: the first slots, as many
  packet-step : (d e : ℕ) → AtFront l d e → StepIs l (Ok (length (take (d + e) l)))
  packet-step d e a =
      let (size, taken, left) = front_slots l d e a in
      rw (taken, size, taken) (omega (arith, length-append a.front a.tail, ap length a.joined), a.packet)

  -- what the divider's answer says stands at the front, and it does
  answer-step : l ≢ [] → StepIs l (step_of (front_of l))
  unfolding front_of outline_of
  answer-step some = go (divide l) refl
    where
      go : (c : Cut) → divide l ≡ c → StepIs l (step_of (front_of l))
      go (whole d e) h = rw h (packet-step d e ((whole_iff l d e).0 h))
      go beginning h = rw h (none_found l (λ d e k. no_confusion cc), (some, (beginning_iff l).0 h))
      go misshapen h = let m = (misshapen_iff l).0 h in rw h (m.1, m.0)

read_step : (page : List ℕ) (at left : ℕ) (r o : Result Outline Unfinished) → 1 ≤ left → r ≡ front_of (transmit_slots page at left) → r ≡ o → StepIs (transmit_slots page at left) (step_of o)
read_step page at left r o some h k =
    let l = transmit_slots page at left in
    subst (λ x. StepIs l (step_of x)) (sym h ∙ k) (answer-step l (λ z. omega (arith, slots_length slot_width slot_count page left at, ap length z)))

pub returns-in-Ok : goal.returns-in-Ok
returns-in-Ok c = let r = c.read in
    read_step c.args.page.now c.args.at c.args.left r.result (Ok c.in-Ok.outline) c.requires.0 r.ensures.answer c.in-Ok.is

pub returns-in-Err-Beginning : goal.returns-in-Err-Beginning
returns-in-Err-Beginning c = let r = c.read in
    read_step c.args.page.now c.args.at c.args.left r.result (Err unfinished.Beginning) c.requires.0 r.ensures.answer (c.in-Err-Beginning.is ∙ ap Err c.in-Err-Beginning.field-0-is)

pub returns-in-Err-Misshapen : goal.returns-in-Err-Misshapen
returns-in-Err-Misshapen c = let r = c.read in
    read_step c.args.page.now c.args.at c.args.left r.result (Err unfinished.Misshapen) c.requires.0 r.ensures.answer (c.in-Err-Misshapen.is ∙ ap Err c.in-Err-Misshapen.field-0-is)
