-- `take_front` meets its contract: a slot that is a packet by itself, or what the divider read at the front of the posted slots.
use Rattle.std.proofs.Common.{◌≡◌, ℕ, ◌+◌, List, map, take, replicate, sym, refl, ap, ◌∙◌, arith}
use Rattle.std.specs.Prelude.{Ok, Err}
use Rattle.words.specs.Word.{splice}
use Rattle.netif.specs.Slot.{Slot, size, transmit_slots}
use Rattle.grammar.specs.Packet.{later_of}
use Rattle.grammar.specs.declared.Outline.{Outline}
use Rattle.grammar.specs.Stages.{sizes_in}
use Rattle.packet.specs.Stages.{SizesOf, packet_at, Ready}
use Rattle.packet.proofs.Plans.{sizes_read}
use Rattle.held.specs.declared.Held.{Held}
use Rattle.transmit.specs.declared.Queue.{Queue}
use Rattle.transmit.specs.declared.Answer.TheVariants.{Misshapen, Waiting}
use Rattle.transmit.specs.Take.{go_on, waiting_slots, take_front}
use Rattle.transmit.specs.Stages.{take_whole}
use Rattle.transmit.proofs.Cases.{waiting_slots_lem, front_stops, front_wrong, front_packet}
use Rattle.transmit.proofs.Alone.{alone_front}
use Rattle.transmit.proofs.Settling.{front_beginning, front_misshapen, front_whole, whole_ready, extras_are, packet_whole, gives_refusal}
use Rattle.deciding.proofs.take_front.Goals as goal
use Rattle.deciding.proofs.take_front.Goals.{After-read, Start}

module _ (start : Start) where
  abbrev q : Queue
  q = go_on start.args.first start.args.replied

  abbrev table : List ℕ
  table = start.args.grants.now

  abbrev window : List ℕ
  window = start.args.window.now

  abbrev page : List ℕ
  page = start.args.ring.now

  abbrev frame : List ℕ
  frame = start.args.frame.now

  -- the slots posted
  abbrev l : List Slot
  l = transmit_slots page q.consumed start.args.count

  waits : waiting_slots page q.consumed ≡ l
  waits = waiting_slots_lem page q.consumed start.args.count start.requires.0

module _ (r : After-read) where
  abbrev first : ℕ
  first = r.args.first

  abbrev ring : List ℕ
  ring = r.args.ring.now

  abbrev slots : List Slot
  slots = transmit_slots ring first r.args.count

  abbrev counters : Queue
  counters = go_on first r.args.replied

  -- a whole packet with this outline
  module _ (o : Outline) (is : r.read.result ≡ Ok o) where
    abbrev d : ℕ
    d = (front_whole slots o (sym is ∙ r.read.ensures.answer)).0

    abbrev e : ℕ
    e = (front_whole slots o (sym is ∙ r.read.ensures.answer)).1

    extras : e ≡ o.extras
    extras =
        let w = front_whole slots o (sym is ∙ r.read.ensures.answer) in
        sym (extras_are ring first r.args.count r.requires.2 d e w.2 o w.3)

    packet : take (d + e) slots ≡ packet_at ring first o
    packet =
        let w = front_whole slots o (sym is ∙ r.read.ensures.answer) in
        packet_whole ring first r.args.count r.requires.2 d e w.2 o w.3

    ready : Ready ring first o
    ready =
        let w = front_whole slots o (sym is ∙ r.read.ensures.answer) in
        whole_ready ring first r.args.count r.requires.2 d e w.2 o w.3

    abbrev later : List Slot
    later = later_of o.extras (packet_at ring first o)

    -- the table of their sizes
    sizes : SizesOf (sizes_in r.read.new.parts) later
    sizes =
        let w = front_whole slots o (sym is ∙ r.read.ensures.answer) in
        sizes_read (replicate 18 0) _ later (r.read.ensures.table d e w.2 ∙ (λ i. splice (replicate 18 0) 1 (map size (later_of (extras i) (packet i))))) (omega arith)

    taken : (k : List Held) → take_front r.args.grants.now r.args.window.now counters ring r.args.frame.now k
        ≡ take_whole r.args.grants.now r.args.window.now counters ring r.args.frame.now k o.extras (packet_at ring first o)
    taken k =
        let w = front_whole slots o (sym is ∙ r.read.ensures.answer) in
        front_packet r.args.grants.now r.args.window.now counters ring r.args.frame.now k slots (waiting_slots_lem ring first r.args.count r.requires.0) d e w.2
        ∙ (λ i. take_whole r.args.grants.now r.args.window.now counters ring r.args.frame.now k (extras i) (packet i))

pub returns-then-is_alone : goal.returns-then-is_alone
returns-then-is_alone c k lent = let s = (goal.at.returns-then-is_alone c).Start in
    let one = alone_front (page s) (q s).consumed c.args.count c.requires.1 (sym c.is_alone.ensures ∙ c.if-is_alone.true) in
    rw (front_packet (table s) (window s) (q s) (page s) (frame s) k (l s) (waits s) 1 0 one.0, one.1) (c.settle_alone.ensures k lent)

pub settle-requires : goal.settle-requires
settle-requires c = let r = (goal.at.settle-requires c).After-read in
    (ready r c.in-Ok.o c.in-Ok.is, sizes r c.in-Ok.o c.in-Ok.is)

pub returns-in-Err-Misshapen : goal.returns-in-Err-Misshapen
returns-in-Err-Misshapen c k lent = let s = (goal.at.returns-in-Err-Misshapen c).Start in
    rw (front_wrong (table s) (window s) (q s) (page s) (frame s) k (l s) (waits s) (front_misshapen (l s) (sym (c.in-Err-Misshapen.is ∙ ap Err c.in-Err-Misshapen.field-0-is) ∙ c.read.ensures.answer)))
    (gives_refusal 5 (q s) (page s) (frame s) k Misshapen refl refl refl)

pub returns-in-Err-Beginning : goal.returns-in-Err-Beginning
returns-in-Err-Beginning c k lent = let s = (goal.at.returns-in-Err-Beginning c).Start in
    rw (front_stops (table s) (window s) (q s) (page s) (frame s) k (l s) (waits s) (front_beginning (l s) (sym (c.in-Err-Beginning.is ∙ ap Err c.in-Err-Beginning.field-0-is) ∙ c.read.ensures.answer)), c.ask_event.ensures)
    (gives_refusal 6 (q s) (page s) (frame s) k Waiting refl refl refl)

pub returns-in-Ok : goal.returns-in-Ok
returns-in-Ok c k lent = let r = (goal.at.returns-in-Ok c).After-read in
    rw (taken r c.in-Ok.o c.in-Ok.is k) (c.settle.ensures k lent)
