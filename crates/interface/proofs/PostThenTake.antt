-- The exported calls leave what the definitions give, and of these `round_trip` and `fewest_done` speak. The request's own case is the one
-- with no slot posted behind the packet, which then fits the ring (`post_fits`).
use mathlib.Core.Path.{◌≡◌, sym, ap, ◌∙◌}
use mathlib.Core.List.{List, [], ◌∷◌}
use mathlib.Core.Bool.{Bool, true, false, cond}
use Rattle.std.specs.Prelude.{Option, Some, None}
use Prim.Native.Nat.{ℕ, ◌+◌, ◌<◌}
use native.Mathlib.Nat.{add-zero}
use native.Mathlib.Omega.{arith}
use lib.ListN.{length}
use lib.Dec.{eqb}
use Rattle.ring.specs.Ring.{wadd, req_prod}
use Rattle.ring.proofs.Counters.{wadd_wadd}
use Rattle.held.specs.declared.Held.{Held}
use Rattle.transmit.specs.declared.Queue.{Queue}
use Rattle.transmit.specs.Take.{go_on, transmit_take}
use Rattle.frontend.specs.declared.Gso.{Gso}
use Rattle.frontend.specs.Post.{size_given, slots_for}
use Rattle.frontend.specs.RoundTrip.{FitsRing, ComesBack, RoundTrip, PostFits, FewestDone}
use Rattle.frontend.proofs.RoundTrip.{done_requests, round_trip, post_fits}
use Rattle.frontend.proofs.Fewest.{fewest_done}
use Rattle.answer.specs.Words.{mark_after, report_words}
use Rattle.transmit.specs.Words.{queue_of, TakeLeft}
use Rattle.interface.specs.Interface.{gso_of, TakeCallLeaves}
use Rattle.interface.specs.PostThenTake.{GivesBack, PostThenTake, PostThenTakeUntouched, NoFewerSlots}

size_small : (given size type : ℕ) → size < 65536 → size_given (gso_of given size type) < 65536
unfolding gso_of
size_small given size type h = go (eqb given 0)
  where
    go : (b : Bool) → size_given (cond b None (Some (record { size = size; kind = type }))) < 65536
    go true = omega arith
    go false = h

-- what a take leaves, by what the definition gives back
gives_back : (o : Option Gso) (grants window ring frame buffer : List ℕ) (first replied : ℕ) (list : List Held)
    → ComesBack o frame buffer first replied ring list (slots_for o (length frame)) (transmit_take grants window (go_on first replied) ring buffer list)
    → (l : TakeLeft) → TakeCallLeaves grants window first replied 0 ring list buffer l → GivesBack o frame buffer first replied ring list l
unfolding mark_after report_words
gives_back o grants window ring frame buffer first replied list c l t = record {
  returns = t.returns ∙ c.done;
  reports = t.reports
      ∙ (λ i. c.done i ∷ c.no_cause i ∷ c.no_place i ∷ c.slots i ∷ c.quiet i ∷ c.total i ∷ c.blank i ∷ c.validated i ∷ c.gso_sizes i ∷ c.gso_types i ∷ c.ticket i ∷ []);
  counter = t.counter ∙ ap (λ (q : Queue). q.consumed) c.queue;
  replies = t.replies ∙ ap (λ (q : Queue). q.replied) c.queue;
  unhalted = t.marks ∙ ap (λ (q : Queue). mark_after 0 q.halted) c.queue;
  page = t.pages ∙ c.page_stays;
  frame_bytes = t.frames ∙ c.frame_bytes;
  held = t.records ∙ c.held;
}

pub post_then_take : PostThenTake
unfolding PostThenTake RoundTrip
post_then_take grants window ring refs frame ringLeft windowLeft words read given size type d grants' window' ring' buffer replied list more same slots fits room l t =
    let o = gso_of given size type in
    gives_back o grants' window' ring' frame buffer (req_prod ring) replied list
    (round_trip grants window ring read o refs frame d.references (size_small given size type d.sized) (sym d.left.returns) grants' window' ring' buffer replied list more
    (rw d.left.pages at same) (rw d.left.page at slots) fits room)
    l t

pub post_then_take_untouched : PostThenTakeUntouched
unfolding PostThenTakeUntouched PostThenTake PostFits
post_then_take_untouched grants window ring refs frame ringLeft windowLeft words read given size type d grants' window' ring' buffer replied list past u room l t =
    let o = gso_of given size type in
    let done = sym d.left.returns in
    let n = slots_for o (length frame) in
    let behind : req_prod ringLeft ≡ wadd (req_prod ring) n = ap req_prod d.left.page ∙ done_requests grants ring window read o refs frame done in
    let stays : wadd (req_prod ringLeft) 0 ≡ req_prod ringLeft = ap (λ (x : ℕ). wadd x 0) behind ∙ wadd_wadd (req_prod ring) n 0 ∙ ap (wadd (req_prod ring)) (add-zero n) ∙ sym behind in
    let fits : FitsRing (req_prod ring) replied (n + 0) = rw (add-zero n) (post_fits grants window ring read o refs frame done replied past) in
    post_then_take grants window ring refs frame ringLeft windowLeft words read given size type d grants' window' ring' buffer replied list 0 u.grants_stay
    (record { size = u.page; requests = u.requests ∙ sym stays; slots = u.slots_stay }) fits room l t

pub no_fewer_slots : NoFewerSlots
unfolding NoFewerSlots FewestDone report_words
no_fewer_slots grants window ring buffer list consumed replied mark d e cut l t done =
    rw t.reports (fewest_done grants window (queue_of consumed replied mark) ring buffer list d e cut (sym t.returns ∙ done))
