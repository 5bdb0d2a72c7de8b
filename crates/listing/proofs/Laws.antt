-- A take's answer with what follows from it; and a part of the frame buffer that is lent and given back.
use mathlib.Core.Path.{◌≡◌, refl, sym, ap, subst, ◌∙◌}
use mathlib.Core.List.{List, [], ◌++◌, append-nil}
use mathlib.Core.Bool.{Bool, true, false, not, cond}
use Prim.Native.Nat.{ℕ, ◌-◌, ◌≤◌}
use native.Mathlib.Omega.{arith}
use lib.ListN.{length, take, drop, length-drop, take-append-drop}
use lib.Seq.{take_all, drop-length}
use Rattle.std.specs.Prelude.{Option, Some, None, is_some, is_none}
use Rattle.held.specs.declared.Held.{Held}
use Rattle.held.specs.Records.{added}
use Rattle.transmit.specs.declared.Queue.{Queue}
use Rattle.transmit.specs.declared.Answer.{Answer}
use Rattle.transmit.specs.declared.Answer.TheVariants.{Done}
use Rattle.transmit.specs.Take.{TakeEffect, summary_of, transmit_take}
use Rattle.transmit.specs.Stages.{report_of, takes, record_of, packet_one, ComesToOne, HandedOne, Found, Gives}
use Rattle.transmit.proofs.Quick.{quick_gives}
use Rattle.concluding.specs.declared.Taken.{Taken}
use Rattle.concluding.specs.Taken.{kept_in, TakenFor, Concludes, ConcludesAs}
use Rattle.concluding.proofs.Answers.{ticket_told}
use Rattle.listing.specs.Listing.{behind}

-- a record is kept where a packet is taken
kept : (b : Bool) (l : List Held) (h : Held) → kept_in l (cond b (Some h) None) ≡ cond b (added l h) l
kept true l h = refl
kept false l h = refl

some : (b : Bool) (h : Held) → is_some (cond b (Some h) None) ≡ b
some true h = refl
some false h = refl

pub concludes_as : (e : TakeEffect) (q : Queue) (l : List Held) (a : Answer) (ring written : List ℕ) (t : Taken) → Gives e q l a ring written
    → TakenFor q a t → ConcludesAs e q l t ring written
concludes_as e q l a ring written t g k =
    let taken : is_some t.record ≡ takes a = ap is_some k.keeps ∙ some (takes a) (record_of q a) in
    record {
      concludes = record {
        report = (λ i. report_of (k.ticket i) (k.answers i)) ∙ ticket_told q a ∙ g.report;
        queue = k.queue ∙ g.queue;
        page = g.page;
        frame = g.frame;
        list = ap (kept_in l) k.keeps ∙ kept (takes a) l (record_of q a) ∙ g.list;
        room = λ h is. g.room (sym taken ∙ ap is_some is);
      };
      takings = taken ∙ sym (ap takes k.answers);
    }

-- a part that is given back as it was lent
pub rest_same : (frame : List ℕ) (filled n : ℕ) {part : List ℕ} → part ≡ take n (drop filled frame) → take filled frame ++ (part ++ drop n (drop filled frame)) ≡ frame
rest_same frame filled n e =
    ap (λ (x : List ℕ). take filled frame ++ (x ++ drop n (drop filled frame))) e ∙ ap (take filled frame ++◌) (take-append-drop n (drop filled frame)) ∙ take-append-drop filled frame

-- a part lent is what is left behind the bytes filled, and given back it stands behind them
pub rest_stands : (table window : List ℕ) (q : Queue) (page frame : List ℕ) (filled : ℕ) (l : List Held) (t : Taken) (ring part : List ℕ) → filled ≤ length frame
    → Concludes (transmit_take table window q page (take (length frame - filled) (drop filled frame)) l) q l t ring part
    → Concludes (behind filled frame (transmit_take table window q page (drop filled frame) l)) q l t ring (take filled frame ++ (part ++ drop (length frame - filled) (drop filled frame)))
rest_stands table window q page frame filled l t ring part h c =
    let n : length (drop filled frame) ≡ length frame - filled = length-drop filled frame in
    let whole : take (length frame - filled) (drop filled frame) ≡ drop filled frame = take_all (length frame - filled) (drop filled frame) (omega arith) in
    let none : drop (length frame - filled) (drop filled frame) ≡ [] = ap (λ (k : ℕ). drop k (drop filled frame)) (sym n) ∙ drop-length (drop filled frame) in
    let c' : Concludes (transmit_take table window q page (drop filled frame) l) q l t ring part = rw whole at c in
    record {
      report = c'.report;
      queue = c'.queue;
      page = c'.page;
      frame = ap (λ (x : List ℕ). take filled frame ++ (part ++ x)) none ∙ ap (take filled frame ++◌) (append-nil part ∙ c'.frame);
      list = c'.list;
      room = c'.room;
    }

-- the same with what the take says that it took
pub rest_concludes : (table window : List ℕ) (q : Queue) (page frame : List ℕ) (filled : ℕ) (l : List Held) (t : Taken) (ring part : List ℕ) → filled ≤ length frame
    → ConcludesAs (transmit_take table window q page (take (length frame - filled) (drop filled frame)) l) q l t ring part
    → ConcludesAs (behind filled frame (transmit_take table window q page (drop filled frame) l)) q l t ring (take filled frame ++ (part ++ drop (length frame - filled) (drop filled frame)))
rest_concludes table window q page frame filled l t ring part h c =
    record { concludes = rest_stands table window q page frame filled l t ring part h c.concludes; takings = c.takings }

-- the same where the frame buffer that is lent is one that is as it was
pub rest_again : (table window : List ℕ) (q : Queue) (page frame lent : List ℕ) → lent ≡ frame → (filled : ℕ) (l : List Held) (t : Taken) (ring part : List ℕ) → filled ≤ length lent
    → Concludes (transmit_take table window q page (take (length lent - filled) (drop filled lent)) l) q l t ring part
    → Concludes (behind filled frame (transmit_take table window q page (drop filled frame) l)) q l t ring (take filled lent ++ (part ++ drop (length lent - filled) (drop filled lent)))
rest_again table window q page frame lent same filled l t ring part h c =
    subst
    (λ (x : List ℕ). Concludes (behind filled x (transmit_take table window q page (drop filled x) l)) q l t ring (take filled lent ++ (part ++ drop (length lent - filled) (drop filled lent))))
    same (rest_stands table window q page lent filled l t ring part h c)

-- whether no place is found, as a test tells it
pub full_told : (free : Option ℕ) (b : Bool) → is_some free ≡ not b → b ≡ is_none free
full_told None true h = refl
full_told None false h = cc
full_told (Some n) true h = cc
full_told (Some n) false h = refl

-- a packet of one slot that is handed over is what the take comes to
pub hands_over : (table window : List ℕ) (q : Queue) (sound full full' : Bool) (page ring frame written : List ℕ) → page ≡ ring → full ≡ full' → ComesToOne q sound full page
    → (found : Option Answer) → HandedOne table window page q.consumed frame (is_some found) written
    → ((a : Answer) → found ≡ Some a → a ≡ Done (summary_of 0 (packet_one page q.consumed)) 0)
    → (a : Answer) → found ≡ Some a → (l : List Held) → Found q sound full' l → Gives (transmit_take table window q ring frame l) q l a ring written
hands_over table window q sound full full' page ring frame written same known one found h answers a is l so =
    let h' : HandedOne table window page q.consumed frame true written = rw (ap is_some is) at h in
    let so' : Found q sound full l = rw known so in
    rw (← same) (quick_gives table window q sound full page one frame written h' l so' a (answers a is))

-- what is decided on a frame buffer that is as it was
pub decided_as : (table window : List ℕ) (q : Queue) (sound : Bool) (free : Option ℕ) (full : Bool) → is_some free ≡ not full → (ring frame lent : List ℕ) → lent ≡ frame
    → (a : Answer) (ring' written : List ℕ) → ((l : List Held) → Found q sound full l → Gives (transmit_take table window q ring lent l) q l a ring' written)
    → (l : List Held) → Found q sound (is_none free) l → Gives (transmit_take table window q ring frame l) q l a ring' written
decided_as table window q sound free full told ring frame lent same a ring' written decides l found =
    let found' : Found q sound full l = rw (full_told free full told) found in
    rw (← same) (decides l found')
