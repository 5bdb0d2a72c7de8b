-- The records are those of the ledger's packets, in ring order: kept by adding, finishing and leaving.
use mathlib.Core.Path.{◌≡◌, refl, sym, ap, ◌∙◌}
use mathlib.Core.Logic.{◌≢◌}
use mathlib.Core.List.{List, [], ◌∷◌, ◌++◌, append_assoc, map-append}
use mathlib.Core.Bool.{Bool, true, false, cond}
use Prim.Native.Nat.{ℕ, zero, suc, ◌+◌, ◌≤◌, ◌<◌}
use native.Mathlib.Omega.{arith}
use lib.ListN.{length, length-append}
use lib.Dec.{eqb}
use borrow.Author.Tests.{eqb-true, eqb-false}
use Rattle.words.proofs.Word.{clash}
use Rattle.ring.specs.Ring.{wrap, wadd, wsub}
use Rattle.ring.proofs.Counters.{wadd_wadd, wadd_zero, wadd_small, behind_by, wsub_on, on_counter}
use Rattle.netif.specs.Slot.{Slot}
use Rattle.grammar.specs.Grammar.{join_all}
use Rattle.grammar.proofs.Grammar.{packet_some}
use Rattle.grammar.proofs.Service.{join_append}
use Rattle.held.specs.declared.Held.{Held}
use Rattle.held.specs.Records.{is_finished, full, record_at, added, finish, freed, slots_held, ended}
use Rattle.held.specs.Valid.{between, valid}
use Rattle.held.specs.Release.{Released, nothing, firstly, release, settle}
use Rattle.held.proofs.Cover.{Covers, EachHeld, valid_split, Sound, some_in_use, ended_finished, Found, found_finished, release_few, release_some, release_covers}
use Rattle.held.proofs.Leaving.{settle_keeps}
use Rattle.held.proofs.Tickets.{counters_apart, added_other, added_here, finish_here, finish_other, freed_other}
use Rattle.transmit.specs.Take.{replied_page}
use Rattle.transmit.proofs.Paging.{settle_replied}
use Rattle.sequences.specs.Ledger.{Fate, pending, finally, Entry, entry, packets_in, slots_in, marked, on_fate, leaving, staying, HasFate, RecordOf, RecordsOf, HeldFrom}
use Rattle.sequences.specs.Order.{Accounts, Replies}

-- ---- entries and their slots

pub slots_cons : (e : Entry) (es : List Entry) → slots_in (e ∷ es) ≡ length e.packet + slots_in es
slots_cons e es = length-append e.packet (join_all (packets_in es))

pub slots_append : (es fs : List Entry) → slots_in (es ++ fs) ≡ slots_in es + slots_in fs
slots_append [] fs = omega arith
slots_append (e ∷ es) fs = omega (arith, slots_cons e (es ++ fs), slots_cons e es, slots_append es fs)

slots_snoc : (es : List Entry) (p : List Slot) (f : Fate) → slots_in (es ++ (entry p f ∷ [])) ≡ slots_in es + length p
slots_snoc es p f = omega (arith, slots_append es (entry p f ∷ []), slots_cons (entry p f) [])

pub packets_snoc : (es : List Entry) (p : List Slot) (f : Fate) → packets_in (es ++ (entry p f ∷ [])) ≡ packets_in es ++ (p ∷ [])
packets_snoc es p f = map-append (λ (e : Entry). e.packet) es (entry p f ∷ [])

pub marked_packets : (c t status : ℕ) (es : List Entry) → packets_in (marked c t status es) ≡ packets_in es
marked_packets c t status [] = refl
marked_packets c t status (e ∷ es) = go (eqb c t) (marked_packets (wadd c (length e.packet)) t status es)
  where
    go : (b : Bool) → packets_in (marked (wadd c (length e.packet)) t status es) ≡ packets_in es
        → packets_in (cond b (entry e.packet (finally status) ∷ es) (e ∷ marked (wadd c (length e.packet)) t status es)) ≡ packets_in (e ∷ es)
    go true h = refl
    go false h = ap (e.packet ∷◌) h

pub leave_stay : (es : List Entry) → packets_in es ≡ packets_in (leaving es) ++ packets_in (staying es)
leave_stay [] = refl
leave_stay (e ∷ es) = go e.fate (leave_stay es)
  where
    go : (f : Fate) → packets_in es ≡ packets_in (leaving es) ++ packets_in (staying es)
        → packets_in (e ∷ es) ≡ packets_in (on_fate f [] (e ∷ leaving es)) ++ packets_in (on_fate f (e ∷ es) (staying es))
    go pending h = refl
    go (finally status) h = ap (e.packet ∷◌) h

-- ---- records that stay

pub held_same : (l l' : List Held) (r n m : ℕ) → ((i : ℕ) → m ≤ i → i < n → record_at l' (wadd r i) ≡ record_at l (wadd r i))
    → (es : List Entry) (o : ℕ) → m ≤ o → o + slots_in es ≤ n → HeldFrom l (wadd r o) es → HeldFrom l' (wadd r o) es
held_same l l' r n m f [] o k h u = tt
held_same l l' r n m f (e ∷ es) o k h u =
    let size = slots_cons e es in
    let some : 1 ≤ length e.packet = packet_some u.0.packet in
    let next : wadd (wadd r o) (length e.packet) ≡ wadd r (o + length e.packet) = wadd_wadd r o (length e.packet) in (
      rw (f o k (omega arith)) u.0,
      rw next (held_same l l' r n m f es (o + length e.packet) (omega arith) (omega arith) (rw next at u.1)),
    )

-- ---- one more held

-- entries held, and one more behind them
held_more : (l : List Held) (e : Entry) → (es : List Entry) (r : ℕ) → HeldFrom l r es → r < wrap → RecordOf (record_at l (wadd r (slots_in es))) e → HeldFrom l r (es ++ (e ∷ []))
held_more l e [] r u h k = (rw (wadd_zero r h) at k, tt)
held_more l e (x ∷ es) r u h k =
    let next : wadd r (slots_in (x ∷ es)) ≡ wadd (wadd r (length x.packet)) (slots_in es) = ap (wadd r) (slots_cons x es) ∙ sym (wadd_wadd r (length x.packet) (slots_in es)) in
    (u.0, held_more l e es (wadd r (length x.packet)) u.1 (wadd_small r (length x.packet)) (rw next at k))

pub held_add : (l : List Held) (r : ℕ) (es : List Entry) → Covers (slots_in es) r l → full l ≡ false → r < wrap → HeldFrom l r es
    → (e : Entry) (x : Held) → x.ticket ≡ wadd r (slots_in es) → RecordOf x e → HeldFrom (added l x) r (es ++ (e ∷ []))
held_add l r es v room h u e x t w =
    let some : 0 < x.slots = omega (arith, packet_some w.packet, w.slots) in
    let z : wadd r 0 ≡ r = wadd_zero r h in
    let other : (i : ℕ) → i < slots_in es → x.ticket ≢ wadd r i
    = λ i b y. counters_apart r i (slots_in es) (omega (arith, v.small)) (omega (arith, v.small)) (λ q. omega arith) (sym y ∙ t) in
    let old : HeldFrom (added l x) (wadd r 0) es
    = held_same l (added l x) r (slots_in es) 0 (λ i a b. added_other l x (wadd r i) room (other i b)) es 0 (omega arith) (omega arith) (rw z u) in
    let new : record_at (added l x) (wadd r (slots_in es)) ≡ x = added_here (slots_in es) r l v room x t (some_in_use x some) in
    held_more (added l x) e es r (rw z at old) h (rw new w)

-- ---- one finished

moved_counter : (r i : ℕ) → 0 < i → i < wrap → wadd r i ≡ r → ⊥
unfolding wadd
moved_counter r i h k e = omega arith

-- the record of the ticket has its fate, and the others theirs
pub held_finish : (l : List Held) (t status : ℕ) → Found l t → (es : List Entry) (r : ℕ) → r < wrap → slots_in es ≤ 256 → HeldFrom l r es → HeldFrom (finish l t status) r (marked r t status es)
held_finish l t status f [] r h few u = tt
held_finish l t status f (e ∷ es) r h few u = go (eqb r t) refl (held_finish l t status f es (wadd r (length e.packet)) (wadd_small r (length e.packet)) (omega (arith, slots_cons e es)) u.1)
  where
    size : slots_in (e ∷ es) ≡ length e.packet + slots_in es
    size = slots_cons e es

    some : 1 ≤ length e.packet
    some = packet_some u.0.packet

    -- behind the ticket nothing is changed
    behind : r ≡ t → HeldFrom (finish l t status) (wadd r (length e.packet)) es
    behind z = held_same l (finish l t status) r (slots_in (e ∷ es)) 1
        (λ i a b. finish_other l t status f (wadd r i) (λ y. moved_counter r i a (omega arith) (y ∙ sym z)))
        es (length e.packet) some (omega (arith, size)) u.1

    go : (b : Bool) → eqb r t ≡ b → HeldFrom (finish l t status) (wadd r (length e.packet)) (marked (wadd r (length e.packet)) t status es)
        → HeldFrom (finish l t status) r (cond (eqb r t) (entry e.packet (finally status) ∷ es) (e ∷ marked (wadd r (length e.packet)) t status es))
    go true b ih =
        let z : r ≡ t = eqb-true r t b in
        let k : record_at (finish l t status) r ≡ ended t (record_at l t).slots (record_at l t).extras status = ap (record_at (finish l t status)) z ∙ finish_here l t status f in
        rw b (
          record {
            packet = u.0.packet;
            slots = ap (λ (x : Held). x.slots) k ∙ ap (λ (c : ℕ). (record_at l c).slots) (sym z) ∙ u.0.slots;
            extras = ap (λ (x : Held). x.extras) k ∙ ap (λ (c : ℕ). (record_at l c).extras) (sym z) ∙ u.0.extras;
            fate = (ap is_finished k ∙ ended_finished t (record_at l t).slots (record_at l t).extras status, ap (λ (x : Held). x.status) k);
          },
          behind z,
        )
    go false b ih = rw b (rw (finish_other l t status f r (eqb-false r t b)) u.0, ih)

-- ---- the released

-- what is released are the entries that can leave, and the others stay
pub record Departs (r : ℕ) (es : List Entry) (o : Released) : Type 0 where
  pub theirs : RecordsOf o.gone (leaving es)
  pub replied : o.replied ≡ wadd r (slots_in (leaving es))
  pub slots : slots_held o.gone ≡ slots_in (leaving es)
  pub held : HeldFrom o.list o.replied (staying es)

none_departs : (r : ℕ) (l : List Held) → r < wrap → Departs r [] (nothing r l)
none_departs r l h = record { theirs = tt; replied = sym (wadd_zero r h); slots = refl; held = tt }

module _ {r : ℕ} {es : List Entry} where
  departs_true : (b : Bool) (x y : Released) → b ≡ true → Departs r es x → Departs r es (cond b x y)
  departs_true b x y h k = rw h k

  departs_false : (b : Bool) (x y : Released) → b ≡ false → Departs r es y → Departs r es (cond b x y)
  departs_false b x y h k = rw h k

-- the oldest waits
waits_departs : (r : ℕ) (l : List Held) (e : Entry) (es : List Entry) → r < wrap → (f : Fate) → e.fate ≡ f → HasFate (record_at l r) f → is_finished (record_at l r) ≡ false → HeldFrom l r (e ∷ es) → Departs r (e ∷ es) (nothing r l)
waits_departs r l e es h pending z w n u = rw z (record { theirs = tt; replied = sym (wadd_zero r h); slots = refl; held = rw z at u })
waits_departs r l e es h (finally status) z w n u = absurd (clash w.0 n)

-- the oldest leaves
leaves_departs : (r : ℕ) (x : Held) (e : Entry) (es : List Entry) (o : Released) → RecordOf x e → (f : Fate) → e.fate ≡ f → HasFate x f → is_finished x ≡ true → Departs (wadd r x.slots) es o → Departs r (e ∷ es) (firstly x o)
leaves_departs r x e es o k pending z w n d = absurd (clash n w.0)
leaves_departs r x e es o k (finally status) z w n d =
    let size = slots_cons e (leaving es) in
    rw z (record {
      theirs = (rw z at k, d.theirs);
      replied = d.replied ∙ wadd_wadd r x.slots (slots_in (leaving es)) ∙ ap (wadd r) (omega (arith, k.slots));
      slots = omega (arith, k.slots, d.slots);
      held = d.held;
    })

free_same : (l : List Held) (r n : ℕ) (v : Covers n r l) (f : Found l r) (i : ℕ) → 0 < i → i < n → record_at (freed l r) (wadd r i) ≡ record_at l (wadd r i)
free_same l r n v f i h k = freed_other l r f (wadd r i) (λ e. absurd (moved_counter r i h (omega (arith, v.small)) e))

release_departs : (k c r : ℕ) (l : List Held) (es : List Entry) → Covers (wsub c r) r l → wsub c r ≡ slots_in es → wsub c r ≤ k → r < wrap → HeldFrom l r es → Departs r es (release k r l)
release_departs zero c r l [] v n m h u = none_departs r l h
release_departs zero c r l (e ∷ es) v n m h u = absurd (omega (arith, slots_cons e es, packet_some u.0.packet))
release_departs (suc k) c r l [] v n m h u = go (is_finished (record_at l r)) refl
  where
    go : (b : Bool) → is_finished (record_at l r) ≡ b → Departs r [] (release (suc k) r l)
    go true e = absurd (let f = found_finished l r e in omega (arith, release_few (wsub c r) r l v f, release_some (wsub c r) r l v f))
    go false e = departs_false _ _ _ e (none_departs r l h)
release_departs (suc k) c r l (e ∷ es) v n m h u = go (is_finished (record_at l r)) refl
    (λ f. release_departs k c (wadd r (record_at l r).slots) (freed l r) es
    (rw (behind_by c r (record_at l r).slots (release_few (wsub c r) r l v f)) (release_covers (wsub c r) r l v f))
    (behind_by c r (record_at l r).slots (release_few (wsub c r) r l v f) ∙ omega (arith, u.0.slots, slots_cons e es))
    (omega (arith, behind_by c r (record_at l r).slots (release_few (wsub c r) r l v f), release_few (wsub c r) r l v f, release_some (wsub c r) r l v f))
    (wadd_small r (record_at l r).slots)
    (rest f))
  where
    size : slots_in (e ∷ es) ≡ length e.packet + slots_in es
    size = slots_cons e es

    rest : Found l r → HeldFrom (freed l r) (wadd r (record_at l r).slots) es
    rest f =
        rw u.0.slots
        (held_same l (freed l r) r (slots_in (e ∷ es)) 1
        (λ i a b. free_same l r (wsub c r) v f i a (omega arith))
        es (length e.packet) (packet_some u.0.packet) (omega (arith, size)) u.1)

    go : (b : Bool) → is_finished (record_at l r) ≡ b
        → (Found l r → Departs (wadd r (record_at l r).slots) es (release k (wadd r (record_at l r).slots) (freed l r)))
        → Departs r (e ∷ es) (release (suc k) r l)
    go true b ih = departs_true _ _ _ b (leaves_departs r (record_at l r) e es _ u.0 e.fate refl u.0.fate b (ih (found_finished l r b)))
    go false b ih = departs_false _ _ _ b (waits_departs r l e es h e.fate refl u.0.fate b u)

-- ---- settled

pub settle_departs : (c r : ℕ) (l : List Held) (es : List Entry) → Covers (between c r) r l → between c r ≡ slots_in es → r < wrap → HeldFrom l r es → Departs r es (settle c r l)
unfolding settle between
settle_departs c r l es v n h u = release_departs (wsub c r) c r l es v n (omega arith) h u

-- ---- the accounts

-- of what is settled
pub accounts_of : (c consumed replied : ℕ) (l : List Held) (packets gone : List (List Slot)) (es : List Entry) → packets ≡ gone ++ packets_in es → replied ≡ wadd c (length (join_all gone)) → between consumed replied ≡ slots_in es
    → Covers (between consumed replied) replied l → EachHeld Sound l → HeldFrom l replied es
    → Accounts c consumed (settle consumed replied l).replied (settle consumed replied l).list packets (staying es)
unfolding between
accounts_of c consumed replied l packets gone es j r n v s u =
    let w = settle_departs consumed replied l es v n (omega (arith, r, wadd_small c (length (join_all gone)))) u in
    let k = settle_keeps consumed replied l v s in
    let sizes : slots_in es ≡ slots_in (leaving es) + slots_in (staying es) = ap (λ (x : List (List Slot)). length (join_all x)) (leave_stay es) ∙ ap length (join_append (packets_in (leaving es)) (packets_in (staying es))) ∙ length-append (join_all (packets_in (leaving es))) (join_all (packets_in (staying es))) in
    record {
      gone = gone ++ packets_in (leaving es);
      joined = j ∙ ap (gone ++◌) (leave_stay es) ∙ sym (append_assoc gone (packets_in (leaving es)) (packets_in (staying es)));
      counter =
          w.replied ∙ ap (λ (x : ℕ). wadd x (slots_in (leaving es))) r ∙ wadd_wadd c (length (join_all gone)) (slots_in (leaving es))
          ∙ ap (wadd c) (sym (ap length (join_append gone (packets_in (leaving es))) ∙ length-append (join_all gone) (join_all (packets_in (leaving es)))));
      slots = omega (arith, k.left, k.moved, w.slots);
      records = w.held;
    }

-- one more packet held
pub accounts_more : {c : ℕ} {ps : List (List Slot)} {es : List Entry} (consumed replied : ℕ) (l : List Held) → Accounts c consumed replied l ps es → valid consumed replied l ≡ true → full l ≡ false → consumed < wrap
    → (p : List Slot) (f : Fate) → between consumed replied + length p ≤ 256 → (x : Held) → x.ticket ≡ consumed → RecordOf x (entry p f)
    → Accounts c (wadd consumed (length p)) replied (added l x) (ps ++ (p ∷ [])) (es ++ (entry p f ∷ []))
unfolding between
accounts_more {c} {ps} {es} consumed replied l a v room h p f few x t w =
    let cov : Covers (slots_in es) replied l = rw a.slots at (valid_split consumed replied l v).covered in
    let small-counter : replied < wrap = omega (arith, a.counter, wadd_small c (length (join_all a.gone))) in
    record {
      gone = a.gone;
      joined = ap (◌++ (p ∷ [])) a.joined ∙ append_assoc a.gone (packets_in es) (p ∷ []) ∙ ap (a.gone ++◌) (sym (packets_snoc es p f));
      counter = a.counter;
      slots = wsub_on consumed replied (length p) (omega arith) ∙ ap (◌+ length p) a.slots ∙ sym (slots_snoc es p f);
      records = held_add l replied es cov room small-counter a.records (entry p f) x (t ∙ on_counter consumed replied h ∙ ap (wadd replied) a.slots) w;
    }

-- what leaves from a list that the ledger es stands for
pub leaves_from : (c r : ℕ) (l : List Held) (page : List ℕ) (es : List Entry) → length page ≡ 4096 → Covers (between c r) r l → EachHeld Sound l → between c r ≡ slots_in es → r < wrap → HeldFrom l r es
    → let s = settle c r l in Replies r page (leaving es) s.replied (replied_page page r s.gone s.replied) × (slots_held s.gone ≡ slots_in (leaving es))
leaves_from c r l page es size v snd n h u =
    let d = settle_departs c r l es v n h u in (
      record { records = (settle c r l).gone; theirs = d.theirs; counter = d.replied; written = settle_replied c r l page size v snd },
      d.slots,
    )
