-- The laws of the packet grammar: what the divider answers is what the grammar says, no packet is a proper beginning of
-- another, more slots change neither a packet at the front nor a list that begins none, and a run has one division.
use mathlib.Core.Path.{◌≡◌, refl, sym, ap, ◌∙◌}
use mathlib.Core.Logic.{◌≢◌, ◌⊎◌, inl, inr, ◌↔◌, ⊎_elim}
use mathlib.Core.List.{List, [], ◌∷◌, ◌++◌, append-nil, append_assoc}
use Prim.Native.Nat.{ℕ, zero, suc, ◌+◌, ◌≤◌}
use native.Mathlib.Omega.{arith}
use lib.ListN.{length, take, drop, length-append}
use lib.Seq.{take_at, drop_at}
use Rattle.words.specs.Word.{bit, u16_at}
use Rattle.netif.specs.Slot.{Slot, flags, more_data, extra_follows}
use Rattle.grammar.specs.Grammar.{most_slots, Packet, Begins, BeginsProperly, AtFront, NoneAtFront, MisshapenFront, join_all, Division}
use Rattle.grammar.specs.Divide.{Cut, whole, beginning, misshapen, divide, divided, packets_of, rest_of}
use Rattle.grammar.proofs.Within.{within_one, within_bound}
use Rattle.words.proofs.Lists.{one_begins, append_cancel, length_zero}
use Rattle.grammar.proofs.Scan.{scan_whole, scan_beginning, rest_scan, open_scan, packet_rest, rest_packet, none_rest, plain_data, some_list}

-- ---- a packet's slots

pub packet_length : {l : List Slot} (p : Packet l) → length l ≡ suc (length p.later) + length p.extras
packet_length {l} p =
    let h : length l ≡ suc (length (p.extras ++ p.later)) = ap length p.slots in
    omega (arith, length-append p.extras p.later)

pub packet_some : {l : List Slot} → Packet l → 1 ≤ length l
packet_some p = omega (arith, packet_length p)

pub packet_bound : {l : List Slot} → Packet l → length l ≤ most_slots
packet_bound p = omega (arith, packet_length p, within_bound _ _ p.limit)

-- ---- the divider

-- a packet at the front is found
pub packet_divide : {l : List Slot} (p : Packet l) (t : List Slot) → divide (l ++ t) ≡ whole (suc (length p.later)) (length p.extras)
unfolding divide
packet_divide {l = []} p t = absurd (some_list (sym p.slots))
packet_divide {l = s ∷ l} p t = rest_scan l t 1 0 _ _ (extra_follows s) (more_data s) (packet_rest p)

-- a proper beginning is found
pub begins_divide : (l t : List Slot) → t ≢ [] → Packet (l ++ t) → divide l ≡ beginning
unfolding divide
begins_divide [] t n p = refl
begins_divide (s ∷ l) t n p = open_scan l t 1 0 _ _ (extra_follows s) (more_data s) n (packet_rest p)

-- what the divider calls whole is a packet
pub divide_whole : (l : List Slot) (d e : ℕ) → divide l ≡ whole d e → AtFront l d e
unfolding divide rest_packet
divide_whole [] d e h = cc
divide_whole (s ∷ l) d e h =
    let (p, t, q, r) = scan_whole l 1 0 d e (extra_follows s) (more_data s) h in
    record {
      front = s ∷ p;
      tail = t;
      joined = ap (s ∷◌) q;
      packet = rest_packet r;
      counts_data = omega (arith, r.datas);
      counts_extras = omega (arith, r.extra_count);
    }

one_slot : Packet (plain_data ∷ [])
unfolding plain_data extra_follows more_data flags bit u16_at
one_slot = rest_packet (none_rest {d = 1} {e = 0} refl refl within_one)

-- what the divider calls a beginning is a proper beginning
pub divide_begins : (l : List Slot) → divide l ≡ beginning → BeginsProperly l
unfolding divide BeginsProperly
divide_begins [] h = (plain_data ∷ [], some_list, one_slot)
divide_begins (s ∷ l) h =
    let (t, n, d, e, r) = scan_beginning l 1 0 (extra_follows s) (more_data s) h in
    (t, n, rest_packet r)

-- no slots are a proper beginning
pub nothing_begins : BeginsProperly []
unfolding divide
nothing_begins = divide_begins [] refl

-- ---- the three answers, each exactly if

pub whole_iff : (l : List Slot) (d e : ℕ) → (divide l ≡ whole d e) ↔ AtFront l d e
whole_iff l d e = (divide_whole l d e, back)
  where
    back : AtFront l d e → divide l ≡ whole d e
    back a = ap divide a.joined ∙ packet_divide a.packet a.tail ∙ (λ i. whole (a.counts_data i) (a.counts_extras i))

pub beginning_iff : (l : List Slot) → (divide l ≡ beginning) ↔ BeginsProperly l
unfolding BeginsProperly
beginning_iff l = (divide_begins l, λ b. begins_divide l b.0 b.1 b.2)

pub misshapen_iff : (l : List Slot) → (divide l ≡ misshapen) ↔ MisshapenFront l
unfolding Begins BeginsProperly NoneAtFront
misshapen_iff l = (λ h. (no_begin h, no_front h), λ n. back (divide l) refl n)
  where
    no_front : divide l ≡ misshapen → (p t : List Slot) → l ≡ p ++ t → Packet p → ⊥
    no_front h p t j k =
        let a : divide l ≡ whole (suc (length k.later)) (length k.extras) = ap divide j ∙ packet_divide k t in
        cc

    no_begin : divide l ≡ misshapen → ((t : List Slot) × Packet (l ++ t)) → ⊥
    no_begin h b = go b.0 b.1
      where
        go : (t : List Slot) → Packet (l ++ t) → ⊥
        go [] k = no_front h (l ++ []) [] (sym (append-nil l) ∙ sym (append-nil (l ++ []))) k
        go (s ∷ t) k =
            let a : divide l ≡ beginning = begins_divide l (s ∷ t) some_list k in
            cc

    back : (c : Cut) → divide l ≡ c → (((t : List Slot) × Packet (l ++ t)) → ⊥) × ((p t : List Slot) → l ≡ p ++ t → Packet p → ⊥) → divide l ≡ misshapen
    back (whole d e) h n = let a = divide_whole l d e h in absurd (n.1 a.front a.tail a.joined a.packet)
    back beginning h n = let b = (beginning_iff l).0 h in absurd (n.0 (b.0, b.2))
    back misshapen h n = h

-- ---- at the front of every list stands a packet, or the list is a proper beginning of one, or it is misshapen

-- a list with a packet at its front is no proper beginning
front_or_beginning_lem : (l : List Slot) (d e : ℕ) → AtFront l d e → BeginsProperly l → ⊥
front_or_beginning_lem l d e a b =
    let h : divide l ≡ whole d e = (whole_iff l d e).1 a in
    let k : divide l ≡ beginning = (beginning_iff l).1 b in
    cc

-- one of the three
some_of_three : (l : List Slot) → ((d : ℕ) × (e : ℕ) × AtFront l d e) ⊎ (BeginsProperly l ⊎ MisshapenFront l)
some_of_three l = go (divide l) refl
  where
    go : (c : Cut) → divide l ≡ c → ((d : ℕ) × (e : ℕ) × AtFront l d e) ⊎ (BeginsProperly l ⊎ MisshapenFront l)
    go (whole d e) h = inl (d, e, (whole_iff l d e).0 h)
    go beginning h = inr (inl ((beginning_iff l).0 h))
    go misshapen h = inr (inr ((misshapen_iff l).0 h))

-- and no two of them
pub record OneOfThree (l : List Slot) : Type 0 where
  pub some : ((d : ℕ) × (e : ℕ) × AtFront l d e) ⊎ (BeginsProperly l ⊎ MisshapenFront l)
  pub front_or_beginning : (d e : ℕ) → AtFront l d e → BeginsProperly l → ⊥
  pub front_or_misshapen : (d e : ℕ) → AtFront l d e → MisshapenFront l → ⊥
  pub beginning_or_misshapen : BeginsProperly l → MisshapenFront l → ⊥

pub one_of_three : (l : List Slot) → OneOfThree l
unfolding Begins BeginsProperly NoneAtFront
one_of_three l = record {
  some = some_of_three l;
  front_or_beginning = front_or_beginning_lem l;
  front_or_misshapen = λ d e a m. m.1 a.front a.tail a.joined a.packet;
  beginning_or_misshapen = λ b m. m.0 (b.0, b.2);
}

-- ---- no packet is a proper beginning of another: what follows it in a packet is nothing

pub packet_alone : (p t : List Slot) → Packet p → Packet (p ++ t) → t ≡ []
packet_alone p t a b =
    let h : divide (p ++ t) ≡ whole (suc (length a.later)) (length a.extras) = packet_divide a t in
    let k : divide ((p ++ t) ++ []) ≡ whole (suc (length b.later)) (length b.extras) = packet_divide b [] in
    let k' : divide (p ++ t) ≡ whole (suc (length b.later)) (length b.extras) = rw append-nil at k in
    let i : length a.later ≡ length b.later = cc in
    let j : length a.extras ≡ length b.extras = cc in
    length_zero t (omega (arith, packet_length a, packet_length b, length-append p t))

-- a packet of so many data slots and extras at the front is as many slots; what follows it are the others
pub front_slots : (l : List Slot) (d e : ℕ) (a : AtFront l d e) → (length a.front ≡ d + e) × (take (d + e) l ≡ a.front) × (drop (d + e) l ≡ a.tail)
front_slots l d e a =
    let size : length a.front ≡ d + e = omega (arith, packet_length a.packet, a.counts_data, a.counts_extras) in (
      size,
      ap (take (d + e)) a.joined ∙ take_at a.front a.tail (d + e) size,
      ap (drop (d + e)) a.joined ∙ drop_at a.front a.tail (d + e) size,
    )

-- two packets at the front of one list are the same
pub packet_same : (p q t u : List Slot) → Packet p → Packet q → p ++ t ≡ q ++ u → (p ≡ q) × (t ≡ u)
packet_same p q t u a b h = go (one_begins p t q u h)
  where
    same : p ≡ q → (p ≡ q) × (t ≡ u)
    same e = (e, append_cancel q t u ((let k : p ++ t ≡ q ++ u = h in rw e at k)))

    go : ((r : List Slot) × (p ≡ q ++ r)) ⊎ ((r : List Slot) × (q ≡ p ++ r)) → (p ≡ q) × (t ≡ u)
    go (inl w) =
        let e : p ≡ q ++ w.0 = w.1 in
        let n : w.0 ≡ [] = packet_alone q w.0 b (rw e at a) in
        same (e ∙ rw n (append-nil q))
    go (inr w) =
        let e : q ≡ p ++ w.0 = w.1 in
        let n : w.0 ≡ [] = packet_alone p w.0 a (rw e at b) in
        same (sym (e ∙ rw n (append-nil p)))

-- ---- more slots

-- they leave a packet at the front as it is
pub front_stays : (l t : List Slot) (d e : ℕ) → AtFront l d e → AtFront (l ++ t) d e
front_stays l t d e a = record {
  front = a.front;
  tail = a.tail ++ t;
  joined = ap (◌++ t) a.joined ∙ append_assoc a.front a.tail t;
  packet = a.packet;
  counts_data = a.counts_data;
  counts_extras = a.counts_extras;
}

-- and mend no misshapen list
pub misshapen_stays : (l t : List Slot) → MisshapenFront l → MisshapenFront (l ++ t)
unfolding Begins BeginsProperly NoneAtFront
misshapen_stays l t m = (no_begin, no_front)
  where
    no_front : (p u : List Slot) → l ++ t ≡ p ++ u → Packet p → ⊥
    no_front p u j k = ⊎_elim (λ w. m.1 p w.0 w.1 k) (λ w. m.0 (w.0, rw w.1 at k)) (one_begins l t p u j)

    no_begin : ((u : List Slot) × Packet ((l ++ t) ++ u)) → ⊥
    no_begin b =
        let p : Packet ((l ++ t) ++ b.0) = b.1 in
        m.0 (t ++ b.0, rw append_assoc at p)

-- ---- the division

pub division_unique : (ps qs : List (List Slot)) {run r s : List Slot} → Division run ps r → Division run qs s → (ps ≡ qs) × (r ≡ s)
unfolding NoneAtFront
division_unique [] [] a b = (refl, sym a.joined ∙ b.joined)
division_unique [] (q ∷ qs) {run} {r} {s} a b =
    absurd (a.ends q (join_all qs ++ s) (sym a.joined ∙ b.joined ∙ append_assoc q (join_all qs) s) b.each.0)
division_unique (p ∷ ps) [] {run} {r} {s} a b =
    absurd (b.ends p (join_all ps ++ r) (sym b.joined ∙ a.joined ∙ append_assoc p (join_all ps) r) a.each.0)
division_unique (p ∷ ps) (q ∷ qs) {run} {r} {s} a b =
    let (e, f) = packet_same p q (join_all ps ++ r) (join_all qs ++ s) a.each.0 b.each.0
    (sym (append_assoc p (join_all ps) r) ∙ sym a.joined ∙ b.joined ∙ append_assoc q (join_all qs) s) in
    let (g, h) = division_unique ps qs
    (record { joined = refl; each = a.each.1; ends = a.ends })
    (record { joined = f; each = b.each.1; ends = b.ends }) in
    ((λ i. e i ∷ g i), h)

-- a list at whose front no packet is found has none
pub none_found : (l : List Slot) → ((d e : ℕ) → divide l ≡ whole d e → ⊥) → NoneAtFront l
unfolding NoneAtFront
none_found l n p t j k = n _ _ (ap divide j ∙ packet_divide k t)

pub division_none : (l : List Slot) → NoneAtFront l → Division l [] l
division_none l n = record { joined = refl; each = tt; ends = n }

-- cutting off as long as one stands there gives the division
pub divided_division : (n : ℕ) (l : List Slot) → length l ≤ n → Division l (divided n l).0 (divided n l).1
divided_division zero l h = division_none l (none_found l λ d e k. few d e k)
  where
    few : (d e : ℕ) → divide l ≡ whole d e → ⊥
    few d e k =
        let a = divide_whole l d e k in
        omega (arith, packet_some a.packet, length-append a.front a.tail, ap length a.joined)
divided_division (suc n) l h = go (divide l) refl (λ k. divided_division n k)
  where
    go : (c : Cut) → divide l ≡ c → ((k : List Slot) → length k ≤ n → Division k (divided n k).0 (divided n k).1) → Division l (divided (suc n) l).0 (divided (suc n) l).1
    go (whole d e) k ih =
        let a = divide_whole l d e k in
        let (size, taken, left) = front_slots l d e a in
        let whole_length : length l ≡ length a.front + length a.tail = ap length a.joined ∙ length-append a.front a.tail in
        let r = ih (drop (d + e) l) (rw left (omega (arith, packet_some a.packet))) in
        rw (k, taken) (record {
          joined = a.joined ∙ ap (a.front ++◌) (sym left ∙ r.joined) ∙ sym (append_assoc a.front (join_all (divided n (drop (d + e) l)).0) (divided n (drop (d + e) l)).1);
          each = (a.packet, r.each);
          ends = r.ends;
        })
    go beginning k ih = rw k (division_none l (none_found l λ d e j. cc))
    go misshapen k ih = rw k (division_none l (none_found l λ d e j. cc))

-- a run has a division into packets and a rest with no packet at its front
pub division : (run : List Slot) → Division run (packets_of run) (rest_of run)
unfolding packets_of rest_of
division run = divided_division (length run) run (omega arith)

-- and every one is this one
pub division_only : (run : List Slot) (ps : List (List Slot)) (r : List Slot) → Division run ps r → (ps ≡ packets_of run) × (r ≡ rest_of run)
division_only run ps r d = division_unique ps (packets_of run) d (division run)
