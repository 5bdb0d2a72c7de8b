-- The divider agrees with the grammar at the front of a list of slots.
use mathlib.Core.Path.{◌≡◌, refl, sym, ap, ◌∙◌}
use mathlib.Core.Logic.{◌≢◌}
use mathlib.Core.List.{List, [], ◌∷◌, ◌++◌}
use mathlib.Core.Bool.{Bool, true, false, cond, ◌&&◌}
use Prim.Native.Nat.{ℕ, suc, ◌+◌, ◌≤◌}
use native.Mathlib.Omega.{arith}
use lib.ListN.{length, length-append}
use Rattle.words.specs.Word.{bit, u16_at}
use Rattle.words.proofs.Word.{and_both}
use Rattle.netif.specs.Slot.{Slot, flags, more_data, extra_follows, is_extra, another_extra}
use Rattle.grammar.specs.Grammar.{within, is_later, Chain, final, linked, Owed, Packet}
use Rattle.grammar.specs.Divide.{Cut, whole, beginning, misshapen, owed, scan}
use Rattle.grammar.proofs.Within.{within_down}

-- what may still follow d data slots and e extras to make D and E of them
pub record Rest (d e D E : ℕ) (x m : Bool) (l : List Slot) : Type 0 where
  pub extras : List Slot
  pub later : List Slot
  pub slots : l ≡ extras ++ later
  pub extras_owed : Owed x is_extra another_extra extras
  pub later_owed : Owed m is_later more_data later
  pub datas : D ≡ d + length later
  pub extra_count : E ≡ e + length extras
  pub limit : within D E ≡ true

-- ---- chains

module _ {right announces : Slot → Bool} where
  pub link : {s : Slot} {l : List Slot} → right s ≡ true → (b : Bool) → announces s ≡ b → Owed b right announces l → Chain right announces (s ∷ l)
  link r true a c = linked r a c
  link {s} {l} r false a c = rw c (final r a)

  pub chain_some : {l : List Slot} → Chain right announces l → 1 ≤ length l
  chain_some (final r a) = omega arith
  chain_some (linked r a c) = omega arith

  -- a chain by its first slot
  unlink : {s : Slot} {l : List Slot} → Chain right announces (s ∷ l) → (right s ≡ true) × Owed (announces s) right announces l
  unlink (final r a) = (r, rw a refl)
  unlink (linked r a c) = (r, rw a c)

owed_least : (right announces : Slot → Bool) (b : Bool) (l : List Slot) → Owed b right announces l → owed b ≤ length l
owed_least right announces true l c = chain_some c
owed_least right announces false l c = omega arith

-- ---- what follows, by its first slot

module _ {d e D E : ℕ} where
  rest_within : {x m : Bool} {l : List Slot} → Rest d e D E x m l → within (d + owed m) (e + owed x) ≡ true
  rest_within {x} {m} r =
      within_down D E (d + owed m) (e + owed x) r.limit
      (omega (arith, owed_least is_later more_data m r.later r.later_owed, r.datas))
      (omega (arith, owed_least is_extra another_extra x r.extras r.extras_owed, r.extra_count))

  rest_none : {l : List Slot} → Rest d e D E false false l → (l ≡ []) × (D ≡ d) × (E ≡ e)
  rest_none r =
      let p : length r.later ≡ 0 = ap length r.later_owed in
      let q : length r.extras ≡ 0 = ap length r.extras_owed in
      (r.slots ∙ rw (r.extras_owed, r.later_owed), omega (arith, r.datas), omega (arith, r.extra_count))

rest_within_data : {d e D E : ℕ} {l : List Slot} → Rest d e D E false true l → within (d + 1) e ≡ true
rest_within_data {d} {e} {D} {E} r =
    within_down D E (d + 1) e r.limit (omega (arith, chain_some r.later_owed, r.datas)) (omega (arith, r.extra_count))

pub none_rest : {d e D E : ℕ} → d ≡ D → e ≡ E → within D E ≡ true → Rest d e D E false false []
none_rest a b w = record { extras = []; later = []; slots = refl; extras_owed = refl; later_owed = refl; datas = omega arith; extra_count = omega arith; limit = w }

module _ {d e D E : ℕ} {m : Bool} {s : Slot} {q : List Slot} where
  extra_rest : is_extra s ≡ true → Rest d (suc e) D E (another_extra s) m q → Rest d e D E true m (s ∷ q)
  extra_rest h r = record {
    extras = s ∷ r.extras;
    later = r.later;
    slots = ap (s ∷◌) r.slots;
    extras_owed = link h (another_extra s) refl r.extras_owed;
    later_owed = r.later_owed;
    datas = r.datas;
    extra_count = omega (arith, r.extra_count);
    limit = r.limit;
  }

  rest_extra : Rest d e D E true m (s ∷ q) → (is_extra s ≡ true) × Rest d (suc e) D E (another_extra s) m q
  rest_extra r = go r.extras r.slots r.extras_owed r.extra_count
    where
      go : (xs : List Slot) → s ∷ q ≡ xs ++ r.later → Chain is_extra another_extra xs → E ≡ e + length xs → (is_extra s ≡ true) × Rest d (suc e) D E (another_extra s) m q
      go [] p c k = absurd (let z : 1 ≤ 0 = chain_some c in omega arith)
      go (y ∷ ys) p c k =
          let a : s ≡ y = cc in
          let b : q ≡ ys ++ r.later = cc in (
            rw a (unlink c).0,
            record {
              extras = ys;
              later = r.later;
              slots = b;
              extras_owed = rw a (unlink c).1;
              later_owed = r.later_owed;
              datas = r.datas;
              extra_count = omega arith;
              limit = r.limit;
            },
          )

module _ {d e D E : ℕ} {s : Slot} {q : List Slot} where
  data_rest : is_later s ≡ true → Rest (suc d) e D E false (more_data s) q → Rest d e D E false true (s ∷ q)
  data_rest h r =
      let a : q ≡ r.later = r.slots ∙ rw r.extras_owed refl in
      record {
        extras = r.extras;
        later = s ∷ r.later;
        slots = rw r.extras_owed (ap (s ∷◌) a);
        extras_owed = r.extras_owed;
        later_owed = link h (more_data s) refl r.later_owed;
        datas = omega (arith, r.datas);
        extra_count = r.extra_count;
        limit = r.limit;
      }

  rest_data : Rest d e D E false true (s ∷ q) → (is_later s ≡ true) × Rest (suc d) e D E false (more_data s) q
  rest_data r = go r.later (r.slots ∙ rw r.extras_owed refl) r.later_owed r.datas
    where
      go : (xs : List Slot) → s ∷ q ≡ xs → Chain is_later more_data xs → D ≡ d + length xs → (is_later s ≡ true) × Rest (suc d) e D E false (more_data s) q
      go [] p c k = absurd (let z : 1 ≤ 0 = chain_some c in omega arith)
      go (y ∷ ys) p c k =
          let a : s ≡ y = cc in
          let b : q ≡ ys = cc in (
            rw a (unlink c).0,
            record {
              extras = r.extras;
              later = ys;
              slots = rw r.extras_owed b;
              extras_owed = r.extras_owed;
              later_owed = rw a (unlink c).1;
              datas = omega arith;
              extra_count = r.extra_count;
              limit = r.limit;
            },
          )

rest_nil : {d e D E : ℕ} {x m : Bool} → Rest d e D E x m [] → (x ≡ false) × (m ≡ false)
rest_nil {x} {m} r = (go x (owed_least is_extra another_extra x r.extras r.extras_owed) (omega arith), go m (owed_least is_later more_data m r.later r.later_owed) (omega arith))
  where
    none : length r.extras + length r.later ≡ 0
    none = sym (length-append r.extras r.later) ∙ sym (ap length r.slots)

    go : {n : ℕ} (b : Bool) → owed b ≤ n → n ≤ length r.extras + length r.later → b ≡ false
    go true h k = absurd (omega (arith, none))
    go false h k = refl

-- ---- tests

-- a test that did not end as misshapen was passed
passed : (b : Bool) (c z : Cut) → z ≢ misshapen → cond b c misshapen ≡ z → (b ≡ true) × (c ≡ z)
passed true c z n h = (refl, h)
passed false c z n h = absurd (n (sym h))

passed₂ : (a b : Bool) (c z : Cut) → z ≢ misshapen → cond (a && b) c misshapen ≡ z → (b ≡ true) × (c ≡ z)
passed₂ a b c z n h = let (p, q) = passed (a && b) c z n h in ((and_both a b p).1, q)

whole_shaped : {D E : ℕ} → whole D E ≢ misshapen
whole_shaped h = cc

beginning_shaped : beginning ≢ misshapen
beginning_shaped h = cc

not_beginning : (d e : ℕ) (b : Bool) → cond b (whole d e) misshapen ≢ beginning
not_beginning d e true h = cc
not_beginning d e false h = cc

not_whole : (D E : ℕ) (b : Bool) → cond b beginning misshapen ≢ whole D E
not_whole D E true h = cc
not_whole D E false h = cc

-- ---- the divider's answers are right

pub scan_done : (l : List Slot) (d e : ℕ) → scan l d e false false ≡ cond (within d e) (whole d e) misshapen
scan_done [] d e = refl
scan_done (s ∷ l) d e = refl

abbrev pub Found : List Slot → ℕ → ℕ → ℕ → ℕ → Bool → Bool → Type 0
Found l d e D E x m = (p : List Slot) × (t : List Slot) × (l ≡ p ++ t) × Rest d e D E x m p

found_done : (d e : ℕ) {D E : ℕ} (l : List Slot) → cond (within d e) (whole d e) misshapen ≡ whole D E → Found l d e D E false false
found_done d e {D} {E} l h =
    let (w, k) = passed (within d e) (whole d e) (whole D E) whole_shaped h in
    let a : d ≡ D = cc in
    let b : e ≡ E = cc in
    ([], l, refl, none_rest a b (rw (a, b) at w))

pub scan_whole : (l : List Slot) (d e D E : ℕ) (x m : Bool) → scan l d e x m ≡ whole D E → Found l d e D E x m
scan_whole [] d e D E false false h = found_done d e [] h
scan_whole [] d e D E true m h = absurd (not_whole D E (within (d + owed m) (e + 1)) h)
scan_whole [] d e D E false true h = absurd (not_whole D E (within (d + 1) e) h)
scan_whole (s ∷ l) d e D E false false h = found_done d e (s ∷ l) h
scan_whole (s ∷ l) d e D E true m h =
    let (b, k) = passed₂ (within (d + owed m) (e + 1)) (is_extra s) (scan l d (suc e) (another_extra s) m) (whole D E) whole_shaped h in
    let (p, t, q, r) = scan_whole l d (suc e) D E (another_extra s) m k in
    (s ∷ p, t, ap (s ∷◌) q, extra_rest b r)
scan_whole (s ∷ l) d e D E false true h =
    let (b, k) = passed₂ (within (d + 1) e) (is_later s) (scan l (suc d) e false (more_data s)) (whole D E) whole_shaped h in
    let (p, t, q, r) = scan_whole l (suc d) e D E false (more_data s) k in
    (s ∷ p, t, ap (s ∷◌) q, data_rest b r)

-- a slot that ends a chain of extras, or of data slots
plain_extra : Slot
plain_extra = 1 ∷ 0 ∷ 0 ∷ 0 ∷ 0 ∷ 0 ∷ 0 ∷ 0 ∷ 0 ∷ 0 ∷ 0 ∷ 0 ∷ []

unfoldable pub plain_data : Slot
plain_data = 0 ∷ 0 ∷ 0 ∷ 0 ∷ 0 ∷ 0 ∷ 0 ∷ 0 ∷ 0 ∷ 0 ∷ 0 ∷ 0 ∷ []

one_extra : Chain is_extra another_extra (plain_extra ∷ [])
unfolding plain_extra is_extra another_extra bit
one_extra = final refl refl

one_data : Chain is_later more_data (plain_data ∷ [])
unfolding plain_data extra_follows more_data flags bit u16_at
one_data = final refl refl

-- the least that is owed
least : Bool → List Slot
least true = plain_data ∷ []
least false = []

least_owed : (m : Bool) → Owed m is_later more_data (least m)
unfolding least
least_owed true = one_data
least_owed false = refl

least_length : (m : Bool) → length (least m) ≡ owed m
unfolding least
least_length true = refl
least_length false = refl

-- what would follow to make a packet
abbrev pub Open : List Slot → ℕ → ℕ → Bool → Bool → Type 0
Open l d e x m = (t : List Slot) × (t ≢ []) × (D : ℕ) × (E : ℕ) × Rest d e D E x m (l ++ t)

pub some_list : {a : Slot} {l : List Slot} → a ∷ l ≢ []
some_list h = cc

pub scan_beginning : (l : List Slot) (d e : ℕ) (x m : Bool) → scan l d e x m ≡ beginning → Open l d e x m
scan_beginning [] d e false false h = absurd (not_beginning d e (within d e) h)
scan_beginning [] d e true m h = (
  plain_extra ∷ least m,
  some_list,
  d + owed m,
  e + 1,
  record {
    extras = plain_extra ∷ [];
    later = least m;
    slots = refl;
    extras_owed = one_extra;
    later_owed = least_owed m;
    datas = ap (d +◌) (sym (least_length m));
    extra_count = refl;
    limit = (passed _ _ _ beginning_shaped h).0;
  },
)
scan_beginning [] d e false true h = (
  plain_data ∷ [],
  some_list,
  d + 1,
  e,
  record {
    extras = [];
    later = plain_data ∷ [];
    slots = refl;
    extras_owed = refl;
    later_owed = one_data;
    datas = refl;
    extra_count = omega arith;
    limit = (passed _ _ _ beginning_shaped h).0;
  },
)
scan_beginning (s ∷ l) d e false false h = absurd (not_beginning d e (within d e) h)
scan_beginning (s ∷ l) d e true m h =
    let (b, k) = passed₂ (within (d + owed m) (e + 1)) (is_extra s) (scan l d (suc e) (another_extra s) m) beginning beginning_shaped h in
    let (t, n, D, E, r) = scan_beginning l d (suc e) (another_extra s) m k in
    (t, n, D, E, extra_rest b r)
scan_beginning (s ∷ l) d e false true h =
    let (b, k) = passed₂ (within (d + 1) e) (is_later s) (scan l (suc d) e false (more_data s)) beginning beginning_shaped h in
    let (t, n, D, E, r) = scan_beginning l (suc d) e false (more_data s) k in
    (t, n, D, E, data_rest b r)

-- ---- and whatever the grammar has, the divider finds

pub rest_scan : (p t : List Slot) (d e D E : ℕ) (x m : Bool) → Rest d e D E x m p → scan (p ++ t) d e x m ≡ whole D E
rest_scan [] t d e D E false false r = let (n, a, b) = rest_none r in rw (scan_done, ← a, ← b, r.limit)
rest_scan [] t d e D E true m r = cc (rest_nil r).0
rest_scan [] t d e D E false true r = cc (rest_nil r).1
rest_scan (s ∷ p) t d e D E false false r = absurd (some_list (rest_none r).0)
rest_scan (s ∷ p) t d e D E true m r =
    let (b, k) = rest_extra r in
    rw (rest_within r, b) (rest_scan p t d (suc e) D E (another_extra s) m k)
rest_scan (s ∷ p) t d e D E false true r =
    let (b, k) = rest_data r in
    rw (rest_within_data r, b) (rest_scan p t (suc d) e D E false (more_data s) k)

pub open_scan : (l t : List Slot) (d e D E : ℕ) (x m : Bool) → t ≢ [] → Rest d e D E x m (l ++ t) → scan l d e x m ≡ beginning
open_scan [] t d e D E false false n r = absurd (n (rest_none r).0)
open_scan [] t d e D E true m n r = rw (rest_within r)
open_scan [] t d e D E false true n r = rw (rest_within_data r)
open_scan (s ∷ l) t d e D E false false n r = absurd (some_list (rest_none r).0)
open_scan (s ∷ l) t d e D E true m n r =
    let (b, k) = rest_extra r in
    rw (rest_within r, b) (open_scan l t d (suc e) D E (another_extra s) m n k)
open_scan (s ∷ l) t d e D E false true n r =
    let (b, k) = rest_data r in
    rw (rest_within_data r, b) (open_scan l t (suc d) e D E false (more_data s) n k)

-- ---- the same of whole lists

pub packet_rest : {s : Slot} {l : List Slot} (p : Packet (s ∷ l)) → Rest 1 0 (suc (length p.later)) (length p.extras) (extra_follows s) (more_data s) l
packet_rest {s} {l} p =
    let a : s ≡ p.first = cc p.slots in
    let b : l ≡ p.extras ++ p.later = cc p.slots in
    record {
      extras = p.extras;
      later = p.later;
      slots = b;
      extras_owed = rw a p.extras_owed;
      later_owed = rw a p.later_owed;
      datas = omega arith;
      extra_count = omega arith;
      limit = p.limit;
    }

unfoldable pub rest_packet : {s : Slot} {l : List Slot} {D E : ℕ} → Rest 1 0 D E (extra_follows s) (more_data s) l → Packet (s ∷ l)
rest_packet {s} {l} {D} {E} r =
    let a : suc (length r.later) ≡ D = omega (arith, r.datas) in
    let b : length r.extras ≡ E = omega (arith, r.extra_count) in
    record {
      first = s;
      extras = r.extras;
      later = r.later;
      slots = ap (s ∷◌) r.slots;
      extras_owed = r.extras_owed;
      later_owed = r.later_owed;
      limit = rw (a, b) r.limit;
    }
