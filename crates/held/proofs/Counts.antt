-- Counts that some packet has: `is_count` is true of a packet's counts, and wherever it is true there is a packet of these counts.
use mathlib.Core.Path.{◌≡◌, refl, ◌∙◌}
use mathlib.Core.List.{List, [], ◌∷◌, ◌++◌}
use mathlib.Core.Bool.{Bool, true, false}
use Prim.Native.Nat.{ℕ, zero, suc, ◌-◌, ◌<◌}
use native.Mathlib.Omega.{arith}
use lib.ListN.{length, replicate, length-append, length-replicate}
use lib.Dec.{ltb}
use borrow.Author.Tests.{ltb-true, lt-ltb}
use Rattle.words.proofs.Word.{and_both, true_and}
use Rattle.words.specs.Word.{u16_at, bit}
use Rattle.netif.specs.Slot.{Slot, flags, more_data, extra_follows, is_extra, another_extra}
use Rattle.grammar.specs.Grammar.{within, Chain, is_later, Packet}
use Rattle.grammar.proofs.Grammar.{packet_length}
use Rattle.held.specs.Valid.{is_count}

-- a packet's counts
pub packet_counts : {p : List Slot} (k : Packet p) → is_count (length p) (length k.extras) ≡ true
unfolding is_count
packet_counts {p} k =
    let e : length p - length k.extras ≡ suc (length k.later) = omega (arith, packet_length k) in
    let f : length k.extras < length p = omega (arith, packet_length k) in
    true_and (ltb (length k.extras) (length p)) _ (lt-ltb (length k.extras) (length p) f) (rw e k.limit)

-- ---- a packet of given counts

-- slots of these flags
data_with : ℕ → Slot
data_with fl = 0 ∷ 0 ∷ 0 ∷ 0 ∷ 0 ∷ 0 ∷ fl ∷ 0 ∷ 0 ∷ 0 ∷ 0 ∷ 0 ∷ []

extra_with : ℕ → Slot
extra_with fl = 1 ∷ fl ∷ 0 ∷ 0 ∷ 0 ∷ 0 ∷ 0 ∷ 0 ∷ 0 ∷ 0 ∷ 0 ∷ 0 ∷ []

chain_of : (right announces : Slot → Bool) (go stop : Slot) → right go ≡ true → announces go ≡ true → right stop ≡ true → announces stop ≡ false
    → (n : ℕ) → Chain right announces (replicate n go ++ (stop ∷ []))
chain_of right announces go stop a b c d zero = Chain.final c d
chain_of right announces go stop a b c d (suc n) = Chain.linked a b (chain_of right announces go stop a b c d n)

chain_length : (go stop : Slot) (n : ℕ) → length (replicate n go ++ (stop ∷ [])) ≡ suc n
chain_length go stop n = length-append (replicate n go) (stop ∷ []) ∙ omega (arith, length-replicate n go)

extras_chain : (n : ℕ) → Chain is_extra another_extra (replicate n (extra_with 1) ++ (extra_with 0 ∷ []))
unfolding is_extra another_extra bit extra_with
extras_chain n = chain_of is_extra another_extra (extra_with 1) (extra_with 0) refl refl refl refl n

later_chain : (n : ℕ) → Chain is_later more_data (replicate n (data_with 4) ++ (data_with 0 ∷ []))
unfolding extra_follows more_data flags u16_at bit data_with
later_chain n = chain_of is_later more_data (data_with 4) (data_with 0) refl refl refl refl n

-- a packet of so many later slots and extras
record Made (later e : ℕ) : Type 0 where
  slots : List Slot
  packet : Packet slots
  laters : length packet.later ≡ later
  extras : length packet.extras ≡ e

made : (later e : ℕ) → within (suc later) e ≡ true → Made later e
unfolding extra_follows more_data flags u16_at bit data_with
made zero zero w = record { slots = data_with 0 ∷ []; packet = record { first = data_with 0; extras = []; later = []; slots = refl; extras_owed = refl; later_owed = refl; limit = w }; laters = refl; extras = refl }
made zero (suc e) w =
    let x = replicate e (extra_with 1) ++ (extra_with 0 ∷ []) in
    let n = chain_length (extra_with 1) (extra_with 0) e in
    record { slots = data_with 8 ∷ (x ++ []); packet = record { first = data_with 8; extras = x; later = []; slots = refl; extras_owed = extras_chain e; later_owed = refl; limit = rw n w }; laters = refl; extras = n }
made (suc d) zero w =
    let y = replicate d (data_with 4) ++ (data_with 0 ∷ []) in
    let n = chain_length (data_with 4) (data_with 0) d in
    record { slots = data_with 4 ∷ y; packet = record { first = data_with 4; extras = []; later = y; slots = refl; extras_owed = refl; later_owed = later_chain d; limit = rw n w }; laters = n; extras = refl }
made (suc d) (suc e) w =
    let x = replicate e (extra_with 1) ++ (extra_with 0 ∷ []) in
    let y = replicate d (data_with 4) ++ (data_with 0 ∷ []) in
    let m = chain_length (extra_with 1) (extra_with 0) e in
    let n = chain_length (data_with 4) (data_with 0) d in
    record { slots = data_with 12 ∷ (x ++ y); packet = record { first = data_with 12; extras = x; later = y; slots = refl; extras_owed = extras_chain e; later_owed = later_chain d; limit = rw (m, n) w }; laters = n; extras = m }

pub count_packet : (n e : ℕ) → is_count n e ≡ true → (p : List Slot) × (k : Packet p) × (length p ≡ n) × (length k.extras ≡ e)
unfolding is_count
count_packet n e h =
    let (a, b) = and_both (ltb e n) (within (n - e) e) h in
    let less = ltb-true e n a in
    let z : n - e ≡ suc (n - e - 1) = omega arith in
    let m = made (n - e - 1) e (rw z at b) in
    (m.slots, m.packet, omega (arith, packet_length {l = m.slots} m.packet, m.laters, m.extras), m.extras)
