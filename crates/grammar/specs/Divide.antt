-- The divider: what stands at the front of a list of slots; and, as document 01 says of demand 3, a run's leading packets and the rest.
use Rattle.std.specs.Prelude.{List, [], ◌∷◌, Bool, true, false, not, cond, ◌&&◌, ℕ, zero, suc, ◌+◌, length, take, drop}
use Rattle.netif.specs.Slot.{Slot, more_data, extra_follows, is_extra, another_extra}
use Rattle.grammar.specs.Grammar.{within, is_later}

-- what stands at the front: a whole packet of so many data slots and extras, a proper beginning only, or neither
pub data Cut : Type 0 where
  whole : ℕ → ℕ → Cut
  beginning : Cut
  misshapen : Cut

-- the least number of slots that an announcement still asks for
abbrev pub owed : Bool → ℕ
owed true = 1
owed false = 0

-- after d data slots and e extras, x: another extra is owed, m: more data is owed. What is seen begins a packet only
-- if the slots owed at least stay within the limit
abbrev pub scan : List Slot → ℕ → ℕ → Bool → Bool → Cut
scan [] d e false false = cond (within d e) (whole d e) misshapen
scan [] d e true m = cond (within (d + owed m) (e + 1)) beginning misshapen
scan [] d e false true = cond (within (d + 1) e) beginning misshapen
scan (s ∷ l) d e false false = cond (within d e) (whole d e) misshapen
scan (s ∷ l) d e true m = cond (within (d + owed m) (e + 1) && is_extra s) (scan l d (suc e) (another_extra s) m) misshapen
scan (s ∷ l) d e false true = cond (within (d + 1) e && is_later s) (scan l (suc d) e false (more_data s)) misshapen

-- a list of slots, from its first on
unfoldable pub divide : List Slot → Cut
divide [] = beginning
divide (s ∷ l) = scan l 1 0 (extra_follows s) (more_data s)

-- a first slot that announces nothing is a packet by itself
unfoldable pub alone : Slot → Bool
alone s = not (more_data s) && not (extra_follows s)

-- by what stands at the front
abbrev pub on_cut {ℓ} : {A : Type ℓ} → Cut → (ℕ → ℕ → A) → A → A → A
on_cut (whole d e) w b m = w d e
on_cut beginning w b m = b
on_cut misshapen w b m = m

-- a packet is cut off as long as one stands at the front, at most n times: the packets and the rest
abbrev pub divided : ℕ → List Slot → List (List Slot) × List Slot
divided zero l = ([], l)
divided (suc n) l =
    on_cut (divide l)
    (λ d e. let r = divided n (drop (d + e) l) in (take (d + e) l ∷ r.0, r.1))
    ([], l)
    ([], l)

-- a run's leading packets, and the rest
unfoldable pub packets_of : List Slot → List (List Slot)
packets_of run = (divided (length run) run).0

unfoldable pub rest_of : List Slot → List Slot
rest_of run = (divided (length run) run).1
