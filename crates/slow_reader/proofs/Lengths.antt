-- The search for a packet's length, as `front` does it: while the slots seen are a proper beginning no packet stands at their front, and one
-- slot more that makes them begin none settles it for all that follow.
use mathlib.Core.Path.{◌≡◌, sym, ap, ◌∙◌}
use mathlib.Core.Logic.{◌⊎◌, inl, inr}
use mathlib.Core.List.{List, [], ◌∷◌, ◌++◌, append-nil, append_assoc}
use Rattle.std.specs.Prelude.{Ok, Err}
use Prim.Native.Nat.{ℕ, ◌+◌, ◌-◌, ◌≤◌}
use native.Mathlib.Omega.{arith}
use lib.ListN.{length, length-append}
use Rattle.words.proofs.Lists.{one_begins, append_cancel, length_zero}
use Rattle.netif.specs.Slot.{Slot}
use Rattle.grammar.specs.Grammar.{Packet, Begins, BeginsProperly, NoneAtFront, MisshapenFront}
use Rattle.grammar.proofs.Grammar.{packet_alone, misshapen_stays}
use Rattle.division.specs.Run.{slot_in, slots_in}
use Rattle.division.specs.Answer.{StepIs}
use Rattle.division.specs.declared.Ending.TheVariants as ending
use Rattle.division.proofs.Runs.{slots_length, slots_join, slots_split, slots_take}

-- at the front of a proper beginning stands no packet
begins_none : (l : List Slot) → BeginsProperly l → NoneAtFront l
unfolding BeginsProperly NoneAtFront
begins_none l (t, some, p) q u j k =
    let whole : Packet (q ++ (u ++ t)) = rw (j, append_assoc q u t) at p in
    let none : length (u ++ t) ≡ 0 = ap length (packet_alone q (u ++ t) k whole) in
    some (length_zero t (omega (arith, length-append u t)))

-- nor where one slot more makes it begin none
stuck_none : (l : List Slot) (s : Slot) → BeginsProperly l → (Begins (l ++ (s ∷ [])) → ⊥) → NoneAtFront (l ++ (s ∷ []))
unfolding Begins NoneAtFront
stuck_none l s b never q [] j k = never ([], rw (append-nil, j, append-nil) k)
stuck_none l s b never q (x ∷ u) j k = go (one_begins q (x ∷ u) l (s ∷ []) (sym j))
  where
    go : ((r : List Slot) × (q ≡ l ++ r)) ⊎ ((r : List Slot) × (l ≡ q ++ r)) → ⊥
    go (inl (r, e)) =
        let same : r ++ (x ∷ u) ≡ s ∷ [] = append_cancel l (r ++ (x ∷ u)) (s ∷ []) (sym (append_assoc l r (x ∷ u)) ∙ ap (◌++ (x ∷ u)) (sym e) ∙ sym j) in
        let none : r ≡ [] = length_zero r (omega (arith, length-append r (x ∷ u), ap length same)) in
        begins_none l b q [] (sym (append-nil q ∙ e ∙ ap (l ++◌) none ∙ append-nil l)) k
    go (inr (r, e)) = begins_none l b q r e k

-- ---- the three ways out

module _ (bytes : List ℕ) (at left n : ℕ) (fits : n ≤ left) where
  pub front_packet : Packet (slots_in bytes at n) → StepIs (slots_in bytes at left) (Ok n)
  front_packet p = (omega (arith, slots_length bytes left at), rw (slots_take bytes n left at fits) p)

  pub front_misshapen : 1 ≤ n → BeginsProperly (slots_in bytes at (n - 1)) → (Begins (slots_in bytes at n) → ⊥) → StepIs (slots_in bytes at left) (Err ending.Misshapen)
  front_misshapen some b never =
      let z : n ≡ n - 1 + 1 = omega arith in
      let one : slots_in bytes at n ≡ slots_in bytes at (n - 1) ++ (slot_in bytes (at + (n - 1)) ∷ []) = ap (slots_in bytes at) z ∙ slots_join bytes (n - 1) 1 at in
      let front : NoneAtFront (slots_in bytes at n) = rw one (stuck_none (slots_in bytes at (n - 1)) (slot_in bytes (at + (n - 1))) b (rw one at never)) in
      let m : MisshapenFront (slots_in bytes at left) = rw (slots_split bytes n left at fits) (misshapen_stays (slots_in bytes at n) (slots_in bytes (at + n) (left - n)) (never, front)) in
      (m.1, m.0)

pub front_waiting : (bytes : List ℕ) (at left : ℕ) → 1 ≤ left → BeginsProperly (slots_in bytes at left) → StepIs (slots_in bytes at left) (Err ending.Waiting)
front_waiting bytes at left some b = (begins_none (slots_in bytes at left) b, ((λ z. omega (arith, slots_length bytes left at, ap length z)), b))
