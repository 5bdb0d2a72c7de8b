-- Packets cut off the front of a run one by one, as the loops of both readers do it: what holds before the first cut, after one
-- more, and where no packet stands at the front of what is left.
use mathlib.Core.Path.{◌≡◌, refl, sym, ap, ◌∙◌, subst}
use mathlib.Core.List.{List, [], ◌∷◌, ◌++◌, map, map-append, append_assoc}
use Rattle.std.specs.Prelude.{Result, Ok}
use Prim.Native.Nat.{ℕ, ◌+◌, ◌-◌, ◌≤◌, ◌<◌}
use native.Mathlib.Omega.{arith}
use lib.ListN.{length, take, drop, set, length-append, length-map, take-append-drop}
use lib.Seq.{length-take-le}
use Rattle.words.specs.Word.{splice}
use Rattle.words.proofs.Word.{splice_none, splice_more}
use Rattle.netif.specs.Slot.{Slot}
use Rattle.grammar.specs.Grammar.{Packet, NoneAtFront, AllPackets, join_all}
use Rattle.grammar.proofs.Grammar.{packet_some}
use Rattle.grammar.proofs.Service.{join_snoc, each_append}
use Rattle.division.specs.Answer.{EndsAs, CutAs, StepIs}
use Rattle.division.specs.declared.Ending.{Ending}

-- no packet stands at the front of nothing
pub none_of_nothing : (l : List Slot) → l ≡ [] → NoneAtFront l
unfolding NoneAtFront
none_of_nothing l z p t h k = omega (arith, packet_some k, length-append p t, ap length (sym h ∙ z))

-- a packet at the front of the slots that are left has one slot at least, and no more than these
pub packet_left : (left : List Slot) (slots at n : ℕ) → length left ≡ slots - at → at ≤ slots → StepIs left (Ok n) → (1 ≤ n) × (at + n ≤ slots)
packet_left left slots at n size h p = (omega (arith, packet_some p.1, length-take-le n left p.0), omega (arith, p.0))

module _ (run : List Slot) (before : List ℕ) where
  -- some packets were cut off, and their lengths stand in the table
  pub record Cutting (cuts : List ℕ) (count : ℕ) (left : List Slot) : Type 0 where
    pub packets : List (List Slot)
    pub each : AllPackets packets
    pub joined : run ≡ join_all packets ++ left
    pub counted : count ≡ length packets
    pub table : cuts ≡ splice before 0 (map length packets)

  pub cutting_start : Cutting before 0 run
  cutting_start = record { packets = []; each = tt; joined = refl; counted = refl; table = sym (splice_none before 0) }

  module _ (cuts : List ℕ) (count : ℕ) (left : List Slot) (c : Cutting cuts count left) where
    pub cutting_next : (n : ℕ) → n ≤ length left → Packet (take n left) → count < length before → Cutting (set cuts count n) (count + 1) (drop n left)
    cutting_next n h p few =
        let ps = c.packets in
        let here : length (take n left) ≡ n = length-take-le n left h in
        let k : count ≡ 0 + length (map length ps) = omega (arith, c.counted, length-map ps length) in
        record {
          packets = ps ++ (take n left ∷ []);
          each = each_append ps (take n left ∷ []) c.each (p, tt);
          joined = c.joined
              ∙ ap (join_all ps ++◌) (sym (take-append-drop n left))
              ∙ sym (append_assoc (join_all ps) (take n left) (drop n left))
              ∙ ap (◌++ drop n left) (sym (join_snoc ps (take n left)));
          counted = omega (arith, c.counted, length-append ps (take n left ∷ []));
          table = ap (λ t. set t count n) c.table
              ∙ splice_more before 0 (map length ps) n count k few
              ∙ ap (splice before 0) (ap (λ (x : ℕ). map length ps ++ (x ∷ [])) (sym here) ∙ sym (map-append length ps (take n left ∷ [])));
        }

    pub cutting_end : (e : Ending) → NoneAtFront left → EndsAs left e → CutAs run before cuts (record { count = count; ending = e })
    cutting_end e n h = record {
      packets = c.packets;
      rest = left;
      division = record { joined = c.joined; each = c.each; ends = n };
      count = c.counted;
      table = c.table;
      ending = h;
    }
