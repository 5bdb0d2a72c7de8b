-- What is posted is a packet, with its numbers of data slots and extras, by induction over the references; and the packet taken apart.
use mathlib.Core.Path.{◌≡◌, refl, ap, ◌∙◌}
use mathlib.Core.List.{List, [], ◌∷◌}
use mathlib.Core.Bool.{true, false, not}
use Prim.Native.Nat.{ℕ, suc, ◌+◌, ◌-◌, ◌*◌, ◌≤◌, ◌<◌, min}
use native.Mathlib.Omega.{arith}
use lib.ListN.{length, take, drop, length-append, length-take, length-drop}
use lib.Dec.{ltb}
use Rattle.std.specs.Prelude.{Option, Some, None}
use Rattle.netif.specs.Slot.{more_data, is_extra, another_extra}
use Rattle.grammar.specs.Grammar.{Chain, final, linked, Owed, is_later, Packet}
use Rattle.grammar.specs.Packet.{later_of, sizes, gso_size_of, gso_type_of}
use Rattle.grammar.proofs.Within.{within_most}
use Rattle.packet.specs.Judge.{total_of, own_part}
use Rattle.frontend.specs.declared.Gso.{Gso}
use Rattle.frontend.specs.Post.{gso_extras, size_given, type_given, flags_for, data_for, later_for, extras_for, others, packet_for}
use Rattle.frontend.proofs.Fields.{size_of, more_of, extra_of_lem, kind_of, last_of, gso_size_of_lem, gso_type_of_lem}

-- ---- numbers of slots

pub later_count : (n : ℕ) (l frame : List ℕ) → length (later_for n l frame) ≡ length l
later_count n [] frame = refl
later_count n (g ∷ l) frame = ap suc (later_count (suc n) l (drop 4096 frame))

pub extras_count : (o : Option Gso) → length (extras_for o) ≡ gso_extras o
extras_count None = refl
extras_count (Some o) = refl

pub packet_count : (n : ℕ) (o : Option Gso) (g : ℕ) (l frame : List ℕ) → length (packet_for n o (g ∷ l) frame) ≡ suc (length l) + gso_extras o
packet_count n o g l frame =
    omega (arith, length-append (extras_for o) (later_for (suc n + gso_extras o) l (drop 4096 frame)), extras_count o, later_count (suc n + gso_extras o) l (drop 4096 frame))

-- ---- the grammar

pub later_chain : (n g : ℕ) (l frame : List ℕ) → Chain is_later more_data (later_for n (g ∷ l) frame)
later_chain n g [] frame =
    final (ap not (extra_of_lem n g (length (take 4096 frame)) false false)) (more_of n g (length (take 4096 frame)) false false)
later_chain n g (h ∷ l) frame =
    linked (ap not (extra_of_lem n g (length (take 4096 frame)) true false)) (more_of n g (length (take 4096 frame)) true false) (later_chain (suc n) h l (drop 4096 frame))

pub later_owed_lem : (n : ℕ) (l frame : List ℕ) → Owed (others l) is_later more_data (later_for n l frame)
later_owed_lem n [] frame = refl
later_owed_lem n (g ∷ l) frame = later_chain n g l frame

pub extras_owed_lem : (o : Option Gso) → Owed (ltb 0 (gso_extras o)) is_extra another_extra (extras_for o)
extras_owed_lem None = refl
extras_owed_lem (Some o) = final (kind_of o.size o.kind) (last_of o.size o.kind)

pub few_extras : (o : Option Gso) → gso_extras o ≤ 1
few_extras None = omega arith
few_extras (Some o) = omega arith

module _ (n : ℕ) (o : Option Gso) (g : ℕ) (l frame : List ℕ) where
  -- at most 18 data slots make a packet
  unfoldable pub packet_for_lem : length l ≤ 17 → Packet (packet_for n o (g ∷ l) frame)
  packet_for_lem h = record {
    first = data_for n g (flags_for (others l) (ltb 0 (gso_extras o))) (length frame);
    extras = extras_for o;
    later = later_for (suc n + gso_extras o) l (drop 4096 frame);
    slots = refl;
    extras_owed = rw (extra_of_lem n g (length frame) (others l) (ltb 0 (gso_extras o))) (extras_owed_lem o);
    later_owed = rw (more_of n g (length frame) (others l) (ltb 0 (gso_extras o))) (later_owed_lem (suc n + gso_extras o) l (drop 4096 frame));
    limit = within_most _ _ (omega (arith, later_count (suc n + gso_extras o) l (drop 4096 frame))) (omega (arith, extras_count o, few_extras o));
  }

-- ---- the packet taken apart

pub later_of_lem : (n : ℕ) (o : Option Gso) (g : ℕ) (l frame : List ℕ) → later_of (gso_extras o) (packet_for n o (g ∷ l) frame) ≡ later_for (suc n + gso_extras o) l (drop 4096 frame)
later_of_lem n None g l frame = refl
later_of_lem n (Some o) g l frame = refl

pub gso_size_posted : (n : ℕ) (o : Option Gso) (g : ℕ) (l frame : List ℕ) → size_given o < 65536 → gso_size_of (gso_extras o) (packet_for n o (g ∷ l) frame) ≡ size_given o
gso_size_posted n None g l frame h = refl
gso_size_posted n (Some o) g l frame h = gso_size_of_lem o.size o.kind h

pub gso_type_posted : (n : ℕ) (o : Option Gso) (g : ℕ) (l frame : List ℕ) → gso_type_of (gso_extras o) (packet_for n o (g ∷ l) frame) ≡ type_given o
gso_type_posted n None g l frame = refl
gso_type_posted n (Some o) g l frame = gso_type_of_lem o.size o.kind

-- later sizes add up to what the first page leaves
pub later_sizes : (n : ℕ) (l frame : List ℕ) → length frame ≤ 4096 * length l → sizes (later_for n l frame) ≡ length frame
later_sizes n [] frame h = omega arith
later_sizes n (g ∷ l) frame h =
    let a : length (drop 4096 frame) ≡ length frame - 4096 = length-drop 4096 frame in
    let b : length (take 4096 frame) ≡ min 4096 (length frame) = length-take 4096 frame in
    rw (size_of n g (flags_for (others l) false) (length (take 4096 frame)) (omega arith), later_sizes (suc n) l (drop 4096 frame) (omega arith)) (omega arith)

module _ (n : ℕ) (o : Option Gso) (g : ℕ) (l frame : List ℕ) (small : length frame < 65536) where
  pub total_posted : total_of (packet_for n o (g ∷ l) frame) ≡ length frame
  unfolding total_of
  total_posted = size_of n g (flags_for (others l) (ltb 0 (gso_extras o))) (length frame) small

  pub sizes_posted : length frame ≤ 4096 * suc (length l) → sizes (later_of (gso_extras o) (packet_for n o (g ∷ l) frame)) ≡ length frame - 4096
  sizes_posted h = rw (later_of_lem n o g l frame) (later_sizes (suc n + gso_extras o) l (drop 4096 frame) (omega (arith, length-drop 4096 frame)) ∙ length-drop 4096 frame)

  pub own_posted : length frame ≤ 4096 * suc (length l) → own_part (gso_extras o) (packet_for n o (g ∷ l) frame) ≡ length (take 4096 frame)
  unfolding own_part
  own_posted h = rw (total_posted, sizes_posted h) (omega (arith, length-take 4096 frame))
