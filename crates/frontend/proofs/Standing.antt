-- The packet's slots are whole slots of bytes, as ring's laws of posting ask for.
use mathlib.Core.List.{List, [], ◌∷◌}
use mathlib.Core.Bool.{false}
use Prim.Native.Nat.{ℕ, suc, ◌+◌, ◌%◌, ◌<◌}
use native.Mathlib.Omega.{arith}
use lib.ListN.{length, take, drop}
use Rattle.std.specs.Prelude.{Option, Some, None}
use Rattle.words.specs.Word.{Bytes, u32_bytes}
use Rattle.words.proofs.Word.{bytes_cons, bytes_append, bytes_u16, bytes_u32}
use Rattle.ring.proofs.Posting.{Whole}
use Rattle.ring.proofs.Standing.{EachBytes}
use Rattle.netif.specs.Encode.{data_bytes, extra_bytes}
use Rattle.netif.proofs.Encode.{data_width, extra_width}
use Rattle.frontend.specs.declared.Gso.{Gso}
use Rattle.frontend.specs.Post.{type_given, flags_for, others, data_for, later_for, packet_for}

-- ---- whole slots

whole_later : (n : ℕ) (l frame : List ℕ) → Whole 12 (later_for n l frame)
unfolding data_for
whole_later n [] frame = tt
whole_later n (g ∷ l) frame = (data_width _, whole_later (suc n) l (drop 4096 frame))

pub whole_packet : (n : ℕ) (o : Option Gso) (refs frame : List ℕ) → Whole 12 (packet_for n o refs frame)
unfolding data_for
whole_packet n o [] frame = tt
whole_packet n None (g ∷ l) frame = (data_width _, whole_later (suc n + 0) l (drop 4096 frame))
whole_packet n (Some o) (g ∷ l) frame = (data_width _, (extra_width _, whole_later (suc n + 1) l (drop 4096 frame)))

-- ---- bytes

bytes_data : (n g fl m : ℕ) → Bytes (data_for n g fl m)
unfolding data_for data_bytes
bytes_data n g fl m =
    bytes_append _ _ (bytes_append _ _ (bytes_append _ _ (bytes_append _ _ (bytes_u32 g) (bytes_u16 0)) (bytes_u16 fl)) (bytes_u16 (n % 65536))) (bytes_u16 m)

bytes_zeros : (l : List ℕ) → Bytes l → Bytes (0 ∷ l)
bytes_zeros l h = bytes_cons 0 l (omega arith) h

bytes_extra : (n t : ℕ) → t < 256 → Bytes (extra_bytes (record { kind = 1; flags = 0; gso_size = n; gso_type = t }))
unfolding extra_bytes u32_bytes
bytes_extra n t h =
    bytes_append _ _ (bytes_cons 1 _ (omega arith) (bytes_cons 0 _ (omega arith) (bytes_u16 n)))
    (bytes_cons t _ h (bytes_zeros _ (bytes_zeros _ (bytes_zeros _ (bytes_u32 0)))))

bytes_later : (n : ℕ) (l frame : List ℕ) → EachBytes (later_for n l frame)
bytes_later n [] frame = tt
bytes_later n (g ∷ l) frame = (bytes_data n g (flags_for (others l) false) (length (take 4096 frame)), bytes_later (suc n) l (drop 4096 frame))

pub bytes_packet : (n : ℕ) (o : Option Gso) (refs frame : List ℕ) → type_given o < 256 → EachBytes (packet_for n o refs frame)
bytes_packet n o [] frame h = tt
bytes_packet n None (g ∷ l) frame h = (bytes_data n g _ (length frame), bytes_later (suc n + 0) l (drop 4096 frame))
bytes_packet n (Some o) (g ∷ l) frame h = (bytes_data n g _ (length frame), (bytes_extra o.size o.kind h, bytes_later (suc n + 1) l (drop 4096 frame)))
