-- The fields of the slots that are posted, read back from their bytes.
use mathlib.Core.Path.{◌≡◌, refl, ◌∙◌}
use mathlib.Core.Bool.{Bool, true, false}
use Prim.Native.Nat.{ℕ, ◌<◌}
use native.Mathlib.Omega.{arith}
use Rattle.words.specs.Word.{u16_at, u32_at, u16_bytes, u32_bytes, bit}
use Rattle.words.proofs.Word.{four_bytes}
use Rattle.ring.specs.Ring.{wrap}
use Rattle.netif.specs.Slot.{gref, offset, flags, size, checksum_blank, data_validated, more_data, extra_follows, is_extra, another_extra, gso_size, gso_type}
use Rattle.netif.specs.Encode.{data_bytes, extra_bytes}
use Rattle.frontend.specs.Post.{flags_for, data_for}

module _ (n g fl m : ℕ) where
  pub gref_of : g < wrap → gref (data_for n g fl m) ≡ g
  unfolding data_for data_bytes gref u32_at u16_bytes u32_bytes
  gref_of h = four_bytes g ∙ (omega arith)

  pub offset_of : offset (data_for n g fl m) ≡ 0
  unfolding data_for data_bytes offset u16_at u16_bytes u32_bytes
  offset_of = refl

  pub size_of : m < 65536 → size (data_for n g fl m) ≡ m
  unfolding data_for data_bytes size u16_at u16_bytes u32_bytes
  size_of h = omega arith

-- its flags
module _ (n g m : ℕ) where
  pub more_of : (more extra : Bool) → more_data (data_for n g (flags_for more extra) m) ≡ more
  unfolding more_data flags bit data_for data_bytes flags_for u16_at u16_bytes u32_bytes
  more_of true true = refl
  more_of true false = refl
  more_of false true = refl
  more_of false false = refl

  pub extra_of_lem : (more extra : Bool) → extra_follows (data_for n g (flags_for more extra) m) ≡ extra
  unfolding extra_follows flags bit data_for data_bytes flags_for u16_at u16_bytes u32_bytes
  extra_of_lem true true = refl
  extra_of_lem true false = refl
  extra_of_lem false true = refl
  extra_of_lem false false = refl

  pub blank_of : (more extra : Bool) → checksum_blank (data_for n g (flags_for more extra) m) ≡ false
  unfolding checksum_blank flags bit data_for data_bytes flags_for u16_at u16_bytes u32_bytes
  blank_of true true = refl
  blank_of true false = refl
  blank_of false true = refl
  blank_of false false = refl

  pub validated_of : (more extra : Bool) → data_validated (data_for n g (flags_for more extra) m) ≡ false
  unfolding data_validated flags bit data_for data_bytes flags_for u16_at u16_bytes u32_bytes
  validated_of true true = refl
  validated_of true false = refl
  validated_of false true = refl
  validated_of false false = refl

-- an extra
module _ (n t : ℕ) where
  pub kind_of : is_extra (extra_bytes (record { kind = 1; flags = 0; gso_size = n; gso_type = t })) ≡ true
  unfolding is_extra extra_bytes u16_bytes
  kind_of = refl

  pub last_of : another_extra (extra_bytes (record { kind = 1; flags = 0; gso_size = n; gso_type = t })) ≡ false
  unfolding another_extra bit extra_bytes u16_bytes
  last_of = refl

  pub gso_size_of_lem : n < 65536 → gso_size (extra_bytes (record { kind = 1; flags = 0; gso_size = n; gso_type = t })) ≡ n
  unfolding gso_size u16_at extra_bytes u16_bytes
  gso_size_of_lem h = omega arith

  pub gso_type_of_lem : gso_type (extra_bytes (record { kind = 1; flags = 0; gso_size = n; gso_type = t })) ≡ t
  unfolding gso_type extra_bytes u16_bytes
  gso_type_of_lem = refl
