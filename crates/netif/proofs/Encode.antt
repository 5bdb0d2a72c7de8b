-- Decoding is the left inverse of encoding, for fields within their widths; and the bytes are as many as a slot has.
use mathlib.Core.Path.{◌≡◌, refl, ◌∙◌}
use Prim.Native.Nat.{ℕ, ◌+◌, ◌*◌, ◌/◌, ◌%◌, ◌<◌}
use native.Mathlib.Omega.{arith}
use lib.ListN.{length}
use Rattle.words.specs.Word.{u16_at, u32_at, u16_bytes, u32_bytes}
use Rattle.words.proofs.Word.{four_bytes}
use Rattle.netif.specs.Slot.{slot_width, request_width, gref, offset, flags, ident, size, gso_size, gso_type, request_ident, request_gref}
use Rattle.netif.specs.Decode.{data_of, extra_of, request_of}
use Rattle.netif.specs.Encode.{data_bytes, extra_bytes, request_bytes}
use Rattle.netif.specs.declared.DataSlot.{DataSlot}
use Rattle.netif.specs.declared.Extra.{Extra}
use Rattle.netif.specs.declared.Request.{Request}

-- a number of 16 bits, and one of 32, of its bytes
of_two : (x : ℕ) → x < 65536 → x % 256 + 256 * (x / 256 % 256) ≡ x
of_two x h = omega arith

of_four : (x : ℕ) → x < 4294967296 → x % 256 + 256 * (x / 256 % 256) + 65536 * (x / 65536 % 256) + 16777216 * (x / 16777216 % 256) ≡ x
of_four x h = four_bytes x ∙ (omega arith)

module _ (d : DataSlot) where
  pub data_width : length (data_bytes d) ≡ slot_width
  unfolding data_bytes u16_bytes u32_bytes
  data_width = refl

  pub data_decoded : d.gref < 4294967296 → d.offset < 65536 → d.flags < 65536 → d.id < 65536 → d.size < 65536 → data_of (data_bytes d) ≡ d
  unfolding data_of data_bytes gref offset flags ident size u16_at u32_at u16_bytes u32_bytes
  data_decoded g o f i s = λ k. record { gref = of_four d.gref g k; offset = of_two d.offset o k; flags = of_two d.flags f k; id = of_two d.id i k; size = of_two d.size s k }

module _ (x : Extra) where
  pub extra_width : length (extra_bytes x) ≡ slot_width
  unfolding extra_bytes u16_bytes
  extra_width = refl

  pub extra_decoded : x.gso_size < 65536 → extra_of (extra_bytes x) ≡ x
  unfolding extra_of extra_bytes gso_size gso_type u16_at u16_bytes
  extra_decoded h = λ k. record { kind = x.kind; flags = x.flags; gso_size = of_two x.gso_size h k; gso_type = x.gso_type }

module _ (r : Request) where
  pub request_width_lem : length (request_bytes r) ≡ request_width
  unfolding request_bytes u16_bytes u32_bytes
  request_width_lem = refl

  pub request_decoded : r.id < 65536 → r.gref < 4294967296 → request_of (request_bytes r) ≡ r
  unfolding request_of request_bytes request_ident request_gref u16_at u32_at u16_bytes u32_bytes
  request_decoded i g = λ k. record { id = of_two r.id i k; gref = of_four r.gref g k }
