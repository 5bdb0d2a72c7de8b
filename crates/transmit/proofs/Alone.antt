-- A packet of one slot: its outline, its verdict and its frame are those of the slot alone.
use mathlib.Core.Path.{◌≡◌, refl, sym, ap, ◌∙◌}
use mathlib.Core.List.{List, append-nil}
use mathlib.Core.Bool.{true}
use Prim.Native.Nat.{ℕ, suc, ◌+◌, ◌-◌, ◌≤◌}
use native.Mathlib.Omega.{arith}
use lib.ListN.{take}
use Rattle.std.specs.Prelude.{Ok, Err}
use Rattle.grant.specs.Grant.{page_part}
use Rattle.netif.specs.Slot.{offset, size, transmit_slot, transmit_slots}
use Rattle.netif.specs.Decode.{data_of}
use Rattle.grammar.specs.Divide.{whole, divide, alone}
use Rattle.grammar.proofs.Reading.{alone_whole}
use Rattle.grammar.specs.Stages.{outline_of}
use Rattle.netif.specs.declared.DataSlot.{DataSlot}
use Rattle.answer.specs.declared.Fault.{Fault}
use Rattle.answer.specs.Verdict.{Verdict, good, ◌or_else◌}
use Rattle.packet.specs.Judge.{total_of, own_part, judge_sizes, judge_slot, judge_slots, judge, part_of, frame_of}
use Rattle.packet.specs.Stages.{slot_page, Ready}
use Rattle.transmit.specs.Stages.{packet_one, alone_outline}
use Rattle.packet.proofs.Plans.{judge_sizes_bad}

or_good : (v : Verdict) → (v or_else good) or_else good ≡ v
or_good (Ok u) = refl
or_good (Err f) = refl

module _ (page : List ℕ) (c : ℕ) (d : DataSlot) (is : d ≡ data_of (transmit_slot page c)) where
  pub alone_ready : Ready page c (alone_outline d)
  unfolding outline_of
  alone_ready = record {
    outline = λ i. record { head = is i; slots = 1; extras = 0; later_bytes = 0; gso_size = 0; gso_type = 0 };
    some = omega arith;
    few = omega arith;
    datas = omega arith;
  }

  size_is : d.size ≡ size (transmit_slot page c)
  unfolding data_of
  size_is = ap (λ (x : DataSlot). x.size) is

  pub offset_is : d.offset ≡ offset (transmit_slot page c)
  unfolding data_of
  offset_is = ap (λ (x : DataSlot). x.offset) is

  pub alone_total : d.size ≡ total_of (packet_one page c)
  unfolding total_of
  alone_total = size_is

  pub own_is : d.size ≡ own_part 0 (packet_one page c)
  unfolding own_part total_of
  own_is = size_is ∙ (omega arith)

  module _ (table window : List ℕ) where
    pub alone_short : (f : Fault) → judge_sizes d.size 0 ≡ Err f → judge table window 0 (packet_one page c) ≡ Err f
    alone_short f h = judge_sizes_bad table window 0 (packet_one page c) f (ap (λ (x : ℕ). judge_sizes x 0) (sym alone_total) ∙ h)

    -- where the sizes are right, the verdict is the slot's
    pub alone_judged : judge_sizes d.size 0 ≡ good → judge table window 0 (packet_one page c) ≡ judge_slot table window 0 (transmit_slot page c) (own_part 0 (packet_one page c))
    unfolding judge judge_slots
    alone_judged h = rw (ap (λ (x : ℕ). judge_sizes x 0) (sym alone_total) ∙ h) (or_good (judge_slot table window 0 (transmit_slot page c) (own_part 0 (packet_one page c))))

    pub alone_frame : (q : ℕ) → q ≡ slot_page table (transmit_slot page c) → page_part window q d.offset d.size ≡ frame_of table window 0 (packet_one page c)
    unfolding frame_of part_of slot_page
    alone_frame q h = rw (h, offset_is, own_is) (sym (append-nil _))

-- a first slot that announces nothing, at the front of n slots posted
pub alone_front : (page : List ℕ) (c n : ℕ) → 1 ≤ n → alone (transmit_slot page c) ≡ true
    → (divide (transmit_slots page c n) ≡ whole 1 0) × (take (1 + 0) (transmit_slots page c n) ≡ packet_one page c)
alone_front page c n h k =
    let z : n ≡ suc (n - 1) = omega arith in
    (ap (λ (x : ℕ). divide (transmit_slots page c x)) z ∙ alone_whole (transmit_slot page c) (transmit_slots page (suc c) (n - 1)) k, ap (λ (x : ℕ). take 1 (transmit_slots page c x)) z)
