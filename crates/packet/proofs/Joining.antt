-- Parts joined one by one: one part more, and how long they are.
use mathlib.Core.Path.{◌≡◌, refl, sym, ap, ◌∙◌}
use mathlib.Core.List.{List, [], ◌∷◌, ◌++◌, append-nil, append_assoc}
use Prim.Native.Nat.{ℕ, ◌+◌, ◌*◌, ◌≤◌, ◌<◌}
use native.Mathlib.Omega.{arith}
use native.Mathlib.Numerals.{add-one}
use lib.ListN.{length, take, drop, get_or, length-append, length-take, length-drop, take-append-drop}
use lib.Seq.{take-suc, take-take}
use Rattle.grant.specs.Grant.{page_part}
use Rattle.words.specs.Word.{splice}
use Rattle.words.proofs.Word.{splice_join}
use Rattle.grammar.specs.declared.Part.{Part}
use Rattle.packet.specs.Stages.{joined, InWindow}

pub part_size : (window : List ℕ) (p o s : ℕ) → 4096 * p + 4096 ≤ length window → o + s ≤ 4096 → length (page_part window p o s) ≡ s
unfolding page_part
part_size window p o s h g = simp (length-take, length-drop) (omega arith)

joined_append : (window : List ℕ) (a b : List Part) → joined window (a ++ b) ≡ joined window a ++ joined window b
joined_append window [] b = refl
joined_append window (p ∷ a) b =
    ap (page_part window p.page p.offset p.size ++◌) (joined_append window a b) ∙ sym (append_assoc (page_part window p.page p.offset p.size) (joined window a) (joined window b))

-- parts of a list, joined, are no longer than it all
joined_fits : (window : List ℕ) (i : ℕ) (parts : List Part) → length (joined window (take i parts)) ≤ length (joined window parts)
joined_fits window i parts =
    omega (arith, ap (λ (l : List Part). length (joined window l)) (take-append-drop i parts), ap length (joined_append window (take i parts) (drop i parts)), length-append (joined window (take i parts)) (joined window (drop i parts)))

-- the first parts of a table joined: one more
pub joined_more : (window : List ℕ) (parts : List Part) (i : ℕ) → i < length parts → (d : Part)
    → joined window (take (i + 1) parts) ≡ joined window (take i parts) ++ page_part window (get_or parts i d).page (get_or parts i d).offset (get_or parts i d).size
joined_more window parts i h d =
    let this = get_or parts i d in
    rw (add-one i, take-suc parts i d h) (joined_append window (take i parts) (this ∷ []) ∙ ap (joined window (take i parts) ++◌) (append-nil (page_part window this.page this.offset this.size)))

-- fewer of them are no longer
pub joined_grows : (window : List ℕ) (i n : ℕ) (parts : List Part) → i ≤ n → length (joined window (take i parts)) ≤ length (joined window (take n parts))
joined_grows window i n parts h = rw (← take-take i n parts h) (joined_fits window i (take n parts))

-- a step, which copies part i behind the parts before it, that stand joined at the front of the frame buffer and end at a position
module _ (window : List ℕ) (parts : List Part) (frame₀ : List ℕ) (inside : InWindow window parts) (room : length (joined window parts) ≤ length frame₀) (i : ℕ) (k : i < length parts) (d : Part) where
  abbrev this : Part
  this = get_or parts i d

  next_length : length (joined window (take (i + 1) parts)) ≡ length (joined window (take i parts)) + this.size
  next_length =
      ap length (joined_more window parts i k d)
      ∙ length-append (joined window (take i parts)) (page_part window this.page this.offset this.size)
      ∙ ap (length (joined window (take i parts)) +◌) (part_size window this.page this.offset this.size (inside i d k).0 (inside i d k).1)

  next_room : length (joined window (take i parts)) + this.size ≤ length frame₀
  next_room = omega (arith, next_length, joined_fits window (i + 1) parts)

  module _ (at : ℕ) (ends : at ≡ length (joined window (take i parts))) where
    -- what `copy_part` asks for
    pub next_fits : (4096 * this.page + 4096 ≤ length window) × (this.offset + this.size ≤ 4096) × (at + this.size ≤ length frame₀)
    next_fits = ((inside i d k).0, (inside i d k).1, omega (arith, next_room))

    pub next_ends : at + this.size ≡ length (joined window (take (i + 1) parts))
    next_ends = omega (arith, next_length)

    pub next_stands : (frame : List ℕ) → frame ≡ splice frame₀ 0 (joined window (take i parts))
        → splice frame at (page_part window this.page this.offset this.size) ≡ splice frame₀ 0 (joined window (take (i + 1) parts))
    next_stands frame h =
        ap (λ (x : List ℕ). splice x at (page_part window this.page this.offset this.size)) h
        ∙ splice_join frame₀ 0 (joined window (take i parts)) (page_part window this.page this.offset this.size) at (omega (arith, ends)) (omega (arith, next_room))
        ∙ ap (splice frame₀ 0) (sym (joined_more window parts i k d))
