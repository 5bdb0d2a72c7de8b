-- Laws of bytes copied so far: one more, the next ones, and all of them.
use mathlib.Core.Path.{◌≡◌, sym, ap, ◌∙◌}
use mathlib.Core.List.{List, [], ◌∷◌, ◌++◌, append_assoc}
use Prim.Native.Nat.{ℕ, ◌+◌, ◌-◌, ◌≤◌, ◌<◌}
use native.Mathlib.Numerals.{add-one}
use native.Mathlib.Omega.{arith}
use lib.ListN.{length, take, drop, get_or, set, length-append, length-drop, take-append-drop}
use lib.Seq.{length-take-le, drop-drop, drop-append-add, drop-append-le, take_at, take-add, take-suc, take-suc-set}
use Rattle.words.specs.Word.{splice}
use Rattle.words.proofs.Word.{splice_more, splice_join}

-- the first bytes of h set to those of s: one more
pub held_more : (h s : List ℕ) (k : ℕ) → k < length h → k < length s → take k h ≡ take k s → take (k + 1) (set h k (get_or s k 0)) ≡ take (k + 1) s
held_more h s k f g e = rw add-one (take-suc-set h k (get_or s k 0) f ∙ ap (◌++ (get_or s k 0 ∷ [])) e ∙ sym (take-suc s k 0 g))

-- the first bytes of s written at i: one more
pub splice_next : (l : List ℕ) (i : ℕ) (s : List ℕ) (k n : ℕ) → n ≡ i + k → k < length s → n < length l → set (splice l i (take k s)) n (get_or s k 0) ≡ splice l i (take (k + 1) s)
splice_next l i s k n e h g =
    splice_more l i (take k s) (get_or s k 0) n (omega (arith, length-take-le k s (omega arith))) g
    ∙ ap (splice l i) (rw add-one (sym (take-suc s k 0 h)))

-- the first m bytes of s written at the front of l: the next n
pub splice_front_more : (l s : List ℕ) (m n : ℕ) → m ≤ length s → m ≤ length l → splice (splice l 0 (take m s)) m (take n (drop m s)) ≡ splice l 0 (take (m + n) s)
splice_front_more l s m n h g =
    splice_join l 0 (take m s) (take n (drop m s)) m (omega (arith, length-take-le m s h)) g
    ∙ ap (splice l 0) (sym (take-add m n s))

-- the front of a list is what was written there
pub splice_front : (l b : List ℕ) (n : ℕ) → length b ≡ n → take n (splice l 0 b) ≡ b
unfolding splice
splice_front l b n e = take_at (take 0 l ++ b) (drop (0 + length b) l) n e

-- s from a on written in its place, and then its first m bytes, which reach that far: all of s at the front of d
pub splice_whole : (d s : List ℕ) (a m : ℕ) → a ≤ m → m ≤ length s → length s ≤ length d → splice (splice d a (drop a s)) 0 (take m s) ≡ splice d 0 s
unfolding splice
splice_whole d s a m h g f =
    let behind = drop (a + length (drop a s)) d in
    let k : length (take a d) ≡ a = length-take-le a d (omega arith) in
    let e : 0 + length (take m s) ≡ a + (m - a) = omega (arith, length-take-le m s g) in
    let rest : drop (a + (m - a)) (take a d ++ drop a s ++ behind) ≡ drop (a + (m - a)) s ++ behind
    = drop-append-le (a + (m - a)) (take a d ++ drop a s) behind (omega (arith, length-append (take a d) (drop a s), length-drop a s))
    ∙ ap (λ (n : ℕ). drop (n + (m - a)) (take a d ++ drop a s) ++ behind) (sym k)
    ∙ ap (◌++ behind) (drop-append-add (take a d) (drop a s) (m - a) ∙ drop-drop (m - a) a s) in
    let z : a + (m - a) ≡ m = omega arith in
    let w : a + length (drop a s) ≡ 0 + length s = omega (arith, length-drop a s) in
    ap (λ (n : ℕ). take m s ++ drop n (take a d ++ drop a s ++ behind)) e
    ∙ ap (take m s ++◌) rest
    ∙ ap (λ (n : ℕ). take m s ++ (drop n s ++ behind)) z
    ∙ sym (append_assoc (take m s) (drop m s) behind)
    ∙ ap (◌++ behind) (take-append-drop m s)
    ∙ ap (λ (n : ℕ). s ++ drop n d) w
