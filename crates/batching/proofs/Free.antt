-- The first free record is the first that a search for one finds; and behind a record that was kept at the first free one's place, a search
-- from there on finds it.
use mathlib.Core.Path.{◌≡◌, refl, sym, ap, ◌∙◌}
use mathlib.Core.List.{List, [], ◌∷◌}
use mathlib.Core.Bool.{Bool, true, false, not, cond, ◌&&◌}
use Prim.Native.Nat.{ℕ, suc, ◌+◌, ◌-◌, ◌<◌}
use native.Mathlib.Nat.{add-zero}
use native.Mathlib.Omega.{arith}
use lib.ListN.{length, take, drop, set, length-drop}
use lib.Seq.{take_all}
use Rattle.std.specs.Prelude.{Option, Some, None}
use Rattle.std.specs.List.{position, position_from}
use Rattle.std.proofs.lemmas.Iterator.Adapters.{position_from-zero}
use Rattle.words.specs.Lists.{all, place_of}
use Rattle.held.specs.declared.Held.{Held}
use Rattle.held.specs.Records.{in_use, full, first_free, vacancy}
use Rattle.held.proofs.Cover.{free_place}

-- a search from place i on
abbrev free_from : ℕ → List Held → Option ℕ
free_from i l = position_from (λ (h : Held). not (in_use h)) i l

abbrev place : List Held → ℕ
place l = place_of (λ (h : Held). not (in_use h)) l

found_from : (l : List Held) (i : ℕ) → free_from i l ≡ cond (all in_use l) None (Some (i + place l))
found_from [] i = refl
found_from (x ∷ l) i = go (in_use x) (found_from l (i + 1))
  where
    go : (b : Bool) → free_from (i + 1) l ≡ cond (all in_use l) None (Some ((i + 1) + place l))
        → cond (not b) (Some i) (free_from (i + 1) l) ≡ cond (b && all in_use l) None (Some (i + cond (not b) 0 (suc (place l))))
    go true h = h ∙ ap (λ (n : ℕ). cond (all in_use l) None (Some n)) (omega arith)
    go false h = ap Some (omega arith)

-- a search of the whole list
pub vacancy_found : (l : List Held) → position (λ (h : Held). not (in_use h)) l ≡ vacancy l
unfolding vacancy full first_free
vacancy_found l = position_from-zero (λ (h : Held). not (in_use h)) l ∙ found_from l 0 ∙ ap (λ (n : ℕ). cond (all in_use l) None (Some n)) (omega arith)

-- behind a record kept at the first free one's place: there is one if one is found from there on, so many places on
kept_from : (l : List Held) (x : Held) (i : ℕ) → free_from (i + place l) (drop (place l) (set l (place l) x)) ≡ free_from i (set l (place l) x)
kept_from [] x i = refl
kept_from (y ∷ l) x i = go (not (in_use y)) refl (kept_from l x (i + 1))
  where
    go : (b : Bool) → not (in_use y) ≡ b → free_from ((i + 1) + place l) (drop (place l) (set l (place l) x)) ≡ free_from (i + 1) (set l (place l) x)
        → free_from (i + cond b 0 (suc (place l))) (drop (cond b 0 (suc (place l))) (set (y ∷ l) (cond b 0 (suc (place l))) x)) ≡ free_from i (set (y ∷ l) (cond b 0 (suc (place l))) x)
    go true e ih = ap (λ (n : ℕ). free_from n (x ∷ l)) (add-zero i)
    go false e ih = rw e (ap (λ (n : ℕ). free_from n (drop (place l) (set l (place l) x))) (omega arith) ∙ ih)

-- where it is; and where not all are in use there is one
pub vacant_place : (l : List Held) (at : ℕ) → Some at ≡ vacancy l → (at ≡ first_free l) × (at < length l)
unfolding vacancy
vacant_place l at is = go (full l) refl is
  where
    go : (b : Bool) → full l ≡ b → Some at ≡ cond b None (Some (first_free l)) → (at ≡ first_free l) × (at < length l)
    go true e h = cc
    go false e h =
        let same : at ≡ first_free l = cc in
        (same, omega (arith, same, (free_place l e).0))

pub vacancy_some : (l : List Held) → full l ≡ false → vacancy l ≡ Some (first_free l)
unfolding vacancy
vacancy_some l h = ap (λ (b : Bool). cond b None (Some (first_free l))) h

-- the first free record behind it, by a search of what is lent from there on
pub vacancy_behind : (l : List Held) (x : Held) (at : ℕ) → at ≡ first_free l → (l' : List Held) → l' ≡ set l at x
    → (found : Option ℕ) → found ≡ position (λ (h : Held). not (in_use h)) (take (length l' - at) (drop at l'))
    → (found ≡ None → None ≡ vacancy l') × ((n : ℕ) → found ≡ Some n → Some (at + n) ≡ vacancy l')
unfolding first_free
vacancy_behind l x at is l' set found by =
    let rest = drop at l' in
    let lent : take (length l' - at) rest ≡ rest = take_all (length l' - at) rest (omega (arith, length-drop at l')) in
    let from : found ≡ cond (all in_use rest) None (Some (0 + place rest)) =
    by ∙ ap (position (λ (h : Held). not (in_use h))) lent ∙ position_from-zero (λ (h : Held). not (in_use h)) rest ∙ found_from rest 0 in
    let behind : free_from (0 + at) rest ≡ free_from 0 l' = rw set (rw is (kept_from l x 0)) in
    let whole : vacancy l' ≡ cond (all in_use rest) None (Some (at + place rest)) =
    sym (vacancy_found l') ∙ position_from-zero (λ (h : Held). not (in_use h)) l' ∙ sym behind ∙ ap (λ (n : ℕ). free_from n rest) (omega arith) ∙ found_from rest at in
    go (all in_use rest) from whole
  where
    go : (b : Bool) → found ≡ cond b None (Some (0 + place (drop at l'))) → vacancy l' ≡ cond b None (Some (at + place (drop at l')))
        → (found ≡ None → None ≡ vacancy l') × ((n : ℕ) → found ≡ Some n → Some (at + n) ≡ vacancy l')
    go true f w = (λ h. sym w, λ n h. cc)
    go false f w = (
      λ h. cc,
      λ n h.
          let k : 0 + place (drop at l') ≡ n = cc in
          let m : n ≡ place (drop at l') = omega (arith, k) in
          ap (λ (i : ℕ). Some (at + i)) m ∙ sym w,
    )
