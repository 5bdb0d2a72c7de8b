-- Where no slot lies between the counters, a list of at most 256 records is valid exactly if all of them are free; then the first is the first free one.
use mathlib.Core.Path.{◌≡◌, refl, sym, ap, ◌∙◌}
use mathlib.Core.Logic.{⊎_elim}
use mathlib.Core.List.{List, [], ◌∷◌}
use mathlib.Core.Bool.{Bool, true, false, cond, not, ◌&&◌}
use Prim.Native.Nat.{ℕ, suc, ◌≤◌, ◌<◌}
use native.Mathlib.Omega.{arith}
use lib.ListN.{length, get_or}
use Rattle.std.specs.List.{list_all}
use Rattle.std.proofs.Common.{Option, Some, None}
use lib.Dec.{leb, eqb}
use borrow.Author.Tests.{ne_eqb, leb-true, le-leb, lt-leb, not-true}
use Rattle.words.proofs.Word.{either, and_both, clash}
use Rattle.ring.proofs.Counters.{not_moved}
use Rattle.held.specs.declared.Held.{Held}
use Rattle.held.specs.Records.{free, in_use, full, all_free, first_free, vacancy}
use Rattle.held.specs.Valid.{between, valid}
use Rattle.held.proofs.Cover.{fresh_valid, valid_split, in_use_some}
use Rattle.noting.specs.declared.Tally.{Tally}
use Rattle.noting.specs.Survey.{free_in}
use Rattle.inspecting.specs.Inspection.{Shown}
use Rattle.glancing.specs.Glance.{unheld_tally, Glanced}

-- what `all` answers
pub all_is : (l : List Held) → list_all (λ (r : Held). not (in_use r)) l ≡ all_free l
unfolding all_free
all_is [] = refl
all_is (x ∷ l) = ap (λ (b : Bool). not (in_use x) && b) (all_is l)

-- ---- what they say

every : (k : List Held) → ((j : ℕ) → in_use (get_or k j free) ≡ false) → all_free k ≡ true
unfolding all_free
every [] h = refl
every (x ∷ k) h = rw (h 0) (every k (λ j. h (suc j)))

-- a valid list has no record in use
none_used : (c : ℕ) (l : List Held) → valid c c l ≡ true → all_free l ≡ true
unfolding between
none_used c l v = every l (λ j. ⊎_elim (λ u. absurd (omega (arith, (valid_split c c l v).covered.each j u, in_use_some (get_or l j free) u, not_moved c))) (λ u. u) (either (in_use (get_or l j free))))

-- where all are free the first is, if there is one
free_first : (l : List Held) → all_free l ≡ true → cond (eqb (length l) 0) None (Some 0) ≡ vacancy l
unfolding full first_free all_free vacancy
free_first [] h = refl
free_first (x ∷ l) h =
    let u : in_use x ≡ false = not-true (in_use x) (and_both (not (in_use x)) (all_free l) h).0 in
    let some : eqb (length (x ∷ l)) 0 ≡ false = ne_eqb (length (x ∷ l)) 0 (λ e. omega arith) in
    rw (some, u) refl

-- a list of at most 256 records, all free
valid_is : (c : ℕ) (l : List Held) → leb (length l) 256 && all_free l ≡ valid c c l
valid_is c l = go (leb (length l) 256) (all_free l) (valid c c l) refl refl refl
  where
    go : (b a v : Bool) → leb (length l) 256 ≡ b → all_free l ≡ a → valid c c l ≡ v → leb (length l) 256 && all_free l ≡ valid c c l
    go true true v few free is = rw (few, free) (sym (fresh_valid c l (leb-true (length l) 256 few) free))
    go b false true few used is = absurd (clash (none_used c l is) used)
    go true false false few used is = rw (few, used, is) refl
    go false false false few used is = rw (few, is) refl
    go false true true few free is = absurd (clash (le-leb (length l) 256 (valid_split c c l is).few) few)
    go false true false few free is = rw (few, is) refl

pub glanced_unheld : (c : ℕ) (l : List Held) → Glanced c c l (unheld_tally l)
unfolding unheld_tally
glanced_unheld c l = go (leb (length l) 256 && all_free l) refl
  where
    go : (b : Bool) → (leb (length l) 256 && all_free l) ≡ b → Glanced c c l (cond b (Some (record { free = cond (eqb (length l) 0) None (Some 0); slots = 0 })) None)
    go true e = record {
      good = sym e ∙ valid_is c l;
      place = λ s k. (let same : cond (eqb (length l) 0) None (Some 0) ≡ s.free = ap (λ (o : Option Tally). free_in o) k in sym same ∙ free_first l (and_both (leb (length l) 256) (all_free l) e).1);
    }
    go false e = record { good = sym e ∙ valid_is c l; place = λ s k. absurd cc }

-- ---- the ways out of its function

pub unheld_long : (l : List Held) → 256 < length l → ◌≡◌ {A = Option Tally} None (unheld_tally l)
unfolding unheld_tally
unheld_long l h = rw (lt-leb (length l) 256 h) refl

module _ (l : List Held) (few : length l ≤ 256) where
  pub unheld_used : all_free l ≡ false → ◌≡◌ {A = Option Tally} None (unheld_tally l)
  unfolding unheld_tally
  unheld_used h = rw (le-leb (length l) 256 few, h) refl

  module _ (h : all_free l ≡ true) where
    pub unheld_empty : eqb (length l) 0 ≡ true → ◌≡◌ {A = Option Tally} (Some (record { free = None; slots = 0 })) (unheld_tally l)
    unfolding unheld_tally
    unheld_empty e = rw (le-leb (length l) 256 few, h, e) refl

    pub unheld_some : eqb (length l) 0 ≡ false → ◌≡◌ {A = Option Tally} (Some (record { free = Some 0; slots = 0 })) (unheld_tally l)
    unfolding unheld_tally
    unheld_some e = rw (le-leb (length l) 256 few, h, e) refl

pub glanced_shown : (c r : ℕ) (l : List Held) (found : Option Tally) (index : List ℕ) → Shown c r l found index → Glanced c r l found
glanced_shown c r l found index h = record { good = h.good; place = λ s k. (h.seen s k).place }
