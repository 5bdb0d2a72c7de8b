-- At each offset at most one record is held, and it is the record of the ticket there; and what keeps an index right.
use Rattle.std.proofs.Common.{◌≡◌, ℕ, ◌<◌, true, ◌&&◌, eqb, ◌≢◌, List, length, get_or, set, sym, refl, ap, ◌∙◌, ⊎_elim, arith, get_or-set_other, get_or-set_same, eq-eqb, eqb-true}
use lib.ListN.{get_or-eq_default}
use Rattle.words.proofs.Word.{same_or_not, lt_or_ge, and_both, true_and, clash}
use Rattle.words.proofs.Lists.{place_only}
use Rattle.ring.specs.Ring.{wrap, wadd, wsub}
use Rattle.ring.proofs.Counters.{posted_of, on_counter}
use Rattle.held.specs.declared.Held.{Held}
use Rattle.held.specs.Records.{in_use, free, place_at}
use Rattle.held.specs.Valid.{owns, owners}
use Rattle.held.proofs.Cover.{in_use_some, unused_free, Covers, flag_true, flag_false, owners_set, owns_free, owns_first, no_owner}
use Rattle.inspecting.specs.Inspection.{Stands, Tickets}

pub inside_of : (l : List Held) (i : ℕ) → in_use (get_or l i free) ≡ true → i < length l
inside_of l i u = ⊎_elim (λ h. h) (λ h. absurd (clash u (ap in_use (get_or-eq_default l free {n = i} h) ∙ unused_free))) (lt_or_ge i (length l))

module _ (n r : ℕ) (l : List Held) (v : Covers n r l) where
  -- two records at one offset would own one slot
  pub held_once : (o : ℕ) → o < n → (i j : ℕ) → in_use (get_or l i free) ≡ true → wsub (get_or l i free).ticket r ≡ o → in_use (get_or l j free) ≡ true → wsub (get_or l j free).ticket r ≡ o → j ≡ i
  held_once o h i j u e u' e' = ⊎_elim (λ z. z) (λ z. absurd (bad z)) (same_or_not j i)
    where
      owner : (x : Held) → in_use x ≡ true → wsub x.ticket r ≡ o → owns (wadd r o) x ≡ true
      owner x y z = ap (λ (a : ℕ). owns (wadd r a) x) (sym z) ∙ owns_first r x (in_use_some x y)

      bad : j ≢ i → ⊥
      bad z =
          let nobody : owners (set l i free) (wadd r o) ≡ 0 = omega (arith, owners_set l i free (wadd r o) (inside_of l i u), flag_true (owner (get_or l i free) u e), flag_false (owns_free (wadd r o)), v.once o h) in
          clash (owner (get_or l j free) u' e') (ap (owns (wadd r o)) (sym (get_or-set_other l i j free free z)) ∙ no_owner (set l i free) (wadd r o) nobody j)

  pub held_here : (o : ℕ) → o < n → (p : ℕ) → (get_or l p free).ticket < wrap → in_use (get_or l p free) ≡ true → wsub (get_or l p free).ticket r ≡ o → place_at l (wadd r o) ≡ p
  unfolding place_at
  held_here o h p word u e =
      place_only (λ x. in_use x && eqb x.ticket (wadd r o)) free l p (inside_of l p u)
      (true_and _ _ u (eq-eqb (get_or l p free).ticket (wadd r o) (on_counter (get_or l p free).ticket r word ∙ ap (wadd r) e)))
      (λ j _ t.
      let (a, b) = and_both (in_use (get_or l j free)) _ t in
      held_once o h p j u e a (ap (λ (x : ℕ). wsub x r) (eqb-true (get_or l j free).ticket (wadd r o) b) ∙ posted_of r o (omega (arith, v.small))))

  pub held_place : Tickets l → (o : ℕ) → o < n → (p : ℕ) → in_use (get_or l p free) ≡ true → wsub (get_or l p free).ticket r ≡ o → place_at l (wadd r o) ≡ p
  unfolding Tickets
  held_place tickets o h p u e = held_here o h p (tickets p) u e

-- ---- what keeps an index right

pub tickets_set : (l : List Held) (p : ℕ) (x : Held) → p < length l → x.ticket < wrap → Tickets l → Tickets (set l p x)
unfolding Tickets
tickets_set l p x h t f j = ⊎_elim
    (λ e. (let y : get_or (set l p x) j free ≡ x = ap (λ (k : ℕ). get_or (set l p x) k free) e ∙ get_or-set_same l p x free h in rw y t))
    (λ e. rw (get_or-set_other l p j x free e) (f j))
    (same_or_not j p)

-- a record freed, and an entry at another offset
pub stands_freed : (l : List Held) (r i o e p : ℕ) → p < length l → wsub (get_or l p free).ticket r ≢ o → Stands l r i o e → Stands (set l p free) r i o e
stands_freed l r i o e p h z (Stands.entered q k a w f) =
    let other : q ≢ p = λ y. z (ap (λ (x : ℕ). wsub (get_or l x free).ticket r) (sym y) ∙ f) in
    let same : get_or (set l p free) q free ≡ get_or l q free = get_or-set_other l p q free free other in
    Stands.entered q k (rw same a) (rw same w) (rw same f)
stands_freed l r i o e p h z (Stands.empty a g) = Stands.empty a (λ j k w. ⊎_elim
    (λ y. absurd (clash w (ap in_use (ap (λ (q : ℕ). get_or (set l p free) q free) y ∙ get_or-set_same l p free free h) ∙ unused_free)))
    (λ y. (let same : get_or (set l p free) j free ≡ get_or l j free = get_or-set_other l p j free free y in rw same (g j k (rw same at w))))
    (same_or_not j p))

in_use_same : (x y : Held) → x.slots ≡ y.slots → in_use x ≡ in_use y
unfolding in_use
in_use_same x y e = rw e refl

-- a record changed in neither slots nor ticket
pub stands_changed : (l : List Held) (r i o e p : ℕ) (x : Held) → p < length l → x.slots ≡ (get_or l p free).slots → x.ticket ≡ (get_or l p free).ticket → Stands l r i o e → Stands (set l p x) r i o e
stands_changed l r i o e p x h a b = go
  where
    same : (j : ℕ) → ((get_or (set l p x) j free).slots ≡ (get_or l j free).slots) × ((get_or (set l p x) j free).ticket ≡ (get_or l j free).ticket)
    same j = ⊎_elim
        (λ z.
        let y : get_or (set l p x) j free ≡ x = ap (λ (k : ℕ). get_or (set l p x) k free) z ∙ get_or-set_same l p x free h in
        (ap (λ (q : Held). q.slots) y ∙ a ∙ ap (λ (k : ℕ). (get_or l k free).slots) (sym z), ap (λ (q : Held). q.ticket) y ∙ b ∙ ap (λ (k : ℕ). (get_or l k free).ticket) (sym z)))
        (λ z. (let y = get_or-set_other l p j x free z in (ap (λ (q : Held). q.slots) y, ap (λ (q : Held). q.ticket) y)))
        (same_or_not j p)

    go : Stands l r i o e → Stands (set l p x) r i o e
    go (Stands.entered q k z u f) = Stands.entered q k (rw (same q).0 z) (in_use_same _ _ (same q).0 ∙ u) (rw (same q).1 f)
    go (Stands.empty z g) = Stands.empty z (λ j k u w. g j k (sym (in_use_same _ _ (same j).0) ∙ u) (sym (ap (λ (t : ℕ). wsub t r) (same j).1) ∙ w))
