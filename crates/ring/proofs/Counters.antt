-- Laws of free-running counters: sums and differences modulo 2^32.
use Rattle.std.proofs.Common.{◌≡◌, ℕ, ◌+◌, ◌-◌, ◌%◌, ◌<◌, ◌≤◌, sym, ap, ◌∙◌, arith}
use Rattle.ring.specs.Ring.{wrap, wadd, wsub}

-- k slots on from c, k slots are posted
pub posted_of : (c k : ℕ) → k < wrap → wsub (wadd c k) c ≡ k
unfolding wsub wadd
posted_of c k h = omega arith

-- two steps are one
pub wadd_wadd : (c j k : ℕ) → wadd (wadd c j) k ≡ wadd c (j + k)
unfolding wadd
wadd_wadd c j k = omega arith

pub wadd_small : (c k : ℕ) → wadd c k < wrap
unfolding wadd
wadd_small c k = omega arith

pub wadd_zero : (c : ℕ) → c < wrap → wadd c 0 ≡ c
unfolding wadd
wadd_zero c h = omega arith

-- the number that, added to b, wraps to a
pub subtracted : (r a b : ℕ) → r < wrap → (r + b) % wrap ≡ a → r ≡ wsub a b
unfolding wsub
subtracted r a b h e = omega arith

pub wadd_sum : (r s m : ℕ) → (wadd r s + m) % wrap ≡ (r + (s + m)) % wrap
unfolding wadd
wadd_sum r s m = omega arith

-- a difference of counters is the number below the wrap that leads from one to the other
pub wsub_small : (t r : ℕ) → wsub t r < wrap
unfolding wsub
wsub_small t r = omega arith

pub wsub_leads : (t r : ℕ) → (r + wsub t r) % wrap ≡ t % wrap
unfolding wsub
wsub_leads t r = omega arith

pub wsub_of : (t r m : ℕ) → m < wrap → (r + m) % wrap ≡ t % wrap → wsub t r ≡ m
unfolding wsub
wsub_of t r m h e = omega arith

pub behind_by : (t r s : ℕ) → s ≤ wsub t r → wsub t (wadd r s) ≡ wsub t r - s
behind_by t r s h = wsub_of t (wadd r s) (wsub t r - s) (omega (arith, wsub_small t r)) (go (wsub t r) h (wsub_leads t r))
  where
    go : (m : ℕ) → s ≤ m → (r + m) % wrap ≡ t % wrap → (wadd r s + (m - s)) % wrap ≡ t % wrap
    go m h e = wadd_sum r s (m - s) ∙ ap (λ (x : ℕ). x % wrap) (omega arith) ∙ e

-- the slot i behind r, counted from a ticket that is m behind r
pub leads_on : (t r m d : ℕ) → (r + m) % wrap ≡ t % wrap → (t + d) % wrap ≡ (r + (m + d)) % wrap
leads_on t r m d e = omega arith

leads_back : (t r i d : ℕ) → d < wrap → (r + (i + d)) % wrap ≡ t % wrap → (t + (wrap - d)) % wrap ≡ (r + i) % wrap
leads_back t r i d h e = omega arith

pub twice : (a b : ℕ) → wadd a b % wrap ≡ (a + b) % wrap
unfolding wadd
twice a b = omega arith

pub from_ticket : (t r i : ℕ) → wsub t r ≤ i → i < wrap → wsub (wadd r i) t ≡ i - wsub t r
from_ticket t r i h g =
    wsub_of (wadd r i) t (i - wsub t r) (omega arith)
    (leads_on t r (wsub t r) (i - wsub t r) (wsub_leads t r) ∙ ap (λ (x : ℕ). (r + x) % wrap) (omega arith) ∙ sym (twice r i))

pub before_ticket : (t r i : ℕ) → i < wsub t r → wsub (wadd r i) t ≡ wrap - (wsub t r - i)
before_ticket t r i h =
    wsub_of (wadd r i) t (wrap - (wsub t r - i)) (omega arith)
    (leads_back t r i (wsub t r - i) (omega (arith, wsub_small t r)) (ap (λ (x : ℕ). (r + x) % wrap) (omega arith) ∙ wsub_leads t r) ∙ sym (twice r i))

pub moved_on : (r s o : ℕ) → s + wsub o (wadd r s) < wrap → wsub o r ≡ s + wsub o (wadd r s)
moved_on r s o h = wsub_of o r (s + wsub o (wadd r s)) h (sym (wadd_sum r s (wsub o (wadd r s))) ∙ wsub_leads o (wadd r s))

pub not_moved : (r : ℕ) → wsub r r ≡ 0
unfolding wsub
not_moved r = omega arith

pub wsub_on : (c r k : ℕ) → wsub c r + k < wrap → wsub (wadd c k) r ≡ wsub c r + k
wsub_on c r k h =
    wsub_of (wadd c k) r (wsub c r + k) h (sym (leads_on c r (wsub c r) k (wsub_leads c r)) ∙ sym (twice c k))

pub on_counter : (c r : ℕ) → c < wrap → c ≡ wadd r (wsub c r)
unfolding wadd wsub
on_counter c r h = omega arith

-- the posted slots, counted behind those held
pub posted_left : (a c r : ℕ) → wsub c r ≤ wsub a r → wsub a c ≡ wsub a r - wsub c r
posted_left a c r h =
    wsub_of a c (wsub a r - wsub c r) (omega (arith, wsub_small a r))
    (leads_on c r (wsub c r) (wsub a r - wsub c r) (wsub_leads c r) ∙ ap (λ (x : ℕ). (r + x) % wrap) (omega arith) ∙ wsub_leads a r)
