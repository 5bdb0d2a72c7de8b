-- Demand 3 over what a call is: an invariant of what is read of a run, kept by publications and calls.
use mathlib.Core.Path.{◌≡◌, refl, sym, ap, ◌∙◌}
use mathlib.Core.Logic.{◌≢◌, ◌⊎◌, inl, inr, ⊎_elim}
use mathlib.Core.List.{List, [], ◌∷◌, ◌++◌, append-nil, append_assoc}
use mathlib.Core.Bool.{Bool, true, false, cond, ◌||◌}
use Prim.Native.Nat.{ℕ, suc, ◌+◌, ◌<◌}
use native.Mathlib.Omega.{arith}
use lib.ListN.{length, take, length-append}
use lib.Seq.{take_at}
use lib.Dec.{eqb}
use Rattle.ring.specs.Ring.{wrap, wadd}
use Rattle.ring.proofs.Counters.{wadd_wadd, wadd_zero}
use Rattle.netif.specs.Slot.{Slot}
use Rattle.grammar.specs.Grammar.{Packet, Begins, BeginsProperly, AllPackets, join_all, Division}
use Rattle.grammar.specs.Divide.{Cut, whole, beginning, misshapen, divide, packets_of, rest_of}
use Rattle.grammar.specs.Service.{◌▹◌, Ending, Served, taken, Serves}
use Rattle.grammar.proofs.Grammar.{divide_begins, beginning_iff, misshapen_iff, misshapen_stays, none_found, division_none, division, division_only, division_unique}

-- ---- lists of packets

pub each_append : (ps qs : List (List Slot)) → AllPackets ps → AllPackets qs → AllPackets (ps ++ qs)
each_append [] qs h k = k
each_append (p ∷ ps) qs h k = (h.0, each_append ps qs h.1 k)

pub join_append : (ps qs : List (List Slot)) → join_all (ps ++ qs) ≡ join_all ps ++ join_all qs
join_append [] qs = refl
join_append (p ∷ ps) qs = ap (p ++◌) (join_append ps qs) ∙ sym (append_assoc p (join_all ps) (join_all qs))

pub join_snoc : (ps : List (List Slot)) (p : List Slot) → join_all (ps ++ (p ∷ [])) ≡ join_all ps ++ p
join_snoc ps p = join_append ps (p ∷ []) ∙ ap (join_all ps ++◌) (append-nil p)

-- ---- the ends

divide_nil : (l : List Slot) → l ≡ [] → divide l ≡ beginning
unfolding divide
divide_nil l h = ap divide h

begins_of : (l : List Slot) → divide l ≡ beginning → Begins l
unfolding Begins BeginsProperly
begins_of l h = let b = divide_begins l h in (b.0, b.2)

ending_empty : (t : ℕ) → Ending 4 t t []
ending_empty t = record {
  none = refl;
  waiting = (λ h. absurd (omega arith), λ h. absurd (h.0 refl));
  empty = (λ h. refl, λ h. refl);
  halted = (λ h. absurd (⊎_elim (λ k. omega arith) (λ k. omega arith) h), λ h. absurd (h (begins_of [] (divide_nil [] refl))));
}

ending_beginning : (t : ℕ) (l : List Slot) → l ≢ [] → divide l ≡ beginning → Ending 6 t t l
ending_beginning t l n h = record {
  none = refl;
  waiting = (λ k. (n, (beginning_iff l).0 h), λ k. refl);
  empty = (λ k. absurd (omega arith), λ k. absurd (n k));
  halted = (λ k. absurd (⊎_elim (λ x. omega arith) (λ x. omega arith) k), λ k. absurd (k (begins_of l h)));
}

ending_misshapen : (a t : ℕ) (l : List Slot) → divide l ≡ misshapen → (a ≡ 5) ⊎ (a ≡ 2) → Ending a t t l
unfolding divide
ending_misshapen a t l h w = record {
  none = refl;
  waiting = (λ k. absurd (⊎_elim (λ x. omega arith) (λ x. omega arith) w), λ k. absurd (clash ((beginning_iff l).1 k.1)));
  empty = (λ k. absurd (⊎_elim (λ x. omega arith) (λ x. omega arith) w), λ k. absurd (clash (ap divide k)));
  halted = (λ k. ((misshapen_iff l).0 h).0, λ k. w);
}
  where
    clash : divide l ≡ beginning → ⊥
    clash k = cc

-- no packet stands at the front: the division is the list itself
alone : (l : List Slot) → ((d e : ℕ) → divide l ≡ whole d e → ⊥) → (packets_of l ≡ []) × (rest_of l ≡ l)
alone l h = division_unique (packets_of l) [] (division l) (division_none l (none_found l h))

not_whole : (l : List Slot) (k : Cut) → ((d e : ℕ) → k ≡ whole d e → ⊥) → divide l ≡ k → (d e : ℕ) → divide l ≡ whole d e → ⊥
not_whole l k f h d e g = f d e (sym h ∙ g)

not_beginning : (d e : ℕ) → beginning ≡ whole d e → ⊥
not_beginning d e h = cc

not_misshapen : (d e : ℕ) → misshapen ≡ whole d e → ⊥
not_misshapen d e h = cc

module _ (Call : Type 0) (answer : Call → ℕ) (Took : ℕ → Call → List Slot → Type 0) (Told : ℕ → Call → Type 0) where
  -- ---- counting the calls that took a packet

  taken_snoc : (calls : List Call) (a : Call) → taken Call answer Took Told (calls ▹ a) ≡ taken Call answer Took Told calls + taken Call answer Took Told (a ∷ [])
  taken_snoc [] a = omega arith
  taken_snoc (b ∷ calls) a = go (taken Call answer Took Told (calls ▹ a)) (taken Call answer Took Told calls) (taken Call answer Took Told (a ∷ [])) (eqb (answer b) 0 || eqb (answer b) 7) (taken_snoc calls a)
    where
      go : (x y z : ℕ) (t : Bool) → x ≡ y + z → cond t (suc x) x ≡ cond t (suc y) y + z
      go x y z true h = omega arith
      go x y z false h = h

  taken_one : (a : Call) → (answer a ≡ 0) ⊎ (answer a ≡ 7) → taken Call answer Took Told (a ∷ []) ≡ 1
  taken_one a (inl h) = rw h
  taken_one a (inr h) = rw h

  -- ---- the invariant: the packets taken, and the slots that are left

  pub record Reads (c : ℕ) (run : List Slot) (calls : List Call) (consumed : ℕ) (mark : Bool) (done : List (List Slot)) (left : List Slot) : Type 0 where
    pub joined : run ≡ join_all done ++ left
    pub each : AllPackets done
    pub served : Served Call answer Took Told c mark calls done
    pub takes : taken Call answer Took Told calls ≡ length done
    pub counter : consumed ≡ wadd c (length (join_all done))
    pub halts : mark ≡ true → divide left ≡ misshapen

  -- what a call is, by what is left
  pub data Case (consumed : ℕ) (mark : Bool) (left : List Slot) (a : Call) : Type 0 where
    again : mark ≡ true → answer a ≡ 2 → Told 2 a → Case consumed mark left a
    empty : mark ≡ false → left ≡ [] → answer a ≡ 4 → Told 4 a → Case consumed mark left a
    waiting : mark ≡ false → left ≢ [] → divide left ≡ beginning → answer a ≡ 6 → Told 6 a → Case consumed mark left a
    wrong : mark ≡ false → divide left ≡ misshapen → answer a ≡ 5 → Told 5 a → Case consumed mark left a
    packet : mark ≡ false → (p t : List Slot) → Packet p → left ≡ p ++ t → (answer a ≡ 0) ⊎ (answer a ≡ 7) → Took consumed a p → Case consumed mark left a

  pub reads_fresh : (c : ℕ) → c < wrap → Reads c [] [] c false [] []
  reads_fresh c h = record {
    joined = refl;
    each = tt;
    served = Served.none;
    takes = refl;
    counter = sym (wadd_zero c h);
    halts = λ k. cc;
  }

  module _ {c : ℕ} {run : List Slot} {calls : List Call} {consumed : ℕ} {mark : Bool} {done : List (List Slot)} {left : List Slot} (v : Reads c run calls consumed mark done left) where
    pub reads_publish : (new : List Slot) → Reads c (run ++ new) calls consumed mark done (left ++ new)
    reads_publish new = record {
      joined = ap (◌++ new) v.joined ∙ append_assoc (join_all done) left new;
      each = v.each;
      served = v.served;
      takes = v.takes;
      counter = v.counter;
      halts = λ h. (misshapen_iff (left ++ new)).1 (misshapen_stays left new ((misshapen_iff left).0 (v.halts h)));
    }

    -- a call that took nothing
    told : (a : Call) (b : Bool) → taken Call answer Took Told (a ∷ []) ≡ 0 → Served Call answer Took Told c b (calls ▹ a) done → (b ≡ true → divide left ≡ misshapen)
        → Reads c run (calls ▹ a) consumed b done left
    told a b n s h = record {
      joined = v.joined;
      each = v.each;
      served = s;
      takes = taken_snoc calls a ∙ rw n (omega (arith, v.takes));
      counter = v.counter;
      halts = h;
    }

    served_at : {b : Bool} → mark ≡ b → Served Call answer Took Told c b calls done
    served_at h = rw h at v.served

    pub reads_again : (a : Call) → mark ≡ true → answer a ≡ 2 → Told 2 a → Reads c run (calls ▹ a) consumed true done left
    reads_again a h n t = told a true (rw n) (Served.halted (served_at h) a t) (λ k. v.halts h)

    pub reads_empty : (a : Call) → mark ≡ false → answer a ≡ 4 → Told 4 a → Reads c run (calls ▹ a) consumed false done left
    reads_empty a h n t = told a false (rw n) (Served.empty (served_at h) a t) (λ k. v.halts (h ∙ k))

    pub reads_waiting : (a : Call) → mark ≡ false → answer a ≡ 6 → Told 6 a → Reads c run (calls ▹ a) consumed false done left
    reads_waiting a h n t = told a false (rw n) (Served.waiting (served_at h) a t) (λ k. v.halts (h ∙ k))

    pub reads_wrong : (a : Call) → mark ≡ false → divide left ≡ misshapen → answer a ≡ 5 → Told 5 a → Reads c run (calls ▹ a) consumed true done left
    reads_wrong a h g n t = told a true (rw n) (Served.halts (served_at h) a t) (λ k. g)

    pub reads_took : (a : Call) → mark ≡ false → (p t : List Slot) → Packet p → left ≡ p ++ t → (answer a ≡ 0) ⊎ (answer a ≡ 7) → Took consumed a p
        → Reads c run (calls ▹ a) (wadd consumed (length p)) false (done ++ (p ∷ [])) t
    reads_took a h p t k e n w = record {
      joined = v.joined ∙ ap (join_all done ++◌) e ∙ sym (append_assoc (join_all done) p t) ∙ ap (◌++ t) (sym (join_snoc done p));
      each = each_append done (p ∷ []) v.each (k, tt);
      served = Served.took (served_at h) a (rw v.counter at w);
      takes = taken_snoc calls a ∙ rw (taken_one a n) (omega (arith, v.takes, length-append done (p ∷ [])));
      counter =
          ap (λ (x : ℕ). wadd x (length p)) v.counter
          ∙ wadd_wadd c (length (join_all done)) (length p)
          ∙ ap (wadd c) (sym (length-append (join_all done) p) ∙ ap length (sym (join_snoc done p)));
      halts = λ z. cc;
    }

    -- the division of the run, by what is done and what is left
    division_of : Division run (done ++ packets_of left) (rest_of left)
    division_of =
        let d = division left in
        record {
          joined =
              v.joined ∙ ap (join_all done ++◌) d.joined
              ∙ sym (append_assoc (join_all done) (join_all (packets_of left)) (rest_of left))
              ∙ ap (◌++ rest_of left) (sym (join_append done (packets_of left)));
          each = each_append done (packets_of left) v.each d.each;
          ends = d.ends;
        }

    ending : (a : Call) → Case consumed mark left a → answer a ≢ 0 → answer a ≢ 7 → Ending (answer a) (length done) (length (done ++ packets_of left)) (rest_of left)
    ending a k n0 n7 = go k
      where
        with_rest : (n : ℕ) → answer a ≡ n → ((d e : ℕ) → divide left ≡ whole d e → ⊥) → Ending n (length done) (length done) left
            → Ending (answer a) (length done) (length (done ++ packets_of left)) (rest_of left)
        with_rest n e h x = let (p, r) = alone left h in rw (e, p, r, append-nil) x

        go : Case consumed mark left a → Ending (answer a) (length done) (length (done ++ packets_of left)) (rest_of left)
        go (Case.again h n t) = with_rest 2 n (not_whole left misshapen not_misshapen (v.halts h)) (ending_misshapen 2 (length done) left (v.halts h) (inr refl))
        go (Case.empty h e n t) = with_rest 4 n (not_whole left beginning not_beginning (divide_nil left e)) (rw e (ending_empty (length done)))
        go (Case.waiting h l g n t) = with_rest 6 n (not_whole left beginning not_beginning g) (ending_beginning (length done) left l g)
        go (Case.wrong h g n t) = with_rest 5 n (not_whole left misshapen not_misshapen g) (ending_misshapen 5 (length done) left g (inl refl))
        go (Case.packet h p t k e n w) = absurd (⊎_elim n0 n7 n)

    -- the packets taken are the run's first ones
    pub reads_done : take (taken Call answer Took Told calls) (packets_of run) ≡ done
    reads_done =
        let u = division_unique (packets_of run) (done ++ packets_of left) (division run) division_of in
        rw u.0 (take_at done (packets_of left) (taken Call answer Took Told calls) (sym v.takes))

    pub reads_serves : (Next : Call → Type 0) → ((a : Call) → Next a → Case consumed mark left a) → Serves Call answer Took Told c run calls consumed mark Next
    reads_serves Next f =
        let u = division_unique (packets_of run) (done ++ packets_of left) (division run) division_of in
        record {
          divided = division run;
          only = division_only run;
          few = rw u.0 (omega (arith, v.takes, length-append done (packets_of left)));
          served = rw reads_done v.served;
          counter = rw reads_done v.counter;
          ends = λ a n n0 n7. rw (u.0, u.1, v.takes) (ending a (f a n) n0 n7);
        }
