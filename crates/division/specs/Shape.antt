-- What each slot of a packet is by its place alone: a packet's numbers of later data slots and of extras say of every slot of it
-- which kind it is of, and what it announces.
use Rattle.std.specs.Prelude.{List, [], ◌∷◌, Bool, true, not, cond, ◌&&◌, ℕ, suc, take, drop, ltb}
use Rattle.netif.specs.Slot.{Slot, more_data, extra_follows, is_extra, another_extra}
use Rattle.grammar.specs.Grammar.{is_later}

-- whether both say yes or both say no
abbrev pub alike : Bool → Bool → Bool
alike a b = cond a b (not b)

module _ (right announces : Slot → Bool) (n : ℕ) where
  -- a slot at place j of n: right, and announcing another exactly if it is not the last
  unfoldable pub link_at : ℕ → Slot → Bool
  link_at j s = right s && alike (announces s) (ltb (suc j) n)

  -- slots that stand at the places from j on
  abbrev pub begun : ℕ → List Slot → Bool
  begun j [] = true
  begun j (s ∷ l) = link_at j s && begun (suc j) l

module _ (later extras : ℕ) where
  -- slots that stand behind the first
  unfoldable pub follows : List Slot → Bool
  follows l = begun is_extra another_extra extras 0 (take extras l) && begun is_later more_data later 0 (drop extras l)

  -- the first slot: it announces extras, and more data, exactly if there are any
  unfoldable pub leads : Slot → Bool
  leads s = alike (extra_follows s) (ltb 0 extras) && alike (more_data s) (ltb 0 later)

  -- slots that are the first ones of such a packet, or all of it, where they are no more than it has; of more it says nothing
  abbrev pub shaped : List Slot → Bool
  shaped [] = true
  shaped (s ∷ l) = leads s && follows l
