-- What the divider in code answers, by the definitions. `FrontRead` is the promise; the others are its stages'.
use Rattle.std.specs.Prelude.{◌≡◌, List, map, Bool, true, false, ℕ, ◌+◌, ◌-◌, ◌≤◌, length, take, Result, Ok, Err}
use Rattle.words.specs.Word.{splice}
use Rattle.netif.specs.Slot.{Slot, size, transmit_slots}
use Rattle.netif.specs.Decode.{data_of}
use Rattle.grammar.specs.Grammar.{within}
use Rattle.grammar.specs.Divide.{Cut, whole, beginning, misshapen, scan, divide, on_cut}
use Rattle.grammar.specs.Packet.{first_of, later_of, sizes, gso_size_of, gso_type_of}
use Rattle.grammar.specs.declared.Unfinished.{Unfinished}
use Rattle.grammar.specs.declared.Unfinished.TheVariants.{Beginning, Misshapen}
use Rattle.grammar.specs.declared.Extras.{Extras}
use Rattle.grammar.specs.declared.Later.{Later}
use Rattle.grammar.specs.declared.Outline.{Outline}
use Rattle.grammar.specs.declared.Part.{Part}

-- what is to be known of the packet p with e extras
unfoldable pub outline_of : ℕ → List Slot → Outline
outline_of e p = record {
  head = data_of (first_of p);
  slots = length p;
  extras = e;
  later_bytes = sizes (later_of e p);
  gso_size = gso_size_of e p;
  gso_type = gso_type_of e p;
}

-- what stands at the front of the slots l
unfoldable pub front_of : List Slot → Result Outline Unfinished
front_of l = on_cut (divide l) (λ d e. Ok (outline_of e (take (d + e) l))) (Err Beginning) (Err Misshapen)

-- the sizes of parts
abbrev pub sizes_in : List Part → List ℕ
sizes_in parts = map (λ p. p.size) parts

-- the answer is that, and of a whole packet the table holds the later data slots' sizes from the place 1 on; otherwise the
-- table may hold anything
pub record FrontRead (l : List Slot) (before after : List ℕ) (r : Result Outline Unfinished) : Type 0 where
  pub answer : r ≡ front_of l
  pub table : (d e : ℕ) → divide l ≡ whole d e → after ≡ splice before 1 (map size (later_of e (take (d + e) l)))

-- ---- the stages

-- what a stage that found no whole packet says of the front
abbrev pub cut_of : Unfinished → Cut
cut_of Beginning = beginning
cut_of Misshapen = misshapen

module _ (page : List ℕ) (first posted : ℕ) where
  -- the slots from the one i behind the first on
  abbrev pub behind : ℕ → List Slot
  behind i = transmit_slots page (first + i) (posted - i)

  -- all extras were read: announced says whether any was owed; whether data is owed makes no difference to them
  pub record AllExtras (announced : Bool) (r : Extras) : Type 0 where
    pub few : r.count + 1 ≤ posted
    pub limit : within 1 r.count ≡ true
    pub rest : (more : Bool) → scan (behind 1) 1 0 announced more ≡ scan (behind (r.count + 1)) 1 r.count false more
    pub gso_size : r.gso_size ≡ gso_size_of r.count (transmit_slots page first posted)
    pub gso_type : r.gso_type ≡ gso_type_of r.count (transmit_slots page first posted)

  -- so many extras were read, but not all: what was found of them so far
  pub record SomeExtras (r : Extras) : Type 0 where
    pub few : r.count + 1 ≤ posted
    pub limit : within 1 r.count ≡ true
    pub gso_size : r.gso_size ≡ gso_size_of r.count (transmit_slots page first posted)
    pub gso_type : r.gso_type ≡ gso_type_of r.count (transmit_slots page first posted)

  -- the extras were read, to the last or to where they end it
  abbrev pub ExtrasRead : (announced : Bool) (r : Result Extras (Unfinished × Extras)) → Type 0
  ExtrasRead announced (Ok r) = AllExtras announced r
  ExtrasRead announced (Err e) = ((more : Bool) → scan (behind 1) 1 0 announced more ≡ cut_of e.0) × SomeExtras e.1

  -- so many later data slots were read, behind so many extras
  pub record SizesRead (extras : ℕ) (before after : List ℕ) (count : ℕ) : Type 0 where
    pub few : count + 1 + extras ≤ posted
    pub table : after ≡ splice before 1 (map size (transmit_slots page (first + (extras + 1)) count))

  -- and their sizes added up, though not of all
  pub record SomeLater (extras : ℕ) (before after : List ℕ) (r : Later) : Type 0 where
    pub read : SizesRead extras before after r.count
    pub sum : r.sum ≡ sizes (transmit_slots page (first + (extras + 1)) r.count)

  -- all of them
  pub record AllLater (extras : ℕ) (announced : Bool) (before after : List ℕ) (r : Later) : Type 0 where
    pub read : SizesRead extras before after r.count
    pub rest : scan (behind (extras + 1)) 1 extras false announced ≡ whole (r.count + 1) extras
    pub sum : r.sum ≡ sizes (transmit_slots page (first + (extras + 1)) r.count)

  -- the later data slots were read, to the last or to where they end it
  abbrev pub LaterRead : (extras : ℕ) (announced : Bool) (before after : List ℕ) (r : Result Later (Unfinished × Later)) → Type 0
  LaterRead extras announced before after (Ok r) = AllLater extras announced before after r
  LaterRead extras announced before after (Err e) = (scan (behind (extras + 1)) 1 extras false announced ≡ cut_of e.0) × SomeLater extras before after e.1

  -- where the extras were read and data slots may follow
  pub record AfterExtras (more : Bool) (r : Extras) : Type 0 where
    pub few : r.count + 1 ≤ posted
    pub limit : within 1 r.count ≡ true
    pub rest : divide (transmit_slots page first posted) ≡ scan (behind (r.count + 1)) 1 r.count false more
    pub gso_size : r.gso_size ≡ gso_size_of r.count (transmit_slots page first posted)
    pub gso_type : r.gso_type ≡ gso_type_of r.count (transmit_slots page first posted)
