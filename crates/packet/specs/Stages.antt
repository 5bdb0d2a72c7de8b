-- What the functions that judge a packet and gather its frame promise each other. Judging makes the plan of its parts, and gathering
-- carries it out.
use Rattle.std.specs.Prelude.{◌≡◌, List, [], ◌∷◌, ◌++◌, map, ℕ, ◌+◌, ◌*◌, ◌≤◌, ◌<◌, suc, length, take, drop, All, Result, Ok, Err}
use Rattle.grant.specs.Grant.{page_of, page_part}
use Rattle.netif.specs.Slot.{Slot, gref, size, offset, transmit_slots}
use Rattle.grammar.specs.Packet.{first_of, later_of}
use Rattle.answer.specs.declared.Fault.{Fault}
use Rattle.answer.specs.Verdict.{Verdict, good}
use Rattle.packet.specs.Judge.{own_part, judge_slot, judge_later}
use Rattle.grammar.specs.Stages.{outline_of, sizes_in}
use Rattle.grammar.specs.declared.Outline.{Outline}
use Rattle.grammar.specs.declared.Part.{Part}

-- parts of the window, joined
abbrev pub joined : (window : List ℕ) → List Part → List ℕ
joined window [] = []
joined window (p ∷ parts) = page_part window p.page p.offset p.size ++ joined window parts

-- the parts lie in their pages, and those in the window
abbrev pub InWindow : (window : List ℕ) → List Part → Type 0
InWindow window parts = All (λ p. (4096 * p.page + 4096 ≤ length window) × (p.offset + p.size ≤ 4096)) parts

-- the data slots of a packet
abbrev pub datas_of : ℕ → List Slot → List Slot
datas_of e p = first_of p ∷ later_of e p

-- the page that a slot names
unfoldable pub slot_page : List ℕ → Slot → ℕ
slot_page table s = page_of table (gref s)

-- the part of n bytes that a slot names
abbrev pub planned : (table : List ℕ) → Slot → ℕ → Part
planned table s n = record { page = slot_page table s; offset = offset s; size = n }

-- the plan of a packet: the part of each data slot, those of the later ones as long as these say
abbrev pub later_plan : (table : List ℕ) → Slot → Part
later_plan table s = planned table s (size s)

abbrev pub plan : (table : List ℕ) (e : ℕ) → List Slot → List Part
plan table e p = planned table (first_of p) (own_part e p) ∷ map (later_plan table) (later_of e p)

-- where a data slot's part of n bytes lies, the slot standing at place k of the packet: the page that it names, or its cause for 7
abbrev pub part_by : Verdict → ℕ → Result ℕ Fault
part_by (Ok u) page = Ok page
part_by (Err f) page = Err f

unfoldable pub slot_part : (table window : List ℕ) (k : ℕ) (s : Slot) (n : ℕ) → Result ℕ Fault
slot_part table window k s n = part_by (judge_slot table window k s n) (slot_page table s)

-- the table holds the later slots' sizes, from the place 1 on
unfoldable pub SizesOf : (sizes : List ℕ) (later : List Slot) → Type 0
SizesOf sizes later = take (length later) (drop 1 sizes) ≡ map size later

-- the slots of the packet at counter c that has this outline
abbrev pub packet_at : List ℕ → ℕ → Outline → List Slot
packet_at page c o = transmit_slots page c o.slots

-- a whole packet with this outline stands at counter c
pub record Ready (page : List ℕ) (c : ℕ) (o : Outline) : Type 0 where
  pub outline : o ≡ outline_of o.extras (packet_at page c o)
  pub some : o.extras < o.slots
  pub few : o.slots ≤ 256
  pub datas : o.slots ≤ o.extras + 18

-- the later data slots of the packet at counter c, so many behind so many extras
abbrev pub later_at : List ℕ → (c extras later : ℕ) → List Slot
later_at page c extras later = transmit_slots page (c + (extras + 1)) later

-- the later data slots were judged: where they are good, their parts are in the table from the place 1 on, and those behind them are as
-- before; otherwise it may hold anything, but for the sizes, which stay
pub record LaterJudged (table window page : List ℕ) (c extras later : ℕ) (before after : List Part) (r : Verdict) : Type 0 where
  pub verdict : r ≡ judge_later table window (suc extras) (later_at page c extras later)
  pub parts_are : r ≡ good → take (later + 1) after ≡ take 1 before ++ map (later_plan table) (later_at page c extras later)
  pub behind : r ≡ good → drop (later + 1) after ≡ drop (later + 1) before
  pub sizes_stay : sizes_in after ≡ sizes_in before

-- the verdict v on the packet p with e extras; where it is good, the table holds its plan. After a refusal it may hold anything
pub record Judged (table : List ℕ) (e : ℕ) (p : List Slot) (v : Verdict) (parts : List Part) (r : Verdict) : Type 0 where
  pub verdict : r ≡ v
  pub parts_are : r ≡ good → take (length (datas_of e p)) parts ≡ plan table e p
