-- The states that a processor may have: what holds of its scalars, slots, cells and stores, and how
-- far it is in a row.
--
--   IsLocal   a local state that can be, for a program whose tables fit
use Rattle.std.specs.Prelude.{◌≡◌, ◌⊎◌, ◌≢◌, ℕ, ◌-◌, ◌<◌, ◌≤◌, nat_lt, if◌then◌else◌, true, false, Bool, ℤ, pos, ◌≤ℤ◌, List, [], ◌∷◌, fold, length, map, take, slice_get, Option, Some, None, All, ⊤}
use Rattle.std.specs.List.{AllZip, Any, filter_map}
use Rattle.std.specs.Option.{IfSome, IsSomeAnd, IsSome}
use Rattle.grid_layout.specs.of_zpl_region.declared.dims.Dim.{Dim}
use Rattle.grid_layout.specs.of_zpl_region.declared.dims.Dim.TheVariants as dim
use Rattle.grid_layout.specs.of_zpl_region.declared.regions.Region.{Region}
use Rattle.grid_layout.specs.of_zpl_region.Hull.{all_from}
use Rattle.grid_layout.specs.of_zpl_region.Region.{IsPadded, members}
use Rattle.node_form.specs.of_zpl_arrays.Array.{Array, IsArray}
use Rattle.grid_layout.specs.Layout.{laid_out, held_of, own_first, own_last}
use Rattle.node_form.specs.declared.arrays.ArrayDim.{ArrayDim}
use Rattle.node_form.specs.declared.arrays.ArrayDim.TheVariants.{Range, Star}
use Rattle.node_form.specs.declared.arrays.ArrayRow.{ArrayRow}
use Rattle.node_form.specs.declared.instructions.Instr.{Instr}
use Rattle.node_form.specs.declared.instructions.Instr.TheVariants as instr
use Rattle.node_form.specs.declared.members.Member.{Member}
use Rattle.node_form.specs.declared.members.Member.TheVariants as member
use Rattle.node_form.specs.declared.tables.Tables.{Tables}
use Rattle.node_form.specs.Fits.{FitsRegion}
use Rattle.grid_meaning.specs.Collective.{Collective, Stage, Alone, Sends, TakesFrom, Last, Use, AtOnce, InLast, Asking, others}
use Rattle.grid_meaning.specs.Local.{Local, processors}
use Rattle.grid_meaning.specs.Place.{own_part}
use Rattle.grid_meaning.specs.Rows.{collective}
use Rattle.grid_meaning.specs.Stored.{arrangement_of, box_of, no_places}

-- ---- slots and stores
-- a slot's region has its rank and three dimensions, padded past the rank, steps of at least 1 and
-- no more than the limit
pub record IsSlot (rank : ℕ) (region : Region) : Type 0 where
  pub ranked : region.rank ≡ rank
  pub many : length region.dims ≡ 3
  pub fits : FitsRegion region

-- the places of a temporary in one dimension, between these bounds of the own block
abbrev pub IsRoomIn : ArrayDim → ℤ → ℤ → Dim → Type 0
IsRoomIn Star low high dim.Flood = ⊤
IsRoomIn Star low high (dim.Range lo hi step align) = ⊥
IsRoomIn (Range a b c d) low high dim.Flood = ⊥
IsRoomIn (Range a b c d) low high (dim.Range lo hi step align) =
    (dim.Range lo hi step align ≡ all_from lo hi)
    × (((lo ≡ pos 0) × (hi ≡ pos 0)) ⊎ ((low ≤ℤ lo) × (hi ≤ℤ high)))

abbrev pub AreRoomIn : List ArrayDim → List ℤ → List ℤ → List Dim → Type 0
AreRoomIn (row ∷ rows) (low ∷ lows) (high ∷ highs) (d ∷ dims) = IsRoomIn row low high d × AreRoomIn rows lows highs dims
AreRoomIn rows lows highs dims = ⊤

-- A temporary holds no place; or some, which are within the own block, and flood in its flood
-- dimensions.
pub record IsRoom (code : Tables) (p : ℕ) (row : ArrayRow) (places : Region) : Type 0 where
  pub some : members places ≢ []
  pub ranked : places.rank ≡ row.rank
  pub padded : IsPadded places.rank places.dims
  pub many : length places.dims ≡ 3
  pub dims : let blocks = laid_out (arrangement_of code) in
      AreRoomIn row.dims (own_first blocks row.rank p) (own_last blocks row.rank p) places.dims

abbrev pub ArePlaces : Tables → ℕ → ArrayRow → Bool → Region → Type 0
ArePlaces code p row true places = places ≡ held_of (laid_out (arrangement_of code)) (box_of row) p
ArePlaces code p row false places = (places ≡ no_places row.rank) ⊎ IsRoom code p row places

-- a store has a value at each of its places, which are the held box of a stored array
pub record IsStore (code : Tables) (p : ℕ) (row : ArrayRow) (store : Array) : Type 0 where
  pub filled : IsArray store
  pub places : ArePlaces code p row row.stored store.storage

-- ---- how far a processor is in its row
-- a `while` or `repeat`, at which a turn of a loop may begin
abbrev pub IsAgain : Member → Type 0
IsAgain (member.Put array expr mask line) = ⊥
IsAgain (member.Cell cell expr mask line) = ⊥
IsAgain (member.Acc scalar fold expr mask line) = ⊥
IsAgain (member.OpenIf expr mask line) = ⊥
IsAgain member.Otherwise = ⊥
IsAgain member.CloseIf = ⊥
IsAgain (member.OpenWhile expr mask line) = ⊤
IsAgain member.CloseWhile = ⊥
IsAgain (member.OpenRepeat mask line) = ⊤
IsAgain (member.Until expr) = ⊥

-- no turn was made in the row, and no words are kept
pub record IsFresh (local : Local) : Type 0 where
  pub made : local.made ≡ 0
  pub kept : local.kept ≡ []

pub record IsOutside (local : Local) : Type 0 where
  pub index : local.index ≡ 0
  pub member : local.member ≡ 0

-- The turns of a loop so far are told by its index and member alone: a turn begins with the first
-- member, or at an index with one that may be run again.
pub record IsInLoop (all : List Member) (indices : ℕ) (local : Local) : Type 0 where
  pub fresh : IsFresh local
  pub index : local.index ≤ indices
  pub begins : (local.member ≡ 0)
      ⊎ ((local.index < indices) × IsSomeAnd (slice_get all local.member) IsAgain)

abbrev pub IsLooping : Tables → ℕ → Local → Option Region → Option (List Member) → Type 0
IsLooping code p local (Some region) (Some all) = IsInLoop all (length (members (own_part code p region))) local
IsLooping code p local region all = ⊥

-- the processors from which messages were taken in some turns
abbrev pub sender_of : Stage → Option ℕ
sender_of Alone = None
sender_of (Sends to) = None
sender_of (TakesFrom from) = Some from
sender_of Last = None

abbrev pub senders : List Stage → List ℕ
senders stages = filter_map sender_of stages

-- numbers in ascending order: each is put in its place among those that ascend
abbrev pub placed : List ℕ → ℕ → List ℕ
placed [] n = n ∷ []
placed (m ∷ numbers) n = if nat_lt n m then n ∷ (m ∷ numbers) else m ∷ placed numbers n

abbrev pub ascending : List ℕ → List ℕ
ascending numbers = fold placed [] numbers

-- some of a list's elements, in its order
abbrev pub IsPart : List ℕ → List ℕ → Type 0
IsPart [] ys = ⊤
IsPart (x ∷ xs) [] = ⊥
IsPart (x ∷ xs) (y ∷ ys) = ((x ≡ y) × IsPart xs ys) ⊎ IsPart (x ∷ xs) ys

-- a request that may be taken in a state, with words in it
abbrev pub IsRequest : Collective → Local → ℕ × List ℤ → Type 0
IsRequest row local entry =
    (0 < length entry.1) × (row.awaits local entry.0 (length entry.1) ≡ true)
    × IsSome (row.taken local entry.0 entry.1)

-- the words that are kept are those that the row has taken and not used, by ascending senders, each
-- of a length that it awaits; of requests these are the ones with words, such as may be taken; they
-- come behind as many turns as there are processors
abbrev pub KeepsWords : Tables → ℕ → Use → Collective → Local → Type 0
KeepsWords code p AtOnce row local = local.kept ≡ []
KeepsWords code p InLast row local =
    (map (λ entry. entry.0) local.kept ≡ ascending (senders (take local.made (row.stages local))))
    × All (λ entry. row.awaits local entry.0 (length entry.1) ≡ true) local.kept
KeepsWords code p Asking row local =
    IsPart (map (λ entry. entry.0) local.kept) (take (local.made - processors code) (others code p))
    × All (IsRequest row (record local { made = 0 })) local.kept

-- fewer turns were made than the row has
abbrev pub IsIn : Tables → ℕ → Option Collective → Local → Type 0
IsIn code p None local = IsFresh local
IsIn code p (Some row) local =
    (local.made < length (row.stages local)) × KeepsWords code p row.use_of_words row local

abbrev pub IsAt : Tables → ℕ → Local → Option Instr → Type 0
IsAt code p local None = IsOutside local × IsFresh local
IsAt code p local (Some (instr.Loop slot group)) =
    IsLooping code p local (slice_get local.slots slot) (slice_get code.groups group)
IsAt code p local (Some row) = IsOutside local × IsIn code p (collective code p row) local

abbrev pub Stands : Tables → ℕ → Local → Type 0
Stands code p local = IsAt code p local (slice_get code.code local.at)

-- ---- states
-- what a processor has is the program's
pub record HasParts (code : Tables) (p : ℕ) (local : Local) : Type 0 where
  pub scalars : length local.scalars ≡ code.scalars
  pub cells : length local.cells ≡ code.cells
  pub slots : AllZip IsSlot code.slots local.slots
  pub stores : AllZip (IsStore code p) code.arrays local.stores
  pub flag : IfSome local.flag (λ member. Any (λ all. member < length all) code.groups)

-- and it is one of the program's processors, and at an instruction, or behind the last one, and has
-- made turns in it as they may be; or it has ended
pub record IsLocal (code : Tables) (p : ℕ) (local : Local) : Type 0 where
  pub number : p < processors code
  pub parts : HasParts code p local
  pub at : local.at ≤ length code.code
  pub running : local.ended ≡ None → Stands code p local
  pub over : IsSome local.ended → IsOutside local × IsFresh local

-- ---- what a program's types give: an array of three has three elements
abbrev pub HasThree : Tables → Instr → Type 0
HasThree code (instr.Fix slot region) = length region.dims ≡ 3
HasThree code (instr.Dims slot parts line) = length parts ≡ 3
HasThree code (instr.Room array slot) = IfSome (slice_get code.arrays array) (λ row. length row.dims ≡ 3)
HasThree code row = ⊤

-- of the next row, if there is one
abbrev pub NextHasThree : Tables → Local → Type 0
NextHasThree code local = IfSome (slice_get code.code local.at) (HasThree code)
