-- The lines of slots and of boxes have numbers of 64 bits.
use Rattle.std.proofs.Common.{◌≡◌, ◌≢◌, ℕ, zero, suc, ◌^◌, ◌≤◌, ℤ, pos, negsuc, ◌≤ℤ◌, List, [], ◌∷◌, length, map, take, refl, arith}
use Rattle.std.specs.Prelude.{All}
use Rattle.std.specs.List.{AllZip}
use Rattle.std.proofs.lemmas.Int.{ints}
use Rattle.std.proofs.lemmas.List.Elements.{All-nil, All-cons, All-head, All-tail, All-take}
use Rattle.zpl_nums.specs.Integer.{IsInteger}
use Rattle.zpl_region.specs.declared.dims.Dim.{Dim}
use Rattle.zpl_region.specs.declared.dims.Dim.TheVariants as dim
use Rattle.zpl_region.specs.declared.regions.Region.{Region}
use Rattle.zpl_region.specs.Dim.{HasStep, IsDim, IsDimWithinLimit, IsUpTo}
use Rattle.zpl_region.specs.Region.{IsRegion}
use Rattle.grid_meaning.specs.State.{IsSlot}
use Rattle.save_lines.specs.declared.lines.SavedLine.TheVariants.{Store}
use Rattle.save_lines.specs.Line.{IsBoxWord, IsDimWord, IsSavedLine}
use Rattle.grid_save.specs.Written.{box_dim, slot_line}

-- ---- numbers
bound_integer : (z : ℤ) → IsUpTo 31 z → IsInteger z
bound_integer (pos n) is = record { sfits = omega (arith, ints) }
bound_integer (negsuc n) is = record { sfits = omega (arith, ints) }

wide_integer : (z : ℤ) → IsUpTo 40 z → IsInteger z
wide_integer (pos n) is = record { sfits = omega (arith, ints) }
wide_integer (negsuc n) is = record { sfits = omega (arith, ints) }

step_integer : (z : ℤ) → pos 1 ≤ℤ z → z ≤ℤ pos (2 ^ 31) → IsInteger z
step_integer (pos n) above below = record { sfits = omega (arith, ints) }
step_integer (negsuc n) above below = record { sfits = omega (arith, ints) }

-- ---- some dimensions
some_taken : {X : Type 0} (n : ℕ) (xs : List X) → 1 ≤ n → 1 ≤ length xs → take n xs ≢ []
some_taken zero xs some there = absurd (omega (arith, some))
some_taken (suc n) [] some there = absurd (omega (arith, there))
some_taken (suc n) (x ∷ xs) some there = λ none. cc

some_mapped : {X Y : Type 0} (f : X → Y) (xs : List X) → xs ≢ [] → map f xs ≢ []
some_mapped f [] some = λ none. some refl
some_mapped f (x ∷ xs) some = λ none. cc

-- ---- slots
dim_word : (d : Dim) → HasStep d → IsDimWithinLimit d → IsDimWord d
dim_word (dim.Range lo hi step align) has within =
    (bound_integer lo within.0, bound_integer hi within.1, step_integer step has within.2, wide_integer align within.3)
dim_word dim.Flood has within = tt

dim_words : (dims : List Dim) → All HasStep dims → All IsDimWithinLimit dims → All IsDimWord dims
dim_words [] steps within = All-nil IsDimWord
dim_words (d ∷ dims) steps within =
    All-cons IsDimWord d dims (dim_word d (All-head HasStep d dims steps) (All-head IsDimWithinLimit d dims within))
    (dim_words dims (All-tail HasStep d dims steps) (All-tail IsDimWithinLimit d dims within))

slot_saved : (rank : ℕ) (region : Region) → IsSlot rank region → IsSavedLine (slot_line region)
slot_saved rank region is = (
  some_taken region.rank region.dims is.fits.rank.0 (omega (arith, is.many)),
  All-take IsDimWord region.rank region.dims (dim_words region.dims is.fits.steps is.fits.limit.dims),
)

pub slots_saved : (ranks : List ℕ) (regions : List Region) → AllZip IsSlot ranks regions
    → All (λ region. IsSavedLine (slot_line region)) regions
slots_saved [] [] are = All-nil (λ (region : Region). IsSavedLine (slot_line region))
slots_saved [] (region ∷ regions) are = absurd are
slots_saved (rank ∷ ranks) [] are = absurd are
slots_saved (rank ∷ ranks) (region ∷ regions) are =
    All-cons (λ (region : Region). IsSavedLine (slot_line region)) region regions (slot_saved rank region are.0)
    (slots_saved ranks regions are.1)

-- ---- boxes
box_word : (d : Dim) → IsDim d → IsBoxWord (box_dim d)
box_word (dim.Range lo hi step align) is = (wide_integer lo is.1.0, wide_integer hi is.1.1)
box_word dim.Flood is = tt

box_words : (dims : List Dim) → All IsDim dims → All IsBoxWord (map box_dim dims)
box_words [] all = All-nil IsBoxWord
box_words (d ∷ dims) all =
    All-cons IsBoxWord (box_dim d) (map box_dim dims) (box_word d (All-head IsDim d dims all))
    (box_words dims (All-tail IsDim d dims all))

pub store_saved : (places : Region) (values : List ℤ) → IsRegion places → length places.dims ≡ 3 → All IsInteger values
    → IsSavedLine (Store (map box_dim (take places.rank places.dims)) values)
store_saved places values is three all = (
  some_mapped box_dim _ (some_taken places.rank places.dims is.rank_above (omega (arith, three))),
  box_words _ (All-take IsDim places.rank places.dims is.dims),
  all,
)
