-- Shifts of arrays with a storage.
use Rattle.std.proofs.Common.{◌≡◌, ℤ, pos, List, [], ◌∷◌, length, get_or, All, ap, ap₂, arith}
use Rattle.std.specs.List.{AllByRecursion}
use Rattle.std.proofs.lemmas.Int.{ints}
use Rattle.std.proofs.lemmas.List.Elements.{All-from_recursion, recursion_from_All}
use Rattle.zpl_region.specs.declared.dims.Dim.{Dim}
use Rattle.zpl_region.specs.declared.dims.Dim.TheVariants.{Range, Flood}
use Rattle.zpl_region.specs.declared.regions.Region.{Region}
use Rattle.zpl_region.specs.Dim.{IsUpTo}
use Rattle.node_form.specs.Value.{unmoved}
use Rattle.lower_regions.specs.of_zpl_lowering.Reference.{dim_shift, shift_in, vector_over}

pub shifts-are : (storage : Region) (dims : List Dim) (v : List ℤ) (e : Dim) (x y z : ℤ) →
    length dims ≡ 3 → length v ≡ 3 → x ≡ dim_shift (get_or dims 0 e) (get_or v 0 (pos 0)) →
    y ≡ dim_shift (get_or dims 1 e) (get_or v 1 (pos 0)) →
    z ≡ dim_shift (get_or dims 2 e) (get_or v 2 (pos 0)) →
    x ∷ y ∷ z ∷ [] ≡ vector_over (record storage { dims = dims }) v
shifts-are storage (a ∷ b ∷ c ∷ []) (p ∷ q ∷ r ∷ []) e x y z l m h k j =
    ap₂ (λ v w. v ∷ w) h (ap₂ (λ v w. v ∷ w) k (ap (λ v. v ∷ []) j))
shifts-are storage [] v e x y z l m h k j = absurd (omega arith)
shifts-are storage (a ∷ []) v e x y z l m h k j = absurd (omega arith)
shifts-are storage (a ∷ b ∷ []) v e x y z l m h k j = absurd (omega arith)
shifts-are storage (a ∷ b ∷ c ∷ d ∷ dims) v e x y z l m h k j = absurd (omega arith)
shifts-are storage (a ∷ b ∷ c ∷ []) [] e x y z l m h k j = absurd (omega arith)
shifts-are storage (a ∷ b ∷ c ∷ []) (p ∷ []) e x y z l m h k j = absurd (omega arith)
shifts-are storage (a ∷ b ∷ c ∷ []) (p ∷ q ∷ []) e x y z l m h k j = absurd (omega arith)
shifts-are storage (a ∷ b ∷ c ∷ []) (p ∷ q ∷ r ∷ s ∷ v) e x y z l m h k j =
    absurd (omega arith)

zero-near : IsUpTo 41 (pos 0)
zero-near = (omega (arith, ints), omega (arith, ints))

near-in : (dims : List Dim) (v : List ℤ) → AllByRecursion (IsUpTo 41) v →
    AllByRecursion (IsUpTo 41) (shift_in dims v)
near-in dims [] h = tt
near-in [] (d ∷ v) h = (zero-near, near-in [] v h.1)
near-in (Flood ∷ dims) (d ∷ v) h = (zero-near, near-in dims v h.1)
near-in (Range lo hi step align ∷ dims) (d ∷ v) h = (h.0, near-in dims v h.1)

pub near-over : (storage : Region) (v : List ℤ) → All (IsUpTo 41) v →
    All (IsUpTo 41) (vector_over storage v)
near-over storage [] near =
    All-from_recursion (IsUpTo 41) unmoved (zero-near, (zero-near, (zero-near, tt)))
near-over storage (d ∷ v) near =
    All-from_recursion (IsUpTo 41) (shift_in storage.dims (d ∷ v))
    (near-in storage.dims (d ∷ v) (recursion_from_All (IsUpTo 41) (d ∷ v) near))
