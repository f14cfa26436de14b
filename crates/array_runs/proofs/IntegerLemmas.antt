-- Values of terms are integers of 64 bits, where all arrays of the store have such.
use Rattle.std.proofs.Common.{◌≡◌, refl, sym, subst, arith, ℕ, zero, suc, Bool, true, false, inl, inr}
use Rattle.std.proofs.Common.{List, [], ◌∷◌, ◌++◌, map, filter, ℤ, pos, negsuc, ◌≤ℤ◌, Option, Some, None, All, ◌&&◌}
use Rattle.std.specs.Prelude.{cond, flat_map, fold, if◌then◌else◌, slice_index_or, IfSome, unsigned_abs, ◌-◌, slice_set}
use Rattle.std.specs.List.{AllZip, list_all}
use Rattle.std.proofs.lemmas.Int.{ints}
use Rattle.std.proofs.lemmas.List.Elements.{All-head, All-tail}
use Rattle.zpl_nums.specs.declared.ends.TrapKind.{TrapKind}
use Rattle.zpl_nums.specs.declared.ends.TrapKind.TheVariants.{OutsideStorage}
use Rattle.zpl_nums.specs.declared.folds.Fold.{Fold}
use Rattle.zpl_nums.specs.declared.folds.Fold.TheVariants as fold
use Rattle.zpl_nums.specs.declared.operators.Op.{Op}
use Rattle.zpl_nums.specs.declared.operators.UnaryOp.{UnaryOp}
use Rattle.zpl_nums.specs.Fold.{joined, unit_of}
use Rattle.zpl_nums.specs.Integer.{IsInteger}
use Rattle.zpl_nums.specs.Op.{applied}
use Rattle.zpl_nums.specs.UnaryOp.{applied_unary}
use Rattle.zpl_nums.proofs.IntegerLemmas.{IsInteger-truth, IsInteger-wrapped, IsInteger-int_max, IsInteger-int_min}
use Rattle.zpl_nums.proofs.OperatorLemmas.{IsInteger-applied, IsInteger-applied_unary}
use Rattle.zpl_nums.proofs.FoldLemmas.{IsValueOf-unit_of}
use Rattle.zpl_region.specs.declared.dims.Dim.{Dim}
use Rattle.zpl_region.specs.declared.dims.Dim.TheVariants.{Range, Flood}
use Rattle.zpl_region.specs.declared.regions.Region.{Region}
use Rattle.zpl_region.specs.Dim.{IsCoordinate, IsDim, IsUpTo, coordinates}
use Rattle.zpl_region.specs.Tests.{is_member}
use Rattle.zpl_region.specs.Region.{IsMember, members, tuple_moved, tuples}
use Rattle.zpl_region.proofs.DimLemmas.{among_coordinates}
use Rattle.zpl_region.proofs.ListLemmas.{Among}
use Rattle.zpl_arrays.specs.Array.{Array, element, has_place, place_among, updated}
use Rattle.zpl_arrays.specs.Around.{around_source}
use Rattle.zpl_arrays.specs.Flood.{flood_source}
use Rattle.zpl_arrays.specs.Fold.{agrees, kept_fold}
use Rattle.zpl_arrays.specs.Scan.{is_through, is_up_along}
use Rattle.array_puts.specs.of_zpl_meaning.Computed as mean
use Rattle.array_puts.specs.of_zpl_meaning.Computed.{both_then, computed_then, given, provided}
use Rattle.array_puts.specs.of_zpl_meaning.Store.{Store, array_at, no_array, scalar_at}
use Rattle.array_puts.specs.of_zpl_meaning.Statement.{written}
use Rattle.array_puts.specs.of_zpl_meaning.Term.{Term, Terms, Constant, Variable, Coordinate, Element, Wrapped, Unary}
use Rattle.array_puts.specs.of_zpl_meaning.Term.{Binary, Folded, PartFolded, Scanned, Flooded, Remapped}
use Rattle.array_puts.specs.of_zpl_meaning.Fields.{Field, array_over, arrays_over, constant_field, everywhere, field_of, fields_of, flood_field, fold_field, has_target, is_kept_in, part_field, remap_field, scan_field, target_of, value_if, values_at}
use Rattle.row_runs.specs.Straight.{Every}
use Rattle.node_form.specs.declared.tables.Tables.{Tables}
use Rattle.lowering_runs.specs.of_flat_form.Whole.{Whole}
use Rattle.lowering_runs.specs.of_zpl_lowering.Where.{Stored}
use Rattle.lowering_runs.specs.Seen.{Spot, array_in, seen_store}
use Rattle.lowering_runs.specs.Stands.{AreStored, IsSound}
use Rattle.array_runs.specs.Integers.{AreIntegers, GivesIntegers, HasIntegers}

-- ---- folds

joined_integer : (operator : Fold) (a b : ℤ) → IsInteger a → IsInteger b
    → IsInteger (joined operator a b)
joined_integer fold.Sum a b f g = IsInteger-wrapped _
joined_integer fold.Prod a b f g = IsInteger-wrapped _
joined_integer fold.Max a b f g = IsInteger-int_max a b f g
joined_integer fold.Min a b f g = IsInteger-int_min a b f g
joined_integer fold.All a b f g = IsInteger-truth _
joined_integer fold.Any a b f g = IsInteger-truth _

pub unit_integer : (operator : Fold) → IsInteger (unit_of operator)
unit_integer fold.Sum = IsValueOf-unit_of fold.Sum
unit_integer fold.Prod = IsValueOf-unit_of fold.Prod
unit_integer fold.Max = IsValueOf-unit_of fold.Max
unit_integer fold.Min = IsValueOf-unit_of fold.Min
unit_integer fold.All = IsInteger-truth true
unit_integer fold.Any = IsInteger-truth false

all_integer : (operator : Fold) (own : ℤ) → IsInteger own → (is_in : List ℤ → Bool)
    (value : List ℤ → ℤ) → ((t : List ℤ) → IsInteger (value t)) → (ts : List (List ℤ))
    → IsInteger (fold (joined operator) own (map value (filter is_in ts)))
all_integer operator own is is_in value h [] = is
all_integer operator own is is_in value h (t ∷ ts) =
    by (is_in t) (λ v f. all_integer operator v f is_in value h ts)
  where
    by : (b : Bool) → ((v : ℤ) → IsInteger v
        → IsInteger (fold (joined operator) v (map value (filter is_in ts))))
        → IsInteger (fold (joined operator) own
        (map value (cond b (t ∷ filter is_in ts) (filter is_in ts))))
    by true more = more (joined operator own (value t)) (joined_integer operator own (value t) is (h t))
    by false more = more own is

-- of integers, over the tuples that are kept
pub kept_integer : (operator : Fold) (is_in : List ℤ → Bool) (value : List ℤ → ℤ)
    → ((t : List ℤ) → IsInteger (value t)) → (ts : List (List ℤ))
    → IsInteger (kept_fold operator is_in value ts)
kept_integer operator is_in value h ts =
    all_integer operator (unit_of operator) (unit_integer operator) is_in value h ts

-- ---- arrays

index_integer : (xs : List ℤ) (k : ℕ) → Every IsInteger xs → IsInteger (slice_index_or xs k (pos 0))
index_integer [] zero h = IsInteger-truth false
index_integer [] (suc k) h = IsInteger-truth false
index_integer (x ∷ xs) zero h = h.0
index_integer (x ∷ xs) (suc k) h = index_integer xs k h.1

pub element_integer : (array : Array) → Every IsInteger array.values → (t : List ℤ)
    → IsInteger (element array t)
element_integer array h t = by (has_place array.storage t)
  where
    by : (b : Bool)
        → IsInteger (if b then slice_index_or array.values (place_among array.storage.dims t) (pos 0) else pos 0)
    by true = index_integer array.values (place_among array.storage.dims t) h
    by false = IsInteger-truth false

every_map : (f : List ℤ → ℤ) → ((t : List ℤ) → IsInteger (f t)) → (ts : List (List ℤ))
    → Every IsInteger (map f ts)
every_map f h [] = tt
every_map f h (t ∷ ts) = (h t, every_map f h ts)

-- with new values at the tuples of a region
pub made_integers : (array : Array) (region : Region) (is_in : List ℤ → Bool) (value : List ℤ → ℤ)
    → Every IsInteger array.values → ((t : List ℤ) → IsInteger (value t))
    → Every IsInteger (written array region is_in value).values
made_integers array region is_in value h k =
    every_map _ (λ t. by t (is_member region t && is_in t)) (members array.storage)
  where
    by : (t : List ℤ) (b : Bool) → IsInteger (if b then value t else element array t)
    by t true = k t
    by t false = element_integer array h t

-- those of another array
pub written_integers : (array values : Array) (region : Region) (is_in : List ℤ → Bool)
    → Every IsInteger array.values → Every IsInteger values.values
    → Every IsInteger (written array region is_in (element values)).values
written_integers array values region is_in h k =
    made_integers array region is_in (element values) h (element_integer values k)

-- with another value at one tuple
every_set : (xs : List ℤ) (k : ℕ) (x : ℤ) → Every IsInteger xs → IsInteger x
    → Every IsInteger (slice_set xs k x)
every_set [] zero x h i = tt
every_set [] (suc k) x h i = tt
every_set (y ∷ xs) zero x h i = (i, h.1)
every_set (y ∷ xs) (suc k) x h i = (h.0, every_set xs k x h.1 i)

pub updated_integers : (array : Array) (t : List ℤ) (value : ℤ) → Every IsInteger array.values
    → IsInteger value → Every IsInteger (updated array t value).values
updated_integers array t value h i =
    every_set array.values (place_among array.storage.dims t) value h i

-- ---- tuples of a region

every_among : (xs : List ℤ) → ((x : ℤ) → Among xs x → IsInteger x) → Every IsInteger xs
every_among [] f = tt
every_among (x ∷ xs) f = (f x (inl refl), every_among xs (λ y m. f y (inr m)))

bounded_integer : (lo hi x : ℤ) → IsUpTo 40 lo → IsUpTo 40 hi → lo ≤ℤ x → x ≤ℤ hi → IsInteger x
bounded_integer (pos a) (pos b) (pos x) f g h k = record { sfits = omega (arith, ints) }
bounded_integer (pos a) (pos b) (negsuc x) f g h k = record { sfits = omega (arith, ints) }
bounded_integer (pos a) (negsuc b) (pos x) f g h k = record { sfits = omega (arith, ints) }
bounded_integer (pos a) (negsuc b) (negsuc x) f g h k = record { sfits = omega (arith, ints) }
bounded_integer (negsuc a) (pos b) (pos x) f g h k = record { sfits = omega (arith, ints) }
bounded_integer (negsuc a) (pos b) (negsuc x) f g h k = record { sfits = omega (arith, ints) }
bounded_integer (negsuc a) (negsuc b) (pos x) f g h k = record { sfits = omega (arith, ints) }
bounded_integer (negsuc a) (negsuc b) (negsuc x) f g h k = record { sfits = omega (arith, ints) }

coordinate_integer : (dim : Dim) → IsDim dim → (x : ℤ) → IsCoordinate dim x → IsInteger x
coordinate_integer (Range lo hi step align) h x c =
    bounded_integer lo hi x h.1.0 h.1.1 c.0 c.1
coordinate_integer Flood h x c = subst (λ (z : ℤ). IsInteger z) (sym c) (IsInteger-truth false)

every_append : (ss ts : List (List ℤ)) → Every (Every IsInteger) ss → Every (Every IsInteger) ts
    → Every (Every IsInteger) (ss ++ ts)
every_append [] ts h k = k
every_append (s ∷ ss) ts h k = (h.0, every_append ss ts h.1 k)

line_integers : (x : ℤ) (ts : List (List ℤ)) → IsInteger x → Every (Every IsInteger) ts
    → Every (Every IsInteger) (map (λ t. x ∷ t) ts)
line_integers x [] h k = tt
line_integers x (t ∷ ts) h k = ((h, k.0), line_integers x ts h k.1)

lines_integers : (xs : List ℤ) (ts : List (List ℤ)) → Every IsInteger xs
    → Every (Every IsInteger) ts
    → Every (Every IsInteger) (flat_map (λ x. map (λ t. x ∷ t) ts) xs)
lines_integers [] ts h k = tt
lines_integers (x ∷ xs) ts h k =
    every_append (map (λ t. x ∷ t) ts) (flat_map (λ x. map (λ t. x ∷ t) ts) xs)
    (line_integers x ts h.0 k) (lines_integers xs ts h.1 k)

tuples_integers : (dims : List Dim) → All IsDim dims
    → Every (Every IsInteger) (tuples (map coordinates dims))
tuples_integers [] h = (tt, tt)
tuples_integers (dim ∷ dims) h =
    let own : IsDim dim = All-head IsDim dim dims h in
    lines_integers (coordinates dim) (tuples (map coordinates dims))
    (every_among (coordinates dim) (λ x m. coordinate_integer dim own x (among_coordinates dim x own.0 m)))
    (tuples_integers dims (All-tail IsDim dim dims h))

pub members_integers : (region : Region) → All IsDim region.dims
    → Every (Every IsInteger) (members region)
members_integers region h = tuples_integers region.dims h

each_integer : (dims : List Dim) (t : List ℤ) → All IsDim dims → AllZip IsCoordinate dims t
    → Every IsInteger t
each_integer [] [] h z = tt
each_integer [] (x ∷ t) h z = absurd z
each_integer (dim ∷ dims) [] h z = tt
each_integer (dim ∷ dims) (x ∷ t) h z = (
  coordinate_integer dim (All-head IsDim dim dims h) x z.0,
  each_integer dims t (All-tail IsDim dim dims h) z.1,
)

pub member_integers : (region : Region) (t : List ℤ) → All IsDim region.dims → IsMember region t
    → Every IsInteger t
member_integers region t h m = each_integer region.dims t h m

-- ---- the array of a field

value_integer : (b : Bool) (field : Field) (t : List ℤ) (v : ℤ) → GivesIntegers field
    → Every IsInteger t → value_if b field t ≡ mean.Gives v → IsInteger v
value_integer true field t v h is e = h t is v e
value_integer false field t v h is e =
    let same : pos 0 ≡ v = cc in subst (λ (z : ℤ). IsInteger z) same (IsInteger-truth false)

values_integer : (is_in : List ℤ → Bool) (field : Field) → GivesIntegers field
    → (ts : List (List ℤ)) → Every (Every IsInteger) ts → (vs : List ℤ)
    → values_at is_in field ts ≡ mean.Gives vs → Every IsInteger vs
values_integer is_in field h [] all vs e =
    let same : [] ≡ vs = cc in subst (λ (xs : List ℤ). Every IsInteger xs) same tt
values_integer is_in field h (t ∷ ts) all vs e =
    by (value_if (is_in t) field t) (values_at is_in field ts)
    (λ v f. value_integer (is_in t) field t v h all.0 f)
    (λ xs f. values_integer is_in field h ts all.1 xs f) e
  where
    by : (one : mean.Computed ℤ) (rest : mean.Computed (List ℤ))
        → ((v : ℤ) → one ≡ mean.Gives v → IsInteger v)
        → ((xs : List ℤ) → rest ≡ mean.Gives xs → Every IsInteger xs)
        → both_then one rest (λ value values. mean.Gives (value ∷ values)) ≡ mean.Gives vs
        → Every IsInteger vs
    by (mean.Gives v) (mean.Gives xs) f g e =
        let same : v ∷ xs ≡ vs = cc in
        subst (λ (xs : List ℤ). Every IsInteger xs) same (f v refl, g xs refl)
    by (mean.Gives v) (mean.Traps kind) f g e = absurd (let no : ⊥ = cc in no)
    by (mean.Traps kind) rest f g e = absurd (let no : ⊥ = cc in no)

pub array_integers : (region : Region) (is_in : List ℤ → Bool) (field : Field) → All IsDim region.dims
    → GivesIntegers field → (array : Array) → array_over region is_in field ≡ mean.Gives array
    → Every IsInteger array.values
array_integers region is_in field dims h array e =
    by (values_at is_in field (members region))
    (λ vs f. values_integer is_in field h (members region) (members_integers region dims) vs f) e
  where
    by : (values : mean.Computed (List ℤ))
        → ((vs : List ℤ) → values ≡ mean.Gives vs → Every IsInteger vs)
        → computed_then values (λ vs. mean.Gives (record { storage = region; values = vs }))
        ≡ mean.Gives array → Every IsInteger array.values
    by (mean.Gives vs) f e =
        let same : record { storage = region; values = vs } ≡ array = cc in
        subst (λ (a : Array). Every IsInteger a.values) same (f vs refl)
    by (mean.Traps kind) f e = absurd (let no : ⊥ = cc in no)

-- ---- fields

applied_integer : (op : Op) (a b v : ℤ) → IsInteger a → IsInteger b
    → given (applied op a b) ≡ mean.Gives v → IsInteger v
applied_integer op a b v f g e = by (applied op a b) (IsInteger-applied op a b f g) e
  where
    by : (o : Option ℤ) → IfSome o IsInteger → given o ≡ mean.Gives v → IsInteger v
    by (Some x) h e = let same : x ≡ v = cc in subst (λ (z : ℤ). IsInteger z) same h
    by None h e = absurd (let no : ⊥ = cc in no)

-- it gives a value at each tuple
valued : (value : List ℤ → ℤ) → ((t : List ℤ) → Every IsInteger t → IsInteger (value t))
    → GivesIntegers (λ t. mean.Gives (value t))
valued value h t is v e =
    let same : value t ≡ v = cc in subst (λ (z : ℤ). IsInteger z) same (h t is)

pub constant_integers : (value : ℤ) → IsInteger value → GivesIntegers (constant_field value)
constant_integers value h = valued (λ t. value) (λ t is. h)

pub unary_integers : (op : UnaryOp) (field : Field) → GivesIntegers field
    → GivesIntegers (λ t. computed_then (field t) (λ value. mean.Gives (applied_unary op value)))
unary_integers op field h t is v e = by (field t) (h t is) e
  where
    by : (c : mean.Computed ℤ) → ((v : ℤ) → c ≡ mean.Gives v → IsInteger v)
        → computed_then c (λ value. mean.Gives (applied_unary op value)) ≡ mean.Gives v
        → IsInteger v
    by (mean.Gives x) f e =
        let same : applied_unary op x ≡ v = cc in
        subst (λ (z : ℤ). IsInteger z) same (IsInteger-applied_unary op x (f x refl))
    by (mean.Traps kind) f e = absurd (let no : ⊥ = cc in no)

pub binary_integers : (op : Op) (one other : Field) → GivesIntegers one → GivesIntegers other
    → GivesIntegers (λ t. both_then (one t) (other t) (λ a b. given (applied op a b)))
binary_integers op one other h k t is v e = by (one t) (other t) (h t is) (k t is) e
  where
    by : (c d : mean.Computed ℤ) → ((v : ℤ) → c ≡ mean.Gives v → IsInteger v)
        → ((v : ℤ) → d ≡ mean.Gives v → IsInteger v)
        → both_then c d (λ a b. given (applied op a b)) ≡ mean.Gives v → IsInteger v
    by (mean.Gives a) (mean.Gives b) f g e = applied_integer op a b v (f a refl) (g b refl) e
    by (mean.Gives a) (mean.Traps kind) f g e = absurd (let no : ⊥ = cc in no)
    by (mean.Traps kind) d f g e = absurd (let no : ⊥ = cc in no)

-- ---- terms

abbrev pub IfGives : mean.Computed Field → Type 0
IfGives computed = (field : Field) → computed ≡ mean.Gives field → GivesIntegers field

gives_integers : (field : Field) → GivesIntegers field → IfGives (mean.Gives field)
gives_integers field h other e =
    let same : field ≡ other = cc in subst (λ (f : Field). GivesIntegers f) same h

traps_integers : (kind : TrapKind) → IfGives (mean.Traps kind)
traps_integers kind other e = absurd (let no : ⊥ = cc in no)

-- an operator over a region, by the array of its operand
by_array : (region : Region) (is_in : List ℤ → Bool) → All IsDim region.dims
    → (made : Array → Field)
    → ((array : Array) → Every IsInteger array.values → GivesIntegers (made array))
    → (c : mean.Computed Field) → IfGives c
    → IfGives (computed_then c (λ field. computed_then (array_over region is_in field)
    (λ array. mean.Gives (made array))))
by_array region is_in dims made h (mean.Traps kind) f = traps_integers kind
by_array region is_in dims made h (mean.Gives field) f =
    by (array_over region is_in field) (array_integers region is_in field dims (f field refl))
  where
    by : (c : mean.Computed Array)
        → ((array : Array) → c ≡ mean.Gives array → Every IsInteger array.values)
        → IfGives (computed_then c (λ array. mean.Gives (made array)))
    by (mean.Gives array) k = gives_integers (made array) (h array (k array refl))
    by (mean.Traps kind) k = traps_integers kind

scan_integers : (operator : Fold) (along : Option ℤ) (region : Region) (is_in : List ℤ → Bool)
    (array : Array) → Every IsInteger array.values
    → GivesIntegers (scan_field operator along region is_in array)
scan_integers operator None region is_in array h =
    valued _ (λ t is. kept_integer operator (λ u. is_in u && is_through t u) (element array)
    (element_integer array h) (members region))
scan_integers operator (Some k) region is_in array h =
    valued _ (λ t is. kept_integer operator (λ u. is_in u && is_up_along (unsigned_abs k - 1) t u)
    (element array) (element_integer array h) (members region))

module _ (store : Store) (arrays : HasIntegers store) where
  pub term_integers : (term : Term) → AreIntegers store term → IfGives (field_of store term)
  term_integers (Constant value) h =
      gives_integers (constant_field value) (constant_integers value h)
  term_integers (Variable place) h =
      gives_integers (constant_field (scalar_at store place))
      (constant_integers (scalar_at store place) h)
  term_integers (Coordinate k) h =
      gives_integers _ (valued _ (λ t is. index_integer t (k - 1) is))
  term_integers (Element over array shift) h =
      gives_integers _ (valued _ (λ t is.
      element_integer (array_at store array) (arrays array) (tuple_moved shift over t)))
  term_integers (Wrapped over array home shift) h =
      gives_integers _ (valued _ (λ t is.
      element_integer (array_at store array) (arrays array) (around_source home shift t)))
  term_integers (Unary op operand) h =
      by (field_of store operand) (term_integers operand h)
    where
      by : (c : mean.Computed Field) → IfGives c
          → IfGives (computed_then c (λ field. mean.Gives (λ t.
          computed_then (field t) (λ value. mean.Gives (applied_unary op value)))))
      by (mean.Gives field) f = gives_integers _ (unary_integers op field (f field refl))
      by (mean.Traps kind) f = traps_integers kind
  term_integers (Binary op left right) h =
      by (field_of store left) (field_of store right) (term_integers left h.0)
      (term_integers right h.1)
    where
      by : (c d : mean.Computed Field) → IfGives c → IfGives d
          → IfGives (both_then c d (λ a b. mean.Gives (λ t.
          both_then (a t) (b t) (λ x y. given (applied op x y)))))
      by (mean.Gives a) (mean.Gives b) f g =
          gives_integers _ (binary_integers op a b (f a refl) (g b refl))
      by (mean.Gives a) (mean.Traps kind) f g = traps_integers kind
      by (mean.Traps kind) d f g = traps_integers kind
  term_integers (Folded operator over operand) h =
      by_array over.region (is_kept_in store over) h.0.dims
      (fold_field operator over.region (is_kept_in store over))
      (λ array k. valued _ (λ t is. kept_integer operator (is_kept_in store over) (element array)
      (element_integer array k) (members over.region)))
      (field_of store operand) (term_integers operand h.1)
  term_integers (PartFolded operator over source operand) h =
      by_array source everywhere h.0.dims (part_field operator over.region source)
      (λ array k. valued _ (λ t is. kept_integer operator (agrees over.region.dims t) (element array)
      (element_integer array k) (members source)))
      (field_of store operand) (term_integers operand h.1)
  term_integers (Scanned operator along over operand) h =
      by_array over.region (is_kept_in store over) h.0.dims
      (scan_field operator along over.region (is_kept_in store over))
      (scan_integers operator along over.region (is_kept_in store over))
      (field_of store operand) (term_integers operand h.1)
  term_integers (Flooded over source operand) h =
      by_array source everywhere h.0.dims (flood_field source)
      (λ array k. valued _ (λ t is. element_integer array k (flood_source source t)))
      (field_of store operand) (term_integers operand h.1)
  term_integers (Remapped over array indices) h =
      by (fields_of store indices)
    where
      by : (c : mean.Computed (List Field))
          → IfGives (computed_then c (λ fields.
          computed_then (arrays_over over.region (is_kept_in store over) fields) (λ arrays.
          provided
          (list_all (λ t. has_target (is_kept_in store over t) (array_at store array) arrays t)
          (members over.region)) OutsideStorage (λ _.
          mean.Gives (remap_field (array_at store array) arrays)))))
      by (mean.Traps kind) = traps_integers kind
      by (mean.Gives fields) = over_arrays (arrays_over over.region (is_kept_in store over) fields)
        where
          checked : (b : Bool) (all : List Array)
              → IfGives (provided b OutsideStorage (λ _.
              mean.Gives (remap_field (array_at store array) all)))
          checked true all =
              gives_integers _ (valued _ (λ t is.
              element_integer (array_at store array) (arrays array) (target_of all t)))
          checked false all = traps_integers OutsideStorage

          over_arrays : (c : mean.Computed (List Array))
              → IfGives (computed_then c (λ arrays. provided
              (list_all (λ t. has_target (is_kept_in store over t) (array_at store array) arrays t)
              (members over.region)) OutsideStorage (λ _.
              mean.Gives (remap_field (array_at store array) arrays))))
          over_arrays (mean.Gives all) = checked _ all
          over_arrays (mean.Traps kind) = traps_integers kind

-- ---- the store of a state

stored_integers : (tables : Tables) (now : Whole) → IsSound tables now → (arrays : List Stored)
    → AreStored tables arrays → (place : ℕ)
    → Every IsInteger (slice_index_or (map (λ stored. array_in now stored.array) arrays) place no_array).values
stored_integers tables now sound [] all zero = tt
stored_integers tables now sound [] all (suc place) = tt
stored_integers tables now sound (stored ∷ arrays) all zero =
    sound.elements stored.array all.0.row all.0.found all.0.kept
stored_integers tables now sound (stored ∷ arrays) all (suc place) =
    stored_integers tables now sound arrays all.1 place

pub store_integers : (tables : Tables) (spots : List Spot) (arrays : List Stored) (now : Whole)
    → IsSound tables now → AreStored tables arrays → HasIntegers (seen_store spots arrays now)
store_integers tables spots arrays now sound all place =
    stored_integers tables now sound arrays all place
