-- A loop of one accumulation joins a field's values to a scalar.
use Rattle.std.proofs.Common.{◌≡◌, refl, sym, ◌∙◌, ap, ℕ, zero, suc, Bool, true, false}
use Rattle.std.proofs.Common.{List, [], ◌∷◌, map, filter, ℤ, pos, Option, Some, None}
use Rattle.std.specs.Prelude.{if◌then◌else◌, fold, option_and_then, replicate, slice_get, slice_set, All, cond}
use Rattle.std.specs.Option.{option_map}
use Rattle.zpl_nums.specs.declared.ends.End.TheVariants.{Trap}
use Rattle.zpl_nums.specs.declared.folds.Fold.{Fold}
use Rattle.zpl_nums.specs.Fold.{joined, unit_of}
use Rattle.zpl_nums.specs.Integer.{is_true}
use Rattle.zpl_region.specs.declared.regions.Region.{Region}
use Rattle.zpl_region.specs.Dim.{HasStep}
use Rattle.zpl_region.specs.Region.{IsMember, members}
use Rattle.zpl_region.proofs.LawLemmas.{members_iff}
use Rattle.zpl_region.proofs.ListLemmas.{Contains-from_among}
use Rattle.zpl_arrays.specs.Array.{Array, array_of, element}
use Rattle.zpl_arrays.specs.Fold.{reduced}
use Rattle.zpl_arrays.proofs.ArrayLemmas.{element_of_member}
use Rattle.zpl_meaning.specs.Computed as mean
use Rattle.zpl_meaning.specs.Computed.{computed_then}
use Rattle.zpl_meaning.specs.Fields.{Field, array_over, values_at}
use Rattle.row_runs.specs.Run.{Ends, Goes, Step, Stops, Wrong}
use Rattle.row_runs.specs.Straight.{Every}
use Rattle.node_form.specs.declared.tables.Tables.{Tables}
use Rattle.node_form.specs.Nest.{Nest, Nothing, Joining}
use Rattle.node_form.specs.Value as flat
use Rattle.node_form.specs.Value.{Computed, Divides, Gives, Lacks, and_then, mapped, value_of}
use Rattle.nest_meaning.specs.Nested.{Fine, Lost, Told, Zero, then_do, with_state, with_value}
use Rattle.flat_form.specs.Loop.{AllFine, AllTold, Column, Point, Joins, SomeLost, SomeZero}
use Rattle.flat_form.specs.Loop.{all_awaiting, all_told, all_written, awaiting, both_told, from_written}
use Rattle.flat_form.specs.Loop.{log_written, looped, loop_stands, unit_at, unit_does, units_do, written}
use Rattle.flat_form.specs.Names.{group_cells}
use Rattle.flat_form.specs.Row.{Member, Acc, Words, mask_words, numbered}
use Rattle.flat_form.specs.Whole.{Whole}
use Rattle.normal_runs.proofs.PutLemmas.{wanted, value_in, put_if, start_point, Sum, AllGive}
use Rattle.normal_runs.proofs.PutLemmas.{SomeDivides, SomeLacks, summed, with_one}
use Rattle.print_runs.specs.of_array_puts.Put.{IsSame, IsMask, operands_in}
use Rattle.print_runs.proofs.of_array_puts.PutLemmas.{IsPut, one_put, Sums, AllSummed, OneDivides}
use Rattle.print_runs.proofs.of_array_puts.PutLemmas.{new, sums, value_at}
use Rattle.print_runs.proofs.of_array_puts.WriteLemmas.{every_among, value_put}

-- ---- one tuple

abbrev pub acc_group : ℕ → Fold → Words → Option Words → ℕ → List Member
acc_group scalar operator expr mask line = Acc scalar operator expr mask line ∷ []

abbrev point_join : ℕ → Fold → List ℤ → Option ℤ → Point
point_join scalar operator cells None = start_point cells
point_join scalar operator cells (Some v) =
    record { cells = cells; log = Joins scalar operator v ∷ [] }

abbrev told_join : ℕ → Fold → List ℤ → Computed (Option ℤ) → Told Point
told_join scalar operator cells (Gives o) = Fine (point_join scalar operator cells o)
told_join scalar operator cells Divides = Zero (start_point cells)
told_join scalar operator cells Lacks = Lost

join_told : (scalar : ℕ) (operator : Fold) (cells : List ℤ) (value : Computed ℤ)
    → then_do (λ p. Fine p) (with_value (start_point cells) value
    (λ v. with_state (Some (point_join scalar operator cells (Some v)))))
    ≡ told_join scalar operator cells (mapped (λ v. Some v) value)
join_told scalar operator cells (Gives v) = refl
join_told scalar operator cells Divides = refl
join_told scalar operator cells Lacks = refl

if_told : (scalar : ℕ) (operator : Fold) (cells : List ℤ) (b : Bool) (value : Computed ℤ)
    → then_do (λ p. Fine p) (if b then with_value (start_point cells) value
    (λ v. with_state (Some (point_join scalar operator cells (Some v)))) else Fine (start_point cells))
    ≡ told_join scalar operator cells (put_if b value)
if_told scalar operator cells true value = join_told scalar operator cells value
if_told scalar operator cells false value = refl

mask_told : (scalar : ℕ) (operator : Fold) (cells : List ℤ) (mask value : Computed ℤ)
    → then_do (λ p. Fine p) (with_value (start_point cells) mask (λ m. if is_true m
    then with_value (start_point cells) value
    (λ v. with_state (Some (point_join scalar operator cells (Some v))))
    else Fine (start_point cells)))
    ≡ told_join scalar operator cells (and_then (λ v. put_if (is_true v) value) mask)
mask_told scalar operator cells (Gives m) value = if_told scalar operator cells (is_true m) value
mask_told scalar operator cells Divides value = refl
mask_told scalar operator cells Lacks value = refl

abbrev join_tree : ℕ → Fold → Option Words → ℕ → Nest
join_tree scalar operator mask line = Joining scalar operator 0 (numbered 1 mask) line Nothing

unit_is : (n scalar : ℕ) (operator : Fold) (expr : Words) (mask : Option Words) (line : ℕ)
    (before : Whole) (column : Column)
    → unit_at n (expr ∷ mask_words mask) (join_tree scalar operator mask line) before column
    ≡ told_join scalar operator column.cells (wanted before column.cells expr mask column.at)
unit_is n scalar operator expr None line before column =
    join_told scalar operator column.cells (value_in before column.cells expr column.at)
unit_is n scalar operator expr (Some mask) line before column =
    mask_told scalar operator column.cells (value_in before column.cells mask column.at)
    (value_in before column.cells expr column.at)

-- ---- all tuples

abbrev told_sum : ℕ → Fold → List ℤ → Sum → AllTold
told_sum scalar operator cells (AllGive os) = AllFine (map (point_join scalar operator cells) os)
told_sum scalar operator cells SomeDivides = SomeZero
told_sum scalar operator cells SomeLacks = SomeLost

both_is : (scalar : ℕ) (operator : Fold) (cells : List ℤ) (value : Computed (Option ℤ)) (rest : Sum)
    → both_told (told_join scalar operator cells value) (told_sum scalar operator cells rest)
    ≡ told_sum scalar operator cells (with_one value rest)
both_is scalar operator cells (Gives o) (AllGive os) = refl
both_is scalar operator cells (Gives o) SomeDivides = refl
both_is scalar operator cells (Gives o) SomeLacks = refl
both_is scalar operator cells Divides (AllGive os) = refl
both_is scalar operator cells Divides SomeDivides = refl
both_is scalar operator cells Divides SomeLacks = refl
both_is scalar operator cells Lacks rest = refl

abbrev columns : List ℤ → List (List ℤ) → List Column
columns cells ts = map (λ t. record { at = t; cells = cells }) ts

told_is : (n scalar : ℕ) (operator : Fold) (expr : Words) (mask : Option Words) (line : ℕ)
    (before : Whole) (cells : List ℤ) (ts : List (List ℤ))
    → all_told (unit_at n (expr ∷ mask_words mask) (join_tree scalar operator mask line) before)
    (columns cells ts)
    ≡ told_sum scalar operator cells (summed (wanted before cells expr mask) ts)
told_is n scalar operator expr mask line before cells [] = refl
told_is n scalar operator expr mask line before cells (t ∷ ts) =
    ap (λ told. both_told told (all_told
    (unit_at n (expr ∷ mask_words mask) (join_tree scalar operator mask line) before)
    (columns cells ts)))
    (unit_is n scalar operator expr mask line before (record { at = t; cells = cells }))
    ∙ (ap (both_told (told_join scalar operator cells (wanted before cells expr mask t)))
    (told_is n scalar operator expr mask line before cells ts)
    ∙ both_is scalar operator cells (wanted before cells expr mask t)
    (summed (wanted before cells expr mask) ts))

-- ---- all of them joined

-- the state with another value in a scalar
abbrev pub with_total : Whole → ℕ → ℤ → Whole
with_total whole scalar value =
    record whole { scalars = slice_set whole.scalars scalar value }

set_twice : (xs : List ℤ) (k : ℕ) (a b : ℤ) → slice_set (slice_set xs k a) k b ≡ slice_set xs k b
set_twice [] k a b = refl
set_twice (x ∷ xs) zero a b = refl
set_twice (x ∷ xs) (suc k) a b = ap (λ ys. x ∷ ys) (set_twice xs k a b)

-- the values that are there, joined to one
abbrev pub joined_all : Fold → ℤ → List (Option ℤ) → ℤ
joined_all operator own [] = own
joined_all operator own (None ∷ os) = joined_all operator own os
joined_all operator own (Some v ∷ os) = joined_all operator (joined operator own v) os

module _ (whole : Whole) (scalar : ℕ) (operator : Fold)
    (there : (v : ℤ) → slice_get (slice_set whole.scalars scalar v) scalar ≡ Some v) where
  one_written : (t : List ℤ) (own v : ℤ)
      → written t (Joins scalar operator v) (with_total whole scalar own)
      ≡ Some (with_total whole scalar (joined operator own v))
  one_written t own v =
      ap (option_map (λ it. record whole
      { scalars = slice_set (slice_set whole.scalars scalar own) scalar (joined operator it v) }))
      (there own)
      ∙ ap (λ xs. Some (record whole { scalars = xs }))
      (set_twice whole.scalars scalar own (joined operator own v))

  joins_written : (cells : List ℤ) (f : List ℤ → Option ℤ) (ts : List (List ℤ)) (own : ℤ)
      → all_written (columns cells ts) (map (point_join scalar operator cells) (map f ts))
      (with_total whole scalar own)
      ≡ Some (with_total whole scalar (joined_all operator own (map f ts)))
  joins_written cells f [] own = refl
  joins_written cells f (t ∷ ts) own = by (f t) (λ v. joins_written cells f ts v)
    where
      by : (o : Option ℤ) → ((v : ℤ)
          → all_written (columns cells ts) (map (point_join scalar operator cells) (map f ts))
          (with_total whole scalar v)
          ≡ Some (with_total whole scalar (joined_all operator v (map f ts))))
          → option_and_then
          (all_written (columns cells ts) (map (point_join scalar operator cells) (map f ts)))
          (log_written t (point_join scalar operator cells o).log (with_total whole scalar own))
          ≡ Some (with_total whole scalar (joined_all operator own (o ∷ map f ts)))
      by None more = more own
      by (Some v) more =
          ap (option_and_then
          (all_written (columns cells ts) (map (point_join scalar operator cells) (map f ts))))
          (one_written t own v)
          ∙ more (joined operator own v)

-- ---- the values of a fold

-- what is joined is what isn't masked out
joined_kept : (operator : Fold) (is_in : List ℤ → Bool) (value : List ℤ → ℤ) (own : ℤ)
    (ts : List (List ℤ))
    → joined_all operator own (map (λ t. value_put (is_in t) (value t)) ts)
    ≡ fold (joined operator) own (map value (filter is_in ts))
joined_kept operator is_in value own [] = refl
joined_kept operator is_in value own (t ∷ ts) =
    by (is_in t) (λ v. joined_kept operator is_in value v ts)
  where
    by : (b : Bool) → ((v : ℤ) → joined_all operator v (map (λ t. value_put (is_in t) (value t)) ts)
        ≡ fold (joined operator) v (map value (filter is_in ts)))
        → joined_all operator own (value_put b (value t)
        ∷ map (λ t. value_put (is_in t) (value t)) ts)
        ≡ fold (joined operator) own (map value (cond b (t ∷ filter is_in ts) (filter is_in ts)))
    by true more = more (joined operator own (value t))
    by false more = more own

kept_same : (is_in : List ℤ → Bool) (f g : List ℤ → ℤ) (ts : List (List ℤ))
    → Every (λ t. f t ≡ g t) ts → map f (filter is_in ts) ≡ map g (filter is_in ts)
kept_same is_in f g [] h = refl
kept_same is_in f g (t ∷ ts) h = by (is_in t) (kept_same is_in f g ts h.1)
  where
    by : (b : Bool) → map f (filter is_in ts) ≡ map g (filter is_in ts)
        → map f (cond b (t ∷ filter is_in ts) (filter is_in ts))
        ≡ map g (cond b (t ∷ filter is_in ts) (filter is_in ts))
    by true more = ap (λ y. y ∷ map f (filter is_in ts)) h.0 ∙ ap (λ ys. g t ∷ ys) more
    by false more = more

-- ---- the loop

-- A loop over a region joins a field's values at the tuples that aren't masked out to a scalar.
pub record IsJoining (tables : Tables) (whole : Whole) (scalar : ℕ) (operator : Fold)
    (region : Region) (is_in : List ℤ → Bool) (field : Field) (expr : Words) (mask : Option Words)
    (line : ℕ) : Type 0 where
  pub steps : All HasStep region.dims
  pub stands : loop_stands tables whole region (acc_group scalar operator expr mask line) ≡ true
  pub masked : (t : List ℤ) → IsMember region t
      → IsMask (operands_in (acc_group scalar operator expr mask line) whole t) mask (is_in t)
  pub values : (t : List ℤ) → IsMember region t → is_in t ≡ true
      → IsSame (field t) (value_of (operands_in (acc_group scalar operator expr mask line) whole t)
      expr)

-- what it comes to: the total, of which a `fold` is to come
abbrev pub totalled : Whole → ℕ → Fold → Region → (List ℤ → Bool) → ℕ → mean.Computed Array
    → Step Whole
totalled whole scalar operator region is_in line (mean.Gives array) =
    Goes [] (awaiting (with_total whole scalar (reduced operator region is_in (element array)))
    (record { scalar = scalar; operator = operator }))
totalled whole scalar operator region is_in line (mean.Traps kind) = Stops (Ends (Trap kind line))

module _ (tables : Tables) (n : ℕ) (whole : Whole) (scalar : ℕ) (operator : Fold) (region : Region)
    (is_in : List ℤ → Bool) (field : Field) (expr : Words) (mask : Option Words) (line : ℕ)
    (there : (v : ℤ) → slice_get (slice_set whole.scalars scalar v) scalar ≡ Some v) where
  abbrev begun : Whole
  begun = with_total whole scalar (unit_of operator)

  abbrev cells : List ℤ
  cells = replicate (group_cells (acc_group scalar operator expr mask line)) (pos 0)

  abbrev ts : List (List ℤ)
  ts = members region

  abbrev put : List ℤ → flat.Computed (Option ℤ)
  put t = wanted begun cells expr mask t

  abbrev after_joins : Sum → Step Whole
  after_joins sum =
      all_awaiting (record { scalar = scalar; operator = operator } ∷ [])
      (unit_does line (columns cells ts) begun (told_sum scalar operator cells sum)
      (λ columns whole. Goes [] whole))

  loop_tree : all_awaiting (record { scalar = scalar; operator = operator } ∷ [])
      (units_do n (expr ∷ mask_words mask) (join_tree scalar operator mask line ∷ [])
      (columns cells ts) begun)
      ≡ after_joins (summed put ts)
  loop_tree =
      ap (λ told. all_awaiting (record { scalar = scalar; operator = operator } ∷ [])
      (unit_does line (columns cells ts) begun told (λ columns whole. Goes [] whole)))
      (told_is n scalar operator expr mask line begun cells ts)

  looped_join : loop_stands tables begun region (acc_group scalar operator expr mask line) ≡ true
      → looped tables n (acc_group scalar operator expr mask line) begun (Some region)
      ≡ after_joins (summed put ts)
  looped_join stands =
      looped_is mask
      ∙ ap (λ (b : Bool). if b then all_awaiting (record { scalar = scalar; operator = operator } ∷ [])
      (units_do n (expr ∷ mask_words mask) (join_tree scalar operator mask line ∷ [])
      (columns cells ts) begun) else Stops Wrong) stands
      ∙ loop_tree
    where
      looped_is : (m : Option Words)
          → looped tables n (acc_group scalar operator expr m line) begun (Some region)
          ≡ (if loop_stands tables begun region (acc_group scalar operator expr m line)
          then all_awaiting (record { scalar = scalar; operator = operator } ∷ [])
          (units_do n (expr ∷ mask_words m) (join_tree scalar operator m line ∷ [])
          (columns (replicate (group_cells (acc_group scalar operator expr m line)) (pos 0)) ts)
          begun) else Stops Wrong)
      looped_is None = refl
      looped_is (Some m) = refl

  module _ (h : IsJoining tables begun scalar operator region is_in field expr mask line) where
    abbrev value : List ℤ → ℤ
    value t = value_at is_in field put t

    each_put : Every (λ t. IsPut (is_in t) (field t) (put t)) ts
    each_put =
        every_among (λ t. IsPut (is_in t) (field t) (put t)) ts
        (λ t k.
        let m : IsMember region t = (members_iff region t h.steps).0 (Contains-from_among ts t k) in
        one_put begun cells expr mask t (is_in t) (field t) (h.masked t m) (h.values t m))

    total_is : joined_all operator (unit_of operator) (map (new is_in field put) ts)
        ≡ reduced operator region is_in (element (array_of region value))
    total_is =
        joined_kept operator is_in value (unit_of operator) ts
        ∙ ap (fold (joined operator) (unit_of operator))
        (kept_same is_in value (element (array_of region value)) ts
        (every_among (λ t. value t ≡ element (array_of region value) t) ts
        (λ t k. sym (element_of_member region value t h.steps
        ((members_iff region t h.steps).0 (Contains-from_among ts t k))))))

    by_sum : (values : mean.Computed (List ℤ)) (sum : Sum)
        → Sums (map value ts) (map (new is_in field put) ts) values sum
        → after_joins sum
        ≡ totalled whole scalar operator region is_in line
        (computed_then values (λ vs. mean.Gives (record { storage = region; values = vs })))
    by_sum values sum AllSummed =
        ap (λ o. all_awaiting (record { scalar = scalar; operator = operator } ∷ [])
        (from_written o (λ next. Goes [] next)))
        (joins_written whole scalar operator there cells (new is_in field put) ts (unit_of operator))
        ∙ ap (λ (v : ℤ). Goes [] (awaiting (with_total whole scalar v)
        (record { scalar = scalar; operator = operator }))) total_is
    by_sum values sum OneDivides = refl

    pub join_totals : looped tables n (acc_group scalar operator expr mask line) begun (Some region)
        ≡ totalled whole scalar operator region is_in line (array_over region is_in field)
    join_totals =
        looped_join h.stands
        ∙ by_sum (values_at is_in field ts) (summed put ts) (sums is_in field put ts each_put)
