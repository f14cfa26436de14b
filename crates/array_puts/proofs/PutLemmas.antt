-- A loop of one put does what an assignment writes.
use Rattle.std.proofs.Common.{◌≡◌, refl, sym, ◌∙◌, ap, subst, ℕ, Bool, true, false, ◌&&◌}
use Rattle.std.proofs.Common.{List, [], ◌∷◌, map, ℤ, pos, Option, Some, None}
use Rattle.std.specs.Prelude.{if◌then◌else◌, replicate}
use Rattle.std.proofs.Math.Path.{fun_ext}
use Rattle.zpl_nums.specs.declared.ends.TrapKind.TheVariants.{DivideByZero}
use Rattle.zpl_nums.specs.Integer.{is_true}
use Rattle.zpl_region.specs.declared.regions.Region.{Region}
use Rattle.zpl_region.specs.Region.{IsMember, members}
use Rattle.zpl_region.specs.Tests.{is_member}
use Rattle.zpl_region.proofs.LawLemmas.{members_iff}
use Rattle.zpl_region.proofs.ListLemmas.{Contains-from_among}
use Rattle.zpl_region.proofs.TestLemmas.{is_member_iff}
use Rattle.zpl_arrays.specs.Array.{Array, array_of, element}
use Rattle.zpl_arrays.proofs.ArrayLemmas.{element_of_member}
use Rattle.zpl_meaning.specs.Computed as mean
use Rattle.zpl_meaning.specs.Computed.{both_then, computed_then}
use Rattle.zpl_meaning.specs.Fields.{Field, array_over, value_if, values_at}
use Rattle.zpl_meaning.specs.Statement.{written}
use Rattle.row_runs.specs.Run.{Goes, Stops, Wrong}
use Rattle.row_runs.specs.Straight.{Every}
use Rattle.node_form.specs.declared.tables.Tables.{Tables}
use Rattle.node_form.specs.Value as flat
use Rattle.node_form.specs.Value.{mapped, and_then}
use Rattle.normal_runs.specs.of_flat_form.Row.{Words}
use Rattle.normal_runs.specs.of_flat_form.Names.{group_cells}
use Rattle.normal_runs.specs.of_flat_form.Loop.{looped, operands_at, from_written}
use Rattle.normal_runs.specs.of_flat_form.Whole.{Whole}
use Rattle.normal_runs.proofs.PutLemmas.{wanted, value_in, put_if, start_point, Sum, AllGive}
use Rattle.normal_runs.proofs.PutLemmas.{SomeDivides, with_one, summed, after_sum}
use Rattle.normal_runs.proofs.PutLemmas.{put_does, looped_put}
use Rattle.array_puts.specs.Put.{IsSame, BothGive, BothDivide, put_group, IsMask}
use Rattle.array_puts.specs.Put.{IsPutting, with_array_in, assigned}
use Rattle.array_puts.proofs.WriteLemmas.{every_among, puts_store, value_put, all_written}

-- ---- one tuple

-- what is put at a tuple: nothing where it is masked out
pub data IsPut : Bool → mean.Computed ℤ → flat.Computed (Option ℤ) → Type 0 where
  IsOut : {value : mean.Computed ℤ} → IsPut false value (flat.Gives None)
  IsGiven : {value : ℤ} → IsPut true (mean.Gives value) (flat.Gives (Some value))
  IsDivided : IsPut true (mean.Traps DivideByZero) flat.Divides

put_same : (one : mean.Computed ℤ) (other : flat.Computed ℤ) → IsSame one other
    → IsPut true one (mapped (λ v. Some v) other)
put_same one other BothGive = IsGiven
put_same one other BothDivide = IsDivided

put_in : (is : Bool) (one : mean.Computed ℤ) (other : flat.Computed ℤ)
    → (is ≡ true → IsSame one other) → IsPut is one (put_if is other)
put_in true one other same = put_same one other (same refl)
put_in false one other same = IsOut

pub one_put : (whole : Whole) (cells : List ℤ) (expr : Words) (mask : Option Words) (t : List ℤ)
    (is : Bool) (value : mean.Computed ℤ)
    → IsMask (operands_at whole t (start_point cells)) mask is
    → (is ≡ true → IsSame value (value_in whole cells expr t))
    → IsPut is value (wanted whole cells expr mask t)
one_put whole cells expr None t is value masked same =
    subst (λ (b : Bool). IsPut b value (wanted whole cells expr None t)) (sym masked)
    (put_same value (value_in whole cells expr t) (same masked))
one_put whole cells expr (Some mask) t is value (v, e, i) same =
    subst (λ (c : flat.Computed ℤ). IsPut is value
    (and_then (λ v. put_if (is_true v) (value_in whole cells expr t)) c)) (sym e)
    (subst (λ (b : Bool). IsPut is value (put_if b (value_in whole cells expr t))) (sym i)
    (put_in is value (value_in whole cells expr t) same))

-- ---- all tuples

abbrev pub choice : Bool → mean.Computed ℤ → mean.Computed ℤ
choice true value = value
choice false value = mean.Gives (pos 0)

pub chosen : (b : Bool) (field : Field) (t : List ℤ) → value_if b field t ≡ choice b (field t)
chosen true field t = refl
chosen false field t = refl

abbrev pub number_in : mean.Computed ℤ → ℤ
number_in (mean.Gives value) = value
number_in (mean.Traps kind) = pos 0

pub data Sums (values : List ℤ) (os : List (Option ℤ)) : mean.Computed (List ℤ) → Sum → Type 0 where
  AllSummed : Sums values os (mean.Gives values) (AllGive os)
  OneDivides : Sums values os (mean.Traps DivideByZero) SomeDivides

one_more : (b : Bool) (value : mean.Computed ℤ) (put : flat.Computed (Option ℤ))
    (values : List ℤ) (os : List (Option ℤ)) (rest : mean.Computed (List ℤ)) (sum : Sum)
    → IsPut b value put → Sums values os rest sum
    → Sums (number_in (choice b value) ∷ values)
    (value_put b (number_in (choice b value)) ∷ os)
    (both_then (choice b value) rest (λ v vs. mean.Gives (v ∷ vs))) (with_one put sum)
one_more b value put values os rest sum IsOut AllSummed = AllSummed
one_more b value put values os rest sum IsOut OneDivides = OneDivides
one_more b value put values os rest sum IsGiven AllSummed = AllSummed
one_more b value put values os rest sum IsGiven OneDivides = OneDivides
one_more b value put values os rest sum IsDivided AllSummed = OneDivides
one_more b value put values os rest sum IsDivided OneDivides = OneDivides

module _ (is_in : List ℤ → Bool) (field : Field) (put : List ℤ → flat.Computed (Option ℤ)) where
  abbrev pub value_at : List ℤ → ℤ
  value_at t = number_in (choice (is_in t) (field t))

  abbrev pub new : List ℤ → Option ℤ
  new t = value_put (is_in t) (value_at t)

  pub sums : (ts : List (List ℤ)) → Every (λ t. IsPut (is_in t) (field t) (put t)) ts
      → Sums (map value_at ts) (map new ts) (values_at is_in field ts) (summed put ts)
  sums [] h = AllSummed
  sums (t ∷ ts) h =
      subst (λ (c : mean.Computed ℤ). Sums (map value_at (t ∷ ts)) (map new (t ∷ ts))
      (both_then c (values_at is_in field ts) (λ v vs. mean.Gives (v ∷ vs)))
      (with_one (put t) (summed put ts))) (sym (chosen (is_in t) field t))
      (one_more (is_in t) (field t) (put t) (map value_at ts) (map new ts)
      (values_at is_in field ts) (summed put ts) h.0 (sums ts h.1))

-- ---- the loop

module _ (tables : Tables) (n : ℕ) (whole : Whole) (number : ℕ) (array : Array) (region : Region)
    (is_in : List ℤ → Bool) (field : Field) (expr : Words) (mask : Option Words) (line : ℕ)
    (h : IsPutting tables whole number array region is_in field expr mask line) where
  abbrev cells : List ℤ
  cells = replicate (group_cells (put_group number expr mask line)) (pos 0)

  abbrev put : List ℤ → flat.Computed (Option ℤ)
  put t = wanted whole cells expr mask t

  abbrev value : List ℤ → ℤ
  value t = value_at is_in field put t

  abbrev ts : List (List ℤ)
  ts = members region

  each_put : Every (λ t. IsPut (is_in t) (field t) (put t)) ts
  each_put =
      every_among (λ t. IsPut (is_in t) (field t) (put t)) ts
      (λ t k.
      let m : IsMember region t = (members_iff region t h.steps).0 (Contains-from_among ts t k) in
      one_put whole cells expr mask t (is_in t) (field t) (h.masked t m) (h.values t m))

  -- what is read of the values is what was computed
  same_value : (u : List ℤ) (b : Bool) → is_member region u ≡ b
      → (if b && is_in u then value u else element array u)
      ≡ (if b && is_in u then element (array_of region value) u else element array u)
  same_value u false e = refl
  same_value u true e =
      ap (λ (v : ℤ). if is_in u then v else element array u)
      (sym (element_of_member region value u h.steps ((is_member_iff region u h.steps).0 e)))

  same_written : written array region is_in value
      ≡ written array region is_in (element (array_of region value))
  same_written =
      ap (λ (f : List ℤ → ℤ). array_of array.storage f)
      (fun_ext (λ u. same_value u (is_member region u) refl))

  by_sum : (values : mean.Computed (List ℤ)) (sum : Sum)
      → Sums (map value ts) (map (new is_in field put) ts) values sum
      → after_sum number line ts whole sum
      ≡ assigned whole number array region is_in line
      (computed_then values (λ vs. mean.Gives (record { storage = region; values = vs })))
  by_sum values sum AllSummed =
      ap (λ o. from_written o (λ next. Goes [] next))
      (puts_store number array ts (map (new is_in field put) ts) whole h.found
      (every_among (λ t. _) ts (λ t k.
      h.places t ((members_iff region t h.steps).0 (Contains-from_among ts t k)))))
      ∙ ap (λ (a : Array). Goes [] (with_array_in whole number a))
      (all_written array region is_in value h.filled h.steps h.places h.apart ∙ same_written)
  by_sum values sum OneDivides = refl

  pub put_assigns : looped tables n (put_group number expr mask line) whole (Some region)
      ≡ assigned whole number array region is_in line (array_over region is_in field)
  put_assigns =
      looped_put tables n number expr mask line whole region
      ∙ ap (λ (b : Bool). if b then put_does tables n number expr mask line whole region
      else Stops Wrong) h.stands
      ∙ by_sum (values_at is_in field ts) (summed put ts) (sums is_in field put ts each_put)
