-- Values of what has operators over regions are integers of 64 bits.
use Rattle.std.proofs.Common.{◌≡◌, refl, subst, ℕ, Bool, List, [], ◌∷◌, map, filter, ℤ}
use Rattle.std.specs.Prelude.{fold}
use Rattle.zpl_nums.specs.declared.folds.Fold.TheVariants.{Any}
use Rattle.zpl_nums.specs.Fold.{joined, unit_of}
use Rattle.zpl_nums.specs.Integer.{IsInteger}
use Rattle.zpl_nums.proofs.IntegerLemmas.{IsInteger-truth}
use Rattle.zpl_region.specs.declared.regions.Region.{Region}
use Rattle.zpl_arrays.specs.Fold.{kept_fold}
use Rattle.zpl_meaning.specs.Computed as mean
use Rattle.zpl_meaning.specs.Computed.{both_then}
use Rattle.zpl_meaning.specs.Store.{Store, scalar_at}
use Rattle.zpl_meaning.specs.Term.{Term, Terms}
use Rattle.zpl_meaning.specs.Fields.{Field, field_of, fields_of}
use Rattle.print_runs.specs.of_zpl_lowering.Where.{Where}
use Rattle.print_runs.specs.of_zpl_lowering.Slate.{Slate, Slates}
use Rattle.row_runs.specs.Straight.{Every}
use Rattle.print_runs.specs.of_lowering_runs.Seen.{Spot, place_of}
use Rattle.print_runs.specs.of_array_runs.Integers.{AreIntegers, GivesIntegers, HasIntegers}
use Rattle.print_runs.proofs.of_array_runs.IntegerLemmas.{IfGives, term_integers, unit_integer}
use Rattle.operator_runs.specs.Meant.{Site, Under, IsMeant, IsSite, AreMeantAt, NoneAt, MoreAt}
use Rattle.operator_runs.specs.Meant.{ConstantMeant, VariableMeant, CoordinateMeant, ElementMeant, WrappedMeant}
use Rattle.operator_runs.specs.Meant.{UnaryMeant, BinaryMeant, FoldedMeant, PartFoldedMeant, ScannedMeant, FloodedMeant, RemappedMeant}

any_from : (values : List ℤ) (own : ℤ) → IsInteger own → IsInteger (fold (joined Any) own values)
any_from [] own is = is
any_from (value ∷ values) own is = any_from values (joined Any own value) (IsInteger-truth _)

-- whether any of them is true, whatever they are
pub any_integer : (is_in : List ℤ → Bool) (value : List ℤ → ℤ) (ts : List (List ℤ))
    → IsInteger (kept_fold Any is_in value ts)
any_integer is_in value ts =
    any_from (map value (filter is_in ts)) (unit_of Any) (unit_integer Any)

module _ (w : Where) (spots : List Spot) (slots : List Region) (store : Store)
    (scalars : (place : ℕ) → IsInteger (scalar_at store (place_of spots place)))
    (arrays : HasIntegers store) where
  pub meant_integers : (site : Site) (one : Slate) (meant : Term)
      → IsMeant w spots slots site one meant → IsSite slots site → AreIntegers store meant
  meant_integers site _ _ (ConstantMeant is) i = is
  meant_integers site _ _ (VariableMeant {place = place}) i = scalars place
  meant_integers _ _ _ (CoordinateMeant lt) i = tt
  meant_integers _ _ _ (ElementMeant r) i = tt
  meant_integers _ _ _ (WrappedMeant in_numbers is ranks covers) i = tt
  meant_integers site _ _ (UnaryMeant {one = one} {operand = operand} m) i =
      meant_integers site one operand m i
  meant_integers site _ _ (BinaryMeant {one = one} {other = other} {left = left} {right = right} m k) i =
      (meant_integers site one left m i, meant_integers site other right k i)
  meant_integers site _ _ (FoldedMeant {over = over} {region = region} {one = one}
      {operand = operand} j readable flat m) i =
      (j.is, meant_integers (Under over region) one operand m j)
  meant_integers _ _ _ (PartFoldedMeant {source = source} {tuples = tuples} {one = one}
      {operand = operand} j readable flat m) i =
      (j.is, meant_integers (Under source tuples) one operand m j)
  meant_integers _ _ _ (ScannedMeant {over = over} {region = region} {one = one} {operand = operand}
      readable is_along flat m) i =
      (i.is, meant_integers (Under over region) one operand m i)
  meant_integers _ _ _ (FloodedMeant {source = source} {tuples = tuples} {one = one}
      {operand = operand} j readable m) i =
      (j.is, meant_integers (Under source tuples) one operand m j)
  meant_integers _ _ _ (RemappedMeant in_numbers is count readable flat m) i = tt

  pub field_integers : (site : Site) (one : Slate) (meant : Term)
      → IsMeant w spots slots site one meant → IsSite slots site → IfGives (field_of store meant)
  field_integers site one meant m i =
      term_integers store arrays meant (meant_integers site one meant m i)

  -- of several, each at its site
  pub fields_integers : (sites : List Site) (slates : Slates) (terms : Terms)
      → AreMeantAt w spots slots sites slates terms → Every (IsSite slots) sites
      → (fields : List Field) → fields_of store terms ≡ mean.Gives fields
      → Every GivesIntegers fields
  fields_integers _ _ _ NoneAt i fields e =
      let same : [] ≡ fields = cc in subst (λ (fs : List Field). Every GivesIntegers fs) same tt
  fields_integers _ _ _ (MoreAt {site = site} {sites = sites} {one = one} {rest = rest} {first = first}
      {terms = terms} h k) i fields e =
      by (field_of store first) (fields_of store terms) (field_integers site one first h i.0)
      (fields_integers sites rest terms k i.1) e
    where
      by : (c : mean.Computed Field) (d : mean.Computed (List Field)) → IfGives c
          → ((others : List Field) → d ≡ mean.Gives others → Every GivesIntegers others)
          → both_then c d (λ field fields. mean.Gives (field ∷ fields)) ≡ mean.Gives fields
          → Every GivesIntegers fields
      by (mean.Gives f) (mean.Gives fs) a b e =
          let same : f ∷ fs ≡ fields = cc in
          subst (λ (all : List Field). Every GivesIntegers all) same (a f refl, b fs refl)
      by (mean.Gives f) (mean.Traps kind) a b e = absurd (let no : ⊥ = cc in no)
      by (mean.Traps kind) d a b e = absurd (let no : ⊥ = cc in no)
