-- What the names of a lowered call stand for: arrays of the expanded program with their numbers.
use Rattle.std.proofs.Common.{◌≡◌, ℕ, zero, suc, cond, List, [], ◌∷◌, ◌++◌, length, Option, Some, None, refl, sym, ap, ◌∙◌}
use Rattle.std.specs.Prelude.{slice_get}
use Rattle.std.proofs.lemmas.Option.{slice_get_within}
use Rattle.zpl_region.specs.declared.regions.Region.{Region}
use Rattle.zpl_tree.specs.Grammar.{IsProgram}
use Rattle.zpl_tree.specs.Syntax.{Name, Number, Truth, Coord, Named, Shifted, Around, Remap, Call, Paren, Neg, Not, Abs, Pair, Reduce, Scan, Flood, Program}
use Rattle.zpl_names.specs.Accepted.{IsFaultless}
use Rattle.zpl_names.specs.Kinds.{Kind}
use Rattle.zpl_names.specs.Scope.{kind_in, kind_of}
use Rattle.zpl_names.specs.Declared.{globals_of, scope_of}
use Rattle.zpl_names.specs.Expansion.{ExpandedArray, Instance, array_named, expanded_arrays, global_array, shifted_read}
use Rattle.zpl_names.specs.Sites.{Site, AtWhole, AtExpr, AtCall, AtNamed, AtDir, AtRegion, AtMask, AtStmt, AtBase, AtPosts, AtProcedure}
use Rattle.zpl_binding.specs.Regions.{Known}
use Rattle.zpl_binding.specs.Storages.{borders_of}
use Rattle.zpl_meaning.specs.Context.{Setup}
use Rattle.zpl_meaning.specs.Program.{first_frame, setup_of}
use Rattle.zpl_meaning.specs.Store.{Thing, Scalar, ArrayAt, Fixed, thing_of}
use Rattle.zpl_lowering.specs.Where.{Stored}
use Rattle.zpl_lowering.specs.Program.{Framed, global_numbers}
use Rattle.lowered_flat.specs.of_lowering_fits.Reach.{named_thing}
use Rattle.lowered_flat.proofs.of_lowering_fits.NamedLemmas.{AllBelow, OptBelow}
use Rattle.lowered_flat.specs.Apart.{NamesStandApart}
use Rattle.stored_boxes.specs.of_array_numbers.Calls.{AreStanding, IsCallOf}
use Rattle.stored_boxes.specs.of_array_numbers.Numbering.{Numbering, IsFixedThing, IsGlobal, GlobalScalar, GlobalArray, GlobalOther, IsReached, ReachedScalar, ReachedArray, ReachedOther}
use Rattle.stored_boxes.proofs.of_array_numbers.CallLemmas.{named}
use Rattle.stored_boxes.proofs.of_array_numbers.NumberLemmas.{IsStanding, globals_first, standing, stands_there}
use Rattle.stored_boxes.specs.Declared.{IsDeclared}
use Rattle.stored_boxes.specs.Different.{AreDifferent}
use Rattle.stored_boxes.specs.Reads.{IsNoArray, IsReadAs, ReadArray, ReadNothing, shifts_in}
use Rattle.stored_boxes.proofs.DeclaredLemmas.{all_decls, all_vars}
use Rattle.stored_boxes.proofs.NumberedLemmas.{differs_there, parts_same}
use Rattle.program_boxes.specs.Own.{AreThere, number_in}
use Rattle.program_boxes.proofs.OwnLemmas.{there_both}

-- the number of an array that stands in a list where no two are the same
pub number_is : (all : List ExpandedArray) → AreDifferent all → (i : ℕ) (one : ExpandedArray) →
    slice_get all i ≡ Some one → number_in all one ≡ i
number_is [] different i one found = let no : ⊥ = cc in absurd no
number_is (x ∷ all) different zero one found =
    ap (λ b. cond b 0 (suc (number_in all one)))
    (parts_same x one (ap (λ (a : ExpandedArray). a.path) (same x one found))
    (ap (λ (a : ExpandedArray). a.variable) (same x one found)))
  where
    same : (x y : ExpandedArray) → Some x ≡ Some y → x ≡ y
    same x y e = cc
number_is (x ∷ all) different (suc i) one found =
    ap (λ b. cond b 0 (suc (number_in all one))) (differs_there x all different.0 i one found)
    ∙ ap suc (number_is all different.1 i one found)

fixed_none : (thing : Option Thing) → IsFixedThing thing → IsNoArray thing
fixed_none None is = tt
fixed_none (Some (Scalar place)) is = absurd is
fixed_none (Some (ArrayAt place home)) is = absurd is
fixed_none (Some (Fixed value)) is = tt

-- an array that a name stands for is there
abbrev pub IsThere : List ExpandedArray → Option ExpandedArray → Type 0
IsThere all None = Unit {0}
IsThere all (Some array) = (i : ℕ) × (slice_get all i ≡ Some array)

read_there : (all : List ExpandedArray) (found : Option ExpandedArray) (shift : _) →
    IsThere all found → AreThere all (shifted_read found shift)
read_there all None shift is = tt
read_there all (Some array) shift is = (is, tt)

pub reads_there : (program : Program) (instance : Instance) (all : List ExpandedArray) →
    ((name : Name) → IsThere all (array_named program instance name)) → (sites : List Site) →
    AreThere all (shifts_in program instance sites)
reads_there program instance all names [] = tt
reads_there program instance all names (site ∷ sites) =
    by site (reads_there program instance all names sites)
  where
    by : (site : Site) → AreThere all (shifts_in program instance sites) →
        AreThere all (shifts_in program instance (site ∷ sites))
    by (AtExpr reach rank (Number at value)) later = later
    by (AtExpr reach rank (Truth at value)) later = later
    by (AtExpr reach rank (Coord at k)) later = later
    by (AtExpr reach rank (Named at name)) later = later
    by (AtExpr reach rank (Shifted at name shift)) later =
        there_both all (shifted_read (array_named program instance name) shift)
        (shifts_in program instance sites)
        (read_there all (array_named program instance name) shift (names name)) later
    by (AtExpr reach rank (Around at name shift)) later = later
    by (AtExpr reach rank (Remap at name indices)) later = later
    by (AtExpr reach rank (Call at name actuals)) later = later
    by (AtExpr reach rank (Paren at inside)) later = later
    by (AtExpr reach rank (Neg at operand)) later = later
    by (AtExpr reach rank (Not at operand)) later = later
    by (AtExpr reach rank (Abs at operand)) later = later
    by (AtExpr reach rank (Pair at op left right)) later = later
    by (AtExpr reach rank (Reduce at operator over operand)) later = later
    by (AtExpr reach rank (Scan at operator along operand)) later = later
    by (AtExpr reach rank (Flood at source operand)) later = later
    by (AtWhole reach role one) later = later
    by (AtCall reach place name actuals) later = later
    by (AtNamed reach name) later = later
    by (AtDir reach dir) later = later
    by (AtRegion reach hint region) later = later
    by (AtMask reach prefix mask) later = later
    by (AtStmt reach at prefixes form) later = later
    by (AtBase base) later = later
    by (AtPosts reach region posts) later = later
    by (AtProcedure procedure) later = later

module _ (program : Program) (known : Known) (grammar : IsProgram program)
    (clean : IsFaultless program) (apart : NamesStandApart program)
    (different : AreDifferent (expanded_arrays program)) where
  abbrev setup : Setup
  setup = setup_of program known (borders_of program)
      (first_frame program known (borders_of program))

  abbrev Sound : ℕ → Region → Region → Type 0
  Sound at home storage = IsDeclared program known at home storage

  abbrev all : List ExpandedArray
  all = expanded_arrays program

  -- a call whose body is lowered behind so many arrays, all standing among those of the program
  pub record IsPlaced (instance : Instance) (framed : Framed) (arrays : ℕ) : Type 0 where
    pub is : IsCallOf program known (borders_of program) instance framed arrays
    pub stand : (let frame = first_frame program known (borders_of program) in
        AreStanding (expanded_arrays program) (setup_of program known (borders_of program) frame)
        (global_numbers frame) (length frame.store.arrays) instance framed arrays is)

  pub stands : (instance : Instance) (framed : Framed) (arrays : ℕ) →
      IsCallOf program known (borders_of program) instance framed arrays →
      IsStanding Sound setup instance framed arrays
  stands instance framed arrays is =
      standing Sound setup grammar clean refl (all_decls program known apart)
      (all_vars program known apart) instance framed arrays is

  abbrev pub numbering : (ℕ → ExpandedArray) → Framed → ℕ → Numbering
  numbering of framed arrays =
      record { arrays = framed.numbers.arrays; of = of; bound = arrays }

  module _ (instance : Instance) (framed : Framed) (arrays : ℕ)
      (placed : IsPlaced instance framed arrays) where
    abbrev thing : Name → Option Thing
    thing name = thing_of (record { names = framed.names ++ setup.globals }) name.text

    -- what a name stands for is what stands at its number
    abbrev Stands : Option Thing → Option ExpandedArray → Type 0
    Stands t a =
        (place : ℕ) (home : Region) (stored : Stored) → t ≡ Some (ArrayAt place home) →
        slice_get framed.numbers.arrays place ≡ Some stored → a ≡ slice_get all stored.array

    name_stands : (name : Name) → Stands (thing name) (array_named program instance name)
    name_stands name place home stored is has =
        stands_there Sound setup grammar clean refl (all_decls program known apart)
        (all_vars program known apart) all (globals_first program) instance framed arrays placed.is
        placed.stand name place home stored is has

    pub reached : (name : Name) →
        IsReached Sound (numbering (stands instance framed arrays placed.is).of framed arrays)
        (kind_of (scope_of program instance.routine) name) (thing name)
        (array_named program instance name)
    reached name =
        let one = stands instance framed arrays placed.is in
        named Sound program instance (numbering one.of framed arrays) framed.names setup.globals
        one.names name

    pub read_as : (name : Name) →
        IsReadAs program known (number_in all) framed.numbers (thing name)
        (array_named program instance name)
    read_as name =
        by (stands instance framed arrays placed.is).of
        (kind_of (scope_of program instance.routine) name) (thing name)
        (array_named program instance name) (reached name) (name_stands name)
      where
        by : (of : ℕ → ExpandedArray) (k : Option Kind) (t : Option Thing)
            (a : Option ExpandedArray) → IsReached Sound (numbering of framed arrays) k t a →
            Stands t a → IsReadAs program known (number_in all) framed.numbers t a
        by of k t a (ReachedScalar base place) there = ReadNothing (Some (Scalar place)) tt
        by of k t a (ReachedArray base shape place home array is) there =
            ReadArray place home is.stored array is.there
            (sym (number_is all different is.stored.array array
            (sym (there place home is.stored refl is.there)))) is.sound
        by of k t a (ReachedOther one other fixed still) there =
            ReadNothing other (fixed_none other still)

    pub name_there : (name : Name) → IsThere all (array_named program instance name)
    name_there name =
        by (stands instance framed arrays placed.is).of
        (kind_of (scope_of program instance.routine) name) (thing name)
        (array_named program instance name) (reached name) (name_stands name)
      where
        by : (of : ℕ → ExpandedArray) (k : Option Kind) (t : Option Thing)
            (a : Option ExpandedArray) → IsReached Sound (numbering of framed arrays) k t a →
            Stands t a → IsThere all a
        by of k t a (ReachedScalar base place) there = tt
        by of k t a (ReachedArray base shape place home array is) there =
            (is.stored.array, sym (there place home is.stored refl is.there))
        by of k t a (ReachedOther one other fixed still) there = tt

    fixed_below : (thing : Option Thing) → IsFixedThing thing →
        OptBelow (length framed.numbers.arrays) thing
    fixed_below None is = tt
    fixed_below (Some (Scalar place)) is = absurd is
    fixed_below (Some (ArrayAt place home)) is = absurd is
    fixed_below (Some (Fixed value)) is = tt

    -- all places are there
    pub names_below : AllBelow (length framed.numbers.arrays)
        (record { names = framed.names ++ setup.globals })
    names_below text =
        let name : Name = record { text = text; at = 0 } in
        by (stands instance framed arrays placed.is).of
        (kind_of (scope_of program instance.routine) name) (thing name)
        (array_named program instance name) (reached name)
      where
        by : (of : ℕ → ExpandedArray) (k : Option Kind) (t : Option Thing)
            (a : Option ExpandedArray) → IsReached Sound (numbering of framed arrays) k t a →
            OptBelow (length framed.numbers.arrays) t
        by of k t a (ReachedScalar base place) = tt
        by of k t a (ReachedArray base shape place home array is) =
            slice_get_within framed.numbers.arrays place is.stored is.there
        by of k t a (ReachedOther one other fixed still) = fixed_below other still

    pub globals_below : AllBelow (length framed.numbers.arrays) (record { names = setup.globals })
    globals_below text =
        let one = stands instance framed arrays placed.is in
        by one.of (kind_in (globals_of program) text) (named_thing setup.globals text)
        (global_array program text) (one.names.global text)
      where
        by : (of : ℕ → ExpandedArray) (k : Option Kind) (t : Option Thing)
            (a : Option ExpandedArray) → IsGlobal Sound (numbering of framed arrays) k t a →
            OptBelow (length framed.numbers.arrays) t
        by of k t a (GlobalScalar base place array) = tt
        by of k t a (GlobalArray base shape place home array is) =
            slice_get_within framed.numbers.arrays place is.stored is.there
        by of k t a (GlobalOther one other array fixed still) = fixed_below other still
