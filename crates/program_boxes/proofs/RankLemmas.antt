-- Reads with a shift have vectors of the ranks of what they read, which are those of its storage and
-- its home box.
use Rattle.std.proofs.Common.{◌≡◌, ℕ, zero, suc, Bool, true, false, inl, inr, List, [], ◌∷◌, ◌++◌, map, length, Option, Some, None, option_map, refl, sym, ap, ap₂, ◌∙◌, subst, arith, drop}
use Rattle.std.specs.Prelude.{ℤ, pos, Contains, slice_get}
use Rattle.std.specs.List.{AllByRecursion, flat_map}
use Rattle.std.specs.Option.{IsSomeAnd, is_some, option_or}
use Rattle.std.proofs.lemmas.List.Elements.{recursion_from_All}
use Rattle.zpl_region.specs.declared.regions.Region.{Region}
use Rattle.zpl_tree.specs.Grammar.{IsProgram}
use Rattle.zpl_tree.specs.Syntax.{Name, Number, Truth, Coord, Named, Shifted, Around, Remap, Call, Paren, Neg, Not, Abs, Pair, Reduce, Scan, Flood, Exprs, Dir, NamedDir, Vector, Param, Program}
use Rattle.zpl_names.specs.Accepted.{HasNoFault, IsFaultless}
use Rattle.zpl_names.specs.Kinds as kind
use Rattle.zpl_names.specs.Kinds.{Kind, Rank, Shape, Signature}
use Rattle.zpl_names.specs.Ranks.{IsKnownKind, array_rank, array_shape, at_most_three, dir_rank, direction_rank, exprs_count, ranks_clash}
use Rattle.zpl_names.specs.Scope.{Scope, in_reach, is_array, is_direction, kind_in, kind_of}
use Rattle.zpl_names.specs.Shapes.{unknown_shapes, variable_kind}
use Rattle.zpl_names.specs.Declared.{IsProcedureOf, Routine, entry_for, globals_of, head_scope, own_entries, routines_of, scope_of}
use Rattle.zpl_names.specs.Expansion.{ExpandedArray, Instance, ShiftedRead, array_named, formal_names, shifted_read}
use Rattle.zpl_names.specs.Sites.{Reach, Site, AtWhole, AtExpr, AtCall, AtNamed, AtDir, AtRegion, AtMask, AtStmt, AtBase, AtPosts, AtProcedure, dir_sites, routine_sites}
use Rattle.zpl_names.proofs.DeclaredLemmas.{known_scope}
use Rattle.zpl_names.proofs.FaultlessLemmas.{clean-routine}
use Rattle.zpl_names.proofs.ListLemmas.{Among, Contains-from_among}
use Rattle.zpl_names.proofs.NameLemmas.{no_place}
use Rattle.zpl_binding.specs.Bound.{vectors_in}
use Rattle.zpl_binding.specs.Settings.{Setting}
use Rattle.zpl_binding.specs.Declarations.{known_of}
use Rattle.zpl_binding.specs.Outcome.{Outcome, Gives, outcome_of, value_or}
use Rattle.zpl_binding.specs.Regions.{Known}
use Rattle.zpl_binding.specs.Vectors.{dir_of, three_components, vector_of}
use Rattle.zpl_meaning.specs.Context.{Setup}
use Rattle.zpl_meaning.specs.Given.{IsGiven}
use Rattle.zpl_meaning.specs.Proper.{IsArrayRank}
use Rattle.zpl_meaning.specs.Regions.{vector_in}
use Rattle.zpl_meaning.specs.Store.{ArrayAt, Thing, thing_of}
use Rattle.zpl_meaning.specs.Visited.{first_setup}
use Rattle.zpl_meaning.proofs.DepthLemmas.{Each}
use Rattle.zpl_meaning.proofs.ProperLemmas.{taken}
use Rattle.meaning_ranks.proofs.RankLemmas.{zero_or_same}
use Rattle.meaning_runs.proofs.SiteLemmas as text
use Rattle.node_form.specs.Fits.{IsRank}
use Rattle.zpl_lowering.specs.Program.{Entry as CallEntry, Framed}
use Rattle.zpl_lowering.specs.Statement.{Calling}
use Rattle.zpl_lowering.specs.Where.{Next, Stored}
use Rattle.lowered_flat.specs.of_lowering_fits.Declarations.{FitsProgram}
use Rattle.lowered_flat.specs.of_lowering_fits.Reach.{AreGlobals, FitNames, FitsName, IsStoredAs}
use Rattle.lowered_flat.specs.of_lowering_fits.Slates.{FitsVector}
use Rattle.lowered_flat.specs.of_lowering_fits.Whole.{body_frames, given_frames}
use Rattle.lowered_flat.proofs.of_lowering_fits.CallsFitLemmas.{globals_grow}
use Rattle.lowered_flat.proofs.of_lowering_fits.KeptLemmas.{AreGivenOf, AreKept, HasKept, Nothing, formals_kept, grows_none, locals_kept}
use Rattle.lowered_flat.proofs.of_lowering_fits.ReachLemmas.{FewScalars, names_fit, scalars_few}
use Rattle.stored_boxes.specs.Declared.{declared_storage}
use Rattle.stored_boxes.specs.Reads.{IsReadAs, ReadArray, ReadNothing, copies_in, shifts_in}
use Rattle.program_boxes.specs.Fair.{AreFair, AreFairCopies, HasRank, IsFairCopy}
use Rattle.program_boxes.proofs.SiteLemmas.{IsIn, Told, sites_told}
use Rattle.program_boxes.proofs.KnownLemmas.{OptKnown, few_parts, kind_known as entries_known}

-- ---- names in reach

array_kind : (constants : Bool) (found : Option Kind) →
    is_array (in_reach constants found) ≡ true → in_reach constants found ≡ found
array_kind false found is = refl
array_kind true None is = refl
array_kind true (Some (kind.Config base)) is = refl
array_kind true (Some (kind.Constant base)) is = refl
array_kind true (Some (kind.Region shape)) is = refl
array_kind true (Some (kind.Direction rank)) is = refl
array_kind true (Some (kind.Scalar base)) is = let no : ⊥ = cc in absurd no
array_kind true (Some (kind.Array base shape)) is = let no : ⊥ = cc in absurd no
array_kind true (Some (kind.Procedure signature)) is = refl

direction_kind : (constants : Bool) (found : Option Kind) →
    is_direction (in_reach constants found) ≡ true → in_reach constants found ≡ found
direction_kind false found is = refl
direction_kind true None is = refl
direction_kind true (Some (kind.Config base)) is = refl
direction_kind true (Some (kind.Constant base)) is = refl
direction_kind true (Some (kind.Region shape)) is = refl
direction_kind true (Some (kind.Direction rank)) is = refl
direction_kind true (Some (kind.Scalar base)) is = let no : ⊥ = cc in absurd no
direction_kind true (Some (kind.Array base shape)) is = let no : ⊥ = cc in absurd no
direction_kind true (Some (kind.Procedure signature)) is = refl

some_there : {A : Type 0} (found : Option A) → is_some found ≡ true →
    (x : A) × (found ≡ Some x)
some_there None is = let no : ⊥ = cc in absurd no
some_there (Some x) is = (x, refl)

direction_ranked : (found : Option Kind) → OptKnown found → is_direction found ≡ true →
    (rank : ℕ) × (direction_rank found ≡ Some rank)
direction_ranked None known is = let no : ⊥ = cc in absurd no
direction_ranked (Some (kind.Config base)) known is = let no : ⊥ = cc in absurd no
direction_ranked (Some (kind.Constant base)) known is = let no : ⊥ = cc in absurd no
direction_ranked (Some (kind.Region shape)) known is = let no : ⊥ = cc in absurd no
direction_ranked (Some (kind.Direction rank)) known is = some_there rank known
direction_ranked (Some (kind.Scalar base)) known is = let no : ⊥ = cc in absurd no
direction_ranked (Some (kind.Array base shape)) known is = let no : ⊥ = cc in absurd no
direction_ranked (Some (kind.Procedure signature)) known is = let no : ⊥ = cc in absurd no

above_zero : (rank : ℕ) → IsRank rank → IsArrayRank (Some rank)
above_zero zero is = let no : ⊥ = omega (arith, is.0) in absurd no
above_zero (suc zero) is = tt
above_zero (suc (suc zero)) is = tt
above_zero (suc (suc (suc zero))) is = tt
above_zero (suc (suc (suc (suc rank)))) is = let no : ⊥ = omega (arith, is.1) in absurd no

-- components that are 0 are 0 past any rank
zero_past : (rank : ℕ) (v : List ℤ) → AllByRecursion (λ part. part ≡ pos 0) v →
    AllByRecursion (λ part. part ≡ pos 0) (drop rank v)
zero_past zero v are = are
zero_past (suc rank) [] are = tt
zero_past (suc rank) (d ∷ v) are = zero_past rank v are.1

has_rank : (rank : ℕ) (v : List ℤ) → FitsVector rank v → HasRank rank v
has_rank rank v fits =
    (fits.1, recursion_from_All (λ part. part ≡ pos 0) (drop rank v) fits.0.1)

given_is : (outcome : Outcome (List ℤ)) → IsGiven (List ℤ) outcome →
    outcome ≡ Gives (value_or (three_components []) outcome)
given_is outcome is =
    is.given ∙ ap (λ one. Gives (value_or (three_components []) one)) (sym is.given)

module _ (program : Program) (settings : List Setting) (grammar : IsProgram program)
    (clean : IsFaultless program) (declared : FitsProgram program settings)
    (dirs : (routine : Routine) → Among (routines_of program) routine → (rank : ℕ) (dir : Dir) →
    dir_rank (scope_of program routine) dir ≡ Some rank →
    FitsVector rank (vector_in (known_of program settings) dir))
    (named : (text : List ℕ) → IsGiven (List ℤ)
    (outcome_of (three_components []) (known_of program settings).directions text))
    (vectors : (parts : Exprs) → Contains (vectors_in program) parts →
    IsGiven (List ℤ) (vector_of (known_of program settings).values parts)) where
  abbrev known : Known
  known = known_of program settings

  abbrev setup : Setup
  setup = first_setup program settings

  -- ---- names of a call have the ranks of their storages

  pub record AreSized (routine : Routine) (framed : Framed) : Type 0 where
    pub names : FitNames (scope_of program routine)
        (record { names = framed.names ++ setup.globals }) framed.numbers
    pub few : FewScalars (record { names = framed.names ++ setup.globals }) framed.numbers
    pub globals : AreGlobals program framed.numbers setup.globals

  pub body_sized : (routine : Routine) → Among (routines_of program) routine →
      (signature : Signature) → IsProcedureOf signature routine → (entry : CallEntry)
      (calling : Calling) (next : Next) →
      AreGivenOf calling.numbers signature.formals calling.actuals →
      AreGlobals program calling.numbers setup.globals →
      AreSized routine (body_frames setup entry routine calling next).frame
  body_sized routine member signature of entry calling next givens globals =
      let few = calling.numbers in
      let params = routine.procedure.params in
      let scope = head_scope of.earlier routine.procedure in
      let first : Framed = record { names = []; numbers = few } in
      let given = given_frames entry.line (formal_names params) calling.actuals first next in
      let frame = (body_frames setup entry routine calling next).frame in
      let has : HasKept few (own_entries of.earlier routine.procedure) frame =
      locals_kept few setup entry scope routine.procedure.locals
      (declared.locals routine (Contains-from_among (routines_of program) routine member)
      of.earlier of.own) given.frame given.next
      (flat_map (λ (param : Param). map
      (entry_for (variable_kind scope param.shape param.base)) param.names) params)
      (formals_kept few entry.line params scope first next [] calling.actuals
      (subst (λ (s : Signature). AreGivenOf few s.formals calling.actuals) of.signed givens)
      (record { grows = grows_none few; kept = Nothing })) in
      let own : AreKept frame.numbers routine.own frame.names =
      subst (λ entries. AreKept frame.numbers entries frame.names) (sym of.own) has.kept in
      let others = globals_grow program few frame.numbers has.grows setup.globals globals in
      record {
        names = names_fit program routine frame.numbers frame.names setup.globals own others;
        few = scalars_few program routine frame.numbers frame.names setup.globals own others;
        globals = others;
      }

  -- ---- reads

  abbrev RightRead : Option ExpandedArray → Dir → Type 0
  RightRead None shift = Unit {0}
  RightRead (Some array) shift =
      HasRank (declared_storage program known array.storage).rank (vector_in known shift)
      × IsFairCopy program known (record { array = array; shift = shift })

  module _ (one : Instance) (framed : Framed) (member : Among (routines_of program) one.routine)
      (number : ExpandedArray → ℕ)
      (reads : (name : Name) → IsReadAs program known number framed.numbers
      (thing_of (record { names = framed.names ++ setup.globals }) name.text)
      (array_named program one name))
      (sized : AreSized one.routine framed) where
    abbrev scope : Scope
    scope = scope_of program one.routine

    abbrev Fine : Site → Type 0
    Fine site = HasNoFault site × text.Told program one.routine site

    abbrev In : Reach → Type 0
    In reach = IsIn program one.routine reach

    kind_here : (reach : Reach) → In reach → (name : Name) →
        kind_of reach.scope name ≡ in_reach reach.scope.constants (kind_of scope name)
    kind_here reach k name =
        ap₂ (λ own globals. in_reach reach.scope.constants
        (option_or (kind_in own name.text) (kind_in globals name.text))) k.own k.globals

    array_here : (reach : Reach) → In reach → (name : Name) →
        is_array (kind_of reach.scope name) ≡ true → kind_of reach.scope name ≡ kind_of scope name
    array_here reach k name is =
        let same = kind_here reach k name in
        same ∙ array_kind reach.scope.constants (kind_of scope name) (ap is_array (sym same) ∙ is)

    direction_here : (reach : Reach) → In reach → (name : Name) →
        is_direction (kind_of reach.scope name) ≡ true →
        kind_of reach.scope name ≡ kind_of scope name
    direction_here reach k name is =
        let same = kind_here reach k name in
        same
        ∙ direction_kind reach.scope.constants (kind_of scope name)
        (ap is_direction (sym same) ∙ is)

    kind_known : (name : Name) → OptKnown (kind_of scope name)
    kind_known name =
        let are = known_scope program clean one.routine
        (Contains-from_among (routines_of program) one.routine member) in
        entries_known scope name
        (recursion_from_All (λ entry. IsKnownKind entry.kind) one.routine.own are.own)
        (recursion_from_All (λ entry. IsKnownKind entry.kind) (globals_of program) are.globals)

    -- a vector has a rank, and a value
    record IsRightDir (reach : Reach) (dir : Dir) : Type 0 where
      rank : ℕ
      is : dir_rank scope dir ≡ Some rank
      here : dir_rank reach.scope dir ≡ Some rank
      value : dir_of known.values known.directions dir ≡ Gives (vector_in known dir)

    right_dir : (reach : Reach) → In reach → (dir : Dir) → Each Fine (dir_sites reach dir) →
        IsRightDir reach dir
    right_dir reach k (NamedDir name) fine =
        let is = taken reach is_direction name fine.0.0.known in
        let same = direction_here reach k name is in
        let ranked = direction_ranked (kind_of scope name) (kind_known name)
        (ap is_direction (sym same) ∙ is) in
        record {
          rank = ranked.0;
          is = ranked.1;
          here = ap direction_rank same ∙ ranked.1;
          value = given_is (outcome_of (three_components []) known.directions name.text)
              (named name.text);
        }
    right_dir reach k (Vector parts) fine =
        let ranked = some_there (at_most_three (exprs_count parts))
        (few_parts parts fine.0.0.ranks) in
        record {
          rank = ranked.0;
          is = ranked.1;
          here = ranked.1;
          value = given_is (vector_of known.values parts) (vectors parts fine.0.1);
        }

    stored_rank : (shape : Option Shape) (found : Option Stored) (stored : Stored) →
        found ≡ Some stored → IsSomeAnd found (IsStoredAs shape) →
        option_map length shape ≡ Some stored.storage.rank
    stored_rank shape None stored same is = absurd is
    stored_rank shape (Some other) stored same is =
        let alike : other ≡ stored = cc in
        is.rank ∙ ap (λ (s : Stored). Some s.storage.rank) alike

    some_rank : (a b : ℕ) → Some a ≡ Some b → a ≡ b
    some_rank a b e = cc

    -- an array's rank, and that of a vector that it is read with
    ranked_as : (rank other : ℕ) (v : List ℤ) → IsRank rank →
        ranks_clash (Some rank) (Some other) ≡ false → FitsVector other v → HasRank rank v
    ranked_as rank other v is clash fits =
        elim (zero_or_same (Some rank) (Some other) (above_zero rank is) refl clash) [
          | inl none ↦ (
            fits.1,
            zero_past rank v
                (subst (λ n. HasRank n v) (some_rank other 0 none) (has_rank other v fits)).1,
          )
          | inr same ↦ subst (λ n. HasRank n v) (some_rank other rank same) (has_rank other v fits)
        ]

    right_read : (reach : Reach) → In reach → (name : Name) (shift : Dir) →
        is_array (kind_of reach.scope name) ≡ true →
        ranks_clash (array_rank (kind_of reach.scope name)) (dir_rank reach.scope shift) ≡ false →
        Each Fine (dir_sites reach shift) → RightRead (array_named program one name) shift
    right_read reach k name shift is clash fine =
        by (thing_of (record { names = framed.names ++ setup.globals }) name.text)
        (array_named program one name) (reads name)
        (λ place home there. sized.names name place home there)
      where
        dir : IsRightDir reach shift
        dir = right_dir reach k shift fine

        vector : FitsVector dir.rank (vector_in known shift)
        vector = dirs one.routine member dir.rank shift dir.is

        own : Option Shape
        own = array_shape (kind_of scope name)

        clear : (rank : ℕ) → option_map length own ≡ Some rank →
            ranks_clash (Some rank) (Some dir.rank) ≡ false
        clear rank same =
            ap₂ ranks_clash
            (sym (ap array_rank (array_here reach k name is) ∙ same)) (sym dir.here)
            ∙ clash

        by : (thing : Option Thing) (found : Option ExpandedArray) →
            IsReadAs program known number framed.numbers thing found →
            ((place : ℕ) (home : Region) → thing ≡ Some (ArrayAt place home) →
            FitsName framed.numbers own place home) → RightRead found shift
        by thing found (ReadNothing other none) fits = tt
        by thing found (ReadArray place home stored array there numbered kept) fits =
            let fit = fits place home refl in
            let same = stored_rank own (slice_get framed.numbers.arrays place) stored there fit.has
            in
            let rank : IsRank home.rank = fit.box.0.rank in
            let alike : home.rank ≡ stored.storage.rank =
            some_rank home.rank stored.storage.rank (sym fit.same ∙ same) in
            let at_home : HasRank home.rank (vector_in known shift) =
            ranked_as home.rank dir.rank (vector_in known shift) rank (clear home.rank fit.same)
            vector in (
              subst (λ n. HasRank n (vector_in known shift))
                  (alike ∙ ap (λ (region : Region). region.rank) kept.1) at_home,
              record {
                three = subst (λ (region : Region). length region.dims ≡ 3) kept.0 fit.box.1;
                vector = subst (λ (region : Region). HasRank region.rank (vector_in known shift))
                    kept.0 at_home;
                given = dir.value;
              },
            )

    fair_read : (found : Option ExpandedArray) (shift : Dir) → RightRead found shift →
        AreFair program known (shifted_read found shift)
    fair_read None shift is = tt
    fair_read (Some array) shift is = (is.0, tt)

    fair_copy : (found : Option ExpandedArray) (shift : Dir) → RightRead found shift →
        AreFairCopies program known (shifted_read found shift)
    fair_copy None shift is = tt
    fair_copy (Some array) shift is = (is.1, tt)

    fair_both : (xs ys : List ShiftedRead) → AreFair program known xs → AreFair program known ys →
        AreFair program known (xs ++ ys)
    fair_both [] ys first rest = rest
    fair_both (x ∷ xs) ys first rest = (first.0, fair_both xs ys first.1 rest)

    copies_both : (xs ys : List ShiftedRead) → AreFairCopies program known xs →
        AreFairCopies program known ys → AreFairCopies program known (xs ++ ys)
    copies_both [] ys first rest = rest
    copies_both (x ∷ xs) ys first rest = (first.0, copies_both xs ys first.1 rest)

    abbrev Good : Site → Type 0
    Good site = HasNoFault site × Told program one.routine Fine site

    shifts_fair : (sites : List Site) → Each Good sites →
        AreFair program known (shifts_in program one sites)
    shifts_fair [] good = tt
    shifts_fair (site ∷ sites) good = by site good.0 (shifts_fair sites good.1)
      where
        by : (site : Site) → Good site → AreFair program known (shifts_in program one sites) →
            AreFair program known (shifts_in program one (site ∷ sites))
        by (AtExpr reach rank (Number at value)) good later = later
        by (AtExpr reach rank (Truth at value)) good later = later
        by (AtExpr reach rank (Coord at k)) good later = later
        by (AtExpr reach rank (Named at name)) good later = later
        by (AtExpr reach rank (Shifted at name shift)) good later =
            fair_both (shifted_read (array_named program one name) shift)
            (shifts_in program one sites)
            (fair_read (array_named program one name) shift
            (right_read reach good.1.0 name shift (taken reach is_array name good.0.known)
            (no_place (ranks_clash (array_rank (kind_of reach.scope name))
            (dir_rank reach.scope shift)) _ good.0.ranks) good.1.1)) later
        by (AtExpr reach rank (Around at name shift)) good later = later
        by (AtExpr reach rank (Remap at name indices)) good later = later
        by (AtExpr reach rank (Call at name actuals)) good later = later
        by (AtExpr reach rank (Paren at inside)) good later = later
        by (AtExpr reach rank (Neg at operand)) good later = later
        by (AtExpr reach rank (Not at operand)) good later = later
        by (AtExpr reach rank (Abs at operand)) good later = later
        by (AtExpr reach rank (Pair at op left right)) good later = later
        by (AtExpr reach rank (Reduce at operator over operand)) good later = later
        by (AtExpr reach rank (Scan at operator along operand)) good later = later
        by (AtExpr reach rank (Flood at source operand)) good later = later
        by (AtWhole reach role one) good later = later
        by (AtCall reach place name actuals) good later = later
        by (AtNamed reach name) good later = later
        by (AtDir reach dir) good later = later
        by (AtRegion reach hint region) good later = later
        by (AtMask reach prefix mask) good later = later
        by (AtStmt reach at prefixes form) good later = later
        by (AtBase base) good later = later
        by (AtPosts reach region posts) good later = later
        by (AtProcedure procedure) good later = later

    copies_fair : (sites : List Site) → Each Good sites →
        AreFairCopies program known (copies_in program one sites)
    copies_fair [] good = tt
    copies_fair (site ∷ sites) good = by site good.0 (copies_fair sites good.1)
      where
        by : (site : Site) → Good site →
            AreFairCopies program known (copies_in program one sites) →
            AreFairCopies program known (copies_in program one (site ∷ sites))
        by (AtExpr reach rank (Number at value)) good later = later
        by (AtExpr reach rank (Truth at value)) good later = later
        by (AtExpr reach rank (Coord at k)) good later = later
        by (AtExpr reach rank (Named at name)) good later = later
        by (AtExpr reach rank (Shifted at name shift)) good later = later
        by (AtExpr reach rank (Around at name shift)) good later =
            copies_both (shifted_read (array_named program one name) shift)
            (copies_in program one sites)
            (fair_copy (array_named program one name) shift
            (right_read reach good.1.0 name shift (taken reach is_array name good.0.known)
            (no_place (ranks_clash (array_rank (kind_of reach.scope name))
            (dir_rank reach.scope shift)) _ good.0.ranks) good.1.1)) later
        by (AtExpr reach rank (Remap at name indices)) good later = later
        by (AtExpr reach rank (Call at name actuals)) good later = later
        by (AtExpr reach rank (Paren at inside)) good later = later
        by (AtExpr reach rank (Neg at operand)) good later = later
        by (AtExpr reach rank (Not at operand)) good later = later
        by (AtExpr reach rank (Abs at operand)) good later = later
        by (AtExpr reach rank (Pair at op left right)) good later = later
        by (AtExpr reach rank (Reduce at operator over operand)) good later = later
        by (AtExpr reach rank (Scan at operator along operand)) good later = later
        by (AtExpr reach rank (Flood at source operand)) good later = later
        by (AtWhole reach role one) good later = later
        by (AtCall reach place name actuals) good later = later
        by (AtNamed reach name) good later = later
        by (AtDir reach dir) good later = later
        by (AtRegion reach hint region) good later = later
        by (AtMask reach prefix mask) good later = later
        by (AtStmt reach at prefixes form) good later = later
        by (AtBase base) good later = later
        by (AtPosts reach region posts) good later = later
        by (AtProcedure procedure) good later = later

    both_each : (P Q : Site → Type 0) (sites : List Site) → Each P sites → Each Q sites →
        Each (λ site. P site × Q site) sites
    both_each P Q [] first rest = tt
    both_each P Q (site ∷ sites) first rest =
        ((first.0, rest.0), both_each P Q sites first.1 rest.1)

    each_told : (sites : List Site) → ((site : Site) → Among sites site → Fine site) →
        Each Fine sites
    each_told [] are = tt
    each_told (site ∷ sites) are =
        (are site (inl refl), each_told sites (λ other m. are other (inr m)))

    clean_only : (sites : List Site) → Each Fine sites → Each HasNoFault sites
    clean_only [] are = tt
    clean_only (site ∷ sites) are = (are.0.0, clean_only sites are.1)

    abbrev sites : List Site
    sites = routine_sites program unknown_shapes one.routine

    all_good : Each Good sites
    all_good =
        let fine = each_told sites (λ site m. (
          clean-routine program clean unknown_shapes
              one.routine member site m,
          text.site_told program one.routine member site m,
        )) in
        both_each HasNoFault (Told program one.routine Fine) sites (clean_only sites fine)
        (sites_told program one.routine Fine fine)

    pub all_fair : AreFair program known (shifts_in program one sites)
    all_fair = shifts_fair sites all_good

    pub all_copies_fair : AreFairCopies program known (copies_in program one sites)
    all_copies_fair = copies_fair sites all_good
