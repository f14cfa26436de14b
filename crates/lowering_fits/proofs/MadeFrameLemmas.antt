-- What the code of a procedure that is called has of its own: copies of its parameters, its local
-- arrays, and what its body has.
use Rattle.std.proofs.Common.{◌≡◌, ℕ, suc, ◌+◌, Bool, true, false, List, [], ◌∷◌, ◌++◌, map, length, refl, sym, ap, ◌∙◌, subst, arith}
use Rattle.std.specs.List.{sum_by}
use Rattle.std.proofs.lemmas.List.Sums.{sum_by-cons}
use Rattle.zpl_region.specs.declared.regions.Region.{Region}
use Rattle.meaning_ranks.specs.of_zpl_tree.Syntax.{Name, Bracket, NoBracket, Bracketed, Param, VarDef}
use Rattle.meaning_ranks.specs.of_zpl_names.Kinds.{Formal, ScalarFormal, ArrayFormal}
use Rattle.meaning_ranks.specs.of_zpl_names.Scope.{Scope}
use Rattle.meaning_ranks.specs.of_zpl_names.Declared.{formal_of, formals_of}
use Rattle.meaning_ranks.specs.of_zpl_names.Expansion.{FormalName, formal_names}
use Rattle.meaning_ranks.specs.of_zpl_names.Sites.{Site}
use Rattle.meaning_ranks.specs.of_zpl_meaning.Context.{Setup}
use Rattle.meaning_ranks.specs.of_zpl_meaning.Calls.{Handed, Copied as CopiedValue, CopiedArray, Referred}
use Rattle.meaning_ranks.specs.of_zpl_meaning.Variables.{home_box, storage_box}
use Rattle.meaning_ranks.proofs.of_zpl_meaning.NamesLemmas.{IsHanded, AreHanded}
use Rattle.lower_numbers.specs.of_row_runs.Structured as piece
use Rattle.lower_numbers.specs.of_row_runs.Structured.{Piece}
use Rattle.lower_numbers.specs.of_flat_form.Row.{Row}
use Rattle.lower_numbers.specs.of_zpl_lowering.Check.{Check}
use Rattle.lower_numbers.specs.of_zpl_lowering.Where.{Next}
use Rattle.lower_numbers.specs.of_zpl_lowering.Lowered.{Lowered, rows_alone, behind, joined}
use Rattle.lower_numbers.specs.of_zpl_lowering.Statement.{Given, Valued, Copied, Referring}
use Rattle.lower_numbers.specs.of_zpl_lowering.Program.{Framed, with_scalar, with_array, Entry, zero_row, clear_row, made_copy, givens_code, names_code, locals_code}
use Rattle.lower_numbers.specs.Arrays.{bracket_arrays, var_arrays, value_arrays, param_arrays}
use Rattle.lowering_fits.specs.Whole.{given_frames, name_frames, local_frames}
use Rattle.lowering_fits.proofs.TallyLemmas.{round, called, tally}
use Rattle.lowering_fits.proofs.MadeLemmas.{AllOf}
use Rattle.lowering_fits.proofs.MadeCodeLemmas.{IsMade}
use Rattle.lowering_fits.proofs.NamedLemmas.{IsAlike, AreAlike}

-- so many arrays more than what sites ask for
pub record IsMadeMore (Fine : Region → Type 0) (arrays_of later_of : List ℕ → ℕ) (more : ℕ)
    (sites : List Site) (lowered : Lowered) : Type 0 where
  pub copies : length lowered.copies ≡ tally round sites
  pub arrays : length lowered.arrays ≡ more + tally (called arrays_of) sites
  pub later : length lowered.later ≡ tally (called later_of) sites
  pub fine_copies : AllOf Fine lowered.copies
  pub fine_arrays : AllOf Fine lowered.arrays
  pub fine_later : AllOf Fine lowered.later

-- the parameters that are copies
abbrev pub given_copies : List FormalName → List Given → ℕ
given_copies [] actuals = 0
given_copies (formal ∷ formals) [] = 0
given_copies (formal ∷ formals) (Valued scalar ∷ actuals) = given_copies formals actuals
given_copies (formal ∷ formals) (Referring thing ∷ actuals) = given_copies formals actuals
given_copies (formal ∷ formals) (Copied from home ∷ actuals) = suc (given_copies formals actuals)

abbrev pub AreFine : (Region → Type 0) → List Given → Type 0
AreFine Fine [] = Unit {0}
AreFine Fine (Valued scalar ∷ actuals) = AreFine Fine actuals
AreFine Fine (Referring thing ∷ actuals) = AreFine Fine actuals
AreFine Fine (Copied from home ∷ actuals) = Fine from.storage × AreFine Fine actuals

abbrev pub FineBox : (Region → Type 0) → Setup → Bracket → Type 0
FineBox Fine setup NoBracket = Unit {0}
FineBox Fine setup (Bracketed inner) = Fine (storage_box setup.known setup.borders inner)

abbrev pub FineVars : (Region → Type 0) → Setup → List VarDef → Type 0
FineVars Fine setup [] = Unit {0}
FineVars Fine setup (var ∷ vars) = FineBox Fine setup var.shape × FineVars Fine setup vars

module _ (Fine : Region → Type 0) (arrays_of later_of : List ℕ → ℕ) where
  abbrev More : ℕ → List Site → Lowered → Type 0
  More more sites lowered = IsMadeMore Fine arrays_of later_of more sites lowered

  pub more_made : (sites : List Site) (lowered : Lowered) →
      IsMade Fine arrays_of later_of sites lowered → More 0 sites lowered
  more_made sites lowered is = record {
    copies = is.copies;
    arrays = is.arrays ∙ omega arith;
    later = is.later;
    fine_copies = is.fine_copies;
    fine_arrays = is.fine_arrays;
    fine_later = is.fine_later;
  }

  more_is : (n m : ℕ) (sites : List Site) (lowered : Lowered) → n ≡ m → More n sites lowered →
      More m sites lowered
  more_is n m sites lowered same is = subst (λ k. More k sites lowered) same is

  -- behind code with one array
  array_before : (code : Piece Row Check) (more : ℕ) (sites : List Site) (first rest : Lowered)
      (storage : Region) → first.copies ≡ [] → first.arrays ≡ storage ∷ [] → first.later ≡ [] →
      Fine storage → More more sites rest → More (suc more) sites (joined code first rest)
  array_before code more sites first rest storage no_copies one no_later fine is = record {
    copies = ap (λ (xs : List Region). length (xs ++ rest.copies)) no_copies ∙ is.copies;
    arrays = ap (λ (xs : List Region). length (xs ++ rest.arrays)) one ∙ omega (arith, is.arrays);
    later = ap (λ (xs : List Region). length (xs ++ rest.later)) no_later ∙ is.later;
    fine_copies = subst (λ (xs : List Region). AllOf Fine (xs ++ rest.copies)) (sym no_copies)
        is.fine_copies;
    fine_arrays = subst (λ (xs : List Region). AllOf Fine (xs ++ rest.arrays)) (sym one)
        (fine, is.fine_arrays);
    fine_later = subst (λ (xs : List Region). AllOf Fine (xs ++ rest.later)) (sym no_later)
        is.fine_later;
  }

  -- behind code that has nothing of its own
  nothing_before : (code : Piece Row Check) (more : ℕ) (sites : List Site) (first rest : Lowered) →
      first.copies ≡ [] → first.arrays ≡ [] → first.later ≡ [] → More more sites rest →
      More more sites (joined code first rest)
  nothing_before code more sites first rest no_copies none no_later is = record {
    copies = ap (λ (xs : List Region). length (xs ++ rest.copies)) no_copies ∙ is.copies;
    arrays = ap (λ (xs : List Region). length (xs ++ rest.arrays)) none ∙ is.arrays;
    later = ap (λ (xs : List Region). length (xs ++ rest.later)) no_later ∙ is.later;
    fine_copies = subst (λ (xs : List Region). AllOf Fine (xs ++ rest.copies)) (sym no_copies)
        is.fine_copies;
    fine_arrays = subst (λ (xs : List Region). AllOf Fine (xs ++ rest.arrays)) (sym none)
        is.fine_arrays;
    fine_later = subst (λ (xs : List Region). AllOf Fine (xs ++ rest.later)) (sym no_later)
        is.fine_later;
  }

  pub givens_more : (line : ℕ) (formals : List FormalName) (actuals : List Given) (frame : Framed)
      (next : Next) (rest : Framed → Next → Lowered) (more : ℕ) (sites : List Site) →
      AreFine Fine actuals →
      (let last = given_frames line formals actuals frame next in
      More more sites (rest last.frame last.next)) →
      More (given_copies formals actuals + more) sites
      (givens_code line formals actuals frame next rest)
  givens_more line [] actuals frame next rest more sites fine rests =
      more_is more (0 + more) sites (rest frame next) (omega arith) rests
  givens_more line (formal ∷ formals) [] frame next rest more sites fine rests =
      more_is more (0 + more) sites (rest frame next) (omega arith) rests
  givens_more line (formal ∷ formals) (Valued scalar ∷ actuals) frame next rest more sites fine
      rests =
      givens_more line formals actuals (with_scalar frame formal.name scalar) next rest more sites
      fine rests
  givens_more line (formal ∷ formals) (Referring thing ∷ actuals) frame next rest more sites fine
      rests =
      givens_more line formals actuals
      (record frame { names = frame.names ++ (formal.name.text, thing) ∷ [] }) next rest more sites
      fine rests
  givens_more line (formal ∷ formals) (Copied from home ∷ actuals) frame next rest more sites fine
      rests =
      let first : Lowered = made_copy line next from in
      let inner : Framed = with_array frame formal.name home
      (record { array = next.arrays; storage = from.storage }) in
      let after : Next = behind next first in
      let later : Lowered = givens_code line formals actuals inner after rest in
      more_is (suc (given_copies formals actuals + more))
      (suc (given_copies formals actuals) + more) sites
      (givens_code line (formal ∷ formals) (Copied from home ∷ actuals) frame next rest)
      (omega arith)
      (array_before (piece.Then first.code later.code) (given_copies formals actuals + more) sites
      first later from.storage refl refl refl fine.0
      (givens_more line formals actuals inner after rest more sites fine.1 rests))

  names_more : (setup : Setup) (entry : Entry) (shape : Bracket) (names : List Name)
      (frame : Framed) (next : Next) (rest : Framed → Next → Lowered) (more : ℕ)
      (sites : List Site) → FineBox Fine setup shape →
      (let last = name_frames setup entry shape names frame next in
      More more sites (rest last.frame last.next)) →
      More (bracket_arrays shape (length names) + more) sites
      (names_code setup entry shape names frame next rest)
  names_more setup entry NoBracket [] frame next rest more sites fine rests =
      more_is more (0 + more) sites (rest frame next) (omega arith) rests
  names_more setup entry (Bracketed inner) [] frame next rest more sites fine rests =
      more_is more (0 + more) sites (rest frame next) (omega arith) rests
  names_more setup entry NoBracket (name ∷ names) frame next rest more sites fine rests =
      let first : Lowered = record (rows_alone (zero_row entry next.scalars)) { scalars = 1 } in
      let inner : Framed = with_scalar frame name next.scalars in
      let after : Next = behind next first in
      let later : Lowered = names_code setup entry NoBracket names inner after rest in
      nothing_before (piece.Then first.code later.code) (0 + more) sites first later refl refl
      refl (names_more setup entry NoBracket names inner after rest more sites fine rests)
  names_more setup entry (Bracketed region) (name ∷ names) frame next rest more sites fine rests =
      let storage : Region = storage_box setup.known setup.borders region in
      let first : Lowered =
      record (rows_alone (clear_row entry next.arrays)) { arrays = storage ∷ [] } in
      let inner : Framed = with_array frame name (home_box setup.known region)
      (record { array = next.arrays; storage = storage }) in
      let after : Next = behind next first in
      let later : Lowered = names_code setup entry (Bracketed region) names inner after rest in
      more_is (suc (length names + more)) (suc (length names) + more) sites
      (names_code setup entry (Bracketed region) (name ∷ names) frame next rest) (omega arith)
      (array_before (piece.Then first.code later.code) (length names + more) sites first later
      storage refl refl refl fine
      (names_more setup entry (Bracketed region) names inner after rest more sites fine rests))

  pub locals_more : (setup : Setup) (entry : Entry) (vars : List VarDef) (frame : Framed)
      (next : Next) (rest : Framed → Next → Lowered) (more : ℕ) (sites : List Site) →
      FineVars Fine setup vars →
      (let last = local_frames setup entry vars frame next in
      More more sites (rest last.frame last.next)) →
      More (sum_by var_arrays vars + more) sites (locals_code setup entry vars frame next rest)
  locals_more setup entry [] frame next rest more sites fine rests =
      more_is more (0 + more) sites (rest frame next) (omega arith) rests
  locals_more setup entry (var ∷ vars) frame next rest more sites fine rests =
      let one = name_frames setup entry var.shape var.names frame next in
      subst (λ n. More n sites (locals_code setup entry (var ∷ vars) frame next rest))
      (omega (arith, sum_by-cons var_arrays var vars))
      (names_more setup entry var.shape var.names frame next
      (λ frame after. locals_code setup entry vars frame after rest)
      (sum_by var_arrays vars + more) sites fine.0
      (locals_more setup entry vars one.frame one.next rest more sites fine.1 rests))

-- ---- how many parameters are copies

abbrev pub array_copies : List Formal → ℕ
array_copies [] = 0
array_copies (ScalarFormal by_ref base ∷ formals) = array_copies formals
array_copies (ArrayFormal true base shape ∷ formals) = array_copies formals
array_copies (ArrayFormal false base shape ∷ formals) = suc (array_copies formals)

pub count_alike : (formals : List Formal) (givens : List Given) (handed : List Handed)
    (names : List FormalName) → length names ≡ length formals → AreHanded formals handed →
    AreAlike givens handed → given_copies names givens ≡ array_copies formals
count_alike [] [] [] [] same are alike = refl
count_alike [] [] [] (name ∷ names) same are alike = refl
count_alike [] (given ∷ givens) [] names same are alike = absurd alike
count_alike [] givens (handed ∷ rest) names same are alike = absurd are
count_alike (formal ∷ formals) givens [] names same are alike = absurd are
count_alike (formal ∷ formals) [] (handed ∷ rest) names same are alike = absurd alike
count_alike (formal ∷ formals) (given ∷ givens) (handed ∷ rest) [] same are alike =
    let no : ⊥ = omega (arith, same) in absurd no
count_alike (formal ∷ formals) (given ∷ givens) (handed ∷ rest) (name ∷ names) same are alike =
    by formal given handed are.0 alike.0
    (count_alike formals givens rest names (omega (arith, same)) are.1 alike.1)
  where
    by : (formal : Formal) (given : Given) (handed : Handed) → IsHanded formal handed →
        IsAlike given handed → given_copies names givens ≡ array_copies formals →
        given_copies (name ∷ names) (given ∷ givens) ≡ array_copies (formal ∷ formals)
    by (ScalarFormal false base) (Valued scalar) (CopiedValue value) is like later = later
    by (ScalarFormal true base) (Valued scalar) (CopiedValue value) is like later = absurd is
    by (ArrayFormal true base shape) (Valued scalar) (CopiedValue value) is like later = absurd is
    by (ArrayFormal false base shape) (Valued scalar) (CopiedValue value) is like later = absurd is
    by formal (Valued scalar) (CopiedArray array home) is like later = absurd like
    by formal (Valued scalar) (Referred thing) is like later = absurd like
    by formal (Copied stored home) (CopiedValue value) is like later = absurd like
    by (ScalarFormal false base) (Copied stored home) (CopiedArray array other) is like later =
        absurd is
    by (ScalarFormal true base) (Copied stored home) (CopiedArray array other) is like later =
        absurd is
    by (ArrayFormal true base shape) (Copied stored home) (CopiedArray array other) is like later =
        absurd is
    by (ArrayFormal false base shape) (Copied stored home) (CopiedArray array other) is like later =
        ap suc later
    by formal (Copied stored home) (Referred thing) is like later = absurd like
    by formal (Referring thing) (CopiedValue value) is like later = absurd like
    by formal (Referring thing) (CopiedArray array home) is like later = absurd like
    by (ScalarFormal false base) (Referring thing) (Referred other) is like later = absurd is
    by (ScalarFormal true base) (Referring thing) (Referred other) is like later = later
    by (ArrayFormal true base shape) (Referring thing) (Referred other) is like later = later
    by (ArrayFormal false base shape) (Referring thing) (Referred other) is like later = absurd is

param_copies : (scope : Scope) (param : Param) (names : List Name) (rest : List Formal) →
    array_copies (map (λ name. formal_of scope param) names ++ rest) ≡
    value_arrays param.by_ref param.shape (length names) + array_copies rest
param_copies scope param names rest = by param.by_ref param.shape names
  where
    by : (by_ref : Bool) (shape : Bracket) (names : List Name) →
        array_copies (map (λ name. formal_of scope
        (record param { by_ref = by_ref; shape = shape })) names ++ rest) ≡
        value_arrays by_ref shape (length names) + array_copies rest
    by true shape [] = omega arith
    by false NoBracket [] = omega arith
    by false (Bracketed inner) [] = omega arith
    by true NoBracket (name ∷ names) = by true NoBracket names
    by true (Bracketed inner) (name ∷ names) = by true (Bracketed inner) names
    by false NoBracket (name ∷ names) = by false NoBracket names
    by false (Bracketed inner) (name ∷ names) =
        omega (arith, by false (Bracketed inner) names)

pub params_copies : (scope : Scope) (params : List Param) →
    array_copies (formals_of scope params) ≡ sum_by param_arrays params
params_copies scope [] = refl
params_copies scope (param ∷ params) =
    param_copies scope param param.names (formals_of scope params)
    ∙ omega (arith, params_copies scope params, sum_by-cons param_arrays param params)

pub as_many : (scope : Scope) (params : List Param) →
    length (formal_names params) ≡ length (formals_of scope params)
as_many scope [] = refl
as_many scope (param ∷ params) = by param.names (as_many scope params)
  where
    by : (names : List Name) →
        length (formal_names params) ≡ length (formals_of scope params) →
        length (map (λ (name : Name). record { by_ref = param.by_ref; name = name }) names
        ++ formal_names params) ≡
        length (map (λ (name : Name). formal_of scope param) names ++ formals_of scope params)
    by [] later = later
    by (name ∷ names) later = ap suc (by names later)
