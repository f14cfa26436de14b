-- The names of a procedure that is called: those of the meaning, where each stands for the same
-- place, and all places have numbers.
use Rattle.std.proofs.Common.{◌≡◌, ℕ, zero, suc, ◌<◌, ◌≤◌, Bool, true, false, ℤ, pos, List, [], ◌∷◌, ◌++◌, length, refl, sym, ap, ◌∙◌, subst, arith, cond, length-append, rules}
use Rattle.std.specs.Prelude.{Option, Some, None, option_map, find, slice_get}
use Rattle.std.specs.Str.{bytes_eq}
use Rattle.zpl_region.specs.declared.regions.Region.{Region}
use Rattle.meaning_ranks.specs.of_zpl_tree.Syntax.{Name, Expr, Number, Truth, Coord, Named, Shifted, Around, Remap, Call, Paren, Neg, Not, Abs, Pair, Reduce, Scan, Flood, Exprs, NoExpr, ThenExpr, Bracket, NoBracket, Bracketed, VarDef}
use Rattle.meaning_ranks.specs.of_zpl_names.Kinds.{Formal, ScalarFormal, ArrayFormal}
use Rattle.meaning_ranks.specs.of_zpl_names.Expansion.{FormalName}
use Rattle.meaning_ranks.specs.of_zpl_meaning.Store.{Thing, Scalar, ArrayAt, Fixed, Names, Environment, thing_of, Store}
use Rattle.meaning_ranks.specs.of_zpl_meaning.Context.{Currents, Edge, Setup}
use Rattle.meaning_ranks.specs.of_zpl_meaning.Calls.{Handed, Copied as CopiedValue, CopiedArray, Referred, actual_thing, referred, copied_array, value_exprs as values_taken, handed_on, with_formals}
use Rattle.meaning_ranks.specs.of_zpl_meaning.Proper.{IsArray, IsVariable, AreProperActuals}
use Rattle.meaning_ranks.specs.of_zpl_meaning.Variables.{Frame, with_thing, with_scalar_named, with_array_named, with_name, with_names, with_variables}
use Rattle.lower_numbers.specs.of_zpl_lowering.Where.{Stored, Numbers, Where, Next}
use Rattle.lower_numbers.specs.of_zpl_lowering.Statement.{Given, Valued, Copied, Referring, referring, copying, given_to}
use Rattle.lower_numbers.specs.of_zpl_lowering.Program.{Framed, with_scalar, with_array, Entry}
use Rattle.lowering_fits.specs.Reach.{place_at}
use Rattle.lowering_fits.specs.Whole.{given_frame, given_frames, local_frame, name_frames, local_frames}

-- ---- places that have numbers

abbrev pub IsBelow : ℕ → Thing → Type 0
IsBelow arrays (Scalar place) = Unit {0}
IsBelow arrays (ArrayAt place home) = place < arrays
IsBelow arrays (Fixed value) = Unit {0}

abbrev pub AreBelow : ℕ → Names → Type 0
AreBelow arrays [] = Unit {0}
AreBelow arrays (entry ∷ names) = IsBelow arrays entry.1 × AreBelow arrays names

thing_below : (few more : ℕ) (thing : Thing) → few ≤ more → IsBelow few thing → IsBelow more thing
thing_below few more (Scalar place) less is = tt
thing_below few more (ArrayAt place home) less is = omega (arith, less, is)
thing_below few more (Fixed value) less is = tt

pub names_below : (few more : ℕ) (names : Names) → few ≤ more → AreBelow few names →
    AreBelow more names
names_below few more [] less are = tt
names_below few more (entry ∷ names) less are =
    (thing_below few more entry.1 less are.0, names_below few more names less are.1)

pub both_below : (arrays : ℕ) (xs ys : Names) → AreBelow arrays xs → AreBelow arrays ys →
    AreBelow arrays (xs ++ ys)
both_below arrays [] ys first rest = rest
both_below arrays (x ∷ xs) ys first rest = (first.0, both_below arrays xs ys first.1 rest)

abbrev pub OptBelow : ℕ → Option Thing → Type 0
OptBelow arrays None = Unit {0}
OptBelow arrays (Some thing) = IsBelow arrays thing

pub found_below : (arrays : ℕ) (names : Names) (text : List ℕ) → AreBelow arrays names →
    OptBelow arrays
    (option_map (λ entry. entry.1) (find (λ entry. bytes_eq entry.0 text) names))
found_below arrays [] text are = tt
found_below arrays (entry ∷ names) text are =
    by (bytes_eq entry.0 text) (found_below arrays names text are.1)
  where
    by : (b : Bool) → OptBelow arrays
        (option_map (λ entry. entry.1) (find (λ entry. bytes_eq entry.0 text) names)) →
        OptBelow arrays (option_map (λ entry. entry.1)
        (cond b (Some entry) (find (λ entry. bytes_eq entry.0 text) names)))
    by true later = are.0
    by false later = later

-- whatever name is looked up
abbrev pub AllBelow : ℕ → Environment → Type 0
AllBelow arrays environment = (text : List ℕ) → OptBelow arrays (thing_of environment text)

pub actual_below : (arrays : ℕ) (environment : Environment) (actual : Expr) →
    AllBelow arrays environment → OptBelow arrays (actual_thing environment actual)
actual_below arrays environment (Named at name) are =
    are name.text
actual_below arrays environment (Number at value) are = tt
actual_below arrays environment (Truth at value) are = tt
actual_below arrays environment (Coord at k) are = tt
actual_below arrays environment (Shifted at name shift) are = tt
actual_below arrays environment (Around at name shift) are = tt
actual_below arrays environment (Remap at name indices) are = tt
actual_below arrays environment (Call at name actuals) are = tt
actual_below arrays environment (Paren at inside) are = tt
actual_below arrays environment (Neg at operand) are = tt
actual_below arrays environment (Not at operand) are = tt
actual_below arrays environment (Abs at operand) are = tt
actual_below arrays environment (Pair at op left right) are = tt
actual_below arrays environment (Reduce at operator over operand) are = tt
actual_below arrays environment (Scan at operator along operand) are = tt
actual_below arrays environment (Flood at source operand) are = tt

pub there_is : {A : Type 0} (xs : List A) (n : ℕ) → n < length xs →
    (x : A) × (slice_get xs n ≡ Some x)
there_is [] n less = let no : ⊥ = omega (arith, less) in absurd no
there_is (x ∷ xs) zero less = (x, refl)
there_is (x ∷ xs) (suc n) less = there_is xs n (omega (arith, less))

-- ---- what parameters take, in the meaning and in the tables

abbrev pub IsAlike : Given → Handed → Type 0
IsAlike (Valued scalar) (CopiedValue value) = Unit {0}
IsAlike (Valued scalar) (CopiedArray array home) = ⊥
IsAlike (Valued scalar) (Referred thing) = ⊥
IsAlike (Copied stored home) (CopiedValue value) = ⊥
IsAlike (Copied stored home) (CopiedArray array other) = home ≡ other
IsAlike (Copied stored home) (Referred thing) = ⊥
IsAlike (Referring thing) (CopiedValue value) = ⊥
IsAlike (Referring thing) (CopiedArray array home) = ⊥
IsAlike (Referring thing) (Referred other) = thing ≡ other

abbrev pub AreAlike : List Given → List Handed → Type 0
AreAlike [] [] = Unit {0}
AreAlike [] (handed ∷ rest) = ⊥
AreAlike (given ∷ givens) [] = ⊥
AreAlike (given ∷ givens) (handed ∷ rest) = IsAlike given handed × AreAlike givens rest

abbrev copied_of : Region → Option Stored → List Given
copied_of home None = []
copied_of home (Some stored) = Copied stored home ∷ []

copied_is : (numbers : Numbers) (place : ℕ) (home : Region) →
    copying numbers (Some (ArrayAt place home)) ≡ copied_of home (slice_get numbers.arrays place)
copied_is numbers place home = by (slice_get numbers.arrays place) refl
  where
    by : (found : Option Stored) → slice_get numbers.arrays place ≡ found →
        copying numbers (Some (ArrayAt place home)) ≡ copied_of home found
    by None is = search (rules, is)
    by (Some stored) is = search (rules, is)

-- what takes a value has one
pub givens_alike : (w : Where) (result : ℕ) (currents : Currents) (edge : Option Edge)
    (store : Store) → AllBelow (length w.numbers.arrays) w.environment → (scalar : ℕ)
    (formals : List Formal) (actuals : Exprs) (values : List ℤ) →
    AreProperActuals (place_at w result currents edge) formals actuals →
    length values ≡ length (values_taken (place_at w result currents edge) formals actuals) →
    AreAlike (given_to w scalar formals actuals)
    (handed_on w.environment store formals actuals values)
givens_alike w result currents edge store below scalar [] NoExpr values are many = tt
givens_alike w result currents edge store below scalar [] (ThenExpr first rest) values are many =
    absurd are
givens_alike w result currents edge store below scalar (formal ∷ formals) NoExpr values are many =
    absurd are
givens_alike w result currents edge store below scalar (ScalarFormal false base ∷ formals)
    (ThenExpr first rest) [] are many = let no : ⊥ = omega (arith, many) in absurd no
givens_alike w result currents edge store below scalar (ScalarFormal false base ∷ formals)
    (ThenExpr first rest) (value ∷ values) are many = (
      tt,
      givens_alike w result currents edge store below (suc scalar) formals rest values are.1
          (omega (arith, many)),
    )
givens_alike w result currents edge store below scalar (ScalarFormal true base ∷ formals)
    (ThenExpr first rest) values are many =
    by (actual_thing w.environment first) are.0
    (givens_alike w result currents edge store below scalar formals rest values are.1 many)
  where
    by : (thing : Option Thing) → IsVariable thing →
        AreAlike (given_to w scalar formals rest)
        (handed_on w.environment store formals rest values) →
        AreAlike (referring thing ++ given_to w scalar formals rest)
        (referred thing ∷ handed_on w.environment store formals rest values)
    by None is others = absurd is
    by (Some thing) is others = (refl, others)
givens_alike w result currents edge store below scalar (ArrayFormal true base shape ∷ formals)
    (ThenExpr first rest) values are many =
    by (actual_thing w.environment first) are.0
    (givens_alike w result currents edge store below scalar formals rest values are.1 many)
  where
    by : (thing : Option Thing) → IsArray thing →
        AreAlike (given_to w scalar formals rest)
        (handed_on w.environment store formals rest values) →
        AreAlike (referring thing ++ given_to w scalar formals rest)
        (referred thing ∷ handed_on w.environment store formals rest values)
    by None is others = absurd is
    by (Some thing) is others = (refl, others)
givens_alike w result currents edge store below scalar (ArrayFormal false base shape ∷ formals)
    (ThenExpr first rest) values are many =
    by (actual_thing w.environment first) are.0
    (actual_below (length w.numbers.arrays) w.environment first below)
    (givens_alike w result currents edge store below scalar formals rest values are.1 many)
  where
    copy : (place : ℕ) (home : Region) (stored : Stored) →
        slice_get w.numbers.arrays place ≡ Some stored →
        AreAlike (given_to w scalar formals rest)
        (handed_on w.environment store formals rest values) →
        AreAlike (copying w.numbers (Some (ArrayAt place home)) ++ given_to w scalar formals rest)
        (copied_array store (Some (ArrayAt place home))
        ∷ handed_on w.environment store formals rest values)
    copy place home stored is others =
        subst (λ (some : List Given). AreAlike (some ++ given_to w scalar formals rest)
        (copied_array store (Some (ArrayAt place home))
        ∷ handed_on w.environment store formals rest values))
        (sym (copied_is w.numbers place home ∙ ap (copied_of home) is)) (refl, others)

    by : (thing : Option Thing) → IsArray thing → OptBelow (length w.numbers.arrays) thing →
        AreAlike (given_to w scalar formals rest)
        (handed_on w.environment store formals rest values) →
        AreAlike (copying w.numbers thing ++ given_to w scalar formals rest)
        (copied_array store thing ∷ handed_on w.environment store formals rest values)
    by None is there others = absurd is
    by (Some (Scalar place)) is there others = absurd is
    by (Some (Fixed value)) is there others = absurd is
    by (Some (ArrayAt place home)) is there others =
        let found = there_is w.numbers.arrays place there in
        copy place home found.0 found.1 others

-- ---- frames

-- the same names, and as many places
pub record Agrees (framed : Framed) (frame : Frame) : Type 0 where
  pub names : framed.names ≡ frame.names
  pub scalars : length framed.numbers.scalars ≡ length frame.store.scalars
  pub arrays : length framed.numbers.arrays ≡ length frame.store.arrays

scalar_agrees : (framed : Framed) (frame : Frame) (name : Name) (scalar : ℕ) (value : ℤ) →
    Agrees framed frame →
    Agrees (with_scalar framed name scalar) (with_scalar_named frame name value)
scalar_agrees framed frame name scalar value agrees = record {
  names = ap (λ (ns : Names). ns ++ (name.text, Scalar (length framed.numbers.scalars)) ∷ [])
      agrees.names
      ∙ ap (λ (n : ℕ). frame.names ++ (name.text, Scalar n) ∷ []) agrees.scalars;
  scalars = length-append framed.numbers.scalars (scalar ∷ [])
      ∙ omega (arith, agrees.scalars, length-append frame.store.scalars (value ∷ []));
  arrays = agrees.arrays;
}

array_agrees : (framed : Framed) (frame : Frame) (name : Name) (home : Region) (stored : Stored)
    (array : _) → Agrees framed frame →
    Agrees (with_array framed name home stored) (with_array_named frame name home array)
array_agrees framed frame name home stored array agrees = record {
  names = ap (λ (ns : Names). ns ++ (name.text, ArrayAt (length framed.numbers.arrays) home) ∷ [])
      agrees.names
      ∙ ap (λ (n : ℕ). frame.names ++ (name.text, ArrayAt n home) ∷ []) agrees.arrays;
  scalars = agrees.scalars;
  arrays = length-append framed.numbers.arrays (stored ∷ [])
      ∙ omega (arith, agrees.arrays, length-append frame.store.arrays (array ∷ []));
}

thing_agrees : (framed : Framed) (frame : Frame) (name : Name) (thing other : Thing) →
    thing ≡ other → Agrees framed frame →
    Agrees (record framed { names = framed.names ++ (name.text, thing) ∷ [] })
    (with_thing frame name other)
thing_agrees framed frame name thing other same agrees = record {
  names = ap (λ (ns : Names). ns ++ (name.text, thing) ∷ []) agrees.names
      ∙ ap (λ (t : Thing). frame.names ++ (name.text, t) ∷ []) same;
  scalars = agrees.scalars;
  arrays = agrees.arrays;
}

pub formals_agree : (line : ℕ) (formals : List FormalName) (givens : List Given)
    (handed : List Handed) (framed : Framed) (frame : Frame) (next : Next) →
    AreAlike givens handed → Agrees framed frame →
    Agrees (given_frames line formals givens framed next).frame (with_formals frame formals handed)
formals_agree line [] givens handed framed frame next alike agrees = agrees
formals_agree line (formal ∷ formals) [] [] framed frame next alike agrees = agrees
formals_agree line (formal ∷ formals) [] (handed ∷ rest) framed frame next alike agrees =
    absurd alike
formals_agree line (formal ∷ formals) (given ∷ givens) [] framed frame next alike agrees =
    absurd alike
formals_agree line (formal ∷ formals) (Valued scalar ∷ givens) (CopiedValue value ∷ rest) framed
    frame next alike agrees =
    formals_agree line formals givens rest (with_scalar framed formal.name scalar)
    (with_scalar_named frame formal.name value) next alike.1
    (scalar_agrees framed frame formal.name scalar value agrees)
formals_agree line (formal ∷ formals) (Valued scalar ∷ givens) (CopiedArray array home ∷ rest)
    framed frame next alike agrees = absurd alike.0
formals_agree line (formal ∷ formals) (Valued scalar ∷ givens) (Referred thing ∷ rest) framed frame
    next alike agrees = absurd alike.0
formals_agree line (formal ∷ formals) (Copied stored home ∷ givens) (CopiedValue value ∷ rest)
    framed frame next alike agrees = absurd alike.0
formals_agree line (formal ∷ formals) (Copied stored home ∷ givens) (CopiedArray array other ∷ rest)
    framed frame next alike agrees =
    let own : Stored = record { array = next.arrays; storage = stored.storage } in
    let one = given_frame line formal.name (Copied stored home) framed next in
    formals_agree line formals givens rest one.frame (with_array_named frame formal.name other array)
    one.next alike.1
    (subst (λ (h : Region). Agrees (with_array framed formal.name home own)
    (with_array_named frame formal.name h array)) alike.0
    (array_agrees framed frame formal.name home own array agrees))
formals_agree line (formal ∷ formals) (Copied stored home ∷ givens) (Referred thing ∷ rest) framed
    frame next alike agrees = absurd alike.0
formals_agree line (formal ∷ formals) (Referring thing ∷ givens) (CopiedValue value ∷ rest) framed
    frame next alike agrees = absurd alike.0
formals_agree line (formal ∷ formals) (Referring thing ∷ givens) (CopiedArray array home ∷ rest)
    framed frame next alike agrees = absurd alike.0
formals_agree line (formal ∷ formals) (Referring thing ∷ givens) (Referred other ∷ rest) framed
    frame next alike agrees =
    formals_agree line formals givens rest
    (record framed { names = framed.names ++ (formal.name.text, thing) ∷ [] })
    (with_thing frame formal.name other) next alike.1
    (thing_agrees framed frame formal.name thing other alike.0 agrees)

names_agree : (setup : Setup) (entry : Entry) (shape : Bracket) (names : List Name)
    (framed : Framed) (frame : Frame) (next : Next) → Agrees framed frame →
    Agrees (name_frames setup entry shape names framed next).frame
    (with_names setup.known setup.borders shape frame names)
names_agree setup entry shape [] framed frame next agrees = agrees
names_agree setup entry NoBracket (name ∷ names) framed frame next agrees =
    let one = local_frame setup entry NoBracket name framed next in
    names_agree setup entry NoBracket names one.frame
    (with_name setup.known setup.borders NoBracket frame name) one.next
    (scalar_agrees framed frame name next.scalars (pos 0) agrees)
names_agree setup entry (Bracketed inner) (name ∷ names) framed frame next agrees =
    let one = local_frame setup entry (Bracketed inner) name framed next in
    names_agree setup entry (Bracketed inner) names one.frame
    (with_name setup.known setup.borders (Bracketed inner) frame name) one.next
    (array_agrees framed frame name _ _ _ agrees)

pub locals_agree : (setup : Setup) (entry : Entry) (vars : List VarDef) (framed : Framed)
    (frame : Frame) (next : Next) → Agrees framed frame →
    Agrees (local_frames setup entry vars framed next).frame
    (with_variables setup.known setup.borders frame vars)
locals_agree setup entry [] framed frame next agrees = agrees
locals_agree setup entry (var ∷ vars) framed frame next agrees =
    let one = name_frames setup entry var.shape var.names framed next in
    locals_agree setup entry vars one.frame
    (with_names setup.known setup.borders var.shape frame var.names) one.next
    (names_agree setup entry var.shape var.names framed frame next agrees)
