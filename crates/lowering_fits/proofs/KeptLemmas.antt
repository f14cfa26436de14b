-- Names in reach of the body of a procedure that is called: each stands for what has a number, and
-- is of the kind that the text says.
use Rattle.std.proofs.Common.{◌≡◌, ℕ, zero, suc, ◌≤◌, Bool, true, false, List, [], ◌∷◌, ◌++◌, map, length, refl, sym, subst, arith, cond, length-append, append-nil, append_assoc}
use Rattle.std.specs.Prelude.{Option, Some, None, option_map, find, slice_get}
use Rattle.std.specs.List.{flat_map}
use Rattle.std.specs.Option.{IsSomeAnd}
use Rattle.std.specs.Str.{bytes_eq}
use Rattle.zpl_region.specs.declared.regions.Region.{Region}
use Rattle.meaning_ranks.specs.of_zpl_tree.Syntax.{Name, Bracket, NoBracket, Bracketed, Base, Param, VarDef}
use Rattle.meaning_ranks.specs.of_zpl_names.Kinds as kind
use Rattle.meaning_ranks.specs.of_zpl_names.Kinds.{Kind, Shape, Formal, ScalarFormal, ArrayFormal}
use Rattle.meaning_ranks.specs.of_zpl_names.Scope.{Entry, Scope, kind_in}
use Rattle.meaning_ranks.specs.of_zpl_names.Shapes.{declared_shape, variable_kind}
use Rattle.meaning_ranks.specs.of_zpl_names.Declared.{entry_for, formal_of, formals_of}
use Rattle.meaning_ranks.specs.of_zpl_names.Expansion.{FormalName, formal_names}
use Rattle.meaning_ranks.specs.of_zpl_meaning.Context.{Setup}
use Rattle.meaning_ranks.specs.of_zpl_meaning.Store.{Thing, Scalar, ArrayAt, Fixed, Names}
use Rattle.meaning_ranks.specs.of_zpl_meaning.Variables.{home_box, storage_box}
use Rattle.lowering_fits.specs.Slates.{FitsBox}
use Rattle.lower_numbers.specs.of_zpl_lowering.Where.{Stored, Numbers, Next}
use Rattle.lower_numbers.specs.of_zpl_lowering.Statement.{Given, Valued, Copied, Referring}
use Rattle.lower_numbers.specs.of_zpl_lowering.Program.{Framed, with_scalar, with_array, Entry as CallEntry}
use Rattle.lowering_fits.specs.Reach.{IsStoredAs, FitsName, IsKept, named_thing}
use Rattle.lowering_fits.specs.Storages.{IsHomeIn}
use Rattle.lowering_fits.specs.Declarations.{FitsDeclared, FitAllDeclared}
use Rattle.lowering_fits.specs.Whole.{given_frame, given_frames, local_frame, name_frames, local_frames}

-- ---- numbers that grow

pub record Grows (few more : Numbers) : Type 0 where
  pub scalars : length few.scalars ≤ length more.scalars
  pub arrays : (place : ℕ) (stored : Stored) → slice_get few.arrays place ≡ Some stored →
      slice_get more.arrays place ≡ Some stored

pub grows_none : (numbers : Numbers) → Grows numbers numbers
grows_none numbers = record { scalars = omega arith; arrays = λ place stored is. is }

pub grows_both : (few more most : Numbers) → Grows few more → Grows more most → Grows few most
grows_both few more most first rest = record {
  scalars = omega (arith, first.scalars, rest.scalars);
  arrays = λ place stored is. rest.arrays place stored (first.arrays place stored is);
}

in_front : (xs ys : List Stored) (place : ℕ) (stored : Stored) →
    slice_get xs place ≡ Some stored → slice_get (xs ++ ys) place ≡ Some stored
in_front [] ys place stored is = let no : ⊥ = cc in absurd no
in_front (x ∷ xs) ys zero stored is = is
in_front (x ∷ xs) ys (suc place) stored is = in_front xs ys place stored is

pub some_grows : (few more : Numbers) → Grows few more → (Holds : Stored → Type 0) (place : ℕ) →
    IsSomeAnd (slice_get few.arrays place) Holds → IsSomeAnd (slice_get more.arrays place) Holds
some_grows few more grows Holds place is =
    by (slice_get few.arrays place) is (λ stored. grows.arrays place stored)
  where
    by : (found : Option Stored) → IsSomeAnd found Holds →
        ((stored : Stored) → found ≡ Some stored → slice_get more.arrays place ≡ Some stored) →
        IsSomeAnd (slice_get more.arrays place) Holds
    by None is there = absurd is
    by (Some stored) is there =
        subst (λ found. IsSomeAnd found Holds) (sym (there stored refl)) is

at_end : (Holds : Stored → Type 0) (xs : List Stored) (x : Stored) → Holds x →
    IsSomeAnd (slice_get (xs ++ x ∷ []) (length xs)) Holds
at_end Holds [] x is = is
at_end Holds (y ∷ xs) x is = at_end Holds xs x is

scalar_grows : (frame : Framed) (name : Name) (scalar : ℕ) →
    Grows frame.numbers (with_scalar frame name scalar).numbers
scalar_grows frame name scalar = record {
  scalars = omega (arith, length-append frame.numbers.scalars (scalar ∷ []));
  arrays = λ place stored is. is;
}

array_grows : (frame : Framed) (name : Name) (home : Region) (stored : Stored) →
    Grows frame.numbers (with_array frame name home stored).numbers
array_grows frame name home stored = record {
  scalars = omega arith;
  arrays = λ place one is. in_front frame.numbers.arrays (stored ∷ []) place one is;
}

name_grows : (few more : Numbers) → Grows few more → (shape : Option Shape) (place : ℕ)
    (home : Region) → FitsName few shape place home → FitsName more shape place home
name_grows few more grows shape place home is = record {
  has = some_grows few more grows (IsStoredAs shape) place is.has;
  box = is.box;
  same = is.same;
  homed = some_grows few more grows (λ stored. IsHomeIn stored.storage home) place is.homed;
}

pub kept_grows : (few more : Numbers) → Grows few more → (one : Kind) (thing : Thing) →
    IsKept few one thing → IsKept more one thing
kept_grows few more grows (kind.Scalar base) (Scalar place) is = omega (arith, is, grows.scalars)
kept_grows few more grows (kind.Scalar base) (ArrayAt place home) is = absurd is
kept_grows few more grows (kind.Scalar base) (Fixed value) is = absurd is
kept_grows few more grows (kind.Array base shape) (ArrayAt place home) is =
    name_grows few more grows shape place home is
kept_grows few more grows (kind.Array base shape) (Scalar place) is = absurd is
kept_grows few more grows (kind.Array base shape) (Fixed value) is = absurd is
kept_grows few more grows (kind.Config base) (Fixed value) is = tt
kept_grows few more grows (kind.Config base) (Scalar place) is = absurd is
kept_grows few more grows (kind.Config base) (ArrayAt place home) is = absurd is
kept_grows few more grows (kind.Constant base) (Fixed value) is = tt
kept_grows few more grows (kind.Constant base) (Scalar place) is = absurd is
kept_grows few more grows (kind.Constant base) (ArrayAt place home) is = absurd is
kept_grows few more grows (kind.Region shape) thing is = absurd is
kept_grows few more grows (kind.Direction rank) thing is = absurd is
kept_grows few more grows (kind.Procedure signature) thing is = absurd is

-- ---- own names, one by one

pub data AreKept (numbers : Numbers) : List Entry → Names → Type 0 where
  Nothing : AreKept numbers [] []
  Lists : {entries : List Entry} {names : Names} (name : Name) (one : Kind) (thing : Thing) →
      IsKept numbers one thing → AreKept numbers entries names →
      AreKept numbers (entry_for one name ∷ entries) ((name.text, thing) ∷ names)

pub are_grown : (few more : Numbers) → Grows few more → (xs : List Entry) (ns : Names) →
    AreKept few xs ns → AreKept more xs ns
are_grown few more grows [] [] Nothing = Nothing
are_grown few more grows [] (n ∷ ns) are = elim are [ ]
are_grown few more grows (x ∷ xs) [] are = elim are [ ]
are_grown few more grows (x ∷ xs) (n ∷ ns) (Lists name one thing is are) =
    Lists name one thing (kept_grows few more grows one thing is)
    (are_grown few more grows xs ns are)

pub kept_append : (numbers : Numbers) (xs ys : List Entry) (ns ms : Names) →
    AreKept numbers xs ns → AreKept numbers ys ms → AreKept numbers (xs ++ ys) (ns ++ ms)
kept_append numbers [] ys [] ms Nothing rest = rest
kept_append numbers [] ys (n ∷ ns) ms are rest = elim are [ ]
kept_append numbers (x ∷ xs) ys [] ms are rest = elim are [ ]
kept_append numbers (x ∷ xs) ys (n ∷ ns) ms (Lists name one thing is are) rest =
    Lists name one thing is (kept_append numbers xs ys ns ms are rest)

kept_one : (numbers : Numbers) (xs : List Entry) (ns : Names) (name : Name) (one : Kind)
    (thing : Thing) → IsKept numbers one thing → AreKept numbers xs ns →
    AreKept numbers (xs ++ entry_for one name ∷ []) (ns ++ (name.text, thing) ∷ [])
kept_one numbers xs ns name one thing is are =
    kept_append numbers xs (entry_for one name ∷ []) ns ((name.text, thing) ∷ []) are
    (Lists name one thing is Nothing)

-- ---- what is found

-- both are found, and it is kept; or neither is
abbrev pub IsBoth : Numbers → Option Kind → Option Thing → Type 0
IsBoth numbers None None = Unit {0}
IsBoth numbers None (Some thing) = ⊥
IsBoth numbers (Some one) None = ⊥
IsBoth numbers (Some one) (Some thing) = IsKept numbers one thing

pub kept_found : (numbers : Numbers) (xs : List Entry) (ns : Names) (text : List ℕ) →
    AreKept numbers xs ns → IsBoth numbers (kind_in xs text) (named_thing ns text)
kept_found numbers [] [] text Nothing = tt
kept_found numbers [] (n ∷ ns) text are = elim are [ ]
kept_found numbers (x ∷ xs) [] text are = elim are [ ]
kept_found numbers (x ∷ xs) (n ∷ ns) text (Lists name one thing is are) =
    by (bytes_eq name.text text) (kept_found numbers xs ns text are)
  where
    by : (b : Bool) → IsBoth numbers (kind_in xs text) (named_thing ns text) →
        IsBoth numbers (option_map (λ entry. entry.kind)
        (cond b (Some (entry_for one name)) (find (λ entry. bytes_eq entry.name.text text) xs)))
        (option_map (λ entry. entry.1)
        (cond b (Some (name.text, thing)) (find (λ entry. bytes_eq entry.0 text) ns)))
    by true later = is
    by false later = later

-- ---- parameters

-- what a parameter takes is of its kind
abbrev pub IsGivenOf : Numbers → Formal → Given → Type 0
IsGivenOf numbers (ScalarFormal false base) (Valued scalar) = Unit {0}
IsGivenOf numbers (ScalarFormal false base) (Copied stored home) = ⊥
IsGivenOf numbers (ScalarFormal false base) (Referring thing) = ⊥
IsGivenOf numbers (ScalarFormal true base) (Referring thing) =
    IsKept numbers (kind.Scalar base) thing
IsGivenOf numbers (ScalarFormal true base) (Valued scalar) = ⊥
IsGivenOf numbers (ScalarFormal true base) (Copied stored home) = ⊥
IsGivenOf numbers (ArrayFormal false base shape) (Copied stored home) =
    IsStoredAs shape stored × FitsBox home × (option_map length shape ≡ Some home.rank)
    × IsHomeIn stored.storage home
IsGivenOf numbers (ArrayFormal false base shape) (Valued scalar) = ⊥
IsGivenOf numbers (ArrayFormal false base shape) (Referring thing) = ⊥
IsGivenOf numbers (ArrayFormal true base shape) (Referring thing) =
    IsKept numbers (kind.Array base shape) thing
IsGivenOf numbers (ArrayFormal true base shape) (Valued scalar) = ⊥
IsGivenOf numbers (ArrayFormal true base shape) (Copied stored home) = ⊥

abbrev pub AreGivenOf : Numbers → List Formal → List Given → Type 0
AreGivenOf numbers [] [] = Unit {0}
AreGivenOf numbers [] (given ∷ givens) = ⊥
AreGivenOf numbers (formal ∷ formals) [] = ⊥
AreGivenOf numbers (formal ∷ formals) (given ∷ givens) =
    IsGivenOf numbers formal given × AreGivenOf numbers formals givens

abbrev kind_of_formal : Formal → Kind
kind_of_formal (ScalarFormal by_ref base) = kind.Scalar base
kind_of_formal (ArrayFormal by_ref base shape) = kind.Array base shape

formal_kind : (scope : Scope) (param : Param) →
    kind_of_formal (formal_of scope param) ≡ variable_kind scope param.shape param.base
formal_kind scope param = by param.shape
  where
    by : (shape : Bracket) → kind_of_formal (formal_of scope (record param { shape = shape })) ≡
        variable_kind scope shape param.base
    by NoBracket = refl
    by (Bracketed inner) = refl

-- a frame that has what entries say, and has grown
pub record HasKept (few : Numbers) (xs : List Entry) (frame : Framed) : Type 0 where
  pub grows : Grows few frame.numbers
  pub kept : AreKept frame.numbers xs frame.names

scalar_kept : (few : Numbers) (xs : List Entry) (frame : Framed) (name : Name) (base : Base)
    (scalar : ℕ) → HasKept few xs frame →
    HasKept few (xs ++ entry_for (kind.Scalar base) name ∷ []) (with_scalar frame name scalar)
scalar_kept few xs frame name base scalar has =
    let inner = with_scalar frame name scalar in
    record {
      grows = grows_both few frame.numbers inner.numbers has.grows (scalar_grows frame name scalar);
      kept = kept_one inner.numbers xs frame.names name (kind.Scalar base)
          (Scalar (length frame.numbers.scalars))
          (omega (arith, length-append frame.numbers.scalars (scalar ∷ [])))
          (are_grown frame.numbers inner.numbers (scalar_grows frame name scalar) xs frame.names
          has.kept);
    }

array_kept : (few : Numbers) (xs : List Entry) (frame : Framed) (name : Name) (base : Base)
    (shape : Option Shape) (home : Region) (stored : Stored) → IsStoredAs shape stored →
    FitsBox home → option_map length shape ≡ Some home.rank → IsHomeIn stored.storage home →
    HasKept few xs frame →
    HasKept few (xs ++ entry_for (kind.Array base shape) name ∷ [])
    (with_array frame name home stored)
array_kept few xs frame name base shape home stored is box same homed has =
    let inner = with_array frame name home stored in
    let more = array_grows frame name home stored in
    record {
      grows = grows_both few frame.numbers inner.numbers has.grows more;
      kept = kept_one inner.numbers xs frame.names name (kind.Array base shape)
          (ArrayAt (length frame.numbers.arrays) home)
          (record {
            has = at_end (IsStoredAs shape) frame.numbers.arrays stored is;
            box = box;
            same = same;
            homed = at_end (λ stored. IsHomeIn stored.storage home) frame.numbers.arrays stored
                homed;
          })
          (are_grown frame.numbers inner.numbers more xs frame.names has.kept);
    }

thing_kept : (few : Numbers) (xs : List Entry) (frame : Framed) (name : Name) (one : Kind)
    (thing : Thing) → IsKept few one thing → HasKept few xs frame →
    HasKept few (xs ++ entry_for one name ∷ [])
    (record frame { names = frame.names ++ (name.text, thing) ∷ [] })
thing_kept few xs frame name one thing is has = record {
  grows = has.grows;
  kept = kept_one frame.numbers xs frame.names name one thing
      (kept_grows few frame.numbers has.grows one thing is) has.kept;
}

given_kept : (few : Numbers) (line : ℕ) (formal : Formal) (given : Given) (frame : Framed)
    (name : Name) (next : Next) (xs : List Entry) → IsGivenOf few formal given →
    HasKept few xs frame →
    HasKept few (xs ++ entry_for (kind_of_formal formal) name ∷ [])
    (given_frame line name given frame next).frame
given_kept few line (ScalarFormal false base) (Valued scalar) frame name next xs is has =
    scalar_kept few xs frame name base scalar has
given_kept few line (ScalarFormal false base) (Copied stored home) frame name next xs is has =
    absurd is
given_kept few line (ScalarFormal false base) (Referring thing) frame name next xs is has =
    absurd is
given_kept few line (ScalarFormal true base) (Referring thing) frame name next xs is has =
    thing_kept few xs frame name (kind.Scalar base) thing is has
given_kept few line (ScalarFormal true base) (Valued scalar) frame name next xs is has = absurd is
given_kept few line (ScalarFormal true base) (Copied stored home) frame name next xs is has =
    absurd is
given_kept few line (ArrayFormal false base shape) (Copied stored home) frame name next xs is has =
    array_kept few xs frame name base shape home
    (record { array = next.arrays; storage = stored.storage })
    (record { rank = is.0.rank; ranges = is.0.ranges; floods = is.0.floods }) is.1 is.2 is.3
    has
given_kept few line (ArrayFormal false base shape) (Valued scalar) frame name next xs is has =
    absurd is
given_kept few line (ArrayFormal false base shape) (Referring thing) frame name next xs is has =
    absurd is
given_kept few line (ArrayFormal true base shape) (Referring thing) frame name next xs is has =
    thing_kept few xs frame name (kind.Array base shape) thing is has
given_kept few line (ArrayFormal true base shape) (Valued scalar) frame name next xs is has =
    absurd is
given_kept few line (ArrayFormal true base shape) (Copied stored home) frame name next xs is has =
    absurd is

-- the parameters that have one head, and those behind them
param_kept : (few : Numbers) (line : ℕ) (names : List Name) (scope : Scope) (param : Param)
    (later : List FormalName) (formals : List Formal) (others : List Entry) (frame : Framed)
    (next : Next) (xs : List Entry) (givens : List Given) →
    AreGivenOf few (map (λ name. formal_of scope param) names ++ formals) givens →
    HasKept few xs frame →
    ((frame : Framed) (next : Next) (ys : List Entry) (rest : List Given) →
    AreGivenOf few formals rest → HasKept few ys frame →
    HasKept few (ys ++ others) (given_frames line later rest frame next).frame) →
    HasKept few
    (xs ++ (map (entry_for (variable_kind scope param.shape param.base)) names ++ others))
    (given_frames line
    (map (λ (name : Name). record { by_ref = param.by_ref; name = name }) names ++ later) givens
    frame next).frame
param_kept few line [] scope param later formals others frame next xs givens are has rests =
    rests frame next xs givens are has
param_kept few line (name ∷ names) scope param later formals others frame next xs [] are has rests =
    absurd are
param_kept few line (name ∷ names) scope param later formals others frame next xs (first ∷ rest)
    are has rests =
    let one = entry_for (variable_kind scope param.shape param.base) name ∷ [] in
    let inner = given_frame line name first frame next in
    let here : HasKept few (xs ++ one) inner.frame =
    subst (λ kind. HasKept few (xs ++ entry_for kind name ∷ []) inner.frame)
    (formal_kind scope param)
    (given_kept few line (formal_of scope param) first frame name next xs are.0 has) in
    subst
    (λ ys. HasKept few ys (given_frames line
    (map (λ (name : Name). record { by_ref = param.by_ref; name = name }) names ++ later) rest
    inner.frame inner.next).frame)
    (append_assoc xs one
    (map (entry_for (variable_kind scope param.shape param.base)) names ++ others))
    (param_kept few line names scope param later formals others inner.frame inner.next (xs ++ one)
    rest are.1 here rests)

no_formals : (few : Numbers) (line : ℕ) (givens : List Given) (frame : Framed) (next : Next)
    (xs : List Entry) → HasKept few xs frame →
    HasKept few (xs ++ []) (given_frames line [] givens frame next).frame
no_formals few line givens frame next xs has =
    subst (λ ys. HasKept few ys frame) (sym (append-nil xs)) has

pub formals_kept : (few : Numbers) (line : ℕ) (params : List Param) (scope : Scope)
    (frame : Framed) (next : Next) (xs : List Entry) (givens : List Given) →
    AreGivenOf few (formals_of scope params) givens → HasKept few xs frame →
    HasKept few (xs ++ flat_map
    (λ param. map (entry_for (variable_kind scope param.shape param.base)) param.names) params)
    (given_frames line (formal_names params) givens frame next).frame
formals_kept few line [] scope frame next xs givens are has =
    no_formals few line givens frame next xs has
formals_kept few line (param ∷ params) scope frame next xs givens are has =
    param_kept few line param.names scope param (formal_names params) (formals_of scope params) _
    frame next xs givens are has
    (λ frame next ys rest are has. formals_kept few line params scope frame next ys rest are has)

-- ---- local variables

names_kept : (few : Numbers) (setup : Setup) (entry : CallEntry) (scope : Scope)
    (shape : Bracket) (base : Base) → FitsDeclared setup scope shape → (names : List Name)
    (frame : Framed) (next : Next) (xs : List Entry) → HasKept few xs frame →
    HasKept few (xs ++ map (entry_for (variable_kind scope shape base)) names)
    (name_frames setup entry shape names frame next).frame
names_kept few setup entry scope shape base right [] frame next xs has =
    subst (λ ys. HasKept few ys frame) (sym (append-nil xs)) has
names_kept few setup entry scope NoBracket base right (name ∷ names) frame next xs has =
    let one = entry_for (kind.Scalar base) name ∷ [] in
    let inner = local_frame setup entry NoBracket name frame next in
    subst (λ ys. HasKept few ys (name_frames setup entry NoBracket names inner.frame inner.next).frame)
    (append_assoc xs one (map (entry_for (kind.Scalar base)) names))
    (names_kept few setup entry scope NoBracket base right names inner.frame inner.next (xs ++ one)
    (scalar_kept few xs frame name base next.scalars has))
names_kept few setup entry scope (Bracketed region) base right (name ∷ names) frame next xs has =
    let kind = kind.Array base (declared_shape scope region) in
    let one = entry_for kind name ∷ [] in
    let inner = local_frame setup entry (Bracketed region) name frame next in
    subst
    (λ ys. HasKept few ys (name_frames setup entry (Bracketed region) names inner.frame
    inner.next).frame) (append_assoc xs one (map (entry_for kind) names))
    (names_kept few setup entry scope (Bracketed region) base right names inner.frame inner.next
    (xs ++ one)
    (array_kept few xs frame name base (declared_shape scope region) (home_box setup.known region)
    (record {
      array = next.arrays;
      storage = storage_box setup.known setup.borders region;
    }) (record { rank = right.0.rank; ranges = right.0.ranges; floods = right.0.floods }) right.1
    right.2 right.4 has))

pub locals_kept : (few : Numbers) (setup : Setup) (entry : CallEntry) (scope : Scope)
    (vars : List VarDef) → FitAllDeclared setup scope vars → (frame : Framed) (next : Next)
    (xs : List Entry) → HasKept few xs frame →
    HasKept few (xs ++ flat_map
    (λ var. map (entry_for (variable_kind scope var.shape var.base)) var.names) vars)
    (local_frames setup entry vars frame next).frame
locals_kept few setup entry scope [] right frame next xs has =
    subst (λ ys. HasKept few ys frame) (sym (append-nil xs)) has
locals_kept few setup entry scope (var ∷ vars) right frame next xs has =
    let one = map (entry_for (variable_kind scope var.shape var.base)) var.names in
    let inner = name_frames setup entry var.shape var.names frame next in
    subst (λ ys. HasKept few ys (local_frames setup entry vars inner.frame inner.next).frame)
    (append_assoc xs one _)
    (locals_kept few setup entry scope vars right.1 inner.frame inner.next (xs ++ one)
    (names_kept few setup entry scope var.shape var.base right.0 var.names frame next xs has))
