-- What all code of a program has of its own: calls down a chain of procedures.
use Rattle.std.proofs.Common.{◌≡◌, ℕ, suc, ◌+◌, ◌≤◌, Bool, true, false, List, [], ◌∷◌, ◌++◌, length, refl, sym, ap, subst, arith, cond, length-append, rules}
use Rattle.std.specs.Prelude.{Option, Some, None, option_map, find, slice_get}
use Rattle.std.specs.Str.{bytes_eq}
use Rattle.std.specs.List.{filter_map, cons_option, sum_by}
use Rattle.std.proofs.lemmas.List.Sums.{sum_by-cons}
use Rattle.zpl_region.specs.declared.regions.Region.{Region}
use Rattle.meaning_ranks.specs.of_zpl_tree.Syntax.{Name, Exprs, NoExpr, ThenExpr, Bracket, NoBracket, Bracketed, VarDef, Program}
use Rattle.meaning_ranks.specs.of_zpl_names.Kinds.{Formal, ScalarFormal, ArrayFormal}
use Rattle.meaning_ranks.specs.of_zpl_names.Scope.{is_procedure}
use Rattle.meaning_ranks.specs.of_zpl_names.Accepted.{HasNoFault}
use Rattle.meaning_ranks.specs.of_zpl_names.Declared.{Routine, routine_named}
use Rattle.meaning_ranks.specs.of_zpl_names.Expansion.{FormalName, expanded}
use Rattle.meaning_ranks.specs.of_zpl_names.Sites.{Site, AtWhole, AtExpr, AtCall, AtNamed, AtDir, AtRegion, AtMask, AtStmt, AtBase, AtPosts, AtProcedure, CallSite, call_of}
use Rattle.meaning_ranks.specs.of_zpl_meaning.Store.{Thing, Scalar, ArrayAt, Fixed, Names, thing_of}
use Rattle.meaning_ranks.specs.of_zpl_meaning.Context.{Setup}
use Rattle.meaning_ranks.specs.of_zpl_meaning.Calls.{actual_thing}
use Rattle.meaning_ranks.proofs.of_zpl_meaning.DepthLemmas.{Each}
use Rattle.meaning_ranks.proofs.of_zpl_meaning.ProperLemmas.{taken}
use Rattle.lower_numbers.specs.of_zpl_lowering.Where.{Stored, Numbers, Where, Next}
use Rattle.lower_numbers.specs.of_zpl_lowering.Statement.{Given, Valued, Copied, Referring, referring, copying, given_to}
use Rattle.lower_numbers.specs.of_zpl_lowering.Program.{Framed, with_scalar, with_array, Entry}
use Rattle.lowering_fits.specs.Whole.{given_frame, given_frames, local_frame, name_frames, local_frames}
use Rattle.lowering_fits.proofs.TallyLemmas.{called, tally}
use Rattle.lowering_fits.proofs.NamedLemmas.{IsBelow, AreBelow, AllBelow, names_below, both_below, OptBelow, actual_below}
use Rattle.lowering_fits.proofs.MadeFrameLemmas.{AreFine}

-- ---- numbers of calls

-- a number of a procedure with those of its calls, down a chain of so many
abbrev pub down : Program → (Routine → ℕ) → ℕ → Option Routine → ℕ
down program own depth None = 0
down program own depth (Some routine) = expanded program own depth routine

abbrev pub by_name : Program → (Routine → ℕ) → ℕ → List ℕ → ℕ
by_name program own depth text = down program own depth (routine_named program text)

abbrev pub routines_of_calls : Program → List CallSite → List Routine
routines_of_calls program calls =
    filter_map (λ call. routine_named program call.name.text) calls

pub calls_sum : (program : Program) (own : Routine → ℕ) (depth : ℕ) (sites : List Site) →
    Each HasNoFault sites →
    tally (called (by_name program own depth)) sites ≡
    sum_by (expanded program own depth)
    (routines_of_calls program (filter_map call_of sites))
calls_sum program own depth [] clean = refl
calls_sum program own depth (site ∷ sites) clean =
    by site clean.0 (calls_sum program own depth sites clean.1)
  where
    one : (found : Option Routine) (count : ℕ) → count ≡ sum_by (expanded program own depth) (routines_of_calls program (filter_map call_of sites)) →
        down program own depth found + count ≡
        sum_by (expanded program own depth) (cons_option found (routines_of_calls program (filter_map call_of sites)))
    one None count later = omega (arith, later)
    one (Some routine) count later =
        omega (
          arith,
          later,
          sum_by-cons (expanded program own depth) routine (routines_of_calls program (filter_map call_of sites)),
        )

    by : (site : Site) → HasNoFault site →
        tally (called (by_name program own depth)) sites ≡ sum_by (expanded program own depth) (routines_of_calls program (filter_map call_of sites)) →
        called (by_name program own depth) site
        (tally (called (by_name program own depth)) sites) ≡
        sum_by (expanded program own depth) (routines_of_calls program (cons_option (call_of site) (filter_map call_of sites)))
    by (AtCall reach place name actuals) none later =
        let call : CallSite = record { name = name; actuals = actuals; shapes = reach.shapes } in
        let is : call_of (AtCall reach place name actuals) ≡ Some call =
        ap (λ b. cond b (Some call) None) (taken reach is_procedure name none.known) in
        subst (λ (found : Option CallSite).
        down program own depth (routine_named program name.text)
        + tally (called (by_name program own depth)) sites ≡
        sum_by (expanded program own depth) (routines_of_calls program (cons_option found (filter_map call_of sites)))) (sym is)
        (one (routine_named program name.text)
        (tally (called (by_name program own depth)) sites) later)
    by (AtExpr reach rank expr) none later = later
    by (AtWhole reach role expr) none later = later
    by (AtNamed reach name) none later = later
    by (AtDir reach dir) none later = later
    by (AtRegion reach hint region) none later = later
    by (AtMask reach prefix mask) none later = later
    by (AtStmt reach at prefixes form) none later = later
    by (AtBase base) none later = later
    by (AtPosts reach region posts) none later = later
    by (AtProcedure procedure) none later = later

-- ---- frames whose names have numbers

abbrev pub GivensBelow : ℕ → List Given → Type 0
GivensBelow arrays [] = Unit {0}
GivensBelow arrays (Valued scalar ∷ actuals) = GivensBelow arrays actuals
GivensBelow arrays (Copied stored home ∷ actuals) = GivensBelow arrays actuals
GivensBelow arrays (Referring thing ∷ actuals) = IsBelow arrays thing × GivensBelow arrays actuals

-- what a frame has, where so many arrays had numbers before
pub record HasNames (few : ℕ) (frame : Framed) : Type 0 where
  pub more : few ≤ length frame.numbers.arrays
  pub below : AreBelow (length frame.numbers.arrays) frame.names

below_more : (few more : ℕ) (thing : Thing) → few ≤ more → IsBelow few thing → IsBelow more thing
below_more few more (Scalar place) less is = tt
below_more few more (ArrayAt place home) less is = omega (arith, less, is)
below_more few more (Fixed value) less is = tt

scalar_has : (few : ℕ) (frame : Framed) (name : Name) (scalar : ℕ) → HasNames few frame →
    HasNames few (with_scalar frame name scalar)
scalar_has few frame name scalar has = record {
  more = has.more;
  below = both_below (length frame.numbers.arrays) frame.names
      ((name.text, Scalar (length frame.numbers.scalars)) ∷ []) has.below (tt, tt);
}

array_has : (few : ℕ) (frame : Framed) (name : Name) (home : Region) (stored : Stored) →
    HasNames few frame → HasNames few (with_array frame name home stored)
array_has few frame name home stored has =
    let many = length-append frame.numbers.arrays (stored ∷ []) in
    record {
      more = omega (arith, many, has.more);
      below = both_below (length (frame.numbers.arrays ++ stored ∷ [])) frame.names
          ((name.text, ArrayAt (length frame.numbers.arrays) home) ∷ [])
          (names_below (length frame.numbers.arrays)
          (length (frame.numbers.arrays ++ stored ∷ [])) frame.names (omega (arith, many))
          has.below)
          (omega (arith, many), tt);
    }

pub givens_have : (few line : ℕ) (formals : List FormalName) (actuals : List Given) (frame : Framed)
    (next : Next) → HasNames few frame → GivensBelow few actuals →
    HasNames few (given_frames line formals actuals frame next).frame
givens_have few line [] actuals frame next has are = has
givens_have few line (formal ∷ formals) [] frame next has are = has
givens_have few line (formal ∷ formals) (Valued scalar ∷ actuals) frame next has are =
    givens_have few line formals actuals (with_scalar frame formal.name scalar) next
    (scalar_has few frame formal.name scalar has) are
givens_have few line (formal ∷ formals) (Copied from home ∷ actuals) frame next has are =
    let one = given_frame line formal.name (Copied from home) frame next in
    givens_have few line formals actuals one.frame one.next
    (array_has few frame formal.name home
    (record { array = next.arrays; storage = from.storage }) has) are
givens_have few line (formal ∷ formals) (Referring thing ∷ actuals) frame next has are =
    givens_have few line formals actuals
    (record frame { names = frame.names ++ (formal.name.text, thing) ∷ [] }) next
    (record {
      more = has.more;
      below = both_below (length frame.numbers.arrays) frame.names ((formal.name.text, thing) ∷ [])
          has.below (below_more few (length frame.numbers.arrays) thing has.more are.0, tt);
    }) are.1

names_have : (few : ℕ) (setup : Setup) (entry : Entry) (shape : Bracket) (names : List Name)
    (frame : Framed) (next : Next) → HasNames few frame →
    HasNames few (name_frames setup entry shape names frame next).frame
names_have few setup entry shape [] frame next has = has
names_have few setup entry NoBracket (name ∷ names) frame next has =
    let one = local_frame setup entry NoBracket name frame next in
    names_have few setup entry NoBracket names one.frame one.next
    (scalar_has few frame name next.scalars has)
names_have few setup entry (Bracketed inner) (name ∷ names) frame next has =
    let one = local_frame setup entry (Bracketed inner) name frame next in
    names_have few setup entry (Bracketed inner) names one.frame one.next
    (array_has few frame name _ _ has)

pub locals_have : (few : ℕ) (setup : Setup) (entry : Entry) (vars : List VarDef) (frame : Framed)
    (next : Next) → HasNames few frame → HasNames few (local_frames setup entry vars frame next).frame
locals_have few setup entry [] frame next has = has
locals_have few setup entry (var ∷ vars) frame next has =
    let one = name_frames setup entry var.shape var.names frame next in
    locals_have few setup entry vars one.frame one.next
    (names_have few setup entry var.shape var.names frame next has)

-- ---- names in reach of a body: its own, and the global ones

opt_more : (few more : ℕ) (thing : Option Thing) → few ≤ more → OptBelow few thing →
    OptBelow more thing
opt_more few more None less is = tt
opt_more few more (Some thing) less is = below_more few more thing less is

pub body_below : (few more : ℕ) (names globals : Names) → few ≤ more → AreBelow more names →
    AllBelow few (record { names = globals }) → AllBelow more (record { names = names ++ globals })
body_below few more [] globals less own others text =
    opt_more few more (thing_of (record { names = globals }) text) less (others text)
body_below few more (entry ∷ names) globals less own others text =
    by (bytes_eq entry.0 text) (body_below few more names globals less own.1 others text)
  where
    by : (b : Bool) → OptBelow more (thing_of (record { names = names ++ globals }) text) →
        OptBelow more (option_map (λ entry. entry.1)
        (cond b (Some entry) (find (λ entry. bytes_eq entry.0 text) (names ++ globals))))
    by true later = own.0
    by false later = later

-- ---- what parameters take

referring_below : (arrays : ℕ) (thing : Option Thing) (rest : List Given) → OptBelow arrays thing →
    GivensBelow arrays rest → GivensBelow arrays (referring thing ++ rest)
referring_below arrays None rest is are = are
referring_below arrays (Some thing) rest is are = (is, are)

abbrev copied_of : Region → Option Stored → List Given
copied_of home None = []
copied_of home (Some stored) = Copied stored home ∷ []

copied_is : (numbers : Numbers) (place : ℕ) (home : Region) →
    copying numbers (Some (ArrayAt place home)) ≡ copied_of home (slice_get numbers.arrays place)
copied_is numbers place home = by (slice_get numbers.arrays place) refl
  where
    by : (found : Option Stored) → slice_get numbers.arrays place ≡ found →
        copying numbers (Some (ArrayAt place home)) ≡ copied_of home found
    by None is = search (rules, is)
    by (Some stored) is = search (rules, is)

copying_below : (arrays : ℕ) (numbers : Numbers) (thing : Option Thing) (rest : List Given) →
    GivensBelow arrays rest → GivensBelow arrays (copying numbers thing ++ rest)
copying_below arrays numbers None rest are = are
copying_below arrays numbers (Some (Scalar place)) rest are = are
copying_below arrays numbers (Some (Fixed value)) rest are = are
copying_below arrays numbers (Some (ArrayAt place home)) rest are =
    subst (λ (some : List Given). GivensBelow arrays (some ++ rest))
    (sym (copied_is numbers place home)) (by (slice_get numbers.arrays place))
  where
    by : (found : Option Stored) → GivensBelow arrays (copied_of home found ++ rest)
    by None = are
    by (Some stored) = are

pub givens_below : (arrays : ℕ) (w : Where) → AllBelow arrays w.environment → (scalar : ℕ)
    (formals : List Formal) (actuals : Exprs) → GivensBelow arrays (given_to w scalar formals actuals)
givens_below arrays w below scalar [] actuals = tt
givens_below arrays w below scalar (formal ∷ formals) NoExpr = tt
givens_below arrays w below scalar (ScalarFormal false base ∷ formals) (ThenExpr first rest) =
    givens_below arrays w below (suc scalar) formals rest
givens_below arrays w below scalar (ScalarFormal true base ∷ formals) (ThenExpr first rest) =
    referring_below arrays (actual_thing w.environment first) (given_to w scalar formals rest)
    (actual_below arrays w.environment first below)
    (givens_below arrays w below scalar formals rest)
givens_below arrays w below scalar (ArrayFormal true base shape ∷ formals) (ThenExpr first rest) =
    referring_below arrays (actual_thing w.environment first) (given_to w scalar formals rest)
    (actual_below arrays w.environment first below)
    (givens_below arrays w below scalar formals rest)
givens_below arrays w below scalar (ArrayFormal false base shape ∷ formals) (ThenExpr first rest) =
    copying_below arrays w.numbers (actual_thing w.environment first)
    (given_to w scalar formals rest) (givens_below arrays w below scalar formals rest)

abbrev pub AllFine : (Region → Type 0) → Numbers → Type 0
AllFine Fine numbers =
    (place : ℕ) (stored : Stored) → slice_get numbers.arrays place ≡ Some stored →
    Fine stored.storage

referring_fine : (Fine : Region → Type 0) (thing : Option Thing) (rest : List Given) →
    AreFine Fine rest → AreFine Fine (referring thing ++ rest)
referring_fine Fine None rest are = are
referring_fine Fine (Some thing) rest are = are

copying_fine : (Fine : Region → Type 0) (numbers : Numbers) (thing : Option Thing)
    (rest : List Given) → AllFine Fine numbers → AreFine Fine rest →
    AreFine Fine (copying numbers thing ++ rest)
copying_fine Fine numbers None rest fine are = are
copying_fine Fine numbers (Some (Scalar place)) rest fine are = are
copying_fine Fine numbers (Some (Fixed value)) rest fine are = are
copying_fine Fine numbers (Some (ArrayAt place home)) rest fine are =
    subst (λ (some : List Given). AreFine Fine (some ++ rest))
    (sym (copied_is numbers place home))
    (by (slice_get numbers.arrays place) (λ stored. fine place stored))
  where
    by : (found : Option Stored) → ((stored : Stored) → found ≡ Some stored → Fine stored.storage) →
        AreFine Fine (copied_of home found ++ rest)
    by None is = are
    by (Some stored) is = (is stored refl, are)

pub givens_fine : (Fine : Region → Type 0) (w : Where) → AllFine Fine w.numbers → (scalar : ℕ)
    (formals : List Formal) (actuals : Exprs) → AreFine Fine (given_to w scalar formals actuals)
givens_fine Fine w fine scalar [] actuals = tt
givens_fine Fine w fine scalar (formal ∷ formals) NoExpr = tt
givens_fine Fine w fine scalar (ScalarFormal false base ∷ formals) (ThenExpr first rest) =
    givens_fine Fine w fine (suc scalar) formals rest
givens_fine Fine w fine scalar (ScalarFormal true base ∷ formals) (ThenExpr first rest) =
    referring_fine Fine (actual_thing w.environment first) (given_to w scalar formals rest)
    (givens_fine Fine w fine scalar formals rest)
givens_fine Fine w fine scalar (ArrayFormal true base shape ∷ formals) (ThenExpr first rest) =
    referring_fine Fine (actual_thing w.environment first) (given_to w scalar formals rest)
    (givens_fine Fine w fine scalar formals rest)
givens_fine Fine w fine scalar (ArrayFormal false base shape ∷ formals) (ThenExpr first rest) =
    copying_fine Fine w.numbers (actual_thing w.environment first) (given_to w scalar formals rest)
    fine (givens_fine Fine w fine scalar formals rest)
