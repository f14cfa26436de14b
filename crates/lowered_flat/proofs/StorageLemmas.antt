-- The storages of a call's arrays are boxes within the limit.
use Rattle.std.proofs.Common.{◌≡◌, ℕ, zero, suc, List, [], ◌∷◌, ◌++◌, map, length, refl, ap, subst}
use Rattle.std.specs.Prelude.{Some, slice_get}
use Rattle.zpl_arrays.specs.Array.{Array}
use Rattle.zpl_region.specs.declared.regions.Region.{Region}
use Rattle.zpl_tree.specs.Syntax.{Name, Bracket, NoBracket, Bracketed, VarDef}
use Rattle.zpl_names.specs.Scope.{Scope}
use Rattle.zpl_names.specs.Expansion.{FormalName}
use Rattle.lowering_fits.specs.of_zpl_meaning.Context.{Setup}
use Rattle.lowering_fits.specs.of_zpl_meaning.Variables.{storage_box}
use Rattle.lowering_fits.specs.of_zpl_lowering.Where.{Stored, Next}
use Rattle.lowering_fits.specs.of_zpl_lowering.Statement.{Given, Valued, Copied, Referring}
use Rattle.lowering_fits.specs.of_zpl_lowering.Program.{Framed, Entry, arrays_from, with_scalar}
use Rattle.lowering_fits.specs.Declarations.{FitsDeclared, FitAllDeclared}
use Rattle.lowering_fits.specs.Storages.{AllKept, AllStorages, IsStorage}
use Rattle.lowering_fits.specs.Whole.{given_frame, given_frames, local_frame, local_frames, name_frames}
use Rattle.lowering_fits.proofs.FrameLemmas.{kept_both}
use Rattle.lowering_fits.proofs.MadeLemmas.{AllOf}
use Rattle.lowering_fits.proofs.MadeFrameLemmas.{AreFine, FineBox, FineVars}
use Rattle.lowering_fits.proofs.ProgramFitLemmas.{AllBoxes}

pub kept_at : (xs : List Stored) (place : ℕ) (stored : Stored) → AllKept xs →
    slice_get xs place ≡ Some stored → IsStorage stored.storage
kept_at [] place stored are is = let no : ⊥ = cc in absurd no
kept_at (x ∷ xs) zero stored are is =
    let same : x ≡ stored = cc in subst (λ (one : Stored). IsStorage one.storage) same are.0
kept_at (x ∷ xs) (suc place) stored are is = kept_at xs place stored are.1 is

pub givens_kept : (line : ℕ) (formals : List FormalName) (givens : List Given) (frame : Framed)
    (next : Next) → AreFine IsStorage givens → AllKept frame.numbers.arrays →
    AllKept (given_frames line formals givens frame next).frame.numbers.arrays
givens_kept line [] givens frame next fine kept = kept
givens_kept line (formal ∷ formals) [] frame next fine kept = kept
givens_kept line (formal ∷ formals) (Valued scalar ∷ givens) frame next fine kept =
    givens_kept line formals givens (with_scalar frame formal.name scalar) next fine kept
givens_kept line (formal ∷ formals) (Copied from home ∷ givens) frame next fine kept =
    let one = given_frame line formal.name (Copied from home) frame next in
    givens_kept line formals givens one.frame one.next fine.1
    (kept_both frame.numbers.arrays (record { array = next.arrays; storage = from.storage } ∷ [])
    kept (fine.0, tt))
givens_kept line (formal ∷ formals) (Referring thing ∷ givens) frame next fine kept =
    let one = given_frame line formal.name (Referring thing) frame next in
    givens_kept line formals givens one.frame one.next fine kept

names_kept : (setup : Setup) (entry : Entry) (shape : Bracket) (names : List Name)
    (frame : Framed) (next : Next) → FineBox IsStorage setup shape →
    AllKept frame.numbers.arrays →
    AllKept (name_frames setup entry shape names frame next).frame.numbers.arrays
names_kept setup entry shape [] frame next fine kept = kept
names_kept setup entry NoBracket (name ∷ names) frame next fine kept =
    let one = local_frame setup entry NoBracket name frame next in
    names_kept setup entry NoBracket names one.frame one.next fine kept
names_kept setup entry (Bracketed inner) (name ∷ names) frame next fine kept =
    let one = local_frame setup entry (Bracketed inner) name frame next in
    let storage = storage_box setup.known setup.borders inner in
    names_kept setup entry (Bracketed inner) names one.frame one.next fine
    (kept_both frame.numbers.arrays (record { array = next.arrays; storage = storage } ∷ []) kept
    (fine, tt))

pub locals_kept : (setup : Setup) (entry : Entry) (vars : List VarDef) (frame : Framed)
    (next : Next) → FineVars IsStorage setup vars → AllKept frame.numbers.arrays →
    AllKept (local_frames setup entry vars frame next).frame.numbers.arrays
locals_kept setup entry [] frame next fine kept = kept
locals_kept setup entry (var ∷ vars) frame next fine kept =
    let one = name_frames setup entry var.shape var.names frame next in
    locals_kept setup entry vars one.frame one.next fine.1
    (names_kept setup entry var.shape var.names frame next fine.0 kept)

box_fine : (setup : Setup) (scope : Scope) (shape : Bracket) → FitsDeclared setup scope shape →
    FineBox IsStorage setup shape
box_fine setup scope NoBracket fits = tt
box_fine setup scope (Bracketed inner) fits = fits.3

pub vars_fine : (setup : Setup) (scope : Scope) (vars : List VarDef) →
    FitAllDeclared setup scope vars → FineVars IsStorage setup vars
vars_fine setup scope [] fits = tt
vars_fine setup scope (var ∷ vars) fits =
    (box_fine setup scope var.shape fits.0, vars_fine setup scope vars fits.1)

-- ---- lists of storages

pub boxes_fine : (arrays : List Array) → AllBoxes arrays →
    AllOf IsStorage (map (λ array. array.storage) arrays)
boxes_fine [] are = tt
boxes_fine (array ∷ arrays) are = (are.0, boxes_fine arrays are.1)

pub boxes_kept : (k : ℕ) (arrays : List Array) → AllBoxes arrays → AllKept (arrays_from k arrays)
boxes_kept k [] are = tt
boxes_kept k (array ∷ arrays) are = (are.0, boxes_kept (suc k) arrays are.1)

pub storages_both : (xs ys : List Region) → AllOf IsStorage xs → AllOf IsStorage ys →
    AllStorages (xs ++ ys)
storages_both [] [] first rest = tt
storages_both [] (y ∷ ys) first rest = (rest.0, storages_both [] ys tt rest.1)
storages_both (x ∷ xs) ys first rest = (first.0, storages_both xs ys first.1 rest)

pub arrays_many : (k : ℕ) (arrays : List Array) → length (arrays_from k arrays) ≡ length arrays
arrays_many k [] = refl
arrays_many k (array ∷ arrays) = ap suc (arrays_many (suc k) arrays)
