-- The places of a call's arrays: those that were handed on, and new ones, whose numbers were free.
use Rattle.std.proofs.Common.{◌≡◌, ℕ, zero, suc, ◌+◌, ◌<◌, ◌≤◌, List, [], ◌∷◌, ◌++◌, length, Some, subst, arith, ◌⊎◌, inl, inr}
use Rattle.std.specs.Prelude.{slice_get}
use Rattle.zpl_region.specs.declared.regions.Region.{Region}
use Rattle.zpl_arrays.specs.Array.{Array}
use Rattle.zpl_tree.specs.Syntax.{Name, Bracket, NoBracket, Bracketed, VarDef}
use Rattle.zpl_names.specs.Declared.{Routine}
use Rattle.zpl_names.specs.Expansion.{FormalName, formal_names}
use Rattle.zpl_meaning.specs.Context.{Setup}
use Rattle.lowering_fits.specs.of_zpl_lowering.Where.{Stored, Next}
use Rattle.lowering_fits.specs.of_zpl_lowering.Statement.{Calling, Given, Valued, Copied, Referring}
use Rattle.lowering_fits.specs.of_zpl_lowering.Program.{Entry, Framed, arrays_from}
use Rattle.lowering_fits.specs.Whole.{given_frames, local_frame, name_frames, local_frames, body_frames}

-- a global array has its place for its number
pub place_is : (k : ℕ) (arrays : List Array) (place : ℕ) (stored : Stored) →
    slice_get (arrays_from k arrays) place ≡ Some stored →
    (stored.array ≡ k + place) × (place < length arrays)
place_is k [] place stored found = let no : ⊥ = cc in absurd no
place_is k (array ∷ arrays) zero stored found = (
  subst (λ (one : Stored). one.array ≡ k + 0) (same _ stored found) (omega arith),
  omega arith,
)
  where
    same : (one other : Stored) → Some one ≡ Some other → one ≡ other
    same one other e = cc
place_is k (array ∷ arrays) (suc place) stored found =
    let later = place_is (suc k) arrays place stored found in
    (omega (arith, later.0), omega (arith, later.1))

last_or_there : (xs : List Stored) (x : Stored) (place : ℕ) (stored : Stored) →
    slice_get (xs ++ x ∷ []) place ≡ Some stored →
    (slice_get xs place ≡ Some stored) ⊎ (x ≡ stored)
last_or_there [] x zero stored found = let same : x ≡ stored = cc in inr same
last_or_there [] x (suc place) stored found = let no : ⊥ = cc in absurd no
last_or_there (y ∷ xs) x zero stored found = inl found
last_or_there (y ∷ xs) x (suc place) stored found = last_or_there xs x place stored found

module _ (old : List Stored) (first : ℕ) where
  -- what has a place was there, or has a number from the first one on that isn't free any more
  abbrev pub IsOldOrNew : ℕ → ℕ → Stored → Type 0
  IsOldOrNew bound place stored =
      (slice_get old place ≡ Some stored) ⊎ ((first ≤ stored.array) × (stored.array < bound))

  pub record AreOldOrNew (arrays : List Stored) (bound : ℕ) : Type 0 where
    pub later : first ≤ bound
    pub each : (place : ℕ) (stored : Stored) → slice_get arrays place ≡ Some stored →
        IsOldOrNew bound place stored

  one_new : (arrays : List Stored) (bound : ℕ) (storage : Region) → AreOldOrNew arrays bound →
      AreOldOrNew (arrays ++ record { array = bound; storage = storage } ∷ []) (bound + 1)
  one_new arrays bound storage are = record {
    later = omega (arith, are.later);
    each = λ place stored found. by place stored (last_or_there arrays one place stored found);
  }
    where
      one : Stored
      one = record { array = bound; storage = storage }

      wider : (place : ℕ) (stored : Stored) → IsOldOrNew bound place stored →
          IsOldOrNew (bound + 1) place stored
      wider place stored (inl there) = inl there
      wider place stored (inr new) = inr (new.0, omega (arith, new.1))

      by : (place : ℕ) (stored : Stored) →
          (slice_get arrays place ≡ Some stored) ⊎ (one ≡ stored) →
          IsOldOrNew (bound + 1) place stored
      by place stored (inl there) = wider place stored (are.each place stored there)
      by place stored (inr last) =
          inr (subst (λ (other : Stored). (first ≤ other.array) × (other.array < bound + 1)) last
          (omega (arith, are.later), omega arith))

  same_bound : (arrays : List Stored) (bound : ℕ) → AreOldOrNew arrays bound →
      AreOldOrNew arrays (bound + 0)
  same_bound arrays bound are = subst (AreOldOrNew arrays) (omega arith) are

  given_places : (line : ℕ) (formals : List FormalName) (actuals : List Given) (frame : Framed)
      (next : Next) → AreOldOrNew frame.numbers.arrays next.arrays →
      (let last = given_frames line formals actuals frame next in
      AreOldOrNew last.frame.numbers.arrays last.next.arrays)
  given_places line [] actuals frame next are = are
  given_places line (formal ∷ formals) [] frame next are = are
  given_places line (formal ∷ formals) (Valued scalar ∷ actuals) frame next are =
      given_places line formals actuals _ next are
  given_places line (formal ∷ formals) (Referring thing ∷ actuals) frame next are =
      given_places line formals actuals _ next are
  given_places line (formal ∷ formals) (Copied from home ∷ actuals) frame next are =
      given_places line formals actuals _ _
      (one_new frame.numbers.arrays next.arrays from.storage are)

  module _ (setup : Setup) (entry : Entry) where
    name_places : (shape : Bracket) (names : List Name) (frame : Framed) (next : Next) →
        AreOldOrNew frame.numbers.arrays next.arrays →
        (let last = name_frames setup entry shape names frame next in
        AreOldOrNew last.frame.numbers.arrays last.next.arrays)
    name_places NoBracket [] frame next are = are
    name_places (Bracketed inner) [] frame next are = are
    name_places NoBracket (name ∷ names) frame next are =
        let one = local_frame setup entry NoBracket name frame next in
        name_places NoBracket names one.frame one.next
        (same_bound frame.numbers.arrays next.arrays are)
    name_places (Bracketed inner) (name ∷ names) frame next are =
        let one = local_frame setup entry (Bracketed inner) name frame next in
        name_places (Bracketed inner) names one.frame one.next
        (one_new frame.numbers.arrays next.arrays _ are)

    local_places : (vars : List VarDef) (frame : Framed) (next : Next) →
        AreOldOrNew frame.numbers.arrays next.arrays →
        (let last = local_frames setup entry vars frame next in
        AreOldOrNew last.frame.numbers.arrays last.next.arrays)
    local_places [] frame next are = are
    local_places (var ∷ vars) frame next are =
        let one = name_frames setup entry var.shape var.names frame next in
        local_places vars one.frame one.next (name_places var.shape var.names frame next are)

-- behind its parameters and local variables a call has the places that it was given, and new ones
pub body_places : (setup : Setup) (entry : Entry) (routine : Routine) (calling : Calling)
    (next : Next) →
    (let last = body_frames setup entry routine calling next in
    AreOldOrNew calling.numbers.arrays next.arrays last.frame.numbers.arrays last.next.arrays)
body_places setup entry routine calling next =
    let given = given_frames entry.line (formal_names routine.procedure.params) calling.actuals
    (record { names = []; numbers = calling.numbers }) next in
    local_places calling.numbers.arrays next.arrays setup entry routine.procedure.locals given.frame
    given.next
    (given_places calling.numbers.arrays next.arrays entry.line
    (formal_names routine.procedure.params) calling.actuals
    (record { names = []; numbers = calling.numbers }) next
    (record {
      later = omega arith;
      each = λ place stored found. inl found;
    }))
