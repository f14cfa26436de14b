-- What a procedure that is entered has of its own.
use Rattle.std.specs.Prelude.{◌≡◌, ℕ, suc, ◌≤◌, Bool, true, false, pos, List, [], ◌∷◌, ◌++◌, length}
use Rattle.zpl_tree.specs.Syntax.{Bracket, NoBracket, Bracketed, VarDef}
use Rattle.lowering_fits.specs.of_zpl_meaning.Variables.{Frame}
use Rattle.lowering_fits.specs.of_zpl_meaning.Calls as mean
use Rattle.lowering_fits.specs.of_zpl_meaning.Calls.{Handed}
use Rattle.lowering_fits.specs.of_flat_form.Whole.{Whole}
use Rattle.lowering_fits.specs.of_zpl_lowering.Where.{Stored}
use Rattle.lowering_fits.specs.of_zpl_lowering.Statement.{Given, Valued, Copied, Referring}
use Rattle.lowering_fits.specs.of_zpl_lowering.Program.{Framed}
use Rattle.lowering_runs.specs.Seen.{scalar_in, array_in, Spot, numbered, seen_thing, seen_names, seen_store}
use Rattle.lowering_runs.specs.Stands.{Rises, IsKnown, AreKnown}

-- the meaning's frame
abbrev pub seen_frame : List Spot → Framed → Whole → Frame
seen_frame spots framed whole = record {
  names = seen_names spots framed.names;
  store = seen_store spots framed.numbers.arrays whole;
}

-- what a parameter takes
abbrev pub seen_given : List Spot → Whole → Given → Handed
seen_given spots whole (Valued scalar) = mean.Copied (scalar_in whole scalar)
seen_given spots whole (Copied stored home) = mean.CopiedArray (array_in whole stored.array) home
seen_given spots whole (Referring thing) = mean.Referred (seen_thing spots thing)

abbrev pub AreAbove : ℕ → List ℕ → Type 0
AreAbove low [] = Unit {0}
AreAbove low (k ∷ numbers) = (low ≤ k) × AreAbove low numbers

-- Of a frame over the store of the caller: its own scalars have numbers that were free there, and
-- rise, below others.
pub record Framing (base : List Spot) (low : ℕ) (arrays : List Stored) (framed : Framed)
    (spots : List Spot) (bound : ℕ) : Type 0 where
  pub more : List Spot
  pub is : spots ≡ base ++ more
  pub above : AreAbove low (numbered more)
  pub numbers : numbered spots ≡ framed.numbers.scalars
  pub arrays_are : framed.numbers.arrays ≡ arrays
  pub rises : Rises 0 (numbered spots) bound
  pub known : AreKnown (length (numbered spots)) (length arrays) framed.names

-- values for parameters stand in scalars that rise, and what is referred to is there
abbrev pub AreGiven : ℕ → ℕ → ℕ → List Given → ℕ → Type 0
AreGiven scalars arrays from [] to = from ≤ to
AreGiven scalars arrays from (Valued k ∷ givens) to =
    (from ≤ k) × AreGiven scalars arrays (suc k) givens to
AreGiven scalars arrays from (Referring thing ∷ givens) to =
    IsKnown scalars arrays thing × AreGiven scalars arrays from givens to
AreGiven scalars arrays from (Copied stored home ∷ givens) to = ⊥

-- local variables that are scalars
abbrev pub IsScalarShape : Bracket → Type 0
IsScalarShape NoBracket = Unit {0}
IsScalarShape (Bracketed inner) = ⊥

abbrev pub AreScalarLocals : List VarDef → Type 0
AreScalarLocals [] = Unit {0}
AreScalarLocals (var ∷ vars) = IsScalarShape var.shape × AreScalarLocals vars

-- where they aren't cleared, they are 0 already
abbrev pub IsFresh : Bool → ℕ → Whole → Type 0
IsFresh true low whole = Unit {0}
IsFresh false low whole = (k : ℕ) → low ≤ k → scalar_in whole k ≡ pos 0
