-- Numbers of arrays, each of which stands for one array of the expanded program.
use Rattle.std.specs.Prelude.{◌≡◌, ℕ, ◌<◌, ◌≤◌, true, false, List, [], ◌∷◌, ◌++◌, Option, Some, None, slice_get}
use Rattle.zpl_region.specs.declared.regions.Region.{Region}
use Rattle.zpl_names.specs.Kinds as kind
use Rattle.zpl_names.specs.Kinds.{Kind, Shape, Formal, ScalarFormal, ArrayFormal}
use Rattle.zpl_names.specs.Scope.{kind_in, kind_of, is_array}
use Rattle.zpl_names.specs.Declared.{globals_of, scope_of}
use Rattle.zpl_names.specs.Expansion.{ExpandedArray, Instance, bound_in, global_array}
use Rattle.zpl_tree.specs.Syntax.{Name, Base, Inner, Bracket, NoBracket, Bracketed, VarDef, Decl, Config, Constant, Regions, Directions, Vars, Defined, Expr, Named, Exprs, NoExpr, ThenExpr, Program}
use Rattle.zpl_binding.specs.Regions.{Known}
use Rattle.zpl_binding.specs.Storages.{Border}
use Rattle.zpl_meaning.specs.Variables.{home_box, storage_box}
use Rattle.zpl_meaning.specs.Store.{Thing, Scalar, ArrayAt, Names}
use Rattle.lowering_fits.specs.Reach.{named_thing}
use Rattle.lowering_fits.specs.of_zpl_lowering.Where.{Stored}

-- What the store's places are in the tables, what array each number stands for, and the first
-- number that stands for none yet.
pub record Numbering : Type 0 where
  pub arrays : List Stored
  pub of : ℕ → ExpandedArray
  pub bound : ℕ

-- Numbers that came before stand for what they did.
pub record IsLater (few more : Numbering) : Type 0 where
  pub arrays : (place : ℕ) (stored : Stored) → slice_get few.arrays place ≡ Some stored →
      slice_get more.arrays place ≡ Some stored
  pub of : (number : ℕ) → number < few.bound → more.of number ≡ few.of number
  pub bound : few.bound ≤ more.bound

-- what isn't a variable
abbrev pub IsFixedKind : Option Kind → Type 0
IsFixedKind (Some (kind.Scalar base)) = ⊥
IsFixedKind (Some (kind.Array base shape)) = ⊥
IsFixedKind other = Unit {0}

abbrev pub IsFixedThing : Option Thing → Type 0
IsFixedThing (Some (Scalar place)) = ⊥
IsFixedThing (Some (ArrayAt place home)) = ⊥
IsFixedThing other = Unit {0}

-- What is asked of an array's offset, its home box and its storage is given from outside.
module _ (Sound : ℕ → Region → Region → Type 0) where
  -- a place has a number, which stands for this array; its home box and its storage are sound for the
  -- array's offset
  pub record IsNumber (numbering : Numbering) (place : ℕ) (home : Region) (array : ExpandedArray) :
      Type 0 where
    pub stored : Stored
    pub there : slice_get numbering.arrays place ≡ Some stored
    pub below : stored.array < numbering.bound
    pub stands : numbering.of stored.array ≡ array
    pub sound : Sound array.storage home stored.storage

  -- an own name of a call: its kind, what it stands for, and the array that it is bound to
  pub data IsOwn (numbering : Numbering) : Option Kind → Option Thing → Option ExpandedArray → Type 0
    where
      NotOwn : IsOwn numbering None None None
      OwnScalar : (base : Base) (place : ℕ) →
          IsOwn numbering (Some (kind.Scalar base)) (Some (Scalar place)) None
      OwnArray : (base : Base) (shape : Option Shape) (place : ℕ) (home : Region)
          (array : ExpandedArray) → IsNumber numbering place home array →
          IsOwn numbering (Some (kind.Array base shape)) (Some (ArrayAt place home)) (Some array)

  -- a global name, with its array if it were one
  pub data IsGlobal (numbering : Numbering) : Option Kind → Option Thing → Option ExpandedArray →
      Type 0 where
    GlobalScalar : (base : Base) (place : ℕ) (array : Option ExpandedArray) →
        IsGlobal numbering (Some (kind.Scalar base)) (Some (Scalar place)) array
    GlobalArray : (base : Base) (shape : Option Shape) (place : ℕ) (home : Region)
        (array : ExpandedArray) → IsNumber numbering place home array →
        IsGlobal numbering (Some (kind.Array base shape)) (Some (ArrayAt place home)) (Some array)
    GlobalOther : (kind : Option Kind) (thing : Option Thing) (array : Option ExpandedArray) →
        IsFixedKind kind → IsFixedThing thing → IsGlobal numbering kind thing array

  -- a name in reach, with the array that it stands for
  pub data IsReached (numbering : Numbering) : Option Kind → Option Thing → Option ExpandedArray →
      Type 0 where
    ReachedScalar : (base : Base) (place : ℕ) →
        IsReached numbering (Some (kind.Scalar base)) (Some (Scalar place)) None
    ReachedArray : (base : Base) (shape : Option Shape) (place : ℕ) (home : Region)
        (array : ExpandedArray) → IsNumber numbering place home array →
        IsReached numbering (Some (kind.Array base shape)) (Some (ArrayAt place home)) (Some array)
    ReachedOther : (kind : Option Kind) (thing : Option Thing) →
        IsFixedKind kind → IsFixedThing thing → IsReached numbering kind thing None

  -- In a call the own names, and the global ones, stand for arrays of the expanded program.
  pub record IsFramed (program : Program) (instance : Instance) (numbering : Numbering)
      (names globals : Names) : Type 0 where
    pub own : (text : List ℕ) → IsOwn numbering (kind_in instance.routine.own text)
        (named_thing names text) (bound_in (instance.referred ++ instance.own) text)
    pub global : (text : List ℕ) → IsGlobal numbering (kind_in (globals_of program) text)
        (named_thing globals text) (global_array program text)

-- ---- declarations that are sound
module _ (Sound : ℕ → Region → Region → Type 0) (known : Known) (borders : List Border) where
  abbrev pub SoundNames : Inner → List Name → Type 0
  SoundNames inner [] = Unit {0}
  SoundNames inner (name ∷ names) =
      Sound name.at (home_box known inner) (storage_box known borders inner)
      × SoundNames inner names

  abbrev pub SoundOver : Bracket → List Name → Type 0
  SoundOver NoBracket names = Unit {0}
  SoundOver (Bracketed inner) names = SoundNames inner names

  abbrev pub SoundVars : List VarDef → Type 0
  SoundVars [] = Unit {0}
  SoundVars (var ∷ vars) = SoundOver var.shape var.names × SoundVars vars

  abbrev pub SoundDecls : List Decl → Type 0
  SoundDecls [] = Unit {0}
  SoundDecls (Vars vars ∷ decls) = SoundVars vars × SoundDecls decls
  SoundDecls (Config defines ∷ decls) = SoundDecls decls
  SoundDecls (Constant defines ∷ decls) = SoundDecls decls
  SoundDecls (Regions regions ∷ decls) = SoundDecls decls
  SoundDecls (Directions directions ∷ decls) = SoundDecls decls
  SoundDecls (Defined procedure ∷ decls) = SoundDecls decls

-- ---- what a call hands on: to parameters that are arrays names of arrays, and to others none
abbrev pub IsTaken : Program → Instance → Formal → Expr → Type 0
IsTaken program caller (ScalarFormal false base) (Named at name) =
    is_array (kind_of (scope_of program caller.routine) name) ≡ false
IsTaken program caller (ScalarFormal false base) actual = Unit {0}
IsTaken program caller (ScalarFormal true base) (Named at name) =
    (own : Base) × (kind_of (scope_of program caller.routine) name ≡ Some (kind.Scalar own))
IsTaken program caller (ScalarFormal true base) actual = ⊥
IsTaken program caller (ArrayFormal by_ref base shape) (Named at name) =
    is_array (kind_of (scope_of program caller.routine) name) ≡ true
IsTaken program caller (ArrayFormal by_ref base shape) actual = ⊥

abbrev pub AreTaken : Program → Instance → List Formal → Exprs → Type 0
AreTaken program caller [] NoExpr = Unit {0}
AreTaken program caller (formal ∷ formals) (ThenExpr actual actuals) =
    IsTaken program caller formal actual × AreTaken program caller formals actuals
AreTaken program caller formals actuals = ⊥
