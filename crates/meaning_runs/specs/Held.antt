-- What a store has.
use Rattle.std.specs.Prelude.{◌≢◌, ℕ, ◌<◌, length, All, Option, Some, None}
use Rattle.zpl_meaning.specs.Store.{Thing, Scalar, ArrayAt, Fixed, Names, Store}
use Rattle.zpl_meaning.specs.Context.{Mask, Over, Currents, Place}

-- the scalar, or the array, at the place that a name stands for
abbrev pub HasThing : Store → Thing → Type 0
HasThing store (Scalar place) = place < length store.scalars
HasThing store (ArrayAt place home) = place < length store.arrays
HasThing store (Fixed value) = Unit {0}

abbrev pub HasNames : Store → Names → Type 0
HasNames store names = All (λ entry. HasThing store entry.1) names

abbrev pub HasMask : Store → Option Mask → Type 0
HasMask store None = Unit {0}
HasMask store (Some mask) = mask.array < length store.arrays

abbrev pub HasMaskOf : Store → Option Over → Type 0
HasMaskOf store None = Unit {0}
HasMaskOf store (Some over) = HasMask store over.mask

-- the arrays of all masks
pub record HasMasks (store : Store) (currents : Currents) : Type 0 where
  pub one : HasMaskOf store currents.one
  pub two : HasMaskOf store currents.two
  pub three : HasMaskOf store currents.three

-- of a place: what each name there stands for, and the mask of each current region
pub record HasPlaces (store : Store) (place : Place) : Type 0 where
  pub names : HasNames store place.environment.names
  pub masks : HasMasks store place.currents

-- ---- the answer of a procedure

-- it isn't the scalar at the place
abbrev pub IsApart : ℕ → Thing → Type 0
IsApart place (Scalar other) = other ≢ place
IsApart place (ArrayAt other home) = Unit {0}
IsApart place (Fixed value) = Unit {0}

-- the scalar that takes it is there, and no name stands for it
pub record HasResult (store : Store) (place : Place) : Type 0 where
  pub there : place.result < length store.scalars
  pub apart : All (λ entry. IsApart place.result entry.1) place.environment.names
