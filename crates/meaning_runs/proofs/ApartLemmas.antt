-- The scalar that is added for the answer of a call is one that no name in the procedure stands
-- for.
use Rattle.std.proofs.Common.{◌≡◌, ℕ, ◌+◌, ◌<◌, ℤ, pos, List, [], ◌∷◌, ◌++◌}
use Rattle.std.proofs.Common.{length, arith, length-append}
use Rattle.std.specs.List.{AllByRecursion}
use Rattle.zpl_meaning.specs.of_zpl_arrays.Array.{Array}
use Rattle.zpl_region.specs.declared.regions.Region.{Region}
use Rattle.zpl_meaning.specs.of_zpl_tree.Syntax.{Name, Bracket, NoBracket, Bracketed, VarDef}
use Rattle.zpl_meaning.specs.of_zpl_names.Declared.{Routine}
use Rattle.zpl_meaning.specs.of_zpl_names.Expansion.{FormalName, formal_names}
use Rattle.zpl_meaning.specs.of_zpl_binding.Regions.{Known}
use Rattle.zpl_meaning.specs.of_zpl_binding.Storages.{Border}
use Rattle.zpl_meaning.specs.Store.{Thing, Scalar, ArrayAt, Fixed, Names, Store}
use Rattle.zpl_meaning.specs.Context.{Setup}
use Rattle.zpl_meaning.specs.Variables.{Frame, with_thing, with_scalar_named, with_array_named}
use Rattle.zpl_meaning.specs.Variables.{with_name, with_names, with_variables}
use Rattle.zpl_meaning.specs.Calls.{Handed, Copied, CopiedArray, Referred, with_handed}
use Rattle.zpl_meaning.specs.Calls.{with_formals}
use Rattle.zpl_meaning.specs.Calls.{entered}
use Rattle.meaning_runs.specs.Held.{HasThing, IsApart}
use Rattle.meaning_runs.proofs.HeldLemmas.{HasEach, HasHanded, HasAllHanded}

abbrev pub AllApart : ℕ → Names → Type 0
AllApart place names = AllByRecursion (λ entry. IsApart place entry.1) names

-- a place past all that a store has
apart_thing : (store : Store) (thing : Thing) → HasThing store thing
    → IsApart (length store.scalars) thing
apart_thing store (Scalar place) has = λ e. absurd (omega (arith, has, e))
apart_thing store (ArrayAt place home) has = tt
apart_thing store (Fixed value) has = tt

pub apart_names : (store : Store) (names : Names) → HasEach store names
    → AllApart (length store.scalars) names
apart_names store [] has = tt
apart_names store (entry ∷ names) has =
    (apart_thing store entry.1 has.0, apart_names store names has.1)

pub apart_append : (place : ℕ) (xs ys : Names) → AllApart place xs → AllApart place ys
    → AllApart place (xs ++ ys)
apart_append place [] ys h k = k
apart_append place (x ∷ xs) ys h k = (h.0, apart_append place xs ys h.1 k)

-- a frame whose store has the place, and whose names don't stand for it
pub record Apart (place : ℕ) (frame : Frame) : Type 0 where
  pub names : AllApart place frame.names
  pub below : place < length frame.store.scalars

module _ (place : ℕ) where
  thing_apart : (frame : Frame) (name : Name) (thing : Thing) → IsApart place thing
      → Apart place frame → Apart place (with_thing frame name thing)
  thing_apart frame name thing is h = record {
    names = apart_append place frame.names ((name.text, thing) ∷ []) h.names (is, tt);
    below = h.below;
  }

  scalar_apart : (frame : Frame) (name : Name) (value : ℤ) → Apart place frame
      → Apart place (with_scalar_named frame name value)
  scalar_apart frame name value h =
      let many : length (frame.store.scalars ++ value ∷ []) ≡ length frame.store.scalars + 1 =
      length-append frame.store.scalars (value ∷ []) in
      let below = h.below in record {
        names = apart_append place frame.names
            ((name.text, Scalar (length frame.store.scalars)) ∷ []) h.names
            (λ e. absurd (omega (arith, below, e)), tt);
        below = omega (arith, many, below);
      }

  array_apart : (frame : Frame) (name : Name) (home : Region) (array : Array)
      → Apart place frame → Apart place (with_array_named frame name home array)
  array_apart frame name home array h = record {
    names = apart_append place frame.names
        ((name.text, ArrayAt (length frame.store.arrays) home) ∷ []) h.names (tt, tt);
    below = h.below;
  }

  module _ (known : Known) (borders : List Border) where
    name_apart : (shape : Bracket) (frame : Frame) (name : Name) → Apart place frame
        → Apart place (with_name known borders shape frame name)
    name_apart NoBracket frame name h = scalar_apart frame name (pos 0) h
    name_apart (Bracketed inner) frame name h = array_apart frame name _ _ h

    names_apart : (shape : Bracket) (names : List Name) (frame : Frame) → Apart place frame
        → Apart place (with_names known borders shape frame names)
    names_apart shape [] frame h = h
    names_apart shape (name ∷ names) frame h =
        names_apart shape names (with_name known borders shape frame name)
        (name_apart shape frame name h)

    variables_apart : (vars : List VarDef) (frame : Frame) → Apart place frame
        → Apart place (with_variables known borders frame vars)
    variables_apart [] frame h = h
    variables_apart (var ∷ vars) frame h =
        variables_apart vars (with_names known borders var.shape frame var.names)
        (names_apart var.shape var.names frame h)

  abbrev HandedApart : Handed → Type 0
  HandedApart (Copied value) = Unit {0}
  HandedApart (CopiedArray array home) = Unit {0}
  HandedApart (Referred thing) = IsApart place thing

  handed_apart : (frame : Frame) (name : Name) (handed : Handed) → HandedApart handed
      → Apart place frame → Apart place (with_handed frame name handed)
  handed_apart frame name (Copied value) is h = scalar_apart frame name value h
  handed_apart frame name (CopiedArray array home) is h = array_apart frame name home array h
  handed_apart frame name (Referred thing) is h = thing_apart frame name thing is h

  formals_apart : (formals : List FormalName) (handed : List Handed) (frame : Frame)
      → AllByRecursion HandedApart handed → Apart place frame
      → Apart place (with_formals frame formals handed)
  formals_apart [] handed frame is h = h
  formals_apart (formal ∷ formals) [] frame is h = h
  formals_apart (formal ∷ formals) (one ∷ rest) frame is h =
      formals_apart formals rest (with_handed frame formal.name one) is.1
      (handed_apart frame formal.name one is.0 h)

one_apart : (store : Store) (handed : Handed) → HasHanded store handed
    → HandedApart (length store.scalars) handed
one_apart store (Copied value) has = tt
one_apart store (CopiedArray array home) has = tt
one_apart store (Referred thing) has = apart_thing store thing has

all_apart : (store : Store) (handed : List Handed) → HasAllHanded store handed
    → AllByRecursion (HandedApart (length store.scalars)) handed
all_apart store [] has = tt
all_apart store (one ∷ rest) has = (one_apart store one has.0, all_apart store rest has.1)

-- a procedure that is entered with one scalar more than the store had
pub entered_apart : (setup : Setup) (routine : Routine) (handed : List Handed)
    (store before : Store) → length store.scalars < length before.scalars
    → HasAllHanded store handed
    → Apart (length store.scalars) (entered setup routine handed before)
entered_apart setup routine handed store before below has =
    let empty : Frame = record { names = []; store = before } in
    variables_apart (length store.scalars) setup.known setup.borders routine.procedure.locals _
    (formals_apart (length store.scalars) (formal_names routine.procedure.params) handed empty
    (all_apart store handed has) (record { names = tt; below = below }))
