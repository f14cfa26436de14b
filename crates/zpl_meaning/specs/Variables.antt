-- Variables that are declared: each has the next place in the store.
use Rattle.std.specs.Prelude.{ℤ, pos, List, [], ◌∷◌, ◌++◌, length}
use Rattle.zpl_binding.specs.of_zpl_region.declared.regions.Region.{Region}
use Rattle.zpl_binding.specs.of_zpl_arrays.Array.{Array, array_of}
use Rattle.zpl_binding.specs.of_zpl_tree.Syntax.{Name, Inner, Bracket, NoBracket, Bracketed, Define, VarDef, Decl}
use Rattle.zpl_binding.specs.of_zpl_tree.Syntax.{Config, Constant, Regions, Directions, Vars, Defined}
use Rattle.zpl_binding.specs.Outcome.{value_or, outcome_of}
use Rattle.zpl_binding.specs.Regions.{Known, no_region}
use Rattle.zpl_binding.specs.Storages.{Border, home_of, storage_of}
use Rattle.zpl_meaning.specs.Store.{Thing, Scalar, ArrayAt, Fixed, Names, Store, empty_store}

-- names that were added, and the store with their variables
pub record Frame : Type 0 where
  pub names : Names
  pub store : Store

-- a name of what there is already
abbrev pub with_thing : Frame → Name → Thing → Frame
with_thing frame name thing =
    record frame { names = frame.names ++ (name.text, thing) ∷ [] }

abbrev pub with_new_scalar : Store → ℤ → Store
with_new_scalar store value = record store { scalars = store.scalars ++ value ∷ [] }

abbrev pub with_new_array : Store → Array → Store
with_new_array store array = record store { arrays = store.arrays ++ array ∷ [] }

-- a new scalar with a value
abbrev pub with_scalar_named : Frame → Name → ℤ → Frame
with_scalar_named frame name value = record {
  names = frame.names ++ (name.text, Scalar (length frame.store.scalars)) ∷ [];
  store = with_new_scalar frame.store value;
}

-- a new array with its home box
abbrev pub with_array_named : Frame → Name → Region → Array → Frame
with_array_named frame name home array = record {
  names = frame.names ++ (name.text, ArrayAt (length frame.store.arrays) home) ∷ [];
  store = with_new_array frame.store array;
}

-- ---- declarations of variables: all of them are 0 or false

-- home boxes and storages have been computed before the run; those of an accepted program with
-- accepted settings are there
abbrev pub home_box : Known → Inner → Region
home_box known inner = value_or no_region (home_of known inner)

abbrev pub storage_box : Known → List Border → Inner → Region
storage_box known borders inner = value_or no_region (storage_of known borders inner)

abbrev pub zero_array : Region → Array
zero_array storage = array_of storage (λ t. pos 0)

abbrev pub with_name : Known → List Border → Bracket → Frame → Name → Frame
with_name known borders NoBracket frame name = with_scalar_named frame name (pos 0)
with_name known borders (Bracketed inner) frame name =
    with_array_named frame name (home_box known inner)
    (zero_array (storage_box known borders inner))

abbrev pub with_names : Known → List Border → Bracket → Frame → List Name → Frame
with_names known borders shape frame [] = frame
with_names known borders shape frame (name ∷ names) =
    with_names known borders shape (with_name known borders shape frame name) names

abbrev pub with_variables : Known → List Border → Frame → List VarDef → Frame
with_variables known borders frame [] = frame
with_variables known borders frame (var ∷ vars) =
    with_variables known borders (with_names known borders var.shape frame var.names) vars

-- ---- global names: configs and constants, and variables

abbrev pub with_values : Known → Frame → List Define → Frame
with_values known frame [] = frame
with_values known frame (define ∷ defines) =
    let value = value_or (pos 0) (outcome_of (pos 0) known.values define.name.text) in
    with_values known (with_thing frame define.name (Fixed value)) defines

abbrev pub with_declared : Known → List Border → Frame → Decl → Frame
with_declared known borders frame (Config configs) = with_values known frame configs
with_declared known borders frame (Constant constants) = with_values known frame constants
with_declared known borders frame (Vars vars) = with_variables known borders frame vars
with_declared known borders frame (Regions regions) = frame
with_declared known borders frame (Directions directions) = frame
with_declared known borders frame (Defined procedure) = frame

abbrev pub with_declarations : Known → List Border → Frame → List Decl → Frame
with_declarations known borders frame [] = frame
with_declarations known borders frame (decl ∷ decls) =
    with_declarations known borders (with_declared known borders frame decl) decls

abbrev pub empty_frame : Frame
empty_frame = record { names = []; store = empty_store }
