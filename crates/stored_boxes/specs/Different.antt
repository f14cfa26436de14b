-- Arrays of which no two are the same, and texts whose offsets tell names and calls apart.
use Rattle.std.specs.Prelude.{◌≡◌, ℕ, false, List, [], ◌∷◌, ◌++◌, map}
use Rattle.zpl_tree.specs.Syntax.{Program}
use Rattle.zpl_names.specs.Declared.{Routine, globals_of, own_names}
use Rattle.zpl_names.specs.Expansion.{ExpandedArray, is_same_array}
use Rattle.zpl_names.specs.Shapes.{unknown_shapes}
use Rattle.zpl_names.specs.Sites.{calls_under}
use Rattle.lowered_flat.specs.Apart.{AreApart}

abbrev pub DiffersFrom : ExpandedArray → List ExpandedArray → Type 0
DiffersFrom one [] = Unit {0}
DiffersFrom one (other ∷ others) = (is_same_array one other ≡ false) × DiffersFrom one others

-- no two are the same
abbrev pub AreDifferent : List ExpandedArray → Type 0
AreDifferent [] = Unit {0}
AreDifferent (one ∷ others) = DiffersFrom one others × AreDifferent others

-- the offsets of global names and of a procedure's own, and those of the procedures that it calls
abbrev pub name_offsets : Program → Routine → List ℕ
name_offsets program routine =
    map (λ entry. entry.name.at) (globals_of program) ++
    map (λ name. name.at) (own_names routine.procedure)

abbrev pub call_offsets : Program → Routine → List ℕ
call_offsets program routine =
    map (λ call. call.name.at) (calls_under program unknown_shapes routine)

-- In the text of a procedure no two calls stand at one offset, and no two names that are declared for
-- it.
pub record IsToldApart (program : Program) (routine : Routine) : Type 0 where
  pub names : AreApart (name_offsets program routine)
  pub calls : AreApart (call_offsets program routine)
