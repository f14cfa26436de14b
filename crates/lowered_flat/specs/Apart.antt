-- Programs in which no two arrays' names stand at one offset, as in each text.
use Rattle.std.specs.Prelude.{ℕ, List, [], ◌∷◌, map, Contains}
use Rattle.zpl_tree.specs.Syntax.{Program}
use Rattle.zpl_binding.specs.Storages.{arrays_of}

-- no number stands twice
abbrev pub AreApart : List ℕ → Type 0
AreApart [] = Unit {0}
AreApart (at ∷ rest) = (¬ Contains rest at) × AreApart rest

-- An array is told by the offset of its name: so no two may have the same.
abbrev pub NamesStandApart : Program → Type 0
NamesStandApart program = AreApart (map (λ array. array.name.at) (arrays_of program))
