-- References, each once, where it first came.
use Rattle.std.specs.Prelude.{List, [], ◌∷◌, ◌++◌, fold, if◌then◌else◌, Option, Some, None}
use Rattle.std.specs.List.{list_any}
use Rattle.lower_regions.specs.of_zpl_lowering.Reference as plain
use Rattle.lower_regions.specs.of_zpl_lowering.Reference.{is_same}
use Rattle.lower_operators.specs.declared.references.Reference.{Reference}

abbrev pub reference_of : Reference → plain.Reference
reference_of one = record { slot = one.slot; array = one.array; shift = one.shift }

-- one at most
abbrev pub optional : Option Reference → List plain.Reference
optional None = []
optional (Some one) = reference_of one ∷ []

-- with one more, unless it is there
abbrev pub with_reference : List plain.Reference → plain.Reference → List plain.Reference
with_reference references one =
    if list_any (is_same one) references then references else references ++ one ∷ []

abbrev pub with_references : List plain.Reference → List plain.Reference → List plain.Reference
with_references references more = fold with_reference references more
