-- Vectors: directions, and those that stand in the text where a direction may.
use Rattle.std.specs.Prelude.{ℕ, zero, suc, Bool, ℤ, pos, neg_ℤ, if◌then◌else◌, List, [], ◌∷◌}
use Rattle.std.specs.List.{list_all}
use Rattle.zpl_arrays.specs.of_zpl_region.Progression.{is_between}
use Rattle.zpl_tree.specs.Syntax.{Exprs, NoExpr, ThenExpr, Dir, NamedDir, Vector}
use Rattle.zpl_binding.specs.Outcome.{DirectionLimit, Outcome, Gives, Fails, and_then, Computed, outcome_of}
use Rattle.zpl_binding.specs.Constants.{value_of}

-- the values of expressions, in text order
abbrev pub values_of : List (Computed ℤ) → Exprs → Outcome (List ℤ)
values_of values NoExpr = Gives []
values_of values (ThenExpr first rest) =
    and_then (value_of values first) (λ value.
    and_then (values_of values rest) (λ others. Gives (value ∷ others)))

-- A vector has three components. Those past its rank are 0.
abbrev pub components_of : ℕ → List ℤ → List ℤ
components_of zero parts = []
components_of (suc count) [] = pos 0 ∷ components_of count []
components_of (suc count) (part ∷ parts) = part ∷ components_of count parts

abbrev pub three_components : List ℤ → List ℤ
three_components parts = components_of 3 parts

-- the limit of a component
abbrev pub is_component : ℤ → Bool
is_component part = is_between (neg_ℤ (pos 32767)) (pos 32767) part

-- the vector, where it is within the limit
abbrev pub limited_vector : List ℤ → Outcome (List ℤ)
limited_vector parts =
    if list_all is_component parts then Gives (three_components parts) else Fails DirectionLimit

-- All components are computed before the limit is tested.
abbrev pub vector_of : List (Computed ℤ) → Exprs → Outcome (List ℤ)
vector_of values parts = and_then (values_of values parts) limited_vector

-- the vector of a direction's name, or the one that stands in its place
abbrev pub dir_of : List (Computed ℤ) → List (Computed (List ℤ)) → Dir → Outcome (List ℤ)
dir_of values directions (NamedDir name) = outcome_of (three_components []) directions name.text
dir_of values directions (Vector parts) = vector_of values parts
