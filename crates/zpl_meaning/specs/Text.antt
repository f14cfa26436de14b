-- What prints append.
use Rattle.std.specs.Prelude.{ℕ, suc, Bool, true, if◌then◌else◌, ℤ, List, [], ◌∷◌}
use Rattle.std.specs.Prelude.{◌++◌, Option, Some}
use Rattle.zpl_text.specs.Escapes.{unescaped}
use Rattle.zpl_binding.specs.of_zpl_arrays.Array.{element}
use Rattle.zpl_binding.specs.of_zpl_arrays.ArrayText.{number_text, truth_text, array_text}
use Rattle.zpl_binding.specs.of_zpl_tree.Syntax.{Expr, Item, Str, Value, Base, Boolean}
use Rattle.zpl_binding.specs.of_zpl_names.Kinds.{Rank}
use Rattle.zpl_binding.specs.of_zpl_names.Sites.{Printed}
use Rattle.zpl_binding.specs.of_zpl_names.Types.{type_of}
use Rattle.zpl_meaning.specs.Computed.{Computed, Gives, computed_then, both_then}
use Rattle.zpl_meaning.specs.Store.{Store}
use Rattle.zpl_meaning.specs.Context.{over_at, Place, rank_in}
use Rattle.zpl_meaning.specs.Settled.{Placed}
use Rattle.zpl_meaning.specs.Fields.{Field, everywhere, array_over}
use Rattle.zpl_meaning.specs.Phases.{placed_in, fields_in}

-- `true` or `false`, or the decimal text
abbrev pub value_text : Option Base → ℤ → List ℕ
value_text (Some Boolean) value = truth_text value
value_text type value = number_text value

-- the expressions that are printed
abbrev pub printed_exprs : Place → List Item → List Placed
printed_exprs place [] = []
printed_exprs place (Str bytes ∷ items) = printed_exprs place items
printed_exprs place (Value expr ∷ items) =
    placed_in place Printed expr ∷ printed_exprs place items

-- the text of an expression of a rank: of a scalar, or of an array over the current region. No
-- accepted program has a mask there
abbrev pub field_text : Place → Option Base → Rank → Field → Computed (List ℕ)
field_text place type (Some (suc rank)) field =
    let region = (over_at place.currents (Some (suc rank))).region in
    computed_then (array_over region everywhere field) (λ array.
    Gives (array_text (value_text type) region (element array)))
field_text place type rank field =
    computed_then (field []) (λ value. Gives (value_text type value))

abbrev pub expr_text : Place → Expr → Field → Computed (List ℕ)
expr_text place expr field =
    field_text place (type_of place.scope expr) (rank_in place Printed expr) field

-- the items, one after the other, with the fields of those that are expressions
abbrev pub items_text : Place → List Item → List Field → Computed (List ℕ)
items_text place [] fields = Gives []
items_text place (Str bytes ∷ items) fields =
    both_then (Gives (unescaped bytes)) (items_text place items fields) (λ first rest.
    Gives (first ++ rest))
items_text place (Value expr ∷ items) [] = Gives []
items_text place (Value expr ∷ items) (field ∷ fields) =
    both_then (expr_text place expr field) (items_text place items fields) (λ first rest.
    Gives (first ++ rest))

-- and a newline, where it is a line
abbrev pub print_text : Place → Store → Bool → List Item → Computed (List ℕ)
print_text place store line items =
    computed_then (fields_in place store true (printed_exprs place items)) (λ fields.
    computed_then (items_text place items fields) (λ text.
    Gives (text ++ (if line then 10 ∷ [] else []))))
