-- What is wrong with an expression that stands by itself, by what is known of it.
use Rattle.std.specs.Prelude.{Bool, true, false, ◌&&◌, if◌then◌else◌, Option, Some, None}
use Rattle.name_kinds.specs.of_zpl_nums.declared.operators.Op.{Op}
use Rattle.name_kinds.specs.of_zpl_nums.declared.folds.Fold.{Fold}
use Rattle.name_kinds.specs.of_zpl_nums.declared.folds.Fold.TheVariants.{All, Any}
use Rattle.name_kinds.specs.of_zpl_names.Kinds.{Kind, Rank}
use Rattle.name_kinds.specs.of_zpl_names.Ranks.{is_above_zero, lacks_rank, placed_rank}
use Rattle.name_kinds.specs.of_zpl_names.Types.{is_boolean, is_integer, kind_base, takes_booleans}
use Rattle.name_kinds.specs.of_zpl_names.Faults.{cannot_hold, kind_at, takes_scalar, value_base, wants_boolean}
use Rattle.name_kinds.specs.of_zpl_names.Sites.{Reach, Role, Bound, Initial, Result, Test, Operand, Assigned, handed}
use Rattle.name_kinds.specs.declared.kinds.BaseType.{BaseType}
use Rattle.name_kinds.specs.declared.kinds.BaseType.TheVariants.{Integer, Boolean}
use Rattle.name_kinds.specs.declared.parts.Part.{Part}
use Rattle.name_kinds.specs.Part.{base_seen}

abbrev pub is_integer_type : Option BaseType → Bool
is_integer_type (Some Integer) = true
is_integer_type _ = false

-- `&` and `|`
abbrev pub fold_takes_booleans : Fold → Bool
fold_takes_booleans All = true
fold_takes_booleans Any = true
fold_takes_booleans _ = false

-- an assignment to a variable of a type
abbrev pub assigns_integer_type : Option BaseType → Option Op → Bool → Bool
assigns_integer_type (Some Boolean) None integer = integer
assigns_integer_type target None integer = false
assigns_integer_type (Some Boolean) (Some op) integer = if takes_booleans op then integer else true
assigns_integer_type target (Some op) integer = if takes_booleans op then integer else false

abbrev pub is_boolean_type : Option BaseType → Bool
is_boolean_type (Some Boolean) = true
is_boolean_type _ = false

abbrev pub rank_at : Reach → Role → Part → Rank
rank_at reach Operand part = placed_rank true reach.prefix part.own
rank_at reach role part = placed_rank part.is_open (handed reach role) part.own

abbrev pub wrong_type_at : Reach → Role → Part → Bool
wrong_type_at reach Bound part = part.has_parallel
wrong_type_at reach Test part = is_integer_type part.base
wrong_type_at reach (Initial base) part = is_boolean base && is_integer_type part.base
wrong_type_at reach (Result base) part = wants_boolean base && is_integer_type part.base
wrong_type_at reach (Assigned name op) part =
    assigns_integer_type (base_seen (value_base reach name)) op (is_integer_type part.base)
wrong_type_at reach role part = false

abbrev pub wrong_rank_for : Reach → Role → Rank → Bool
wrong_rank_for reach (Assigned name op) rank = cannot_hold (kind_at reach name) rank
wrong_rank_for reach role rank = takes_scalar role && is_above_zero rank

abbrev pub rankless_at : Reach → Role → Part → Bool
rankless_at reach Operand part = lacks_rank true reach.prefix part.own
rankless_at reach role part = lacks_rank part.is_open (handed reach role) part.own

-- an integer stands before `&=` or `|=`
abbrev pub is_integer_operand : Option Kind → Option Op → Bool
is_integer_operand kind None = false
is_integer_operand kind (Some op) = takes_booleans op && is_integer (kind_base kind)
