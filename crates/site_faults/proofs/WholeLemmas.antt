-- Expressions that stand by themselves, by what is known of them.
use Rattle.std.proofs.Common.{◌≡◌, Bool, true, ◌&&◌, Option, Some, None, refl, ◌∙◌, ap, ap₂}
use Rattle.name_kinds.specs.of_zpl_nums.declared.operators.Op.{Op}
use Rattle.zpl_tree.specs.Syntax.{Expr, Base, Integer, Boolean, Other, at_of}
use Rattle.name_kinds.specs.of_zpl_names.Accepted as kind
use Rattle.name_kinds.specs.of_zpl_names.Kinds.{Rank}
use Rattle.name_kinds.specs.of_zpl_names.Ranks.{is_open, lacks_rank, placed_rank, rank_of}
use Rattle.name_kinds.specs.of_zpl_names.Scope.{Scope}
use Rattle.name_kinds.specs.of_zpl_names.Types.{is_boolean, is_integer, type_of}
use Rattle.name_kinds.specs.of_zpl_names.Faults.{assigns_integer, at_if, is_rankless, is_wrong_rank, is_wrong_type, own_rank_in, value_base, wants_boolean}
use Rattle.name_kinds.specs.of_zpl_names.Sites.{Reach, Role, Bound, Component, Limit, Initial, Result, Test, Printed, Actual, Operand, Assigned, AtWhole, handed, whole_rank}
use Rattle.name_kinds.specs.Part.{base_seen, part_of}
use Rattle.name_kinds.proofs.PartLemmas.{part-base, part-open, part-own, part-parallel}
use Rattle.site_faults.specs.Findings.{State, after, region_told, tells, text_told}
use Rattle.site_faults.specs.Whole.{assigns_integer_type, is_boolean_type, is_integer_type, rank_at, rankless_at, wrong_rank_for, wrong_type_at}

pub integer-seen : (base : Option Base) → is_integer_type (base_seen base) ≡ is_integer base
integer-seen None = refl
integer-seen (Some Integer) = refl
integer-seen (Some Boolean) = refl
integer-seen (Some (Other name)) = refl

pub boolean-seen : (base : Option Base) → is_boolean_type (base_seen base) ≡ wants_boolean base
boolean-seen None = refl
boolean-seen (Some Integer) = refl
boolean-seen (Some Boolean) = refl
boolean-seen (Some (Other name)) = refl

pub ruleset types_seen = (integer-seen, boolean-seen)

-- the type of an expression is known
pub part-integer : (scope : Scope) (prefix : Rank) (expr : Expr) →
    is_integer_type (part_of scope prefix expr).base ≡ is_integer (type_of scope expr)
part-integer scope prefix expr =
    ap is_integer_type (part-base scope prefix expr) ∙ integer-seen (type_of scope expr)

assigns-seen : (base : Option Base) (op : Option Op) (integer : Bool) →
    assigns_integer_type (base_seen base) op integer ≡ assigns_integer base op integer
assigns-seen None None integer = refl
assigns-seen (Some Integer) None integer = refl
assigns-seen (Some Boolean) None integer = refl
assigns-seen (Some (Other name)) None integer = refl
assigns-seen None (Some op) integer = refl
assigns-seen (Some Integer) (Some op) integer = refl
assigns-seen (Some Boolean) (Some op) integer = refl
assigns-seen (Some (Other name)) (Some op) integer = refl

pub wrong-type : (reach : Reach) (role : Role) (expr : Expr) →
    wrong_type_at reach role (part_of reach.scope reach.prefix expr) ≡
    is_wrong_type reach role expr
wrong-type reach Bound expr = part-parallel reach.scope reach.prefix expr
wrong-type reach Component expr = refl
wrong-type reach Limit expr = refl
wrong-type reach (Initial base) expr =
    ap (λ integer. is_boolean base && integer) (part-integer reach.scope reach.prefix expr)
wrong-type reach (Result base) expr =
    ap (λ integer. wants_boolean base && integer) (part-integer reach.scope reach.prefix expr)
wrong-type reach Test expr = part-integer reach.scope reach.prefix expr
wrong-type reach Printed expr = refl
wrong-type reach Actual expr = refl
wrong-type reach Operand expr = refl
wrong-type reach (Assigned name op) expr =
    assigns-seen (value_base reach name) op
    (is_integer_type (part_of reach.scope reach.prefix expr).base) ∙
    ap (assigns_integer (value_base reach name) op) (part-integer reach.scope reach.prefix expr)

placed : (reach : Reach) (handed : Rank) (expr : Expr) →
    placed_rank (part_of reach.scope reach.prefix expr).is_open handed
    (part_of reach.scope reach.prefix expr).own ≡ rank_of reach.scope reach.prefix handed expr
placed reach handed expr =
    ap₂ (λ takes own. placed_rank takes handed own) (part-open reach.scope reach.prefix expr)
    (part-own reach.scope reach.prefix expr)

pub rank-at : (reach : Reach) (role : Role) (expr : Expr) →
    rank_at reach role (part_of reach.scope reach.prefix expr) ≡ whole_rank reach role expr
rank-at reach Bound expr = placed reach (handed reach Bound) expr
rank-at reach Component expr = placed reach (handed reach Component) expr
rank-at reach Limit expr = placed reach (handed reach Limit) expr
rank-at reach (Initial base) expr = placed reach (handed reach (Initial base)) expr
rank-at reach (Result base) expr = placed reach (handed reach (Result base)) expr
rank-at reach Test expr = placed reach (handed reach Test) expr
rank-at reach Printed expr = placed reach (handed reach Printed) expr
rank-at reach Actual expr = placed reach (handed reach Actual) expr
rank-at reach Operand expr =
    ap (placed_rank true reach.prefix) (part-own reach.scope reach.prefix expr)
rank-at reach (Assigned name op) expr = placed reach (handed reach (Assigned name op)) expr

pub wrong-rank : (reach : Reach) (role : Role) (expr : Expr) →
    wrong_rank_for reach role (whole_rank reach role expr) ≡ is_wrong_rank reach role expr
wrong-rank reach Bound expr = refl
wrong-rank reach Component expr = refl
wrong-rank reach Limit expr = refl
wrong-rank reach (Initial base) expr = refl
wrong-rank reach (Result base) expr = refl
wrong-rank reach Test expr = refl
wrong-rank reach Printed expr = refl
wrong-rank reach Actual expr = refl
wrong-rank reach Operand expr = refl
wrong-rank reach (Assigned name op) expr = refl

lacking : (reach : Reach) (handed : Rank) (expr : Expr) →
    lacks_rank (part_of reach.scope reach.prefix expr).is_open handed
    (part_of reach.scope reach.prefix expr).own ≡ lacks_rank (is_open expr) handed (own_rank_in reach expr)
lacking reach handed expr =
    ap₂ (λ takes own. lacks_rank takes handed own) (part-open reach.scope reach.prefix expr)
    (part-own reach.scope reach.prefix expr)

pub rankless : (reach : Reach) (role : Role) (expr : Expr) →
    rankless_at reach role (part_of reach.scope reach.prefix expr) ≡ is_rankless reach role expr
rankless reach Bound expr = lacking reach (handed reach Bound) expr
rankless reach Component expr = lacking reach (handed reach Component) expr
rankless reach Limit expr = lacking reach (handed reach Limit) expr
rankless reach (Initial base) expr = lacking reach (handed reach (Initial base)) expr
rankless reach (Result base) expr = lacking reach (handed reach (Result base)) expr
rankless reach Test expr = lacking reach (handed reach Test) expr
rankless reach Printed expr = lacking reach (handed reach Printed) expr
rankless reach Actual expr = lacking reach (handed reach Actual) expr
rankless reach Operand expr =
    ap (lacks_rank true reach.prefix) (part-own reach.scope reach.prefix expr)
rankless reach (Assigned name op) expr = lacking reach (handed reach (Assigned name op)) expr

pub whole_told : (state : State) (reach : Reach) (role : Role) (expr : Expr) →
    after state (AtWhole reach role expr) ≡
    tells kind.RankUnknown (at_if (is_rankless reach role expr) (at_of expr))
    (tells kind.RankClash (at_if (is_wrong_rank reach role expr) (at_of expr))
    (tells kind.TypeClash (at_if (is_wrong_type reach role expr) (at_of expr)) state))
unfolding after text_told region_told tells
whole_told state reach role expr = refl
