-- Tests whose values have operators over regions, where the code of a statement comes to them.
use Rattle.std.proofs.Common.{◌≡◌, sym, subst, arith, ℕ, ◌≤◌, None}
use Rattle.zpl_tree.specs.Syntax.{Expr}
use Rattle.zpl_names.specs.Counts.{expr_nodes}
use Rattle.zpl_meaning.specs.Computed.{Computed}
use Rattle.std.proofs.Common.{ℤ}
use Rattle.zpl_meaning.specs.Store.{Store}
use Rattle.zpl_meaning.specs.Context.{Place}
use Rattle.zpl_meaning.specs.Statement as mean
use Rattle.node_form.specs.declared.tables.Tables.{Tables}
use Rattle.row_runs.specs.Code.{Decision}
use Rattle.row_runs.specs.Structured.{Course}
use Rattle.flat_form.specs.Whole.{Whole}
use Rattle.print_runs.specs.of_zpl_lowering.Where.{Where, Next, line_of}
use Rattle.print_runs.specs.of_zpl_lowering.Statement as low
use Rattle.print_runs.specs.of_lowering_runs.Seen.{Sight, seen_place}
use Rattle.print_runs.specs.of_lowering_runs.Run.{decide, does}
use Rattle.print_runs.specs.of_lowering_runs.Heads.{Heads, Comes, Stumbles}
use Rattle.print_runs.specs.of_lowering_runs.Stands.{HasRoom, IsBefore, IsLike, Stands}
use Rattle.print_runs.proofs.of_lowering_runs.FitLemmas.{like_anew, like_then, place_kept, stands_on}
use Rattle.operator_runs.specs.Operated.{IsOperated}
use Rattle.operator_runs.proofs.ScalarLemmas.{test_comes}

alike_heads : (One Other : Whole → Type 0) (value : Computed ℤ) (line most : ℕ)
    (decides : Whole → Decision) (course : Course Whole)
    → ((whole : Whole) → One whole → Other whole) → Heads One value line most decides course
    → Heads Other value line most decides course
alike_heads One Other value line most decides course f (Comes like says few) =
    Comes (f _ like) says few
alike_heads One Other value line most decides course f (Stumbles e few) = Stumbles e few

pub tests_go : (tables : Tables) (n : ℕ) (sight : Sight) (w : Where) (next from : Next)
    (start : Whole) (at : ℕ) (expr : Expr) → Stands sight.spots w next → IsBefore next from
    → IsOperated w (seen_place sight w start) None expr
    → HasRoom tables from (low.test_of w from expr at).before → (store : Store) (now : Whole)
    → IsLike tables sight.spots w next start store now
    → Heads (IsLike tables sight.spots w next start store)
    ((mean.test_of (seen_place sight w start) expr at).value store) (line_of w at)
    (expr_nodes expr) (decide tables n (low.test_of w from expr at).check)
    (does tables n (low.test_of w from expr at).before.code now)
tests_go tables n sight w next from start at expr stands before operated room store now like =
    let Like = IsLike tables sight.spots w next start in
    let test = low.test_of w from expr at in
    let decides = decide tables n test.check in
    let course = does tables n test.before.code now in
    let same : seen_place sight w now ≡ seen_place sight w start =
    place_kept start now next.slots like.kept.slots sight w stands.taken stands.edge in
    let anew = like_anew tables sight.spots w next from start store now like in
    let room_here : from.scalars ≤ tables.scalars = omega (arith, room.scalars) in
    subst (λ (p : Place). Heads (Like store) ((mean.test_of p expr at).value store) (line_of w at)
    (expr_nodes expr) decides course) same
    (alike_heads (IsLike tables sight.spots w from now store) (Like store)
    ((mean.test_of (seen_place sight w now) expr at).value store) (line_of w at) (expr_nodes expr)
    decides course
    (λ after l. like_then tables sight.spots w next from start store now store after before like l)
    (subst (λ (s : Store). Heads (IsLike tables sight.spots w from now s)
    ((mean.test_of (seen_place sight w now) expr at).value s) (line_of w at) (expr_nodes expr) decides
    course)
    (sym like.seen)
    (test_comes tables n sight w from now (stands_on sight.spots w next from before stands) room_here at
    expr (subst (λ (p : Place). IsOperated w p None expr) (sym same) operated)
    (subst (λ (s : Store). IsLike tables sight.spots w from now s now) like.seen anew) room)))
