use Rattle.std.proofs.Common.{◌≡◌, ap, sym, ◌∙◌, map, subst}
use Rattle.std.specs.Prelude.{MatchOption}
use Rattle.zpl_tree.specs.Syntax as plain
use Rattle.zpl_tree.specs.Syntax.{Inner}
use Rattle.zpl_tree.specs.View.{base_of, inner_of, posts_of, pre_of}
use Rattle.zpl_tree.proofs.Views.{rexpr_of-parts}
use Rattle.zpl_tree.specs.declared.regions.Rexpr.{out-Rexpr}
use Rattle.zpl_bind.specs.Known.{known_in}
use Rattle.zpl_bind.specs.Storages.{HasNoBorders, HasBordersOf}
use Rattle.zpl_bind.proofs.storages.plain_name.Goals as goal

pub returns-in-Rexpr : goal.returns-in-Rexpr
returns-in-Rexpr c =
    let parts = out-Rexpr c.in-Rexpr.rexpr in
    let is : inner_of c.args.inner.now ≡ plain.Rexpr (map pre_of parts.pre.now) (base_of parts.base)
    (posts_of parts.post.now) =
    ap inner_of c.in-Rexpr.is ∙ rexpr_of-parts c.in-Rexpr.rexpr in
    let P : Inner → Type 0 = λ inner. MatchOption c.name_alone.result
    (HasNoBorders (known_in c.args.known.now) inner)
    (λ name. HasBordersOf (known_in c.args.known.now) inner name.now) in
    subst P (sym is) c.name_alone.ensures
