use Rattle.std.proofs.Common.{map, sym, ◌∙◌}
use Rattle.zpl_tree.specs.View.{name_of, posts_of, pre_of}
use Rattle.name_kinds.specs.Reach.{scope_of}
use Rattle.name_kinds.proofs.RegionLemmas.{is_index-posts, is_index-pre}
use Rattle.name_kinds.proofs.regions.is_index.Goals as goal
use Rattle.name_kinds.proofs.regions.is_index.Goals.{then-is_empty, else-is_empty}

pub returns-else-is_empty-2 : goal.returns-else-is_empty-2
returns-else-is_empty-2 c =
    elim c.if-is_empty.branch [
      | then-is_empty w ↦ c.if-is_empty-2.false ∙
          sym (is_index-posts (scope_of c.args.scope.now) (map pre_of c.args.pre.now)
          (name_of c.args.name.now) c.args.post.now
          (sym w.is_empty-then-is_empty.ensures ∙ sym w.value-is ∙ c.if-is_empty-2.false))
      | else-is_empty w ↦ c.if-is_empty-2.false ∙
          sym (is_index-pre (scope_of c.args.scope.now) c.args.pre.now (name_of c.args.name.now)
          (posts_of c.args.post.now)
          (sym c.is_empty.ensures ∙ w.if-is_empty.false))
    ]
