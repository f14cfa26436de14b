use Rattle.std.proofs.Common.{◌≡◌, drop}
use Rattle.zpl_tree.specs.View.{posts_of}
use Rattle.zpl_parts.specs.of_zpl_binding.Outcome.{Gives}
use Rattle.zpl_parts.specs.of_zpl_binding.Regions.{behind}
use Rattle.zpl_bind.specs.Known.{IsBuilt, known_in}
use Rattle.zpl_bind.proofs.regions.behind.Given as goal

abbrev pub invariant-loop-post : goal.invariant-loop-post
invariant-loop-post l = record {
  built : IsBuilt l.region;
  rest : behind (known_in l.known) (Gives l.region) (posts_of (drop l.post-index l.posts))
      ≡ behind (known_in l.known) (Gives l.initial.region) (posts_of l.posts);
}
