use Rattle.std.proofs.Common.{◌≡◌, ◌++◌, drop, map}
use Rattle.zpl_tree.specs.View.{posts_of}
use Rattle.zpl_bind.specs.Known.{known_in}
use Rattle.lower_places.specs.of_zpl_lowering.Bracket.{post_forms}
use Rattle.lower_regions.specs.Forms.{form_of}
use Rattle.lower_regions.proofs.forms.put_posts.Given as goal

abbrev pub invariant-loop-post : goal.invariant-loop-post
invariant-loop-post l =
    map form_of l.forms.items ++ post_forms (known_in l.known) (posts_of (drop l.post-index l.posts))
    ≡ map form_of l.initial.forms.items ++ post_forms (known_in l.known) (posts_of l.posts)
