use Rattle.std.proofs.Common.{◌≡◌, ◌+◌, ◌++◌, ◌∷◌, [], List, ap, sym, ◌∙◌, drop, map}
use Rattle.std.proofs.lemmas.List.{map-append}
use Rattle.zpl_tree.specs.View.{posts_of}
use Rattle.zpl_bind.specs.Known.{known_in}
use Rattle.lower_places.specs.of_zpl_lowering.Bracket.{Form, post_forms}
use Rattle.lower_regions.specs.Forms.{form_of}
use Rattle.lower_regions.proofs.FormLemmas.{posts_more}
use Rattle.lower_regions.proofs.forms.put_posts.Goals as goal

pub loop-post-preserved : goal.loop-post-preserved
loop-post-preserved c =
    let left = post_forms (known_in c.args.known.now)
    (posts_of (drop (c.loop-post.post-index + 1) c.args.posts.now)) in
    ap (λ (forms : List Form). forms ++ left)
    (ap (map form_of) c.in_ok-push.ensures.items
    ∙ map-append form_of c.loop-post.forms.items (c.post_form.result ∷ []))
    ∙ posts_more (known_in c.args.known.now) c.args.posts.now c.loop-post.post-index _
    (map form_of c.loop-post.forms.items) _ (form_of c.post_form.result) c.loop-post-test.true
    c.post_form.ensures c.loop-post.invariant
