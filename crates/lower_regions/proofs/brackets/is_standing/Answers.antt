use Rattle.std.proofs.Common.{◌≡◌, Bool, not, ◌&&◌, map, sym, ap, ◌∙◌}
use Rattle.zpl_tree.specs.Syntax as plain
use Rattle.zpl_tree.specs.View.{base_of, inner_of, name_of, posts_of, pre_of}
use Rattle.zpl_tree.specs.declared.regions.RegionBase.{RegionBase}
use Rattle.zpl_tree.specs.declared.regions.Rexpr.{out-Rexpr}
use Rattle.zpl_tree.proofs.Views.{rexpr_of-parts}
use Rattle.lower_places.specs.of_zpl_lowering.Bracket.{computed, forms_of}
use Rattle.lower_places.specs.View.{where_of}
use Rattle.lower_regions.specs.Opened.{are_none, has_no}
use Rattle.lower_regions.proofs.BracketLemmas.{ditto_stands, named_rows}
use Rattle.lower_regions.proofs.brackets.is_standing.Goals as goal

pub returns-then-not-is_index : goal.returns-then-not-is_index
returns-then-not-is_index c = λ next line current.
    let w = where_of c.args.place.now in
    let parts = out-Rexpr c.in-Rexpr.rexpr in
    let pre = map pre_of parts.pre.now in
    let post = posts_of parts.post.now in
    let name = name_of c.in-Named.name in
    let is : inner_of c.args.inner.now ≡ plain.Rexpr pre (plain.NamedRegion name) post =
    ap inner_of c.in-Rexpr.is ∙ rexpr_of-parts c.in-Rexpr.rexpr
    ∙ ap (λ (base : RegionBase). plain.Rexpr pre (base_of base) post) c.in-Named.is in
    c.has_no_forms.ensures w.setup.known
    ∙ sym (ap (λ (inner : plain.Inner). are_none (computed w next line current inner).rows) is
    ∙ named_rows w next line current pre name post
    ∙ ap (λ (b : Bool). not b && has_no (forms_of w.setup.known pre post))
    (sym c.is_index.ensures ∙ c.if-not-is_index.true))

pub returns-else-not-is_index : goal.returns-else-not-is_index
returns-else-not-is_index c = λ next line current.
    let w = where_of c.args.place.now in
    let parts = out-Rexpr c.in-Rexpr.rexpr in
    let pre = map pre_of parts.pre.now in
    let post = posts_of parts.post.now in
    let name = name_of c.in-Named.name in
    let is : inner_of c.args.inner.now ≡ plain.Rexpr pre (plain.NamedRegion name) post =
    ap inner_of c.in-Rexpr.is ∙ rexpr_of-parts c.in-Rexpr.rexpr
    ∙ ap (λ (base : RegionBase). plain.Rexpr pre (base_of base) post) c.in-Named.is in
    ap not c.if-not-is_index.false
    ∙ sym (ap (λ (inner : plain.Inner). are_none (computed w next line current inner).rows) is
    ∙ named_rows w next line current pre name post
    ∙ ap (λ (b : Bool). not b && has_no (forms_of w.setup.known pre post))
    (sym c.is_index.ensures ∙ c.if-not-is_index.false))

pub returns-in-Ditto : goal.returns-in-Ditto
returns-in-Ditto c = λ next line current.
    let w = where_of c.args.place.now in
    let parts = out-Rexpr c.in-Rexpr.rexpr in
    let pre = map pre_of parts.pre.now in
    let post = posts_of parts.post.now in
    ditto_stands w next line current pre _ post (inner_of c.args.inner.now)
    c.has_no_forms-in-Ditto.result
    (ap inner_of c.in-Rexpr.is ∙ rexpr_of-parts c.in-Rexpr.rexpr
    ∙ ap (λ (base : RegionBase). plain.Rexpr pre (base_of base) post) c.in-Ditto.is)
    (c.has_no_forms-in-Ditto.ensures w.setup.known)
