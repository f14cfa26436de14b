use Rattle.std.proofs.Common.{◌≡◌, ap, ap₂, sym, ◌∙◌, [], map, subst}
use Rattle.zpl_region.specs.declared.regions.Region.{Region}
use Rattle.zpl_tree.specs.Syntax as plain
use Rattle.zpl_tree.specs.View.{base_of, name_of, posts_of, pre_of}
use Rattle.zpl_parts.specs.of_zpl_binding.Outcome.{Outcome, Gives}
use Rattle.zpl_parts.specs.of_zpl_binding.Regions.{before, behind, inner_of}
use Rattle.zpl_bind.specs.Fault.{Computes}
use Rattle.zpl_bind.specs.Known.{known_in}
use Rattle.zpl_bind.proofs.RegionLemmas.{named-form, plain-name, before-passes, passed}
use Rattle.zpl_bind.proofs.regions.rexpr_of.Goals as goal

pub returns-in_err-region-clause-computes : goal.returns-in_err-region-clause-computes
returns-in_err-region-clause-computes c =
    let known = known_in c.args.known.now in
    let pre = map pre_of c.args.pre.now in
    let posts = posts_of c.args.post.now in
    let is : inner_of known (plain.Rexpr pre (base_of c.args.base.now) posts)
    ≡ before known pre (behind known (Gives c.region_named.result) posts) =
    ap (λ b. inner_of known (plain.Rexpr pre (base_of b) posts)) c.in-Named.is
    ∙ named-form known c.args.pre.now c.args.post.now (name_of c.in-Named.name)
    (sym c.is_plain.ensures ∙ c.if-is_plain.false)
    ∙ ap (λ o. before known pre (behind known o posts)) c.region_named.ensures.named in
    let P : Outcome Region → Type 0 = λ o. Computes c.from_residual.result o in
    subst P (sym is)
    (passed c.from_residual.result c.in_err-region.field-0.0 _ c.from_residual.ensures.1
    (before-passes known pre _ c.in_err-region.field-0.0 c.in_err-region.ensures.computes))

pub returns-then-is_plain-clause-computes : goal.returns-then-is_plain-clause-computes
returns-then-is_plain-clause-computes c =
    let known = known_in c.args.known.now in
    let none = plain-name c.args.pre.now c.args.post.now
    (sym c.is_plain.ensures ∙ c.if-is_plain.true) in
    let is : inner_of known (plain.Rexpr (map pre_of c.args.pre.now) (base_of c.args.base.now)
    (posts_of c.args.post.now))
    ≡ inner_of known (plain.Rexpr [] (plain.NamedRegion (name_of c.in-Named.name)) plain.NoPost) =
    ap (λ b. inner_of known (plain.Rexpr (map pre_of c.args.pre.now) (base_of b)
    (posts_of c.args.post.now))) c.in-Named.is
    ∙ ap₂ (λ pre post. inner_of known (plain.Rexpr (map pre_of pre)
    (plain.NamedRegion (name_of c.in-Named.name)) (posts_of post))) none.0 none.1 in
    let P : Outcome Region → Type 0 = λ o. Computes c.named_or_index.result o in
    subst P (sym is) c.named_or_index.ensures.computes

pub returns-clause-computes : goal.returns-clause-computes
returns-clause-computes c =
    let known = known_in c.args.known.now in
    let pre = map pre_of c.args.pre.now in
    let posts = posts_of c.args.post.now in
    let is : inner_of known (plain.Rexpr pre (base_of c.args.base.now) posts)
    ≡ before known pre (Gives c.in_ok-region.region) =
    ap (λ b. inner_of known (plain.Rexpr pre (base_of b) posts)) c.in-Named.is
    ∙ named-form known c.args.pre.now c.args.post.now (name_of c.in-Named.name)
    (sym c.is_plain.ensures ∙ c.if-is_plain.false)
    ∙ ap (λ o. before known pre (behind known o posts)) c.region_named.ensures.named
    ∙ ap (before known pre) c.in_ok-region.ensures.computes in
    let P : Outcome Region → Type 0 = λ o. Computes c.before-2.result o in
    subst P (sym is) c.before-2.ensures.computes
