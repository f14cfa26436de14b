use Rattle.std.proofs.Common.{◌≡◌, ◌++◌, [], map, sym, ap, ◌∙◌, if◌then◌else◌, true, false}
use Rattle.zpl_binding.specs.of_zpl_tree.View.{pre_of, base_of, posts_of, name_of}
use Rattle.zpl_parts.specs.View.{seen}
use Rattle.zpl_parts.specs.Walk.{border_parts}
use Rattle.zpl_parts.proofs.PartLemmas.{append-nothing, border-behind, border-last, the_border}
use Rattle.zpl_parts.proofs.parts.Parts.put_border.Goals as goal

pub returns-then-not-is_empty : goal.returns-then-not-is_empty
returns-then-not-is_empty c =
    append-nothing (seen c.args.self.now) _
    (border-behind (map pre_of c.args.pre.now) (base_of c.args.base.now) c.args.post.now
    (sym c.is_empty.ensures ∙ c.if-not-is_empty.true))

pub returns-in-Some : goal.returns-in-Some
returns-in-Some c =
    let is : border_parts (map pre_of c.args.pre.now) (base_of c.args.base.now)
    (posts_of c.args.post.now)
    ≡ (if (pre_of c.in-Some.last.now).outside
    then the_border (pre_of c.in-Some.last.now) (name_of c.in-Named.region) else []) =
    border-last c.args.pre.now c.in-Some.field-0-1.now c.in-Some.last.now
    (base_of c.args.base.now) (name_of c.in-Named.region) c.args.post.now
    (ap base_of c.in-Named.is) (sym c.is_empty.ensures ∙ c.if-not-is_empty.false)
    c.in-Some.ensures.cases.0 in
    let outside : border_parts (map pre_of c.args.pre.now) (base_of c.args.base.now)
    (posts_of c.args.post.now) ≡ the_border (pre_of c.in-Some.last.now) (name_of c.in-Named.region) =
    is ∙ ap (λ b. if b then the_border (pre_of c.in-Some.last.now) (name_of c.in-Named.region) else [])
    c.if-last.true in
    rw outside c.put.ensures

pub returns-in_default-split_last : goal.returns-in_default-split_last
returns-in_default-split_last c =
    append-nothing (seen c.args.self.now) _
    (border-last c.args.pre.now c.in-Some.field-0-1.now c.in-Some.last.now
    (base_of c.args.base.now) (name_of c.in-Named.region) c.args.post.now
    (ap base_of c.in-Named.is) (sym c.is_empty.ensures ∙ c.if-not-is_empty.false)
    c.in-Some.ensures.cases.0 ∙ ap
    (λ b. if b then the_border (pre_of c.in-Some.last.now) (name_of c.in-Named.region) else [])
    c.if-last.false)
