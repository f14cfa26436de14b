use Rattle.std.proofs.Common.{◌≡◌, map, subst, sym, ap, ◌∙◌}
use Rattle.std.specs.Prelude.{IfOk, OnOk}
use Rattle.zpl_tree.specs.Syntax as plain
use Rattle.zpl_tree.specs.View.{base_of, name_of, posts_of, pre_of, rexpr_of}
use Rattle.zpl_tree.specs.declared.regions.Rexpr.{out-Rexpr}
use Rattle.zpl_tree.proofs.Views.{rexpr_of-parts}
use Rattle.lower_places.specs.of_zpl_lowering.Bracket.{computed}
use Rattle.lower_places.specs.View.{slotted_of, where_of}
use Rattle.lower_regions.specs.Opened.{IsOpened, with_opened}
use Rattle.lower_regions.proofs.brackets.rexpr_computed.Goals as goal

pub returns-in-Named-clause-rows : goal.returns-in-Named-clause-rows
returns-in-Named-clause-rows c =
    let parts = out-Rexpr c.args.rexpr.now in
    let is : rexpr_of c.args.rexpr.now ≡ plain.Rexpr (map pre_of parts.pre.now)
    (plain.NamedRegion (name_of c.in-Named.name)) (posts_of parts.post.now) =
    rexpr_of-parts c.args.rexpr.now
    ∙ ap (λ base. plain.Rexpr (map pre_of parts.pre.now) (base_of base) (posts_of parts.post.now))
    c.in-Named.is in
    let P : plain.Inner → Type 0 = λ inner. OnOk c.named_computed.result
    (c.named_computed.new.draft ≡ with_opened c.args.draft.now
    (computed (where_of c.args.place.now) c.args.draft.now.next.slots c.args.line
    (slotted_of c.args.current.now) inner)) in
    subst P (sym is) (c.named_computed.ensures.rows (slotted_of c.args.current.now))

pub returns-in-Named-clause-opened : goal.returns-in-Named-clause-opened
returns-in-Named-clause-opened c =
    let parts = out-Rexpr c.args.rexpr.now in
    let is : rexpr_of c.args.rexpr.now ≡ plain.Rexpr (map pre_of parts.pre.now)
    (plain.NamedRegion (name_of c.in-Named.name)) (posts_of parts.post.now) =
    rexpr_of-parts c.args.rexpr.now
    ∙ ap (λ base. plain.Rexpr (map pre_of parts.pre.now) (base_of base) (posts_of parts.post.now))
    c.in-Named.is in
    let P : plain.Inner → Type 0 = λ inner. IfOk c.named_computed.result (IsOpened
    (computed (where_of c.args.place.now) c.args.draft.now.next.slots c.args.line
    (slotted_of c.args.current.now) inner)) in
    subst P (sym is) (c.named_computed.ensures.opened (slotted_of c.args.current.now))

pub returns-in-Ditto-clause-rows : goal.returns-in-Ditto-clause-rows
returns-in-Ditto-clause-rows c =
    let parts = out-Rexpr c.args.rexpr.now in
    let is = rexpr_of-parts c.args.rexpr.now
    ∙ ap (λ base. plain.Rexpr (map pre_of parts.pre.now) (base_of base) (posts_of parts.post.now))
    c.in-Ditto.is in
    let P : plain.Inner → Type 0 = λ inner. OnOk c.formed.result
    (c.formed.new.draft ≡ with_opened c.args.draft.now
    (computed (where_of c.args.place.now) c.args.draft.now.next.slots c.args.line
    (slotted_of c.args.current.now) inner)) in
    subst P (sym is) c.formed.ensures.rows

pub returns-in-Ditto-clause-opened : goal.returns-in-Ditto-clause-opened
returns-in-Ditto-clause-opened c =
    let parts = out-Rexpr c.args.rexpr.now in
    let is = rexpr_of-parts c.args.rexpr.now
    ∙ ap (λ base. plain.Rexpr (map pre_of parts.pre.now) (base_of base) (posts_of parts.post.now))
    c.in-Ditto.is in
    let P : plain.Inner → Type 0 = λ inner. IfOk c.formed.result (IsOpened
    (computed (where_of c.args.place.now) c.args.draft.now.next.slots c.args.line
    (slotted_of c.args.current.now) inner)) in
    subst P (sym is) c.formed.ensures.opened
