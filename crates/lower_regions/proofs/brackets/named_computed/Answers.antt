use Rattle.std.proofs.Common.{◌≡◌, Bool, map, subst, sym, ◌∙◌}
use Rattle.std.specs.Prelude.{IfOk, OnOk}
use Rattle.zpl_tree.specs.View.{name_of, posts_of, pre_of}
use Rattle.zpl_bind.specs.Known.{known_in}
use Rattle.lower_places.specs.of_zpl_lowering.Bracket.{Opened, formed, forms_of, name_opened}
use Rattle.lower_places.specs.View.{where_of}
use Rattle.lower_regions.specs.Opened.{IsOpened, with_opened}
use Rattle.lower_regions.proofs.brackets.named_computed.Goals as goal

pub returns-then-is_index-clause-rows : goal.returns-then-is_index-clause-rows
returns-then-is_index-clause-rows c = λ current.
    let P : Bool → Type 0 = λ b. OnOk c.index_spanned.result
    (c.index_spanned.new.draft ≡ with_opened c.args.draft.now
    (name_opened b (where_of c.args.place.now) c.args.draft.now.next.slots c.args.line current
    (map pre_of c.args.pre.now) (name_of c.args.name.now) (posts_of c.args.post.now))) in
    subst P (sym (sym c.is_index.ensures ∙ c.if-is_index.true))
    (c.index_spanned.ensures.rows current)

pub returns-then-is_index-clause-opened : goal.returns-then-is_index-clause-opened
returns-then-is_index-clause-opened c = λ current.
    let P : Bool → Type 0 = λ b. IfOk c.index_spanned.result (IsOpened
    (name_opened b (where_of c.args.place.now) c.args.draft.now.next.slots c.args.line current
    (map pre_of c.args.pre.now) (name_of c.args.name.now) (posts_of c.args.post.now))) in
    subst P (sym (sym c.is_index.ensures ∙ c.if-is_index.true))
    (c.index_spanned.ensures.opened current)
