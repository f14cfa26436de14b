use Rattle.std.proofs.Common.{Bool, ◌&&◌, ◌==◌, length, ap, sym, ◌∙◌}
use Rattle.lower_regions.proofs.BracketLemmas.{forms_none}
use Rattle.lower_regions.proofs.brackets.has_no_forms.Goals as goal

pub returns-then-is_empty : goal.returns-then-is_empty
returns-then-is_empty c = λ known.
    c.is_empty-then-is_empty.ensures
    ∙ sym (ap (λ (b : Bool). b && (length c.args.post.now == 0))
    (sym c.is_empty.ensures ∙ c.if-is_empty.true))
    ∙ forms_none known c.args.pre.now c.args.post.now

pub returns-else-is_empty : goal.returns-else-is_empty
returns-else-is_empty c = λ known.
    c.if-is_empty.false
    ∙ sym (ap (λ (b : Bool). b && (length c.args.post.now == 0))
    (sym c.is_empty.ensures ∙ c.if-is_empty.false))
    ∙ forms_none known c.args.pre.now c.args.post.now
