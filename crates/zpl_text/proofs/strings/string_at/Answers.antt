use Rattle.std.proofs.Common.{refl, sym, ◌∙◌}
use Rattle.std.proofs.lemmas.Bool.{false≢true}
use Rattle.zpl_text.specs.Cutting.{open_string}
use Rattle.zpl_text.proofs.Quoted.{IsQuoted, IsQuoted-from, string_cut, string_open, string_bad}
use Rattle.zpl_text.proofs.strings.string_at.Goals as goal
use Rattle.zpl_text.proofs.strings.string_at.Goals.{After-past_body-tail}

-- the quote, and the body that was gone over
quoted : (c : After-past_body-tail) → IsQuoted c.args.rest.now c.past_body-tail.result.now
quoted c = IsQuoted-from c.args.rest.now c.past_body-tail.result.now c.requires.quoted
    c.past_body-tail.ensures.body

pub returns-then-starts_with-clause-cut : goal.returns-then-starts_with-clause-cut
returns-then-starts_with-clause-cut c = (
  string_cut c.args.rest.now c.past_body-tail.result.now
      (quoted (goal.at.returns-then-starts_with-clause-cut c).After-past_body-tail)
      (sym c.if-starts_with.true ∙ c.starts_with.ensures.value),
  tt,
)

pub returns-then-ends_line-clause-cut : goal.returns-then-ends_line-clause-cut
returns-then-ends_line-clause-cut c =
    rw c.offset_of.ensures
    (open_string refl
    (string_open c.args.rest.now c.past_body-tail.result.now
    (quoted (goal.at.returns-then-ends_line-clause-cut c).After-past_body-tail)
    (c.ends_line.ensures.0 c.if-ends_line.true)))

pub returns-else-ends_line-clause-cut : goal.returns-else-ends_line-clause-cut
returns-else-ends_line-clause-cut c =
    rw c.offset_of-else-ends_line.ensures
    (string_bad c.args.text.now c.args.rest.now c.past_body-tail.result.now
    (quoted (goal.at.returns-else-ends_line-clause-cut c).After-past_body-tail)
    (sym c.if-starts_with.false ∙ c.starts_with.ensures.value)
    (λ ends. false≢true (sym c.if-ends_line.false ∙ c.ends_line.ensures.1 ends)))
