use Rattle.std.proofs.Common.{List, subst}
use Rattle.listing_rules.specs.of_listing_lines.declared.lines.Line.{Line}
use Rattle.listing_rules.proofs.of_listing_lines.OneWay.{one_listing, lines_or_fault}
use Rattle.listing_rules.specs.Stages.{AreTables}
use Rattle.listing_rules.proofs.OneTables.{tables_one, breaks_not}
use Rattle.node_text.proofs.laws.bytes_have_one_program.Goals as goal

pub returns : goal.returns
returns c = record {
  program = λ bytes one other is also.
      let same = one_listing bytes is.lines also.lines is.are also.are in
      tables_one also.lines one other (subst (λ (lines : List Line). AreTables lines one) same is.rows) also.rows;
  line = λ bytes tables number is bad. lines_or_fault bytes is.lines number is.are bad;
  table = λ bytes tables number is bad.
      let same = one_listing bytes is.lines bad.lines is.are bad.are in
      breaks_not bad.lines tables (subst (λ (lines : List Line). AreTables lines tables) same is.rows) bad.breaks;
}
