use Rattle.node_text.proofs.TypedTables.{tables_typed}
use Rattle.node_text.proofs.Written.{is_listing}
use Rattle.node_text.proofs.laws.what_is_written_is_read.Goals as goal

pub returns : goal.returns
returns c = record {
  listed = λ tables typed fits room. is_listing tables fits room typed;
  typed = λ bytes tables is. tables_typed is.lines tables is.rows is.are.lead.lines_are;
}
