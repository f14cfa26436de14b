use Rattle.flat_form.proofs.ReadLemmas.{are_inline, read_again}
use Rattle.flat_form.proofs.laws.added_rows_are_read_again.Goals as goal

pub returns : goal.returns
returns c = record { again = read_again; inline = are_inline }
