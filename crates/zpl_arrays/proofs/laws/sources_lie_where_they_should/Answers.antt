use Rattle.zpl_arrays.proofs.SourceLemmas.{around_source_lies, border_source_lies, flood_source_lies}
use Rattle.zpl_arrays.proofs.laws.sources_lie_where_they_should.Goals as goal

pub returns : goal.returns
returns c = record { border = border_source_lies; flood = flood_source_lies; around = around_source_lies }
