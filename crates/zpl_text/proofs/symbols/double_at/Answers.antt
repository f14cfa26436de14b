use Rattle.std.proofs.Common.{sym, ◌∙◌}
use Rattle.zpl_text.proofs.Marks.{double_from}
use Rattle.zpl_text.proofs.symbols.double_at.Goals as goal

pub returns : goal.returns
returns c =
    double_from c.args.bytes.now c.pair_of.result c.if-bytes-lt2.false
    (sym c.if-starts_with.false ∙ c.starts_with.ensures.value) c.pair_of.ensures
