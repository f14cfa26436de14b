use Rattle.std.proofs.Common.{Some, sym, ◌∙◌, ap, arith}
use Rattle.std.proofs.lemmas.Int.{ints}
use Rattle.zpl_region.proofs.ProgressionLemmas.{greatest_is}
use Rattle.zpl_region.proofs.progressions.Progression.greatest.Goals as goal

pub returns-else-self-eq0 : goal.returns-else-self-eq0
returns-else-self-eq0 c =
    let p = c.args.self in
    ap Some (omega (arith, ints)) ∙ sym (greatest_is p.first p.step p.count (omega arith))
