use Rattle.std.proofs.Common.{Some, w64, to_z, of_z, ◌-ℤ◌, nat_abs, sym, ◌∙◌, ap, arith}
use Rattle.std.proofs.lemmas.Int.{ints}
use Rattle.zpl_region.proofs.ProgressionLemmas.{above_none, above_first_is, above_between}
use Rattle.zpl_region.proofs.progressions.Progression.above.Goals as goal
use Rattle.zpl_region.proofs.progressions.Progression.above.Goals.{then-self-eq0-via-then-self-eq0, then-self-eq0-via-else-self-eq0+then-at-x}

pub returns-then-self-eq0 : goal.returns-then-self-eq0
returns-then-self-eq0 c =
    let p = c.args.self in
    sym (above_none p.first p.step p.count c.args.x (λ some. elim c.then-self-eq0.branch [
      | then-self-eq0-via-then-self-eq0 w ↦ absurd (omega arith)
      | then-self-eq0-via-else-self-eq0+then-at-x w ↦ omega (arith, ints)
    ]))

pub returns-then-x-self : goal.returns-then-x-self
returns-then-x-self c =
    let p = c.args.self in
    ap Some (omega (arith, ints)) ∙ sym (above_first_is p.first p.step p.count c.args.x (omega arith) (omega (arith, ints)))

pub returns : goal.returns
returns c =
    let p = c.args.self in
    let g = nat_abs (to_z w64 (of_z w64 (to_z w64 (of_z w64 c.args.x) -ℤ to_z w64 (of_z w64 p.first)))) in
    ap Some (omega (arith, ints)) ∙ sym (above_between p.first p.step p.count g c.args.x (omega arith) (omega (arith, ints)) (omega (arith, ints)))
