use Rattle.std.proofs.Common.{w64, to_z, of_z, ◌-ℤ◌, nat_abs, inl, inr, arith}
use Rattle.std.proofs.lemmas.Bool.{false≢true}
use Rattle.std.proofs.lemmas.Int.{ints}
use Rattle.zpl_region.proofs.ProgressionLemmas.{none_outside, contains_iff}
use Rattle.zpl_region.proofs.progressions.Progression.contains.Goals as goal
use Rattle.zpl_region.proofs.progressions.Progression.contains.Goals.{then-self-eq0-via-then-self-eq0, then-self-eq0-via-else-self-eq0+then-x-self, then-self-eq0-via-else-self-eq0+else-x-self+then-at-x}

pub returns-then-self-eq0 : goal.returns-then-self-eq0
returns-then-self-eq0 c =
    let p = c.args.self in (
      λ e. absurd (false≢true e),
      λ m. absurd (none_outside p.first p.step p.count c.args.x (λ some. elim c.then-self-eq0.branch [
        | then-self-eq0-via-then-self-eq0 w ↦ absurd (omega arith)
        | then-self-eq0-via-else-self-eq0+then-x-self w ↦ inl (omega (arith, ints))
        | then-self-eq0-via-else-self-eq0+else-x-self+then-at-x w ↦ inr (omega (arith, ints))
      ]) m),
    )

pub returns : goal.returns
returns c =
    let p = c.args.self in
    let g = nat_abs (to_z w64 (of_z w64 (to_z w64 (of_z w64 c.args.x) -ℤ to_z w64 (of_z w64 p.first)))) in
    contains_iff p.first p.step p.count g c.args.x (omega arith) (omega arith) (omega (arith, ints)) (omega (arith, ints))
