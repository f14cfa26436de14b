use Rattle.std.proofs.Common.{◌≡◌, w64, to_z, of_z, pos, get_or, sym, ◌∙◌, arith}
use Rattle.std.proofs.lemmas.Int.{ints}
use Rattle.std.proofs.lemmas.Bool.{false≢true}
use Rattle.zpl_region.proofs.HullCode.{member_of_three, three_of_member}
use Rattle.zpl_region.proofs.WalkLemmas.{blank}
use Rattle.zpl_region.proofs.regions.Region.contains.Goals as goal
use Rattle.zpl_region.proofs.regions.Region.contains.Goals.{then-contains, else-contains}

pub returns-then-contains-2 : goal.returns-then-contains-2
returns-then-contains-2 c =
    let ps = c.progressions.result in
    let x0 : to_z w64 (of_z w64 (get_or c.args.x 0 (pos 0))) ≡ get_or c.args.x 0 (pos 0) = omega (arith, ints) in
    let x1 : to_z w64 (of_z w64 (get_or c.args.x 1 (pos 0))) ≡ get_or c.args.x 1 (pos 0) = omega (arith, ints) in
    let x2 : to_z w64 (of_z w64 (get_or c.args.x 2 (pos 0))) ≡ get_or c.args.x 2 (pos 0) = omega (arith, ints) in
    let third = rw x2 at c.contains-then-contains-2.ensures in
    let first = rw x0 at c.contains.ensures in (
      λ t. elim c.if-contains.branch [
        | then-contains w ↦
            (let second = rw x1 at w.contains-then-contains.ensures in
            member_of_three c.args.self.now ps blank c.args.x c.requires c.progressions.ensures.terms (omega arith) (omega arith)
            (first.0 w.if-contains.true, second.0 (sym w.value-is ∙ c.if-contains-2.true), third.0 t))
        | else-contains w ↦ absurd (false≢true (sym w.if-contains.false ∙ (sym w.value-is ∙ c.if-contains-2.true)))
      ],
      λ z. third.1 (three_of_member c.args.self.now ps blank c.args.x c.requires c.progressions.ensures.terms (omega arith) (omega arith) z).2,
    )

pub returns-else-contains-2 : goal.returns-else-contains-2
returns-else-contains-2 c =
    let ps = c.progressions.result in
    let x0 : to_z w64 (of_z w64 (get_or c.args.x 0 (pos 0))) ≡ get_or c.args.x 0 (pos 0) = omega (arith, ints) in
    let x1 : to_z w64 (of_z w64 (get_or c.args.x 1 (pos 0))) ≡ get_or c.args.x 1 (pos 0) = omega (arith, ints) in
    let first = rw x0 at c.contains.ensures in (
      λ t. absurd (false≢true (sym c.if-contains-2.false ∙ t)),
      λ z. let k = three_of_member c.args.self.now ps blank c.args.x c.requires c.progressions.ensures.terms (omega arith) (omega arith) z in
          elim c.if-contains.branch [
            | then-contains w ↦ (let second = rw x1 at w.contains-then-contains.ensures in w.value-is ∙ second.1 k.1)
            | else-contains w ↦ absurd (false≢true (sym w.if-contains.false ∙ first.1 k.0))
          ],
    )
