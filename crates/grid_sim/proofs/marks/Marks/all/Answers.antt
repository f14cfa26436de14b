use Rattle.std.proofs.Common.{◌≡◌, ap, ◌∙◌, not, eqb-true, refl, arith}
use Rattle.std.specs.List.{count_by}
use Rattle.grid_sim.proofs.MarkLemmas.{all_marked, none_unmarked}
use Rattle.grid_sim.proofs.marks.Marks.all.Goals as goal

pub returns : goal.returns
returns c =
    let marks = c.args.self.now in
    let counted : c.self.inside.unmarked ≡ count_by not marks = c.self.invariant ∙ ap (count_by not) c.self.view_is in (
      λ is. all_marked marks (let none = eqb-true c.self.inside.unmarked 0 is in omega arith),
      λ all. let none : c.self.inside.unmarked ≡ 0 = counted ∙ none_unmarked marks all in rw none refl,
    )
