use Rattle.std.proofs.Common.{◌≡◌, ◌*◌, sym, arith, rules, ◌≤◌, [], ◌∷◌, get_or}
use Rattle.grid_layout.proofs.GridLemmas.{IsCut, cut_few, of_three}
use Rattle.grid_layout.proofs.ThreeLemmas.{AreFew}
use Rattle.std.proofs.lemmas.List.Elements.{All-from_recursion}
use Rattle.grid_layout.proofs.grids.Grid.cuts.Goals as goal

pub returns-in-2-clause-count : goal.returns-in-2-clause-count
returns-in-2-clause-count c =
    let three : IsCut c.self.inside.factors c.max-second.result c.max-third.result = of_three c.self.inside.factors c.max-second.result c.max-third.result c.self.told c.self.invariant c.max-second.ensures c.max-third.ensures in
    rw (← c.self.view_is) (rw three.count (omega arith))

pub returns-in_default-clause-cuts : goal.returns-in_default-clause-cuts
returns-in_default-clause-cuts c =
    let three : IsCut c.self.inside.factors c.max-second.result c.max-third.result = of_three c.self.inside.factors c.max-second.result c.max-third.result c.self.told c.self.invariant c.max-second.ensures c.max-third.ensures in
    let rank : c.args.rank ≡ 3 = search rules in
    rw (← c.self.view_is, rank) (sym three.cuts)

pub returns-in_default-clause-count : goal.returns-in_default-clause-count
returns-in_default-clause-count c =
    let three : IsCut c.self.inside.factors c.max-second.result c.max-third.result = of_three c.self.inside.factors c.max-second.result c.max-third.result c.self.told c.self.invariant c.max-second.ensures c.max-third.ensures in
    rw (← c.self.view_is) (rw three.count (omega arith))

pub returns-in-2-clause-few : goal.returns-in-2-clause-few
returns-in-2-clause-few c =
    let three : IsCut c.self.inside.factors c.max-second.result c.max-third.result = of_three c.self.inside.factors c.max-second.result c.max-third.result c.self.told c.self.invariant c.max-second.ensures c.max-third.ensures in
    let few : AreFew (get_or c.self.inside.factors 0 0) c.max-second.result c.max-third.result = cut_few c.self.inside.factors c.max-second.result c.max-third.result three c.self.invariant (omega arith) (omega arith) in
    All-from_recursion (λ n. n ≤ 64) (get_or c.self.inside.factors 0 0 ∷ c.max-second.result * c.max-third.result ∷ 1 ∷ []) (few.first, (few.rest, (omega arith, tt)))

pub returns-in_default-clause-few : goal.returns-in_default-clause-few
returns-in_default-clause-few c =
    let three : IsCut c.self.inside.factors c.max-second.result c.max-third.result = of_three c.self.inside.factors c.max-second.result c.max-third.result c.self.told c.self.invariant c.max-second.ensures c.max-third.ensures in
    let few : AreFew (get_or c.self.inside.factors 0 0) c.max-second.result c.max-third.result = cut_few c.self.inside.factors c.max-second.result c.max-third.result three c.self.invariant (omega arith) (omega arith) in
    All-from_recursion (λ n. n ≤ 64) (get_or c.self.inside.factors 0 0 ∷ c.max-second.result ∷ c.max-third.result ∷ []) (few.first, (few.second, (few.third, tt)))
