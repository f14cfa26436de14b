-- The grid of one processor.
use Rattle.std.proofs.Common.{◌≡◌, [], ◌∷◌, refl, arith}
use Rattle.std.proofs.lemmas.List.Elements.{All-from_recursion}
use Rattle.node_form.specs.Grid.{IsGrid}

pub one_processor : IsGrid (1 ∷ 0 ∷ 0 ∷ [])
one_processor = record {
  some = omega arith;
  absent = All-from_recursion (λ factor. factor ≡ 0) (0 ∷ 0 ∷ []) (refl, (refl, tt));
  few = omega arith;
}
