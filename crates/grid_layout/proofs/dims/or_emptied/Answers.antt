use Rattle.std.proofs.Common.{[], ◌∷◌, sym, subst}
use Rattle.std.proofs.lemmas.List.Elements.{All-from_recursion}
use Rattle.grid_layout.specs.Layout.{HasWideBounds}
use Rattle.grid_layout.proofs.SizeLemmas.{emptied_wide}
use Rattle.grid_layout.proofs.dims.or_emptied.Goals as goal

pub returns-in_default-clause-bounds : goal.returns-in_default-clause-bounds
returns-in_default-clause-bounds c =
    All-from_recursion HasWideBounds (c.emptied-in_default.result ∷ c.emptied-in_default-2.result ∷ c.emptied-in_default-3.result ∷ []) (
      subst HasWideBounds (sym c.emptied-in_default.ensures) (emptied_wide _),
      (subst HasWideBounds (sym c.emptied-in_default-2.ensures) (emptied_wide _), (subst HasWideBounds (sym c.emptied-in_default-3.ensures) (emptied_wide _), tt)),
    )
