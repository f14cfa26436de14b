-- Arrays with other values have the flood dimensions that they had.
use Rattle.std.proofs.Common.{◌≡◌, sym, subst, ◌⊎◌, List, [], ◌∷◌, length, map, true}
use Rattle.std.specs.List.{AllZip}
use Rattle.zpl_region.specs.declared.regions.Region.{Region}
use Rattle.zpl_arrays.specs.Array.{Array}
use Rattle.node_form.specs.declared.arrays.ArrayRow.{ArrayRow}
use Rattle.plan_meaning.specs.of_grid_meaning.Stored.{no_places}
use Rattle.plan_meaning.specs.of_flat_form.Right.{matches}
use Rattle.needs_runs.specs.Holds.{HasFloodsOf}

pub floods_kept : (rows : List ArrayRow) (olds news : List Array)
    → map (λ (a : Array). a.storage) olds ≡ map (λ (a : Array). a.storage) news
    → AllZip HasFloodsOf rows olds → AllZip HasFloodsOf rows news
floods_kept [] [] [] same all = tt
floods_kept [] [] (new ∷ news) same all = cc
floods_kept [] (old ∷ olds) news same all = absurd all
floods_kept (row ∷ rows) [] news same all = absurd all
floods_kept (row ∷ rows) (old ∷ olds) [] same all = cc
floods_kept (row ∷ rows) (old ∷ olds) (new ∷ news) same all =
    let first : old.storage ≡ new.storage = cc in
    let rest : map (λ (a : Array). a.storage) olds ≡ map (λ (a : Array). a.storage) news = cc in (
      subst (λ (r : Region). (r ≡ no_places row.rank)
          ⊎ ((length r.dims ≡ length row.dims) × (matches row r ≡ true))) first all.0,
      floods_kept rows olds news rest all.1,
    )
