-- What the code of borders answers, dimension by dimension.
use Rattle.std.proofs.Common.{◌≡◌, refl, ◌∙◌, ap, List, [], ◌∷◌, length, get_or, ℤ, pos}
use Rattle.zpl_nums.specs.declared.ends.Border.{Border}
use Rattle.zpl_region.specs.declared.dims.Dim.{Dim}
use Rattle.zpl_region.proofs.ListLemmas.{cons_same}
use Rattle.zpl_region.proofs.RegionLemmas.{three_components, three_dims}
use Rattle.zpl_arrays.specs.Border.{dim_border_source, each_border_source}

abbrev three_of : {X : Type 0} → List X → X → List X
three_of xs e = get_or xs 0 e ∷ get_or xs 1 e ∷ get_or xs 2 e ∷ []

pub sources_told : (kind : Border) (v : List ℤ) (dims : List Dim) (t : List ℤ) (e : Dim)
    (x y z : ℤ) → length v ≡ 3 → length dims ≡ 3 → length t ≡ 3 →
    x ≡ dim_border_source kind (get_or v 0 (pos 0)) (get_or dims 0 e) (get_or t 0 (pos 0)) →
    y ≡ dim_border_source kind (get_or v 1 (pos 0)) (get_or dims 1 e) (get_or t 1 (pos 0)) →
    z ≡ dim_border_source kind (get_or v 2 (pos 0)) (get_or dims 2 e) (get_or t 2 (pos 0)) →
    x ∷ y ∷ z ∷ [] ≡ each_border_source kind v dims t
sources_told kind v dims t e x y z lv ld lt p q r =
    cons_same p (cons_same q (cons_same r refl))
    ∙ (ap (λ l. each_border_source kind l (three_of dims e) (three_of t (pos 0)))
    (three_components v (pos 0) lv)
    ∙ (ap (λ l. each_border_source kind v l (three_of t (pos 0))) (three_dims dims e ld)
    ∙ ap (each_border_source kind v dims) (three_components t (pos 0) lt)))
