-- Borders that prefixes are.
use Rattle.std.proofs.Common.{◌≡◌, true, false, ◌==◌, List, [], ◌∷◌, map, length, None, refl}
use Rattle.zpl_tree.specs.Syntax.{RegionBase, Rexpr}
use Rattle.zpl_tree.specs.View.{posts_of, pre_of}
use Rattle.zpl_tree.specs.declared.regions.Post.{Post}
use Rattle.zpl_tree.specs.declared.regions.Pre.{Pre}
use Rattle.zpl_binding.specs.Regions.{Known}
use Rattle.lower_places.specs.of_zpl_lowering.Where.{Slotted}
use Rattle.lower_places.specs.of_zpl_lowering.Statement.{edge_of}

no-post : (length {A = Post} [] == 0) ≡ false → ⊥
no-post e = cc

-- with something behind the region it is none
pub edge_behind : (known : Known) (current : Slotted) (pre : List Pre) (base : RegionBase)
    (post : List Post) → (length post == 0) ≡ false →
    edge_of known current (Rexpr (map pre_of pre) base (posts_of post)) ≡ None
edge_behind known current [] base post h = refl
edge_behind known current (pre ∷ []) base [] h = absurd (no-post h)
edge_behind known current (pre ∷ []) base (post ∷ rest) h = refl
edge_behind known current (pre ∷ second ∷ rest) base post h = refl
