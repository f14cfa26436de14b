-- The regions and directions that are named in the text, and the vectors there: what was computed
-- for them before the run.
use Rattle.std.specs.Prelude.{◌≡◌, false, List, All, Contains}
use Rattle.zpl_meaning.specs.of_zpl_tree.Syntax.{Pre, RegionBase, NamedRegion, Ditto, NamedDir, Vector, Rexpr}
use Rattle.zpl_meaning.specs.of_zpl_tree.Syntax.{Posts, NoPost, ThenPost, Program}
use Rattle.zpl_meaning.specs.of_zpl_names.Ranks.{is_index}
use Rattle.zpl_meaning.specs.of_zpl_names.Sites.{Reach, Site, AtDir, AtRegion}
use Rattle.zpl_meaning.specs.of_zpl_binding.Regions.{Known}
use Rattle.zpl_meaning.specs.of_zpl_binding.Declarations.{names_of}
use Rattle.zpl_meaning.specs.of_zpl_binding.Bound.{vectors_in}

-- the vectors that stand behind `at` and `by` are among those of the statements of the text
abbrev pub HasVectors : Program → Posts → Type 0
HasVectors program NoPost = Unit {0}
HasVectors program (ThenPost stride (NamedDir name) rest) = HasVectors program rest
HasVectors program (ThenPost stride (Vector parts) rest) =
    Contains (vectors_in program) parts × HasVectors program rest

-- the directions of `of` and `in`
abbrev pub HasDirections : Known → List Pre → Type 0
HasDirections known pre = All (λ one. Contains (names_of known.directions) one.dir.text) pre

-- the region that is named, where the name is no index
abbrev pub HasBase : Known → Reach → List Pre → RegionBase → Posts → Type 0
HasBase known reach pre (Ditto at) post = Unit {0}
HasBase known reach pre (NamedRegion name) post =
    is_index reach.scope pre name post ≡ false → Contains (names_of known.regions) name.text

-- What stands at a site of a statement is among what was computed.
abbrev pub IsComputedAt : Program → Known → Site → Type 0
IsComputedAt program known (AtDir reach (NamedDir name)) =
    Contains (names_of known.directions) name.text
IsComputedAt program known (AtDir reach (Vector parts)) = Contains (vectors_in program) parts
IsComputedAt program known (AtRegion reach hint (Rexpr pre base post)) =
    HasDirections known pre × HasBase known reach pre base post × HasVectors program post
IsComputedAt program known site = Unit {0}
