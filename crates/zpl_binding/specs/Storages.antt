-- The storages of arrays.
use Rattle.std.specs.Prelude.{ℕ, ◌==◌, if◌then◌else◌, List, [], ◌∷◌, ◌++◌, map, flat_map, filter, find, Option, Some, None}
use Rattle.std.specs.Str.{bytes_eq}
use Rattle.zpl_arrays.specs.of_zpl_region.declared.regions.Region.{Region}
use Rattle.zpl_arrays.specs.of_zpl_region.Region.{outside_of}
use Rattle.zpl_arrays.specs.of_zpl_region.Hull.{hull, hull_with}
use Rattle.zpl_tree.specs.Syntax.{Name, Pre, NamedRegion, Inner, Rexpr, Bracket, NoBracket, Bracketed, NoPost, VarDef, Decl, Vars, Program}
use Rattle.zpl_names.specs.Declared.{routines_of}
use Rattle.zpl_names.specs.Sites.{Site, AtRegion, text_sites}
use Rattle.zpl_binding.specs.Outcome.{Outcome, Gives, and_then, outcome_map, outcome_of}
use Rattle.zpl_binding.specs.Vectors.{three_components}
use Rattle.zpl_binding.specs.Regions.{Known, limited, no_region, is_region_name, inner_of}

-- ---- borders: the `d of R` of the text

-- `d of R`, with R's own name directly behind the `of`, and no `at` or `by` behind that
pub record Border : Type 0 where
  pub direction : Name
  pub region : Name

abbrev pub innermost : List Pre → Name → List Border
innermost [] region = []
innermost (pre ∷ []) region =
    if pre.outside then record { direction = pre.dir; region = region } ∷ [] else []
innermost (pre ∷ rest) region = innermost rest region

abbrev pub borders_at : Site → List Border
borders_at (AtRegion reach hint (Rexpr pre (NamedRegion region) NoPost)) = innermost pre region
borders_at site = []

-- those of the whole text, shapes of formals among them
abbrev pub borders_of : Program → List Border
borders_of program = flat_map borders_at (text_sites program)

-- those of a region's name
abbrev pub borders_around : List Border → Name → List Border
borders_around borders region =
    filter (λ border. bytes_eq border.region.text region.text) borders

-- ---- storages

-- the hull of what there is and of each `d of R`
abbrev pub widened : Known → Region → Region → List Border → Outcome Region
widened known region storage [] = Gives storage
widened known region storage (border ∷ rest) =
    and_then (outcome_of (three_components []) known.directions border.direction.text) (λ vector.
    widened known region (hull_with storage (outside_of vector region)) rest)

-- the borders of a shape: those of a region's name, and none of another region
abbrev pub shape_borders : Known → List Border → Inner → List Border
shape_borders known borders (Rexpr [] (NamedRegion name) NoPost) =
    if is_region_name known name then borders_around borders name else []
shape_borders known borders inner = []

-- The home box of an array: the hull of the region that it is declared over.
abbrev pub home_of : Known → Inner → Outcome Region
home_of known inner = outcome_map hull (inner_of known inner)

-- Its storage: the hull of that region and, where that is declared by its name, of its borders.
abbrev pub storage_of : Known → List Border → Inner → Outcome Region
storage_of known borders inner =
    and_then (inner_of known inner) (λ region.
    and_then (widened known region (hull region) (shape_borders known borders inner)) limited)

-- ---- all arrays

-- An array that is declared: its name, which tells it apart, and its region.
pub record Shaped : Type 0 where
  pub name : Name
  pub region : Inner

abbrev pub shaped_over : List Name → Bracket → List Shaped
shaped_over names NoBracket = []
shaped_over names (Bracketed region) = map (λ name. record { name = name; region = region }) names

abbrev pub shaped_by : VarDef → List Shaped
shaped_by var = shaped_over var.names var.shape

abbrev pub shaped_in : Decl → List Shaped
shaped_in (Vars vars) = flat_map shaped_by vars
shaped_in decl = []

-- the global arrays and then the local arrays, each in text order
abbrev pub arrays_of : Program → List Shaped
arrays_of program =
    flat_map shaped_in program.decls ++
    flat_map (λ routine. flat_map shaped_by routine.procedure.locals) (routines_of program)

abbrev pub storages_of : Program → Known → List (Outcome Region)
storages_of program known =
    map (λ array. storage_of known (borders_of program) array.region) (arrays_of program)

-- the home box of an array; no array of an accepted program is missing
abbrev pub home_or : Known → Option Shaped → Outcome Region
home_or known None = Gives no_region
home_or known (Some array) = home_of known array.region

-- the home box of the array whose name stands at an offset
abbrev pub home_at : Program → Known → ℕ → Outcome Region
home_at program known at =
    home_or known (find (λ array. array.name.at == at) (arrays_of program))

-- and its storage
abbrev pub storage_or : Program → Known → Option Shaped → Outcome Region
storage_or program known None = Gives no_region
storage_or program known (Some array) = storage_of known (borders_of program) array.region

abbrev pub storage_at : Program → Known → ℕ → Outcome Region
storage_at program known at =
    storage_or program known (find (λ array. array.name.at == at) (arrays_of program))
