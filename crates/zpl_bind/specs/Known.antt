-- What is known of the declarations so far, where all of it has a value.
use Rattle.std.specs.Prelude.{◌≤◌, ℕ, ℤ, List, [], ◌∷◌, ◌++◌, map, All, IsTrue}
use Rattle.std.specs.Borrow.{Bor}
use Rattle.zpl_tree.specs.Syntax.{Name}
use Rattle.zpl_parts.specs.of_zpl_binding.Outcome.{BindFault, Outcome, failures}
use Rattle.zpl_parts.specs.of_zpl_binding.Settings.{Setting}
use Rattle.zpl_parts.specs.of_zpl_binding.Declarations.{computed_for}
use Rattle.zpl_bind.specs.declared.tables.Table.{Table}
use Rattle.zpl_region.specs.declared.regions.Region.{Region}
use Rattle.zpl_region.specs.Dim.{HasStep}
use Rattle.zpl_region.specs.Region.{IsPadded}
use Rattle.zpl_region.specs.Tests.{is_within_limit}
use Rattle.zpl_parts.specs.of_zpl_binding.Bound.{IsVector}
use Rattle.zpl_parts.specs.of_zpl_binding.Regions as plain
use Rattle.zpl_bind.specs.declared.known.Known.{Known}
use Rattle.zpl_bind.specs.Tables.{IsTable, computed, listed}

abbrev pub known_in : Known → plain.Known
known_in known = record {
  values = computed (listed known.values);
  regions = computed (listed known.regions);
  directions = computed (listed known.directions);
}

-- a region that was computed: its rank may be 0
pub record IsBuilt (region : Region) : Type 0 where
  pub low : region.rank ≤ 3
  pub steps : All HasStep region.dims
  pub padded : IsPadded region.rank region.dims
  pub within : IsTrue (is_within_limit region)

pub record IsKnown (known : Known) : Type 0 where
  pub values : IsTable known.values
  pub regions : IsTable known.regions
  pub directions : IsTable known.directions
  pub built : All (λ entry. IsBuilt entry.1) (listed known.regions)
  pub vectors : All (λ entry. IsVector entry.1) (listed known.directions)

-- the faults of what was computed
abbrev pub known_failures : plain.Known → List BindFault
known_failures known =
    failures (map (λ one. one.outcome) known.values) ++
    failures (map (λ one. one.outcome) known.regions) ++
    failures (map (λ one. one.outcome) known.directions)

-- a region or a direction more
abbrev pub adds_region : plain.Known → Name → Outcome Region → plain.Known
adds_region known name region =
    record known { regions = known.regions ++ computed_for name region ∷ [] }

abbrev pub adds_direction : plain.Known → Name → Outcome (List ℤ) → plain.Known
adds_direction known name vector =
    record known { directions = known.directions ++ computed_for name vector ∷ [] }

-- the settings that a table of texts has
abbrev pub settings_in : Table (Bor (List ℕ)) → List Setting
settings_in texts =
    map (λ entry. record { name = entry.0; value = entry.1.now }) (listed texts)
