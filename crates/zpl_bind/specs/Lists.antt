-- The lists of what is bound, as lists.
use Rattle.std.specs.Prelude.{ℕ, List, map}
use Rattle.zpl_parts.specs.of_zpl_binding.Settings.{Setting}
use Rattle.zpl_bind.specs.declared.lists.Bound.{Bound}
use Rattle.zpl_parts.specs.of_zpl_binding.Bound as plain

-- settings, which are seen as pairs of a name and a value
abbrev pub settings_of : List (List ℕ × List ℕ) → List Setting
settings_of pairs = map (λ pair. record { name = pair.0; value = pair.1 }) pairs

abbrev pub bound_of : Bound → plain.Bound
bound_of bound = record {
  values = bound.values;
  regions = bound.regions;
  vectors = bound.vectors;
  storages = bound.storages;
}
