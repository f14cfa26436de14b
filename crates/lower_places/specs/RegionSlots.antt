-- The slots of declared regions: each has one, in the order of the text.
use Rattle.std.specs.Prelude.{◌≡◌, ℕ, ◌+◌, List, [], ◌∷◌, map, Option, Some, None, position}
use Rattle.std.specs.Str.{bytes_eq}
use Rattle.std.specs.Borrow.{Bor}
use Rattle.zpl_bind.specs.declared.tables.Table.{Table}
use Rattle.zpl_bind.specs.Tables.{IsTable, listed}
use Rattle.zpl_binding.specs.Regions.{Known}

-- the names that have slots
abbrev pub region_names : Known → List (List ℕ)
region_names known = map (λ one. one.name) known.regions

abbrev pub slot_or : Option ℕ → ℕ
slot_or None = 0
slot_or (Some slot) = slot

-- the slot of a name, of two equal ones the first
abbrev pub slot_in : List (List ℕ) → List ℕ → ℕ
slot_in names text = slot_or (position (λ name. bytes_eq name text) names)

-- names with their slots, which are numbered from one on
abbrev pub slots_from : ℕ → List (List ℕ) → List (List ℕ × ℕ)
slots_from slot [] = []
slots_from slot (name ∷ names) = (name, slot) ∷ slots_from (slot + 1) names

-- the names of entries in memory
abbrev pub texts_of : {T : Type 0} → List (Bor (List ℕ) × T) → List (List ℕ)
texts_of entries = map (λ entry. entry.0.now) entries

-- in memory: they are found, and numbered in their order
pub record AreSlots (table : Table ℕ) : Type 0 where
  pub finds : IsTable table
  pub numbered : listed table ≡ slots_from 0 (map (λ entry. entry.0) (listed table))
