-- Tables: what was computed for names, in text order.
use Rattle.std.specs.Prelude.{◌≡◌, ℕ, List, [], ◌∷◌, map, if◌then◌else◌, Option, Some, None}
use Rattle.std.specs.HashMap.{get_by}
use Rattle.std.specs.Str.{bytes_eq}
use Rattle.zpl_bind.specs.declared.tables.Table.{Table}
use Rattle.zpl_parts.specs.of_zpl_binding.Outcome.{Gives, Computed}

-- the names with what was computed for them
abbrev pub listed : {T : Type 0} → Table T → List (List ℕ × T)
listed table = map (λ entry. (entry.0.now, entry.1)) table.entries.items

-- that of a name, of two of one name the first
abbrev pub found : {T : Type 0} → List (List ℕ × T) → List ℕ → Option T
found [] text = None
found (entry ∷ rest) text = if bytes_eq entry.0 text then Some entry.1 else found rest text

-- the same as outcomes, which all have a value
abbrev pub computed : {T : Type 0} → List (List ℕ × T) → List (Computed T)
computed entries = map (λ entry. record { name = entry.0; outcome = Gives entry.1 }) entries

-- looking a name up finds what is listed first
pub record IsTable {T : Type 0} (table : Table T) : Type 0 where
  pub finds : (text : List ℕ) →
      get_by (λ key. bytes_eq text key.now) table.first ≡ found (listed table) text
