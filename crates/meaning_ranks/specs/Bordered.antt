-- The names of a border statement, each of which is a statement.
use Rattle.std.specs.Prelude.{◌≡◌, ℕ, ◌<◌, List, ◌∷◌, length, Some}
use Rattle.zpl_nums.specs.declared.ends.Border.{Border as BorderKind}
use Rattle.zpl_nums.specs.declared.ends.End.TheVariants.{Done}
use Rattle.zpl_region.specs.declared.regions.Region.{Region}
use Rattle.meaning_runs.specs.of_zpl_tree.Syntax.{Name}
use Rattle.meaning_runs.specs.of_zpl_meaning.Store.{ArrayAt, Store, thing_of}
use Rattle.meaning_runs.specs.of_zpl_meaning.Context.{Edge, Place}
use Rattle.meaning_runs.specs.of_zpl_meaning.Outcome.{Outcome}
use Rattle.meaning_runs.specs.of_zpl_meaning.Statement.{border_thing}
use Rattle.meaning_ranks.specs.Ranked.{IsArrayOf}

-- the border of one name
abbrev pub border_named : Place → BorderKind → ℕ → Name → Store → Outcome
border_named place kind line name store =
    border_thing kind place.edge (thing_of place.environment name.text) line store

-- from the names at a store to one of them, with the store there: those before it have ended
pub data ComesToName (place : Place) (kind : BorderKind) (line : ℕ) : List Name → Store → Name →
    Store → Type 0 where
  First : (name : Name) (rest : List Name) (store : Store) →
      ComesToName place kind line (name ∷ rest) store name store
  Later : (first name : Name) (rest : List Name) (store later : Store) →
      (border_named place kind line first store).ending ≡ Done →
      ComesToName place kind line rest (border_named place kind line first store).store name
      later →
      ComesToName place kind line (first ∷ rest) store name later

-- The name is an array's, of the rank of the nearest prefix, which is the border that is written;
-- and the array is there.
pub record IsBordered (place : Place) (store : Store) (name : Name) : Type 0 where
  pub edge : Edge
  pub on : place.edge ≡ Some edge
  pub target : ℕ
  pub home : Region
  pub array : thing_of place.environment name.text ≡ Some (ArrayAt target home)
  pub ranked : IsArrayOf place place.prefix name
  pub there : target < length store.arrays
