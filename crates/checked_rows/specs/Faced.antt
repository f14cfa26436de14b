-- What holds of all processors in front of an instruction of sound code, in lock step.
use Rattle.std.specs.Prelude.{◌≡◌, ℕ, ◌<◌, true, false, ℤ, List, All, Contains, length, slice_get}
use Rattle.std.specs.Prelude.{Some}
use Rattle.std.specs.List.{AllZip}
use Rattle.node_form.specs.declared.arrays.ArrayRow.{ArrayRow}
use Rattle.node_form.specs.declared.arrays.Item.{Item}
use Rattle.node_form.specs.declared.tables.Tables.{Tables}
use Rattle.node_form.specs.Fits.{Fits}
use Rattle.node_form.specs.Value.{unmoved}
use Rattle.typed_tables.specs.Typed.{AreTyped}
use Rattle.grid_meaning.specs.Collective.{others_where}
use Rattle.grid_meaning.specs.Exchange.{word_count}
use Rattle.grid_meaning.specs.Local.{processors}
use Rattle.grid_meaning.specs.State.{HasParts}
use Rattle.row_orders.specs.Rows.{Flight}
use Rattle.plan_meaning.specs.Abreast.{Abreast, locals_of}
use Rattle.node_check.specs.Demand.{is_near}
use Rattle.node_check.specs.declared.facts.Fact.{Fact}
use Rattle.node_check.specs.declared.facts.Fact.TheVariants.{Held, Uniform}
use Rattle.node_check.specs.Told.{AreTold, Says}

-- ---- tables that fit, and have what the types of a program give
pub record AreTables (code : Tables) : Type 0 where
  pub fits : Fits code
  pub typed : AreTyped code

-- ---- open exchanges
-- What is on its way in an exchange goes where its items want words by the slots that there are
-- now, and is as long as they want it; and its items are within fringes.
pub record IsFlightOf (code : Tables) (all : Abreast) (exchange : ℕ)
    (flight : Flight) : Type 0 where
  pub items : List Item
  pub there : slice_get code.exchanges exchange ≡ Some items
  pub number : flight.exchange ≡ exchange
  pub near : All (λ (item : Item). is_near code item.array item.shift ≡ true) items
  pub to : (p : ℕ) → p < processors code
      → flight.to p ≡ others_where code p (word_count code (locals_of all p) items p)
  pub long : (p q : ℕ) → p < processors code → q < processors code → Contains (flight.to p) q
      → length (flight.words p q) ≡ word_count code (locals_of all p) items p q

-- one for each exchange that is open, in their order
abbrev pub AreFlightsOf : Tables → Abreast → List ℕ → List Flight → Type 0
AreFlightsOf code all opened flights = AllZip (IsFlightOf code all) opened flights

-- ---- With these exchanges open, and these facts: what they say holds, and of temporaries they say
-- nothing of places that are moved; each processor has what is the program's; and what is on its
-- way is that of the open exchanges.
pub record IsFaced (code : Tables) (opened : List ℕ) (facts : List Fact) (all : Abreast)
    : Type 0 where
  pub told : AreTold code all facts
  pub uniform : (scalar : ℕ) → Contains facts (Uniform scalar) → Says code all (Uniform scalar)
  pub at_rest : (slot array : ℕ) (shift : List ℤ) (row : ArrayRow)
      → Contains facts (Held slot array shift) → slice_get code.arrays array ≡ Some row
      → row.stored ≡ false → shift ≡ unmoved
  pub parts : (p : ℕ) → p < processors code → HasParts code p (locals_of all p)
  pub flights : AreFlightsOf code all opened all.flights
