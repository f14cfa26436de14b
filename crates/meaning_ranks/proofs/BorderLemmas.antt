-- Each name of a border statement that a run comes to is an array's, and the array is there.
use Rattle.std.proofs.Common.{◌≡◌, ℕ, Bool, true, false, cond, List, [], ◌∷◌, Option}
use Rattle.std.proofs.Common.{Some, None, option_map, IsSome, refl, sym, ap, subst, true≢false}
use Rattle.std.specs.List.{AllByRecursion, find}
use Rattle.std.specs.Str.{bytes_eq}
use Rattle.std.proofs.lemmas.List.Elements.{recursion_from_All}
use Rattle.zpl_nums.specs.declared.ends.Border.{Border as BorderKind}
use Rattle.zpl_nums.specs.declared.ends.End.{End}
use Rattle.zpl_nums.specs.declared.ends.End.TheVariants.{Done, Trap, More}
use Rattle.meaning_runs.specs.of_zpl_tree.Syntax.{Name}
use Rattle.meaning_runs.specs.of_zpl_meaning.Store.{Thing, Scalar, ArrayAt, Fixed, Names, Store, thing_of}
use Rattle.meaning_runs.specs.of_zpl_meaning.Context.{Edge, Place}
use Rattle.meaning_runs.specs.of_zpl_meaning.Proper.{IsArray, AreArrays}
use Rattle.meaning_runs.specs.of_zpl_meaning.Outcome.{Outcome, then_do, then_at, goes_on}
use Rattle.meaning_runs.specs.of_zpl_meaning.Statement.{more_borders}
use Rattle.meaning_runs.specs.Held.{HasThing, HasPlaces}
use Rattle.meaning_runs.specs.Kept.{IsNoShorter}
use Rattle.meaning_runs.proofs.KeepLemmas.{same_store, and_then, borders_keep}
use Rattle.meaning_runs.proofs.HeldLemmas.{later_places}
use Rattle.meaning_ranks.specs.Ranked.{IsArrayOf, AreArraysOf}
use Rattle.meaning_ranks.specs.Bordered.{border_named, ComesToName, First, Later, IsBordered}

-- ---- stores

then_same : (first : Outcome) (next : Store → Outcome) → ((s : Store) → next s ≡ goes_on s)
    → (then_do first next).store ≡ first.store
then_same first next same = by first.ending
  where
    by : (ending : End) → (then_at ending first next).store ≡ first.store
    by Done = ap (λ (o : Outcome). o.store) (same first.store)
    by (Trap kind line) = refl
    by More = refl

named_keeps : (place : Place) (kind : BorderKind) (line : ℕ) (name : Name) (store : Store)
    → IsNoShorter store (border_named place kind line name store).store
named_keeps place kind line name store =
    subst (IsNoShorter store)
    (then_same (border_named place kind line name store) (more_borders place kind [] line)
    (λ s. refl)) (borders_keep place kind (name ∷ []) line store)

abbrev OptHas : Store → Option Thing → Type 0
OptHas store None = Unit {0}
OptHas store (Some thing) = HasThing store thing

found_has : (store : Store) (names : Names) (text : List ℕ)
    → AllByRecursion (λ entry. HasThing store entry.1) names
    → OptHas store (thing_of (record { names = names }) text)
found_has store [] text has = tt
found_has store (entry ∷ names) text has =
    by (bytes_eq entry.0 text) (found_has store names text has.1)
  where
    by : (b : Bool) → OptHas store (thing_of (record { names = names }) text)
        → OptHas store (option_map (λ (e : List ℕ × Thing). e.1)
        (cond b (Some entry) (find (λ (e : List ℕ × Thing). bytes_eq e.0 text) names)))
    by true later = has.0
    by false later = later

-- ---- names

record IsCome (place : Place) (store later : Store) (name : Name) : Type 0 where
  longer : IsNoShorter store later
  array : IsArray (thing_of place.environment name.text)
  ranked : IsArrayOf place place.prefix name

come : (place : Place) (kind : BorderKind) (line : ℕ) (names : List Name) (store : Store)
    (name : Name) (later : Store) → ComesToName place kind line names store name later
    → AreArrays place.environment names → AreArraysOf place place.prefix names
    → IsCome place store later name
come place kind line names store name later (First same rest at) arrays ranked =
    record { longer = same_store store; array = arrays.0; ranked = ranked.0 }
come place kind line names store name later (Later first same rest at last done comes) arrays
    ranked =
    let middle = (border_named place kind line first store).store in
    let next = come place kind line rest middle name later comes arrays.1 ranked.1 in record {
      longer = and_then store middle later (named_keeps place kind line first store) next.longer;
      array = next.array;
      ranked = next.ranked;
    }

some_edge : (edge : Option Edge) → IsSome edge → (found : Edge) × (edge ≡ Some found)
some_edge None h = absurd (true≢false (sym h))
some_edge (Some edge) h = (edge, refl)

pub bordered : (place : Place) (kind : BorderKind) (line : ℕ) (names : List Name)
    (store : Store) (name : Name) (later : Store)
    → ComesToName place kind line names store name later → HasPlaces store place
    → IsSome place.edge → AreArrays place.environment names
    → AreArraysOf place place.prefix names → IsBordered place later name
bordered place kind line names store name later comes has edge arrays ranked =
    let found = come place kind line names store name later comes arrays ranked in
    let places = later_places store later place found.longer has in
    by (thing_of place.environment name.text) refl found.array
    (found_has later place.environment.names name.text
    (recursion_from_All (λ (entry : List ℕ × Thing). HasThing later entry.1)
    place.environment.names places.names)) (some_edge place.edge edge) found.ranked
  where
    by : (thing : Option Thing) → thing_of place.environment name.text ≡ thing → IsArray thing
        → OptHas later thing → (found : Edge) × (place.edge ≡ Some found)
        → IsArrayOf place place.prefix name → IsBordered place later name
    by (Some (ArrayAt target home)) is a there edge ranked = record {
      edge = edge.0;
      on = edge.1;
      target = target;
      home = home;
      array = is;
      ranked = ranked;
      there = there;
    }
    by (Some (Scalar target)) is a there edge ranked = absurd a
    by (Some (Fixed value)) is a there edge ranked = absurd a
    by None is a there edge ranked = absurd a
