-- With accepted settings all that is computed before a run has a value.
use Rattle.std.proofs.Common.{◌≡◌, ℕ, ℤ, Bool, true, false, cond, List, [], ◌∷◌, ◌++◌, map}
use Rattle.std.proofs.Common.{Some, Contains, refl, subst, inl, inr}
use Rattle.std.specs.List.{AllByRecursion, find}
use Rattle.std.specs.Str.{bytes_eq}
use Rattle.zpl_binding.specs.of_zpl_region.declared.regions.Region.{Region}
use Rattle.zpl_binding.specs.of_zpl_region.Hull.{hull}
use Rattle.zpl_binding.specs.of_zpl_tree.Syntax.{Exprs, Program}
use Rattle.zpl_binding.proofs.of_zpl_names.ListLemmas.{Among, among_from_Contains}
use Rattle.zpl_binding.specs.Outcome.{Outcome, Gives, Fails, and_then, outcome_map, Computed}
use Rattle.zpl_binding.specs.Outcome.{outcome_or, outcome_of}
use Rattle.zpl_binding.specs.Settings.{Setting}
use Rattle.zpl_binding.specs.Vectors.{vector_of}
use Rattle.zpl_binding.specs.Declarations.{known_of}
use Rattle.zpl_binding.specs.Storages.{home_of, storage_of, borders_of, Shaped, arrays_of}
use Rattle.zpl_binding.specs.Bound.{vectors_in, Binds, Bound}
use Rattle.zpl_meaning.specs.Given.{IsGiven}

abbrev AllGiven : {A : Type 0} → List (Outcome A) → Type 0
AllGiven {A} outcomes = AllByRecursion (IsGiven A) outcomes

given_from : {A : Type 0} (outcomes : List (Outcome A)) (values : List A)
    → outcomes ≡ map Gives values → AllGiven outcomes
given_from [] values e = tt
given_from (first ∷ rest) [] e = cc
given_from (first ∷ rest) (value ∷ values) e =
    let head : first ≡ Gives value = cc in
    let tail : rest ≡ map Gives values = cc in
    (record { value = value; given = head }, given_from rest values tail)

given_left : {A : Type 0} (xs ys : List (Outcome A)) → AllGiven (xs ++ ys) → AllGiven xs
given_left [] ys h = tt
given_left (x ∷ xs) ys h = (h.0, given_left xs ys h.1)

given_right : {A : Type 0} (xs ys : List (Outcome A)) → AllGiven (xs ++ ys) → AllGiven ys
given_right [] ys h = h
given_right (x ∷ xs) ys h = given_right xs ys h.1

given_at : {A B : Type 0} (f : B → Outcome A) (xs : List B) (x : B) → AllGiven (map f xs)
    → Among xs x → IsGiven A (f x)
given_at f [] x h m = absurd m
given_at f (y ∷ ys) x h (inl e) = subst (λ z. IsGiven _ (f z)) e h.0
given_at f (y ∷ ys) x h (inr m) = given_at f ys x h.1 m

-- that of a name
given_of : {A : Type 0} (default : A) (all : List (Computed A)) (text : List ℕ)
    → AllGiven (map (λ one. one.outcome) all) → IsGiven A (outcome_of default all text)
given_of default [] text h = record { value = default; given = refl }
given_of default (first ∷ rest) text h =
    by (bytes_eq first.name text) (given_of default rest text h.1)
  where
    by : (b : Bool) → IsGiven _ (outcome_of default rest text)
        → IsGiven _ (outcome_or default
        (cond b (Some first) (find (λ one. bytes_eq one.name text) rest)))
    by true later = h.0
    by false later = later

-- what a storage is computed from
given_first : {A B : Type 0} (first : Outcome A) (next : A → Outcome B)
    → IsGiven B (and_then first next) → IsGiven A first
given_first (Gives value) next h = record { value = value; given = refl }
given_first (Fails fault) next h = let e : Fails fault ≡ Gives h.value = h.given in cc

given_map : {A B : Type 0} (f : A → B) (outcome : Outcome A) → IsGiven A outcome
    → IsGiven B (outcome_map f outcome)
given_map f (Gives value) h = record { value = f value; given = refl }
given_map f (Fails fault) h = let e : Fails fault ≡ Gives h.value = h.given in cc

module _ (program : Program) (settings : List Setting) (bound : Bound)
    (binds : Binds program settings bound) where
  pub value_given : (text : List ℕ) (default : ℤ)
      → IsGiven ℤ (outcome_of default (known_of program settings).values text)
  value_given text default =
      given_of default (known_of program settings).values text
      (given_from _ bound.values binds.values)

  pub region_given : (text : List ℕ) (default : Region)
      → IsGiven Region (outcome_of default (known_of program settings).regions text)
  region_given text default =
      given_of default (known_of program settings).regions text
      (given_from _ bound.regions binds.regions)

  pub direction_given : (text : List ℕ) (default : List ℤ)
      → IsGiven (List ℤ) (outcome_of default (known_of program settings).directions text)
  direction_given text default =
      given_of default (known_of program settings).directions text
      (given_left (map (λ one. one.outcome) (known_of program settings).directions)
      (map (vector_of (known_of program settings).values) (vectors_in program))
      (given_from _ bound.vectors binds.vectors))

  pub vector_given : (parts : Exprs) → Contains (vectors_in program) parts
      → IsGiven (List ℤ) (vector_of (known_of program settings).values parts)
  vector_given parts member =
      given_at (vector_of (known_of program settings).values) (vectors_in program) parts
      (given_right (map (λ one. one.outcome) (known_of program settings).directions)
      (map (vector_of (known_of program settings).values) (vectors_in program))
      (given_from _ bound.vectors binds.vectors))
      (among_from_Contains (vectors_in program) parts member)

  pub storage_given : (array : Shaped) → Contains (arrays_of program) array
      → IsGiven Region (storage_of (known_of program settings) (borders_of program) array.region)
  storage_given array member =
      given_at
      (λ (array : Shaped). storage_of (known_of program settings) (borders_of program) array.region)
      (arrays_of program) array (given_from _ bound.storages binds.storages)
      (among_from_Contains (arrays_of program) array member)

  pub home_given : (array : Shaped) → Contains (arrays_of program) array
      → IsGiven Region (home_of (known_of program settings) array.region)
  home_given array member =
      given_map hull _ (given_first _ _ (storage_given array member))
