-- Lists of tuples, one after another: those that are left.
use Rattle.std.proofs.Common.{◌≡◌, ℕ, suc, ◌+◌, ◌<◌, false, List, ◌∷◌, length, drop, get_or, refl, sym, ap, ◌∙◌, ℤ, arith, drop-cons}
use Rattle.std.specs.Prelude.{Option, Some, None, is_some, option_and_then}
use Rattle.std.specs.Option.{option_map}
use Rattle.zpl_arrays.specs.Array.{Array}
use Rattle.node_stages.specs.of_grid_meaning.Place.{value_at, values_at, with_value, with_values}

pub next_of : {X : Type 0} (xs : List X) (i : ℕ) (x : X) → i < length xs → x ≡ get_or xs i x → drop i xs ≡ x ∷ drop (i + 1) xs
next_of xs i x within is =
    let more : suc i ≡ i + 1 = omega arith in
    drop-cons xs i x within ∙ (ap (λ y. y ∷ drop (suc i) xs) (sym is) ∙ ap (λ n. x ∷ drop n xs) more)

pub next_at : {X : Type 0} (xs : List X) (i : ℕ) (d : X) → i < length xs → drop i xs ≡ get_or xs i d ∷ drop (i + 1) xs
next_at xs i d within =
    let more : suc i ≡ i + 1 = omega arith in
    drop-cons xs i d within ∙ ap (λ n. get_or xs i d ∷ drop n xs) more

-- ---- reading
module _ (stores : List Array) (array : ℕ) (tuples : List (List ℤ)) where
  read_on : (x : List ℤ) (i : ℕ) → drop i tuples ≡ x ∷ drop (i + 1) tuples
      → is_some (values_at stores array (drop i tuples))
      ≡ is_some (option_and_then (λ value. option_map (λ rest. value ∷ rest) (values_at stores array (drop (i + 1) tuples))) (value_at stores array x))
  read_on x i next = ap (λ ts. is_some (values_at stores array ts)) next

  pub held_further : (x : List ℤ) (i : ℕ) (value : ℤ) → drop i tuples ≡ x ∷ drop (i + 1) tuples → value_at stores array x ≡ Some value
      → is_some (values_at stores array tuples) ≡ is_some (values_at stores array (drop i tuples))
      → is_some (values_at stores array tuples) ≡ is_some (values_at stores array (drop (i + 1) tuples))
  held_further x i value next there so_far =
      so_far ∙ (read_on x i next
      ∙ (ap (λ found. is_some (option_and_then (λ v. option_map (λ rest. v ∷ rest) (values_at stores array (drop (i + 1) tuples))) found)) there
      ∙ mapped (values_at stores array (drop (i + 1) tuples))))
    where
      mapped : (rest : Option (List ℤ)) → is_some (option_map (λ vs. value ∷ vs) rest) ≡ is_some rest
      mapped None = refl
      mapped (Some vs) = refl

  pub unheld_here : (x : List ℤ) (i : ℕ) → drop i tuples ≡ x ∷ drop (i + 1) tuples → value_at stores array x ≡ None
      → is_some (values_at stores array tuples) ≡ is_some (values_at stores array (drop i tuples))
      → false ≡ is_some (values_at stores array tuples)
  unheld_here x i next none so_far =
      sym (so_far ∙ (read_on x i next
      ∙ ap (λ found. is_some (option_and_then (λ v. option_map (λ rest. v ∷ rest) (values_at stores array (drop (i + 1) tuples))) found)) none))

-- ---- writing
module _ (array : ℕ) (tuples : List (List ℤ)) (values : List ℤ) where
  pub written_on : (i : ℕ) (x : List ℤ) (value : ℤ) (found : Option (List Array)) (old now : List Array)
      → with_values array tuples values old ≡ with_values array (drop i tuples) (drop i values) now
      → drop i tuples ≡ x ∷ drop (i + 1) tuples → drop i values ≡ value ∷ drop (i + 1) values
      → with_value now array x value ≡ found
      → with_values array tuples values old ≡ option_and_then (with_values array (drop (i + 1) tuples) (drop (i + 1) values)) found
  written_on i x value found old now so_far tuple word put =
      so_far
      ∙ (ap (λ ts. with_values array ts (drop i values) now) tuple
      ∙ (ap (λ vs. with_values array (x ∷ drop (i + 1) tuples) vs now) word
      ∙ ap (option_and_then (with_values array (drop (i + 1) tuples) (drop (i + 1) values))) put))
