-- States that have the same of some things, and what keeps them so.
use Rattle.std.proofs.Common.{◌≡◌, refl, ◌∙◌, ap, subst, ℕ, zero, suc, Bool}
use Rattle.std.proofs.Common.{true, false, List, [], ◌∷◌, map, Option, Some, None, ℤ}
use Rattle.std.specs.Prelude.{slice_get, slice_set, option_and_then, ◌&&◌}
use Rattle.std.specs.List.{list_all}
use Rattle.std.specs.Option.{option_map}
use Rattle.code_parts.specs.of_zpl_nums.declared.folds.Fold.{Fold}
use Rattle.code_parts.specs.of_zpl_region.declared.regions.Region.{Region}
use Rattle.code_parts.specs.of_zpl_region.Region.{members}
use Rattle.code_parts.specs.of_zpl_arrays.Array.{Array}
use Rattle.grid_meaning.specs.of_node_form.declared.tables.Tables.{Tables}
use Rattle.grid_meaning.specs.of_node_form.declared.touches.Thing.{Thing}
use Rattle.grid_meaning.specs.of_node_form.declared.touches.Thing.TheVariants as thing
use Rattle.grid_meaning.specs.Place.{held_with, with_value, with_values}
use Rattle.nest_meaning.specs.of_row_runs.Run.{Step, Does}
use Rattle.nest_meaning.specs.of_row_runs.Straight.{Every}
use Rattle.flat_form.specs.Moves.{found, moved_in, provided, with_stores}
use Rattle.flat_form.specs.Touches.{HaveSame, DoSame, BothGo, BothStop}
use Rattle.flat_form.specs.Whole.{Whole, with_store}

-- ---- lists that have the same at some places, with the same value set at one of them
pub set_alike : {X : Type 0} (xs ys : List X) (i j : ℕ) (v : X) → slice_get xs i ≡ slice_get ys i
    → slice_get xs j ≡ slice_get ys j
    → slice_get (slice_set xs i v) j ≡ slice_get (slice_set ys i v) j
set_alike [] [] i j v here there = refl
set_alike [] (y ∷ ys) zero j v here there = cc
set_alike [] (y ∷ ys) (suc i) zero v here there = cc
set_alike [] (y ∷ ys) (suc i) (suc j) v here there = set_alike [] ys i j v here there
set_alike (x ∷ xs) [] zero j v here there = cc
set_alike (x ∷ xs) [] (suc i) zero v here there = cc
set_alike (x ∷ xs) [] (suc i) (suc j) v here there = set_alike xs [] i j v here there
set_alike (x ∷ xs) (y ∷ ys) zero zero v here there = refl
set_alike (x ∷ xs) (y ∷ ys) zero (suc j) v here there = there
set_alike (x ∷ xs) (y ∷ ys) (suc i) zero v here there = there
set_alike (x ∷ xs) (y ∷ ys) (suc i) (suc j) v here there = set_alike xs ys i j v here there

pub list_all_same : {X : Type 0} (f g : X → Bool) (xs : List X) → Every (λ x. f x ≡ g x) xs
    → list_all f xs ≡ list_all g xs
list_all_same f g [] all = refl
list_all_same f g (x ∷ xs) all =
    ap (λ b. b && list_all f xs) all.0 ∙ ap (λ b. g x && b) (list_all_same f g xs all.1)

module _ (tables other : Tables) (Q : Thing → Type 0) where
  abbrev pub Agree : Whole → Whole → Type 0
  Agree one two = (it : Thing) → Q it → HaveSame tables other one two it

  abbrev pub AlikeSteps : Step Whole → Step Whole → Type 0
  AlikeSteps s t = DoSame Agree (Does s) (Does t)

  -- ---- one thing with another value in both
  pub set_scalar : (one two : Whole) (k : ℕ) (v : ℤ) → Q (thing.Scalar k) → Agree one two
      → Agree (record one { scalars = slice_set one.scalars k v })
      (record two { scalars = slice_set two.scalars k v })
  set_scalar one two k v is agree (thing.Scalar j) q = (
    set_alike one.scalars two.scalars k j v (agree (thing.Scalar k) is).0
        (agree (thing.Scalar j) q).0,
    (agree (thing.Scalar j) q).1,
  )
  set_scalar one two k v is agree (thing.Slot j) q = agree (thing.Slot j) q
  set_scalar one two k v is agree (thing.Array j) q = agree (thing.Array j) q

  pub set_awaited : (one two : Whole) (k : ℕ) (v : Option Fold) → Q (thing.Scalar k) → Agree one two
      → Agree (record one { awaited = slice_set one.awaited k v })
      (record two { awaited = slice_set two.awaited k v })
  set_awaited one two k v is agree (thing.Scalar j) q = (
    (agree (thing.Scalar j) q).0,
    set_alike one.awaited two.awaited k j v
        (agree (thing.Scalar k) is).1 (agree (thing.Scalar j) q).1,
  )
  set_awaited one two k v is agree (thing.Slot j) q = agree (thing.Slot j) q
  set_awaited one two k v is agree (thing.Array j) q = agree (thing.Array j) q

  pub set_slot : (one two : Whole) (k : ℕ) (v : Region) → Q (thing.Slot k) → Agree one two
      → Agree (record one { slots = slice_set one.slots k v })
      (record two { slots = slice_set two.slots k v })
  set_slot one two k v is agree (thing.Scalar j) q = agree (thing.Scalar j) q
  set_slot one two k v is agree (thing.Slot j) q = (
    (agree (thing.Slot j) q).0,
    set_alike one.slots two.slots k j v (agree (thing.Slot k) is).1
        (agree (thing.Slot j) q).1,
  )
  set_slot one two k v is agree (thing.Array j) q = agree (thing.Array j) q

  pub set_store : (one two : Whole) (k : ℕ) (v : Array) → Q (thing.Array k) → Agree one two
      → Agree (with_store one k v) (with_store two k v)
  set_store one two k v is agree (thing.Scalar j) q = agree (thing.Scalar j) q
  set_store one two k v is agree (thing.Slot j) q = agree (thing.Slot j) q
  set_store one two k v is agree (thing.Array j) q = (
    (agree (thing.Array j) q).0,
    set_alike one.stores two.stores k j v
        (agree (thing.Array k) is).1 (agree (thing.Array j) q).1,
  )

  -- ---- values of an array
  pub data AlikeStates : Option Whole → Option Whole → Type 0 where
    NoState : AlikeStates None None
    BothStates : {one two : Whole} → Agree one two → AlikeStates (Some one) (Some two)

  abbrev pub state_with : Whole → Option (List Array) → Option Whole
  state_with whole stores = option_map (λ stores. record whole { stores = stores }) stores

  put_by : (one two : Whole) (k : ℕ) (store : Option Array) → Q (thing.Array k) → Agree one two
      → AlikeStates (state_with one (option_map (slice_set one.stores k) store))
      (state_with two (option_map (slice_set two.stores k) store))
  put_by one two k None is agree = NoState
  put_by one two k (Some store) is agree = BothStates (set_store one two k store is agree)

  pub put_alike : (one two : Whole) (k : ℕ) (t : List ℤ) (v : ℤ) → Q (thing.Array k) → Agree one two
      → AlikeStates (state_with one (with_value one.stores k t v))
      (state_with two (with_value two.stores k t v))
  put_alike one two k t v is agree =
      subst (λ s. AlikeStates (state_with one (with_value one.stores k t v))
      (state_with two (option_map (slice_set two.stores k) (option_and_then (held_with t v) s))))
      (agree (thing.Array k) is).1
      (put_by one two k (option_and_then (held_with t v) (slice_get one.stores k)) is agree)

  then_by : (one two : Whole) (a b : Option (List Array)) (f g : List Array → Option (List Array))
      → AlikeStates (state_with one a) (state_with two b)
      → ((xs ys : List Array) → Agree (record one { stores = xs }) (record two { stores = ys })
      → AlikeStates (state_with one (f xs)) (state_with two (g ys)))
      → AlikeStates (state_with one (option_and_then f a)) (state_with two (option_and_then g b))
  then_by one two None None f g alike more = NoState
  then_by one two (Some xs) (Some ys) f g (BothStates agree) more = more xs ys agree
  then_by one two None (Some ys) f g alike more = elim alike [ ]
  then_by one two (Some xs) None f g alike more = elim alike [ ]

  pub puts_alike : (k : ℕ) (places : List (List ℤ)) (values : List ℤ) (one two : Whole)
      → Q (thing.Array k) → Agree one two
      → AlikeStates (state_with one (with_values k places values one.stores))
      (state_with two (with_values k places values two.stores))
  puts_alike k [] values one two is agree = BothStates agree
  puts_alike k (t ∷ places) [] one two is agree = BothStates agree
  puts_alike k (t ∷ places) (value ∷ values) one two is agree =
      then_by one two (with_value one.stores k t value) (with_value two.stores k t value)
      (with_values k places values) (with_values k places values)
      (put_alike one two k t value is agree)
      (λ xs ys agree. puts_alike k places values (record one { stores = xs })
      (record two { stores = ys }) is agree)

  -- ---- steps
  pub found_alike : {X : Type 0} (x y : Option X) (f g : X → Step Whole) → x ≡ y
      → ((v : X) → AlikeSteps (f v) (g v))
      → AlikeSteps (found x f) (found y g)
  found_alike x y f g same more = subst (λ o. AlikeSteps (found x f) (found o g)) same (by x)
    where
      by : (x : _) → AlikeSteps (found x f) (found x g)
      by (Some v) = more v
      by None = BothStop

  pub provided_alike : (b c : Bool) (s t : Step Whole) → b ≡ c → AlikeSteps s t
      → AlikeSteps (provided b s) (provided c t)
  provided_alike b c s t same more =
      subst (λ d. AlikeSteps (provided b s) (provided d t)) same (by b)
    where
      by : (b : Bool) → AlikeSteps (provided b s) (provided b t)
      by true = more
      by false = BothStop

  stores_alike : (one two : Whole) (a b : Option (List Array))
      → AlikeStates (state_with one a) (state_with two b)
      → AlikeSteps (found a (with_stores one)) (found b (with_stores two))
  stores_alike one two None None alike = BothStop
  stores_alike one two (Some xs) (Some ys) (BothStates agree) = BothGo agree
  stores_alike one two None (Some ys) alike = elim alike [ ]
  stores_alike one two (Some xs) None alike = elim alike [ ]

  pub moved_alike : (one two : Whole) (array : ℕ) (region : Region) (value : List ℤ → ℤ)
      → Q (thing.Array array) → Agree one two
      → AlikeSteps (moved_in one array region value) (moved_in two array region value)
  moved_alike one two array region value is agree =
      stores_alike one two (with_values array (members region)
      (map value (members region)) one.stores)
      (with_values array (members region) (map value (members region)) two.stores)
      (puts_alike array (members region) (map value (members region)) one two is agree)
