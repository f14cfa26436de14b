-- A loop of several puts, under one mask, into temporaries with 0 everywhere: they get the values of
-- fields, one after another.
use Rattle.std.proofs.Common.{◌≡◌, refl, sym, ◌∙◌, ap, subst, arith, ℕ, zero, suc, ◌+◌, ◌<◌, Bool, true, false, ◌&&◌}
use Rattle.std.proofs.Common.{List, [], ◌∷◌, ◌++◌, length, map, drop, ℤ, pos, Option, Some, None}
use Rattle.std.specs.Prelude.{All, if◌then◌else◌, flat_map, option_and_then, replicate, slice_get}
use Rattle.std.specs.List.{list_all}
use Rattle.zpl_nums.specs.declared.ends.End.TheVariants.{Trap}
use Rattle.zpl_nums.specs.Integer.{is_true}
use Rattle.zpl_region.specs.declared.regions.Region.{Region}
use Rattle.zpl_region.specs.Dim.{HasStep}
use Rattle.zpl_region.specs.Region.{IsMember, members}
use Rattle.zpl_region.proofs.LawLemmas.{members_iff}
use Rattle.zpl_region.proofs.ListLemmas.{Among, Contains-from_among}
use Rattle.zpl_region.proofs.TestLemmas.{is_member_iff}
use Rattle.zpl_arrays.specs.Array.{Array, array_of, element}
use Rattle.zpl_arrays.proofs.ArrayLemmas.{array_of_is_array, element_of_member, flattened_is, place_of_member, same_elements}
use Rattle.zpl_meaning.specs.Computed as mean
use Rattle.zpl_meaning.specs.Computed.{both_then, computed_then}
use Rattle.zpl_meaning.specs.Fields.{Field, array_over, arrays_over, values_at}
use Rattle.zpl_meaning.specs.Statement as meaning
use Rattle.row_runs.specs.Run.{Ends, Goes, Step, Stops, Wrong}
use Rattle.row_runs.specs.Straight.{Every}
use Rattle.node_form.specs.declared.members.Member.TheVariants as member
use Rattle.node_form.specs.declared.tables.Tables.{Tables}
use Rattle.node_form.specs.Expression.{Expression, words_of}
use Rattle.node_form.specs.Nest.{Nest, Nothing, Putting}
use Rattle.node_form.specs.Value as flat
use Rattle.node_form.specs.Value.{Computed, Divides, Gives, Lacks, and_then, mapped, read, value_of}
use Rattle.nest_meaning.specs.Nested.{Fine, Lost, Told, Zero, then_do, with_state, with_value}
use Rattle.nest_meaning.specs.Tree.{member_read, members_read, nest_of, reading, whole_tree}
use Rattle.nest_meaning.specs.Units.{units_of}
use Rattle.grid_meaning.specs.Room.{zeros_at}
use Rattle.flat_form.specs.Loop.{AllFine, AllTold, Column, Point, Puts, SomeLost, SomeZero}
use Rattle.flat_form.specs.Loop.{all_awaiting, all_told, all_written, both_told, columns_behind, from_written}
use Rattle.flat_form.specs.Loop.{loop_stands, looped, operands_at, tree_does, unit_at, unit_does, units_do, written}
use Rattle.flat_form.specs.Names.{Total, group_cells, group_puts, group_totals, group_words, word_reads, word_scalars}
use Rattle.flat_form.specs.Right.{all_begin, can_read, can_write}
use Rattle.flat_form.specs.Row.{Member, Words, group_coded, mask_words, numbered}
use Rattle.flat_form.specs.Whole.{Whole}
use Rattle.flat_form.proofs.WordLemmas.{every_append}
use Rattle.normal_runs.proofs.PutLemmas.{wanted, value_in, put_if, start_point, point_put, puts}
use Rattle.normal_runs.proofs.PutLemmas.{Sum, AllGive, SomeDivides, SomeLacks, summed, with_one}
use Rattle.normal_runs.proofs.PlaceLemmas.{set_apart}
use Rattle.print_runs.specs.of_zpl_lowering.Hoist.{index_puts}
use Rattle.print_runs.specs.of_array_puts.Put.{IsSame, IsMask, with_array_in}
use Rattle.print_runs.proofs.of_array_puts.PutLemmas.{IsPut, one_put, Sums, AllSummed, OneDivides}
use Rattle.print_runs.proofs.of_array_puts.PutLemmas.{choice, new, number_in, sums, value_at}
use Rattle.print_runs.proofs.of_array_puts.WriteLemmas as write
use Rattle.print_runs.proofs.of_array_puts.WriteLemmas.{every_among, puts_store}
use Rattle.print_runs.proofs.of_array_runs.AssignLemmas.{all_read}
use Rattle.operator_runs.proofs.TempLemmas.{array_is}

-- ---- lists

at_front : {X : Type 0} (xs : List X) (i : ℕ) (x : X) (rest : List X) → drop i xs ≡ x ∷ rest
    → slice_get xs i ≡ Some x
at_front [] zero x rest e = cc
at_front [] (suc i) x rest e = cc
at_front (y ∷ xs) zero x rest e = let same : y ≡ x = cc in ap (λ z. Some z) same
at_front (y ∷ xs) (suc i) x rest e = at_front xs i x rest e

next_front : {X : Type 0} (xs : List X) (i : ℕ) (x : X) (rest : List X) → drop i xs ≡ x ∷ rest
    → drop (suc i) xs ≡ rest
next_front [] zero x rest e = cc
next_front [] (suc i) x rest e = cc
next_front (y ∷ xs) zero x rest e = cc
next_front (y ∷ xs) (suc i) x rest e = next_front xs i x rest e

-- ---- the tree of its members

abbrev pub put_nest : ℕ → Option Words → ℕ → ℕ → List Expression → Nest
put_nest line mask i temp [] = Nothing
put_nest line mask i temp (expr ∷ exprs) =
    Putting temp i (numbered (i + 1) mask) line
    (put_nest line mask (i + length (words_of expr ∷ mask_words mask)) (suc temp) exprs)

puts_read : (line : ℕ) (mask : Option Words) (i temp : ℕ) (exprs : List Expression)
    → members_read (group_coded i (index_puts line mask temp exprs))
    ≡ Some (reading (put_nest line mask i temp exprs) [])
puts_read line mask i temp [] = refl
puts_read line mask i temp (expr ∷ exprs) =
    ap (option_and_then (member_read (member.Put temp i (numbered (i + 1) mask) line)))
    (puts_read line mask (i + length (words_of expr ∷ mask_words mask)) (suc temp) exprs)

no_totals : (line : ℕ) (mask : Option Words) (temp : ℕ) (exprs : List Expression)
    → group_totals (index_puts line mask temp exprs) ≡ []
no_totals line mask temp [] = refl
no_totals line mask temp (expr ∷ exprs) = no_totals line mask (suc temp) exprs

-- ---- one put among the members, at one tuple

abbrev told_put : ℕ → List ℤ → Computed (Option ℤ) → Told Point
told_put array cells (Gives o) = Fine (point_put array cells o)
told_put array cells Divides = Zero (start_point cells)
told_put array cells Lacks = Lost

abbrev putting : ℕ → List ℤ → Computed ℤ → Told Point
putting array cells value =
    with_value (start_point cells) value (λ v. with_state (Some (point_put array cells (Some v))))

put_told : (array : ℕ) (cells : List ℤ) (value : Computed ℤ)
    → then_do (λ p. Fine p) (putting array cells value)
    ≡ told_put array cells (mapped (λ v. Some v) value)
put_told array cells (Gives v) = refl
put_told array cells Divides = refl
put_told array cells Lacks = refl

if_told : (array : ℕ) (cells : List ℤ) (b : Bool) (value : Computed ℤ)
    → then_do (λ p. Fine p) (if b then putting array cells value else Fine (start_point cells))
    ≡ told_put array cells (put_if b value)
if_told array cells true value = put_told array cells value
if_told array cells false value = refl

mask_told : (array : ℕ) (cells : List ℤ) (mask value : Computed ℤ)
    → then_do (λ p. Fine p) (with_value (start_point cells) mask (λ m. if is_true m
    then putting array cells value else Fine (start_point cells)))
    ≡ told_put array cells (and_then (λ v. put_if (is_true v) value) mask)
mask_told array cells (Gives m) value = if_told array cells (is_true m) value
mask_told array cells Divides value = refl
mask_told array cells Lacks value = refl

abbrev told_sum : ℕ → List ℤ → Sum → AllTold
told_sum array cells (AllGive os) = AllFine (map (point_put array cells) os)
told_sum array cells SomeDivides = SomeZero
told_sum array cells SomeLacks = SomeLost

both_is : (array : ℕ) (cells : List ℤ) (value : Computed (Option ℤ)) (rest : Sum)
    → both_told (told_put array cells value) (told_sum array cells rest)
    ≡ told_sum array cells (with_one value rest)
both_is array cells (Gives o) (AllGive os) = refl
both_is array cells (Gives o) SomeDivides = refl
both_is array cells (Gives o) SomeLacks = refl
both_is array cells Divides (AllGive os) = refl
both_is array cells Divides SomeDivides = refl
both_is array cells Divides SomeLacks = refl
both_is array cells Lacks rest = refl

abbrev pub columns : List ℤ → List (List ℤ) → List Column
columns cells ts = map (λ t. record { at = t; cells = cells }) ts

-- what it has put is written, and the cells stay
then_same : {X Y : Type 0} (f g : X → Option Y) (x : Option X) → ((v : X) → f v ≡ g v)
    → option_and_then f x ≡ option_and_then g x
then_same f g None same = refl
then_same f g (Some v) same = same v

written_is : (array : ℕ) (cells : List ℤ) (ts : List (List ℤ)) (os : List (Option ℤ))
    (whole : Whole)
    → all_written (columns cells ts) (map (point_put array cells) os) whole
    ≡ puts array ts os whole
written_is array cells [] os whole = refl
written_is array cells (t ∷ ts) [] whole = refl
written_is array cells (t ∷ ts) (None ∷ os) whole = written_is array cells ts os whole
written_is array cells (t ∷ ts) (Some v ∷ os) whole =
    then_same (all_written (columns cells ts) (map (point_put array cells) os)) (puts array ts os)
    (written t (Puts array v) whole) (written_is array cells ts os)

columns_same : (array : ℕ) (cells : List ℤ) (f : List ℤ → Option ℤ) (ts : List (List ℤ))
    → columns_behind (columns cells ts) (map (point_put array cells) (map f ts)) ≡ columns cells ts
columns_same array cells f [] = refl
columns_same array cells f (t ∷ ts) = by (f t) (columns_same array cells f ts)
  where
    by : (o : Option ℤ)
        → columns_behind (columns cells ts) (map (point_put array cells) (map f ts)) ≡ columns cells ts
        → record { at = t; cells = (point_put array cells o).cells }
        ∷ columns_behind (columns cells ts) (map (point_put array cells) (map f ts))
        ≡ columns cells (t ∷ ts)
    by None rest = ap (λ (cs : List Column). record { at = t; cells = cells } ∷ cs) rest
    by (Some v) rest = ap (λ (cs : List Column). record { at = t; cells = cells } ∷ cs) rest

-- ---- temporaries one after another

-- they have 0 at each tuple of a region
abbrev pub AreRoomed : Region → Whole → ℕ → List Expression → Type 0
AreRoomed region whole temp [] = Unit {0}
AreRoomed region whole temp (left ∷ rest) =
    (slice_get whole.stores temp ≡ Some (zeros_at region)) × AreRoomed region whole (suc temp) rest

pub roomed_behind : (region : Region) (whole : Whole) (k : ℕ) (array : Array) (temp : ℕ)
    (left : List Expression) → k < temp → AreRoomed region whole temp left
    → AreRoomed region (with_array_in whole k array) temp left
roomed_behind region whole k array temp [] lt h = tt
roomed_behind region whole k array temp (left ∷ rest) lt h = (
  set_apart whole.stores k temp array (λ q. absurd (omega (arith, lt, q))) ∙ h.0,
  roomed_behind region whole k array (suc temp) rest (omega (arith, lt)) h.1,
)

abbrev pub with_arrays : Whole → ℕ → List Array → Whole
with_arrays whole temp [] = whole
with_arrays whole temp (array ∷ arrays) =
    with_arrays (with_array_in whole temp array) (suc temp) arrays

abbrev pub all_filled : ℕ → ℕ → Whole → mean.Computed (List Array) → Step Whole
all_filled line temp whole (mean.Gives arrays) = Goes [] (with_arrays whole temp arrays)
all_filled line temp whole (mean.Traps kind) = Stops (Ends (Trap kind line))

pub none_awaited : (step : Step Whole) → all_awaiting [] step ≡ step
none_awaited (Goes bytes whole) = refl
none_awaited (Stops stop) = refl

module _ (n line : ℕ) (mask : Option Words) (exprs : List Words) where
  abbrev MaskThere : ℕ → Option Words → Type 0
  MaskThere i None = Unit {0}
  MaskThere i (Some words) = slice_get exprs (i + 1) ≡ Some words

  abbrev unit : ℕ → ℕ → Option Words → Nest
  unit i array m = Putting array i (numbered (i + 1) m) line Nothing

  unit_told : (i array : ℕ) (expr : Words) (before : Whole) (cells t : List ℤ)
      → slice_get exprs i ≡ Some expr → MaskThere i mask
      → unit_at n exprs (unit i array mask) before (record { at = t; cells = cells })
      ≡ told_put array cells (wanted before cells expr mask t)
  unit_told i array expr before cells t e there = by mask there
    where
      value_there : and_then (value_of (operands_at before t (start_point cells)))
          (read (slice_get exprs i)) ≡ value_in before cells expr t
      value_there =
          ap (λ o. and_then (value_of (operands_at before t (start_point cells))) (read o)) e

      by : (m : Option Words) → MaskThere i m
          → unit_at n exprs (unit i array m) before (record { at = t; cells = cells })
          ≡ told_put array cells (wanted before cells expr m t)
      by None there =
          ap (λ value. then_do (λ p. Fine p) (putting array cells value)) value_there
          ∙ put_told array cells (value_in before cells expr t)
      by (Some words) there =
          ap (λ value. then_do (λ p. Fine p) (with_value (start_point cells)
          (and_then (value_of (operands_at before t (start_point cells)))
          (read (slice_get exprs (i + 1)))) (λ m. if is_true m
          then putting array cells value else Fine (start_point cells)))) value_there
          ∙ ap (λ o. then_do (λ p. Fine p) (with_value (start_point cells)
          (and_then (value_of (operands_at before t (start_point cells)))
          (read o)) (λ m. if is_true m
          then putting array cells (value_in before cells expr t) else Fine (start_point cells)))) there
          ∙ mask_told array cells (value_in before cells words t) (value_in before cells expr t)

  all_unit_told : (i array : ℕ) (expr : Words) (before : Whole) (cells : List ℤ)
      (ts : List (List ℤ)) → slice_get exprs i ≡ Some expr → MaskThere i mask
      → all_told (unit_at n exprs (unit i array mask) before) (columns cells ts)
      ≡ told_sum array cells (summed (wanted before cells expr mask) ts)
  all_unit_told i array expr before cells [] e there = refl
  all_unit_told i array expr before cells (t ∷ ts) e there =
      ap (λ told. both_told told (all_told (unit_at n exprs (unit i array mask) before)
      (columns cells ts))) (unit_told i array expr before cells t e there)
      ∙ (ap (both_told (told_put array cells (wanted before cells expr mask t)))
      (all_unit_told i array expr before cells ts e there)
      ∙ both_is array cells (wanted before cells expr mask t)
      (summed (wanted before cells expr mask) ts))

  -- ---- at all tuples of a region

  module _ (region : Region) (is_in : List ℤ → Bool) (steps : All HasStep region.dims)
      (cells : List ℤ) where
    abbrev ts : List (List ℤ)
    ts = members region

    among_member : (t : List ℤ) → Among ts t → IsMember region t
    among_member t k = (members_iff region t steps).0 (Contains-from_among ts t k)

    abbrev pub filled : ℕ → Whole → (List Column → Whole → Step Whole) → mean.Computed Array → Step Whole
    filled number whole next (mean.Gives array) =
        next (columns cells ts) (with_array_in whole number array)
    filled number whole next (mean.Traps kind) = Stops (Ends (Trap kind line))

    module _ (number : ℕ) (whole : Whole) (field : Field) (expr : Words)
        (found : slice_get whole.stores number ≡ Some (zeros_at region))
        (masked : (t : List ℤ) → IsMember region t
        → IsMask (operands_at whole t (start_point cells)) mask (is_in t))
        (values : (t : List ℤ) → IsMember region t → is_in t ≡ true
        → IsSame (field t) (value_of (operands_at whole t (start_point cells)) expr))
        (next : List Column → Whole → Step Whole) where
      abbrev put : List ℤ → flat.Computed (Option ℤ)
      put t = wanted whole cells expr mask t

      abbrev value : List ℤ → ℤ
      value t = value_at is_in field put t

      each_put : Every (λ t. IsPut (is_in t) (field t) (put t)) ts
      each_put =
          every_among (λ t. IsPut (is_in t) (field t) (put t)) ts
          (λ t k.
          let m = among_member t k in
          one_put whole cells expr mask t (is_in t) (field t) (masked t m) (values t m))

      zero_written : meaning.written (zeros_at region) region is_in value ≡ array_of region value
      zero_written =
          same_elements (meaning.written (zeros_at region) region is_in value) (array_of region value)
          (array_of_is_array region _ steps) (array_of_is_array region value steps) refl
          (λ t m.
          element_of_member region _ t steps m
          ∙ ap (λ b. if b && is_in t then value t else element (zeros_at region) t)
          ((is_member_iff region t steps).1 m)
          ∙ by t m (is_in t) refl
          ∙ sym (element_of_member region value t steps m))
        where
          by : (t : List ℤ) → IsMember region t → (b : Bool) → is_in t ≡ b
              → (if b then value t else element (zeros_at region) t) ≡ value t
          by t m true e = refl
          by t m false e =
              element_of_member region (λ t. pos 0) t steps m
              ∙ sym (ap (λ b. number_in (choice b (field t))) e)

      by_sum : (values : mean.Computed (List ℤ)) (sum : Sum)
          → Sums (map value ts) (map (new is_in field put) ts) values sum
          → unit_does line (columns cells ts) whole (told_sum number cells sum) next
          ≡ filled number whole next
          (computed_then values (λ vs. mean.Gives (record { storage = region; values = vs })))
      by_sum values sum AllSummed =
          ap (λ o. from_written o (next (columns_behind (columns cells ts)
          (map (point_put number cells) (map (new is_in field put) ts)))))
          (written_is number cells ts (map (new is_in field put) ts) whole
          ∙ puts_store number (zeros_at region) ts (map (new is_in field put) ts) whole found
          (every_among (λ t. _) ts (λ t k.
          place_of_member region.dims t steps (among_member t k))))
          ∙ ap (λ (cs : List Column). next cs (with_array_in whole number
          (write.put_all (zeros_at region) ts (map (new is_in field put) ts))))
          (columns_same number cells (new is_in field put) ts)
          ∙ ap (λ (a : Array). next (columns cells ts) (with_array_in whole number a))
          (write.all_written (zeros_at region) region is_in value
          (array_of_is_array region (λ t. pos 0) steps) steps
          (λ t m. place_of_member region.dims t steps m) (λ t m. flattened_is region.dims t m)
          ∙ zero_written)
      by_sum values sum OneDivides = refl

      pub unit_fills : (i : ℕ) → slice_get exprs i ≡ Some expr → MaskThere i mask
          → unit_does line (columns cells ts) whole
          (all_told (unit_at n exprs (unit i number mask) whole) (columns cells ts)) next
          ≡ filled number whole next (array_over region is_in field)
      unit_fills i e there =
          ap (λ told. unit_does line (columns cells ts) whole told next)
          (all_unit_told i number expr whole cells ts e there)
          ∙ by_sum (values_at is_in field ts) (summed put ts) (sums is_in field put ts each_put)

    -- ---- all puts

    module _ (Good : Whole → Type 0)
        (masked : (whole : Whole) → Good whole → (t : List ℤ) → IsMember region t
        → IsMask (operands_at whole t (start_point cells)) mask (is_in t)) where
      pub record Fills (temp : ℕ) (left : Expression) (field : Field) : Type 0 where
        pub values : (whole : Whole) → Good whole → (t : List ℤ) → IsMember region t
            → is_in t ≡ true
            → IsSame (field t) (value_of (operands_at whole t (start_point cells)) (words_of left))
        pub goes_on : (whole : Whole) → Good whole → (f : List ℤ → ℤ)
            → Good (with_array_in whole temp (array_of region f))

      abbrev pub AllFill : ℕ → List Expression → List Field → Type 0
      AllFill temp [] [] = Unit {0}
      AllFill temp [] (field ∷ fields) = ⊥
      AllFill temp (left ∷ rest) [] = ⊥
      AllFill temp (left ∷ rest) (field ∷ fields) =
          Fills temp left field × AllFill (suc temp) rest fields

      members_there : (i : ℕ) (temp : ℕ) (left : Expression) (rest : List Expression)
          → drop i exprs ≡ group_words (index_puts line mask temp (left ∷ rest))
          → (slice_get exprs i ≡ Some (words_of left)) × MaskThere i mask
          × (drop (i + length (words_of left ∷ mask_words mask)) exprs
          ≡ group_words (index_puts line mask (suc temp) rest))
      members_there i temp left rest e = by mask e
        where
          by : (m : Option Words)
              → drop i exprs
              ≡ words_of left ∷ (mask_words m ++ group_words (index_puts line mask (suc temp) rest))
              → (slice_get exprs i ≡ Some (words_of left)) × MaskThere i m
              × (drop (i + length (words_of left ∷ mask_words m)) exprs
              ≡ group_words (index_puts line mask (suc temp) rest))
          by None e = (
            at_front exprs i (words_of left) _ e,
            tt,
            ap (λ j. drop j exprs) (let q : i + 1 ≡ suc i = omega arith in q)
                ∙ next_front exprs i (words_of left) _ e,
          )
          by (Some words) e =
              let f = next_front exprs i (words_of left) _ e in (
                at_front exprs i (words_of left) _ e,
                ap (λ j. slice_get exprs j) (let q : i + 1 ≡ suc i = omega arith in q)
                    ∙ at_front exprs (suc i) words _ f,
                ap (λ j. drop j exprs) (let q : i + 2 ≡ suc (suc i) = omega arith in q)
                    ∙ next_front exprs (suc i) words _ f,
              )

      units_fill : (i temp : ℕ) (left : List Expression) (fields : List Field) (whole : Whole)
          → drop i exprs ≡ group_words (index_puts line mask temp left) → Good whole
          → AllFill temp left fields → AreRoomed region whole temp left
          → units_do n exprs (units_of (put_nest line mask i temp left)) (columns cells ts) whole
          ≡ all_filled line temp whole (arrays_over region is_in fields)
      units_fill i temp [] [] whole e good fill room = refl
      units_fill i temp [] (field ∷ fields) whole e good fill room = absurd fill
      units_fill i temp (left ∷ rest) [] whole e good fill room = absurd fill
      units_fill i temp (left ∷ rest) (field ∷ fields) whole e good fill room =
          let there = members_there i temp left rest e in
          unit_fills temp whole field (words_of left) room.0 (masked whole good)
          (fill.0.values whole good) (λ columns whole.
          units_do n exprs (units_of (put_nest line mask
          (i + length (words_of left ∷ mask_words mask)) (suc temp) rest)) columns whole) i there.0
          there.1
          ∙ by (array_over region is_in field) refl
          (λ array good room.
          units_fill (i + length (words_of left ∷ mask_words mask)) (suc temp) rest fields
          (with_array_in whole temp array) there.2 good fill.1 room)
        where
          by : (c : mean.Computed Array) → array_over region is_in field ≡ c
              → ((array : Array) → Good (with_array_in whole temp array)
              → AreRoomed region (with_array_in whole temp array) (suc temp) rest
              → units_do n exprs (units_of (put_nest line mask
              (i + length (words_of left ∷ mask_words mask)) (suc temp) rest)) (columns cells ts)
              (with_array_in whole temp array)
              ≡ all_filled line (suc temp) (with_array_in whole temp array)
              (arrays_over region is_in fields))
              → filled temp whole (λ columns whole.
              units_do n exprs (units_of (put_nest line mask
              (i + length (words_of left ∷ mask_words mask)) (suc temp) rest)) columns whole) c
              ≡ all_filled line temp whole
              (both_then c (arrays_over region is_in fields) (λ array arrays.
              mean.Gives (array ∷ arrays)))
          by (mean.Traps kind) f more = refl
          by (mean.Gives array) f more =
              let same = array_is region is_in field array f in
              more array
              (subst (λ (a : Array). Good (with_array_in whole temp a)) (sym same)
              (fill.0.goes_on whole good _))
              (roomed_behind region whole temp array (suc temp) rest (omega arith) room.1)
              ∙ last (arrays_over region is_in fields)
            where
              last : (d : mean.Computed (List Array))
                  → all_filled line (suc temp) (with_array_in whole temp array) d
                  ≡ all_filled line temp whole
                  (both_then (mean.Gives array) d (λ array arrays. mean.Gives (array ∷ arrays)))
              last (mean.Gives arrays) = refl
              last (mean.Traps kind) = refl

-- ---- the loop

module _ (tables : Tables) (n line : ℕ) (mask : Option Words) (region : Region)
    (is_in : List ℤ → Bool) (steps : All HasStep region.dims) (temp : ℕ) (left : List Expression)
    (whole : Whole) where
  abbrev group : List Member
  group = index_puts line mask temp left

  abbrev pub loop_cells : List ℤ
  loop_cells = replicate (group_cells group) (pos 0)

  all_readable : Every (λ (words : Words). Every (λ one.
      list_all (can_read tables whole region) (word_reads one) ≡ true) words) (mask_words mask)
      → (k : ℕ) (left : List Expression)
      → Every (λ (expr : Expression). Every (λ one.
      list_all (can_read tables whole region) (word_reads one) ≡ true) (words_of expr)) left
      → Every (λ (words : Words). Every (λ one.
      list_all (can_read tables whole region) (word_reads one) ≡ true) words)
      (group_words (index_puts line mask k left))
  all_readable masks k [] h = tt
  all_readable masks k (expr ∷ rest) h =
      every_append (λ (words : Words). Every (λ one.
      list_all (can_read tables whole region) (word_reads one) ≡ true) words)
      (words_of expr ∷ mask_words mask) _ (h.0, masks) (all_readable masks (suc k) rest h.1)

  abbrev pub AreWritable : ℕ → List Expression → Type 0
  AreWritable k [] = Unit {0}
  AreWritable k (expr ∷ rest) = (can_write tables whole region k ≡ true) × AreWritable (suc k) rest

  all_writable : (k : ℕ) (left : List Expression) → AreWritable k left
      → list_all (can_write tables whole region) (group_puts (index_puts line mask k left)) ≡ true
  all_writable k [] h = refl
  all_writable k (expr ∷ rest) h =
      ap (λ b. b && list_all (can_write tables whole region)
      (group_puts (index_puts line mask (suc k) rest))) h.0
      ∙ all_writable (suc k) rest h.1

  pub puts_stand : Every (λ (words : Words). Every (λ one.
      list_all (can_read tables whole region) (word_reads one) ≡ true) words) (mask_words mask)
      → Every (λ (expr : Expression). Every (λ one.
      list_all (can_read tables whole region) (word_reads one) ≡ true) (words_of expr)) left
      → AreWritable temp left → loop_stands tables whole region group ≡ true
  puts_stand masks reads writes =
      ap (λ b. b && (list_all (can_write tables whole region) (group_puts group)
      && all_begin whole region (flat_map (λ expr. flat_map word_scalars expr) (group_words group))
      (group_totals group)))
      (all_read (can_read tables whole region) (group_words group)
      (all_readable masks temp left reads))
      ∙ ap (λ b. b && all_begin whole region
      (flat_map (λ expr. flat_map word_scalars expr) (group_words group)) (group_totals group))
      (all_writable temp left writes)
      ∙ ap (λ (totals : List Total). all_begin whole region
      (flat_map (λ expr. flat_map word_scalars expr) (group_words group)) totals)
      (no_totals line mask temp left)

  pub puts_fill : loop_stands tables whole region group ≡ true → (fields : List Field)
      (Good : Whole → Type 0)
      (masked : (whole : Whole) → Good whole → (t : List ℤ) → IsMember region t
      → IsMask (operands_at whole t (start_point loop_cells)) mask (is_in t)) → Good whole
      → AllFill n line mask (group_words group) region is_in steps loop_cells Good masked temp left
      fields → AreRoomed region whole temp left
      → looped tables n group whole (Some region)
      ≡ all_filled line temp whole (arrays_over region is_in fields)
  puts_fill stands fields Good masked good fill room =
      ap (λ b. if b then tree_does n region group whole (nest_of (group_coded 0 group))
      else Stops Wrong) stands
      ∙ ap (λ read. tree_does n region group whole
      (option_and_then (λ read. whole_tree read.tree read.closings) read))
      (puts_read line mask 0 temp left)
      ∙ ap (λ totals. all_awaiting totals (units_do n (group_words group)
      (units_of (put_nest line mask 0 temp left)) (columns loop_cells (members region)) whole))
      (no_totals line mask temp left)
      ∙ none_awaited (units_do n (group_words group) (units_of (put_nest line mask 0 temp left))
      (columns loop_cells (members region)) whole)
      ∙ units_fill n line mask (group_words group) region is_in steps loop_cells Good masked 0 temp left
      fields whole refl good fill room
