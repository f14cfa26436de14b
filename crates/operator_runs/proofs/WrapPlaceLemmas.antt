-- The borders of a copy: their rows may stand.
use Rattle.std.proofs.Common.{◌≡◌, refl, sym, ◌∙◌, ap, subst, arith, Bool, true, false}
use Rattle.std.proofs.Common.{List, [], ◌∷◌, length, map, ℤ, pos, neg_ℤ, ◌<ℤ◌, ◌+ℤ◌, ◌-ℤ◌, All}
use Rattle.std.specs.Prelude.{cond, drop, flat_map, if◌then◌else◌, int_lt}
use Rattle.std.proofs.lemmas.Bool.{eqb-true}
use Rattle.zpl_region.specs.Ends.{tuple_count}
use Rattle.zpl_region.proofs.HullLemmas.{some_tuple}
use Rattle.zpl_arrays.specs.Around.{each_rest}
use Rattle.std.specs.List.{AllZip}
use Rattle.std.proofs.lemmas.Int.{ints}
use Rattle.std.proofs.lemmas.Bool.{and_parts}
use Rattle.zpl_nums.specs.declared.ends.Border.TheVariants.{Wrap}
use Rattle.zpl_region.specs.declared.dims.Dim.{Dim}
use Rattle.zpl_region.specs.declared.dims.Dim.TheVariants.{Flood, Range}
use Rattle.zpl_region.specs.declared.regions.Region.{Region}
use Rattle.zpl_region.specs.Dim.{HasStep, IsCoordinate, dim_inside_of, dim_outside_of}
use Rattle.zpl_region.specs.Ends.{has_none}
use Rattle.zpl_region.specs.Hull.{IsBoxed}
use Rattle.zpl_region.specs.Region.{IsMember, IsRegion, IsWithinLimit, components, each, outside_of}
use Rattle.zpl_region.specs.Tests.{is_within_limit}
use Rattle.zpl_region.proofs.HullLemmas.{has_steps}
use Rattle.zpl_region.proofs.ListLemmas.{Among}
use Rattle.zpl_arrays.specs.Around.{copy_shift, copy_storage, zeros}
use Rattle.zpl_arrays.specs.Border.{border_sources, dim_border_conforms, each_border_conforms}
use Rattle.zpl_arrays.specs.Reference.{IsCovered, lies_in}
use Rattle.zpl_arrays.proofs.ArrayLemmas.{place_of_member}
use Rattle.zpl_arrays.proofs.ReferenceLemmas.{places_lie_in}
use Rattle.zpl_arrays.proofs.SourceLemmas.{wide_enough}
use Rattle.grid_meaning.specs.Room.{zeros_at}
use Rattle.print_runs.specs.of_zpl_lowering.Hoist.{border_vectors, choices, kept_or_not}
use Rattle.print_runs.specs.of_array_runs.Reads.{EachCovers, EachMatches, Matches}
use Rattle.print_runs.proofs.of_array_runs.TargetLemmas.{covers_matching}
use Rattle.call_runs.proofs.of_prefix_runs.ShapeLemmas.{each_length}
use Rattle.border_runs.proofs.LimitLemmas.{above_within, below_within, opposite_dims, sources_within}
use Rattle.operator_runs.proofs.WrapLemmas.{borders_conform}
use Rattle.operator_runs.proofs.WrapCopyLemmas.{border_in_copy, border_kept, home_in_copy, outside_steps, shift_conforms, shift_long}
use Rattle.operator_runs.proofs.WrapReadLemmas.{copy_matching, same_matching}
use Rattle.operator_runs.proofs.WrapLimitLemmas.{border_within}
use Rattle.operator_runs.proofs.WrapRowLemmas.{IsBordering}

-- ---- what is asked of the copy's storage

pub record IsCopying (home : Region) (d : List ℤ) : Type 0 where
  pub matching : EachMatches (copy_storage home d).dims home.dims
  pub inside : (s : List ℤ) → IsMember home s → IsMember (copy_storage home d) s
  pub lies : lies_in home (copy_storage home d) ≡ true
  pub borders : (v : List ℤ) → Among (border_vectors (copy_shift home d)) v → IsBordering home d v

-- ---- lists

matches_through : (one two three : List Dim) → EachMatches one two → EachMatches two three
    → length two ≡ length one → EachMatches one three
matches_through [] [] [] h k l = tt
matches_through [] [] (q ∷ three) h k l = tt
matches_through [] (p ∷ two) three h k l = absurd (omega (arith, l))
matches_through (s ∷ one) [] three h k l = absurd (omega (arith, l))
matches_through (s ∷ one) (p ∷ two) [] h k l = tt
matches_through (Flood ∷ one) (Flood ∷ two) (Flood ∷ three) h k l =
    (tt, matches_through one two three h.1 k.1 (omega (arith, l)))
matches_through (Flood ∷ one) (Flood ∷ two) (Range lo hi step align ∷ three) h k l = absurd k.0
matches_through (Flood ∷ one) (Range lo hi step align ∷ two) (q ∷ three) h k l = absurd h.0
matches_through (Range lo hi step align ∷ one) (Flood ∷ two) (q ∷ three) h k l = absurd h.0
matches_through (Range lo hi step align ∷ one) (Range from to every base ∷ two) (Flood ∷ three) h k l =
    absurd k.0
matches_through (Range lo hi step align ∷ one) (Range from to every base ∷ two)
    (Range bottom top stride rest ∷ three) h k l =
    (tt, matches_through one two three h.1 k.1 (omega (arith, l)))

all_covered : (storage own : List Dim) → EachCovers storage own → length own ≡ length storage
    → AllZip IsCovered own storage
all_covered [] [] h l = tt
all_covered [] (q ∷ own) h l = absurd (omega (arith, l))
all_covered (s ∷ storage) [] h l = absurd (omega (arith, l))
all_covered (Flood ∷ storage) (q ∷ own) h l = (tt, all_covered storage own h.1 (omega (arith, l)))
all_covered (Range lo hi step align ∷ storage) (Flood ∷ own) h l = absurd h.0
all_covered (Range lo hi step align ∷ storage) (Range from to every base ∷ own) h l =
    (tt, all_covered storage own h.1 (omega (arith, l)))

-- ---- forms of a region keep flood dimensions

outside_matching : (v : List ℤ) (dims : List Dim)
    → EachMatches dims (each dim_outside_of v dims)
outside_matching [] dims = same_matching dims
outside_matching (c ∷ v) [] = tt
outside_matching (c ∷ v) (Flood ∷ dims) = (tt, outside_matching v dims)
outside_matching (c ∷ v) (Range lo hi step align ∷ dims) =
    (by (int_lt (pos 0) c) (int_lt c (pos 0)), outside_matching v dims)
  where
    by : (a b : Bool) → Matches (Range lo hi step align)
        (if a then Range (hi +ℤ pos 1) (hi +ℤ c) step align
        else if b then Range (lo +ℤ c) (lo -ℤ pos 1) step align else Range lo hi step align)
    by true b = tt
    by false true = tt
    by false false = tt

inside_matching : (v : List ℤ) (dims : List Dim)
    → EachMatches dims (each dim_inside_of v dims)
inside_matching [] dims = same_matching dims
inside_matching (c ∷ v) [] = tt
inside_matching (c ∷ v) (Flood ∷ dims) = (tt, inside_matching v dims)
inside_matching (c ∷ v) (Range lo hi step align ∷ dims) =
    (by (int_lt (pos 0) c) (int_lt c (pos 0)), inside_matching v dims)
  where
    by : (a b : Bool) → Matches (Range lo hi step align)
        (if a then Range ((hi -ℤ c) +ℤ pos 1) hi step align
        else if b then Range lo ((lo -ℤ c) -ℤ pos 1) step align else Range lo hi step align)
    by true b = tt
    by false true = tt
    by false false = tt

-- ---- what is inside of a region lies in it

inside_coordinate : (c : ℤ) (dim : Dim) (x : ℤ) → dim_border_conforms c dim ≡ true
    → IsCoordinate (dim_inside_of c dim) x → IsCoordinate dim x
inside_coordinate c Flood x e z = z
inside_coordinate c (Range lo hi step align) x e z =
    by (int_lt (pos 0) c) refl (int_lt c (pos 0)) refl z
  where
    up_is : int_lt (pos 0) c ≡ true → pos 0 <ℤ c
    up_is t = grind (arith, ints)

    down_is : int_lt c (pos 0) ≡ true → c <ℤ pos 0
    down_is t = grind (arith, ints)

    by : (a : Bool) → int_lt (pos 0) c ≡ a → (b : Bool) → int_lt c (pos 0) ≡ b
        → IsCoordinate (if a then Range ((hi -ℤ c) +ℤ pos 1) hi step align
        else if b then Range lo ((lo -ℤ c) -ℤ pos 1) step align else Range lo hi step align) x
        → IsCoordinate (Range lo hi step align) x
    by true t b q m =
        let up = up_is t in
        let wide = wide_enough c lo hi step align e (λ n. omega (arith, ints, up, n)) in
        let low = above_within c lo hi up wide in
        (omega (arith, ints, low, m.0), m.1, m.2)
    by false t true q m =
        let down = down_is q in
        let wide = wide_enough c lo hi step align e (λ n. omega (arith, ints, down, n)) in
        let high = below_within c lo hi down wide in
        (m.0, omega (arith, ints, high, m.1), m.2)
    by false t false q m = m

inside_tuple : (v : List ℤ) (dims : List Dim) (t : List ℤ)
    → each_border_conforms v dims ≡ true → AllZip IsCoordinate (each dim_inside_of v dims) t
    → AllZip IsCoordinate dims t
inside_tuple [] dims t e z = z
inside_tuple (c ∷ v) [] t e z = z
inside_tuple (c ∷ v) (dim ∷ dims) [] e z = absurd z
inside_tuple (c ∷ v) (dim ∷ dims) (x ∷ t) e z =
    let p = and_parts (dim_border_conforms c dim) (each_border_conforms v dims) e in
    (inside_coordinate c dim x p.0 z.0, inside_tuple v dims t p.1 z.1)

-- a box with a tuple isn't empty
pub some_there : (home : Region) (t : List ℤ) → All HasStep home.dims → IsMember home t
    → has_none home ≡ false
some_there home t steps m = by (has_none home) refl
  where
    by : (b : Bool) → has_none home ≡ b → has_none home ≡ false
    by false e = e
    by true e =
        let none = eqb-true (tuple_count home.dims) 0 e in
        absurd (omega (arith, some_tuple home.dims t steps m, none))

-- ---- the borders of a copy

module _ (home : Region) (d : List ℤ) (is : IsRegion home) (three : length home.dims ≡ 3)
    (boxed : All IsBoxed home.dims) (limit : IsWithinLimit home) (long : length d ≡ 3)
    (copy_limit : is_within_limit (copy_storage home d) ≡ true)
    (copy_steps : All HasStep (copy_storage home d).dims)
    (copy_boxed : All IsBoxed (copy_storage home d).dims)
    (copy_three : length (copy_storage home d).dims ≡ 3) where
  abbrev shift : List ℤ
  shift = copy_shift home d

  own_long : length shift ≡ length home.dims
  own_long = shift_long home d (long ∙ sym three)

  matching : EachMatches (copy_storage home d).dims home.dims
  matching = copy_matching home d long three

  -- a region whose tuples are in the copy lies in it
  within_copy : (r : Region) → All HasStep r.dims → length r.dims ≡ 3
      → EachMatches home.dims r.dims
      → ((t : List ℤ) → IsMember r t → IsMember (copy_storage home d) t)
      → lies_in r (copy_storage home d) ≡ true
  within_copy r steps r_three h inside =
      places_lie_in r (copy_storage home d) steps copy_boxed
      (all_covered (copy_storage home d).dims r.dims
      (covers_matching (copy_storage home d).dims r.dims
      (matches_through (copy_storage home d).dims home.dims r.dims matching h (three ∙ sym copy_three)))
      (r_three ∙ sym copy_three))
      (λ t m. place_of_member (copy_storage home d).dims t copy_steps (inside t m))

  module _ (some : has_none home ≡ false) where
    in_copy : (s : List ℤ) → IsMember home s → IsMember (copy_storage home d) s
    in_copy = home_in_copy home (zeros_at home) d is boxed three long some own_long

    one_border : (v : List ℤ) → Among (border_vectors shift) v → IsBordering home d v
    one_border v k =
        let kept = border_kept home (zeros_at home) d is boxed three long some own_long v k in
        let conforms = borders_conform home shift v (shift_conforms home d boxed some) k in
        let border_three = each_length dim_outside_of (components home.rank v) home.dims ∙ three in
        let source_three =
        each_length dim_inside_of (components home.rank (map neg_ℤ v)) home.dims ∙ three in
        let steps = outside_steps (components home.rank v) home.dims (has_steps home.dims is.dims) in
        let sources = sources_within Wrap v home is limit conforms in
        let one = outside_matching (components home.rank v) home.dims in
        let other = inside_matching (components home.rank (map neg_ℤ v)) home.dims in
        record {
          conforms = conforms;
          limit = border_within home d v is boxed limit some copy_steps copy_limit kept conforms;
          steps = steps;
          three = border_three;
          matching = matches_through (copy_storage home d).dims home.dims (outside_of v home).dims
              matching one (three ∙ sym copy_three);
          lies = within_copy (outside_of v home) steps border_three one
              (λ u z. border_in_copy home d v u boxed own_long some kept z);
          own_limit = sources.within;
          own_steps = sources.steps;
          own_three = source_three;
          covers = covers_matching (copy_storage home d).dims (border_sources Wrap home v).dims
              (matches_through (copy_storage home d).dims home.dims (border_sources Wrap home v).dims
              matching other (three ∙ sym copy_three));
          own_lies = within_copy (border_sources Wrap home v) sources.steps source_three other
              (λ u z. in_copy u (inside_tuple (components home.rank (map neg_ℤ v)) home.dims u
              (opposite_dims home.rank v home.dims ∙ conforms) z));
        }

  -- over an empty box the copy has no borders
  zeros_alone : (v : List ℤ) → choices (zeros v) ≡ zeros v ∷ []
  zeros_alone [] = refl
  zeros_alone (x ∷ v) = ap (flat_map (kept_or_not (pos 0))) (zeros_alone v)

  no_borders : has_none home ≡ true → border_vectors shift ≡ []
  no_borders e =
      ap (λ b. border_vectors (cond b (zeros d) (each_rest d home.dims))) e
      ∙ ap (drop 1) (zeros_alone d)

  pub is_copying : IsCopying home d
  is_copying = record {
    matching = matching;
    inside = λ s m. in_copy (some_there home s (has_steps home.dims is.dims) m) s m;
    lies = within_copy home (has_steps home.dims is.dims) three (same_matching home.dims)
        (λ s m. in_copy (some_there home s (has_steps home.dims is.dims) m) s m);
    borders = λ v k. by (has_none home) refl v k;
  }
    where
      by : (b : Bool) → has_none home ≡ b → (v : List ℤ) → Among (border_vectors shift) v
          → IsBordering home d v
      by true e v k = absurd (subst (λ (vs : List (List ℤ)). Among vs v) (no_borders e) k)
      by false e v k = one_border e v k
