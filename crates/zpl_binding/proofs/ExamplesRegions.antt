-- Declared regions: their forms, and the limit at each step.
use Rattle.std.proofs.Common.{◌≡◌, true, false, [], ◌∷◌, pos, codes, refl}
use Rattle.std.specs.Prelude.{neg_ℤ}
use Rattle.std.specs.Int.{int_wrap}
use Rattle.zpl_tree.specs.of_zpl_nums.declared.operators.Op.TheVariants as op
use Rattle.zpl_arrays.specs.of_zpl_region.declared.dims.Dim.TheVariants as dim
use Rattle.zpl_arrays.specs.of_zpl_region.Hull.{all_from}
use Rattle.zpl_tree.specs.Syntax.{Number, Named, Neg, Pair, NoExpr, ThenExpr, NamedDir, Vector, NamedRegion, Rexpr, Dims, NoPost, ThenPost, Star, One, Span, NoDim, ThenDim, Value, Prefixed, NoStmt, ThenStmt, Write, Integer, Config, Constant, Regions, Directions}
use Rattle.zpl_binding.specs.Outcome.{BadConstant, RegionLimit, Gives}
use Rattle.zpl_binding.specs.Regions.{region_over}
use Rattle.zpl_binding.specs.Bound.{computed_regions, faults_of}
use Rattle.zpl_binding.proofs.Trees.{name, declared, set}

-- ---- forms

-- config var n : integer = 8; region R = [1..n, 0..n + 1]; Q = [n]; F = [1..n, *]; O = [n]; with
-- n:=4
ranges : computed_regions (declared ((Config ((record {
  name = (name (codes "n") 11);
  base =
      Integer;
  value = (Number 25 (pos 8));
}) ∷ [])) ∷ (Regions ((record {
  name = (name (codes "R")
      35);
  body = (Dims (ThenDim (Span (Number 40 (pos 1)) (Named 43 (name (codes "n") 43))) (ThenDim
      (Span (Number 46 (pos 0)) (Pair 49 op.Add (Named 49 (name (codes "n") 49)) (Number 53 (pos 1))))
      NoDim)));
  posts = NoPost;
}) ∷ (record {
  name = (name (codes "Q") 57);
  body = (Rexpr []
      (NamedRegion (name (codes "n") 62)) NoPost);
  posts = NoPost;
}) ∷ (record {
  name = (name (codes
      "F") 66);
  body = (Dims (ThenDim (Span (Number 71 (pos 1)) (Named 74 (name (codes "n") 74)))
      (ThenDim (Star 77) NoDim)));
  posts = NoPost;
}) ∷ (record {
  name = (name (codes "O") 81);
  body =
      (Rexpr [] (NamedRegion (name (codes "n") 86)) NoPost);
  posts = NoPost;
}) ∷ [])) ∷ []) (ThenStmt
    (Prefixed 93 [] (Write true ((Value (Number 101 (pos 1))) ∷ []))) NoStmt)) (set (codes "n")
    (codes "4") ∷ []) ≡ ((Gives (region_over ((all_from (pos 1) (pos 4)) ∷ (all_from (pos 0) (pos
    5)) ∷ []))) ∷ (Gives (region_over ((all_from (pos 4) (pos 4)) ∷ []))) ∷ (Gives (region_over
    ((all_from (pos 1) (pos 4)) ∷ dim.Flood ∷ []))) ∷ (Gives (region_over ((all_from (pos 4) (pos
    4)) ∷ []))) ∷ [])
unfolding int_wrap
ranges = refl

-- region R = [1..4]; S = R; T = [R];
names : computed_regions (declared ((Regions ((record {
  name = (name (codes "R") 7);
  body = (Dims
      (ThenDim (Span (Number 12 (pos 1)) (Number 15 (pos 4))) NoDim));
  posts = NoPost;
}) ∷ (record {
  name = (name (codes "S") 19);
  body = (Rexpr [] (NamedRegion (name (codes "R") 23)) NoPost);
  posts = NoPost;
}) ∷ (record {
  name = (name (codes "T") 26);
  body = (Rexpr [] (NamedRegion (name
      (codes "R") 31)) NoPost);
  posts = NoPost;
}) ∷ [])) ∷ []) (ThenStmt (Prefixed 38 [] (Write true
    ((Value (Number 46 (pos 1))) ∷ []))) NoStmt)) [] ≡ ((Gives (region_over ((all_from (pos 1) (pos
    4)) ∷ []))) ∷ (Gives (region_over ((all_from (pos 1) (pos 4)) ∷ []))) ∷ (Gives (region_over
    ((all_from (pos 1) (pos 4)) ∷ []))) ∷ [])
unfolding int_wrap
names = refl

-- region R = [1..4, 1..6]; direction se = [1, -2]; n = [0, 3]; region O = [se of R]; I = [se in
-- R]; P = [n of R];
of_and_in : computed_regions (declared ((Regions ((record {
  name = (name (codes "R") 7);
  body =
      (Dims (ThenDim (Span (Number 12 (pos 1)) (Number 15 (pos 4))) (ThenDim (Span (Number 18 (pos 1))
      (Number 21 (pos 6))) NoDim)));
  posts = NoPost;
}) ∷ [])) ∷ (Directions ((record {
  name = (name
      (codes "se") 35);
  parts = (ThenExpr (Number 41 (pos 1)) (ThenExpr (Neg 44 (Number 45 (pos 2)))
      NoExpr));
}) ∷ (record {
  name = (name (codes "n") 49);
  parts = (ThenExpr (Number 54 (pos 0))
      (ThenExpr (Number 57 (pos 3)) NoExpr));
}) ∷ [])) ∷ (Regions ((record {
  name = (name (codes "O")
      68);
  body = (Rexpr ((record { dir = (name (codes "se") 73); outside = true }) ∷ []) (NamedRegion
      (name (codes "R") 79)) NoPost);
  posts = NoPost;
}) ∷ (record {
  name = (name (codes "I") 83);
  body
      = (Rexpr ((record { dir = (name (codes "se") 88); outside = false }) ∷ []) (NamedRegion (name
      (codes "R") 94)) NoPost);
  posts = NoPost;
}) ∷ (record {
  name = (name (codes "P") 98);
  body =
      (Rexpr ((record { dir = (name (codes "n") 103); outside = true }) ∷ []) (NamedRegion (name
      (codes "R") 108)) NoPost);
  posts = NoPost;
}) ∷ [])) ∷ []) (ThenStmt (Prefixed 115 [] (Write true
    ((Value (Number 123 (pos 1))) ∷ []))) NoStmt)) [] ≡ ((Gives (region_over ((all_from (pos 1) (pos
    4)) ∷ (all_from (pos 1) (pos 6)) ∷ []))) ∷ (Gives (region_over ((dim.Range (pos 5) (pos 5) (pos
    1) (pos 1)) ∷ (dim.Range (neg_ℤ (pos 1)) (pos 0) (pos 1) (pos 1)) ∷ []))) ∷ (Gives (region_over
    ((dim.Range (pos 4) (pos 4) (pos 1) (pos 1)) ∷ (all_from (pos 1) (pos 2)) ∷ []))) ∷ (Gives
    (region_over ((all_from (pos 1) (pos 4)) ∷ (dim.Range (pos 7) (pos 9) (pos 1) (pos 1)) ∷ []))) ∷
    [])
unfolding int_wrap
of_and_in = refl

-- region R = [1..4]; A = [R at [3]]; B = [R by [2]]; C = [R by [-3]]; D = [R by [2] at [1]];
at_and_by : computed_regions (declared ((Regions ((record {
  name = (name (codes "R") 7);
  body =
      (Dims (ThenDim (Span (Number 12 (pos 1)) (Number 15 (pos 4))) NoDim));
  posts = NoPost;
}) ∷
    (record {
      name = (name (codes "A") 19);
      body = (Rexpr [] (NamedRegion (name (codes "R") 24))
          (ThenPost false (Vector (ThenExpr (Number 30 (pos 3)) NoExpr)) NoPost));
      posts = NoPost;
    }) ∷
    (record {
      name = (name (codes "B") 35);
      body = (Rexpr [] (NamedRegion (name (codes "R") 40))
          (ThenPost true (Vector (ThenExpr (Number 46 (pos 2)) NoExpr)) NoPost));
      posts = NoPost;
    }) ∷
    (record {
      name = (name (codes "C") 51);
      body = (Rexpr [] (NamedRegion (name (codes "R") 56))
          (ThenPost true (Vector (ThenExpr (Neg 62 (Number 63 (pos 3))) NoExpr)) NoPost));
      posts = NoPost;
    }) ∷ (record {
      name = (name (codes "D") 68);
      body = (Rexpr [] (NamedRegion (name (codes "R")
          73)) (ThenPost true (Vector (ThenExpr (Number 79 (pos 2)) NoExpr)) (ThenPost false (Vector
          (ThenExpr (Number 86 (pos 1)) NoExpr)) NoPost)));
      posts = NoPost;
    }) ∷ [])) ∷ []) (ThenStmt
    (Prefixed 94 [] (Write true ((Value (Number 102 (pos 1))) ∷ []))) NoStmt)) [] ≡ ((Gives
    (region_over ((all_from (pos 1) (pos 4)) ∷ []))) ∷ (Gives (region_over ((dim.Range (pos 4) (pos
    7) (pos 1) (pos 4)) ∷ []))) ∷ (Gives (region_over ((dim.Range (pos 1) (pos 4) (pos 2) (pos 1)) ∷
    []))) ∷ (Gives (region_over ((dim.Range (pos 1) (pos 4) (pos 3) (pos 4)) ∷ []))) ∷ (Gives
    (region_over ((dim.Range (pos 2) (pos 5) (pos 2) (pos 2)) ∷ []))) ∷ [])
unfolding int_wrap
at_and_by = refl

-- region R = [1..4]; direction d = [2]; region S = [d of R at [10]]; T = [d of R] at [10];
of_binds_weaker_than_at : computed_regions (declared ((Regions ((record {
  name = (name (codes "R")
      7);
  body = (Dims (ThenDim (Span (Number 12 (pos 1)) (Number 15 (pos 4))) NoDim));
  posts = NoPost;
}) ∷ [])) ∷ (Directions ((record {
  name = (name (codes "d") 29);
  parts = (ThenExpr (Number 34
      (pos 2)) NoExpr);
}) ∷ [])) ∷ (Regions ((record {
  name = (name (codes "S") 45);
  body = (Rexpr
      ((record { dir = (name (codes "d") 50); outside = true }) ∷ []) (NamedRegion (name (codes "R")
      55)) (ThenPost false (Vector (ThenExpr (Number 61 (pos 10)) NoExpr)) NoPost));
  posts = NoPost;
})
    ∷ (record {
      name = (name (codes "T") 67);
      body = (Rexpr ((record {
        dir = (name (codes "d") 72);
        outside = true;
      }) ∷ []) (NamedRegion (name (codes "R") 77)) NoPost);
      posts = (ThenPost false
          (Vector (ThenExpr (Number 84 (pos 10)) NoExpr)) NoPost);
    }) ∷ [])) ∷ []) (ThenStmt (Prefixed 92
    [] (Write true ((Value (Number 100 (pos 1))) ∷ []))) NoStmt)) [] ≡ ((Gives (region_over
    ((all_from (pos 1) (pos 4)) ∷ []))) ∷ (Gives (region_over ((dim.Range (pos 15) (pos 16) (pos 1)
    (pos 11)) ∷ []))) ∷ (Gives (region_over ((dim.Range (pos 15) (pos 16) (pos 1) (pos 11)) ∷ [])))
    ∷ [])
unfolding int_wrap
of_binds_weaker_than_at = refl

-- region R = [1..9]; direction d = [2]; e = [-1]; region S = [e in d of R]; T = [d of e of R];
two_before : computed_regions (declared ((Regions ((record {
  name = (name (codes "R") 7);
  body =
      (Dims (ThenDim (Span (Number 12 (pos 1)) (Number 15 (pos 9))) NoDim));
  posts = NoPost;
}) ∷ []))
    ∷ (Directions ((record {
      name = (name (codes "d") 29);
      parts = (ThenExpr (Number 34 (pos 2))
          NoExpr);
    }) ∷ (record {
      name = (name (codes "e") 38);
      parts = (ThenExpr (Neg 43 (Number 44 (pos
          1))) NoExpr);
    }) ∷ [])) ∷ (Regions ((record {
      name = (name (codes "S") 55);
      body = (Rexpr
          ((record { dir = (name (codes "e") 60); outside = false }) ∷ (record {
            dir = (name (codes "d")
                65);
            outside = true;
          }) ∷ []) (NamedRegion (name (codes "R") 70)) NoPost);
      posts = NoPost;
    }) ∷
    (record {
      name = (name (codes "T") 74);
      body = (Rexpr ((record {
        dir = (name (codes "d") 79);
        outside = true;
      }) ∷ (record { dir = (name (codes "e") 84); outside = true }) ∷ []) (NamedRegion
          (name (codes "R") 89)) NoPost);
      posts = NoPost;
    }) ∷ [])) ∷ []) (ThenStmt (Prefixed 96 [] (Write
    true ((Value (Number 104 (pos 1))) ∷ []))) NoStmt)) [] ≡ ((Gives (region_over ((all_from (pos 1)
    (pos 9)) ∷ []))) ∷ (Gives (region_over ((dim.Range (pos 10) (pos 10) (pos 1) (pos 1)) ∷ []))) ∷
    (Gives (region_over ((dim.Range (pos 1) (pos 2) (pos 1) (pos 1)) ∷ []))) ∷ [])
unfolding int_wrap
two_before = refl

-- region R = [1..4, *]; direction d = [1, 1]; region S = [d of R] by [2, 2];
flood_stays : computed_regions (declared ((Regions ((record {
  name = (name (codes "R") 7);
  body =
      (Dims (ThenDim (Span (Number 12 (pos 1)) (Number 15 (pos 4))) (ThenDim (Star 18) NoDim)));
  posts
      = NoPost;
}) ∷ [])) ∷ (Directions ((record {
  name = (name (codes "d") 32);
  parts = (ThenExpr
      (Number 37 (pos 1)) (ThenExpr (Number 40 (pos 1)) NoExpr));
}) ∷ [])) ∷ (Regions ((record {
  name
      = (name (codes "S") 51);
  body = (Rexpr ((record { dir = (name (codes "d") 56); outside = true })
      ∷ []) (NamedRegion (name (codes "R") 61)) NoPost);
  posts = (ThenPost true (Vector (ThenExpr
      (Number 68 (pos 2)) (ThenExpr (Number 71 (pos 2)) NoExpr))) NoPost);
}) ∷ [])) ∷ []) (ThenStmt
    (Prefixed 78 [] (Write true ((Value (Number 86 (pos 1))) ∷ []))) NoStmt)) [] ≡ ((Gives
    (region_over ((all_from (pos 1) (pos 4)) ∷ dim.Flood ∷ []))) ∷ (Gives (region_over ((dim.Range
    (pos 5) (pos 5) (pos 2) (pos 5)) ∷ dim.Flood ∷ []))) ∷ [])
unfolding int_wrap
flood_stays = refl

-- region R = [1..2, 1..2, 1..2]; S = R at [1, 2, 3];
rank_3 : computed_regions (declared ((Regions ((record {
  name = (name (codes "R") 7);
  body = (Dims
      (ThenDim (Span (Number 12 (pos 1)) (Number 15 (pos 2))) (ThenDim (Span (Number 18 (pos 1))
      (Number 21 (pos 2))) (ThenDim (Span (Number 24 (pos 1)) (Number 27 (pos 2))) NoDim))));
  posts =
      NoPost;
}) ∷ (record {
  name = (name (codes "S") 31);
  body = (Rexpr [] (NamedRegion (name (codes
      "R") 35)) (ThenPost false (Vector (ThenExpr (Number 41 (pos 1)) (ThenExpr (Number 44 (pos 2))
      (ThenExpr (Number 47 (pos 3)) NoExpr)))) NoPost));
  posts = NoPost;
}) ∷ [])) ∷ []) (ThenStmt
    (Prefixed 54 [] (Write true ((Value (Number 62 (pos 1))) ∷ []))) NoStmt)) [] ≡ ((Gives
    (region_over ((all_from (pos 1) (pos 2)) ∷ (all_from (pos 1) (pos 2)) ∷ (all_from (pos 1) (pos
    2)) ∷ []))) ∷ (Gives (region_over ((all_from (pos 2) (pos 3)) ∷ (all_from (pos 3) (pos 4)) ∷
    (all_from (pos 4) (pos 5)) ∷ []))) ∷ [])
unfolding int_wrap
rank_3 = refl

-- ---- the limit

-- region R = [1..4194304]; S = [1..2048, 1..2048]; T = [1..4194304, *];
as_many_points_as_there_may_be : faults_of (declared ((Regions ((record {
  name = (name (codes "R")
      7);
  body = (Dims (ThenDim (Span (Number 12 (pos 1)) (Number 15 (pos 4194304))) NoDim));
  posts =
      NoPost;
}) ∷ (record {
  name = (name (codes "S") 25);
  body = (Dims (ThenDim (Span (Number 30 (pos
      1)) (Number 33 (pos 2048))) (ThenDim (Span (Number 39 (pos 1)) (Number 42 (pos 2048))) NoDim)));
  posts = NoPost;
}) ∷ (record {
  name = (name (codes "T") 49);
  body = (Dims (ThenDim (Span (Number
      54 (pos 1)) (Number 57 (pos 4194304))) (ThenDim (Star 66) NoDim)));
  posts = NoPost;
}) ∷ [])) ∷
    []) (ThenStmt (Prefixed 73 [] (Write true ((Value (Number 81 (pos 1))) ∷ []))) NoStmt)) [] ≡ []
unfolding int_wrap
as_many_points_as_there_may_be = refl

-- region R = [1..4194305];
one_point_more : faults_of (declared ((Regions ((record {
  name = (name (codes "R") 7);
  body = (Dims
      (ThenDim (Span (Number 12 (pos 1)) (Number 15 (pos 4194305))) NoDim));
  posts = NoPost;
}) ∷ []))
    ∷ []) (ThenStmt (Prefixed 28 [] (Write true ((Value (Number 36 (pos 1))) ∷ []))) NoStmt)) [] ≡
    (RegionLimit ∷ [])
unfolding int_wrap
one_point_more = refl

-- region R = [1..3000, 1..3000];
points_in_two_dimensions : faults_of (declared ((Regions ((record {
  name = (name (codes "R") 7);
  body = (Dims (ThenDim (Span (Number 12 (pos 1)) (Number 15 (pos 3000))) (ThenDim (Span (Number
      21 (pos 1)) (Number 24 (pos 3000))) NoDim)));
  posts = NoPost;
}) ∷ [])) ∷ []) (ThenStmt (Prefixed
    34 [] (Write true ((Value (Number 42 (pos 1))) ∷ []))) NoStmt)) [] ≡ (RegionLimit ∷ [])
unfolding int_wrap
points_in_two_dimensions = refl

-- region R = [2147483648];
a_bound : faults_of (declared ((Regions ((record {
  name = (name (codes "R") 7);
  body = (Dims
      (ThenDim (One (Number 12 (pos 2147483648))) NoDim));
  posts = NoPost;
}) ∷ [])) ∷ []) (ThenStmt
    (Prefixed 28 [] (Write true ((Value (Number 36 (pos 1))) ∷ []))) NoStmt)) [] ≡ []
unfolding int_wrap
a_bound = refl

-- region R = [2147483649];
a_bound_that_is_too_great : faults_of (declared ((Regions ((record {
  name = (name (codes "R") 7);
  body = (Dims (ThenDim (One (Number 12 (pos 2147483649))) NoDim));
  posts = NoPost;
}) ∷ [])) ∷ [])
    (ThenStmt (Prefixed 28 [] (Write true ((Value (Number 36 (pos 1))) ∷ []))) NoStmt)) [] ≡
    (RegionLimit ∷ [])
unfolding int_wrap
a_bound_that_is_too_great = refl

-- region R = [3000000000..1];
an_empty_range : faults_of (declared ((Regions ((record {
  name = (name (codes "R") 7);
  body = (Dims
      (ThenDim (Span (Number 12 (pos 3000000000)) (Number 24 (pos 1))) NoDim));
  posts = NoPost;
}) ∷
    [])) ∷ []) (ThenStmt (Prefixed 31 [] (Write true ((Value (Number 39 (pos 1))) ∷ []))) NoStmt))
    [] ≡ (RegionLimit ∷ [])
unfolding int_wrap
an_empty_range = refl

-- region R = [1..0, 1..3000000000];
a_region_without_tuples : faults_of (declared ((Regions ((record {
  name = (name (codes "R") 7);
  body
      = (Dims (ThenDim (Span (Number 12 (pos 1)) (Number 15 (pos 0))) (ThenDim (Span (Number 18 (pos
      1)) (Number 21 (pos 3000000000))) NoDim)));
  posts = NoPost;
}) ∷ [])) ∷ []) (ThenStmt (Prefixed
    37 [] (Write true ((Value (Number 45 (pos 1))) ∷ []))) NoStmt)) [] ≡ (RegionLimit ∷ [])
unfolding int_wrap
a_region_without_tuples = refl

-- region R = [1..4]; S = R by [32767] by [32767] by [2];
a_step : faults_of (declared ((Regions ((record {
  name = (name (codes "R") 7);
  body = (Dims (ThenDim
      (Span (Number 12 (pos 1)) (Number 15 (pos 4))) NoDim));
  posts = NoPost;
}) ∷ (record {
  name =
      (name (codes "S") 19);
  body = (Rexpr [] (NamedRegion (name (codes "R") 23)) (ThenPost true
      (Vector (ThenExpr (Number 29 (pos 32767)) NoExpr)) (ThenPost true (Vector (ThenExpr (Number 40
      (pos 32767)) NoExpr)) (ThenPost true (Vector (ThenExpr (Number 51 (pos 2)) NoExpr)) NoPost))));
  posts = NoPost;
}) ∷ [])) ∷ []) (ThenStmt (Prefixed 58 [] (Write true ((Value (Number 66 (pos
    1))) ∷ []))) NoStmt)) [] ≡ []
unfolding int_wrap
a_step = refl

-- region R = [1..4]; S = R by [32767] by [32767] by [32767];
a_step_that_is_too_great : faults_of (declared ((Regions ((record {
  name = (name (codes "R") 7);
  body = (Dims (ThenDim (Span (Number 12 (pos 1)) (Number 15 (pos 4))) NoDim));
  posts = NoPost;
})
    ∷ (record {
      name = (name (codes "S") 19);
      body = (Rexpr [] (NamedRegion (name (codes "R") 23))
          (ThenPost true (Vector (ThenExpr (Number 29 (pos 32767)) NoExpr)) (ThenPost true (Vector
          (ThenExpr (Number 40 (pos 32767)) NoExpr)) (ThenPost true (Vector (ThenExpr (Number 51 (pos
          32767)) NoExpr)) NoPost))));
      posts = NoPost;
    }) ∷ [])) ∷ []) (ThenStmt (Prefixed 62 [] (Write
    true ((Value (Number 70 (pos 1))) ∷ []))) NoStmt)) [] ≡ (RegionLimit ∷ [])
unfolding int_wrap
a_step_that_is_too_great = refl

-- region R = [2147483640]; direction d = [9]; e = [-9]; region S = R at d at e;
every_step_is_tested : faults_of (declared ((Regions ((record {
  name = (name (codes "R") 7);
  body =
      (Dims (ThenDim (One (Number 12 (pos 2147483640))) NoDim));
  posts = NoPost;
}) ∷ [])) ∷
    (Directions ((record {
      name = (name (codes "d") 35);
      parts = (ThenExpr (Number 40 (pos 9))
          NoExpr);
    }) ∷ (record {
      name = (name (codes "e") 44);
      parts = (ThenExpr (Neg 49 (Number 50 (pos
          9))) NoExpr);
    }) ∷ [])) ∷ (Regions ((record {
      name = (name (codes "S") 61);
      body = (Rexpr []
          (NamedRegion (name (codes "R") 65)) (ThenPost false (NamedDir (name (codes "d") 70)) (ThenPost
          false (NamedDir (name (codes "e") 75)) NoPost)));
      posts = NoPost;
    }) ∷ [])) ∷ []) (ThenStmt
    (Prefixed 81 [] (Write true ((Value (Number 89 (pos 1))) ∷ []))) NoStmt)) [] ≡ (RegionLimit ∷
    [])
unfolding int_wrap
every_step_is_tested = refl

-- region R = [2147483640]; direction d = [8]; e = [-9]; region S = R at d at e;
steps_within_the_limit : faults_of (declared ((Regions ((record {
  name = (name (codes "R") 7);
  body
      = (Dims (ThenDim (One (Number 12 (pos 2147483640))) NoDim));
  posts = NoPost;
}) ∷ [])) ∷
    (Directions ((record {
      name = (name (codes "d") 35);
      parts = (ThenExpr (Number 40 (pos 8))
          NoExpr);
    }) ∷ (record {
      name = (name (codes "e") 44);
      parts = (ThenExpr (Neg 49 (Number 50 (pos
          9))) NoExpr);
    }) ∷ [])) ∷ (Regions ((record {
      name = (name (codes "S") 61);
      body = (Rexpr []
          (NamedRegion (name (codes "R") 65)) (ThenPost false (NamedDir (name (codes "d") 70)) (ThenPost
          false (NamedDir (name (codes "e") 75)) NoPost)));
      posts = NoPost;
    }) ∷ [])) ∷ []) (ThenStmt
    (Prefixed 81 [] (Write true ((Value (Number 89 (pos 1))) ∷ []))) NoStmt)) [] ≡ []
unfolding int_wrap
steps_within_the_limit = refl

-- region R = [2147483640]; direction d = [9]; region S = [d of R]; T = S at [1];
of_what_passes_it : faults_of (declared ((Regions ((record {
  name = (name (codes "R") 7);
  body =
      (Dims (ThenDim (One (Number 12 (pos 2147483640))) NoDim));
  posts = NoPost;
}) ∷ [])) ∷
    (Directions ((record {
      name = (name (codes "d") 35);
      parts = (ThenExpr (Number 40 (pos 9))
          NoExpr);
    }) ∷ [])) ∷ (Regions ((record {
      name = (name (codes "S") 51);
      body = (Rexpr ((record {
        dir = (name (codes "d") 56);
        outside = true;
      }) ∷ []) (NamedRegion (name (codes "R") 61))
          NoPost);
      posts = NoPost;
    }) ∷ (record {
      name = (name (codes "T") 65);
      body = (Rexpr []
          (NamedRegion (name (codes "S") 69)) (ThenPost false (Vector (ThenExpr (Number 75 (pos 1))
          NoExpr)) NoPost));
      posts = NoPost;
    }) ∷ [])) ∷ []) (ThenStmt (Prefixed 82 [] (Write true ((Value
    (Number 90 (pos 1))) ∷ []))) NoStmt)) [] ≡ (RegionLimit ∷ RegionLimit ∷ [])
unfolding int_wrap
of_what_passes_it = refl

-- constant c : integer = 0; region R = [1..3000000000, 1 / c];
bounds_come_before_the_limit : faults_of (declared ((Constant ((record {
  name = (name (codes "c")
      9);
  base = Integer;
  value = (Number 23 (pos 0));
}) ∷ [])) ∷ (Regions ((record {
  name = (name
      (codes "R") 33);
  body = (Dims (ThenDim (Span (Number 38 (pos 1)) (Number 41 (pos 3000000000)))
      (ThenDim (One (Pair 53 op.Div (Number 53 (pos 1)) (Named 57 (name (codes "c") 57)))) NoDim)));
  posts = NoPost;
}) ∷ [])) ∷ []) (ThenStmt (Prefixed 64 [] (Write true ((Value (Number 72 (pos
    1))) ∷ []))) NoStmt)) [] ≡ (BadConstant ∷ [])
unfolding int_wrap
bounds_come_before_the_limit = refl

-- constant c : integer = 0; region R = [1..5 / c];
a_divisor_in_a_bound : faults_of (declared ((Constant ((record {
  name = (name (codes "c") 9);
  base =
      Integer;
  value = (Number 23 (pos 0));
}) ∷ [])) ∷ (Regions ((record {
  name = (name (codes "R")
      33);
  body = (Dims (ThenDim (Span (Number 38 (pos 1)) (Pair 41 op.Div (Number 41 (pos 5)) (Named
      45 (name (codes "c") 45)))) NoDim));
  posts = NoPost;
}) ∷ [])) ∷ []) (ThenStmt (Prefixed 52 []
    (Write true ((Value (Number 60 (pos 1))) ∷ []))) NoStmt)) [] ≡ (BadConstant ∷ [])
unfolding int_wrap
a_divisor_in_a_bound = refl
