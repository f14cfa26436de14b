-- Storages, home boxes and copies.
use Rattle.std.proofs.Common.{◌≡◌, true, false, [], ◌∷◌, None, pos, codes, refl}
use Rattle.std.specs.Prelude.{neg_ℤ}
use Rattle.std.specs.Int.{int_wrap}
use Rattle.zpl_tree.specs.of_zpl_nums.declared.operators.Op.TheVariants as op
use Rattle.zpl_tree.specs.of_zpl_nums.declared.folds.Fold.TheVariants as fold
use Rattle.zpl_arrays.specs.of_zpl_region.declared.dims.Dim.TheVariants as dim
use Rattle.zpl_arrays.specs.of_zpl_region.Hull.{all_from}
use Rattle.zpl_tree.specs.Syntax.{Number, Named, Around, Neg, Pair, Reduce, NoExpr, ThenExpr, NamedDir, Vector, NamedRegion, Rexpr, Dims, NoBracket, Bracketed, NoPost, ThenPost, Star, One, Span, NoDim, ThenDim, Value, Prefixed, NoStmt, ThenStmt, Assign, Invoke, Block, Write, Integer, Regions, Directions, Vars, Defined}
use Rattle.zpl_names.specs.Reached.{longest_chain}
use Rattle.zpl_binding.specs.Outcome.{BadConstant, RegionLimit, Gives, Fails}
use Rattle.zpl_binding.specs.Regions.{region_over}
use Rattle.zpl_binding.specs.Declarations.{known_of}
use Rattle.zpl_binding.specs.Copies.{copies_of}
use Rattle.zpl_binding.specs.Bound.{computed_storages, faults_of}
use Rattle.zpl_binding.proofs.Trees.{name, declared, homes_of}

-- ---- storages

-- region R = [1..4]; direction d = [2]; e = [-1]; var A, B : [R] integer; x : integer;
no_border : computed_storages (declared ((Regions ((record {
  name = (name (codes "R") 7);
  body =
      (Dims (ThenDim (Span (Number 12 (pos 1)) (Number 15 (pos 4))) NoDim));
  posts = NoPost;
}) ∷ []))
    ∷ (Directions ((record {
      name = (name (codes "d") 29);
      parts = (ThenExpr (Number 34 (pos 2))
          NoExpr);
    }) ∷ (record {
      name = (name (codes "e") 38);
      parts = (ThenExpr (Neg 43 (Number 44 (pos
          1))) NoExpr);
    }) ∷ [])) ∷ (Vars ((record {
      names = ((name (codes "A") 52) ∷ (name (codes "B") 55)
          ∷ []);
      shape = (Bracketed (Rexpr [] (NamedRegion (name (codes "R") 60)) NoPost));
      base = Integer;
    }) ∷ (record { names = ((name (codes "x") 72) ∷ []); shape = NoBracket; base = Integer }) ∷ []))
    ∷ []) (ThenStmt (Prefixed 88 [] (Write true ((Value (Number 96 (pos 1))) ∷ []))) NoStmt)) [] ≡
    ((Gives (region_over ((all_from (pos 1) (pos 4)) ∷ []))) ∷ (Gives (region_over ((all_from (pos
    1) (pos 4)) ∷ []))) ∷ [])
unfolding int_wrap
no_border = refl

-- region R = [1..4]; direction d = [2]; e = [-1]; var A : [R] integer; S: [d of R] A := 1;
a_border_in_a_statement : computed_storages (declared ((Regions ((record {
  name = (name (codes "R")
      7);
  body = (Dims (ThenDim (Span (Number 12 (pos 1)) (Number 15 (pos 4))) NoDim));
  posts = NoPost;
}) ∷ [])) ∷ (Directions ((record {
  name = (name (codes "d") 29);
  parts = (ThenExpr (Number 34
      (pos 2)) NoExpr);
}) ∷ (record {
  name = (name (codes "e") 38);
  parts = (ThenExpr (Neg 43 (Number
      44 (pos 1))) NoExpr);
}) ∷ [])) ∷ (Vars ((record {
  names = ((name (codes "A") 52) ∷ []);
  shape =
      (Bracketed (Rexpr [] (NamedRegion (name (codes "R") 57)) NoPost));
  base = Integer;
}) ∷ [])) ∷
    []) (ThenStmt (Prefixed 81 ((record {
      at = 72;
      region = (Rexpr ((record {
        dir = (name (codes
            "d") 73);
        outside = true;
      }) ∷ []) (NamedRegion (name (codes "R") 78)) NoPost);
      mask = None;
    }) ∷
    []) (Assign (name (codes "A") 81) None (Number 86 (pos 1)))) NoStmt)) [] ≡ ((Gives (region_over
    ((all_from (pos 1) (pos 6)) ∷ []))) ∷ [])
unfolding int_wrap
a_border_in_a_statement = refl

-- region R = [1..4]; direction d = [2]; e = [-1]; var A : [R] integer; S: [d of R] A := 1; [e of
-- R] A := 2;
two_borders : computed_storages (declared ((Regions ((record {
  name = (name (codes "R") 7);
  body =
      (Dims (ThenDim (Span (Number 12 (pos 1)) (Number 15 (pos 4))) NoDim));
  posts = NoPost;
}) ∷ []))
    ∷ (Directions ((record {
      name = (name (codes "d") 29);
      parts = (ThenExpr (Number 34 (pos 2))
          NoExpr);
    }) ∷ (record {
      name = (name (codes "e") 38);
      parts = (ThenExpr (Neg 43 (Number 44 (pos
          1))) NoExpr);
    }) ∷ [])) ∷ (Vars ((record {
      names = ((name (codes "A") 52) ∷ []);
      shape =
          (Bracketed (Rexpr [] (NamedRegion (name (codes "R") 57)) NoPost));
      base = Integer;
    }) ∷ [])) ∷
    []) (ThenStmt (Prefixed 81 ((record {
      at = 72;
      region = (Rexpr ((record {
        dir = (name (codes
            "d") 73);
        outside = true;
      }) ∷ []) (NamedRegion (name (codes "R") 78)) NoPost);
      mask = None;
    }) ∷
    []) (Assign (name (codes "A") 81) None (Number 86 (pos 1)))) (ThenStmt (Prefixed 98 ((record {
      at = 89;
      region = (Rexpr ((record { dir = (name (codes "e") 90); outside = true }) ∷ [])
          (NamedRegion (name (codes "R") 95)) NoPost);
      mask = None;
    }) ∷ []) (Assign (name (codes "A") 98)
    None (Number 103 (pos 2)))) NoStmt))) [] ≡ ((Gives (region_over ((all_from (pos 0) (pos 6)) ∷
    []))) ∷ [])
unfolding int_wrap
two_borders = refl

-- region R = [1..4]; var A : [R] integer; direction d = [2]; e = [-1]; region T = [d of R];
borders_that_stand_later : computed_storages (declared ((Regions ((record {
  name = (name (codes "R")
      7);
  body = (Dims (ThenDim (Span (Number 12 (pos 1)) (Number 15 (pos 4))) NoDim));
  posts = NoPost;
}) ∷ [])) ∷ (Vars ((record {
  names = ((name (codes "A") 23) ∷ []);
  shape = (Bracketed (Rexpr []
      (NamedRegion (name (codes "R") 28)) NoPost));
  base = Integer;
}) ∷ [])) ∷ (Directions ((record {
  name = (name (codes "d") 50);
  parts = (ThenExpr (Number 55 (pos 2)) NoExpr);
}) ∷ (record {
  name
      = (name (codes "e") 59);
  parts = (ThenExpr (Neg 64 (Number 65 (pos 1))) NoExpr);
}) ∷ [])) ∷
    (Regions ((record {
      name = (name (codes "T") 76);
      body = (Rexpr ((record {
        dir = (name (codes
            "d") 81);
        outside = true;
      }) ∷ []) (NamedRegion (name (codes "R") 86)) NoPost);
      posts = NoPost;
    })
    ∷ [])) ∷ []) (ThenStmt (Prefixed 93 [] (Write true ((Value (Number 101 (pos 1))) ∷ [])))
    NoStmt)) [] ≡ ((Gives (region_over ((all_from (pos 1) (pos 6)) ∷ []))) ∷ [])
unfolding int_wrap
borders_that_stand_later = refl

-- region R = [1..4]; direction d = [2]; e = [-1]; var A : [R] integer; S: [d in R] A := 1;
in_counts_not : computed_storages (declared ((Regions ((record {
  name = (name (codes "R") 7);
  body =
      (Dims (ThenDim (Span (Number 12 (pos 1)) (Number 15 (pos 4))) NoDim));
  posts = NoPost;
}) ∷ []))
    ∷ (Directions ((record {
      name = (name (codes "d") 29);
      parts = (ThenExpr (Number 34 (pos 2))
          NoExpr);
    }) ∷ (record {
      name = (name (codes "e") 38);
      parts = (ThenExpr (Neg 43 (Number 44 (pos
          1))) NoExpr);
    }) ∷ [])) ∷ (Vars ((record {
      names = ((name (codes "A") 52) ∷ []);
      shape =
          (Bracketed (Rexpr [] (NamedRegion (name (codes "R") 57)) NoPost));
      base = Integer;
    }) ∷ [])) ∷
    []) (ThenStmt (Prefixed 81 ((record {
      at = 72;
      region = (Rexpr ((record {
        dir = (name (codes
            "d") 73);
        outside = false;
      }) ∷ []) (NamedRegion (name (codes "R") 78)) NoPost);
      mask = None;
    }) ∷
    []) (Assign (name (codes "A") 81) None (Number 86 (pos 1)))) NoStmt)) [] ≡ ((Gives (region_over
    ((all_from (pos 1) (pos 4)) ∷ []))) ∷ [])
unfolding int_wrap
in_counts_not = refl

-- region R = [1..4]; direction d = [2]; e = [-1]; var A : [R] integer; S: [e in d of R] A := 1;
in_behind_of_does : computed_storages (declared ((Regions ((record {
  name = (name (codes "R") 7);
  body = (Dims (ThenDim (Span (Number 12 (pos 1)) (Number 15 (pos 4))) NoDim));
  posts = NoPost;
})
    ∷ [])) ∷ (Directions ((record {
      name = (name (codes "d") 29);
      parts = (ThenExpr (Number 34 (pos
          2)) NoExpr);
    }) ∷ (record {
      name = (name (codes "e") 38);
      parts = (ThenExpr (Neg 43 (Number 44
          (pos 1))) NoExpr);
    }) ∷ [])) ∷ (Vars ((record {
      names = ((name (codes "A") 52) ∷ []);
      shape =
          (Bracketed (Rexpr [] (NamedRegion (name (codes "R") 57)) NoPost));
      base = Integer;
    }) ∷ [])) ∷
    []) (ThenStmt (Prefixed 86 ((record {
      at = 72;
      region = (Rexpr ((record {
        dir = (name (codes
            "e") 73);
        outside = false;
      }) ∷ (record { dir = (name (codes "d") 78); outside = true }) ∷ [])
          (NamedRegion (name (codes "R") 83)) NoPost);
      mask = None;
    }) ∷ []) (Assign (name (codes "A") 86)
    None (Number 91 (pos 1)))) NoStmt)) [] ≡ ((Gives (region_over ((all_from (pos 1) (pos 6)) ∷
    []))) ∷ [])
unfolding int_wrap
in_behind_of_does = refl

-- region R = [1..4]; direction d = [2]; e = [-1]; var A : [R] integer; S: [e of d in R] A := 1;
of_behind_of_does_not : computed_storages (declared ((Regions ((record {
  name = (name (codes "R")
      7);
  body = (Dims (ThenDim (Span (Number 12 (pos 1)) (Number 15 (pos 4))) NoDim));
  posts = NoPost;
}) ∷ [])) ∷ (Directions ((record {
  name = (name (codes "d") 29);
  parts = (ThenExpr (Number 34
      (pos 2)) NoExpr);
}) ∷ (record {
  name = (name (codes "e") 38);
  parts = (ThenExpr (Neg 43 (Number
      44 (pos 1))) NoExpr);
}) ∷ [])) ∷ (Vars ((record {
  names = ((name (codes "A") 52) ∷ []);
  shape =
      (Bracketed (Rexpr [] (NamedRegion (name (codes "R") 57)) NoPost));
  base = Integer;
}) ∷ [])) ∷
    []) (ThenStmt (Prefixed 86 ((record {
      at = 72;
      region = (Rexpr ((record {
        dir = (name (codes
            "e") 73);
        outside = true;
      }) ∷ (record { dir = (name (codes "d") 78); outside = false }) ∷ [])
          (NamedRegion (name (codes "R") 83)) NoPost);
      mask = None;
    }) ∷ []) (Assign (name (codes "A") 86)
    None (Number 91 (pos 1)))) NoStmt)) [] ≡ ((Gives (region_over ((all_from (pos 1) (pos 4)) ∷
    []))) ∷ [])
unfolding int_wrap
of_behind_of_does_not = refl

-- region R = [1..4]; direction d = [2]; e = [-1]; var A : [R] integer; S: [d of R at e] A := 1;
of_with_at_does_not : computed_storages (declared ((Regions ((record {
  name = (name (codes "R") 7);
  body = (Dims (ThenDim (Span (Number 12 (pos 1)) (Number 15 (pos 4))) NoDim));
  posts = NoPost;
})
    ∷ [])) ∷ (Directions ((record {
      name = (name (codes "d") 29);
      parts = (ThenExpr (Number 34 (pos
          2)) NoExpr);
    }) ∷ (record {
      name = (name (codes "e") 38);
      parts = (ThenExpr (Neg 43 (Number 44
          (pos 1))) NoExpr);
    }) ∷ [])) ∷ (Vars ((record {
      names = ((name (codes "A") 52) ∷ []);
      shape =
          (Bracketed (Rexpr [] (NamedRegion (name (codes "R") 57)) NoPost));
      base = Integer;
    }) ∷ [])) ∷
    []) (ThenStmt (Prefixed 86 ((record {
      at = 72;
      region = (Rexpr ((record {
        dir = (name (codes
            "d") 73);
        outside = true;
      }) ∷ []) (NamedRegion (name (codes "R") 78)) (ThenPost false (NamedDir
          (name (codes "e") 83)) NoPost));
      mask = None;
    }) ∷ []) (Assign (name (codes "A") 86) None (Number
    91 (pos 1)))) NoStmt)) [] ≡ ((Gives (region_over ((all_from (pos 1) (pos 4)) ∷ []))) ∷ [])
unfolding int_wrap
of_with_at_does_not = refl

-- region R = [1..4]; direction d = [2]; e = [-1]; var A : [R] integer; S: [d of R by e] A := 1;
of_with_by_does_not : computed_storages (declared ((Regions ((record {
  name = (name (codes "R") 7);
  body = (Dims (ThenDim (Span (Number 12 (pos 1)) (Number 15 (pos 4))) NoDim));
  posts = NoPost;
})
    ∷ [])) ∷ (Directions ((record {
      name = (name (codes "d") 29);
      parts = (ThenExpr (Number 34 (pos
          2)) NoExpr);
    }) ∷ (record {
      name = (name (codes "e") 38);
      parts = (ThenExpr (Neg 43 (Number 44
          (pos 1))) NoExpr);
    }) ∷ [])) ∷ (Vars ((record {
      names = ((name (codes "A") 52) ∷ []);
      shape =
          (Bracketed (Rexpr [] (NamedRegion (name (codes "R") 57)) NoPost));
      base = Integer;
    }) ∷ [])) ∷
    []) (ThenStmt (Prefixed 86 ((record {
      at = 72;
      region = (Rexpr ((record {
        dir = (name (codes
            "d") 73);
        outside = true;
      }) ∷ []) (NamedRegion (name (codes "R") 78)) (ThenPost true (NamedDir
          (name (codes "e") 83)) NoPost));
      mask = None;
    }) ∷ []) (Assign (name (codes "A") 86) None (Number
    91 (pos 1)))) NoStmt)) [] ≡ ((Gives (region_over ((all_from (pos 1) (pos 4)) ∷ []))) ∷ [])
unfolding int_wrap
of_with_by_does_not = refl

-- region R = [1..4]; direction d = [2]; e = [-1]; region T = [d of R] at e; var A : [R] integer;
an_at_behind_the_bracket_does : computed_storages (declared ((Regions ((record {
  name = (name (codes
      "R") 7);
  body = (Dims (ThenDim (Span (Number 12 (pos 1)) (Number 15 (pos 4))) NoDim));
  posts =
      NoPost;
}) ∷ [])) ∷ (Directions ((record {
  name = (name (codes "d") 29);
  parts = (ThenExpr
      (Number 34 (pos 2)) NoExpr);
}) ∷ (record {
  name = (name (codes "e") 38);
  parts = (ThenExpr (Neg
      43 (Number 44 (pos 1))) NoExpr);
}) ∷ [])) ∷ (Regions ((record {
  name = (name (codes "T") 55);
  body = (Rexpr ((record { dir = (name (codes "d") 60); outside = true }) ∷ []) (NamedRegion (name
      (codes "R") 65)) NoPost);
  posts = (ThenPost false (NamedDir (name (codes "e") 71)) NoPost);
}) ∷
    [])) ∷ (Vars ((record {
      names = ((name (codes "A") 78) ∷ []);
      shape = (Bracketed (Rexpr []
          (NamedRegion (name (codes "R") 83)) NoPost));
      base = Integer;
    }) ∷ [])) ∷ []) (ThenStmt (Prefixed
    98 [] (Write true ((Value (Number 106 (pos 1))) ∷ []))) NoStmt)) [] ≡ ((Gives (region_over
    ((all_from (pos 1) (pos 6)) ∷ []))) ∷ [])
unfolding int_wrap
an_at_behind_the_bracket_does = refl

-- region R = [1..4]; direction d = [2]; e = [-1]; var A : [R] integer; procedure u(a : [d of R]
-- integer); begin end;
of_in_the_shape_of_a_parameter : computed_storages (declared ((Regions ((record {
  name = (name
      (codes "R") 7);
  body = (Dims (ThenDim (Span (Number 12 (pos 1)) (Number 15 (pos 4))) NoDim));
  posts = NoPost;
}) ∷ [])) ∷ (Directions ((record {
  name = (name (codes "d") 29);
  parts =
      (ThenExpr (Number 34 (pos 2)) NoExpr);
}) ∷ (record {
  name = (name (codes "e") 38);
  parts =
      (ThenExpr (Neg 43 (Number 44 (pos 1))) NoExpr);
}) ∷ [])) ∷ (Vars ((record {
  names = ((name
      (codes "A") 52) ∷ []);
  shape = (Bracketed (Rexpr [] (NamedRegion (name (codes "R") 57))
      NoPost));
  base = Integer;
}) ∷ [])) ∷ (Defined (record {
  name = (name (codes "u") 79);
  params =
      ((record {
        by_ref = false;
        names = ((name (codes "a") 81) ∷ []);
        shape = (Bracketed (Rexpr
            ((record { dir = (name (codes "d") 86); outside = true }) ∷ []) (NamedRegion (name (codes "R")
            91)) NoPost));
        base = Integer;
      }) ∷ []);
  result = None;
  locals = [];
  body = (Prefixed 104 []
      (Block NoStmt));
})) ∷ []) (ThenStmt (Prefixed 118 [] (Write true ((Value (Number 126 (pos 1))) ∷
    []))) NoStmt)) [] ≡ ((Gives (region_over ((all_from (pos 1) (pos 6)) ∷ []))) ∷ [])
unfolding int_wrap
of_in_the_shape_of_a_parameter = refl

-- region R = [1..4]; direction d = [2]; e = [-1]; var A : [R] integer; procedure u(); begin [d of
-- R] A := 1; end;
of_a_procedure_that_nothing_calls : computed_storages (declared ((Regions ((record {
  name = (name
      (codes "R") 7);
  body = (Dims (ThenDim (Span (Number 12 (pos 1)) (Number 15 (pos 4))) NoDim));
  posts = NoPost;
}) ∷ [])) ∷ (Directions ((record {
  name = (name (codes "d") 29);
  parts =
      (ThenExpr (Number 34 (pos 2)) NoExpr);
}) ∷ (record {
  name = (name (codes "e") 38);
  parts =
      (ThenExpr (Neg 43 (Number 44 (pos 1))) NoExpr);
}) ∷ [])) ∷ (Vars ((record {
  names = ((name
      (codes "A") 52) ∷ []);
  shape = (Bracketed (Rexpr [] (NamedRegion (name (codes "R") 57))
      NoPost));
  base = Integer;
}) ∷ [])) ∷ (Defined (record {
  name = (name (codes "u") 79);
  params =
      [];
  result = None;
  locals = [];
  body = (Prefixed 84 [] (Block (ThenStmt (Prefixed 99 ((record {
    at = 90;
    region = (Rexpr ((record { dir = (name (codes "d") 91); outside = true }) ∷ [])
        (NamedRegion (name (codes "R") 96)) NoPost);
    mask = None;
  }) ∷ []) (Assign (name (codes "A") 99)
      None (Number 104 (pos 1)))) NoStmt)));
})) ∷ []) (ThenStmt (Prefixed 115 [] (Write true ((Value
    (Number 123 (pos 1))) ∷ []))) NoStmt)) [] ≡ ((Gives (region_over ((all_from (pos 1) (pos 6)) ∷
    []))) ∷ [])
unfolding int_wrap
of_a_procedure_that_nothing_calls = refl

-- region R = [1..4]; direction d = [2]; e = [-1]; var A : [R] integer; S: [1] A := +<<[d of R] A;
of_the_source_of_a_reduction : computed_storages (declared ((Regions ((record {
  name = (name (codes
      "R") 7);
  body = (Dims (ThenDim (Span (Number 12 (pos 1)) (Number 15 (pos 4))) NoDim));
  posts =
      NoPost;
}) ∷ [])) ∷ (Directions ((record {
  name = (name (codes "d") 29);
  parts = (ThenExpr
      (Number 34 (pos 2)) NoExpr);
}) ∷ (record {
  name = (name (codes "e") 38);
  parts = (ThenExpr (Neg
      43 (Number 44 (pos 1))) NoExpr);
}) ∷ [])) ∷ (Vars ((record {
  names = ((name (codes "A") 52) ∷
      []);
  shape = (Bracketed (Rexpr [] (NamedRegion (name (codes "R") 57)) NoPost));
  base = Integer;
}) ∷ [])) ∷ []) (ThenStmt (Prefixed 76 ((record {
  at = 72;
  region = (Dims (ThenDim (One (Number
      73 (pos 1))) NoDim));
  mask = None;
}) ∷ []) (Assign (name (codes "A") 76) None (Reduce 81
    fold.Sum (Bracketed (Rexpr ((record { dir = (name (codes "d") 85); outside = true }) ∷ [])
    (NamedRegion (name (codes "R") 90)) NoPost)) (Named 93 (name (codes "A") 93))))) NoStmt)) [] ≡
    ((Gives (region_over ((all_from (pos 1) (pos 6)) ∷ []))) ∷ [])
unfolding int_wrap
of_the_source_of_a_reduction = refl

-- region R = [1..4]; direction d = [2]; e = [-1]; region Q = [1..4]; var A : [R] integer; B : [Q]
-- integer; S: [d of Q] A := 1;
of_another_region : computed_storages (declared ((Regions ((record {
  name = (name (codes "R") 7);
  body = (Dims (ThenDim (Span (Number 12 (pos 1)) (Number 15 (pos 4))) NoDim));
  posts = NoPost;
})
    ∷ [])) ∷ (Directions ((record {
      name = (name (codes "d") 29);
      parts = (ThenExpr (Number 34 (pos
          2)) NoExpr);
    }) ∷ (record {
      name = (name (codes "e") 38);
      parts = (ThenExpr (Neg 43 (Number 44
          (pos 1))) NoExpr);
    }) ∷ [])) ∷ (Regions ((record {
      name = (name (codes "Q") 55);
      body = (Dims
          (ThenDim (Span (Number 60 (pos 1)) (Number 63 (pos 4))) NoDim));
      posts = NoPost;
    }) ∷ [])) ∷
    (Vars ((record {
      names = ((name (codes "A") 71) ∷ []);
      shape = (Bracketed (Rexpr [] (NamedRegion
          (name (codes "R") 76)) NoPost));
      base = Integer;
    }) ∷ (record {
      names = ((name (codes "B") 88) ∷
          []);
      shape = (Bracketed (Rexpr [] (NamedRegion (name (codes "Q") 93)) NoPost));
      base = Integer;
    }) ∷ [])) ∷ []) (ThenStmt (Prefixed 117 ((record {
      at = 108;
      region = (Rexpr ((record {
        dir =
            (name (codes "d") 109);
        outside = true;
      }) ∷ []) (NamedRegion (name (codes "Q") 114)) NoPost);
      mask = None;
    }) ∷ []) (Assign (name (codes "A") 117) None (Number 122 (pos 1)))) NoStmt)) [] ≡
    ((Gives (region_over ((all_from (pos 1) (pos 4)) ∷ []))) ∷ (Gives (region_over ((all_from (pos
    1) (pos 6)) ∷ []))) ∷ [])
unfolding int_wrap
of_another_region = refl

-- region R = [1..4, 1..6]; direction d = [2, 0]; e = [0, -1]; var A : [R] integer; S: [d of R] A
-- := 1; [e of R] A := 2;
two_dimensions : computed_storages (declared ((Regions ((record {
  name = (name (codes "R") 7);
  body
      = (Dims (ThenDim (Span (Number 12 (pos 1)) (Number 15 (pos 4))) (ThenDim (Span (Number 18 (pos
      1)) (Number 21 (pos 6))) NoDim)));
  posts = NoPost;
}) ∷ [])) ∷ (Directions ((record {
  name =
      (name (codes "d") 35);
  parts = (ThenExpr (Number 40 (pos 2)) (ThenExpr (Number 43 (pos 0))
      NoExpr));
}) ∷ (record {
  name = (name (codes "e") 47);
  parts = (ThenExpr (Number 52 (pos 0))
      (ThenExpr (Neg 55 (Number 56 (pos 1))) NoExpr));
}) ∷ [])) ∷ (Vars ((record {
  names = ((name
      (codes "A") 64) ∷ []);
  shape = (Bracketed (Rexpr [] (NamedRegion (name (codes "R") 69))
      NoPost));
  base = Integer;
}) ∷ [])) ∷ []) (ThenStmt (Prefixed 93 ((record {
  at = 84;
  region =
      (Rexpr ((record { dir = (name (codes "d") 85); outside = true }) ∷ []) (NamedRegion (name (codes
      "R") 90)) NoPost);
  mask = None;
}) ∷ []) (Assign (name (codes "A") 93) None (Number 98 (pos 1))))
    (ThenStmt (Prefixed 110 ((record {
      at = 101;
      region = (Rexpr ((record {
        dir = (name (codes "e")
            102);
        outside = true;
      }) ∷ []) (NamedRegion (name (codes "R") 107)) NoPost);
      mask = None;
    }) ∷ [])
    (Assign (name (codes "A") 110) None (Number 115 (pos 2)))) NoStmt))) [] ≡ ((Gives (region_over
    ((all_from (pos 1) (pos 6)) ∷ (all_from (pos 0) (pos 6)) ∷ []))) ∷ [])
unfolding int_wrap
two_dimensions = refl

-- region R = [1..4, *]; direction d = [2, 1]; var A : [R] integer; S: [d of R] A := 1;
a_flood_dimension : computed_storages (declared ((Regions ((record {
  name = (name (codes "R") 7);
  body = (Dims (ThenDim (Span (Number 12 (pos 1)) (Number 15 (pos 4))) (ThenDim (Star 18)
      NoDim)));
  posts = NoPost;
}) ∷ [])) ∷ (Directions ((record {
  name = (name (codes "d") 32);
  parts
      = (ThenExpr (Number 37 (pos 2)) (ThenExpr (Number 40 (pos 1)) NoExpr));
}) ∷ [])) ∷ (Vars
    ((record {
      names = ((name (codes "A") 48) ∷ []);
      shape = (Bracketed (Rexpr [] (NamedRegion (name
          (codes "R") 53)) NoPost));
      base = Integer;
    }) ∷ [])) ∷ []) (ThenStmt (Prefixed 77 ((record {
      at =
          68;
      region = (Rexpr ((record { dir = (name (codes "d") 69); outside = true }) ∷ []) (NamedRegion
          (name (codes "R") 74)) NoPost);
      mask = None;
    }) ∷ []) (Assign (name (codes "A") 77) None (Number
    82 (pos 1)))) NoStmt)) [] ≡ ((Gives (region_over ((all_from (pos 1) (pos 6)) ∷ dim.Flood ∷ [])))
    ∷ [])
unfolding int_wrap
a_flood_dimension = refl

-- region R = [1..4]; direction d = [2]; e = [-1]; var A : [1..4] integer; B : [d of R] integer; C
-- : [R at e] integer;
an_array_without_a_region_name : computed_storages (declared ((Regions ((record {
  name = (name
      (codes "R") 7);
  body = (Dims (ThenDim (Span (Number 12 (pos 1)) (Number 15 (pos 4))) NoDim));
  posts = NoPost;
}) ∷ [])) ∷ (Directions ((record {
  name = (name (codes "d") 29);
  parts =
      (ThenExpr (Number 34 (pos 2)) NoExpr);
}) ∷ (record {
  name = (name (codes "e") 38);
  parts =
      (ThenExpr (Neg 43 (Number 44 (pos 1))) NoExpr);
}) ∷ [])) ∷ (Vars ((record {
  names = ((name
      (codes "A") 52) ∷ []);
  shape = (Bracketed (Dims (ThenDim (Span (Number 57 (pos 1)) (Number 60
      (pos 4))) NoDim)));
  base = Integer;
}) ∷ (record {
  names = ((name (codes "B") 72) ∷ []);
  shape =
      (Bracketed (Rexpr ((record { dir = (name (codes "d") 77); outside = true }) ∷ []) (NamedRegion
      (name (codes "R") 82)) NoPost));
  base = Integer;
}) ∷ (record {
  names = ((name (codes "C") 94) ∷
      []);
  shape = (Bracketed (Rexpr [] (NamedRegion (name (codes "R") 99)) (ThenPost false (NamedDir
      (name (codes "e") 104)) NoPost)));
  base = Integer;
}) ∷ [])) ∷ []) (ThenStmt (Prefixed 119 []
    (Write true ((Value (Number 127 (pos 1))) ∷ []))) NoStmt)) [] ≡ ((Gives (region_over ((all_from
    (pos 1) (pos 4)) ∷ []))) ∷ (Gives (region_over ((all_from (pos 5) (pos 6)) ∷ []))) ∷ (Gives
    (region_over ((all_from (pos 0) (pos 3)) ∷ []))) ∷ [])
unfolding int_wrap
an_array_without_a_region_name = refl

-- region R = [1..8] by [3]; S = R by [-2]; var A : [R] integer; B : [S] integer;
a_region_with_a_step : computed_storages (declared ((Regions ((record {
  name = (name (codes "R") 7);
  body = (Dims (ThenDim (Span (Number 12 (pos 1)) (Number 15 (pos 8))) NoDim));
  posts = (ThenPost
      true (Vector (ThenExpr (Number 22 (pos 3)) NoExpr)) NoPost);
}) ∷ (record {
  name = (name (codes
      "S") 26);
  body = (Rexpr [] (NamedRegion (name (codes "R") 30)) (ThenPost true (Vector (ThenExpr
      (Neg 36 (Number 37 (pos 2))) NoExpr)) NoPost));
  posts = NoPost;
}) ∷ [])) ∷ (Vars ((record {
  names = ((name (codes "A") 45) ∷ []);
  shape = (Bracketed (Rexpr [] (NamedRegion (name (codes
      "R") 50)) NoPost));
  base = Integer;
}) ∷ (record {
  names = ((name (codes "B") 62) ∷ []);
  shape =
      (Bracketed (Rexpr [] (NamedRegion (name (codes "S") 67)) NoPost));
  base = Integer;
}) ∷ [])) ∷
    []) (ThenStmt (Prefixed 82 [] (Write true ((Value (Number 90 (pos 1))) ∷ []))) NoStmt)) [] ≡
    ((Gives (region_over ((all_from (pos 1) (pos 7)) ∷ []))) ∷ (Gives (region_over ((all_from (pos
    1) (pos 7)) ∷ []))) ∷ [])
unfolding int_wrap
a_region_with_a_step = refl

-- region R = [1..0, 1..4]; var A : [R] integer; B : [5..4] integer; C : [3..2, *] integer;
no_tuples : computed_storages (declared ((Regions ((record {
  name = (name (codes "R") 7);
  body =
      (Dims (ThenDim (Span (Number 12 (pos 1)) (Number 15 (pos 0))) (ThenDim (Span (Number 18 (pos 1))
      (Number 21 (pos 4))) NoDim)));
  posts = NoPost;
}) ∷ [])) ∷ (Vars ((record {
  names = ((name (codes
      "A") 29) ∷ []);
  shape = (Bracketed (Rexpr [] (NamedRegion (name (codes "R") 34)) NoPost));
  base
      = Integer;
}) ∷ (record {
  names = ((name (codes "B") 46) ∷ []);
  shape = (Bracketed (Dims (ThenDim
      (Span (Number 51 (pos 5)) (Number 54 (pos 4))) NoDim)));
  base = Integer;
}) ∷ (record {
  names =
      ((name (codes "C") 66) ∷ []);
  shape = (Bracketed (Dims (ThenDim (Span (Number 71 (pos 3))
      (Number 74 (pos 2))) (ThenDim (Star 77) NoDim))));
  base = Integer;
}) ∷ [])) ∷ []) (ThenStmt
    (Prefixed 92 [] (Write true ((Value (Number 100 (pos 1))) ∷ []))) NoStmt)) [] ≡ ((Gives
    (region_over ((all_from (pos 1) (pos 0)) ∷ (all_from (pos 1) (pos 0)) ∷ []))) ∷ (Gives
    (region_over ((all_from (pos 1) (pos 0)) ∷ []))) ∷ (Gives (region_over ((all_from (pos 1) (pos
    0)) ∷ dim.Flood ∷ []))) ∷ [])
unfolding int_wrap
no_tuples = refl

-- region R = [1..0]; direction d = [2]; var A : [R] integer; S: [d of R] A := 1;
a_border_of_no_tuples : computed_storages (declared ((Regions ((record {
  name = (name (codes "R")
      7);
  body = (Dims (ThenDim (Span (Number 12 (pos 1)) (Number 15 (pos 0))) NoDim));
  posts = NoPost;
}) ∷ [])) ∷ (Directions ((record {
  name = (name (codes "d") 29);
  parts = (ThenExpr (Number 34
      (pos 2)) NoExpr);
}) ∷ [])) ∷ (Vars ((record {
  names = ((name (codes "A") 42) ∷ []);
  shape =
      (Bracketed (Rexpr [] (NamedRegion (name (codes "R") 47)) NoPost));
  base = Integer;
}) ∷ [])) ∷
    []) (ThenStmt (Prefixed 71 ((record {
      at = 62;
      region = (Rexpr ((record {
        dir = (name (codes
            "d") 63);
        outside = true;
      }) ∷ []) (NamedRegion (name (codes "R") 68)) NoPost);
      mask = None;
    }) ∷
    []) (Assign (name (codes "A") 71) None (Number 76 (pos 1)))) NoStmt)) [] ≡ ((Gives (region_over
    ((all_from (pos 1) (pos 2)) ∷ []))) ∷ [])
unfolding int_wrap
a_border_of_no_tuples = refl

-- region R = [1..4]; direction d = [2]; e = [-1]; procedure u(); var L : [1..2] integer; begin
-- end; var A : [R] integer; procedure v(); var M, N : [1..3] integer; x : integer; begin end;
globals_and_then_locals : computed_storages (declared ((Regions ((record {
  name = (name (codes "R")
      7);
  body = (Dims (ThenDim (Span (Number 12 (pos 1)) (Number 15 (pos 4))) NoDim));
  posts = NoPost;
}) ∷ [])) ∷ (Directions ((record {
  name = (name (codes "d") 29);
  parts = (ThenExpr (Number 34
      (pos 2)) NoExpr);
}) ∷ (record {
  name = (name (codes "e") 38);
  parts = (ThenExpr (Neg 43 (Number
      44 (pos 1))) NoExpr);
}) ∷ [])) ∷ (Defined (record {
  name = (name (codes "u") 58);
  params = [];
  result = None;
  locals = ((record {
    names = ((name (codes "L") 67) ∷ []);
    shape = (Bracketed
        (Dims (ThenDim (Span (Number 72 (pos 1)) (Number 75 (pos 2))) NoDim)));
    base = Integer;
  }) ∷ []);
  body = (Prefixed 87 [] (Block NoStmt));
})) ∷ (Vars ((record {
  names = ((name (codes "A") 102) ∷
      []);
  shape = (Bracketed (Rexpr [] (NamedRegion (name (codes "R") 107)) NoPost));
  base = Integer;
}) ∷ [])) ∷ (Defined (record {
  name = (name (codes "v") 129);
  params = [];
  result = None;
  locals
      = ((record {
        names = ((name (codes "M") 138) ∷ (name (codes "N") 141) ∷ []);
        shape = (Bracketed
            (Dims (ThenDim (Span (Number 146 (pos 1)) (Number 149 (pos 3))) NoDim)));
        base = Integer;
      }) ∷
      (record { names = ((name (codes "x") 161) ∷ []); shape = NoBracket; base = Integer }) ∷ []);
  body = (Prefixed 174 [] (Block NoStmt));
})) ∷ []) (ThenStmt (Prefixed 188 [] (Write true ((Value
    (Number 196 (pos 1))) ∷ []))) NoStmt)) [] ≡ ((Gives (region_over ((all_from (pos 1) (pos 4)) ∷
    []))) ∷ (Gives (region_over ((all_from (pos 1) (pos 2)) ∷ []))) ∷ (Gives (region_over ((all_from
    (pos 1) (pos 3)) ∷ []))) ∷ (Gives (region_over ((all_from (pos 1) (pos 3)) ∷ []))) ∷ [])
unfolding int_wrap
globals_and_then_locals = refl

-- ---- the limit

-- var A : [1..3000, 1..3000] integer;
a_shape : faults_of (declared ((Vars ((record {
  names = ((name (codes "A") 4) ∷ []);
  shape =
      (Bracketed (Dims (ThenDim (Span (Number 9 (pos 1)) (Number 12 (pos 3000))) (ThenDim (Span
      (Number 18 (pos 1)) (Number 21 (pos 3000))) NoDim))));
  base = Integer;
}) ∷ [])) ∷ []) (ThenStmt
    (Prefixed 39 [] (Write true ((Value (Number 47 (pos 1))) ∷ []))) NoStmt)) [] ≡ (RegionLimit ∷
    [])
unfolding int_wrap
a_shape = refl

-- var A : [1..1 / 0] integer;
a_divisor_in_a_shape : faults_of (declared ((Vars ((record {
  names = ((name (codes "A") 4) ∷ []);
  shape = (Bracketed (Dims (ThenDim (Span (Number 9 (pos 1)) (Pair 12 op.Div (Number 12 (pos 1))
      (Number 16 (pos 0)))) NoDim)));
  base = Integer;
}) ∷ [])) ∷ []) (ThenStmt (Prefixed 31 [] (Write
    true ((Value (Number 39 (pos 1))) ∷ []))) NoStmt)) [] ≡ (BadConstant ∷ [])
unfolding int_wrap
a_divisor_in_a_shape = refl

-- region R = [1..4194304]; direction d = [1]; var A : [R] integer; S: [d of R] A := 1;
a_border : faults_of (declared ((Regions ((record {
  name = (name (codes "R") 7);
  body = (Dims
      (ThenDim (Span (Number 12 (pos 1)) (Number 15 (pos 4194304))) NoDim));
  posts = NoPost;
}) ∷ []))
    ∷ (Directions ((record {
      name = (name (codes "d") 35);
      parts = (ThenExpr (Number 40 (pos 1))
          NoExpr);
    }) ∷ [])) ∷ (Vars ((record {
      names = ((name (codes "A") 48) ∷ []);
      shape = (Bracketed
          (Rexpr [] (NamedRegion (name (codes "R") 53)) NoPost));
      base = Integer;
    }) ∷ [])) ∷ []) (ThenStmt
    (Prefixed 77 ((record {
      at = 68;
      region = (Rexpr ((record {
        dir = (name (codes "d") 69);
        outside
            = true;
      }) ∷ []) (NamedRegion (name (codes "R") 74)) NoPost);
      mask = None;
    }) ∷ []) (Assign (name
    (codes "A") 77) None (Number 82 (pos 1)))) NoStmt)) [] ≡ (RegionLimit ∷ [])
unfolding int_wrap
a_border = refl

-- region R = [1..4194304]; direction d = [1]; S: [d of R] writeln(1);
a_border_without_an_array : faults_of (declared ((Regions ((record {
  name = (name (codes "R") 7);
  body = (Dims (ThenDim (Span (Number 12 (pos 1)) (Number 15 (pos 4194304))) NoDim));
  posts =
      NoPost;
}) ∷ [])) ∷ (Directions ((record {
  name = (name (codes "d") 35);
  parts = (ThenExpr
      (Number 40 (pos 1)) NoExpr);
}) ∷ [])) ∷ []) (ThenStmt (Prefixed 56 ((record {
  at = 47;
  region =
      (Rexpr ((record { dir = (name (codes "d") 48); outside = true }) ∷ []) (NamedRegion (name (codes
      "R") 53)) NoPost);
  mask = None;
}) ∷ []) (Write true ((Value (Number 64 (pos 1))) ∷ [])))
    NoStmt)) [] ≡ []
unfolding int_wrap
a_border_without_an_array = refl

-- procedure q(); var A : [1..5000000] integer; begin end;
a_local_array : faults_of (declared ((Defined (record {
  name = (name (codes "q") 10);
  params = [];
  result = None;
  locals = ((record {
    names = ((name (codes "A") 19) ∷ []);
    shape = (Bracketed
        (Dims (ThenDim (Span (Number 24 (pos 1)) (Number 27 (pos 5000000))) NoDim)));
    base = Integer;
  })
      ∷ []);
  body = (Prefixed 45 [] (Block NoStmt));
})) ∷ []) (ThenStmt (Prefixed 59 [] (Write true
    ((Value (Number 67 (pos 1))) ∷ []))) NoStmt)) [] ≡ (RegionLimit ∷ [])
unfolding int_wrap
a_local_array = refl

-- region R = [1..8000000] by [4]; var A : [R] integer;
the_hull_of_a_region_with_a_step : faults_of (declared ((Regions ((record {
  name = (name (codes "R")
      7);
  body = (Dims (ThenDim (Span (Number 12 (pos 1)) (Number 15 (pos 8000000))) NoDim));
  posts =
      (ThenPost true (Vector (ThenExpr (Number 28 (pos 4)) NoExpr)) NoPost);
}) ∷ [])) ∷ (Vars ((record {
  names = ((name (codes "A") 36) ∷ []);
  shape = (Bracketed (Rexpr [] (NamedRegion (name (codes
      "R") 41)) NoPost));
  base = Integer;
}) ∷ [])) ∷ []) (ThenStmt (Prefixed 56 [] (Write true ((Value
    (Number 64 (pos 1))) ∷ []))) NoStmt)) [] ≡ (RegionLimit ∷ RegionLimit ∷ [])
unfolding int_wrap
the_hull_of_a_region_with_a_step = refl

-- ---- home boxes

-- region R = [1..4]; direction d = [2]; e = [-1]; var A : [R] integer; B : [d of R] integer; C :
-- [R by [3]] integer; S: [d of R] A := 1;
borders_left_out : homes_of (declared ((Regions ((record {
  name = (name (codes "R") 7);
  body = (Dims
      (ThenDim (Span (Number 12 (pos 1)) (Number 15 (pos 4))) NoDim));
  posts = NoPost;
}) ∷ [])) ∷
    (Directions ((record {
      name = (name (codes "d") 29);
      parts = (ThenExpr (Number 34 (pos 2))
          NoExpr);
    }) ∷ (record {
      name = (name (codes "e") 38);
      parts = (ThenExpr (Neg 43 (Number 44 (pos
          1))) NoExpr);
    }) ∷ [])) ∷ (Vars ((record {
      names = ((name (codes "A") 52) ∷ []);
      shape =
          (Bracketed (Rexpr [] (NamedRegion (name (codes "R") 57)) NoPost));
      base = Integer;
    }) ∷ (record {
      names = ((name (codes "B") 69) ∷ []);
      shape = (Bracketed (Rexpr ((record {
        dir = (name (codes
            "d") 74);
        outside = true;
      }) ∷ []) (NamedRegion (name (codes "R") 79)) NoPost));
      base = Integer;
    }) ∷ (record {
      names = ((name (codes "C") 91) ∷ []);
      shape = (Bracketed (Rexpr [] (NamedRegion
          (name (codes "R") 96)) (ThenPost true (Vector (ThenExpr (Number 102 (pos 3)) NoExpr)) NoPost)));
      base = Integer;
    }) ∷ [])) ∷ []) (ThenStmt (Prefixed 127 ((record {
      at = 118;
      region = (Rexpr
          ((record { dir = (name (codes "d") 119); outside = true }) ∷ []) (NamedRegion (name (codes "R")
          124)) NoPost);
      mask = None;
    }) ∷ []) (Assign (name (codes "A") 127) None (Number 132 (pos 1))))
    NoStmt)) [] ≡ ((Gives (region_over ((all_from (pos 1) (pos 4)) ∷ []))) ∷ (Gives (region_over
    ((all_from (pos 5) (pos 6)) ∷ []))) ∷ (Gives (region_over ((all_from (pos 1) (pos 4)) ∷ []))) ∷
    [])
unfolding int_wrap
borders_left_out = refl

-- ---- copies

-- region R = [1..4]; direction d = [2]; e = [-1]; far = [-7]; var A, B : [R] integer; S: [R] B :=
-- A@^d + A@^far; [R] B := A@^[-2];
a_copy : copies_of (declared ((Regions ((record {
  name = (name (codes "R") 7);
  body = (Dims (ThenDim
      (Span (Number 12 (pos 1)) (Number 15 (pos 4))) NoDim));
  posts = NoPost;
}) ∷ [])) ∷ (Directions
    ((record { name = (name (codes "d") 29); parts = (ThenExpr (Number 34 (pos 2)) NoExpr) }) ∷
    (record {
      name = (name (codes "e") 38);
      parts = (ThenExpr (Neg 43 (Number 44 (pos 1))) NoExpr);
    }) ∷ (record {
      name = (name (codes "far") 48);
      parts = (ThenExpr (Neg 55 (Number 56 (pos 7)))
          NoExpr);
    }) ∷ [])) ∷ (Vars ((record {
      names = ((name (codes "A") 64) ∷ (name (codes "B") 67) ∷
          []);
      shape = (Bracketed (Rexpr [] (NamedRegion (name (codes "R") 72)) NoPost));
      base = Integer;
    }) ∷ [])) ∷ []) (ThenStmt (Prefixed 91 ((record {
      at = 87;
      region = (Rexpr [] (NamedRegion (name
          (codes "R") 88)) NoPost);
      mask = None;
    }) ∷ []) (Assign (name (codes "B") 91) None (Pair 96
    op.Add (Around 96 (name (codes "A") 96) (NamedDir (name (codes "d") 99))) (Around 103 (name
    (codes "A") 103) (NamedDir (name (codes "far") 106)))))) (ThenStmt (Prefixed 115 ((record {
      at =
          111;
      region = (Rexpr [] (NamedRegion (name (codes "R") 112)) NoPost);
      mask = None;
    }) ∷ [])
    (Assign (name (codes "B") 115) None (Around 120 (name (codes "A") 120) (Vector (ThenExpr (Neg
    124 (Number 125 (pos 2))) NoExpr))))) NoStmt))) (known_of (declared ((Regions ((record {
      name =
          (name (codes "R") 7);
      body = (Dims (ThenDim (Span (Number 12 (pos 1)) (Number 15 (pos 4)))
          NoDim));
      posts = NoPost;
    }) ∷ [])) ∷ (Directions ((record {
      name = (name (codes "d") 29);
      parts =
          (ThenExpr (Number 34 (pos 2)) NoExpr);
    }) ∷ (record {
      name = (name (codes "e") 38);
      parts =
          (ThenExpr (Neg 43 (Number 44 (pos 1))) NoExpr);
    }) ∷ (record {
      name = (name (codes "far") 48);
      parts = (ThenExpr (Neg 55 (Number 56 (pos 7))) NoExpr);
    }) ∷ [])) ∷ (Vars ((record {
      names =
          ((name (codes "A") 64) ∷ (name (codes "B") 67) ∷ []);
      shape = (Bracketed (Rexpr [] (NamedRegion
          (name (codes "R") 72)) NoPost));
      base = Integer;
    }) ∷ [])) ∷ []) (ThenStmt (Prefixed 91 ((record
    { at = 87; region = (Rexpr [] (NamedRegion (name (codes "R") 88)) NoPost); mask = None }) ∷ [])
    (Assign (name (codes "B") 91) None (Pair 96 op.Add (Around 96 (name (codes "A") 96) (NamedDir
    (name (codes "d") 99))) (Around 103 (name (codes "A") 103) (NamedDir (name (codes "far")
    106)))))) (ThenStmt (Prefixed 115 ((record {
      at = 111;
      region = (Rexpr [] (NamedRegion (name
          (codes "R") 112)) NoPost);
      mask = None;
    }) ∷ []) (Assign (name (codes "B") 115) None (Around 120
    (name (codes "A") 120) (Vector (ThenExpr (Neg 124 (Number 125 (pos 2))) NoExpr))))) NoStmt)))
    []) ≡ ((Gives (region_over ((all_from (pos 1) (pos 6)) ∷ []))) ∷ (Gives (region_over ((all_from
    (neg_ℤ (pos 2)) (pos 4)) ∷ []))) ∷ (Gives (region_over ((all_from (neg_ℤ (pos 1)) (pos 4)) ∷
    []))) ∷ [])
unfolding int_wrap longest_chain
a_copy = refl

-- region R = [1..4]; direction d = [2]; e = [-1]; var A, B : [R] integer; C : [1..9] integer;
-- procedure u(a : [R] integer); var l : [1..2] integer; begin [R] a := a@^d; [R] l := l@^d; end;
-- S: u(A); u(C);
a_copy_through_a_parameter : copies_of (declared ((Regions ((record {
  name = (name (codes "R") 7);
  body = (Dims (ThenDim (Span (Number 12 (pos 1)) (Number 15 (pos 4))) NoDim));
  posts = NoPost;
})
    ∷ [])) ∷ (Directions ((record {
      name = (name (codes "d") 29);
      parts = (ThenExpr (Number 34 (pos
          2)) NoExpr);
    }) ∷ (record {
      name = (name (codes "e") 38);
      parts = (ThenExpr (Neg 43 (Number 44
          (pos 1))) NoExpr);
    }) ∷ [])) ∷ (Vars ((record {
      names = ((name (codes "A") 52) ∷ (name (codes
          "B") 55) ∷ []);
      shape = (Bracketed (Rexpr [] (NamedRegion (name (codes "R") 60)) NoPost));
      base
          = Integer;
    }) ∷ (record {
      names = ((name (codes "C") 72) ∷ []);
      shape = (Bracketed (Dims (ThenDim
          (Span (Number 77 (pos 1)) (Number 80 (pos 9))) NoDim)));
      base = Integer;
    }) ∷ [])) ∷ (Defined
    (record {
      name = (name (codes "u") 102);
      params = ((record {
        by_ref = false;
        names = ((name
            (codes "a") 104) ∷ []);
        shape = (Bracketed (Rexpr [] (NamedRegion (name (codes "R") 109))
            NoPost));
        base = Integer;
      }) ∷ []);
      result = None;
      locals = ((record {
        names = ((name (codes "l")
            126) ∷ []);
        shape = (Bracketed (Dims (ThenDim (Span (Number 131 (pos 1)) (Number 134 (pos 2)))
            NoDim)));
        base = Integer;
      }) ∷ []);
      body = (Prefixed 146 [] (Block (ThenStmt (Prefixed 156
          ((record {
            at = 152;
            region = (Rexpr [] (NamedRegion (name (codes "R") 153)) NoPost);
            mask =
                None;
          }) ∷ []) (Assign (name (codes "a") 156) None (Around 161 (name (codes "a") 161) (NamedDir
          (name (codes "d") 164))))) (ThenStmt (Prefixed 171 ((record {
            at = 167;
            region = (Rexpr []
                (NamedRegion (name (codes "R") 168)) NoPost);
            mask = None;
          }) ∷ []) (Assign (name (codes "l")
          171) None (Around 176 (name (codes "l") 176) (NamedDir (name (codes "d") 179))))) NoStmt))));
    }))
    ∷ []) (ThenStmt (Prefixed 190 [] (Invoke (name (codes "u") 190) (ThenExpr (Named 192 (name
    (codes "A") 192)) NoExpr))) (ThenStmt (Prefixed 196 [] (Invoke (name (codes "u") 196) (ThenExpr
    (Named 198 (name (codes "C") 198)) NoExpr))) NoStmt))) (known_of (declared ((Regions ((record {
      name = (name (codes "R") 7);
      body = (Dims (ThenDim (Span (Number 12 (pos 1)) (Number 15 (pos
          4))) NoDim));
      posts = NoPost;
    }) ∷ [])) ∷ (Directions ((record {
      name = (name (codes "d") 29);
      parts = (ThenExpr (Number 34 (pos 2)) NoExpr);
    }) ∷ (record {
      name = (name (codes "e") 38);
      parts
          = (ThenExpr (Neg 43 (Number 44 (pos 1))) NoExpr);
    }) ∷ [])) ∷ (Vars ((record {
      names = ((name
          (codes "A") 52) ∷ (name (codes "B") 55) ∷ []);
      shape = (Bracketed (Rexpr [] (NamedRegion (name
          (codes "R") 60)) NoPost));
      base = Integer;
    }) ∷ (record {
      names = ((name (codes "C") 72) ∷ []);
      shape = (Bracketed (Dims (ThenDim (Span (Number 77 (pos 1)) (Number 80 (pos 9))) NoDim)));
      base
          = Integer;
    }) ∷ [])) ∷ (Defined (record {
      name = (name (codes "u") 102);
      params = ((record {
        by_ref = false;
        names = ((name (codes "a") 104) ∷ []);
        shape = (Bracketed (Rexpr [] (NamedRegion
            (name (codes "R") 109)) NoPost));
        base = Integer;
      }) ∷ []);
      result = None;
      locals = ((record {
        names = ((name (codes "l") 126) ∷ []);
        shape = (Bracketed (Dims (ThenDim (Span (Number 131 (pos
            1)) (Number 134 (pos 2))) NoDim)));
        base = Integer;
      }) ∷ []);
      body = (Prefixed 146 [] (Block
          (ThenStmt (Prefixed 156 ((record {
            at = 152;
            region = (Rexpr [] (NamedRegion (name (codes "R")
                153)) NoPost);
            mask = None;
          }) ∷ []) (Assign (name (codes "a") 156) None (Around 161 (name (codes
          "a") 161) (NamedDir (name (codes "d") 164))))) (ThenStmt (Prefixed 171 ((record {
            at = 167;
            region = (Rexpr [] (NamedRegion (name (codes "R") 168)) NoPost);
            mask = None;
          }) ∷ []) (Assign
          (name (codes "l") 171) None (Around 176 (name (codes "l") 176) (NamedDir (name (codes "d")
          179))))) NoStmt))));
    })) ∷ []) (ThenStmt (Prefixed 190 [] (Invoke (name (codes "u") 190)
    (ThenExpr (Named 192 (name (codes "A") 192)) NoExpr))) (ThenStmt (Prefixed 196 [] (Invoke (name
    (codes "u") 196) (ThenExpr (Named 198 (name (codes "C") 198)) NoExpr))) NoStmt))) []) ≡ ((Gives
    (region_over ((all_from (pos 1) (pos 6)) ∷ []))) ∷ (Gives (region_over ((all_from (pos 1) (pos
    2)) ∷ []))) ∷ (Gives (region_over ((all_from (pos 1) (pos 11)) ∷ []))) ∷ (Gives (region_over
    ((all_from (pos 1) (pos 2)) ∷ []))) ∷ [])
unfolding int_wrap longest_chain
a_copy_through_a_parameter = refl

-- region R = [1..0]; var A : [R] integer; S: [R] A := A@^[3];
a_copy_of_no_tuples : copies_of (declared ((Regions ((record {
  name = (name (codes "R") 7);
  body =
      (Dims (ThenDim (Span (Number 12 (pos 1)) (Number 15 (pos 0))) NoDim));
  posts = NoPost;
}) ∷ []))
    ∷ (Vars ((record {
      names = ((name (codes "A") 23) ∷ []);
      shape = (Bracketed (Rexpr []
          (NamedRegion (name (codes "R") 28)) NoPost));
      base = Integer;
    }) ∷ [])) ∷ []) (ThenStmt (Prefixed
    47 ((record {
      at = 43;
      region = (Rexpr [] (NamedRegion (name (codes "R") 44)) NoPost);
      mask =
          None;
    }) ∷ []) (Assign (name (codes "A") 47) None (Around 52 (name (codes "A") 52) (Vector
    (ThenExpr (Number 56 (pos 3)) NoExpr))))) NoStmt)) (known_of (declared ((Regions ((record {
      name
          = (name (codes "R") 7);
      body = (Dims (ThenDim (Span (Number 12 (pos 1)) (Number 15 (pos 0)))
          NoDim));
      posts = NoPost;
    }) ∷ [])) ∷ (Vars ((record {
      names = ((name (codes "A") 23) ∷ []);
      shape
          = (Bracketed (Rexpr [] (NamedRegion (name (codes "R") 28)) NoPost));
      base = Integer;
    }) ∷ [])) ∷
    []) (ThenStmt (Prefixed 47 ((record {
      at = 43;
      region = (Rexpr [] (NamedRegion (name (codes "R")
          44)) NoPost);
      mask = None;
    }) ∷ []) (Assign (name (codes "A") 47) None (Around 52 (name (codes
    "A") 52) (Vector (ThenExpr (Number 56 (pos 3)) NoExpr))))) NoStmt)) []) ≡ ((Gives (region_over
    ((all_from (pos 1) (pos 0)) ∷ []))) ∷ [])
unfolding int_wrap longest_chain
a_copy_of_no_tuples = refl

-- region R = [1..4194304]; var A : [R] integer; S: [R] A := A@^[1];
a_copy_past_the_limit : copies_of (declared ((Regions ((record {
  name = (name (codes "R") 7);
  body =
      (Dims (ThenDim (Span (Number 12 (pos 1)) (Number 15 (pos 4194304))) NoDim));
  posts = NoPost;
}) ∷
    [])) ∷ (Vars ((record {
      names = ((name (codes "A") 29) ∷ []);
      shape = (Bracketed (Rexpr []
          (NamedRegion (name (codes "R") 34)) NoPost));
      base = Integer;
    }) ∷ [])) ∷ []) (ThenStmt (Prefixed
    53 ((record {
      at = 49;
      region = (Rexpr [] (NamedRegion (name (codes "R") 50)) NoPost);
      mask =
          None;
    }) ∷ []) (Assign (name (codes "A") 53) None (Around 58 (name (codes "A") 58) (Vector
    (ThenExpr (Number 62 (pos 1)) NoExpr))))) NoStmt)) (known_of (declared ((Regions ((record {
      name
          = (name (codes "R") 7);
      body = (Dims (ThenDim (Span (Number 12 (pos 1)) (Number 15 (pos
          4194304))) NoDim));
      posts = NoPost;
    }) ∷ [])) ∷ (Vars ((record {
      names = ((name (codes "A") 29) ∷
          []);
      shape = (Bracketed (Rexpr [] (NamedRegion (name (codes "R") 34)) NoPost));
      base = Integer;
    }) ∷ [])) ∷ []) (ThenStmt (Prefixed 53 ((record {
      at = 49;
      region = (Rexpr [] (NamedRegion (name
          (codes "R") 50)) NoPost);
      mask = None;
    }) ∷ []) (Assign (name (codes "A") 53) None (Around 58
    (name (codes "A") 58) (Vector (ThenExpr (Number 62 (pos 1)) NoExpr))))) NoStmt)) []) ≡ ((Fails
    RegionLimit) ∷ [])
unfolding int_wrap longest_chain
a_copy_past_the_limit = refl

-- region R = [1..4194304]; var A : [R] integer; S: [R] A := A@^[1];
but_no_storage : faults_of (declared ((Regions ((record {
  name = (name (codes "R") 7);
  body = (Dims
      (ThenDim (Span (Number 12 (pos 1)) (Number 15 (pos 4194304))) NoDim));
  posts = NoPost;
}) ∷ []))
    ∷ (Vars ((record {
      names = ((name (codes "A") 29) ∷ []);
      shape = (Bracketed (Rexpr []
          (NamedRegion (name (codes "R") 34)) NoPost));
      base = Integer;
    }) ∷ [])) ∷ []) (ThenStmt (Prefixed
    53 ((record {
      at = 49;
      region = (Rexpr [] (NamedRegion (name (codes "R") 50)) NoPost);
      mask =
          None;
    }) ∷ []) (Assign (name (codes "A") 53) None (Around 58 (name (codes "A") 58) (Vector
    (ThenExpr (Number 62 (pos 1)) NoExpr))))) NoStmt)) [] ≡ []
unfolding int_wrap
but_no_storage = refl

-- region R = [1..4]; Q = [1..4194304]; var A : [R] integer; B : [Q] integer; procedure v(c : [R]
-- integer); begin [R] c := c@^[1]; end; procedure u(var a, b : [R] integer); begin v(b); end; S:
-- u(A, B);
past_the_limit_through_a_parameter : copies_of (declared ((Regions ((record {
  name = (name (codes
      "R") 7);
  body = (Dims (ThenDim (Span (Number 12 (pos 1)) (Number 15 (pos 4))) NoDim));
  posts =
      NoPost;
}) ∷ (record {
  name = (name (codes "Q") 19);
  body = (Dims (ThenDim (Span (Number 24 (pos
      1)) (Number 27 (pos 4194304))) NoDim));
  posts = NoPost;
}) ∷ [])) ∷ (Vars ((record {
  names =
      ((name (codes "A") 41) ∷ []);
  shape = (Bracketed (Rexpr [] (NamedRegion (name (codes "R") 46))
      NoPost));
  base = Integer;
}) ∷ (record {
  names = ((name (codes "B") 58) ∷ []);
  shape = (Bracketed
      (Rexpr [] (NamedRegion (name (codes "Q") 63)) NoPost));
  base = Integer;
}) ∷ [])) ∷ (Defined
    (record {
      name = (name (codes "v") 85);
      params = ((record {
        by_ref = false;
        names = ((name
            (codes "c") 87) ∷ []);
        shape = (Bracketed (Rexpr [] (NamedRegion (name (codes "R") 92))
            NoPost));
        base = Integer;
      }) ∷ []);
      result = None;
      locals = [];
      body = (Prefixed 105 [] (Block
          (ThenStmt (Prefixed 115 ((record {
            at = 111;
            region = (Rexpr [] (NamedRegion (name (codes "R")
                112)) NoPost);
            mask = None;
          }) ∷ []) (Assign (name (codes "c") 115) None (Around 120 (name (codes
          "c") 120) (Vector (ThenExpr (Number 124 (pos 1)) NoExpr))))) NoStmt)));
    })) ∷ (Defined (record {
      name = (name (codes "u") 143);
      params = ((record {
        by_ref = true;
        names = ((name (codes "a")
            149) ∷ (name (codes "b") 152) ∷ []);
        shape = (Bracketed (Rexpr [] (NamedRegion (name (codes "R")
            157)) NoPost));
        base = Integer;
      }) ∷ []);
      result = None;
      locals = [];
      body = (Prefixed 170 []
          (Block (ThenStmt (Prefixed 176 [] (Invoke (name (codes "v") 176) (ThenExpr (Named 178 (name
          (codes "b") 178)) NoExpr))) NoStmt)));
    })) ∷ []) (ThenStmt (Prefixed 190 [] (Invoke (name (codes
    "u") 190) (ThenExpr (Named 192 (name (codes "A") 192)) (ThenExpr (Named 195 (name (codes "B")
    195)) NoExpr)))) NoStmt)) (known_of (declared ((Regions ((record {
      name = (name (codes "R") 7);
      body = (Dims (ThenDim (Span (Number 12 (pos 1)) (Number 15 (pos 4))) NoDim));
      posts = NoPost;
    })
    ∷ (record {
      name = (name (codes "Q") 19);
      body = (Dims (ThenDim (Span (Number 24 (pos 1))
          (Number 27 (pos 4194304))) NoDim));
      posts = NoPost;
    }) ∷ [])) ∷ (Vars ((record {
      names = ((name
          (codes "A") 41) ∷ []);
      shape = (Bracketed (Rexpr [] (NamedRegion (name (codes "R") 46))
          NoPost));
      base = Integer;
    }) ∷ (record {
      names = ((name (codes "B") 58) ∷ []);
      shape = (Bracketed
          (Rexpr [] (NamedRegion (name (codes "Q") 63)) NoPost));
      base = Integer;
    }) ∷ [])) ∷ (Defined
    (record {
      name = (name (codes "v") 85);
      params = ((record {
        by_ref = false;
        names = ((name
            (codes "c") 87) ∷ []);
        shape = (Bracketed (Rexpr [] (NamedRegion (name (codes "R") 92))
            NoPost));
        base = Integer;
      }) ∷ []);
      result = None;
      locals = [];
      body = (Prefixed 105 [] (Block
          (ThenStmt (Prefixed 115 ((record {
            at = 111;
            region = (Rexpr [] (NamedRegion (name (codes "R")
                112)) NoPost);
            mask = None;
          }) ∷ []) (Assign (name (codes "c") 115) None (Around 120 (name (codes
          "c") 120) (Vector (ThenExpr (Number 124 (pos 1)) NoExpr))))) NoStmt)));
    })) ∷ (Defined (record {
      name = (name (codes "u") 143);
      params = ((record {
        by_ref = true;
        names = ((name (codes "a")
            149) ∷ (name (codes "b") 152) ∷ []);
        shape = (Bracketed (Rexpr [] (NamedRegion (name (codes "R")
            157)) NoPost));
        base = Integer;
      }) ∷ []);
      result = None;
      locals = [];
      body = (Prefixed 170 []
          (Block (ThenStmt (Prefixed 176 [] (Invoke (name (codes "v") 176) (ThenExpr (Named 178 (name
          (codes "b") 178)) NoExpr))) NoStmt)));
    })) ∷ []) (ThenStmt (Prefixed 190 [] (Invoke (name (codes
    "u") 190) (ThenExpr (Named 192 (name (codes "A") 192)) (ThenExpr (Named 195 (name (codes "B")
    195)) NoExpr)))) NoStmt)) []) ≡ ((Fails RegionLimit) ∷ [])
unfolding int_wrap longest_chain
past_the_limit_through_a_parameter = refl
