-- A copy past the limit, found through two parameters; and settings that are accepted.
use Rattle.std.proofs.Common.{◌≡◌, true, false, [], ◌∷◌, None, pos, codes, refl, arith, inr}
use Rattle.zpl_tree.specs.Syntax.{Number, Named, Around, NoExpr, ThenExpr, Dir, Vector, NamedRegion, Rexpr, Dims, Bracketed, NoPost, Span, NoDim, ThenDim, Prefixed, NoStmt, ThenStmt, Assign, Invoke, Block, Integer, Regions, Vars, Defined, Program}
use Rattle.zpl_names.specs.Shapes.{unknown_shapes}
use Rattle.zpl_names.specs.Sites.{CallSite}
use Rattle.zpl_names.specs.Reached.{ByCall, Itself}
use Rattle.zpl_binding.specs.Outcome.{RegionLimit}
use Rattle.zpl_binding.specs.Formals as formals
use Rattle.zpl_binding.specs.Formals.{IsCalled, Parameter, StandsFor}
use Rattle.zpl_binding.specs.Declarations.{known_of}
use Rattle.zpl_binding.specs.Copies.{HasCopyPastLimit}
use Rattle.zpl_binding.specs.Bound.{faults_of, HasBindFault}
use Rattle.zpl_binding.proofs.Trees.{name, declared}

-- region R = [1..4]; Q = [1..4194304]; var A : [R] integer; B : [Q] integer; procedure v(c : [R]
-- integer); begin [R] c := c@^[1]; end; procedure u(var a, b : [R] integer); begin v(b); end; S:
-- u(A, B);
abbrev program : Program
program = (declared ((Regions ((record {
  name = (name (codes "R") 7);
  body = (Dims (ThenDim (Span
      (Number 12 (pos 1)) (Number 15 (pos 4))) NoDim));
  posts = NoPost;
}) ∷ (record {
  name = (name
      (codes "Q") 19);
  body = (Dims (ThenDim (Span (Number 24 (pos 1)) (Number 27 (pos 4194304)))
      NoDim));
  posts = NoPost;
}) ∷ [])) ∷ (Vars ((record {
  names = ((name (codes "A") 41) ∷ []);
  shape
      = (Bracketed (Rexpr [] (NamedRegion (name (codes "R") 46)) NoPost));
  base = Integer;
}) ∷ (record {
  names = ((name (codes "B") 58) ∷ []);
  shape = (Bracketed (Rexpr [] (NamedRegion (name (codes
      "Q") 63)) NoPost));
  base = Integer;
}) ∷ [])) ∷ (Defined (record {
  name = (name (codes "v") 85);
  params = ((record {
    by_ref = false;
    names = ((name (codes "c") 87) ∷ []);
    shape = (Bracketed
        (Rexpr [] (NamedRegion (name (codes "R") 92)) NoPost));
    base = Integer;
  }) ∷ []);
  result = None;
  locals = [];
  body = (Prefixed 105 [] (Block (ThenStmt (Prefixed 115 ((record {
    at = 111;
    region
        = (Rexpr [] (NamedRegion (name (codes "R") 112)) NoPost);
    mask = None;
  }) ∷ []) (Assign (name
      (codes "c") 115) None (Around 120 (name (codes "c") 120) (Vector (ThenExpr (Number 124 (pos 1))
      NoExpr))))) NoStmt)));
})) ∷ (Defined (record {
  name = (name (codes "u") 143);
  params = ((record {
    by_ref = true;
    names = ((name (codes "a") 149) ∷ (name (codes "b") 152) ∷ []);
    shape =
        (Bracketed (Rexpr [] (NamedRegion (name (codes "R") 157)) NoPost));
    base = Integer;
  }) ∷ []);
  result = None;
  locals = [];
  body = (Prefixed 170 [] (Block (ThenStmt (Prefixed 176 [] (Invoke
      (name (codes "v") 176) (ThenExpr (Named 178 (name (codes "b") 178)) NoExpr))) NoStmt)));
})) ∷
    []) (ThenStmt (Prefixed 190 [] (Invoke (name (codes "u") 190) (ThenExpr (Named 192 (name (codes
    "A") 192)) (ThenExpr (Named 195 (name (codes "B") 195)) NoExpr)))) NoStmt))

-- the calls in the entry procedure and in u, and the shift
abbrev call_u : CallSite
call_u = record {
  name = name (codes "u") 190;
  actuals =
      ThenExpr (Named 192 (name (codes "A") 192)) (ThenExpr (Named 195 (name (codes "B") 195)) NoExpr);
  shapes = unknown_shapes;
}

abbrev call_v : CallSite
call_v = record {
  name = name (codes "v") 176;
  actuals = ThenExpr (Named 178 (name (codes "b") 178)) NoExpr;
  shapes = unknown_shapes;
}

abbrev shift : Dir
shift = Vector (ThenExpr (Number 124 (pos 1)) NoExpr)

u_is_called : IsCalled program (codes "u")
u_is_called =
    ByCall (codes "t") (codes "u") call_u (0, omega arith, refl) (Itself (codes "u"))

v_is_called : IsCalled program (codes "v")
v_is_called =
    ByCall (codes "t") (codes "v") call_u (0, omega arith, refl)
    (ByCall (codes "u") (codes "v") call_v (0, omega arith, refl) (Itself (codes "v")))

-- b of u stands for B, and c of v for b of u
b_stands_for_it : StandsFor program (codes "u") (codes "b") 58
b_stands_for_it =
    Parameter (codes "t") call_u (record { formal = codes "b"; actual = codes "B" }) 58
    (Itself (codes "t")) (0, omega arith, refl) (1, omega arith, refl)
    (formals.Itself (codes "t") (codes "B") 58 refl)

c_stands_for_it : StandsFor program (codes "v") (codes "c") 58
c_stands_for_it =
    Parameter (codes "u") call_v (record { formal = codes "c"; actual = codes "b" }) 58 u_is_called
    (0, omega arith, refl) (0, omega arith, refl) b_stands_for_it

copy_past_the_limit : HasCopyPastLimit program (known_of program [])
copy_past_the_limit = record {
  variable = 58;
  shift = shift;
  read = record {
    text = codes "v";
    read = record { array = codes "c"; shift = shift };
    called = v_is_called;
    there = (0, omega arith, refl);
    stands = c_stands_for_it;
    shifted = refl;
  };
  past = refl;
}

-- nothing else is wrong
nothing_else : faults_of program [] ≡ []
nothing_else = refl

limit_is_passed : HasBindFault program [] RegionLimit
limit_is_passed = inr copy_past_the_limit
