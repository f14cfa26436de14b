-- Trees of small programs for the examples, and all faults that one has. Offsets count from the
-- beginning of the text that stands above an example.
use Rattle.std.proofs.Common.{ℕ, zero, suc, ◌++◌, Bool, true, false, ◌||◌, List, [], ◌∷◌, None, pos, codes}
use Rattle.std.specs.Prelude.{flat_map}
use Rattle.std.specs.List.{list_any}
use Rattle.std.specs.Str.{bytes_eq}
use Rattle.zpl_tree.specs.Syntax.{Name, Number, Truth, NoExpr, ThenExpr, NamedRegion, Rexpr, Dims, NoBracket, Bracketed, NoPost, Star, Span, NoDim, ThenDim, Prefixed, Stmts, Block, Integer, Boolean, Decl, Config, Constant, Regions, Directions, Vars, Defined, Program}
use Rattle.zpl_names.specs.Shapes.{Shapes, no_shapes}
use Rattle.zpl_names.specs.Sites.{Site}
use Rattle.zpl_names.specs.Declared.{routines_of}
use Rattle.zpl_names.specs.Faults as fault
use Rattle.zpl_names.specs.Reached.{sites_at, calls_at, calls_in}
use Rattle.zpl_names.specs.Accepted.{FaultKind, UnknownName, TwiceNamed, UnknownType, TypeClash, RankClash, NoRegion, FloodClash, ShatterBody, NotAssignable, Arguments, Recursion, ReturnPlace, CallPlace, MaskPlace, BorderForm, NoEntry, RankUnknown, in_text, names_twice, no_entry, tagged}

abbrev pub name : List ℕ → ℕ → Name
name text at = record { text = text; at = at }

-- the program t with these declarations, and these statements in its entry procedure
abbrev pub declared : List Decl → Stmts → Program
declared decls body = record {
  name = name (codes "t") 0;
  decls =
      decls ++
      Defined
      (record {
        name = name (codes "t") 0;
        params = [];
        result = None;
        locals = [];
        body =
            Prefixed 0 [] (Block body);
      }) ∷ [];
  source = [];
}

-- config var n : integer = 4; constant c : integer = 2; cb : boolean = true; region R = [1..4]; Q
-- = [1..3, 1..4]; F = [1..3, *]; G1 = [*]; T3 = [1..2, 1..2, 1..2]; direction e = [1]; se = [1,
-- 1]; var A, B : [R] integer; P : [R] boolean; M, N : [Q] integer; L : [Q] boolean; G : [F]
-- integer; H : [G1] integer; V : [T3] integer; x, y, i : integer; p, q : boolean;
abbrev pub shared : List Decl
shared = ((Config ((record {
  name = (name (codes "n") 0);
  base = Integer;
  value = (Number 25 (pos
      4));
}) ∷ [])) ∷ (Constant ((record {
  name = (name (codes "c") 0);
  base = Integer;
  value =
      (Number 51 (pos 2));
}) ∷ (record {
  name = (name (codes "cb") 0);
  base = Boolean;
  value = (Truth
      69 true);
}) ∷ [])) ∷ (Regions ((record {
  name = (name (codes "R") 0);
  body = (Dims (ThenDim
      (Span (Number 87 (pos 1)) (Number 90 (pos 4))) NoDim));
  posts = NoPost;
}) ∷ (record {
  name =
      (name (codes "Q") 0);
  body = (Dims (ThenDim (Span (Number 99 (pos 1)) (Number 102 (pos 3)))
      (ThenDim (Span (Number 105 (pos 1)) (Number 108 (pos 4))) NoDim)));
  posts = NoPost;
}) ∷ (record {
  name = (name (codes "F") 0);
  body = (Dims (ThenDim (Span (Number 117 (pos 1)) (Number 120 (pos
      3))) (ThenDim (Star 123) NoDim)));
  posts = NoPost;
}) ∷ (record {
  name = (name (codes "G1") 0);
  body = (Dims (ThenDim (Star 133) NoDim));
  posts = NoPost;
}) ∷ (record {
  name = (name (codes
      "T3") 0);
  body = (Dims (ThenDim (Span (Number 143 (pos 1)) (Number 146 (pos 2))) (ThenDim (Span
      (Number 149 (pos 1)) (Number 152 (pos 2)))
      (ThenDim (Span (Number 155 (pos 1)) (Number 158 (pos
      2))) NoDim))));
  posts = NoPost;
}) ∷ [])) ∷ (Directions ((record {
  name = (name (codes "e") 0);
  parts = (ThenExpr (Number 177 (pos 1)) NoExpr);
}) ∷ (record {
  name = (name (codes "se") 0);
  parts = (ThenExpr (Number 187 (pos 1)) (ThenExpr (Number 190 (pos 1)) NoExpr));
}) ∷ [])) ∷ (Vars
    ((record {
      names = ((name (codes "A") 0) ∷ (name (codes "B") 0) ∷ []);
      shape = (Bracketed (Rexpr
          [] (NamedRegion (name (codes "R") 0)) NoPost));
      base = Integer;
    }) ∷ (record {
      names = ((name
          (codes "P") 0) ∷ []);
      shape = (Bracketed (Rexpr [] (NamedRegion (name (codes "R") 0)) NoPost));
      base = Boolean;
    }) ∷ (record {
      names = ((name (codes "M") 0) ∷ (name (codes "N") 0) ∷ []);
      shape
          = (Bracketed (Rexpr [] (NamedRegion (name (codes "Q") 0)) NoPost));
      base = Integer;
    }) ∷ (record {
      names = ((name (codes "L") 0) ∷ []);
      shape = (Bracketed (Rexpr [] (NamedRegion (name (codes
          "Q") 0)) NoPost));
      base = Boolean;
    }) ∷ (record {
      names = ((name (codes "G") 0) ∷ []);
      shape =
          (Bracketed (Rexpr [] (NamedRegion (name (codes "F") 0)) NoPost));
      base = Integer;
    }) ∷ (record {
      names = ((name (codes "H") 0) ∷ []);
      shape = (Bracketed (Rexpr [] (NamedRegion (name (codes
          "G1") 0)) NoPost));
      base = Integer;
    }) ∷ (record {
      names = ((name (codes "V") 0) ∷ []);
      shape =
          (Bracketed (Rexpr [] (NamedRegion (name (codes "T3") 0)) NoPost));
      base = Integer;
    }) ∷ (record {
      names = ((name (codes "x") 0) ∷ (name (codes "y") 0) ∷ (name (codes "i") 0) ∷ []);
      shape =
          NoBracket;
      base = Integer;
    }) ∷ (record {
      names = ((name (codes "p") 0) ∷ (name (codes "q") 0) ∷
          []);
      shape = NoBracket;
      base = Boolean;
    }) ∷ [])) ∷ [])

-- the same with these names before its own declarations
abbrev pub statements : List Decl → Stmts → Program
statements decls body = declared (shared ++ decls) body

-- ---- the faults of a program whose chains of calls have at most five procedures

abbrev pub sites_from : Program → ℕ → List ℕ → Shapes → List Site
sites_from program zero text shapes = []
sites_from program (suc most) text shapes =
    sites_at program text shapes ++
    flat_map (λ call. sites_from program most call.name.text call.shapes)
    (calls_at program text shapes)

abbrev pub reaches : Program → ℕ → List ℕ → List ℕ → Bool
reaches program zero from to = false
reaches program (suc most) from to =
    bytes_eq from to || list_any (λ call. reaches program most call.name.text to)
    (calls_in program from)

abbrev pub recursions_at : Program → List ℕ → List ℕ
recursions_at program text =
    flat_map (λ call. fault.at_if (reaches program 5 call.name.text text) call.name.at)
    (calls_in program text)

abbrev pub recursions : Program → List ℕ
recursions program =
    flat_map (λ routine. recursions_at program routine.procedure.name.text) (routines_of program)

-- each with its places; what the text alone and a chain of calls tell stands there twice
abbrev pub faults_of : Program → List (FaultKind × ℕ)
faults_of program =
    let reached = sites_from program 5 program.name.text no_shapes in
    tagged UnknownName (in_text fault.unknown_names program) ++
    tagged TwiceNamed (names_twice program) ++
    tagged UnknownType (in_text fault.unknown_types program) ++
    tagged TypeClash (in_text fault.type_clashes program) ++
    tagged RankClash (in_text fault.rank_clashes program) ++
    tagged NoRegion (in_text fault.no_regions program ++ flat_map fault.no_regions reached) ++
    tagged FloodClash (flat_map fault.flood_clashes reached) ++
    tagged ShatterBody (in_text fault.shatter_bodies program) ++
    tagged NotAssignable (in_text fault.not_assignable program) ++
    tagged Arguments (in_text fault.arguments program) ++
    tagged Recursion (recursions program) ++
    tagged ReturnPlace (in_text fault.return_places program) ++
    tagged CallPlace (in_text fault.call_places program) ++
    tagged MaskPlace (in_text fault.mask_places program ++ flat_map fault.masked_statements reached)
    ++
    tagged BorderForm (in_text fault.border_forms program) ++
    tagged NoEntry (no_entry program) ++
    tagged RankUnknown (in_text fault.unknown_ranks program)
