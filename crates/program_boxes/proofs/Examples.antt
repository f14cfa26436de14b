-- Of a small text, computed: the stored arrays of its tables are the program's. The procedure that
-- is
-- called twice has an array and a copy each time, and reads the global array with a shift.
--
--   program t; region R = [1..4]; direction e = [1]; var A : [R] integer;
--   procedure f(P : [R] integer); begin [R] P := P@^e + A@e; end;
--   procedure t(); begin f(A); f(A); end;
use Rattle.std.proofs.Common.{◌≡◌, ℕ, false, List, [], ◌∷◌, None, pos, codes, length, refl}
use Rattle.std.specs.Fmt.{digits}
use Rattle.std.specs.Int.{int_wrap}
use Rattle.zpl_nums.specs.declared.operators.Op.TheVariants as op
use Rattle.zpl_tree.specs.Syntax.{Name, NamedRegion, Number, Named, Shifted, Around, Pair, NoExpr, ThenExpr, NamedDir, Rexpr, Dims, Bracketed, NoPost, Span, NoDim, ThenDim, Prefixed, NoStmt, ThenStmt, Assign, Invoke, Block, Integer, Regions, Directions, Vars, Defined, Program}
use Rattle.zpl_names.specs.Expansion.{expanded_arrays, expanded_copies}
use Rattle.zpl_names.specs.Reached.{longest_chain}
use Rattle.zpl_binding.specs.Declarations.{known_of}
use Rattle.grid_meaning.specs.Stored.{arrangement_of}
use Rattle.zpl_lowering.specs.Program.{lowered_program}
use Rattle.zpl_lowering.specs.Tables.{flat_tables}
use Rattle.zpl_claims.specs.Boxes.{boxes_of}
use Rattle.program_boxes.specs.Own.{copied_of, number_in, storages_of}

abbrev name : List ℕ → ℕ → Name
name text at = record { text = text; at = at }

abbrev example : Program
example = record {
  name = name (codes "t") 8;
  decls = Regions (record {
    name = name (codes "R") 18;
    body = Dims (ThenDim (Span (Number 23 (pos 1)) (Number 26 (pos 4))) NoDim);
    posts = NoPost;
  } ∷ []) ∷ Directions (record {
    name = name (codes "e") 40;
    parts = ThenExpr (Number 45 (pos 1)) NoExpr;
  } ∷ []) ∷ Vars (record {
    names = name (codes "A") 53 ∷ [];
    shape = Bracketed (Rexpr [] (NamedRegion (name (codes "R") 58)) NoPost);
    base = Integer;
  } ∷ []) ∷ Defined (record {
    name = name (codes "f") 80;
    params = record {
      by_ref = false;
      names = name (codes "P") 82 ∷ [];
      shape = Bracketed (Rexpr [] (NamedRegion (name (codes "R") 87)) NoPost);
      base = Integer;
    } ∷ [];
    result = None;
    locals = [];
    body = Prefixed 100 [] (Block (ThenStmt (Prefixed 110 (record {
      at = 106;
      region = Rexpr [] (NamedRegion (name (codes "R") 107)) NoPost;
      mask = None;
    } ∷ []) (Assign (name (codes "P") 110) None (Pair 115 op.Add
        (Around 115 (name (codes "P") 115) (NamedDir (name (codes "e") 118)))
        (Shifted 122 (name (codes "A") 122) (NamedDir (name (codes "e") 124)))))) NoStmt));
  }) ∷ Defined (record {
    name = name (codes "t") 142;
    params = [];
    result = None;
    locals = [];
    body = Prefixed 147 [] (Block
        (ThenStmt (Prefixed 153 []
        (Invoke (name (codes "f") 153) (ThenExpr (Named 155 (name (codes "A") 155)) NoExpr)))
        (ThenStmt (Prefixed 159 []
        (Invoke (name (codes "f") 159) (ThenExpr (Named 161 (name (codes "A") 161)) NoExpr)))
        NoStmt)));
  }) ∷ [];
  source = [];
}

three_arrays : length (expanded_arrays example) ≡ 3
unfolding longest_chain
three_arrays = refl

two_copies : length (expanded_copies example) ≡ 2
unfolding longest_chain
two_copies = refl

arrays_stored : (lowered_program example []).arrays ≡
    storages_of example (known_of example []) (number_in (expanded_arrays example))
    (expanded_arrays example)
unfolding longest_chain int_wrap digits
arrays_stored = refl

copies_stored : (lowered_program example []).later ≡
    copied_of example (known_of example []) (number_in (expanded_arrays example))
    (expanded_copies example)
unfolding longest_chain int_wrap digits
copies_stored = refl

boxes_stored : (arrangement_of (flat_tables example [])).boxes ≡
    boxes_of example (known_of example [])
unfolding longest_chain int_wrap digits
boxes_stored = refl
