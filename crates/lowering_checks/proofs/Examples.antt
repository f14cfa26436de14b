-- Of a small text, computed: a shattered statement that assigns nothing, with an assignment behind
-- it. Its loop puts nothing, so that nothing says which flood dimensions the slot has: the second
-- loop doesn't count as one that may stand wherever the first one does, though the groups could be
-- joined. So a row that sets a scalar stands between them.
--
--   program p; region R = [1..9]; var A, B : [R] integer;
--   procedure p(); [R] begin if A > 0 then end; B := 1; end;
use Rattle.std.proofs.Common.{◌≡◌, ℕ, ℤ, true, false, List, [], ◌∷◌, None, pos, codes, refl}
use Rattle.std.specs.Fmt.{digits}
use Rattle.std.specs.Int.{int_wrap}
use Rattle.zpl_nums.specs.declared.operators.Op.TheVariants as op
use Rattle.zpl_region.specs.declared.dims.Dim.TheVariants as dim
use Rattle.zpl_region.specs.declared.regions.Region.{Region}
use Rattle.zpl_tree.specs.Syntax.{Name, NamedRegion, Number, Named, Pair, Inner, Rexpr, Dims, Bracketed, NoPost, Span, NoDim, ThenDim, Stmt, Prefixed, NoStmt, ThenStmt, Assign, Block, If, Tested, NoArm, ThenArm, NoElse, Integer, Regions, Vars, Defined, Program}
use Rattle.zpl_names.specs.Reached.{longest_chain}
use Rattle.node_form.specs.declared.tables.Tables.{Tables}
use Rattle.node_form.specs.declared.instructions.Instr.TheVariants as instr
use Rattle.code_parts.specs.Fused.{are_joinable}
use Rattle.code_parts.specs.Uses.{members_of}
use Rattle.pass_parts.specs.of_fuse_contract.Fusing.{stands_with}
use Rattle.lowering_fits.specs.of_zpl_lowering.Tables.{flat_tables}

abbrev name : List ℕ → ℕ → Name
name text at = record { text = text; at = at }

abbrev over : ℕ → Inner
over at = Rexpr [] (NamedRegion (name (codes "R") at)) NoPost

abbrev body : Stmt
body =
    Prefixed 72 (record { at = 68; region = over 69; mask = None } ∷ [])
    (Block (ThenStmt (Prefixed 79 [] (If (ThenArm (Tested 79
    (Pair 82 op.Gt (Named 82 (name (codes "A") 82)) (Number 86 (pos 0))) NoStmt) NoArm) NoElse))
    (ThenStmt (Prefixed 99 [] (Assign (name (codes "B") 99) None (Number 104 (pos 1)))) NoStmt)))

abbrev pub example : Program
example = record {
  name = name (codes "p") 8;
  decls = Regions (record {
    name = name (codes "R") 18;
    body = Dims (ThenDim (Span (Number 23 (pos 1)) (Number 26 (pos 9))) NoDim);
    posts = NoPost;
  } ∷ []) ∷ Vars (record {
    names = name (codes "A") 34 ∷ name (codes "B") 37 ∷ [];
    shape = Bracketed (over 42);
    base = Integer;
  } ∷ []) ∷ Defined (record {
    name = name (codes "p") 63;
    params = [];
    result = None;
    locals = [];
    body = body;
  }) ∷ [];
  source = codes "program p; region R = [1..9]; var A, B : [R] integer; procedure p(); [R] begin if A > 0 then end; B := 1; end;";
}

abbrev tables : Tables
tables = flat_tables example []

abbrev home : Region
home = record {
  rank = 1;
  dims = dim.Range (pos 1) (pos 9) (pos 1) (pos 1)
      ∷ dim.Range (pos 0) (pos 0) (pos 1) (pos 0)
      ∷ dim.Range (pos 0) (pos 0) (pos 1) (pos 0) ∷ [];
}

abbrev still : List ℤ
still = pos 0 ∷ pos 0 ∷ pos 0 ∷ []

rows : tables.code
    ≡ instr.Fix 0 home ∷ instr.Need 0 0 still 1 ∷ instr.Loop 0 0 ∷ instr.Set 0 1 1
    ∷ instr.Need 0 1 still 1 ∷ instr.Loop 0 1 ∷ instr.End ∷ []
unfolding longest_chain int_wrap digits
rows = refl

could_be_joined : are_joinable tables 0 1 ≡ true
unfolding longest_chain int_wrap digits
could_be_joined = refl

stays_apart : stands_with tables (members_of tables 0) (members_of tables 1) ≡ false
unfolding longest_chain int_wrap digits
stays_apart = refl
