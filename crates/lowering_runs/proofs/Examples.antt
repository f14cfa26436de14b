-- What is seen of a state; and a program of scalars.
use Rattle.std.proofs.Common.{◌≡◌, ℕ, true, false, List, [], ◌∷◌, Some, None, pos, codes, refl}
use Rattle.std.proofs.Common.{arith}
use Rattle.zpl_nums.specs.declared.operators.Op.TheVariants as op
use Rattle.zpl_nums.specs.Integer.{IsInteger}
use Rattle.zpl_nums.proofs.IntegerLemmas.{IsInteger-truth}
use Rattle.zpl_tree.specs.Syntax.{Name, Number, Named, Pair, Value, Prefixed, NoStmt, ThenStmt, Assign, Block, While, Write, NoBracket, Integer, Vars, Defined, Program}
use Rattle.zpl_names.specs.Reached.{longest_chain}
use Rattle.lowering_fits.specs.of_zpl_meaning.Store.{Scalar, Fixed, Names}
use Rattle.lowering_fits.specs.of_flat_form.Whole.{Whole}
use Rattle.lowering_runs.specs.Seen.{Spot, At, Answer, numbered, seen_names, seen_store}
use Rattle.lowering_runs.specs.ScalarText.{IsScalarProgram}

-- ---- a procedure that answers stands behind two variables; its parameter is in scalar 5

abbrev state : Whole
state = record {
  scalars = pos 7 ∷ pos 8 ∷ pos 9 ∷ pos 10 ∷ pos 11 ∷ pos 12 ∷ [];
  awaited = None ∷ None ∷ None ∷ None ∷ None ∷ None ∷ [];
  slots = [];
  stores = [];
}

abbrev spots : List Spot
spots = At 0 ∷ At 1 ∷ Answer (pos 0) ∷ At 5 ∷ []

store_is_seen : seen_store spots [] state
    ≡ record { scalars = pos 7 ∷ pos 8 ∷ pos 0 ∷ pos 12 ∷ []; arrays = [] }
store_is_seen = refl

numbers_are_seen : numbered spots ≡ 0 ∷ 1 ∷ 5 ∷ []
numbers_are_seen = refl

abbrev names : Names
names = (codes "x", Scalar 2) ∷ (codes "b", Scalar 1) ∷ (codes "c", Fixed (pos 4)) ∷ []

-- the parameter is the third scalar of code, and the fourth of the store
names_are_seen : seen_names spots names
    ≡ (codes "x", Scalar 3) ∷ (codes "b", Scalar 1) ∷ (codes "c", Fixed (pos 4)) ∷ []
names_are_seen = refl

-- ---- a program of scalars

abbrev name : List ℕ → ℕ → Name
name text at = record { text = text; at = at }

abbrev example : Program
example = record {
  name = name (codes "t") 8;
  decls = Vars (record { names = name (codes "i") 15 ∷ []; shape = NoBracket; base = Integer } ∷ [])
      ∷ Defined (record {
        name = name (codes "t") 36;
        params = [];
        result = None;
        locals = [];
        body = Prefixed 41 [] (Block
            (ThenStmt (Prefixed 49 [] (Assign (name (codes "i") 49) None (Number 54 (pos 1))))
            (ThenStmt (Prefixed 59 [] (While
            (Pair 65 op.Le (Named 65 (name (codes "i") 65)) (Number 70 (pos 3)))
            (ThenStmt (Prefixed 75 [] (Assign (name (codes "i") 75) (Some op.Add) (Number 80 (pos 2))))
            NoStmt)))
            (ThenStmt (Prefixed 92 [] (Write true (Value (Named 100 (name (codes "i") 100)) ∷ [])))
            NoStmt))));
      }) ∷ [];
  source = codes "program t;\nvar i : integer;\nprocedure t();\nbegin\n  i := 1;\n  while i <= 3 do i += 2; end;\n  writeln(i);\nend;\n";
}

one : IsInteger (pos 1)
one = record { sfits = omega arith }

two : IsInteger (pos 2)
two = record { sfits = omega arith }

three : IsInteger (pos 3)
three = record { sfits = omega arith }

is_of_scalars : IsScalarProgram example []
unfolding longest_chain
is_of_scalars = record {
  decls = ((tt, tt), tt);
  values = λ text. IsInteger-truth false;
  entry = record {
    routine = _;
    named = refl;
    scalar = (
      tt,
      (
        tt,
        (
          (tt, (refl, refl, one)),
          (
            (tt, (refl, (tt, three), ((tt, (refl, refl, (tt, two))), tt))),
            ((tt, (refl, tt, tt)), tt),
          ),
        ),
      ),
    );
  };
}
