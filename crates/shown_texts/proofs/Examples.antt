-- A program of forms that are proved, with small numerals; one whose numeral is too large; and one
-- that has no such form.
use Rattle.std.proofs.Common.{ℕ, ◌^◌, ◌-◌, true, List, [], ◌∷◌, None, pos, codes, refl, arith}
use Rattle.zpl_nums.specs.Integer.{IsInteger}
use Rattle.zpl_nums.specs.declared.operators.Op.TheVariants as op
use Rattle.zpl_nums.specs.declared.folds.Fold.TheVariants as fold
use Rattle.zpl_tree.specs.Syntax.{Name, Expr, Number, Named, Pair, Reduce, NoBracket, Value, Prefixed, NoStmt, ThenStmt, Block, Write, Integer, Constant, Defined, Program}
use Rattle.zpl_names.specs.Reached.{longest_chain}
use Rattle.shown_texts.specs.Numerals.{HasSmallNumerals}
use Rattle.shown_texts.specs.Forms.{HasPlainForm, HasShownForms}

abbrev name : List ℕ → ℕ → Name
name text at = record { text = text; at = at }

-- program t; constant n : integer = value; procedure t(); begin writeln(n + 3); end;
abbrev with_constant : Expr → Program
with_constant value = record {
  name = name (codes "t") 8;
  decls = Constant (record { name = name (codes "n") 20; base = Integer; value = value } ∷ [])
      ∷ Defined (record {
        name = name (codes "t") 49;
        params = [];
        result = None;
        locals = [];
        body = Prefixed 54 [] (Block (ThenStmt (Prefixed 60 [] (Write true (Value
            (Pair 70 op.Add (Named 68 (name (codes "n") 68)) (Number 72 (pos 3))) ∷ []))) NoStmt));
      })
      ∷ [];
  source = [];
}

three : IsInteger (pos 3)
three = record { sfits = omega arith }

largest : IsInteger (pos (2 ^ 63 - 1))
largest = record { sfits = omega arith }

-- n is 2^63 - 1
is_small : HasSmallNumerals (with_constant (Number 34 (pos (2 ^ 63 - 1))))
is_small = ((largest, tt), ((tt, tt, (tt, ((tt, ((tt, three), tt)), tt))), tt))

too_large : ¬ IsInteger (pos (2 ^ 63))
too_large is = omega (arith, is.sfits)

-- n is 2^63
is_large : ¬ HasSmallNumerals (with_constant (Number 34 (pos (2 ^ 63))))
is_large small = too_large small.0.0

-- whatever n is
has_forms : (value : Expr) → HasShownForms (with_constant value)
unfolding longest_chain
has_forms value = record {
  routine = _;
  named = refl;
  form = (((tt, tt), tt), tt);
}

-- +<< n has an operator over regions
no_form : ¬ HasPlainForm (Reduce 0 fold.Sum NoBracket (Named 4 (name (codes "n") 4)))
no_form form = form
