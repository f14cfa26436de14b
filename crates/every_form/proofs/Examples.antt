-- Operators in one another's operands are of the form; a call in one isn't, nor is a `return` in an
-- `if`, nor a read that wraps round in a shattered statement.
use Rattle.std.proofs.Common.{ℕ, Bool, List, [], None, pos, codes}
use Rattle.zpl_nums.specs.declared.operators.Op.TheVariants as op
use Rattle.zpl_nums.specs.declared.folds.Fold.TheVariants as fold
use Rattle.zpl_tree.specs.Syntax.{Name, Number, Named, Around, Call, Pair, Reduce, Scan, NoExpr, NamedDir, NoBracket, Prefixed, NoStmt, ThenStmt, Return}
use Rattle.zpl_names.specs.Sites.{Reach}
use Rattle.zpl_meaning.specs.Points.{Reads}
use Rattle.shown_texts.specs.Forms.{HasOperatedForm, HasPartForm, HaveForms}

abbrev name : List ℕ → ℕ → Name
name text at = record { text = text; at = at }

-- +<< (A@^e + +|| A)
has_form : HasOperatedForm (Reduce 0 fold.Sum NoBracket (Pair 10 op.Add
    (Around 5 (name (codes "A") 5) (NamedDir (name (codes "e") 8)))
    (Scan 12 fold.Sum None (Named 16 (name (codes "A") 16)))))
has_form = (tt, tt)

-- 1 + f()
call_in_sum : ¬ HasOperatedForm (Pair 2 op.Add (Number 0 (pos 1))
    (Call 4 (name (codes "f") 4) NoExpr))
call_in_sum form = form.1

-- return 1, in the body of an `if`
return_in_if : (IsCallable : Bool → List ℕ → Type 0) (reach : Reach) → ¬ HaveForms IsCallable reach
    (ThenStmt (Prefixed 0 [] (Return (Number 7 (pos 1)))) NoStmt)
return_in_if IsCallable reach forms = forms.0

-- B@^e, where it is read in a shattered statement
wrap_in_shattered : ¬ HasPartForm (Reads (Around 0 (name (codes "B") 0)
    (NamedDir (name (codes "e") 3))))
wrap_in_shattered form = form
