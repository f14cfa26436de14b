-- What fits at some rank.
use Rattle.std.proofs.Common.{◌≡◌, ℕ, zero, suc, ◌≤◌, List, refl, sym, subst, arith}
use Rattle.std.specs.Prelude.{All}
use Rattle.node_form.specs.declared.words.ExprOp.{ExprOp}
use Rattle.node_form.specs.declared.members.Member.{Member}
use Rattle.node_form.specs.declared.tables.Tables.{Tables}
use Rattle.node_form.specs.Expression.{IsExpression}
use Rattle.node_form.specs.Nest.{IsNest}
use Rattle.node_form.specs.Fits.{IsRank, FitsWord, FitsExpr, FitsMember, FitsGroup}

-- a rank that is neither 1 nor 2 is 3
pub at_three : (P : ℕ → Type 0) → (P 1 → ⊥) → (P 2 → ⊥) → (rank : ℕ) → IsRank rank → P rank → P 3
at_three P not_one not_two zero is holds = let low = is.0 in absurd (omega arith)
at_three P not_one not_two (suc zero) is holds = absurd (not_one holds)
at_three P not_one not_two (suc (suc zero)) is holds = absurd (not_two holds)
at_three P not_one not_two (suc (suc (suc rank))) is holds = let high = is.1 in let e : suc (suc (suc rank)) ≡ 3 = omega arith in subst P e holds

pub expr_at : (tables : Tables) (words : List ExprOp) (rank : ℕ) → IsExpression words → IsRank rank → All (FitsWord tables rank) words → FitsExpr tables words
expr_at tables words rank stack is fit = record { stack = stack; rank = rank; is_rank = is; fit = fit }

pub group_at : (tables : Tables) (members : List Member) (rank : ℕ) → IsNest members → IsRank rank → All (FitsMember tables rank) members → FitsGroup tables members
group_at tables members rank nest is fit = record { nest = nest; rank = rank; is_rank = is; fit = fit }
