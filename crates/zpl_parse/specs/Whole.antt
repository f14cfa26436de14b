-- The rules for parts of a whole program, in which trees may be as deep as they may be anywhere.
use Rattle.std.specs.Prelude.{ℕ}
use Rattle.zpl_tree.specs.Syntax.{Expr}
pub use Rattle.zpl_tree.specs.View.{else_of}
use Rattle.zpl_parse.specs.Outcome.{Reader}
use Rattle.zpl_parse.specs.Expressions.{levels}

-- an expression that is as deep as it may be
unfoldable pub any_expr : ℕ → Reader Expr
any_expr most = (levels most 200).expr

-- how deep statements may nest in the body of a procedure
unfoldable pub most_nested : ℕ
most_nested = 199
