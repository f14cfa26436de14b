-- What a function of the parser promises: its answer is what a rule makes of the tokens.
use Rattle.std.specs.Prelude.{ℕ, List, Result}
use Rattle.std.specs.Borrow.{Bor}
use Rattle.zpl_text.specs.declared.tokens.Token.{Token}
use Rattle.zpl_tree.specs.Syntax.{Stmts}
use Rattle.zpl_parse.specs.declared.faults.ParseFault.{ParseFault}
use Rattle.zpl_parse.specs.Following.{Follows}
use Rattle.zpl_grammar.specs.Lexeme.{lexemes_of}
use Rattle.zpl_parse.specs.Outcome.{Done, Reader}
use Rattle.zpl_parse.specs.Statements.{stmts, stmt}
use Rattle.zpl_parse.specs.Whole.{any_expr}

-- what a function of the parser answers: a value and the tokens behind it, or a fault
abbrev pub Answer : Type 0 → Type 0
Answer V = Result (V × Bor (List Token)) ParseFault

-- the same with the depth of what was read
abbrev pub AnswerDeep : Type 0 → Type 0
AnswerDeep V = Result (V × ℕ × Bor (List Token)) ParseFault

-- The answer is what the rule makes of the tokens of the text, where `tree_of` tells which tree a
-- value is.
abbrev pub IsRead : {V A : Type 0} → Answer V → Reader A → (V → A) → List ℕ → List Token → Type 0
IsRead answer rule tree_of text tokens =
    Follows answer (λ read. Done (tree_of read.0) (lexemes_of text read.1.now))
    (rule (lexemes_of text tokens))

-- The same of an answer that tells how deep the tree is.
abbrev pub IsReadDeep : {V A : Type 0} → AnswerDeep V → Reader A → (V → A) → List ℕ → List Token
    → Type 0
IsReadDeep answer rule tree_of text tokens =
    Follows answer (λ read. Done (tree_of read.0) (lexemes_of text read.2.now))
    (rule (lexemes_of text tokens))

-- the rule of statements that nest at most so deep
abbrev pub nested : ℕ → ℕ → ℕ → Reader Stmts
nested few most deep = stmts few (stmt few (any_expr most) deep)
