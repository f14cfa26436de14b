-- What a rule of the grammar makes of the lexemes that are left.
use Rattle.std.specs.Prelude.{Bool, true, false, List}
use Rattle.zpl_grammar.specs.Lexeme.{Lexeme, behind}

-- A tree and what is left behind it; or the lexemes from the one on that can't stand where it does;
-- or those behind the
-- ones with which a tree gets too deep.
pub data Outcome (A : Type 0) : Type 0 where
  Done : (tree : A) (rest : List Lexeme) → Outcome A
  Wrong : (rest : List Lexeme) → Outcome A
  Deep : (rest : List Lexeme) → Outcome A

abbrev pub Reader : Type 0 → Type 0
Reader A = List Lexeme → Outcome A

-- one rule, and then another with what the first one made
abbrev pub and_then : {A B : Type 0} → Outcome A → (A → Reader B) → Outcome B
and_then (Done tree rest) next = next tree rest
and_then (Wrong rest) next = Wrong rest
and_then (Deep rest) next = Deep rest

-- the same outcome with another tree
abbrev pub made : {A B : Type 0} → (A → B) → Outcome A → Outcome B
made f (Done tree rest) = Done (f tree) rest
made f (Wrong rest) = Wrong rest
made f (Deep rest) = Deep rest

-- where no deeper tree may stand: too deep behind a lexeme that would begin one, and wrong before
-- any other
abbrev pub too_deep : {A : Type 0} → Bool → Reader A
too_deep true lexemes = Deep (behind lexemes)
too_deep false lexemes = Wrong lexemes
