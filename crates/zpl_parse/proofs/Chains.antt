-- Chains of operators: what stands to the left is what the rule has made so far.
use Rattle.std.proofs.Common.{◌≡◌, ℕ, suc, zero, ◌<◌, ◌≤◌, ◌-◌, Bool, true, false, nat_le, List, ◌∷◌, Option, Some, None, refl, sym, ap, subst, ◌∙◌, arith}
use Rattle.std.proofs.lemmas.Bool.{le-leb, lt-leb}
use Rattle.zpl_nums.specs.declared.operators.Op.{Op}
use Rattle.zpl_tokens.specs.declared.Kind.{Kind}
use Rattle.zpl_tree.specs.Syntax.{Expr, Pair}
use Rattle.zpl_tree.specs.Depth.{expr_depth}
use Rattle.zpl_parse.specs.declared.faults.ParseFault.{ParseFault}
use Rattle.zpl_parse.specs.declared.faults.ParseFault.TheVariants.{TooDeep}
use Rattle.zpl_text.specs.declared.tokens.Token.{Token}
use Rattle.zpl_parse.specs.declared.classes.Opening.{Opening}
use Rattle.zpl_parse.specs.declared.classes.Level.{Level}
use Rattle.zpl_parse.specs.declared.classes.Level.TheVariants as level
use Rattle.zpl_parse.specs.Classes.{and_op, comp_op, sum_op, term_op, begins_expr, opening_of}
use Rattle.zpl_grammar.specs.Lexeme.{Lexeme, head_kind, behind, lexeme_of, lexemes_of}
use Rattle.zpl_parse.specs.Outcome.{Outcome, Done, Wrong, Deep, Reader, and_then, made, too_deep}
use Rattle.zpl_parse.specs.Expressions.{at_of, chain, once, levels, no_expr, unary_over, unary_by}
use Rattle.zpl_parse.specs.Operators.{operator_of, of_level, below_of, operand_of, is_alone}
use Rattle.zpl_parse.specs.Following.{IsFaultOf}
use Rattle.zpl_parse.proofs.Follows.{fault_then, fault_made}

-- where one operator alone may stand, that or nothing, and else a chain
abbrev pub further : Bool → ℕ → ℕ → (Kind → Option Op) → Reader Expr → Expr → Reader Expr
further true less = once
further false less = chain less

-- the rest of the whole goes on with so much fuel, and so many tokens are left
pub record IsFurther (alone : Bool) (whole : Outcome Expr) (deep : ℕ) (op_of : Kind → Option Op) (operand : Reader Expr) (left : Expr) (rest : List Lexeme) (count : ℕ) : Type 0 where
  pub less : ℕ
  pub enough : count < less
  pub is : whole ≡ further alone less deep op_of operand left rest

-- what follows an operator
abbrev next_by : Bool → ℕ → ℕ → (Kind → Option Op) → Reader Expr → Expr → Op → Reader Expr
next_by true less deep op_of operand left op lexemes = made (Pair (at_of left) op left) (operand lexemes)
next_by false less deep op_of operand left op lexemes = and_then (operand lexemes) (λ right after. chain less deep op_of operand (Pair (at_of left) op left right) after)

abbrev shallow_by : Bool → Outcome Expr → List Lexeme → Outcome Expr
shallow_by fits next behind_op = elim fits [ false ↦ Deep behind_op | true ↦ next ]

abbrev found_by : Option Op → Bool → ℕ → ℕ → (Kind → Option Op) → Reader Expr → Expr → Reader Expr
found_by None alone less deep op_of operand left rest = Done left rest
found_by (Some op) alone less deep op_of operand left rest = shallow_by (nat_le (expr_depth left) deep) (next_by alone less deep op_of operand left op (behind rest)) (behind rest)

-- what is further, by the operator that is found
by_operator : (alone : Bool) (less deep : ℕ) (op_of : Kind → Option Op) (operand : Reader Expr) (left : Expr) (rest : List Lexeme) →
    further alone (suc less) deep op_of operand left rest ≡ found_by (op_of (head_kind rest)) alone less deep op_of operand left rest
by_operator true less deep op_of operand left rest = by_once (op_of (head_kind rest))
  where
    by_once : (o : Option Op) → elim o [ None ↦ Done left rest | Some op ↦ elim (nat_le (expr_depth left) deep) [ false ↦ Deep (behind rest) | true ↦ made (Pair (at_of left) op left) (operand (behind rest)) ] ] ≡ found_by o true less deep op_of operand left rest
    by_once None = refl
    by_once (Some op) = refl
by_operator false less deep op_of operand left rest = by_chain (op_of (head_kind rest))
  where
    by_chain : (o : Option Op) → elim o [ None ↦ Done left rest | Some op ↦ elim (nat_le (expr_depth left) deep) [ false ↦ Deep (behind rest) | true ↦ and_then (operand (behind rest)) (λ right after. chain less deep op_of operand (Pair (at_of left) op left right) after) ] ] ≡ found_by o false less deep op_of operand left rest
    by_chain None = refl
    by_chain (Some op) = refl

found_end : (alone : Bool) (less deep : ℕ) (op_of : Kind → Option Op) (operand : Reader Expr) (left : Expr) (rest : List Lexeme) → op_of (head_kind rest) ≡ None →
    further alone (suc less) deep op_of operand left rest ≡ Done left rest
found_end alone less deep op_of operand left rest is =
    by_operator alone less deep op_of operand left rest ∙ ap (λ o. found_by o alone less deep op_of operand left rest) is

found_deep : (alone : Bool) (less deep : ℕ) (op_of : Kind → Option Op) (operand : Reader Expr) (left : Expr) (rest : List Lexeme) (op : Op) → op_of (head_kind rest) ≡ Some op → deep < expr_depth left →
    further alone (suc less) deep op_of operand left rest ≡ Deep (behind rest)
found_deep alone less deep op_of operand left rest op is above =
    by_operator alone less deep op_of operand left rest ∙ ap (λ o. found_by o alone less deep op_of operand left rest) is
    ∙ ap (λ fits. shallow_by fits (next_by alone less deep op_of operand left op (behind rest)) (behind rest)) (lt-leb (expr_depth left) deep above)

-- where an operator stands, and what is left of it isn't too deep
found_next : (alone : Bool) (less deep : ℕ) (op_of : Kind → Option Op) (operand : Reader Expr) (left : Expr) (rest : List Lexeme) (op : Op) → op_of (head_kind rest) ≡ Some op → expr_depth left ≤ deep →
    further alone (suc less) deep op_of operand left rest ≡ next_by alone less deep op_of operand left op (behind rest)
found_next alone less deep op_of operand left rest op is shallow =
    by_operator alone less deep op_of operand left rest ∙ ap (λ o. found_by o alone less deep op_of operand left rest) is
    ∙ ap (λ fits. shallow_by fits (next_by alone less deep op_of operand left op (behind rest)) (behind rest)) (le-leb (expr_depth left) deep shallow)

next_fault : (alone : Bool) (less deep : ℕ) (op_of : Kind → Option Op) (operand : Reader Expr) (left : Expr) (op : Op) (lexemes : List Lexeme) (fault : ParseFault) → IsFaultOf fault (operand lexemes) →
    IsFaultOf fault (next_by alone less deep op_of operand left op lexemes)
next_fault true less deep op_of operand left op lexemes fault h = fault_made fault (Pair (at_of left) op left) (operand lexemes) h
next_fault false less deep op_of operand left op lexemes fault h = fault_then fault (operand lexemes) (λ right after. chain less deep op_of operand (Pair (at_of left) op left right) after) h

pub further_end : (alone : Bool) (whole : Outcome Expr) (deep : ℕ) (op_of : Kind → Option Op) (operand : Reader Expr) (left : Expr) (rest : List Lexeme) (count : ℕ) →
    IsFurther alone whole deep op_of operand left rest count → op_of (head_kind rest) ≡ None → whole ≡ Done left rest
further_end alone whole deep op_of operand left rest count h is = go h.less h.enough h.is
  where
    go : (less : ℕ) → count < less → whole ≡ further alone less deep op_of operand left rest → whole ≡ Done left rest
    go zero enough same = absurd (omega arith)
    go (suc less) enough same = same ∙ found_end alone less deep op_of operand left rest is

pub further_deep : (alone : Bool) (whole : Outcome Expr) (deep : ℕ) (op_of : Kind → Option Op) (operand : Reader Expr) (left : Expr) (rest : List Lexeme) (count : ℕ) (op : Op) →
    IsFurther alone whole deep op_of operand left rest count → op_of (head_kind rest) ≡ Some op → deep < expr_depth left → IsFaultOf TooDeep whole
further_deep alone whole deep op_of operand left rest count op h is above = go h.less h.enough h.is
  where
    go : (less : ℕ) → count < less → whole ≡ further alone less deep op_of operand left rest → IsFaultOf TooDeep whole
    go zero enough same = absurd (omega arith)
    go (suc less) enough same = record { rest = behind rest; is = same ∙ found_deep alone less deep op_of operand left rest op is above }

pub further_fault : (alone : Bool) (whole : Outcome Expr) (deep : ℕ) (op_of : Kind → Option Op) (operand : Reader Expr) (left : Expr) (rest : List Lexeme) (count : ℕ) (op : Op) (fault : ParseFault) →
    IsFurther alone whole deep op_of operand left rest count → op_of (head_kind rest) ≡ Some op → expr_depth left ≤ deep → IsFaultOf fault (operand (behind rest)) → IsFaultOf fault whole
further_fault alone whole deep op_of operand left rest count op fault h is shallow found = go h.less h.enough h.is
  where
    go : (less : ℕ) → count < less → whole ≡ further alone less deep op_of operand left rest → IsFaultOf fault whole
    go zero enough same = absurd (omega arith)
    go (suc less) enough same = subst (IsFaultOf fault) (sym (same ∙ found_next alone less deep op_of operand left rest op is shallow))
        (next_fault alone less deep op_of operand left op (behind rest) fault found)

-- one operator alone, and its right operand
pub further_once : (alone : Bool) (whole : Outcome Expr) (deep : ℕ) (op_of : Kind → Option Op) (operand : Reader Expr) (left : Expr) (rest : List Lexeme) (count : ℕ) (op : Op) (right : Expr) (after : List Lexeme) →
    alone ≡ true → IsFurther alone whole deep op_of operand left rest count → op_of (head_kind rest) ≡ Some op → expr_depth left ≤ deep → operand (behind rest) ≡ Done right after →
    whole ≡ Done (Pair (at_of left) op left right) after
further_once false whole deep op_of operand left rest count op right after bad h is shallow read = absurd cc
further_once true whole deep op_of operand left rest count op right after one h is shallow read = go h.less h.enough h.is
  where
    go : (less : ℕ) → count < less → whole ≡ further true less deep op_of operand left rest → whole ≡ Done (Pair (at_of left) op left right) after
    go zero enough same = absurd (omega arith)
    go (suc less) enough same = same ∙ found_next true less deep op_of operand left rest op is shallow ∙ ap (made (Pair (at_of left) op left)) read

-- one operator more of a chain
pub further_more : (alone : Bool) (whole : Outcome Expr) (deep : ℕ) (op_of : Kind → Option Op) (operand : Reader Expr) (left : Expr) (rest : List Lexeme) (count : ℕ) (op : Op) (right : Expr) (after : List Lexeme) (fewer : ℕ) →
    alone ≡ false → IsFurther alone whole deep op_of operand left rest count → fewer < count → op_of (head_kind rest) ≡ Some op → expr_depth left ≤ deep → operand (behind rest) ≡ Done right after →
    IsFurther alone whole deep op_of operand (Pair (at_of left) op left right) after fewer
further_more true whole deep op_of operand left rest count op right after fewer bad h shorter is shallow read = absurd cc
further_more false whole deep op_of operand left rest count op right after fewer more h shorter is shallow read = go h.less h.enough h.is
  where
    go : (less : ℕ) → count < less → whole ≡ further false less deep op_of operand left rest → IsFurther false whole deep op_of operand (Pair (at_of left) op left right) after fewer
    go zero enough same = absurd (omega arith)
    go (suc less) enough same = record {
      less = less;
      enough = omega arith;
      is = same ∙ found_next false less deep op_of operand left rest op is shallow ∙ ap (λ o. and_then o (λ right after. chain less deep op_of operand (Pair (at_of left) op left right) after)) read;
    }

-- at depth 0 nothing is read
never_deep : {A : Type 0} (b : Bool) (lexemes : List Lexeme) (tree : A) (rest : List Lexeme) → too_deep b lexemes ≡ Done tree rest → ⊥
never_deep true lexemes tree rest e = let bad : Deep (behind lexemes) ≡ Done tree rest = e in cc
never_deep false lexemes tree rest e = let bad : Wrong lexemes ≡ Done tree rest = e in cc

never_then : {A B : Type 0} (o : Outcome A) (k : A → Reader B) → ((tree : A) (rest : List Lexeme) → o ≡ Done tree rest → ⊥) → (tree : B) (rest : List Lexeme) → and_then o k ≡ Done tree rest → ⊥
never_then (Done x after) k never tree rest e = never x after refl
never_then (Wrong after) k never tree rest e = let bad : Wrong after ≡ Done tree rest = e in cc
never_then (Deep after) k never tree rest e = let bad : Deep after ≡ Done tree rest = e in cc

unary_never : (most : ℕ) (lexemes : List Lexeme) (tree : Expr) (rest : List Lexeme) → (levels most 0).unary lexemes ≡ Done tree rest → ⊥
unary_never most lexemes = never_deep (begins_expr (head_kind lexemes)) lexemes

term_never : (most : ℕ) (lexemes : List Lexeme) (tree : Expr) (rest : List Lexeme) → (levels most 0).term lexemes ≡ Done tree rest → ⊥
term_never most lexemes = never_then ((levels most 0).unary lexemes) (chain most 0 term_op no_expr) (unary_never most lexemes)

sum_never : (most : ℕ) (lexemes : List Lexeme) (tree : Expr) (rest : List Lexeme) → (levels most 0).sum lexemes ≡ Done tree rest → ⊥
sum_never most lexemes = never_then ((levels most 0).term lexemes) (chain most 0 sum_op no_expr) (term_never most lexemes)

comp_never : (most : ℕ) (lexemes : List Lexeme) (tree : Expr) (rest : List Lexeme) → (levels most 0).comp lexemes ≡ Done tree rest → ⊥
comp_never most lexemes = never_then ((levels most 0).sum lexemes) (once 0 comp_op no_expr) (sum_never most lexemes)

conj_never : (most : ℕ) (lexemes : List Lexeme) (tree : Expr) (rest : List Lexeme) → (levels most 0).conj lexemes ≡ Done tree rest → ⊥
conj_never most lexemes = never_then ((levels most 0).comp lexemes) (chain most 0 and_op no_expr) (comp_never most lexemes)

operand_never : (level : Level) (most : ℕ) (lexemes : List Lexeme) (tree : Expr) (rest : List Lexeme) → operand_of level (levels most 0) lexemes ≡ Done tree rest → ⊥
operand_never level.Or most lexemes = conj_never most lexemes
operand_never level.And most lexemes = comp_never most lexemes
operand_never level.Comparison most lexemes = sum_never most lexemes
operand_never level.Sum most lexemes = term_never most lexemes
operand_never level.Term most lexemes = unary_never most lexemes

-- a level, behind its first operand
level_is : (level : Level) (most deep : ℕ) (lexemes : List Lexeme) → of_level level (levels most (suc deep)) lexemes
    ≡ and_then (operand_of level (levels most (suc deep)) lexemes) (further (is_alone level) most deep (operator_of level) (operand_of level (levels most deep)))
level_is level.Or most deep lexemes = refl
level_is level.And most deep lexemes = refl
level_is level.Comparison most deep lexemes = refl
level_is level.Sum most deep lexemes = refl
level_is level.Term most deep lexemes = refl

level_at_0 : (level : Level) (most : ℕ) (lexemes : List Lexeme) → of_level level (levels most 0) lexemes
    ≡ and_then (operand_of level (levels most 0) lexemes) (further (is_alone level) most 0 (operator_of level) no_expr)
level_at_0 level.Or most lexemes = refl
level_at_0 level.And most lexemes = refl
level_at_0 level.Comparison most lexemes = refl
level_at_0 level.Sum most lexemes = refl
level_at_0 level.Term most lexemes = refl

-- behind its first operand a level goes on
pub level_begun : (level : Level) (most deep : ℕ) (lexemes rest : List Lexeme) (left : Expr) (count : ℕ) → count < most → operand_of level (levels most deep) lexemes ≡ Done left rest →
    IsFurther (is_alone level) (of_level level (levels most deep) lexemes) (deep - 1) (operator_of level) (operand_of level (levels most (deep - 1))) left rest count
level_begun level most zero lexemes rest left count enough e = absurd (operand_never level most lexemes left rest e)
level_begun level most (suc deep) lexemes rest left count enough e =
    let one : deep ≡ suc deep - 1 = omega arith in
    let is : of_level level (levels most (suc deep)) lexemes ≡ further (is_alone level) most deep (operator_of level) (operand_of level (levels most deep)) left rest =
    level_is level most deep lexemes ∙ ap (λ o. and_then o (further (is_alone level) most deep (operator_of level) (operand_of level (levels most deep)))) e in
    subst (λ n. IsFurther (is_alone level) (of_level level (levels most (suc deep)) lexemes) n (operator_of level) (operand_of level (levels most n)) left rest count) one
    (record { less = most; enough = enough; is = is })

-- a fault of its first operand is one of the level
pub level_fault : (level : Level) (most deep : ℕ) (lexemes : List Lexeme) (fault : ParseFault) → IsFaultOf fault (operand_of level (levels most deep) lexemes) → IsFaultOf fault (of_level level (levels most deep) lexemes)
level_fault level most zero lexemes fault h = subst (IsFaultOf fault) (sym (level_at_0 level most lexemes)) (fault_then fault _ (further (is_alone level) most 0 (operator_of level) no_expr) h)
level_fault level most (suc deep) lexemes fault h = subst (IsFaultOf fault) (sym (level_is level most deep lexemes)) (fault_then fault _ (further (is_alone level) most deep (operator_of level) (operand_of level (levels most deep))) h)

-- how far a level stands above unary
abbrev pub height : Level → ℕ
height level.Or = 5
height level.And = 4
height level.Comparison = 3
height level.Sum = 2
height level.Term = 1

pub height-below : (level below : Level) → below_of level ≡ Some below → height below < height level
height-below level.Or below is = let e : level.And ≡ below = cc in subst (λ b. height b < 5) e (omega arith)
height-below level.And below is = let e : level.Comparison ≡ below = cc in subst (λ b. height b < 4) e (omega arith)
height-below level.Comparison below is = let e : level.Sum ≡ below = cc in subst (λ b. height b < 3) e (omega arith)
height-below level.Sum below is = let e : level.Term ≡ below = cc in subst (λ b. height b < 2) e (omega arith)
height-below level.Term below is = absurd cc

-- a unary expression, where one may stand
pub unary_some : (most deep : ℕ) (lexemes : List Lexeme) → 0 < deep → (levels most deep).unary lexemes ≡ unary_over most (levels most (deep - 1)) lexemes
unary_some most zero lexemes h = absurd (omega arith)
unary_some most (suc deep) lexemes h =
    let one : deep ≡ suc deep - 1 = omega arith in
    subst (λ n. (levels most (suc deep)).unary lexemes ≡ unary_over most (levels most n) lexemes) one refl

-- what the first lexeme opens
pub unary_opens : (most deep : ℕ) (text : List ℕ) (tokens : List Token) (first : Token) (rest : List Token) (o : Opening) → 0 < deep → tokens ≡ first ∷ rest → opening_of first.kind ≡ Some o →
    (levels most deep).unary (lexemes_of text tokens) ≡ unary_by most (levels most (deep - 1)) (Some o) (lexeme_of text first) (lexemes_of text rest)
unary_opens most deep text tokens first rest o above split is =
    unary_some most deep (lexemes_of text tokens) above
    ∙ ap (λ tokens. unary_over most (levels most (deep - 1)) (lexemes_of text tokens)) split
    ∙ ap (λ k. unary_by most (levels most (deep - 1)) k (lexeme_of text first) (lexemes_of text rest)) is
