-- How the rules of the levels of expressions are complete, given that each is for what stands
-- within.
use Rattle.std.proofs.Common.{◌≡◌, ℕ, suc, zero, ◌+◌, ◌<◌, ◌≤◌, nat_le, ◌&&◌, Bool, true, false, IsTrue, List, [], ◌∷◌, ◌++◌, length, Option, Some, None, refl, sym, ap, subst, ◌∙◌, arith}
use Rattle.std.specs.Bool.{⊤}
use Rattle.std.proofs.lemmas.Bool.{and_parts}
use Rattle.std.proofs.lemmas.Bool.Decides.{nat_tests}
use Rattle.zpl_nums.specs.declared.operators.Op.{Op}
use Rattle.zpl_tokens.specs.declared.Kind.{Kind}
use Rattle.zpl_tokens.specs.declared.Kind.TheVariants as kind
use Rattle.zpl_tokens.specs.declared.symbols.Sym.{Sym}
use Rattle.zpl_tokens.specs.declared.symbols.Sym.TheVariants as sym
use Rattle.zpl_tree.specs.Word as word
use Rattle.zpl_tree.specs.Syntax.{Expr, Pair}
use Rattle.zpl_tree.specs.Depth.{expr_depth}
use Rattle.zpl_tree.specs.Shape.{expr_shape}
use Rattle.zpl_tree.proofs.Depths.{expr_depth-some, expr_depth_of}
use Rattle.zpl_tree.specs.Spelling.{expr_words}
use Rattle.zpl_grammar.specs.Lexeme.{Lexeme, head_kind, second_kind, behind}
use Rattle.zpl_parse.specs.Outcome.{Outcome, Deep, Reader, and_then, made}
use Rattle.zpl_parse.specs.Classes.{or_op, and_op, comp_op, sum_op, term_op, suffix_of, begins_expr, closes_dim}
use Rattle.zpl_parse.specs.Tokens.{next_is}
use Rattle.zpl_parse.specs.Expressions.{at_of, Levels, levels, chain, once}
use Rattle.zpl_parse.proofs.Complete.Base.{lexeme, Begins, more, Split, split_at, bound_behind, shorter, Reads, read, deep, weigh, made_reads}

abbrev pub SameExpr : Expr → Expr → Type 0
SameExpr t made = expr_shape made ≡ expr_shape t

same_depth : (t made : Expr) → SameExpr t made → expr_depth made ≡ expr_depth t
same_depth t made same = sym (expr_depth_of made) ∙ ap expr_depth same ∙ expr_depth_of t

-- the six rules of expressions
pub data Level : Type 0 where
  Unary Term Sum Comp Conj Whole : Level

-- the number that the grammar has for a level
abbrev pub number : Level → ℕ
number Whole = 0
number Conj = 1
number Comp = 2
number Sum = 3
number Term = 4
number Unary = 5

abbrev pub reader : Level → Levels → Reader Expr
reader Whole rules_of = rules_of.expr
reader Conj rules_of = rules_of.conj
reader Comp rules_of = rules_of.comp
reader Sum rules_of = rules_of.sum
reader Term rules_of = rules_of.term
reader Unary rules_of = rules_of.unary

abbrev pub is_none : {A : Type 0} → Option A → Bool
is_none None = true
is_none (Some x) = false

pub none_is : {A : Type 0} (option : Option A) → is_none option ≡ true → option ≡ None
none_is None e = refl
none_is (Some x) e = absurd (cc)

-- an expression of each level ends before such a token
abbrev ends_unary : Kind → Bool
ends_unary kind = is_none (suffix_of kind)

abbrev ends_term : Kind → Bool
ends_term kind = ends_unary kind && is_none (term_op kind)

abbrev ends_sum : Kind → Bool
ends_sum kind = ends_term kind && is_none (sum_op kind)

abbrev ends_comp : Kind → Bool
ends_comp kind = ends_sum kind && is_none (comp_op kind)

abbrev ends_conj : Kind → Bool
ends_conj kind = ends_comp kind && is_none (and_op kind)

abbrev ends_whole : Kind → Bool
ends_whole kind = ends_conj kind && is_none (or_op kind)

abbrev pub ends : Level → Kind → Bool
ends Unary = ends_unary
ends Term = ends_term
ends Sum = ends_sum
ends Comp = ends_comp
ends Conj = ends_conj
ends Whole = ends_whole

abbrev pub Stops : Level → List Lexeme → Type 0
Stops level rest = ends level (head_kind rest) ≡ true

abbrev pub StopsUnary : List Lexeme → Type 0
StopsUnary = Stops Unary

abbrev pub StopsTerm : List Lexeme → Type 0
StopsTerm = Stops Term

abbrev pub StopsSum : List Lexeme → Type 0
StopsSum = Stops Sum

abbrev pub StopsComp : List Lexeme → Type 0
StopsComp = Stops Comp

abbrev pub StopsConj : List Lexeme → Type 0
StopsConj = Stops Conj

abbrev pub StopsWhole : List Lexeme → Type 0
StopsWhole = Stops Whole

-- so it ends for the tighter level, and no operator of its own stands there
tighter : {A : Type 0} (below : Bool) (option : Option A) → (below && is_none option) ≡ true
    → below ≡ true
tighter below option e = (and_parts below (is_none option) e).0

no_operator : {A : Type 0} (below : Bool) (option : Option A) → (below && is_none option) ≡ true
    → option ≡ None
no_operator below option e = none_is option (and_parts below (is_none option) e).1

-- a star before what closes a dimension
abbrev pub is_star : Bool → Bool → Bool
is_star true closes = closes
is_star false closes = false

-- how an expression begins
pub record Opens (lexemes : List Lexeme) : Type 0 where
  pub begins : begins_expr (head_kind lexemes) ≡ true
  pub bracket : next_is (kind.Symbol sym.OpenBracket) lexemes ≡ false
  pub paren : next_is (kind.Symbol sym.CloseParen) lexemes ≡ false
  pub string : next_is kind.Str lexemes ≡ false
  pub dim : closes_dim (head_kind lexemes) ≡ false
  pub star : is_star (next_is (kind.Symbol sym.Star) lexemes) (closes_dim (second_kind lexemes))
      ≡ false

-- What stands behind an operand's words is left to a chain, which has turns enough; or the operand
-- is too deep.
pub data Goes (t : Expr) (rest : List Lexeme) (deeper : ℕ) (op_of : Kind
    → Option Op) (operand : Reader Expr) : Outcome Expr → Type 0 where
  goes : (made : Expr) (turns : ℕ) → length rest < turns → expr_depth t ≤ suc deeper
      → SameExpr t made
      → Goes t rest deeper op_of operand (chain turns deeper op_of operand made rest)
  sinks : (left : List Lexeme) → suc deeper < expr_depth t
      → Goes t rest deeper op_of operand (Deep left)

module _ {t : Expr} {rest : List Lexeme} {deeper : ℕ} {op_of : Kind
    → Option Op} {operand : Reader Expr} where
  pub chain_one : {most : ℕ} {outcome : Outcome Expr} → length rest < most
      → Reads (SameExpr t) rest (expr_depth t) (suc deeper) outcome →
      Goes t rest deeper op_of operand (and_then outcome (chain most deeper op_of operand))
  chain_one {most = most} bound (read value fits alike) = goes value most bound fits alike
  chain_one bound (deep left h) = sinks left h

  pub chain_ends : {outcome : Outcome Expr} → op_of (head_kind rest) ≡ None
      → Goes t rest deeper op_of operand outcome
      → Reads (SameExpr t) rest (expr_depth t) (suc deeper) outcome
  chain_ends ends (goes value zero bound fits alike) = absurd (omega arith)
  chain_ends ends (goes value (suc turns) bound fits alike) =
      rw (ends, chain) (read value fits alike)
  chain_ends ends (sinks left h) = deep left h

module _ {left right : Expr} {deeper : ℕ} {op_of : Kind → Option Op} {operand : Reader Expr}
    (at : ℕ) (op : Op) (x : Lexeme) (middle : List Lexeme) {rest : List Lexeme}
    (shorter : length rest ≤ length middle) where
  pair_ends : (value : Expr) (turns : ℕ) {outcome : Outcome Expr} → length rest < turns
      → expr_depth left ≤ deeper → SameExpr left value
      → Reads (SameExpr right) rest (expr_depth right) deeper outcome →
      Goes (Pair at op left right) rest deeper op_of operand
      (and_then outcome (λ taken others.
      chain turns deeper op_of operand (Pair (at_of value) op value taken) others))
  pair_ends value turns bound fits alike (read taken small equal) =
      goes (Pair (at_of value) op value taken) turns bound (omega arith) (rw (alike, equal))
  pair_ends value turns bound fits alike (deep behind h) = sinks behind (omega arith)

  pair_goes : (value : Expr) (turns : ℕ) → length (x ∷ middle) < suc turns → SameExpr left value
      → Reads (SameExpr right) rest (expr_depth right) deeper (operand middle) → (b : Bool)
      → nat_le (expr_depth value) deeper ≡ b →
      Goes (Pair at op left right) rest deeper op_of operand (elim b [
        | false ↦ Deep middle
        | true ↦ and_then (operand middle) (λ taken others.
            chain turns deeper op_of operand (Pair (at_of value) op value taken) others)
      ])
  pair_goes value turns bound alike reads true fits =
      let equal = same_depth left value alike in
      let small : expr_depth value ≤ deeper = grind (arith, nat_tests) in
      pair_ends value turns (omega arith) (omega arith) alike reads
  pair_goes value turns bound alike reads false fits =
      let equal = same_depth left value alike in
      let large : deeper < expr_depth value = grind (arith, nat_tests) in
      sinks middle (omega arith)

  pub chain_pair : {outcome : Outcome Expr} → op_of x.kind ≡ Some op
      → Goes left (x ∷ middle) deeper op_of operand outcome
      → Reads (SameExpr right) rest (expr_depth right) deeper (operand middle) →
      Goes (Pair at op left right) rest deeper op_of operand outcome
  chain_pair is (goes value zero bound fits alike) reads = absurd (omega arith)
  chain_pair is (goes value (suc turns) bound fits alike) reads =
      rw (is, chain) (pair_goes value turns bound alike reads (nat_le (expr_depth value) deeper)
      refl)
  chain_pair is (sinks behind h) reads = sinks behind (omega arith)

-- the same for what stands once
module _ (deeper : ℕ) (op_of : Kind → Option Op) (operand : Reader Expr) where
  pub once_one : (t : Expr) {rest : List Lexeme} {outcome : Outcome Expr} → op_of (head_kind rest)
      ≡ None → Reads (SameExpr t) rest (expr_depth t) (suc deeper) outcome →
      Reads (SameExpr t) rest (expr_depth t) (suc deeper)
      (and_then outcome (once deeper op_of operand))
  once_one t ends (read value fits alike) = rw (ends, once) (read value fits alike)
  once_one t ends (deep left h) = deep left h

  module _ (left right : Expr) (at : ℕ) (op : Op) (x : Lexeme) (middle : List Lexeme)
      {rest : List Lexeme} where
    once_goes : (value : Expr) → SameExpr left value
        → Reads (SameExpr right) rest (expr_depth right) deeper (operand middle) → (b : Bool)
        → nat_le (expr_depth value) deeper ≡ b →
        Reads (SameExpr (Pair at op left right)) rest (expr_depth (Pair at op left right))
        (suc deeper) (elim b [
          | false ↦ Deep middle
          | true ↦ made (Pair (at_of value) op value) (operand middle)
        ])
    once_goes value alike reads true fits =
        let equal = same_depth left value alike in
        let small : expr_depth value ≤ deeper = grind (arith, nat_tests) in
        let small_left : expr_depth left ≤ deeper = omega arith in
        weigh (λ k. omega arith) (λ k. omega arith) (made_reads (Pair (at_of value) op value)
        (λ taken same. cc) reads)
    once_goes value alike reads false fits =
        let equal = same_depth left value alike in
        let large : deeper < expr_depth value = grind (arith, nat_tests) in
        deep middle (omega arith)

    pub once_pair : {outcome : Outcome Expr} → op_of x.kind ≡ Some op
        → Reads (SameExpr left) (x ∷ middle) (expr_depth left) (suc deeper) outcome
        → Reads (SameExpr right) rest (expr_depth right) deeper (operand middle) →
        Reads (SameExpr (Pair at op left right)) rest (expr_depth (Pair at op left right))
        (suc deeper) (and_then outcome (once deeper op_of operand))
    once_pair is (read value fits alike) reads =
        rw (is, once) (once_goes value alike reads (nat_le (expr_depth value) deeper) refl)
    once_pair is (deep behind h) reads = deep behind (omega arith)

-- where no expression may stand
pub too_deep_at : (most : ℕ) (level : Level) (xs : List Lexeme) {S : Expr
    → Type 0} {rest : List Lexeme} (n : ℕ) → begins_expr (head_kind xs) ≡ true → 0 < n
    → Reads S rest n 0 (reader level (levels most zero) xs)
too_deep_at most Unary xs n begins some = rw begins (deep _ some)
too_deep_at most Term xs n begins some = rw begins (deep _ some)
too_deep_at most Sum xs n begins some = rw begins (deep _ some)
too_deep_at most Comp xs n begins some = rw begins (deep _ some)
too_deep_at most Conj xs n begins some = rw begins (deep _ some)
too_deep_at most Whole xs n begins some = rw begins (deep _ some)

module _ (most : ℕ) where
  abbrev pub OpensAt : Expr → Type 0
  OpensAt t = (xs rest : List Lexeme) → Begins most (expr_words t) xs rest → Opens xs

  abbrev pub ReadsAt : Level → Expr → Type 0
  ReadsAt level t = (budget : ℕ) (xs rest : List Lexeme) → Begins most (expr_words t) xs rest
      → Stops level rest →
      Reads (SameExpr t) rest (expr_depth t) budget (reader level (levels most budget) xs)

  abbrev pub GoesAt : Level → Expr → Type 0
  GoesAt Unary t = ⊤
  GoesAt Term t = (deeper : ℕ) (xs rest : List Lexeme) → Begins most (expr_words t) xs rest
      → StopsUnary rest
      → Goes t rest deeper term_op (levels most deeper).unary ((levels most (suc deeper)).term xs)
  GoesAt Sum t = (deeper : ℕ) (xs rest : List Lexeme) → Begins most (expr_words t) xs rest
      → StopsTerm rest
      → Goes t rest deeper sum_op (levels most deeper).term ((levels most (suc deeper)).sum xs)
  GoesAt Comp t = ⊤
  GoesAt Conj t = (deeper : ℕ) (xs rest : List Lexeme) → Begins most (expr_words t) xs rest
      → StopsComp rest
      → Goes t rest deeper and_op (levels most deeper).comp ((levels most (suc deeper)).conj xs)
  GoesAt Whole t = (deeper : ℕ) (xs rest : List Lexeme) → Begins most (expr_words t) xs rest
      → StopsConj rest
      → Goes t rest deeper or_op (levels most deeper).conj ((levels most (suc deeper)).expr xs)

  -- the rule of the level is complete for the expression
  pub record Ready (level : Level) (t : Expr) : Type 0 where
    pub opens : OpensAt t
    pub reads : ReadsAt level t
    pub going : GoesAt level t

  module _ {t : Expr} where
    pub ready_term : OpensAt t → GoesAt Term t → Ready Term t
    ready_term opens going = record { opens = opens; reads = reads; going = going }
      where
        reads : ReadsAt Term t
        reads zero xs rest b stops =
            too_deep_at most Term xs (expr_depth t) (opens xs rest b).begins (expr_depth-some t)
        reads (suc deeper) xs rest b stops =
            let last = head_kind rest in
            chain_ends (no_operator (ends Unary last) (term_op last) stops)
            (going deeper xs rest b (tighter (ends Unary last) (term_op last) stops))

    pub ready_sum : OpensAt t → GoesAt Sum t → Ready Sum t
    ready_sum opens going = record { opens = opens; reads = reads; going = going }
      where
        reads : ReadsAt Sum t
        reads zero xs rest b stops =
            too_deep_at most Sum xs (expr_depth t) (opens xs rest b).begins (expr_depth-some t)
        reads (suc deeper) xs rest b stops =
            let last = head_kind rest in
            chain_ends (no_operator (ends Term last) (sum_op last) stops)
            (going deeper xs rest b (tighter (ends Term last) (sum_op last) stops))

    pub ready_conj : OpensAt t → GoesAt Conj t → Ready Conj t
    ready_conj opens going = record { opens = opens; reads = reads; going = going }
      where
        reads : ReadsAt Conj t
        reads zero xs rest b stops =
            too_deep_at most Conj xs (expr_depth t) (opens xs rest b).begins (expr_depth-some t)
        reads (suc deeper) xs rest b stops =
            let last = head_kind rest in
            chain_ends (no_operator (ends Comp last) (and_op last) stops)
            (going deeper xs rest b (tighter (ends Comp last) (and_op last) stops))

    pub ready_whole : OpensAt t → GoesAt Whole t → Ready Whole t
    ready_whole opens going = record { opens = opens; reads = reads; going = going }
      where
        reads : ReadsAt Whole t
        reads zero xs rest b stops =
            too_deep_at most Whole xs (expr_depth t) (opens xs rest b).begins (expr_depth-some t)
        reads (suc deeper) xs rest b stops =
            let last = head_kind rest in
            chain_ends (no_operator (ends Conj last) (or_op last) stops)
            (going deeper xs rest b (tighter (ends Conj last) (or_op last) stops))

    up_term : Ready Unary t → Ready Term t
    up_term h =
        ready_term h.opens (λ deeper xs rest b stops.
        chain_one (bound_behind b) (h.reads (suc deeper) xs rest b stops))

    up_sum : Ready Term t → Ready Sum t
    up_sum h =
        ready_sum h.opens (λ deeper xs rest b stops.
        chain_one (bound_behind b) (h.reads (suc deeper) xs rest b stops))

    up_comp : Ready Sum t → Ready Comp t
    up_comp h = record { opens = h.opens; reads = reads; going = tt }
      where
        reads : ReadsAt Comp t
        reads zero xs rest b stops =
            too_deep_at most Comp xs (expr_depth t) (h.opens xs rest b).begins (expr_depth-some t)
        reads (suc deeper) xs rest b stops =
            let last = head_kind rest in
            once_one deeper comp_op (levels most deeper).sum t
            (no_operator (ends Sum last) (comp_op last) stops)
            (h.reads (suc deeper) xs rest b (tighter (ends Sum last) (comp_op last) stops))

    up_conj : Ready Comp t → Ready Conj t
    up_conj h =
        ready_conj h.opens (λ deeper xs rest b stops.
        chain_one (bound_behind b) (h.reads (suc deeper) xs rest b stops))

    up_whole : Ready Conj t → Ready Whole t
    up_whole h =
        ready_whole h.opens (λ deeper xs rest b stops.
        chain_one (bound_behind b) (h.reads (suc deeper) xs rest b stops))

    -- what is complete for one level is so for each that binds less tightly
    pub from_whole : (level : Level) → IsTrue (nat_le (number level) 0) → Ready Whole t
        → Ready level t
    from_whole Whole stands h = h
    from_whole Conj stands h = absurd (cc)
    from_whole Comp stands h = absurd (cc)
    from_whole Sum stands h = absurd (cc)
    from_whole Term stands h = absurd (cc)
    from_whole Unary stands h = absurd (cc)

    pub from_conj : (level : Level) → IsTrue (nat_le (number level) 1) → Ready Conj t
        → Ready level t
    from_conj Whole stands h = up_whole h
    from_conj Conj stands h = h
    from_conj Comp stands h = absurd (cc)
    from_conj Sum stands h = absurd (cc)
    from_conj Term stands h = absurd (cc)
    from_conj Unary stands h = absurd (cc)

    pub from_comp : (level : Level) → IsTrue (nat_le (number level) 2) → Ready Comp t
        → Ready level t
    from_comp Whole stands h = up_whole (up_conj h)
    from_comp Conj stands h = up_conj h
    from_comp Comp stands h = h
    from_comp Sum stands h = absurd (cc)
    from_comp Term stands h = absurd (cc)
    from_comp Unary stands h = absurd (cc)

    pub from_sum : (level : Level) → IsTrue (nat_le (number level) 3) → Ready Sum t → Ready level t
    from_sum Whole stands h = up_whole (up_conj (up_comp h))
    from_sum Conj stands h = up_conj (up_comp h)
    from_sum Comp stands h = up_comp h
    from_sum Sum stands h = h
    from_sum Term stands h = absurd (cc)
    from_sum Unary stands h = absurd (cc)

    pub from_term : (level : Level) → IsTrue (nat_le (number level) 4) → Ready Term t
        → Ready level t
    from_term Whole stands h = up_whole (up_conj (up_comp (up_sum h)))
    from_term Conj stands h = up_conj (up_comp (up_sum h))
    from_term Comp stands h = up_comp (up_sum h)
    from_term Sum stands h = up_sum h
    from_term Term stands h = h
    from_term Unary stands h = absurd (cc)

    pub from_unary : (level : Level) → Ready Unary t → Ready level t
    from_unary Whole h = up_whole (up_conj (up_comp (up_sum (up_term h))))
    from_unary Conj h = up_conj (up_comp (up_sum (up_term h)))
    from_unary Comp h = up_comp (up_sum (up_term h))
    from_unary Sum h = up_sum (up_term h)
    from_unary Term h = up_term h
    from_unary Unary h = h

  -- an operator of the level between its operands
  module _ (s : Sym) (op : Op) (at : ℕ) (left right : Expr) where
    term_split : term_op (kind.Symbol s) ≡ Some op
        → ((bytes : List ℕ) (place : ℕ) (others : List Lexeme)
        → StopsUnary (lexeme (word.Symbol s) bytes place ∷ others)) → Ready Term left
        → Ready Unary right →
        (deeper : ℕ) (xs middle rest : List Lexeme) → Begins most (expr_words left) xs middle
        → Begins most (word.Symbol s ∷ expr_words right) middle rest → StopsUnary rest →
        Goes (Pair at op left right) rest deeper term_op (levels most deeper).unary
        ((levels most (suc deeper)).term xs)
    term_split is starts before after deeper xs middle rest first (more {lexemes =
        others} w bytes place bound b) stops =
        chain_pair at op (lexeme (word.Symbol s) bytes place) others (shorter b) is
        (before.going deeper xs _ first (starts bytes place others))
        (after.reads deeper _ rest b stops)

    pub term_pair : term_op (kind.Symbol s) ≡ Some op
        → ((bytes : List ℕ) (place : ℕ) (others : List Lexeme)
        → StopsUnary (lexeme (word.Symbol s) bytes place ∷ others)) → Ready Term left
        → Ready Unary right →
        (deeper : ℕ) (xs rest : List Lexeme)
        → Begins most ((expr_words left ++ word.Symbol s ∷ []) ++ expr_words right) xs rest
        → StopsUnary rest →
        Goes (Pair at op left right) rest deeper term_op (levels most deeper).unary
        ((levels most (suc deeper)).term xs)
    term_pair is starts before after deeper xs rest b stops =
        let parts : Split most (expr_words left) (word.Symbol s ∷ expr_words right) xs rest =
        split_at (expr_words left) (word.Symbol s) (expr_words right) b in
        term_split is starts before after deeper xs parts.middle rest parts.first parts.then stops

  -- an operator of the level between its operands
  module _ (s : Sym) (op : Op) (at : ℕ) (left right : Expr) where
    sum_split : sum_op (kind.Symbol s) ≡ Some op
        → ((bytes : List ℕ) (place : ℕ) (others : List Lexeme)
        → StopsTerm (lexeme (word.Symbol s) bytes place ∷ others)) → Ready Sum left
        → Ready Term right →
        (deeper : ℕ) (xs middle rest : List Lexeme) → Begins most (expr_words left) xs middle
        → Begins most (word.Symbol s ∷ expr_words right) middle rest → StopsTerm rest →
        Goes (Pair at op left right) rest deeper sum_op (levels most deeper).term
        ((levels most (suc deeper)).sum xs)
    sum_split is starts before after deeper xs middle rest first (more {lexemes =
        others} w bytes place bound b) stops =
        chain_pair at op (lexeme (word.Symbol s) bytes place) others (shorter b) is
        (before.going deeper xs _ first (starts bytes place others))
        (after.reads deeper _ rest b stops)

    pub sum_pair : sum_op (kind.Symbol s) ≡ Some op
        → ((bytes : List ℕ) (place : ℕ) (others : List Lexeme)
        → StopsTerm (lexeme (word.Symbol s) bytes place ∷ others)) → Ready Sum left
        → Ready Term right →
        (deeper : ℕ) (xs rest : List Lexeme)
        → Begins most ((expr_words left ++ word.Symbol s ∷ []) ++ expr_words right) xs rest
        → StopsTerm rest →
        Goes (Pair at op left right) rest deeper sum_op (levels most deeper).term
        ((levels most (suc deeper)).sum xs)
    sum_pair is starts before after deeper xs rest b stops =
        let parts : Split most (expr_words left) (word.Symbol s ∷ expr_words right) xs rest =
        split_at (expr_words left) (word.Symbol s) (expr_words right) b in
        sum_split is starts before after deeper xs parts.middle rest parts.first parts.then stops

  -- an operator of the level between its operands
  module _ (s : Sym) (op : Op) (at : ℕ) (left right : Expr) where
    conj_split : and_op (kind.Symbol s) ≡ Some op
        → ((bytes : List ℕ) (place : ℕ) (others : List Lexeme)
        → StopsComp (lexeme (word.Symbol s) bytes place ∷ others)) → Ready Conj left
        → Ready Comp right →
        (deeper : ℕ) (xs middle rest : List Lexeme) → Begins most (expr_words left) xs middle
        → Begins most (word.Symbol s ∷ expr_words right) middle rest → StopsComp rest →
        Goes (Pair at op left right) rest deeper and_op (levels most deeper).comp
        ((levels most (suc deeper)).conj xs)
    conj_split is starts before after deeper xs middle rest first (more {lexemes =
        others} w bytes place bound b) stops =
        chain_pair at op (lexeme (word.Symbol s) bytes place) others (shorter b) is
        (before.going deeper xs _ first (starts bytes place others))
        (after.reads deeper _ rest b stops)

    pub conj_pair : and_op (kind.Symbol s) ≡ Some op
        → ((bytes : List ℕ) (place : ℕ) (others : List Lexeme)
        → StopsComp (lexeme (word.Symbol s) bytes place ∷ others)) → Ready Conj left
        → Ready Comp right →
        (deeper : ℕ) (xs rest : List Lexeme)
        → Begins most ((expr_words left ++ word.Symbol s ∷ []) ++ expr_words right) xs rest
        → StopsComp rest →
        Goes (Pair at op left right) rest deeper and_op (levels most deeper).comp
        ((levels most (suc deeper)).conj xs)
    conj_pair is starts before after deeper xs rest b stops =
        let parts : Split most (expr_words left) (word.Symbol s ∷ expr_words right) xs rest =
        split_at (expr_words left) (word.Symbol s) (expr_words right) b in
        conj_split is starts before after deeper xs parts.middle rest parts.first parts.then stops

  -- an operator of the level between its operands
  module _ (s : Sym) (op : Op) (at : ℕ) (left right : Expr) where
    whole_split : or_op (kind.Symbol s) ≡ Some op
        → ((bytes : List ℕ) (place : ℕ) (others : List Lexeme)
        → StopsConj (lexeme (word.Symbol s) bytes place ∷ others)) → Ready Whole left
        → Ready Conj right →
        (deeper : ℕ) (xs middle rest : List Lexeme) → Begins most (expr_words left) xs middle
        → Begins most (word.Symbol s ∷ expr_words right) middle rest → StopsConj rest →
        Goes (Pair at op left right) rest deeper or_op (levels most deeper).conj
        ((levels most (suc deeper)).expr xs)
    whole_split is starts before after deeper xs middle rest first (more {lexemes =
        others} w bytes place bound b) stops =
        chain_pair at op (lexeme (word.Symbol s) bytes place) others (shorter b) is
        (before.going deeper xs _ first (starts bytes place others))
        (after.reads deeper _ rest b stops)

    pub whole_pair : or_op (kind.Symbol s) ≡ Some op
        → ((bytes : List ℕ) (place : ℕ) (others : List Lexeme)
        → StopsConj (lexeme (word.Symbol s) bytes place ∷ others)) → Ready Whole left
        → Ready Conj right →
        (deeper : ℕ) (xs rest : List Lexeme)
        → Begins most ((expr_words left ++ word.Symbol s ∷ []) ++ expr_words right) xs rest
        → StopsConj rest →
        Goes (Pair at op left right) rest deeper or_op (levels most deeper).conj
        ((levels most (suc deeper)).expr xs)
    whole_pair is starts before after deeper xs rest b stops =
        let parts : Split most (expr_words left) (word.Symbol s ∷ expr_words right) xs rest =
        split_at (expr_words left) (word.Symbol s) (expr_words right) b in
        whole_split is starts before after deeper xs parts.middle rest parts.first parts.then stops

  -- a comparison between its operands
  module _ (s : Sym) (op : Op) (at : ℕ) (left right : Expr) where
    comp_split : comp_op (kind.Symbol s) ≡ Some op
        → ((bytes : List ℕ) (place : ℕ) (others : List Lexeme)
        → StopsSum (lexeme (word.Symbol s) bytes place ∷ others)) → Ready Sum left
        → Ready Sum right →
        (deeper : ℕ) (xs middle rest : List Lexeme) → Begins most (expr_words left) xs middle
        → Begins most (word.Symbol s ∷ expr_words right) middle rest → StopsSum rest →
        Reads (SameExpr (Pair at op left right)) rest (expr_depth (Pair at op left right))
        (suc deeper) ((levels most (suc deeper)).comp xs)
    comp_split is starts before after deeper xs middle rest first (more {lexemes =
        others} w bytes place bound b) stops =
        once_pair deeper comp_op (levels most deeper).sum left right at op
        (lexeme (word.Symbol s) bytes place) others is (before.reads (suc deeper) xs _ first
        (starts bytes place others)) (after.reads deeper _ rest b stops)

    comp_reads : comp_op (kind.Symbol s) ≡ Some op
        → ((bytes : List ℕ) (place : ℕ) (others : List Lexeme)
        → StopsSum (lexeme (word.Symbol s) bytes place ∷ others)) → Ready Sum left
        → Ready Sum right →
        (budget : ℕ) (xs rest : List Lexeme)
        → Begins most ((expr_words left ++ word.Symbol s ∷ []) ++ expr_words right) xs rest
        → StopsComp rest →
        Reads (SameExpr (Pair at op left right)) rest (expr_depth (Pair at op left right)) budget
        ((levels most budget).comp xs)
    comp_reads is starts before after zero xs rest b stops =
        let parts : Split most (expr_words left) (word.Symbol s ∷ expr_words right) xs rest =
        split_at (expr_words left) (word.Symbol s) (expr_words right) b in
        too_deep_at most Comp xs (expr_depth (Pair at op left right))
        (before.opens xs parts.middle parts.first).begins (omega arith)
    comp_reads is starts before after (suc deeper) xs rest b stops =
        let parts : Split most (expr_words left) (word.Symbol s ∷ expr_words right) xs rest =
        split_at (expr_words left) (word.Symbol s) (expr_words right) b in
        comp_split is starts before after deeper xs parts.middle rest parts.first parts.then
        (tighter (ends Sum (head_kind rest)) (comp_op (head_kind rest)) stops)

    pub comp_pair : comp_op (kind.Symbol s) ≡ Some op
        → ((bytes : List ℕ) (place : ℕ) (others : List Lexeme)
        → StopsSum (lexeme (word.Symbol s) bytes place ∷ others)) → Ready Sum left
        → Ready Sum right →
        (opens : OpensAt (Pair at op left right))
        → (expr_words (Pair at op left right) ≡ (expr_words left ++ word.Symbol s ∷ []) ++
        expr_words right) → Ready Comp (Pair at op left right)
    comp_pair is starts before after opens words = record {
      opens = opens;
      reads = λ budget xs rest b stops. comp_reads is starts before after budget xs rest
          (subst (λ those. Begins most those xs rest) words b) stops;
      going = tt;
    }
