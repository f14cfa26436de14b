-- What an answer says, where it follows the rule of programs.
use Rattle.std.proofs.Common.{◌≡◌, ◌⊎◌, inl, inr, ℕ, suc, ◌<◌, List, length, Result, Ok, Err, Bor, refl, sym, ap, subst, ◌∙◌, arith}
use Rattle.std.specs.Result.{IsErrAnd, IfOk, MatchResult}
use Rattle.zpl_text.specs.declared.tokens.Token.{Token}
use Rattle.zpl_tokens.specs.declared.keywords.Key.TheVariants as key
use Rattle.zpl_tokens.specs.declared.symbols.Sym.TheVariants as sym
use Rattle.zpl_tree.specs.Syntax.{Name, Program}
use Rattle.zpl_tree.specs.declared.declarations.Program.{Program as Placed}
use Rattle.zpl_grammar.specs.Texts.{most_deep, IsShallowTree, IsSyntaxFault, IsTooDeep}
use Rattle.zpl_parse.specs.declared.faults.ParseFault.{ParseFault}
use Rattle.zpl_parse.specs.declared.faults.ParseFault.TheVariants.{Syntax, TooDeep, NoMemory}
use Rattle.zpl_parse.specs.Answers.{Reads, WantsMemory}
use Rattle.zpl_parse.specs.Following.{IsFaultOf}
use Rattle.zpl_grammar.specs.Lexeme.{Lexeme, lexemes_of, head_at}
use Rattle.zpl_parse.specs.Outcome.{Outcome, Done, Wrong, Deep, Reader, and_then, made}
use Rattle.zpl_parse.specs.Tokens.{keyword, name, symbol}
use Rattle.zpl_parse.specs.Expressions.{levels}
use Rattle.zpl_parse.specs.Whole.{any_expr, most_nested}
use Rattle.zpl_parse.specs.Declarations.{program, decls}
use Rattle.zpl_grammar.proofs.Faults.{tree_no_fault, tree_not_deep}
use Rattle.zpl_parse.proofs.OneTree.{length-lexemes_of}
use Rattle.zpl_parse.proofs.Steady.Declarations.{program_same}

-- the fault is the rule's outcome with any fuel that is enough
abbrev pub IsFaultHere : List ℕ → List Token → ParseFault → Type 0
IsFaultHere text tokens fault = (most : ℕ) → length tokens < most
    → IsFaultOf fault (program text most (lexemes_of text tokens))

-- what the rule makes with one bound it makes with each that is enough
same_bound : (text : List ℕ) (tokens : List Token) (most : ℕ) → length tokens < most
    → program text most (lexemes_of text tokens)
    ≡ program text (suc (length tokens)) (lexemes_of text tokens)
same_bound text tokens most enough =
    let long = length-lexemes_of text tokens in
    program_same text most (suc (length tokens)) (lexemes_of text tokens) (omega arith)
    (omega arith)

-- nothing is in between
abbrev pub IsReadOrRefused : List ℕ → List Token → Type 0
IsReadOrRefused text tokens =
    ((tree : Program) × IsShallowTree text tokens tree) ⊎ (((at : ℕ) × IsSyntaxFault text tokens at)
    ⊎ IsTooDeep text tokens)

pub read_or_refused : (text : List ℕ) (tokens : List Token) →
    ((tree : Program) (rest : List Lexeme)
    → program text (suc (length tokens)) (lexemes_of text tokens) ≡ Done tree rest
    → IsShallowTree text tokens tree) →
    ((at : ℕ) → IsFaultHere text tokens (Syntax at) → IsSyntaxFault text tokens at)
    → (IsFaultHere text tokens TooDeep → IsTooDeep text tokens) → IsReadOrRefused text tokens
read_or_refused text tokens read wrong deep =
    go (program text (suc (length tokens)) (lexemes_of text tokens)) refl
  where
    go : (o : Outcome Program) → program text (suc (length tokens)) (lexemes_of text tokens) ≡ o
        → IsReadOrRefused text tokens
    go (Done tree rest) is = inl (tree, read tree rest is)
    go (Wrong rest) is =
        inr (inl (
          head_at rest,
          wrong (head_at rest) (λ most enough. record {
            rest = rest;
            is =
                same_bound text tokens most enough ∙ is;
            place = refl;
          }),
        ))
    go (Deep rest) is =
        inr (inr (deep (λ most enough. record {
          rest = rest;
          is = same_bound text tokens most enough
              ∙ is;
        })))

-- a text that has a tree has no fault but want of memory
pub tree_wants_memory : (text : List ℕ) (tokens : List Token) (fault : ParseFault) (tree : Program)
    →
    ((at : ℕ) → IsFaultHere text tokens (Syntax at) → IsSyntaxFault text tokens at)
    → (IsFaultHere text tokens TooDeep → IsTooDeep text tokens) →
    IsFaultHere text tokens fault → IsShallowTree text tokens tree → WantsMemory fault
tree_wants_memory text tokens (Syntax at) tree wrong deep here is =
    tree_no_fault text tokens tree at is.tree.spelled (wrong at here)
tree_wants_memory text tokens TooDeep tree wrong deep here is =
    tree_not_deep text tokens tree is.tree.spelled is.shallow (deep here)
tree_wants_memory text tokens NoMemory tree wrong deep here is = tt

-- the same of an answer that passes the fault on
pub passed_reads : {V : Type 0} (fault : ParseFault) (r : Result V ParseFault) (Q : V → Type 0)
    → IsErrAnd r (λ e. e ≡ fault) → WantsMemory fault → Reads r Q
passed_reads fault (Ok x) Q is h = absurd is
passed_reads fault (Err e) Q is h = subst WantsMemory (sym is) h

pub passed_fault : {V : Type 0} (text : List ℕ) (tokens : List Token) (fault e : ParseFault)
    (r : Result V ParseFault) → IsErrAnd r (λ e. e ≡ fault) → r ≡ Err e
    → IsFaultHere text tokens fault → IsFaultHere text tokens e
passed_fault text tokens fault e (Ok x) is same here = absurd is
passed_fault text tokens fault e (Err f) is same here = let eq : fault ≡ e = cc in
    subst (IsFaultHere text tokens) eq here

-- what holds of the node that is placed holds of the answer
pub placed_if : (r : Result (Bor Placed) ParseFault) (node : Placed) (P : Placed → Type 0)
    → MatchResult r (λ placed. placed.now ≡ node) (λ e. e ≡ NoMemory) → P node
    → IfOk r (λ placed. P placed.now)
placed_if (Ok placed) node P is h = subst P (sym is) h
placed_if (Err e) node P is h = tt

pub placed_reads : (r : Result (Bor Placed) ParseFault) (node : Placed) (P : Placed → Type 0)
    → MatchResult r (λ placed. placed.now ≡ node) (λ e. e ≡ NoMemory) → P node
    → Reads r (λ placed. P placed.now)
placed_reads (Ok placed) node P is h = subst P (sym is) h
placed_reads (Err e) node P is h = subst WantsMemory (sym is) tt

-- and placing has no fault but want of memory
pub placed_fault : (r : Result (Bor Placed) ParseFault) (node : Placed) (e : ParseFault)
    → MatchResult r (λ placed. placed.now ≡ node) (λ e. e ≡ NoMemory) → r ≡ Err e → WantsMemory e
placed_fault (Ok placed) node e is same = absurd cc
placed_fault (Err f) node e is same = let eq : f ≡ e = cc in
    subst WantsMemory (sym (sym eq ∙ is)) tt

-- the declarations of a program behind its heading
abbrev body_of : List ℕ → ℕ → Name → Reader Program
body_of source most called lexemes =
    made (λ those. record {
      name = called;
      decls = those;
      source =
          source;
    }) (decls most (levels most most_deep).expr 199 lexemes)

pub program_on : (source : List ℕ) (most : ℕ) (lexemes behind_keyword behind_name last : List
    Lexeme) (at semicolon : ℕ) (called : Name) →
    keyword key.Program lexemes ≡ Done at behind_keyword → name behind_keyword
    ≡ Done called behind_name → symbol sym.Semicolon behind_name ≡ Done semicolon last →
    program source most lexemes ≡ made (λ those. record {
      name = called;
      decls = those;
      source =
          source;
    }) (decls most (any_expr most) most_nested last)
unfolding any_expr most_nested
program_on source most lexemes behind_keyword behind_name last at semicolon called first second
    third =
    ap (λ o. and_then o (λ at rest. and_then (name rest) (λ called after.
    and_then (symbol sym.Semicolon after) (λ semicolon last. body_of source most called last))))
    first
    ∙ ap (λ o. and_then o (λ called after. and_then (symbol sym.Semicolon after) (λ semicolon last.
    body_of source most called last))) second
    ∙ ap (λ o. and_then o (λ semicolon last. body_of source most called last)) third
