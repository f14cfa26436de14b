-- Steps of rules of declarations, behind what is already read.
use Rattle.std.proofs.Common.{◌≡◌, ℕ, suc, zero, ◌<◌, ◌≤◌, Bool, true, false, List, [], ◌∷◌, ◌++◌, map, length, refl, sym, ap, subst, ◌∙◌, arith}
use Rattle.std.proofs.lemmas.List.{length-map}
use Rattle.zpl_text.specs.declared.tokens.Token.{Token}
use Rattle.zpl_tokens.specs.declared.Kind.{Kind}
use Rattle.zpl_tokens.specs.declared.Kind.TheVariants as kind
use Rattle.zpl_tokens.specs.declared.symbols.Sym.TheVariants as symbols
use Rattle.zpl_tokens.specs.declared.keywords.Key.TheVariants as key
use Rattle.zpl_tree.specs.Syntax.{Name, Expr, VarDef, Param, Decl}
use Rattle.zpl_parse.specs.declared.faults.ParseFault.{ParseFault}
use Rattle.zpl_grammar.specs.Lexeme.{Lexeme, lexemes_of, lexeme_of, behind, head_kind}
use Rattle.zpl_parse.specs.Outcome.{Outcome, Done, Wrong, Deep, Reader, and_then, made}
use Rattle.zpl_parse.specs.Following.{IsFaultOf}
use Rattle.zpl_parse.specs.Tokens.{next_is, name_of_kind, names}
use Rattle.zpl_parse.specs.Classes.{part_of}
use Rattle.zpl_parse.specs.Declarations.{group, variables, param, some_params, locals, decl_by, decls}
use Rattle.zpl_parse.specs.Whole.{most_nested}
use Rattle.zpl_parse.proofs.Follows.{fault_then}
use Rattle.zpl_parse.proofs.Loops.{IsGathered, prepended}

-- a fault behind what is done
pub fault_next : {A B : Type 0} (fault : ParseFault) (o : Outcome A) (k : A → Reader B) (x : A) (rest : List Lexeme) → o ≡ Done x rest → IsFaultOf fault (k x rest) → IsFaultOf fault (and_then o k)
fault_next fault o k x rest is h = subst (λ o. IsFaultOf fault (and_then o k)) (sym is) h

-- what is behind what is done
pub done_next : {A B : Type 0} (o : Outcome A) (k : A → Reader B) (x : A) (rest : List Lexeme) (whole : Outcome B) → o ≡ Done x rest → k x rest ≡ whole → and_then o k ≡ whole
done_next o k x rest whole is h = ap (λ o. and_then o k) is ∙ h

pub done_made : {A B : Type 0} (f : A → B) (o : Outcome A) (x : A) (rest : List Lexeme) → o ≡ Done x rest → made f o ≡ Done (f x) rest
done_made f o x rest is = ap (made f) is

abbrev either : {A : Type 0} → Bool → Outcome A → Outcome A → Outcome A
either b one other = elim b [ true ↦ one | false ↦ other ]

either-true : {A : Type 0} (b : Bool) (one other : Outcome A) → b ≡ true → either b one other ≡ one
either-true b one other is = rw is refl

either-false : {A : Type 0} (b : Bool) (one other : Outcome A) → b ≡ false → either b one other ≡ other
either-false b one other is = rw is refl

-- the last of a group
pub group_ends : {A : Type 0} (less : ℕ) (definition : Reader A) (lexemes rest : List Lexeme) (x : A) → definition lexemes ≡ Done x rest → next_is kind.Name rest ≡ false → group (suc less) definition lexemes ≡ Done (x ∷ []) rest
group_ends less definition lexemes rest x read ends = done_next (definition lexemes) _ x rest _ read (either-false (next_is kind.Name rest) (made (λ others. x ∷ others) (group less definition rest)) (Done (x ∷ []) rest) ends)

pub group_goes : {A : Type 0} (less : ℕ) (definition : Reader A) (lexemes rest : List Lexeme) (x : A) → definition lexemes ≡ Done x rest → next_is kind.Name rest ≡ true → group (suc less) definition lexemes ≡ made (λ others. x ∷ others) (group less definition rest)
group_goes less definition lexemes rest x read goes = done_next (definition lexemes) _ x rest _ read (either-true (next_is kind.Name rest) (made (λ others. x ∷ others) (group less definition rest)) (Done (x ∷ []) rest) goes)

-- with as much as there are lexemes, one turn more makes no other names
behind_name : (k : Kind) (first : Lexeme) (rest : List Lexeme) (f g : Name → Reader (List Name)) → ((x : Name) → f x rest ≡ g x rest) → and_then (name_of_kind k first rest) f ≡ and_then (name_of_kind k first rest) g
behind_name kind.Name first rest f g same = same (record { text = first.bytes; at = first.at })
behind_name (kind.Number value) first rest f g same = refl
behind_name kind.Str first rest f g same = refl
behind_name kind.Ditto first rest f g same = refl
behind_name (kind.Symbol symbol) first rest f g same = refl
behind_name (kind.Word word) first rest f g same = refl
behind_name kind.End first rest f g same = refl

more_names : (few : ℕ) (rest : List Lexeme) (first : Name) → names (suc few) (behind rest) ≡ names few (behind rest) → (b : Bool) →
    either b (made (λ others. first ∷ others) (names (suc few) (behind rest))) (Done (first ∷ []) rest) ≡ either b (made (λ others. first ∷ others) (names few (behind rest))) (Done (first ∷ []) rest)
more_names few rest first same true = ap (made (λ others. first ∷ others)) same
more_names few rest first same false = refl

behind-le : (few : ℕ) (rest : List Lexeme) → length rest ≤ few → length (behind rest) ≤ few
behind-le few [] h = h
behind-le few (x ∷ rest) h = omega arith

names_enough : (few : ℕ) (lexemes : List Lexeme) → length lexemes ≤ few → names (suc few) lexemes ≡ names few lexemes
names_enough zero [] h = refl
names_enough zero (first ∷ rest) h = absurd (omega arith)
names_enough (suc few) [] h = refl
names_enough (suc few) (first ∷ rest) h = behind_name first.kind first rest _ _ (λ x. more_names few rest x (names_enough few (behind rest) (behind-le few rest (omega arith))) (next_is (kind.Symbol symbols.Comma) rest))

pub names_few : (text : List ℕ) (tokens : List Token) (few : ℕ) → length tokens ≤ few → names (suc few) (lexemes_of text tokens) ≡ names few (lexemes_of text tokens)
names_few text tokens few h = let same : length (lexemes_of text tokens) ≡ length tokens = length-map tokens (lexeme_of text) in names_enough few (lexemes_of text tokens) (omega (arith, same))

-- a list that was read at once is put before the others
many : {X A : Type 0} (f : X → A) (xs : List X) (l : List A) → map f xs ++ l ≡ prepended (λ x found. f x ∷ found) xs l
many f [] l = refl
many f (x ∷ xs) l = ap (λ l. f x ∷ l) (many f xs l)

prepended-many : {X A : Type 0} (f : X → A) (found xs : List X) (l : List A) → prepended (λ x found. f x ∷ found) found (map f xs ++ l) ≡ prepended (λ x found. f x ∷ found) (found ++ xs) l
prepended-many f [] xs l = many f xs l
prepended-many f (y ∷ found) xs l = ap (λ l. f y ∷ l) (prepended-many f found xs l)

made_many : {X A : Type 0} (f : X → A) (found xs : List X) (o : Outcome (List A)) →
    made (prepended (λ x found. f x ∷ found) found) (made (λ others. map f xs ++ others) o) ≡ made (prepended (λ x found. f x ∷ found) (found ++ xs)) o
made_many f found xs (Done tree rest) = ap (λ l. Done l rest) (prepended-many f found xs tree)
made_many f found xs (Wrong rest) = refl
made_many f found xs (Deep rest) = refl

pub gathered_many : {X A : Type 0} (f : X → A) (rule : ℕ → Reader (List A)) (most : ℕ) (whole : List Lexeme) (found : List X) (rest : List Lexeme) (left : ℕ) (xs : List X) (after : List Lexeme) (fewer : ℕ) →
    IsGathered (λ x found. f x ∷ found) rule most whole found rest left → fewer < left → ((less : ℕ) → left < suc less → rule (suc less) rest ≡ made (λ others. map f xs ++ others) (rule less after)) →
    IsGathered (λ x found. f x ∷ found) rule most whole (found ++ xs) after fewer
gathered_many f rule most whole found rest left xs after fewer h shorter step = go h.less h.enough h.is
  where
    go : (less : ℕ) → left < less → rule most whole ≡ made (prepended (λ x found. f x ∷ found) found) (rule less rest) → IsGathered (λ x found. f x ∷ found) rule most whole (found ++ xs) after fewer
    go zero enough is = absurd (omega arith)
    go (suc less) enough is = record {
      less = less;
      enough = omega arith;
      is = is ∙ ap (made (prepended (λ x found. f x ∷ found) found)) (step less enough) ∙ made_many f found xs (rule less after);
    }

-- how deep statements may nest in a body, as a number
pub nested_is : 199 ≡ most_nested
unfolding most_nested
nested_is = refl

-- the last of some parameters, and one before others
pub params_end : (less : ℕ) (expr : Reader Expr) (lexemes rest : List Lexeme) (x : Param) → param less expr lexemes ≡ Done x rest → next_is (kind.Symbol symbols.Semicolon) rest ≡ false → some_params (suc less) expr lexemes ≡ Done (x ∷ []) rest
params_end less expr lexemes rest x read ends = done_next (param less expr lexemes) _ x rest _ read (either-false (next_is (kind.Symbol symbols.Semicolon) rest) (made (λ others. x ∷ others) (some_params less expr (behind rest))) (Done (x ∷ []) rest) ends)

pub params_go : (less : ℕ) (expr : Reader Expr) (lexemes rest : List Lexeme) (x : Param) → param less expr lexemes ≡ Done x rest → next_is (kind.Symbol symbols.Semicolon) rest ≡ true → some_params (suc less) expr lexemes ≡ made (λ others. x ∷ others) (some_params less expr (behind rest))
params_go less expr lexemes rest x read goes = done_next (param less expr lexemes) _ x rest _ read (either-true (next_is (kind.Symbol symbols.Semicolon) rest) (made (λ others. x ∷ others) (some_params less expr (behind rest))) (Done (x ∷ []) rest) goes)

-- a group of local variables
abbrev groups : ℕ → Reader Expr → List Lexeme → Outcome (List VarDef)
groups less expr lexemes = and_then (group less (variables less expr) (behind lexemes)) (λ first rest. made (λ others. first ++ others) (locals less expr rest))

locals_are : (less : ℕ) (expr : Reader Expr) (lexemes : List Lexeme) → next_is (kind.Word key.Var) lexemes ≡ true → locals (suc less) expr lexemes ≡ groups less expr lexemes
locals_are less expr lexemes goes = either-true (next_is (kind.Word key.Var) lexemes) (groups less expr lexemes) (Done [] lexemes) goes

pub locals_end : (less : ℕ) (expr : Reader Expr) (lexemes : List Lexeme) → next_is (kind.Word key.Var) lexemes ≡ false → locals (suc less) expr lexemes ≡ Done [] lexemes
locals_end less expr lexemes ends = either-false (next_is (kind.Word key.Var) lexemes) (groups less expr lexemes) (Done [] lexemes) ends

pub locals_go : (less : ℕ) (expr : Reader Expr) (lexemes rest : List Lexeme) (xs : List VarDef) → next_is (kind.Word key.Var) lexemes ≡ true → group less (variables less expr) (behind lexemes) ≡ Done xs rest → locals (suc less) expr lexemes ≡ made (λ others. xs ++ others) (locals less expr rest)
locals_go less expr lexemes rest xs goes read = locals_are less expr lexemes goes ∙ ap (λ o. and_then o (λ first rest. made (λ others. first ++ others) (locals less expr rest))) read

pub locals_fault : (less : ℕ) (expr : Reader Expr) (lexemes : List Lexeme) (fault : ParseFault) → next_is (kind.Word key.Var) lexemes ≡ true → IsFaultOf fault (group less (variables less expr) (behind lexemes)) → IsFaultOf fault (locals (suc less) expr lexemes)
locals_fault less expr lexemes fault goes h = subst (IsFaultOf fault) (sym (locals_are less expr lexemes goes)) (fault_then fault (group less (variables less expr) (behind lexemes)) (λ first rest. made (λ others. first ++ others) (locals less expr rest)) h)

-- a declaration before others
abbrev further : ℕ → Reader Expr → ℕ → List Lexeme → Outcome (List Decl)
further less expr deep lexemes = and_then (decl_by less expr deep (part_of (head_kind lexemes)) lexemes) (λ first rest. made (λ others. first ∷ others) (decls less expr deep rest))

decls_are : (less : ℕ) (expr : Reader Expr) (deep : ℕ) (lexemes : List Lexeme) → next_is kind.End lexemes ≡ false → decls (suc less) expr deep lexemes ≡ further less expr deep lexemes
decls_are less expr deep lexemes goes = either-false (next_is kind.End lexemes) (Done [] (behind lexemes)) (further less expr deep lexemes) goes

pub decls_end : (less : ℕ) (expr : Reader Expr) (deep : ℕ) (lexemes : List Lexeme) → next_is kind.End lexemes ≡ true → decls (suc less) expr deep lexemes ≡ Done [] (behind lexemes)
decls_end less expr deep lexemes ends = either-true (next_is kind.End lexemes) (Done [] (behind lexemes)) (further less expr deep lexemes) ends

pub decls_go : (less : ℕ) (expr : Reader Expr) (deep : ℕ) (lexemes rest : List Lexeme) (x : Decl) → next_is kind.End lexemes ≡ false → decl_by less expr deep (part_of (head_kind lexemes)) lexemes ≡ Done x rest → decls (suc less) expr deep lexemes ≡ made (λ others. x ∷ others) (decls less expr deep rest)
decls_go less expr deep lexemes rest x goes read = decls_are less expr deep lexemes goes ∙ ap (λ o. and_then o (λ first rest. made (λ others. first ∷ others) (decls less expr deep rest))) read

pub decls_fault : (less : ℕ) (expr : Reader Expr) (deep : ℕ) (lexemes : List Lexeme) (fault : ParseFault) → next_is kind.End lexemes ≡ false → IsFaultOf fault (decl_by less expr deep (part_of (head_kind lexemes)) lexemes) → IsFaultOf fault (decls (suc less) expr deep lexemes)
decls_fault less expr deep lexemes fault goes h = subst (IsFaultOf fault) (sym (decls_are less expr deep lexemes goes)) (fault_then fault (decl_by less expr deep (part_of (head_kind lexemes)) lexemes) (λ first rest. made (λ others. first ∷ others) (decls less expr deep rest)) h)
