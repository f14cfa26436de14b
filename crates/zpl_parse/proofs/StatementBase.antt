-- Rules of statements behind the parts that are already read.
use Rattle.std.proofs.Common.{◌≡◌, ℕ, zero, suc, ◌-◌, ◌<◌, Bool, true, false, List, [], ◌∷◌, Option, None, Result, refl, sym, ap, subst, ◌∙◌, arith}
use Rattle.zpl_tokens.specs.declared.Kind.TheVariants as kind
use Rattle.zpl_tokens.specs.declared.keywords.Key.TheVariants as key
use Rattle.zpl_tokens.specs.declared.symbols.Sym.TheVariants as sym
use Rattle.zpl_tree.specs.Syntax.{Name, Expr, Mask, Prefix, Inner, Form, Invoke, If, While, Repeat, For, ForHead, Stmt, Prefixed, Stmts, NoStmt, ThenStmt, Arm, Tested, Arms, NoArm, ThenArm, Otherwise, NoElse, Else}
use Rattle.zpl_parse.specs.declared.classes.Start.{Start}
use Rattle.zpl_parse.specs.declared.faults.ParseFault.{ParseFault}
use Rattle.zpl_parse.specs.Following.{Follows}
use Rattle.zpl_parse.specs.Classes.{assigning, begins_stmt, start_of}
use Rattle.zpl_grammar.specs.Lexeme.{Lexeme, head_kind, head_at, behind}
use Rattle.zpl_parse.specs.Outcome.{Outcome, Done, Reader, and_then, made}
use Rattle.zpl_parse.specs.Tokens.{symbol, keyword, closing, next_is}
use Rattle.zpl_parse.specs.Expressions.{actuals, inner}
use Rattle.zpl_parse.specs.Statements.{assign_or_call, prefix, prefixes, mask, stmts, arm, arms, choice, otherwise, body_end, while_loop, repeat_loop, for_head, for_loop, form_by, stmt_over, stmt}

pub call_is : (few : ℕ) (expr : Reader Expr) (target : Name) (lexemes rest : List Lexeme) (at : ℕ) →
    assigning (head_kind lexemes) ≡ None → symbol sym.OpenParen lexemes ≡ Done at rest →
    assign_or_call few expr target lexemes ≡ and_then (actuals few expr rest) (λ those after. made (λ end. Invoke target those) (symbol sym.Semicolon after))
call_is few expr target lexemes rest at none opened = rw (none, opened, assign_or_call) refl

pub prefix_is : (few : ℕ) (expr : Reader Expr) (lexemes rest : List Lexeme) (at : ℕ) → symbol sym.OpenBracket lexemes ≡ Done at rest →
    prefix few expr lexemes ≡ and_then (inner few expr rest) (λ region after. and_then (mask after) (λ masked last.
    made (λ end. record { at = at; region = region; mask = masked }) (symbol sym.CloseBracket last)))
prefix_is few expr lexemes rest at opened = rw opened refl

pub prefix_region : (few : ℕ) (expr : Reader Expr) (lexemes rest after : List Lexeme) (at : ℕ) (region : Inner) →
    symbol sym.OpenBracket lexemes ≡ Done at rest → inner few expr rest ≡ Done region after →
    prefix few expr lexemes ≡ and_then (mask after) (λ masked last. made (λ end. record { at = at; region = region; mask = masked }) (symbol sym.CloseBracket last))
prefix_region few expr lexemes rest after at region opened is = rw (opened, is) refl

pub prefix_mask : (few : ℕ) (expr : Reader Expr) (lexemes rest after last : List Lexeme) (at : ℕ) (region : Inner) (masked : Option Mask) →
    symbol sym.OpenBracket lexemes ≡ Done at rest → inner few expr rest ≡ Done region after → mask after ≡ Done masked last →
    prefix few expr lexemes ≡ made (λ end. record { at = at; region = region; mask = masked }) (symbol sym.CloseBracket last)
prefix_mask few expr lexemes rest after last at region masked opened is on = rw (opened, is, on) refl

-- one more turn of a loop, or none
pub stmts_goes : (less : ℕ) (stmt : Reader Stmt) (lexemes : List Lexeme) → begins_stmt (head_kind lexemes) ≡ true →
    stmts (suc less) stmt lexemes ≡ and_then (stmt lexemes) (λ first rest. made (ThenStmt first) (stmts less stmt rest))
stmts_goes less stmt lexemes goes =
    let by : Bool → Outcome Stmts = λ b. elim b [
      | false ↦ Done NoStmt lexemes
      | true ↦ and_then (stmt lexemes) (λ first rest. made (ThenStmt first) (stmts less stmt rest))
    ] in
    ap by goes

pub stmts_ends : (less : ℕ) (stmt : Reader Stmt) (lexemes : List Lexeme) → begins_stmt (head_kind lexemes) ≡ false →
    stmts (suc less) stmt lexemes ≡ Done NoStmt lexemes
stmts_ends less stmt lexemes ends =
    let by : Bool → Outcome Stmts = λ b. elim b [
      | false ↦ Done NoStmt lexemes
      | true ↦ and_then (stmt lexemes) (λ first rest. made (ThenStmt first) (stmts less stmt rest))
    ] in
    ap by ends

pub prefixes_go : (less : ℕ) (expr : Reader Expr) (lexemes : List Lexeme) → next_is (kind.Symbol sym.OpenBracket) lexemes ≡ true →
    prefixes (suc less) expr lexemes ≡ and_then (prefix less expr lexemes) (λ first rest. made (λ others. first ∷ others) (prefixes less expr rest))
prefixes_go less expr lexemes goes =
    let by : Bool → Outcome (List Prefix) = λ b. elim b [
      | false ↦ Done [] lexemes
      | true ↦ and_then (prefix less expr lexemes) (λ first rest. made (λ others. first ∷ others) (prefixes less expr rest))
    ] in
    ap by goes

pub prefixes_end : (less : ℕ) (expr : Reader Expr) (lexemes : List Lexeme) → next_is (kind.Symbol sym.OpenBracket) lexemes ≡ false →
    prefixes (suc less) expr lexemes ≡ Done [] lexemes
prefixes_end less expr lexemes ends =
    let by : Bool → Outcome (List Prefix) = λ b. elim b [
      | false ↦ Done [] lexemes
      | true ↦ and_then (prefix less expr lexemes) (λ first rest. made (λ others. first ∷ others) (prefixes less expr rest))
    ] in
    ap by ends

pub arms_go : (less : ℕ) (expr : Reader Expr) (body : Reader Stmts) (at : ℕ) (lexemes rest : List Lexeme) (first : Arm) →
    arm expr body at lexemes ≡ Done first rest → next_is (kind.Word key.Elsif) rest ≡ true →
    arms (suc less) expr body at lexemes ≡ made (ThenArm first) (arms less expr body (head_at rest) (behind rest))
arms_go less expr body at lexemes rest first is goes =
    let by : Bool → Outcome Arms = λ b. elim b [
      | true ↦ made (ThenArm first) (arms less expr body (head_at rest) (behind rest))
      | false ↦ Done (ThenArm first NoArm) rest
    ] in
    let after : Arm → Reader Arms = λ first rest. elim (next_is (kind.Word key.Elsif) rest) [
      | true ↦ made (ThenArm first) (arms less expr body (head_at rest) (behind rest))
      | false ↦ Done (ThenArm first NoArm) rest
    ] in
    ap (λ o. and_then o after) is ∙ ap by goes

pub arms_end : (less : ℕ) (expr : Reader Expr) (body : Reader Stmts) (at : ℕ) (lexemes rest : List Lexeme) (first : Arm) →
    arm expr body at lexemes ≡ Done first rest → next_is (kind.Word key.Elsif) rest ≡ false →
    arms (suc less) expr body at lexemes ≡ Done (ThenArm first NoArm) rest
arms_end less expr body at lexemes rest first is ends =
    let by : Bool → Outcome Arms = λ b. elim b [
      | true ↦ made (ThenArm first) (arms less expr body (head_at rest) (behind rest))
      | false ↦ Done (ThenArm first NoArm) rest
    ] in
    let after : Arm → Reader Arms = λ first rest. elim (next_is (kind.Word key.Elsif) rest) [
      | true ↦ made (ThenArm first) (arms less expr body (head_at rest) (behind rest))
      | false ↦ Done (ThenArm first NoArm) rest
    ] in
    ap (λ o. and_then o after) is ∙ ap by ends

-- the parts of a statement that are left, where those before are read
pub arm_body : (expr : Reader Expr) (body : Reader Stmts) (at : ℕ) (lexemes rest after : List Lexeme) (test : Expr) (word : ℕ) →
    expr lexemes ≡ Done test rest → keyword key.Then rest ≡ Done word after →
    arm expr body at lexemes ≡ made (Tested at test) (body after)
arm_body expr body at lexemes rest after test word is on = rw (is, on) refl

pub choice_arms : (few : ℕ) (expr : Reader Expr) (body : Reader Stmts) (at : ℕ) (lexemes rest : List Lexeme) (tested : Arms) →
    arms few expr body at lexemes ≡ Done tested rest →
    choice few expr body at lexemes ≡ and_then (otherwise body rest) (λ other after. made (λ end. If tested other) (closing after))
choice_arms few expr body at lexemes rest tested is = rw is refl

pub choice_otherwise : (few : ℕ) (expr : Reader Expr) (body : Reader Stmts) (at : ℕ) (lexemes rest after : List Lexeme) (tested : Arms) (other : Otherwise) →
    arms few expr body at lexemes ≡ Done tested rest → otherwise body rest ≡ Done other after →
    choice few expr body at lexemes ≡ made (λ end. If tested other) (closing after)
choice_otherwise few expr body at lexemes rest after tested other is on =
    choice_arms few expr body at lexemes rest tested is
    ∙ ap (λ o. and_then o (λ other after. made (λ end. If tested other) (closing after))) on

pub otherwise_goes : (body : Reader Stmts) (lexemes : List Lexeme) → next_is (kind.Word key.Else) lexemes ≡ true →
    otherwise body lexemes ≡ made Else (body (behind lexemes))
otherwise_goes body lexemes goes =
    let by : Bool → Outcome Otherwise = λ b. elim b [
      | true ↦ made Else (body (behind lexemes))
      | false ↦ Done NoElse lexemes
    ] in
    ap by goes

pub while_do : (expr : Reader Expr) (body : Reader Stmts) (lexemes rest after : List Lexeme) (test : Expr) (word : ℕ) →
    expr lexemes ≡ Done test rest → keyword key.Do rest ≡ Done word after →
    while_loop expr body lexemes ≡ made (While test) (body_end body after)
while_do expr body lexemes rest after test word is on = rw (is, on) refl

pub repeat_until : (expr : Reader Expr) (body : Reader Stmts) (lexemes rest after last : List Lexeme) (those : Stmts) (until : ℕ) (test : Expr) →
    body lexemes ≡ Done those rest → keyword key.Until rest ≡ Done until after → expr after ≡ Done test last →
    repeat_loop expr body lexemes ≡ made (λ end. Repeat those until test) (symbol sym.Semicolon last)
repeat_until expr body lexemes rest after last those until test is on then = rw (is, on, then) refl

pub for_do : (expr : Reader Expr) (body : Reader Stmts) (lexemes rest after : List Lexeme) (head : ForHead) (word : ℕ) →
    for_head expr lexemes ≡ Done head rest → keyword key.Do rest ≡ Done word after →
    for_loop expr body lexemes ≡ made (For head) (body_end body after)
for_do expr body lexemes rest after head word is on =
    let next : ForHead → Reader Form = λ head rest. and_then (keyword key.Do rest) (λ at after. made (For head) (body_end body after)) in
    ap (λ o. and_then o next) is ∙ ap (λ o. and_then o (λ at after. made (For head) (body_end body after))) on

pub stmt_deeper : (few : ℕ) (expr : Reader Expr) (deep : ℕ) (lexemes : List Lexeme) → 0 < deep →
    stmt few expr deep lexemes ≡ stmt_over few expr (stmts few (stmt few expr (deep - 1))) lexemes
stmt_deeper few expr zero lexemes h = absurd (omega arith)
stmt_deeper few expr (suc deep) lexemes h =
    let e : suc deep - 1 ≡ deep = omega arith in
    rw e refl

pub stmt_form : (few : ℕ) (expr : Reader Expr) (body : Reader Stmts) (lexemes rest : List Lexeme) (before : List Prefix) →
    prefixes few expr lexemes ≡ Done before rest →
    stmt_over few expr body lexemes ≡ made (Prefixed (head_at rest) before) (form_by few expr body (start_of (head_kind rest)) rest)
stmt_form few expr body lexemes rest before is =
    ap (λ o. and_then o (λ before rest. made (Prefixed (head_at rest) before) (form_by few expr body (start_of (head_kind rest)) rest))) is

pub started : (few : ℕ) (expr : Reader Expr) (body : Reader Stmts) (lexemes : List Lexeme) (start : Option Start) → start_of (head_kind lexemes) ≡ start →
    form_by few expr body (start_of (head_kind lexemes)) lexemes ≡ form_by few expr body start lexemes
started few expr body lexemes start is = ap (λ s. form_by few expr body s lexemes) is

-- an outcome by another name
pub follows_same : {V A : Type 0} (result : Result V ParseFault) (done : V → Outcome A) (whole same : Outcome A) → whole ≡ same → Follows result done same → Follows result done whole
follows_same result done whole same is h = subst (λ o. Follows result done o) (sym is) h
