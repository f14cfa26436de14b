-- The rules of statements are local.
use Rattle.std.proofs.Common.{◌≡◌, ℕ, suc, zero, Bool, true, false, List, [], ◌∷◌, Option, Some, None, refl}
use Rattle.std.proofs.lemmas.Bool.{false≢true}
use Rattle.zpl_tokens.specs.declared.Kind.TheVariants as kind
use Rattle.zpl_tokens.specs.declared.keywords.Key.TheVariants as key
use Rattle.zpl_tokens.specs.declared.symbols.Sym.TheVariants as sym
use Rattle.zpl_tree.specs.Syntax.{Name, Expr, Str, Value, Stmt, Prefixed, Stmts, ThenStmt, Assign, Invoke, Block, If, While, Repeat, For, Border, Write, Return, Tested, ThenArm, Else}
use Rattle.zpl_parse.specs.declared.classes.Start.{Start}
use Rattle.zpl_parse.specs.declared.classes.Start.TheVariants as start
use Rattle.zpl_parse.specs.Classes.{assigning, start_of, begins_stmt, without_of, down_of}
use Rattle.zpl_grammar.specs.Lexeme.{Lexeme, head_kind, behind}
use Rattle.zpl_parse.specs.Outcome.{Reader, made, too_deep}
use Rattle.zpl_parse.specs.Statements.{mask, prefix, prefixes, stmts, item, some_items, items, assign_or_call, body_end, arm, arms, otherwise, choice, while_loop, repeat_loop, step, way_down, for_head, for_loop, form_by, stmt_over, stmt}
use Rattle.zpl_parse.proofs.Local.Base.{IsLocal, LocalAt, local_then, local_made, local_done, local_wrong, local_behind, local_by_where, local_by, local_if, local_option}
use Rattle.zpl_parse.proofs.Local.Tokens.{next_told, kind_told, at_told, symbol_local, keyword_local, name_local, string_local, names_local, closing_local, Turns, local_turns, local_loop}
use Rattle.zpl_parse.proofs.Local.Expressions.{IsReady, local_taken, actuals_local, inner_local}

mask_local : {Exact Sure : Type 0} → IsLocal Exact Sure mask mask
mask_local =
    local_option (kind_told without_of) local_done (λ without.
    local_made (λ name. Some (record { name = name; without = without })) (local_behind name_local))

prefix_local : {Exact Sure : Type 0} {expr expr' : Reader Expr} → IsReady Exact Sure expr expr'
    → {m m' : ℕ} → Turns Exact m m' →
    IsLocal Exact Sure (prefix m expr) (prefix m' expr')
prefix_local ready turns =
    local_then (symbol_local sym.OpenBracket) (λ at. local_then (inner_local ready turns) (λ region.
    local_then mask_local (λ masked. local_made (λ end. record {
      at = at;
      region = region;
      mask =
          masked;
    }) (symbol_local sym.CloseBracket))))

pub prefixes_local : {Exact Sure : Type 0} {expr expr' : Reader Expr}
    → IsReady Exact Sure expr expr' → {m m' : ℕ} → Turns Exact m m' →
    IsLocal Exact Sure (prefixes m expr) (prefixes m' expr')
prefixes_local {expr = expr} {expr' = expr'} ready =
    local_turns (λ m. prefixes m expr) (λ m. prefixes m expr') (λ l. refl) (λ l. tt)
    (λ m m' turns before.
    local_if (next_told (kind.Symbol sym.OpenBracket)) (local_then (prefix_local ready turns)
    (λ first. local_made (λ others. first ∷ others) before)) local_done)

pub stmts_local : {Exact Sure : Type 0} {stmt stmt' : Reader Stmt} → IsLocal Exact Sure stmt stmt'
    → {m m' : ℕ} → Turns Exact m m' →
    IsLocal Exact Sure (stmts m stmt) (stmts m' stmt')
stmts_local {stmt = stmt} {stmt' = stmt'} h =
    local_turns (λ m. stmts m stmt) (λ m. stmts m stmt') (λ l. refl) (λ l. tt) (λ m m' turns before.
    local_if (kind_told begins_stmt) (local_then h (λ first. local_made (ThenStmt first) before))
    local_done)

item_local : {Exact Sure : Type 0} {expr expr' : Reader Expr} → IsLocal Exact Sure expr expr'
    → IsLocal Exact Sure (item expr) (item expr')
item_local h = local_if (next_told kind.Str) (local_made Str string_local) (local_made Value h)

some_items_local : {Exact Sure : Type 0} {expr expr' : Reader Expr} → IsLocal Exact Sure expr expr'
    → {m m' : ℕ} → Turns Exact m m' →
    IsLocal Exact Sure (some_items m expr) (some_items m' expr')
some_items_local {expr = expr} {expr' = expr'} h =
    local_turns (λ m. some_items m expr) (λ m. some_items m expr') (λ l. refl) (λ l. tt)
    (λ m m' turns before.
    local_then (item_local h) (λ first. local_if (next_told (kind.Symbol sym.Comma))
    (local_made (λ others. first ∷ others) (local_behind before)) local_done))

items_local : {Exact Sure : Type 0} {expr expr' : Reader Expr} → IsLocal Exact Sure expr expr'
    → {m m' : ℕ} → Turns Exact m m' →
    IsLocal Exact Sure (items m expr) (items m' expr')
items_local h turns = local_if (next_told (kind.Symbol sym.CloseParen)) local_taken
    (local_then (some_items_local h turns) (λ those.
    local_made (λ at. those) (symbol_local sym.CloseParen)))

assign_or_call_local : {Exact Sure : Type 0} {expr expr' : Reader Expr}
    → IsLocal Exact Sure expr expr' → {m m' : ℕ} → Turns Exact m m' → (target : Name) →
    IsLocal Exact Sure (assign_or_call m expr target) (assign_or_call m' expr' target)
assign_or_call_local h turns target = local_option (kind_told assigning)
    (local_then (symbol_local sym.OpenParen) (λ at. local_then (actuals_local h turns) (λ those.
    local_made (λ end. Invoke target those) (symbol_local sym.Semicolon))))
    (λ op. local_then (local_behind h) (λ value. local_made (λ at. Assign target op value)
    (symbol_local sym.Semicolon)))

pub body_end_local : {Exact Sure : Type 0} {body body' : Reader Stmts}
    → IsLocal Exact Sure body body' → IsLocal Exact Sure (body_end body) (body_end body')
body_end_local h = local_then h (λ those. local_made (λ at. those) closing_local)

arm_local : {Exact Sure : Type 0} {expr expr' : Reader Expr} {body body' : Reader Stmts}
    → IsLocal Exact Sure expr expr' → IsLocal Exact Sure body body' → (at : ℕ) →
    IsLocal Exact Sure (arm expr body at) (arm expr' body' at)
arm_local h g at =
    local_then h (λ test. local_then (keyword_local key.Then) (λ then.
    local_made (Tested at test) g))

arms_local : {Exact Sure : Type 0} {expr expr' : Reader Expr} {body body' : Reader Stmts}
    → IsLocal Exact Sure expr expr' → IsLocal Exact Sure body body' → {m m' : ℕ}
    → Turns Exact m m' →
    (at : ℕ) → IsLocal Exact Sure (arms m expr body at) (arms m' expr' body' at)
arms_local {expr = expr} {expr' = expr'} {body = body} {body' = body'} h g =
    local_loop (λ m at. arms m expr body at) (λ m at. arms m expr' body' at) (λ at l. refl) (λ at l.
    tt) (λ m m' turns before at.
    local_then (arm_local h g at) (λ first. local_if (next_told (kind.Word key.Elsif))
    (local_by (λ place l. made (ThenArm first) (arms m expr body place (behind l))) (λ place l.
    made (ThenArm first) (arms m' expr' body' place (behind l))) at_told
    (λ place. local_made (ThenArm first) (local_behind (before place))))
    local_done))

otherwise_local : {Exact Sure : Type 0} {body body' : Reader Stmts} → IsLocal Exact Sure body body'
    → IsLocal Exact Sure (otherwise body) (otherwise body')
otherwise_local g =
    local_if (next_told (kind.Word key.Else)) (local_made Else (local_behind g)) local_done

choice_local : {Exact Sure : Type 0} {expr expr' : Reader Expr} {body body' : Reader Stmts}
    → IsLocal Exact Sure expr expr' → IsLocal Exact Sure body body' → {m m' : ℕ}
    → Turns Exact m m' →
    (at : ℕ) → IsLocal Exact Sure (choice m expr body at) (choice m' expr' body' at)
choice_local h g turns at =
    local_then (arms_local h g turns at) (λ tested. local_then (otherwise_local g) (λ other.
    local_made (λ end. If tested other) closing_local))

while_local : {Exact Sure : Type 0} {expr expr' : Reader Expr} {body body' : Reader Stmts}
    → IsLocal Exact Sure expr expr' → IsLocal Exact Sure body body' →
    IsLocal Exact Sure (while_loop expr body) (while_loop expr' body')
while_local h g =
    local_then h (λ test. local_then (keyword_local key.Do) (λ at.
    local_made (While test) (body_end_local g)))

repeat_local : {Exact Sure : Type 0} {expr expr' : Reader Expr} {body body' : Reader Stmts}
    → IsLocal Exact Sure expr expr' → IsLocal Exact Sure body body' →
    IsLocal Exact Sure (repeat_loop expr body) (repeat_loop expr' body')
repeat_local h g =
    local_then g (λ those. local_then (keyword_local key.Until) (λ until.
    local_then h (λ test. local_made (λ end. Repeat those until test)
    (symbol_local sym.Semicolon))))

step_local : {Exact Sure : Type 0} {expr expr' : Reader Expr} → IsLocal Exact Sure expr expr'
    → IsLocal Exact Sure (step expr) (step expr')
step_local h = local_if (next_told (kind.Word key.By)) (local_made Some (local_behind h)) local_done

way_down_local : {Exact Sure : Type 0} → IsLocal Exact Sure way_down way_down
way_down_local = local_option (kind_told down_of) local_wrong (λ down. local_taken)

for_head_local : {Exact Sure : Type 0} {expr expr' : Reader Expr} → IsLocal Exact Sure expr expr'
    → IsLocal Exact Sure (for_head expr) (for_head expr')
for_head_local h =
    local_then name_local (λ counter. local_then (symbol_local sym.Assign) (λ at.
    local_then h (λ first. local_then way_down_local (λ down. local_then h (λ last.
    local_made (λ stride. record {
      name = counter;
      first = first;
      down = down;
      last = last;
      step =
          stride;
    }) (step_local h))))))

for_local : {Exact Sure : Type 0} {expr expr' : Reader Expr} {body body' : Reader Stmts}
    → IsLocal Exact Sure expr expr' → IsLocal Exact Sure body body' →
    IsLocal Exact Sure (for_loop expr body) (for_loop expr' body')
for_local h g =
    local_then (for_head_local h) (λ head. local_then (keyword_local key.Do) (λ at.
    local_made (For head) (body_end_local g)))

form_by_local : {Exact Sure : Type 0} {expr expr' : Reader Expr} {body body' : Reader Stmts}
    → IsLocal Exact Sure expr expr' → IsLocal Exact Sure body body' → {m m' : ℕ}
    → Turns Exact m m' →
    (o : Option Start) → IsLocal Exact Sure (form_by m expr body o) (form_by m' expr' body' o)
form_by_local h g turns (Some start.Name) = local_then name_local (assign_or_call_local h turns)
form_by_local h g turns (Some start.Block) = local_made Block (local_behind (body_end_local g))
form_by_local {expr = expr} {expr' = expr'} {body = body} {body' =
    body'} h g {m} {m'} turns (Some start.If) =
    local_by (λ at l. choice m expr body at (behind l)) (λ at l.
    choice m' expr' body' at (behind l)) at_told (λ at.
    local_behind (choice_local h g turns at))
form_by_local h g turns (Some start.While) = local_behind (while_local h g)
form_by_local h g turns (Some start.Repeat) = local_behind (repeat_local h g)
form_by_local h g turns (Some start.For) = local_behind (for_local h g)
form_by_local h g turns (Some (start.Border kind)) =
    local_then (local_behind (names_local turns)) (λ those. local_made (λ at. Border kind those)
    (symbol_local sym.Semicolon))
form_by_local h g turns (Some (start.Write line)) =
    local_then (local_behind (symbol_local sym.OpenParen)) (λ at.
    local_then (items_local h turns) (λ those. local_made (λ end. Write line those)
    (symbol_local sym.Semicolon)))
form_by_local h g turns (Some start.Return) =
    local_then (local_behind h) (λ value.
    local_made (λ at. Return value) (symbol_local sym.Semicolon))
form_by_local h g turns None = local_wrong

stmt_over_local : {Exact Sure : Type 0} {expr expr' : Reader Expr} {body body' : Reader Stmts}
    → IsReady Exact Sure expr expr' → IsLocal Exact Sure body body' → {m m' : ℕ}
    → Turns Exact m m' →
    IsLocal Exact Sure (stmt_over m expr body) (stmt_over m' expr' body')
stmt_over_local {expr = expr} {expr' = expr'} {body = body} {body' = body'} ready g {m} {m'} turns =
    local_then (prefixes_local ready turns) (λ before.
    local_by (λ at rest. made (Prefixed at before) (form_by m expr body (start_of (head_kind rest))
    rest)) (λ at rest.
    made (Prefixed at before) (form_by m' expr' body' (start_of (head_kind rest)) rest)) at_told
    (λ at. local_made (Prefixed at before) (local_by (λ o. form_by m expr body o) (λ o.
    form_by m' expr' body' o) (kind_told start_of) (form_by_local ready.whole g turns))))

no_stmt_local : {Exact Sure : Type 0} → IsLocal Exact Sure {A =
    Stmt} (λ l. too_deep (begins_stmt (head_kind l)) l) (λ l. too_deep (begins_stmt (head_kind l))
    l)
no_stmt_local {Exact} {Sure} = local_by_where too_deep too_deep (kind_told begins_stmt) go
  where
    go : (b : Bool) (l : List Lexeme) → begins_stmt (head_kind l) ≡ b → LocalAt Exact Sure {A =
        Stmt} (too_deep b) l (too_deep b l)
    go true [] is = absurd (false≢true is)
    go true (x ∷ rest) is = (x, [], refl, λ sure others. tt)
    go false l is = ([], refl, λ exact others head. tt)

pub stmt_local : {Exact Sure : Type 0} {expr expr' : Reader Expr} → IsReady Exact Sure expr expr'
    → {m m' : ℕ} → Turns Exact m m' → (deep : ℕ) →
    IsLocal Exact Sure (stmt m expr deep) (stmt m' expr' deep)
stmt_local ready turns zero = no_stmt_local
stmt_local ready turns (suc deep) =
    stmt_over_local ready (stmts_local (stmt_local ready turns deep) turns) turns
