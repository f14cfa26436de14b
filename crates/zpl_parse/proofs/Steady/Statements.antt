-- The rules of statements are steady.
use Rattle.std.proofs.Common.{◌≡◌, ℕ, zero, suc, ◌<◌, ◌≤◌, Bool, true, false, List, [], ◌∷◌, length, Option, Some, None, refl, arith}
use Rattle.zpl_tokens.specs.declared.Kind.TheVariants as kind
use Rattle.zpl_tokens.specs.declared.keywords.Key.TheVariants as key
use Rattle.zpl_tokens.specs.declared.symbols.Sym.TheVariants as sym
use Rattle.zpl_tree.specs.Syntax.{Name, Expr, Mask, Prefix, ForHead, Item, Str, Value, Stmt, Prefixed, Stmts, NoStmt, ThenStmt, Form, Assign, Invoke, Block, If, While, Repeat, For, Border, Write, Return, Arm, Tested, Arms, NoArm, ThenArm, Otherwise, NoElse, Else}
use Rattle.zpl_parse.specs.declared.classes.Start.{Start}
use Rattle.zpl_parse.specs.declared.classes.Start.TheVariants as start
use Rattle.zpl_grammar.specs.Lexeme.{Lexeme, head_kind, head_at, behind, next_is}
use Rattle.zpl_parse.specs.Outcome.{Done, Reader, and_then, made}
use Rattle.zpl_parse.specs.Classes.{assigning, start_of, begins_stmt, without_of, down_of}
use Rattle.zpl_parse.specs.Tokens.{symbol, names}
use Rattle.zpl_parse.specs.Statements.{mask, prefix, prefixes, stmts, item, some_items, items, assign_or_call, body_end, arm, arms, otherwise, choice, while_loop, repeat_loop, step, way_down, for_head, for_loop, form_by, stmt_over, stmt}
use Rattle.zpl_parse.proofs.Steady.Base.{IsSteadyAt, IsSteady, steady_less, steady_loose, steady_after, steady_then, steady_last, steady_made, steady_done, steady_wrong, steady_behind, behind_one, steady_if, steady_next, steady_some, steady_by, steady_cons}
use Rattle.zpl_parse.proofs.Steady.Expressions.{symbol_steady, keyword_steady, name_steady, string_steady, closing_steady, taken_steady, names_steady, actuals_steady, inner_steady, none_steady}

mask_steady : {k : ℕ} → IsSteady 0 k mask mask
mask_steady = steady_some without_of refl
    (λ without j below. steady_made (λ name. Some (record { name = name; without = without }))
    (steady_loose name_steady))
    (steady_done {tree = λ l. None})

prefix_steady : {k m m' : ℕ} {expr expr' : Reader Expr} → IsSteady 0 k expr expr' → k ≤ m → k ≤ m'
    → IsSteady 1 k (prefix m expr) (prefix m' expr')
prefix_steady {m = m} {m' = m'} h a b = steady_after (symbol_steady sym.OpenBracket) (λ at j below.
    steady_then (inner_steady {k = j} {m = m} {m' =
    m'} (steady_less (omega arith) h) (omega arith) (omega arith)) (λ region.
    steady_then mask_steady (λ masked. steady_made (λ end. record {
      at = at;
      region = region;
      mask =
          masked;
    }) (symbol_steady sym.CloseBracket))))

pub prefixes_steady : {k m m' : ℕ} {expr expr' : Reader Expr} → IsSteady 0 k expr expr' → k < m
    → k < m' → IsSteady 0 k (prefixes m expr) (prefixes m' expr')
prefixes_steady {k} {m} {m'} {expr} {expr'} h a b = go m m' k (omega arith) a b
  where
    go : (m m' j : ℕ) → j ≤ k → j < m → j < m' → IsSteady 0 j (prefixes m expr) (prefixes m' expr')
    go zero m' j within a b = absurd (omega arith)
    go (suc m) zero j within a b = absurd (omega arith)
    go (suc m) (suc m') j within a b = steady_if (next_is (kind.Symbol sym.OpenBracket))
        (steady_loose (steady_after (prefix_steady {k = j} {m = m} {m' =
        m'} (steady_less within h) (omega arith) (omega arith))
        (λ first i below. steady_made (λ others. first ∷
        others) (go m m' i (omega arith) (omega arith) (omega arith)))))
        steady_done

pub stmts_steady : {k m m' : ℕ} {stmt stmt' : Reader Stmt} → IsSteady 1 k stmt stmt' → k < m
    → k < m' → IsSteady 0 k (stmts m stmt) (stmts m' stmt')
stmts_steady {k} {m} {m'} {stmt} {stmt'} h a b = go m m' k (omega arith) a b
  where
    go : (m m' j : ℕ) → j ≤ k → j < m → j < m' → IsSteady 0 j (stmts m stmt) (stmts m' stmt')
    go zero m' j within a b = absurd (omega arith)
    go (suc m) zero j within a b = absurd (omega arith)
    go (suc m) (suc m') j within a b = steady_if (λ l. begins_stmt (head_kind l))
        (steady_loose (steady_after (steady_less within h) (λ first i below.
        steady_made (ThenStmt first) (go m m' i (omega arith) (omega arith) (omega arith)))))
        steady_done

-- ---- the rules over one of expressions and one of bodies
item_steady : {k : ℕ} {expr expr' : Reader Expr} → IsSteady 0 k expr expr'
    → IsSteady 0 k (item expr) (item expr')
item_steady h =
    steady_if (next_is kind.Str) (steady_made Str (steady_loose string_steady))
    (steady_made Value h)

some_items_steady : {k m m' : ℕ} {expr expr' : Reader Expr} → IsSteady 0 k expr expr' → k < m
    → k < m' → IsSteady 0 k (some_items m expr) (some_items m' expr')
some_items_steady {k} {m} {m'} {expr} {expr'} h a b = go m m' k (omega arith) a b
  where
    go : (m m' j : ℕ) → j ≤ k → j < m → j < m'
        → IsSteady 0 j (some_items m expr) (some_items m' expr')
    go zero m' j within a b = absurd (omega arith)
    go (suc m) zero j within a b = absurd (omega arith)
    go (suc m) (suc m') j within a b = steady_then (item_steady (steady_less within h)) (λ first.
        steady_next (kind.Symbol sym.Comma) (λ i below. steady_made (λ others. first ∷
        others) (go m m' i (omega arith) (omega arith) (omega arith))) steady_done)

items_steady : {k m m' : ℕ} {expr expr' : Reader Expr} → IsSteady 0 k expr expr' → k < m → k < m'
    → IsSteady 0 k (items m expr) (items m' expr')
items_steady h a b = steady_if (next_is (kind.Symbol sym.CloseParen)) taken_steady
    (steady_then (some_items_steady h a b) (λ those.
    steady_made (λ at. those) (symbol_steady sym.CloseParen)))

assign_or_call_steady : {k m m' : ℕ} {expr expr' : Reader Expr} → IsSteady 0 k expr expr' → k < m
    → k < m' → (target : Name) →
    IsSteady 0 k (assign_or_call m expr target) (assign_or_call m' expr' target)
assign_or_call_steady {k = k} h a b target = steady_some assigning refl
    (λ op j below. steady_then (steady_less {j = j} (omega arith) h) (λ value.
    steady_made (λ at. Assign target op value) (symbol_steady sym.Semicolon)))
    (steady_loose (steady_then (symbol_steady sym.OpenParen) (λ at.
    steady_then (actuals_steady h a b) (λ those. steady_made (λ end. Invoke target those)
    (symbol_steady sym.Semicolon)))))

pub body_end_steady : {k : ℕ} {body body' : Reader Stmts} → IsSteady 0 k body body'
    → IsSteady 0 k (body_end body) (body_end body')
body_end_steady g = steady_then g (λ those. steady_made (λ at. those) closing_steady)

module _ {k : ℕ} {expr expr' : Reader Expr} {body body' : Reader Stmts}
    (h : IsSteady 0 k expr expr') (g : IsSteady 0 k body body') where
  arm_steady : (at : ℕ) → IsSteady 0 k (arm expr body at) (arm expr' body' at)
  arm_steady at =
      steady_then h (λ test. steady_then (keyword_steady key.Then) (λ then.
      steady_made (Tested at test) g))

  arms_turns : (m m' j : ℕ) → j ≤ k → j < m → j < m' → (at : ℕ)
      → IsSteady 0 j (arms m expr body at) (arms m' expr' body' at)
  arms_turns zero m' j within a b at = absurd (omega arith)
  arms_turns (suc m) zero j within a b at = absurd (omega arith)
  arms_turns (suc m) (suc m') j within a b at =
      steady_then (steady_less within (arm_steady at)) (λ first.
      steady_by head_at
      {p = λ place l. elim (next_is (kind.Word key.Elsif) l) [
        | true ↦
            made (ThenArm first) (arms m expr body place (behind l))
        | false ↦
            Done (ThenArm first NoArm) l
      ]}
      {p' = λ place l. elim (next_is (kind.Word key.Elsif) l) [
        | true ↦
            made (ThenArm first) (arms m' expr' body' place (behind l))
        | false ↦
            Done (ThenArm first NoArm) l
      ]}
      (λ place. steady_next (kind.Word key.Elsif)
      (λ i below. steady_made (ThenArm first) (arms_turns m m' i (omega arith) (omega arith)
      (omega arith) place)) steady_done))

  otherwise_steady : IsSteady 0 k (otherwise body) (otherwise body')
  otherwise_steady =
      steady_if (next_is (kind.Word key.Else)) (steady_made Else (steady_behind g)) steady_done

  choice_steady : {m m' : ℕ} → k < m → k < m' → (at : ℕ)
      → IsSteady 0 k (choice m expr body at) (choice m' expr' body' at)
  choice_steady {m} {m'} a b at = steady_then (arms_turns m m' k (omega arith) a b at) (λ tested.
      steady_then otherwise_steady (λ other. steady_made (λ end. If tested other) closing_steady))

  while_steady : IsSteady 0 k (while_loop expr body) (while_loop expr' body')
  while_steady =
      steady_then h (λ test. steady_then (keyword_steady key.Do) (λ at.
      steady_made (While test) (body_end_steady g)))

  repeat_steady : IsSteady 0 k (repeat_loop expr body) (repeat_loop expr' body')
  repeat_steady =
      steady_then g (λ those. steady_then (keyword_steady key.Until) (λ until.
      steady_then h (λ test. steady_made (λ end. Repeat those until test)
      (symbol_steady sym.Semicolon))))

  step_steady : IsSteady 0 k (step expr) (step expr')
  step_steady =
      steady_if (next_is (kind.Word key.By)) (steady_made Some (steady_behind h)) steady_done

  way_down_steady : IsSteady 0 k way_down way_down
  way_down_steady =
      steady_some down_of refl (λ down j below. steady_done {tree = λ l. down}) steady_wrong

  for_head_steady : IsSteady 0 k (for_head expr) (for_head expr')
  for_head_steady =
      steady_loose (steady_then name_steady (λ counter. steady_then (symbol_steady sym.Assign)
      (λ at. steady_then h (λ first. steady_then way_down_steady (λ down. steady_then h (λ last.
      steady_made (λ stride. record {
        name = counter;
        first = first;
        down = down;
        last =
            last;
        step = stride;
      }) step_steady))))))

  for_steady : IsSteady 0 k (for_loop expr body) (for_loop expr' body')
  for_steady =
      steady_then for_head_steady (λ head. steady_then (keyword_steady key.Do) (λ at.
      steady_made (For head) (body_end_steady g)))

  -- a statement behind its prefixes, of which a lexeme stands there
  form_at : {m m' : ℕ} → k < m → k < m' → (x : Lexeme) (rest : List Lexeme) → length (x ∷ rest) ≤ k
      → (o : Option Start) →
      IsSteadyAt 1 (x ∷ rest) (form_by m expr body o (x ∷ rest)) (form_by m' expr' body' o (x ∷
      rest))
  form_at a b x rest within (Some start.Name) =
      (steady_then name_steady (assign_or_call_steady h a b)).at (x ∷ rest) within
  form_at a b x rest within (Some start.Block) =
      behind_one (λ j below. steady_less (omega arith) (steady_made Block (body_end_steady g))) x
      rest within
  form_at a b x rest within (Some start.If) =
      behind_one (λ j below. steady_less (omega arith) (choice_steady a b x.at)) x rest within
  form_at a b x rest within (Some start.While) =
      behind_one (λ j below. steady_less (omega arith) while_steady) x rest within
  form_at a b x rest within (Some start.Repeat) =
      behind_one (λ j below. steady_less (omega arith) repeat_steady) x rest within
  form_at a b x rest within (Some start.For) =
      behind_one (λ j below. steady_less (omega arith) for_steady) x rest within
  form_at {m} {m'} a b x rest within (Some (start.Border kind)) =
      behind_one (λ j below.
      steady_loose (steady_then (names_steady {m = m} {m' = m'} (omega arith) (omega arith))
      (λ those. steady_made (λ at. Border kind those) (symbol_steady sym.Semicolon)))) x rest within
  form_at a b x rest within (Some (start.Write line)) =
      behind_one (λ j below.
      steady_less (omega arith) (steady_loose (steady_then (symbol_steady sym.OpenParen)
      (λ at. steady_then (items_steady h a b) (λ those. steady_made (λ end. Write line those)
      (symbol_steady sym.Semicolon)))))) x rest within
  form_at a b x rest within (Some start.Return) =
      behind_one (λ j below. steady_less (omega arith) (steady_then h
      (λ value. steady_made (λ at. Return value) (symbol_steady sym.Semicolon)))) x rest within
  form_at a b x rest within None = record { equal = refl; fewer = tt }

  form_steady : {m m' : ℕ} → k < m → k < m' →
      IsSteady 1 k (λ l. form_by m expr body (start_of (head_kind l)) l) (λ l.
      form_by m' expr' body' (start_of (head_kind l)) l)
  form_steady a b =
      steady_cons (record { equal = refl; fewer = tt }) (λ x rest within.
      form_at a b x rest within (start_of x.kind))

  stmt_over_steady : {m m' : ℕ} → k < m → k < m'
      → IsSteady 1 k (stmt_over m expr body) (stmt_over m' expr' body')
  stmt_over_steady {m} {m'} a b = steady_last (prefixes_steady h a b) (λ before.
      steady_by head_at
      {p = λ at l. made (Prefixed at before) (form_by m expr body (start_of (head_kind l)) l)}
      {p' = λ at l. made (Prefixed at before) (form_by m' expr' body' (start_of (head_kind l)) l)}
      (λ at. steady_made (Prefixed at before) (form_steady a b)))

pub stmt_steady : {k m m' : ℕ} {expr expr' : Reader Expr} → IsSteady 0 k expr expr' → k < m → k < m'
    → (deep : ℕ) → IsSteady 1 k (stmt m expr deep) (stmt m' expr' deep)
stmt_steady h a b zero = none_steady begins_stmt
stmt_steady h a b (suc deep) = stmt_over_steady h (stmts_steady (stmt_steady h a b deep) a b) a b
