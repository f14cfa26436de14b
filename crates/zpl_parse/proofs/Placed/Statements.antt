-- Where statements stand.
use Rattle.std.proofs.Common.{ℕ, zero, suc, Bool, List, ◌∷◌, Option, Some, None, refl, ap, subst}
use Rattle.std.specs.List.{flat_map}
use Rattle.zpl_tokens.specs.declared.Kind.TheVariants as kind
use Rattle.zpl_tokens.specs.declared.keywords.Key.TheVariants as key
use Rattle.zpl_tokens.specs.declared.symbols.Sym.TheVariants as sym
use Rattle.zpl_tree.specs.Syntax.{Name, Expr, Prefixed, Str, Value, Stmt, Stmts, ThenStmt, Block, While, For, Tested, ThenArm, Else}
use Rattle.zpl_tree.specs.Spelling.{arm_words, item_words, prefix_words, expr_words, stmts_words, head_words, inner_words}
use Rattle.zpl_parse.specs.declared.classes.Start.{Start}
use Rattle.zpl_parse.specs.declared.classes.Start.TheVariants as start
use Rattle.zpl_grammar.specs.Lexeme.{Lexeme, head_kind, head_at, behind}
use Rattle.zpl_parse.specs.Outcome.{Done, Wrong, Reader, and_then}
use Rattle.zpl_parse.specs.Classes.{assigning, start_of, begins_stmt, without_of, down_of}
use Rattle.zpl_parse.specs.Tokens.{next_is}
use Rattle.zpl_parse.specs.Statements.{mask, prefix, prefixes, stmts, item, some_items, items, assign_or_call, body_end, arm, arms, otherwise, choice, while_loop, repeat_loop, way_down, for_head, for_loop, form_by, stmt_over, stmt}
use Rattle.zpl_parse.specs.Statements.{step as by_step}
use Rattle.zpl_grammar.specs.Offsets.{past, opens, EachAt, SeparatedAt, NameAt, ExprAt, MaskAt, PrefixAt, StepAt, HeadAt, ItemAt, StmtAt, StmtsAt, FormAt, ArmsAt, ArmAt, OtherwiseAt}
use Rattle.zpl_parse.proofs.Sound.Base.{IsSound}
use Rattle.zpl_parse.proofs.Sound.Tokens.{name_sound}
use Rattle.zpl_parse.proofs.Sound.Expressions.{SaysExpr, inner_sound}
use Rattle.zpl_parse.proofs.Sound.Statements.{SaysStmt, SaysStmts, behind_if, if_arms, prefix_sound, prefixes_sound, item_sound, for_head_sound, arm_sound, arms_sound, stmts_sound, stmt_sound}
use Rattle.zpl_parse.proofs.Placed.Base.{IsAt, done_at, wrong_at, then_at, step_at, step_is_at, finish_at, last_at, choose_at, choose_some_at, sign_at, at_comma, name_at, names_at}
use Rattle.zpl_parse.proofs.Placed.Expressions.{actuals_at, inner_at, too_deep_at}

mask_at : (lexemes : List Lexeme) → IsAt (λ mask rest. MaskAt lexemes mask) (mask lexemes)
mask_at lexemes = choose_some_at (without_of (head_kind lexemes)) (λ e. done_at tt)
    (λ without e. finish_at (λ name. Some (record { name = name; without = without }))
    (name_at (behind lexemes)) (λ name rest here. here))

way_then_by : {A : Type 0} (Says : A → List Lexeme → Type 0) (o : Option Bool) (to : List Lexeme)
    (next : Bool → Reader A) → ((down : Bool) → IsAt Says (next down (behind to))) →
    IsAt Says (and_then (elim o [ Some down ↦ Done down (behind to) | None ↦ Wrong to ]) next)
way_then_by Says (Some down) to next so = so down
way_then_by Says None to next so = wrong_at

way_then_at : {A : Type 0} {Says : A → List Lexeme → Type 0} (to : List Lexeme) (next : Bool
    → Reader A) → ((down : Bool) → IsAt Says (next down (behind to)))
    → IsAt Says (and_then (way_down to) next)
way_then_at {Says = Says} to next so = way_then_by Says (down_of (head_kind to)) to next so

-- the rules over one of expressions
module _ (d : ℕ) (expr : Reader Expr) (sound : (lexemes : List Lexeme)
    → IsSound (SaysExpr 0 d) lexemes (expr lexemes))
    (at : (lexemes : List Lexeme) → IsAt (λ tree rest. ExprAt lexemes tree) (expr lexemes)) where
  prefix_at : (most : ℕ) (lexemes : List Lexeme)
      → IsAt (λ prefix rest. PrefixAt lexemes prefix) (prefix most expr lexemes)
  prefix_at most lexemes = sign_at (kind.Symbol sym.OpenBracket) lexemes _
      (step_at _ (inner_sound d expr sound most (behind lexemes))
      (inner_at d expr sound at most (behind lexemes)) (λ region here.
      then_at (mask_at (past (inner_words region) (behind lexemes))) (λ masked rest there.
      last_at _ _ (λ end left. (refl, here, there)))))

  pub prefixes_at : (most : ℕ) (lexemes : List Lexeme)
      → IsAt (λ those rest. EachAt PrefixAt prefix_words lexemes those) (prefixes most expr lexemes)
  prefixes_at zero lexemes = wrong_at
  prefixes_at (suc most) lexemes = choose_at (opens lexemes)
      (λ begins. step_at _ (prefix_sound d expr sound most lexemes) (prefix_at most lexemes)
      (λ first here.
      finish_at (λ others. first ∷ others) (prefixes_at most _) (λ others rest there.
      (here, there))))
      (λ other. done_at tt)

  item_at : (lexemes : List Lexeme) → IsAt (λ item rest. ItemAt lexemes item) (item expr lexemes)
  item_at lexemes =
      choose_at (next_is kind.Str lexemes) (λ begins. last_at Str _ (λ bytes rest. tt)) (λ other.
      finish_at Value (at lexemes) (λ value rest here. here))

  some_items_at : (most : ℕ) (lexemes : List Lexeme)
      → IsAt (λ those rest. SeparatedAt ItemAt item_words lexemes those)
      (some_items most expr lexemes)
  some_items_at zero lexemes = wrong_at
  some_items_at (suc most) lexemes =
      step_at _ (item_sound d expr sound lexemes) (item_at lexemes) (λ first here.
      choose_at (at_comma (past (item_words first) lexemes))
      (λ comma. finish_at (λ others. first ∷ others) (some_items_at most _) (λ others rest there.
      (here, there)))
      (λ other. done_at (here, tt)))

  items_at : (most : ℕ) (lexemes : List Lexeme)
      → IsAt (λ those rest. SeparatedAt ItemAt item_words lexemes those) (items most expr lexemes)
  items_at most lexemes =
      choose_at (next_is (kind.Symbol sym.CloseParen) lexemes) (λ closes. done_at tt)
      (λ other. then_at (some_items_at most lexemes) (λ those rest here.
      last_at _ _ (λ end left. here)))

  assign_or_call_at : (most : ℕ) (lexemes : List Lexeme) (target : Name) → NameAt lexemes target
      → IsAt (λ form rest. FormAt lexemes form) (assign_or_call most expr target (behind lexemes))
  assign_or_call_at most lexemes target here =
      choose_some_at (assigning (head_kind (behind lexemes)))
      (λ e. sign_at (kind.Symbol sym.OpenParen) (behind lexemes) _
      (then_at (actuals_at d expr sound at most (behind (behind lexemes))) (λ those rest there.
      last_at _ _ (λ end left. (here, there)))))
      (λ o e. then_at (at (behind (behind lexemes))) (λ value rest there.
      last_at _ _ (λ end left. (here, there))))

  stride_at : (lexemes : List Lexeme)
      → IsAt (λ stride rest. StepAt lexemes stride) (by_step expr lexemes)
  stride_at lexemes =
      choose_at (next_is (kind.Word key.By) lexemes) (λ begins. finish_at Some (at (behind lexemes))
      (λ stride rest here. here)) (λ other. done_at tt)

  for_head_at : (lexemes : List Lexeme)
      → IsAt (λ head rest. HeadAt lexemes head) (for_head expr lexemes)
  for_head_at lexemes = step_at _ (name_sound lexemes) (name_at lexemes) (λ counter here.
      sign_at (kind.Symbol sym.Assign) (behind lexemes) _
      (step_at _ (sound (behind (behind lexemes))) (at (behind (behind lexemes))) (λ first at_first.
      way_then_at (past (expr_words first) (behind (behind lexemes))) _ (λ down.
      step_at _ (sound (behind (past (expr_words first) (behind (behind lexemes)))))
      (at (behind (past (expr_words first) (behind (behind lexemes))))) (λ last at_last.
      finish_at _
      (stride_at
      (past (expr_words last) (behind (past (expr_words first) (behind (behind lexemes))))))
      (λ stride rest there. (here, (at_first, at_last, there))))))))

  -- the rules over one of statements too
  pub stmts_at : (n : ℕ) (stmt_rule : Reader Stmt)
      → ((lexemes : List Lexeme) → IsSound (SaysStmt d n) lexemes (stmt_rule lexemes)) →
      ((lexemes : List Lexeme) → IsAt (λ tree rest. StmtAt lexemes tree) (stmt_rule lexemes))
      → (most : ℕ) (lexemes : List Lexeme)
      → IsAt (λ those rest. StmtsAt lexemes those) (stmts most stmt_rule lexemes)
  stmts_at n stmt_rule stmt_is stmt_is_at zero lexemes = wrong_at
  stmts_at n stmt_rule stmt_is stmt_is_at (suc most) lexemes =
      choose_at (begins_stmt (head_kind lexemes))
      (λ begins. step_at _ (stmt_is lexemes) (stmt_is_at lexemes) (λ first here.
      finish_at (ThenStmt first) (stmts_at n stmt_rule stmt_is stmt_is_at most _)
      (λ others rest there. (here, there))))
      (λ other. done_at tt)

  pub body_end_at : (body : Reader Stmts)
      → ((lexemes : List Lexeme) → IsAt (λ those rest. StmtsAt lexemes those) (body lexemes))
      → (lexemes : List Lexeme) →
      IsAt (λ those rest. StmtsAt lexemes those) (body_end body lexemes)
  body_end_at body body_is_at lexemes =
      then_at (body_is_at lexemes) (λ those rest here. last_at _ _ (λ end left. here))

  module _ (n : ℕ) (body : Reader Stmts) (body_is : (lexemes : List Lexeme)
      → IsSound (SaysStmts d n) lexemes (body lexemes))
      (body_is_at : (lexemes : List Lexeme)
      → IsAt (λ those rest. StmtsAt lexemes those) (body lexemes)) where
    arm_at : (lexemes : List Lexeme)
        → IsAt (λ arm rest. ArmAt lexemes arm) (arm expr body (head_at lexemes) (behind lexemes))
    arm_at lexemes = step_at _ (sound (behind lexemes)) (at (behind lexemes)) (λ test here.
        sign_at (kind.Word key.Then) (past (expr_words test) (behind lexemes)) _
        (finish_at (Tested (head_at lexemes) test) (body_is_at _) (λ those rest there.
        (refl, here, there))))

    arms_at : (most : ℕ) (lexemes : List Lexeme)
        → IsAt (λ those rest. ArmsAt lexemes those) (arms most expr body (head_at lexemes)
        (behind lexemes))
    arms_at zero lexemes = wrong_at
    arms_at (suc most) lexemes =
        step_at _ (arm_sound d expr sound n body body_is (head_at lexemes) (behind lexemes))
        (arm_at lexemes) (λ first here.
        choose_at (next_is (kind.Word key.Elsif) (past (arm_words first) (behind lexemes)))
        (λ more. finish_at (ThenArm first) (arms_at most (past (arm_words first) (behind lexemes)))
        (λ others rest there. (here, there)))
        (λ other. done_at (here, tt)))

    otherwise_at : (lexemes : List Lexeme)
        → IsAt (λ other rest. OtherwiseAt lexemes other) (otherwise body lexemes)
    otherwise_at lexemes =
        choose_at (next_is (kind.Word key.Else) lexemes) (λ begins.
        finish_at Else (body_is_at (behind lexemes)) (λ those rest here. here)) (λ other.
        done_at tt)

    choice_at : (most : ℕ) (lexemes : List Lexeme)
        → IsAt (λ form rest. FormAt lexemes form) (choice most expr body (head_at lexemes)
        (behind lexemes))
    choice_at most lexemes =
        step_is_at _ (arms_sound d expr sound n body body_is most (head_at lexemes)
        (behind lexemes)) (arms_at most lexemes) (λ tested good here.
        then_at (otherwise_at (past (behind_if tested) (behind lexemes))) (λ other rest there.
        last_at _ _ (λ end left. (
          here,
          subst (λ (l : List Lexeme). OtherwiseAt l other)
              (ap (λ w. past w lexemes) (if_arms tested good.is.0)) there,
        ))))

    while_at : (lexemes : List Lexeme)
        → IsAt (λ form rest. FormAt lexemes form) (while_loop expr body (behind lexemes))
    while_at lexemes =
        step_at _ (sound (behind lexemes)) (at (behind lexemes)) (λ test here.
        sign_at (kind.Word key.Do) (past (expr_words test) (behind lexemes)) _
        (finish_at (While test) (body_end_at body body_is_at _) (λ those rest there.
        (here, there))))

    repeat_at : (lexemes : List Lexeme)
        → IsAt (λ form rest. FormAt lexemes form) (repeat_loop expr body (behind lexemes))
    repeat_at lexemes =
        step_at _ (body_is (behind lexemes)) (body_is_at (behind lexemes)) (λ those here.
        sign_at (kind.Word key.Until) (past (stmts_words those) (behind lexemes)) _
        (then_at (at _) (λ test rest there. last_at _ _ (λ end left. (here, refl, there)))))

    for_at : (lexemes : List Lexeme)
        → IsAt (λ form rest. FormAt lexemes form) (for_loop expr body (behind lexemes))
    for_at lexemes =
        step_at _ (for_head_sound d expr sound (behind lexemes)) (for_head_at (behind lexemes))
        (λ head here. sign_at (kind.Word key.Do) (past (head_words head) (behind lexemes)) _
        (finish_at (For head) (body_end_at body body_is_at _) (λ those rest there. (here, there))))

    form_by_at : (most : ℕ) (s : Option Start) (lexemes : List Lexeme)
        → IsAt (λ form rest. FormAt lexemes form) (form_by most expr body s lexemes)
    form_by_at most None lexemes = wrong_at
    form_by_at most (Some start.Name) lexemes =
        step_at _ (name_sound lexemes) (name_at lexemes) (λ target here.
        assign_or_call_at most lexemes target here)
    form_by_at most (Some start.Block) lexemes =
        finish_at Block (body_end_at body body_is_at (behind lexemes)) (λ those rest here. here)
    form_by_at most (Some start.If) lexemes = choice_at most lexemes
    form_by_at most (Some start.While) lexemes = while_at lexemes
    form_by_at most (Some start.Repeat) lexemes = repeat_at lexemes
    form_by_at most (Some start.For) lexemes = for_at lexemes
    form_by_at most (Some (start.Border which)) lexemes =
        then_at (names_at most (behind lexemes)) (λ those rest here. last_at _ _ (λ end left. here))
    form_by_at most (Some (start.Write line)) lexemes =
        sign_at (kind.Symbol sym.OpenParen) (behind lexemes) _
        (then_at (items_at most (behind (behind lexemes))) (λ those rest here.
        last_at _ _ (λ end left. here)))
    form_by_at most (Some start.Return) lexemes =
        then_at (at (behind lexemes)) (λ value rest here. last_at _ _ (λ end left. here))

    stmt_over_at : (most : ℕ) (lexemes : List Lexeme)
        → IsAt (λ tree rest. StmtAt lexemes tree) (stmt_over most expr body lexemes)
    stmt_over_at most lexemes =
        step_at _ (prefixes_sound d expr sound most lexemes) (prefixes_at most lexemes)
        (λ before here.
        let begin : List Lexeme = past (flat_map prefix_words before) lexemes in
        finish_at (Prefixed (head_at begin) before) (form_by_at most (start_of (head_kind begin))
        begin) (λ form rest there. (here, refl, there)))

  pub stmt_at : (most deep : ℕ) (lexemes : List Lexeme)
      → IsAt (λ tree rest. StmtAt lexemes tree) (stmt most expr deep lexemes)
  stmt_at most zero lexemes = too_deep_at (begins_stmt (head_kind lexemes)) lexemes
  stmt_at most (suc deep) lexemes =
      stmt_over_at deep (stmts most (stmt most expr deep))
      (stmts_sound d expr sound deep (stmt most expr deep) (stmt_sound d expr sound most deep) most)
      (stmts_at deep (stmt most expr deep) (stmt_sound d expr sound most deep) (stmt_at most deep)
      most) most lexemes
