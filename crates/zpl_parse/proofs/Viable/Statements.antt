-- What was taken before a statement got too deep, or before a lexeme that can't stand there, begins
-- some statement.
use Rattle.std.proofs.Common.{◌≡◌, ◌⊎◌, inl, inr, ℕ, zero, suc, if◌then◌else◌, Bool, true, false, List, [], ◌∷◌, ◌++◌, Option, Some, None, refl, sym, ap, ◌∙◌, append_assoc, append-nil}
use Rattle.std.specs.Bool.{⊤}
use Rattle.std.proofs.lemmas.Bool.{false≢true}
use Rattle.std.specs.List.{flat_map, AllByRecursion}
use Rattle.zpl_tokens.specs.declared.Kind.{Kind}
use Rattle.zpl_tokens.specs.declared.Kind.TheVariants as kind
use Rattle.zpl_tokens.specs.declared.keywords.Key.TheVariants as key
use Rattle.zpl_tokens.specs.declared.symbols.Sym.TheVariants as sym
use Rattle.zpl_tree.specs.Syntax.{NoExpr, Dims, ThenDim, NoDim, Name, Expr, Str, Value, Stmt, Prefixed, Stmts, NoStmt, ThenStmt, Form, Invoke, Block, If, While, Repeat, For, Border, Write, Return, Tested, NoArm, ThenArm, NoElse, Else}
use Rattle.zpl_tree.specs.Spelling.{symbol, keyword, name_words, expr_words, mask_words, prefix_words, step_words, head_words, item_words, items_words, end_words, stmt_words, stmts_words, form_words, arms_words, arm_words, otherwise_words}
use Rattle.zpl_tree.specs.Grammar.{HasAny, IsPrefix, IsStep, IsHead, IsItem, HasArm, IsStmt, AreStmts, IsForm, AreArms, IsArm, IsOtherwise}
use Rattle.zpl_tree.specs.Word as word
use Rattle.zpl_parse.specs.declared.classes.Start.{Start}
use Rattle.zpl_parse.specs.declared.classes.Start.TheVariants as start
use Rattle.zpl_grammar.specs.Lexeme.{Lexeme, head_kind, head_at, behind}
use Rattle.zpl_parse.specs.Outcome.{Deep, Reader, too_deep}
use Rattle.zpl_parse.specs.Classes.{is_some, assigning, start_of, begins_stmt, without_of, down_of}
use Rattle.zpl_parse.specs.Tokens.{next_is}
use Rattle.zpl_parse.specs.Statements.{mask, prefix, prefixes, stmts, item, some_items, items, assign_or_call, body_end, arm, arms, otherwise, choice, while_loop, repeat_loop, way_down, for_head, for_loop, form_by, stmt_over, stmt}
use Rattle.zpl_parse.specs.Statements.{step as by_step}
use Rattle.zpl_parse.proofs.Sound.Base.{Spelled}
use Rattle.zpl_parse.proofs.Sound.Tokens.{takes_one, one_more, takes_head}
use Rattle.zpl_parse.proofs.Sound.Classes.{assigning_is, without_is, down_is, IsStart, start_is}
use Rattle.zpl_parse.proofs.Sound.Expressions.{takes_signed}
use Rattle.zpl_parse.proofs.Sound.Statements.{behind_if, if_arms, elsif_arms, for_regroup}
use Rattle.zpl_parse.proofs.Viable.Base.{IsViable, goes_all, viable_done, viable_wrong, viable_deep, viable_behind, viable_step, viable_finish, viable_choose, viable_some, viable_at_sign, expect_viable, viable_sign, viable_last, some_name, name_viable, names_viable, closing_viable, string_viable}
use Rattle.zpl_parse.proofs.Viable.Expressions.{Tree, nought, blank, actuals_viable, inner_viable}

pub mask_viable : (lexemes : List Lexeme)
    → IsViable (Spelled mask_words (λ mask. ⊤)) lexemes (mask lexemes)
mask_viable lexemes = viable_some (without_of (head_kind lexemes))
    (λ e. viable_done (refl, tt))
    (λ without e. viable_behind (takes_signed (without_is (head_kind lexemes) without e))
    (viable_finish (λ name. Some (record { name = name; without = without }))
    (name_viable (behind lexemes)) (λ name fact. (refl, tt))))

way_down_viable : (lexemes : List Lexeme)
    → IsViable (Spelled (λ down. if down then keyword key.Downto else keyword key.To)
    (λ (down : Bool). ⊤)) lexemes (way_down lexemes)
way_down_viable lexemes = viable_some (down_of (head_kind lexemes))
    (λ e. viable_wrong (goes_all false tt refl))
    (λ down e. viable_behind (takes_signed (down_is (head_kind lexemes) down e))
    (viable_done (append-nil _, tt)))

-- the smallest statement
abbrev pub call : Form
call = Invoke some_name NoExpr

-- the rules over one of expressions
module _ (expr : Reader Expr) (viable : (lexemes : List Lexeme)
    → IsViable (Tree 0) lexemes (expr lexemes)) where
  prefix_viable : (most : ℕ) (lexemes : List Lexeme)
      → IsViable (Spelled prefix_words IsPrefix) lexemes (prefix most expr lexemes)
  prefix_viable most lexemes = viable_sign (word.Symbol sym.OpenBracket) tt (λ at rest.
      viable_step (inner_viable expr viable most rest) (λ region after is.
      viable_step (mask_viable after) (λ masked last fact.
      viable_last (word.Symbol sym.CloseBracket) tt _ (simp append_assoc, is))))

  pub prefixes_viable : (most : ℕ) (lexemes : List Lexeme)
      → IsViable (Spelled (flat_map prefix_words) (AllByRecursion IsPrefix)) lexemes
      (prefixes most expr lexemes)
  prefixes_viable zero lexemes = viable_wrong (goes_all [] tt refl)
  prefixes_viable (suc most) lexemes = viable_choose (next_is (kind.Symbol sym.OpenBracket) lexemes)
      (λ begins. viable_step (prefix_viable most lexemes) (λ first rest is.
      viable_finish (λ others. first ∷ others) (prefixes_viable most rest) (λ others are.
      (refl, (is, are)))))
      (λ other. viable_done (refl, tt))

  item_viable : (lexemes : List Lexeme)
      → IsViable (Spelled item_words IsItem) lexemes (item expr lexemes)
  item_viable lexemes = viable_choose (next_is kind.Str lexemes)
      (λ begins. viable_finish Str (string_viable lexemes begins) (λ bytes fact. (refl, tt)))
      (λ other. viable_finish Value (viable lexemes) (λ value is. (refl, is)))

  some_items_viable : (most : ℕ) (lexemes : List Lexeme)
      → IsViable (Spelled items_words (λ those. HasAny those × AllByRecursion IsItem those)) lexemes
      (some_items most expr lexemes)
  some_items_viable zero lexemes = viable_wrong (goes_all (Value nought ∷ []) (tt, (refl, tt)) refl)
  some_items_viable (suc most) lexemes = viable_step (item_viable lexemes) (λ first rest is.
      viable_at_sign (word.Symbol sym.Comma) tt rest
      (viable_finish (λ others. first ∷ others) (some_items_viable most (behind rest))
      (λ others are. (
        ap (λ w. item_words first ++ w) (one_more (word.Symbol sym.Comma ∷ []) item_words others
            are.0),
        (tt, (is, are.1)),
      )))
      (viable_done (refl, (tt, (is, tt)))))

  items_viable : (most : ℕ) (lexemes : List Lexeme)
      → IsViable (Spelled (λ those. items_words those ++ symbol sym.CloseParen)
      (AllByRecursion IsItem)) lexemes (items most expr lexemes)
  items_viable most lexemes = viable_at_sign (word.Symbol sym.CloseParen) tt lexemes
      (viable_done (refl, tt))
      (viable_step (some_items_viable most lexemes) (λ those rest are.
      viable_last (word.Symbol sym.CloseParen) tt those (refl, are.1)))

  assign_or_call_viable : (most : ℕ) (target : Name) (lexemes : List Lexeme) →
      IsViable (λ form more. Spelled form_words IsForm form (word.Name target.text ∷ more)) lexemes
      (assign_or_call most expr target lexemes)
  assign_or_call_viable most target lexemes = viable_some (assigning (head_kind lexemes))
      (λ e. viable_sign (word.Symbol sym.OpenParen) tt (λ at rest.
      viable_step (actuals_viable expr viable most rest) (λ those after are.
      viable_last (word.Symbol sym.Semicolon) tt _ (simp append_assoc, are))))
      (λ o e. viable_behind (takes_signed (assigning_is (head_kind lexemes) o e).sign)
      (viable_step (viable (behind lexemes)) (λ value rest is.
      viable_last (word.Symbol sym.Semicolon) tt _
      (simp append_assoc, ((assigning_is (head_kind lexemes) o e).is, is)))))

  step_viable : (lexemes : List Lexeme)
      → IsViable (Spelled step_words IsStep) lexemes (by_step expr lexemes)
  step_viable lexemes = viable_at_sign (word.Keyword key.By) tt lexemes
      (viable_finish Some (viable (behind lexemes)) (λ stride is. (refl, is)))
      (viable_done (refl, tt))

  for_head_viable : (lexemes : List Lexeme)
      → IsViable (Spelled head_words IsHead) lexemes (for_head expr lexemes)
  for_head_viable lexemes = viable_step (name_viable lexemes) (λ counter rest fact.
      viable_sign (word.Symbol sym.Assign) tt (λ at after.
      viable_step (viable after) (λ first to is_first.
      viable_step (way_down_viable to) (λ down behind_to fact'.
      viable_step (viable behind_to) (λ last by is_last.
      viable_finish _ (step_viable by) (λ stride is.
      (simp append_assoc, (is_first, is_last, is))))))))

  -- the rules over one of statements too
  pub stmts_viable : (stmt_rule : Reader Stmt)
      → ((lexemes : List Lexeme) → IsViable (Spelled stmt_words IsStmt) lexemes (stmt_rule lexemes))
      → (most : ℕ) (lexemes : List Lexeme) →
      IsViable (Spelled stmts_words AreStmts) lexemes (stmts most stmt_rule lexemes)
  stmts_viable stmt_rule can zero lexemes = viable_wrong (goes_all NoStmt tt refl)
  stmts_viable stmt_rule can (suc most) lexemes = viable_choose (begins_stmt (head_kind lexemes))
      (λ begins. viable_step (can lexemes) (λ first rest is.
      viable_finish (ThenStmt first) (stmts_viable stmt_rule can most rest) (λ others are.
      (refl, (is, are)))))
      (λ other. viable_done (refl, tt))

  module _ (body : Reader Stmts) (body_can : (lexemes : List Lexeme)
      → IsViable (Spelled stmts_words AreStmts) lexemes (body lexemes)) where
    pub body_end_viable : (lexemes : List Lexeme)
        → IsViable (Spelled (λ those. stmts_words those ++ end_words) AreStmts) lexemes
        (body_end body lexemes)
    body_end_viable lexemes =
        viable_step (body_can lexemes) (λ those rest are.
        viable_finish (λ at. those) (closing_viable rest) (λ at fact. (refl, are)))

    arm_viable : (at : ℕ) (lexemes : List Lexeme)
        → IsViable (Spelled arm_words IsArm) lexemes (arm expr body at lexemes)
    arm_viable at lexemes =
        viable_step (viable lexemes) (λ test rest is. viable_sign (word.Keyword key.Then) tt
        (λ then_at after.
        viable_finish (Tested at test) (body_can after) (λ those are.
        (simp append_assoc, (is, are)))))

    arms_viable : (most at : ℕ) (lexemes : List Lexeme)
        → IsViable (Spelled behind_if (λ those. HasArm those × AreArms those)) lexemes
        (arms most expr body at lexemes)
    unfolding behind_if
    arms_viable zero at lexemes =
        viable_wrong (goes_all (ThenArm (Tested at nought NoStmt) NoArm) (tt, ((refl, tt), tt))
        refl)
    arms_viable (suc most) at lexemes = viable_step (arm_viable at lexemes) (λ first rest is.
        viable_at_sign (word.Keyword key.Elsif) tt rest
        (viable_finish (ThenArm first) (arms_viable most (head_at rest) (behind rest))
        (λ others are.
        (ap (λ w. arm_words first ++ w) (elsif_arms others are.0), (tt, (is, are.1)))))
        (viable_done (refl, (tt, (is, tt)))))

    otherwise_viable : (lexemes : List Lexeme)
        → IsViable (Spelled otherwise_words IsOtherwise) lexemes (otherwise body lexemes)
    otherwise_viable lexemes = viable_at_sign (word.Keyword key.Else) tt lexemes
        (viable_finish Else (body_can (behind lexemes)) (λ those are. (refl, are)))
        (viable_done (refl, tt))

    choice_viable : (most at : ℕ) (lexemes : List Lexeme)
        → IsViable (λ form more. Spelled form_words IsForm form (word.Keyword key.If ∷ more))
        lexemes (choice most expr body at lexemes)
    choice_viable most at lexemes = viable_step (arms_viable most at lexemes) (λ tested rest are.
        viable_step (otherwise_viable rest) (λ other after is.
        viable_finish (λ end. If tested other) (closing_viable after) (λ end fact. (
          ap (λ w. w ++ (otherwise_words other ++ end_words)) (if_arms tested are.0)
              ∙ sym (append_assoc (arms_words tested) (otherwise_words other) end_words),
          (are.0, are.1, is),
        ))))

    while_viable : (lexemes : List Lexeme)
        → IsViable (λ form more. Spelled form_words IsForm form (word.Keyword key.While ∷ more))
        lexemes (while_loop expr body lexemes)
    while_viable lexemes =
        viable_step (viable lexemes) (λ test rest is. viable_sign (word.Keyword key.Do) tt
        (λ at after.
        viable_finish (While test) (body_end_viable after) (λ those are.
        (simp append_assoc, (is, are)))))

    repeat_viable : (lexemes : List Lexeme)
        → IsViable (λ form more. Spelled form_words IsForm form (word.Keyword key.Repeat ∷ more))
        lexemes (repeat_loop expr body lexemes)
    repeat_viable lexemes = viable_step (body_can lexemes) (λ those rest are.
        viable_step (expect_viable (word.Keyword key.Until) tt rest) (λ until after fact.
        viable_step (viable after) (λ test last is.
        viable_last (word.Symbol sym.Semicolon) tt _ (simp append_assoc, (are, is)))))

    for_viable : (lexemes : List Lexeme)
        → IsViable (λ form more. Spelled form_words IsForm form (word.Keyword key.For ∷ more))
        lexemes (for_loop expr body lexemes)
    for_viable lexemes =
        viable_step (for_head_viable lexemes) (λ head rest is. viable_sign (word.Keyword key.Do) tt
        (λ at after.
        viable_finish (For head) (body_end_viable after) (λ those are.
        (for_regroup (head_words head) (stmts_words those), (is, are)))))

    started_viable : (most : ℕ) (s : Start) (lexemes : List Lexeme) → IsStart (head_kind lexemes) s
        → IsViable (Spelled form_words IsForm) lexemes (form_by most expr body (Some s) lexemes)
    started_viable most start.Name lexemes is =
        viable_step (name_viable lexemes) (λ target rest fact.
        assign_or_call_viable most target rest)
    started_viable most start.Block lexemes is =
        viable_behind (takes_head (word.Keyword key.Begin) tt lexemes is)
        (viable_finish Block (body_end_viable (behind lexemes)) (λ those are. (refl, are)))
    started_viable most start.If lexemes is =
        viable_behind (takes_head (word.Keyword key.If) tt lexemes is)
        (choice_viable most (head_at lexemes) (behind lexemes))
    started_viable most start.While lexemes is =
        viable_behind (takes_head (word.Keyword key.While) tt lexemes is)
        (while_viable (behind lexemes))
    started_viable most start.Repeat lexemes is =
        viable_behind (takes_head (word.Keyword key.Repeat) tt lexemes is)
        (repeat_viable (behind lexemes))
    started_viable most start.For lexemes is =
        viable_behind (takes_head (word.Keyword key.For) tt lexemes is)
        (for_viable (behind lexemes))
    started_viable most (start.Border which) lexemes is = viable_behind (takes_signed is)
        (viable_step (names_viable most (behind lexemes)) (λ those rest has.
        viable_last (word.Symbol sym.Semicolon) tt _ (simp append_assoc, has)))
    started_viable most (start.Write line) lexemes is = viable_behind (takes_signed is)
        (viable_sign (word.Symbol sym.OpenParen) tt (λ at rest. viable_step (items_viable most rest)
        (λ those after are.
        viable_last (word.Symbol sym.Semicolon) tt _ (simp append_assoc, are))))
    started_viable most start.Return lexemes is =
        viable_behind (takes_head (word.Keyword key.Return) tt lexemes is)
        (viable_step (viable (behind lexemes)) (λ value rest good.
        viable_last (word.Symbol sym.Semicolon) tt _ (refl, good)))

    form_by_viable : (most : ℕ) (s : Option Start) (lexemes : List Lexeme)
        → start_of (head_kind lexemes) ≡ s
        → IsViable (Spelled form_words IsForm) lexemes (form_by most expr body s lexemes)
    form_by_viable most None lexemes e = viable_wrong (goes_all call tt refl)
    form_by_viable most (Some s) lexemes e =
        started_viable most s lexemes (start_is (head_kind lexemes) s e)

    stmt_over_viable : (most : ℕ) (lexemes : List Lexeme)
        → IsViable (Spelled stmt_words IsStmt) lexemes (stmt_over most expr body lexemes)
    stmt_over_viable most lexemes = viable_step (prefixes_viable most lexemes) (λ before rest are.
        viable_finish (Prefixed (head_at rest) before)
        (form_by_viable most (start_of (head_kind rest)) rest refl) (λ form is.
        (refl, (are, is))))

-- what may begin a statement begins one
form_begins : (lexemes : List Lexeme) (s : Start) → IsStart (head_kind lexemes) s
    → IsViable {A = Stmt} (Spelled stmt_words IsStmt) lexemes (Deep (behind lexemes))
form_begins [] start.Name is = absurd (cc)
form_begins (first ∷ rest) start.Name is =
    viable_deep (takes_one (word.Name first.bytes) (record { kind = is; bytes = refl }) tt)
    (record {
      tree = Prefixed 0 [] (Invoke (record { text = first.bytes; at = 0 }) NoExpr);
      more =
          symbol sym.OpenParen ++ symbol sym.CloseParen ++ symbol sym.Semicolon;
      says =
          (refl, (tt, tt));
      plain = refl;
    })
form_begins lexemes start.Block is = viable_deep (takes_head (word.Keyword key.Begin) tt lexemes is)
    (record {
      tree = Prefixed 0 [] (Block NoStmt);
      more = end_words;
      says =
          (refl, (tt, tt));
      plain = refl;
    })
form_begins lexemes start.If is = viable_deep (takes_head (word.Keyword key.If) tt lexemes is)
    (record {
      tree = Prefixed 0 [] (If (ThenArm (Tested 0 nought NoStmt) NoArm) NoElse);
      more =
          expr_words nought ++ keyword key.Then ++ end_words;
      says =
          (refl, (tt, (tt, ((refl, tt), tt), tt)));
      plain = refl;
    })
form_begins lexemes start.While is = viable_deep (takes_head (word.Keyword key.While) tt lexemes is)
    (record {
      tree = Prefixed 0 [] (While nought NoStmt);
      more =
          expr_words nought ++ keyword key.Do ++ end_words;
      says = (refl, (tt, (refl, tt)));
      plain =
          refl;
    })
form_begins lexemes start.Repeat is =
    viable_deep (takes_head (word.Keyword key.Repeat) tt lexemes is)
    (record {
      tree = Prefixed 0 [] (Repeat NoStmt 0 nought);
      more =
          keyword key.Until ++ expr_words nought ++ symbol sym.Semicolon;
      says =
          (refl, (tt, (tt, refl)));
      plain = refl;
    })
form_begins lexemes start.For is = viable_deep (takes_head (word.Keyword key.For) tt lexemes is)
    (record {
      tree = Prefixed 0 [] (For (record {
        name = some_name;
        first = nought;
        down = false;
        last =
            nought;
        step = None;
      }) NoStmt);
      more = name_words some_name ++ symbol sym.Assign ++ expr_words nought ++ keyword key.To ++
          expr_words nought ++ keyword key.Do ++ end_words;
      says = (refl, (tt, ((refl, refl, tt), tt)));
      plain = refl;
    })
form_begins lexemes (start.Border which) is = viable_deep (takes_signed is)
    (record {
      tree = Prefixed 0 [] (Border which (some_name ∷ []));
      more =
          name_words some_name ++ symbol sym.Semicolon;
      says = (simp append_assoc, (tt, tt));
      plain =
          refl;
    })
form_begins lexemes (start.Write line) is = viable_deep (takes_signed is)
    (record {
      tree = Prefixed 0 [] (Write line []);
      more =
          symbol sym.OpenParen ++ symbol sym.CloseParen ++ symbol sym.Semicolon;
      says =
          (simp append_assoc, (tt, tt));
      plain = refl;
    })
form_begins lexemes start.Return is =
    viable_deep (takes_head (word.Keyword key.Return) tt lexemes is)
    (record {
      tree = Prefixed 0 [] (Return nought);
      more =
          expr_words nought ++ symbol sym.Semicolon;
      says = (refl, (tt, refl));
      plain = refl;
    })

bracket_begins : (first : Lexeme) (rest : List Lexeme) → first.kind ≡ kind.Symbol sym.OpenBracket
    → IsViable {A = Stmt} (Spelled stmt_words IsStmt) (first ∷ rest) (Deep rest)
bracket_begins first rest is =
    viable_deep (takes_head (word.Symbol sym.OpenBracket) tt (first ∷ rest) is)
    (record {
      tree = Prefixed 0 (record { at = 0; region = Dims (ThenDim blank NoDim); mask = None } ∷
          []) call;
      more = symbol sym.CloseBracket ++ form_words call;
      says = (refl, (((tt, (tt, tt)), tt), tt));
      plain = refl;
    })

kind_begins : (first : Lexeme) (rest : List Lexeme) (s : Option Start) → start_of first.kind ≡ s
    → is_some s ≡ true → IsViable {A = Stmt} (Spelled stmt_words IsStmt) (first ∷ rest) (Deep rest)
kind_begins first rest None e begins = absurd (false≢true begins)
kind_begins first rest (Some s) e begins = form_begins (first ∷ rest) s (start_is first.kind s e)

-- a bracket, or what begins a form
begins_either : (k : Kind) → begins_stmt k ≡ true → (k ≡ kind.Symbol sym.OpenBracket)
    ⊎ (is_some (start_of k) ≡ true)
begins_either (kind.Symbol sym.OpenBracket) e = inl refl
begins_either _ e = inr e

stmt_begins : (first : Lexeme) (rest : List Lexeme) → begins_stmt first.kind ≡ true
    → IsViable {A = Stmt} (Spelled stmt_words IsStmt) (first ∷ rest) (Deep rest)
stmt_begins first rest begins = go (begins_either first.kind begins)
  where
    go : (first.kind ≡ kind.Symbol sym.OpenBracket) ⊎ (is_some (start_of first.kind) ≡ true)
        → IsViable {A = Stmt} (Spelled stmt_words IsStmt) (first ∷ rest) (Deep rest)
    go (inl is) = bracket_begins first rest is
    go (inr is) = kind_begins first rest (start_of first.kind) refl is

no_stmt_viable : (test : Bool) (lexemes : List Lexeme) → begins_stmt (head_kind lexemes) ≡ test
    → IsViable {A = Stmt} (Spelled stmt_words IsStmt) lexemes (too_deep test lexemes)
no_stmt_viable true [] e = absurd (false≢true e)
no_stmt_viable true (first ∷ rest) e = stmt_begins first rest e
no_stmt_viable false lexemes e = viable_wrong (goes_all (Prefixed 0 [] call) (tt, tt) refl)

pub stmt_viable : (expr : Reader Expr)
    → ((lexemes : List Lexeme) → IsViable (Tree 0) lexemes (expr lexemes))
    → (most deep : ℕ) (lexemes : List Lexeme) →
    IsViable (Spelled stmt_words IsStmt) lexemes (stmt most expr deep lexemes)
stmt_viable expr viable most zero lexemes =
    no_stmt_viable (begins_stmt (head_kind lexemes)) lexemes refl
stmt_viable expr viable most (suc deep) lexemes =
    stmt_over_viable expr viable (stmts most (stmt most expr deep))
    (stmts_viable expr viable (stmt most expr deep) (stmt_viable expr viable most deep) most)
    most lexemes
