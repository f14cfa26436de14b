-- Soundness of the rules of statements.
use Rattle.std.proofs.Common.{◌≡◌, ℕ, zero, suc, ◌≤◌, if◌then◌else◌, Bool, true, List, [], ◌∷◌, ◌++◌, Option, Some, None, refl, sym, ap, subst, ◌∙◌, arith, append_assoc, append-nil}
use Rattle.std.specs.Bool.{⊤}
use Rattle.std.proofs.lemmas.Bool.{false≢true}
use Rattle.std.specs.List.{flat_map, AllByRecursion}
use Rattle.zpl_tokens.specs.declared.Kind.{Kind}
use Rattle.zpl_tokens.specs.declared.Kind.TheVariants as kind
use Rattle.zpl_tokens.specs.declared.keywords.Key.TheVariants as key
use Rattle.zpl_tokens.specs.declared.symbols.Sym.TheVariants as sym
use Rattle.zpl_tree.specs.Syntax.{Name, Expr, Str, Value, Stmt, Prefixed, Stmts, ThenStmt, Form, Block, If, While, For, Tested, Arms, NoArm, ThenArm, Else}
use Rattle.zpl_tree.specs.Spelling.{symbol, keyword, mask_words, prefix_words, step_words, head_words, item_words, items_words, end_words, stmt_words, stmts_words, form_words, arms_words, arm_words, more_arms, otherwise_words}
use Rattle.zpl_tree.specs.Grammar.{HasAny, IsPrefix, IsStep, IsHead, IsItem, HasArm, IsStmt, AreStmts, IsForm, AreArms, IsArm, IsOtherwise}
use Rattle.zpl_tree.specs.Depth.{greatest_of, prefix_depth, step_depth, head_depth, item_depth, stmt_depth, form_depth, stmts_depth, arms_depth, arm_depth, otherwise_depth, nest_depth, form_nest, stmts_nest, arms_nest, arm_nest, otherwise_nest}
use Rattle.zpl_tree.specs.Word.{Word}
use Rattle.zpl_tree.specs.Word as word
use Rattle.zpl_parse.specs.declared.classes.Start.{Start}
use Rattle.zpl_parse.specs.declared.classes.Start.TheVariants as start
use Rattle.zpl_grammar.specs.Lexeme.{Lexeme, head_kind, head_at, behind}
use Rattle.zpl_parse.specs.Outcome.{Reader}
use Rattle.zpl_parse.specs.Classes.{assigning, start_of, begins_stmt, without_of, down_of}
use Rattle.zpl_parse.specs.Tokens.{next_is}
use Rattle.zpl_parse.specs.Statements.{mask, prefix, prefixes, stmts, item, some_items, items, assign_or_call, body_end, arm, arms, otherwise, choice, while_loop, repeat_loop, way_down, for_head, for_loop, form_by, stmt_over, stmt}
use Rattle.zpl_parse.specs.Statements.{step as by_step}
use Rattle.zpl_parse.proofs.Sound.Base.{IsSound, Spelled, done, wrong, behind_words, step, finish, choose, choose_some}
use Rattle.zpl_parse.proofs.Sound.Tokens.{at_sign, expect_sound, sign, last_sign, name_sound, names_sound, closing_sound, string_at, one_more, takes_head}
use Rattle.zpl_parse.proofs.Sound.Classes.{assigning_is, without_is, down_is, IsStart, start_is}
use Rattle.zpl_parse.proofs.Sound.Expressions.{IsGood, SaysExpr, takes_signed, actuals_sound, inner_sound, too_deep_sound}

-- a tree of the grammar that is no deeper than a number, and nests no deeper than another
pub record IsNest {A : Type 0} (Is : A → Type 0) (depth_of : A → ℕ) (d : ℕ) (nest_of : A
    → ℕ) (n : ℕ) (tree : A) : Type 0 where
  pub is : Is tree
  pub depth : depth_of tree ≤ d
  pub nest : nest_of tree ≤ n

abbrev pub SaysStmt : ℕ → ℕ → Stmt → List Word → Type 0
SaysStmt d n = Spelled stmt_words (IsNest IsStmt stmt_depth d nest_depth n)

abbrev pub SaysStmts : ℕ → ℕ → Stmts → List Word → Type 0
SaysStmts d n = Spelled stmts_words (IsNest AreStmts stmts_depth d stmts_nest n)

abbrev pub SaysForm : ℕ → ℕ → Form → List Word → Type 0
SaysForm d n = Spelled form_words (IsNest IsForm form_depth d form_nest n)

pub mask_sound : (lexemes : List Lexeme)
    → IsSound (Spelled mask_words (λ mask. ⊤)) lexemes (mask lexemes)
mask_sound lexemes = choose_some (without_of (head_kind lexemes))
    (λ e. done (refl, tt))
    (λ without e. behind_words _ (takes_signed (without_is (head_kind lexemes) without e))
    (finish (λ name. Some (record { name = name; without = without })) (name_sound (behind lexemes))
    (λ name fact. (refl, tt))))

pub way_down_sound : (lexemes : List Lexeme)
    → IsSound (Spelled (λ down. if down then keyword key.Downto else keyword key.To)
    (λ (down : Bool). ⊤)) lexemes (way_down lexemes)
way_down_sound lexemes = choose_some (down_of (head_kind lexemes))
    (λ e. wrong)
    (λ down e. behind_words _ (takes_signed (down_is (head_kind lexemes) down e))
    (done (append-nil _, tt)))

-- the arms behind an `if`
unfoldable pub behind_if : Arms → List Word
behind_if NoArm = []
behind_if (ThenArm first rest) = arm_words first ++ more_arms rest

pub if_arms : (those : Arms) → HasArm those → word.Keyword key.If ∷ behind_if those
    ≡ arms_words those
unfolding behind_if
if_arms NoArm has = absurd has
if_arms (ThenArm first rest) has = refl

pub elsif_arms : (those : Arms) → HasArm those → word.Keyword key.Elsif ∷ behind_if those
    ≡ more_arms those
unfolding behind_if
elsif_arms NoArm has = absurd has
elsif_arms (ThenArm first rest) has = refl

pub for_regroup : (a b : List Word) → word.Keyword key.For ∷
    (a ++ (word.Keyword key.Do ∷ (b ++ end_words))) ≡ keyword key.For ++ a ++ keyword key.Do ++ b ++
    end_words
for_regroup a b = simp append_assoc

begins_no_end : (k : Kind) → begins_stmt k ≡ true → k ≡ kind.End → ⊥
begins_no_end k e end = false≢true (subst (λ (k : Kind). begins_stmt k ≡ true) end e)

-- the rules over one of expressions
module _ (d : ℕ) (expr : Reader Expr) (sound : (lexemes : List Lexeme)
    → IsSound (SaysExpr 0 d) lexemes (expr lexemes)) where
  pub prefix_sound : (most : ℕ) (lexemes : List Lexeme)
      → IsSound (Spelled prefix_words (IsGood IsPrefix prefix_depth d)) lexemes
      (prefix most expr lexemes)
  prefix_sound most lexemes = sign (word.Symbol sym.OpenBracket) tt (λ at rest.
      step (inner_sound d expr sound most rest) (λ region after good.
      step (mask_sound after) (λ masked last fact.
      last_sign (word.Symbol sym.CloseBracket) tt _ (
        simp append_assoc,
        record {
          is =
              good.is;
          depth = good.depth;
        },
      ))))

  pub prefixes_sound : (most : ℕ) (lexemes : List Lexeme) →
      IsSound (Spelled (flat_map prefix_words)
      (IsGood (AllByRecursion IsPrefix) (greatest_of prefix_depth) d)) lexemes
      (prefixes most expr lexemes)
  prefixes_sound zero lexemes = wrong
  prefixes_sound (suc most) lexemes = choose (next_is (kind.Symbol sym.OpenBracket) lexemes)
      (λ begins. step (prefix_sound most lexemes) (λ first rest good.
      finish (λ others. first ∷ others) (prefixes_sound most rest) (λ others more.
      (refl, record { is = (good.is, more.is); depth = omega arith }))))
      (λ other. done (refl, record { is = tt; depth = omega arith }))

  pub item_sound : (lexemes : List Lexeme)
      → IsSound (Spelled item_words (IsGood IsItem item_depth d)) lexemes (item expr lexemes)
  item_sound lexemes = choose (next_is kind.Str lexemes)
      (λ begins. finish Str (string_at lexemes begins) (λ bytes fact.
      (refl, record { is = tt; depth = omega arith })))
      (λ other. finish Value (sound lexemes) (λ value good. (
        refl,
        record {
          is = good.is;
          depth =
              good.depth;
        },
      )))

  pub some_items_sound : (most : ℕ) (lexemes : List Lexeme) →
      IsSound (Spelled items_words (IsGood (λ those. HasAny those × AllByRecursion IsItem those)
      (greatest_of item_depth) d)) lexemes (some_items most expr lexemes)
  some_items_sound zero lexemes = wrong
  some_items_sound (suc most) lexemes = step (item_sound lexemes) (λ first rest good.
      at_sign (word.Symbol sym.Comma) tt rest
      (finish (λ others. first ∷ others) (some_items_sound most (behind rest)) (λ others more. (
        ap (λ w. item_words first ++ w) (one_more (word.Symbol sym.Comma ∷ []) item_words others
            more.is.0),
        record { is = (tt, (good.is, more.is.1)); depth = omega arith },
      )))
      (done (refl, record { is = (tt, (good.is, tt)); depth = omega arith })))

  pub items_sound : (most : ℕ) (lexemes : List Lexeme) →
      IsSound (Spelled (λ those. items_words those ++ symbol sym.CloseParen)
      (IsGood (AllByRecursion IsItem) (greatest_of item_depth) d)) lexemes
      (items most expr lexemes)
  items_sound most lexemes = at_sign (word.Symbol sym.CloseParen) tt lexemes
      (done (refl, record { is = tt; depth = omega arith }))
      (step (some_items_sound most lexemes) (λ those rest good.
      last_sign (word.Symbol sym.CloseParen) tt those (
        refl,
        record {
          is = good.is.1;
          depth =
              good.depth;
        },
      )))

  pub assign_or_call_sound : (n most : ℕ) (target : Name) (lexemes : List Lexeme) →
      IsSound (λ form more. SaysForm d (suc n) form (word.Name target.text ∷ more)) lexemes
      (assign_or_call most expr target lexemes)
  assign_or_call_sound n most target lexemes = choose_some (assigning (head_kind lexemes))
      (λ e. sign (word.Symbol sym.OpenParen) tt (λ at rest.
      step (actuals_sound d expr sound most rest) (λ those after good.
      last_sign (word.Symbol sym.Semicolon) tt _ (
        simp append_assoc,
        record {
          is = good.is;
          depth =
              good.depth;
          nest = omega arith;
        },
      ))))
      (λ o e. behind_words _ (takes_signed (assigning_is (head_kind lexemes) o e).sign)
      (step (sound (behind lexemes)) (λ value rest good. last_sign (word.Symbol sym.Semicolon) tt _ (
        simp append_assoc,
        record {
          is = ((assigning_is (head_kind lexemes) o e).is, good.is);
          depth = good.depth;
          nest = omega arith;
        },
      ))))

  pub step_sound : (lexemes : List Lexeme)
      → IsSound (Spelled step_words (IsGood IsStep step_depth d)) lexemes (by_step expr lexemes)
  step_sound lexemes = at_sign (word.Keyword key.By) tt lexemes
      (finish Some (sound (behind lexemes)) (λ stride good. (
        refl,
        record {
          is = good.is;
          depth =
              good.depth;
        },
      )))
      (done (refl, record { is = tt; depth = omega arith }))

  pub for_head_sound : (lexemes : List Lexeme)
      → IsSound (Spelled head_words (IsGood IsHead head_depth d)) lexemes (for_head expr lexemes)
  for_head_sound lexemes = step (name_sound lexemes) (λ counter rest fact.
      sign (word.Symbol sym.Assign) tt (λ at after.
      step (sound after) (λ first to good_first.
      step (way_down_sound to) (λ down behind_to fact'.
      step (sound behind_to) (λ last by good_last.
      finish _ (step_sound by) (λ stride good. (
        simp append_assoc,
        record {
          is =
              (good_first.is, good_last.is, good.is);
          depth = omega arith;
        },
      )))))))

  -- the rules over one of statements too
  pub stmts_sound : (n : ℕ) (stmt_rule : Reader Stmt)
      → ((lexemes : List Lexeme) → IsSound (SaysStmt d n) lexemes (stmt_rule lexemes))
      → (most : ℕ) (lexemes : List Lexeme) →
      IsSound (SaysStmts d n) lexemes (stmts most stmt_rule lexemes)
  stmts_sound n stmt_rule stmt_is zero lexemes = wrong
  stmts_sound n stmt_rule stmt_is (suc most) lexemes = choose (begins_stmt (head_kind lexemes))
      (λ begins. step (stmt_is lexemes) (λ first rest good.
      finish (ThenStmt first) (stmts_sound n stmt_rule stmt_is most rest) (λ others more.
      (refl, record { is = (good.is, more.is); depth = omega arith; nest = omega arith }))))
      (λ other. done (refl, record { is = tt; depth = omega arith; nest = omega arith }))

  pub body_end_sound : (n : ℕ) (body : Reader Stmts)
      → ((lexemes : List Lexeme) → IsSound (SaysStmts d n) lexemes (body lexemes))
      → (lexemes : List Lexeme) →
      IsSound (Spelled (λ those. stmts_words those ++
      end_words) (IsNest AreStmts stmts_depth d stmts_nest n)) lexemes (body_end body lexemes)
  body_end_sound n body body_is lexemes =
      step (body_is lexemes) (λ those rest good. finish (λ at. those) (closing_sound rest)
      (λ at fact. (refl, good)))

  module _ (n : ℕ) (body : Reader Stmts) (body_is : (lexemes : List Lexeme)
      → IsSound (SaysStmts d n) lexemes (body lexemes)) where
    pub arm_sound : (at : ℕ) (lexemes : List Lexeme)
        → IsSound (Spelled arm_words (IsNest IsArm arm_depth d arm_nest n)) lexemes
        (arm expr body at lexemes)
    arm_sound at lexemes =
        step (sound lexemes) (λ test rest good. sign (word.Keyword key.Then) tt (λ then_at after.
        finish (Tested at test) (body_is after) (λ those more. (
          simp append_assoc,
          record {
            is =
                (good.is, more.is);
            depth = omega arith;
            nest = more.nest;
          },
        ))))

    pub arms_sound : (most at : ℕ) (lexemes : List Lexeme) →
        IsSound (Spelled behind_if (IsNest (λ those. HasArm those × AreArms those) arms_depth d
        arms_nest n)) lexemes (arms most expr body at lexemes)
    unfolding behind_if
    arms_sound zero at lexemes = wrong
    arms_sound (suc most) at lexemes = step (arm_sound at lexemes) (λ first rest good.
        at_sign (word.Keyword key.Elsif) tt rest
        (finish (ThenArm first) (arms_sound most (head_at rest) (behind rest)) (λ others more. (
          ap (λ w. arm_words first ++ w) (elsif_arms others more.is.0),
          record {
            is =
                (tt, (good.is, more.is.1));
            depth = omega arith;
            nest = omega arith;
          },
        )))
        (done (refl, record { is = (tt, (good.is, tt)); depth = omega arith; nest = omega arith })))

    pub otherwise_sound : (lexemes : List Lexeme)
        → IsSound (Spelled otherwise_words (IsNest IsOtherwise otherwise_depth d otherwise_nest n))
        lexemes (otherwise body lexemes)
    otherwise_sound lexemes = at_sign (word.Keyword key.Else) tt lexemes
        (finish Else (body_is (behind lexemes)) (λ those good. (
          refl,
          record {
            is = good.is;
            depth =
                good.depth;
            nest = good.nest;
          },
        )))
        (done (refl, record { is = tt; depth = omega arith; nest = omega arith }))

    pub choice_sound : (most at : ℕ) (lexemes : List Lexeme)
        → IsSound (λ form more. SaysForm d (suc n) form (word.Keyword key.If ∷ more)) lexemes
        (choice most expr body at lexemes)
    choice_sound most at lexemes = step (arms_sound most at lexemes) (λ tested rest good.
        step (otherwise_sound rest) (λ other after more.
        finish (λ end. If tested other) (closing_sound after) (λ end fact. (
          ap (λ w. w ++ (otherwise_words other ++ end_words)) (if_arms tested good.is.0)
              ∙ sym (append_assoc (arms_words tested) (otherwise_words other) end_words),
          record { is = (good.is.0, good.is.1, more.is); depth = omega arith; nest = omega arith },
        ))))

    pub while_sound : (lexemes : List Lexeme)
        → IsSound (λ form more. SaysForm d (suc n) form (word.Keyword key.While ∷ more)) lexemes
        (while_loop expr body lexemes)
    while_sound lexemes =
        step (sound lexemes) (λ test rest good. sign (word.Keyword key.Do) tt (λ at after.
        finish (While test) (body_end_sound n body body_is after) (λ those more. (
          simp append_assoc,
          record {
            is = (good.is, more.is);
            depth = omega arith;
            nest =
                omega arith;
          },
        ))))

    pub repeat_sound : (lexemes : List Lexeme)
        → IsSound (λ form more. SaysForm d (suc n) form (word.Keyword key.Repeat ∷ more)) lexemes
        (repeat_loop expr body lexemes)
    repeat_sound lexemes = step (body_is lexemes) (λ those rest good.
        step (expect_sound (word.Keyword key.Until) tt rest) (λ until after fact.
        step (sound after) (λ test last more.
        last_sign (word.Symbol sym.Semicolon) tt _ (
          simp append_assoc,
          record {
            is =
                (good.is, more.is);
            depth = omega arith;
            nest = omega arith;
          },
        ))))

    pub for_sound : (lexemes : List Lexeme)
        → IsSound (λ form more. SaysForm d (suc n) form (word.Keyword key.For ∷ more)) lexemes
        (for_loop expr body lexemes)
    for_sound lexemes =
        step (for_head_sound lexemes) (λ head rest good. sign (word.Keyword key.Do) tt (λ at after.
        finish (For head) (body_end_sound n body body_is after) (λ those more. (
          for_regroup (head_words head) (stmts_words those),
          record {
            is =
                (good.is, more.is);
            depth = omega arith;
            nest = omega arith;
          },
        ))))

    started : (most : ℕ) (s : Start) (lexemes : List Lexeme) → IsStart (head_kind lexemes) s
        → IsSound (SaysForm d (suc n)) lexemes (form_by most expr body (Some s) lexemes)
    started most start.Name lexemes is =
        step (name_sound lexemes) (λ target rest fact. assign_or_call_sound n most target rest)
    started most start.Block lexemes is =
        behind_words _ (takes_head (word.Keyword key.Begin) tt lexemes is)
        (finish Block (body_end_sound n body body_is (behind lexemes)) (λ those good.
        (refl, record { is = good.is; depth = good.depth; nest = omega arith })))
    started most start.If lexemes is =
        behind_words _ (takes_head (word.Keyword key.If) tt lexemes is)
        (choice_sound most (head_at lexemes) (behind lexemes))
    started most start.While lexemes is =
        behind_words _ (takes_head (word.Keyword key.While) tt lexemes is)
        (while_sound (behind lexemes))
    started most start.Repeat lexemes is =
        behind_words _ (takes_head (word.Keyword key.Repeat) tt lexemes is)
        (repeat_sound (behind lexemes))
    started most start.For lexemes is =
        behind_words _ (takes_head (word.Keyword key.For) tt lexemes is)
        (for_sound (behind lexemes))
    started most (start.Border which) lexemes is = behind_words _ (takes_signed is)
        (step (names_sound most (behind lexemes)) (λ those rest has.
        last_sign (word.Symbol sym.Semicolon) tt _ (
          simp append_assoc,
          record {
            is =
                has;
            depth = omega arith;
            nest = omega arith;
          },
        )))
    started most (start.Write line) lexemes is = behind_words _ (takes_signed is)
        (sign (word.Symbol sym.OpenParen) tt (λ at rest.
        step (items_sound most rest) (λ those after good.
        last_sign (word.Symbol sym.Semicolon) tt _ (
          simp append_assoc,
          record {
            is =
                good.is;
            depth = good.depth;
            nest = omega arith;
          },
        ))))
    started most start.Return lexemes is =
        behind_words _ (takes_head (word.Keyword key.Return) tt lexemes is)
        (step (sound (behind lexemes)) (λ value rest good. last_sign (word.Symbol sym.Semicolon) tt
        _ (refl, record { is = good.is; depth = good.depth; nest = omega arith })))

    pub form_by_sound : (most : ℕ) (s : Option Start) (lexemes : List Lexeme)
        → start_of (head_kind lexemes) ≡ s
        → IsSound (SaysForm d (suc n)) lexemes (form_by most expr body s lexemes)
    form_by_sound most None lexemes e = wrong
    form_by_sound most (Some s) lexemes e =
        started most s lexemes (start_is (head_kind lexemes) s e)

    pub stmt_over_sound : (most : ℕ) (lexemes : List Lexeme)
        → IsSound (SaysStmt d (suc n)) lexemes (stmt_over most expr body lexemes)
    stmt_over_sound most lexemes = step (prefixes_sound most lexemes) (λ before rest good.
        finish (Prefixed (head_at rest) before) (form_by_sound most (start_of (head_kind rest)) rest
        refl) (λ form more.
        (refl, record { is = (good.is, more.is); depth = omega arith; nest = more.nest })))

  pub stmt_sound : (most deep : ℕ) (lexemes : List Lexeme)
      → IsSound (SaysStmt d deep) lexemes (stmt most expr deep lexemes)
  stmt_sound most zero lexemes =
      too_deep_sound (begins_stmt (head_kind lexemes)) lexemes (begins_no_end (head_kind lexemes))
  stmt_sound most (suc deep) lexemes =
      stmt_over_sound deep (stmts most (stmt most expr deep))
      (stmts_sound deep (stmt most expr deep) (stmt_sound most deep) most) most lexemes
