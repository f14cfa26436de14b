-- Statements of one shape that have the offsets of the same lexemes are equal.
use Rattle.std.proofs.Common.{◌≡◌, ℕ, Bool, List, map, Option, Some, None, refl, sym, ap, subst, ◌∙◌}
use Rattle.std.specs.List.{flat_map}
use Rattle.std.specs.Option.{option_map}
use Rattle.zpl_tree.specs.Syntax.{Name, Expr, Inner, Mask, Prefix, ForHead, Str, Value, Stmt, Prefixed, Stmts, NoStmt, ThenStmt, Assign, Invoke, Block, If, While, Repeat, For, Border, Write, Return, Arm, Tested, Arms, NoArm, ThenArm, NoElse, Else}
use Rattle.zpl_tree.specs.Shape.{name_shape, expr_shape, exprs_shape, mask_shape, prefix_shape, head_shape, item_shape, stmt_shape, form_shape, stmts_shape, arms_shape, arm_shape, otherwise_shape}
use Rattle.zpl_tree.specs.Spelling.{expr_words, inner_words, prefix_words, head_words, item_words, stmt_words, stmts_words, arms_words, arm_words}
use Rattle.zpl_grammar.specs.Lexeme.{Lexeme, head_at, behind}
use Rattle.zpl_grammar.specs.Offsets.{past, ExprAt, MaskAt, PrefixAt, StepAt, HeadAt, ItemAt, StmtAt, StmtsAt, FormAt, ArmsAt, ArmAt, OtherwiseAt}
use Rattle.zpl_parse.proofs.Once.Expressions.{AreOnce, ap_two, ap_three, each_once, separated_once, name_once, names_once, expr_once, exprs_once, inner_once}

mask_once : AreOnce MaskAt (option_map mask_shape)
mask_once lexemes None None x y e = refl
mask_once lexemes (Some mask) (Some other_mask) x y e =
    let masks : mask_shape mask ≡ mask_shape other_mask = cc in
    let name =
    name_once (behind lexemes) mask.name other_mask.name x y (ap (λ (m : Mask). m.name) masks)
    in
    ap Some (ap_two (λ (n : Name) (b : Bool). record {
      name = n;
      without =
          b;
    }) name (ap (λ (m : Mask). m.without) masks))
mask_once lexemes None (Some mask) x y e = absurd (let no : ⊥ = cc in no)
mask_once lexemes (Some mask) None x y e = absurd (let no : ⊥ = cc in no)

prefix_once : AreOnce PrefixAt prefix_shape
prefix_once lexemes one other x y e =
    let region =
    inner_once (behind lexemes) one.region other.region x.1 y.1
    (ap (λ (p : Prefix). p.region) e) in
    let there =
    subst (λ (z : Inner). MaskAt (past (inner_words z) (behind lexemes)) other.mask)
    (sym region) y.2 in
    let mask =
    mask_once (past (inner_words one.region) (behind lexemes)) one.mask other.mask x.2 there
    (ap (λ (p : Prefix). p.mask) e) in
    ap_three (λ (at : ℕ) (region : Inner) (mask : Option Mask). record {
      at = at;
      region =
          region;
      mask = mask;
    }) (x.0 ∙ sym y.0) region mask

step_once : AreOnce StepAt (option_map expr_shape)
step_once lexemes None None x y e = refl
step_once lexemes (Some step) (Some other_step) x y e =
    let steps : expr_shape step ≡ expr_shape other_step = cc in
    ap Some (expr_once (behind lexemes) step other_step x y steps)
step_once lexemes None (Some step) x y e = absurd (let no : ⊥ = cc in no)
step_once lexemes (Some step) None x y e = absurd (let no : ⊥ = cc in no)

pub ap_five : {A B C D E F : Type 0} (f : A → B → C → D → E
    → F) {a b : A} {c d : B} {i j : C} {k l : D} {m n : E} →
    a ≡ b → c ≡ d → i ≡ j → k ≡ l → m ≡ n → f a c i k m ≡ f b d j l n
ap_five f e g h i j = cc

head_once : AreOnce HeadAt head_shape
head_once lexemes one other x y e =
    let begin : List Lexeme = behind (behind lexemes) in
    let name = name_once lexemes one.name other.name x.0 y.0 (ap (λ (h : ForHead). h.name) e) in
    let first =
    expr_once begin one.first other.first x.1.0 y.1.0 (ap (λ (h : ForHead). h.first) e) in
    let last_there =
    subst (λ (z : Expr). ExprAt (behind (past (expr_words z) begin)) other.last) (sym first)
    y.1.1 in
    let last =
    expr_once (behind (past (expr_words one.first) begin)) one.last other.last x.1.1 last_there
    (ap (λ (h : ForHead). h.last) e) in
    let place =
    ap_two (λ (z w : Expr). past (expr_words w) (behind (past (expr_words z) begin))) first last
    in
    let step_there = subst (λ (l : List Lexeme). StepAt l other.step) (sym place) y.1.2 in
    let step = step_once (past (expr_words one.last) (behind (past (expr_words one.first) begin)))
    one.step other.step x.1.2 step_there (ap (λ (h : ForHead). h.step) e) in
    ap_five (λ (n : Name) (from : Expr) (down : Bool) (to : Expr) (by : Option Expr).
    record { name = n; first = from; down = down; last = to; step = by })
    name first (ap (λ (h : ForHead). h.down) e) last step

item_once : AreOnce ItemAt item_shape
item_once lexemes (Str bytes) (Str other_bytes) x y e = e
item_once lexemes (Value value) (Value other_value) x y e =
    let values : expr_shape value ≡ expr_shape other_value = cc in
    ap Value (expr_once lexemes value other_value x y values)
item_once lexemes (Str bytes) (Value value) x y e = absurd (let no : ⊥ = cc in no)
item_once lexemes (Value value) (Str bytes) x y e = absurd (let no : ⊥ = cc in no)

mutual
  pub stmt_once : AreOnce StmtAt stmt_shape
  stmt_once lexemes (Prefixed at prefixes form) (Prefixed other_at other_prefixes other_form) x y e
      =
      let those : map prefix_shape prefixes ≡ map prefix_shape other_prefixes = cc in
      let forms : form_shape form ≡ form_shape other_form = cc in
      let prefixes_same =
      each_once PrefixAt prefix_words prefix_shape prefix_once lexemes prefixes other_prefixes
      x.0 y.0 those in
      let place = ap (λ (z : List Prefix). past (flat_map prefix_words z) lexemes) prefixes_same in
      let ats : at ≡ other_at = x.1 ∙ (ap head_at place ∙ sym y.1) in
      let there = subst (λ (l : List Lexeme). FormAt l other_form) (sym place) y.2 in
      let form_same =
      form_once (past (flat_map prefix_words prefixes) lexemes) form other_form x.2 there forms
      in
      cc

  pub stmts_once : AreOnce StmtsAt stmts_shape
  stmts_once lexemes NoStmt NoStmt x y e = refl
  stmts_once lexemes (ThenStmt first rest) (ThenStmt other_first other_rest) x y e =
      let firsts : stmt_shape first ≡ stmt_shape other_first = cc in
      let rests : stmts_shape rest ≡ stmts_shape other_rest = cc in
      let same = stmt_once lexemes first other_first x.0 y.0 firsts in
      let there =
      subst (λ (z : Stmt). StmtsAt (past (stmt_words z) lexemes) other_rest) (sym same) y.1 in
      ap_two ThenStmt same (stmts_once (past (stmt_words first) lexemes) rest other_rest x.1 there
      rests)
  stmts_once lexemes one other x y e = absurd (let no : ⊥ = cc in no)

  pub form_once : AreOnce FormAt form_shape
  form_once lexemes (Assign name op value) (Assign other_name other_op other_value) x y e =
      let names : name_shape name ≡ name_shape other_name = cc in
      let ops : op ≡ other_op = cc in
      let values : expr_shape value ≡ expr_shape other_value = cc in
      let name_same = name_once lexemes name other_name x.0 y.0 names in
      let value_same = expr_once (behind (behind lexemes)) value other_value x.1 y.1 values in
      cc
  form_once lexemes (Invoke name actuals) (Invoke other_name other_actuals) x y e =
      let names : name_shape name ≡ name_shape other_name = cc in
      let those : exprs_shape actuals ≡ exprs_shape other_actuals = cc in
      ap_two Invoke (name_once lexemes name other_name x.0 y.0 names)
      (exprs_once (behind (behind lexemes)) actuals other_actuals x.1 y.1 those)
  form_once lexemes (Block body) (Block other_body) x y e =
      let bodies : stmts_shape body ≡ stmts_shape other_body = cc in
      ap Block (stmts_once (behind lexemes) body other_body x y bodies)
  form_once lexemes (If arms otherwise) (If other_arms other_otherwise) x y e =
      let those : arms_shape arms ≡ arms_shape other_arms = cc in
      let others : otherwise_shape otherwise ≡ otherwise_shape other_otherwise = cc in
      let same = arms_once lexemes arms other_arms x.0 y.0 those in
      let there =
      subst (λ (z : Arms). OtherwiseAt (past (arms_words z) lexemes) other_otherwise) (sym same)
      y.1 in
      ap_two If same (otherwise_once (past (arms_words arms) lexemes) otherwise other_otherwise x.1
      there others)
  form_once lexemes (While test body) (While other_test other_body) x y e =
      let tests : expr_shape test ≡ expr_shape other_test = cc in
      let bodies : stmts_shape body ≡ stmts_shape other_body = cc in
      let same = expr_once (behind lexemes) test other_test x.0 y.0 tests in
      let there =
      subst (λ (z : Expr). StmtsAt (behind (past (expr_words z) (behind lexemes))) other_body)
      (sym same) y.1 in
      ap_two While same (stmts_once (behind (past (expr_words test) (behind lexemes))) body
      other_body x.1 there bodies)
  form_once lexemes (Repeat body until test) (Repeat other_body other_until other_test) x y e =
      let bodies : stmts_shape body ≡ stmts_shape other_body = cc in
      let tests : expr_shape test ≡ expr_shape other_test = cc in
      let body_same = stmts_once (behind lexemes) body other_body x.0 y.0 bodies in
      let place = ap (λ (z : Stmts). past (stmts_words z) (behind lexemes)) body_same in
      let untils : until ≡ other_until = x.1 ∙ (ap head_at place ∙ sym y.1) in
      let there = subst (λ (l : List Lexeme). ExprAt (behind l) other_test) (sym place) y.2 in
      let test_same =
      expr_once (behind (past (stmts_words body) (behind lexemes))) test other_test x.2 there
      tests in
      cc
  form_once lexemes (For head body) (For other_head other_body) x y e =
      let heads : head_shape head ≡ head_shape other_head = cc in
      let bodies : stmts_shape body ≡ stmts_shape other_body = cc in
      let same = head_once (behind lexemes) head other_head x.0 y.0 heads in
      let there =
      subst (λ (z : ForHead). StmtsAt (behind (past (head_words z) (behind lexemes)))
      other_body) (sym same) y.1 in
      ap_two For same (stmts_once (behind (past (head_words head) (behind lexemes))) body other_body
      x.1 there bodies)
  form_once lexemes (Border kind names) (Border other_kind other_names) x y e =
      let kinds : kind ≡ other_kind = cc in
      let those : map name_shape names ≡ map name_shape other_names = cc in
      ap_two Border kinds (names_once (behind lexemes) names other_names x y those)
  form_once lexemes (Write line items) (Write other_line other_items) x y e =
      let lines : line ≡ other_line = cc in
      let those : map item_shape items ≡ map item_shape other_items = cc in
      ap_two Write lines (separated_once ItemAt item_words item_shape item_once
      (behind (behind lexemes)) items other_items x y those)
  form_once lexemes (Return value) (Return other_value) x y e =
      let values : expr_shape value ≡ expr_shape other_value = cc in
      ap Return (expr_once (behind lexemes) value other_value x y values)
  form_once lexemes one other x y e = absurd (let no : ⊥ = cc in no)

  pub arms_once : AreOnce ArmsAt arms_shape
  arms_once lexemes NoArm NoArm x y e = refl
  arms_once lexemes (ThenArm first rest) (ThenArm other_first other_rest) x y e =
      let firsts : arm_shape first ≡ arm_shape other_first = cc in
      let rests : arms_shape rest ≡ arms_shape other_rest = cc in
      let same = arm_once lexemes first other_first x.0 y.0 firsts in
      let there =
      subst (λ (z : Arm). ArmsAt (past (arm_words z) (behind lexemes)) other_rest) (sym same)
      y.1 in
      ap_two ThenArm same (arms_once (past (arm_words first) (behind lexemes)) rest other_rest x.1
      there rests)
  arms_once lexemes one other x y e = absurd (let no : ⊥ = cc in no)

  pub arm_once : AreOnce ArmAt arm_shape
  arm_once lexemes (Tested at test body) (Tested other_at other_test other_body) x y e =
      let tests : expr_shape test ≡ expr_shape other_test = cc in
      let bodies : stmts_shape body ≡ stmts_shape other_body = cc in
      let ats : at ≡ other_at = x.0 ∙ sym y.0 in
      let test_same = expr_once (behind lexemes) test other_test x.1 y.1 tests in
      let there =
      subst (λ (z : Expr). StmtsAt (behind (past (expr_words z) (behind lexemes))) other_body)
      (sym test_same) y.2 in
      let body_same =
      stmts_once (behind (past (expr_words test) (behind lexemes))) body other_body x.2 there
      bodies in
      cc

  pub otherwise_once : AreOnce OtherwiseAt otherwise_shape
  otherwise_once lexemes NoElse NoElse x y e = refl
  otherwise_once lexemes (Else body) (Else other_body) x y e =
      let bodies : stmts_shape body ≡ stmts_shape other_body = cc in
      ap Else (stmts_once (behind lexemes) body other_body x y bodies)
  otherwise_once lexemes one other x y e = absurd (let no : ⊥ = cc in no)
