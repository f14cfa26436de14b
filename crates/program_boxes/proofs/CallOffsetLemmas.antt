-- In the text of a procedure no two calls stand at one offset.
use Rattle.std.proofs.Common.{◌≡◌, ℕ, Bool, true, false, cond, List, [], ◌∷◌, ◌++◌, map, Option, Some, None, refl, sym, ap, ◌∙◌, subst, append-nil, append_assoc}
use Rattle.std.specs.Prelude.{filter_map}
use Rattle.std.specs.List.{cons_option, flat_map}
use Rattle.std.proofs.lemmas.List.{map-append}
use Rattle.std.proofs.lemmas.List.Elements.{filter_map-append}
use Rattle.zpl_nums.specs.declared.operators.Op.{Op}
use Rattle.zpl_tokens.specs.declared.Kind.TheVariants as kind
use Rattle.zpl_tokens.specs.declared.keywords.Key.TheVariants as key
use Rattle.zpl_tokens.specs.declared.symbols.Sym.TheVariants as sym
use Rattle.zpl_tree.specs.Spelling.{arm_words, arms_words, end_words, expr_words, exprs_words, form_words, head_words, in_round, keyword, more_arms, name_words, otherwise_words, prefix_words, stmt_words, stmts_words, symbol}
use Rattle.zpl_tree.specs.Syntax.{Base, Name, Expr, Number, Truth, Coord, Named, Shifted, Around, Remap, Call, Paren, Neg, Not, Abs, Pair, Reduce, Scan, Flood, Exprs, Item, Str, Value, Stmt, Prefixed, Stmts, NoStmt, ThenStmt, Form, Assign, Invoke, Block, If, While, Repeat, For, Border, Write, Return, Tested, Arms, NoArm, ThenArm, Otherwise, NoElse, Else}
use Rattle.zpl_tree.specs.Word.{Word}
use Rattle.zpl_grammar.specs.Lexeme.{Lexeme, behind}
use Rattle.zpl_grammar.specs.Offsets.{ArmsAt, FormAt, NameAt, OtherwiseAt, StmtAt, StmtsAt, past}
use Rattle.zpl_names.specs.Accepted.{HasNoFault}
use Rattle.zpl_names.specs.Scope.{is_procedure, kind_of}
use Rattle.zpl_names.specs.Sites.{Reach, Assigned, AsStatement, CallRole, Limit, Printed, Result, Test, CallSite, Site, AtCall, AtStmt, arms_rank, arms_sites, body_sites, call_of, call_place, form_sites, inside, item_sites, otherwise_sites, outermost_sites, prefixes_sites, actuals_sites, step_sites, stmt_sites, stmts_sites, test_rank, under_prefixes, value_sites, whole_sites}
use Rattle.zpl_meaning.proofs.DepthLemmas.{Each, each_left, each_right}
use Rattle.lowered_flat.proofs.ApartLemmas.{name_taken, reads_front, skip_past}
use Rattle.lowered_flat.proofs.ReadLemmas.{Reads, past_both, reads_past}
use Rattle.program_boxes.proofs.PlainSiteLemmas.{IsPlain, actuals_plain, plain_both, prefixes_plain, whole_plain}
use Rattle.program_boxes.proofs.QuietLemmas.{no_calls}

-- the offsets of the procedures that sites call
abbrev pub call_ats : List Site → List ℕ
call_ats sites = map (λ call. call.name.at) (filter_map call_of sites)

ats_both : (xs ys : List Site) → call_ats (xs ++ ys) ≡ call_ats xs ++ call_ats ys
ats_both xs ys =
    ap (map (λ (call : CallSite). call.name.at)) (filter_map-append call_of xs ys)
    ∙ map-append (λ (call : CallSite). call.name.at) (filter_map call_of xs) (filter_map call_of ys)

no_ats : (sites : List Site) → IsPlain sites → call_ats sites ≡ []
no_ats sites plain = ap (map (λ (call : CallSite). call.name.at)) (no_calls sites plain.reads)

plain_front : (xs ys : List Site) → IsPlain xs → call_ats (xs ++ ys) ≡ call_ats ys
plain_front xs ys plain =
    ats_both xs ys ∙ ap (λ front. front ++ call_ats ys) (no_ats xs plain)

plain_back : (xs ys : List Site) → IsPlain ys → call_ats (xs ++ ys) ≡ call_ats xs
plain_back xs ys plain =
    ats_both xs ys ∙ ap (λ back. call_ats xs ++ back) (no_ats ys plain)
    ∙ append-nil (call_ats xs)

items_plain : (reach : Reach) (items : List Item) →
    Each HasNoFault (flat_map (item_sites reach) items) →
    IsPlain (flat_map (item_sites reach) items)
items_plain reach [] clean = record { reads = refl }
items_plain reach (Str bytes ∷ items) clean = items_plain reach items clean
items_plain reach (Value one ∷ items) clean =
    let xs = whole_sites reach Printed one in
    let ys = flat_map (item_sites reach) items in
    plain_both xs ys (whole_plain reach Printed one (each_left HasNoFault xs ys clean))
    (items_plain reach items (each_right HasNoFault xs ys clean))

step_plain : (reach : Reach) (step : Option Expr) → Each HasNoFault (step_sites reach step) →
    IsPlain (step_sites reach step)
step_plain reach None clean = record { reads = refl }
step_plain reach (Some step) clean = whole_plain reach Limit step clean

module _ (Taken : List Lexeme → List ℕ → Type 0)
    (takes : (first : Lexeme) (rest : List Lexeme) (ats : List ℕ) → first.kind ≡ kind.Name →
    Taken rest ats → Taken (first ∷ rest) (first.at ∷ ats))
    (skips : (first : Lexeme) (rest : List Lexeme) (ats : List ℕ) → Taken rest ats →
    Taken (first ∷ rest) ats) where
  skip : (words : List Word) (lexemes : List Lexeme) (ats : List ℕ) →
      Taken (past words lexemes) ats → Taken lexemes ats
  skip words lexemes ats taken = skip_past Taken takes skips words lexemes ats taken

  -- code without calls is skipped
  skip_plain : (words : List Word) (sites : List Site) (lexemes : List Lexeme) (ats : List ℕ) →
      IsPlain sites → Taken (past words lexemes) ats → Taken lexemes (call_ats sites ++ ats)
  skip_plain words sites lexemes ats plain taken =
      subst (λ front. Taken lexemes (front ++ ats)) (sym (no_ats sites plain))
      (skip words lexemes ats taken)

  -- a call, which may be one of a procedure or not
  call_taken : (reach : Reach) (role : CallRole) (name : Name) (actuals : Exprs)
      (words : List Word) (lexemes : List Lexeme) (ats : List ℕ) →
      IsPlain (actuals_sites reach actuals) → Reads lexemes (name_words name ++ words) →
      NameAt lexemes name → Taken (past (name_words name ++ words) lexemes) ats →
      Taken lexemes (call_ats (AtCall reach role name actuals ∷ actuals_sites reach actuals) ++ ats)
  call_taken reach role name actuals words [] ats plain reads at taken = absurd reads
  call_taken reach role name actuals words (first ∷ rest) ats plain reads at taken =
      subst (λ others. Taken (first ∷ rest) (map (λ (call : CallSite). call.name.at)
      (cons_option (call_of (AtCall reach role name actuals)) others) ++ ats))
      (sym (no_calls (actuals_sites reach actuals) plain.reads))
      (by (is_procedure (kind_of reach.scope name)))
    where
      by : (b : Bool) → Taken (first ∷ rest) (map (λ (call : CallSite). call.name.at)
          (cons_option (cond b
          (Some (record { name = name; actuals = actuals; shapes = reach.shapes })) None) [])
          ++ ats)
      by true = name_taken Taken takes skips name first rest ats reads.0 at (skip words rest ats
          taken)
      by false = skips first rest ats (skip words rest ats taken)

  -- behind other words
  taken_past : (words more : List Word) (lexemes : List Lexeme) (ats : List ℕ) →
      Taken (past (words ++ more) lexemes) ats → Taken (past more (past words lexemes)) ats
  taken_past words more lexemes ats taken =
      subst (λ (rest : List Lexeme). Taken rest ats) (past_both words more lexemes) taken

  both_taken : (xs ys : List Site) (lexemes : List Lexeme) (ats : List ℕ) →
      Taken lexemes (call_ats xs ++ (call_ats ys ++ ats)) →
      Taken lexemes (call_ats (xs ++ ys) ++ ats)
  both_taken xs ys lexemes ats taken =
      subst (Taken lexemes)
      (sym (append_assoc (call_ats xs) (call_ats ys) ats)
      ∙ ap (λ all. all ++ ats) (sym (ats_both xs ys))) taken

  assign_taken : (reach : Reach) (name : Name) (op : Option Op) (value : Expr)
      (lexemes : List Lexeme) (ats : List ℕ) →
      Each HasNoFault (value_sites reach name op value) →
      Reads lexemes (form_words (Assign name op value)) → FormAt lexemes (Assign name op value) →
      Taken (past (form_words (Assign name op value)) lexemes) ats →
      Taken lexemes (call_ats (value_sites reach name op value) ++ ats)
  assign_taken reach name None (Call at callee actuals) lexemes ats clean reads here taken =
      by lexemes reads here.1.1 taken
    where
      by : (lexemes : List Lexeme) →
          Reads lexemes (form_words (Assign name None (Call at callee actuals))) →
          NameAt (behind (behind lexemes)) callee →
          Taken (past (form_words (Assign name None (Call at callee actuals))) lexemes) ats →
          Taken lexemes (call_ats (value_sites reach name None (Call at callee actuals)) ++ ats)
      by [] reads at taken = absurd reads
      by (one ∷ []) reads at taken = absurd reads.1
      by (one ∷ two ∷ rest) reads at taken =
          skips one (two ∷ rest) _
          (skips two rest _
          (call_taken reach (call_place (kind_of reach.scope name)) callee actuals
          (in_round (exprs_words actuals) ++ symbol sym.Semicolon) rest ats
          (actuals_plain reach actuals clean.1.1) reads.1.1 at taken))
  assign_taken reach name (Some op) value lexemes ats clean reads here taken =
      skip_plain (form_words (Assign name (Some op) value)) (value_sites reach name (Some op) value)
      lexemes ats (whole_plain reach (Assigned name (Some op)) value clean) taken
  assign_taken reach name None (Number at number) lexemes ats clean reads here taken =
      skip_plain (form_words (Assign name None (Number at number)))
      (value_sites reach name None (Number at number)) lexemes ats
      (whole_plain reach (Assigned name None) (Number at number) clean) taken
  assign_taken reach name None (Truth at truth) lexemes ats clean reads here taken =
      skip_plain (form_words (Assign name None (Truth at truth)))
      (value_sites reach name None (Truth at truth)) lexemes ats
      (whole_plain reach (Assigned name None) (Truth at truth) clean) taken
  assign_taken reach name None (Coord at k) lexemes ats clean reads here taken =
      skip_plain (form_words (Assign name None (Coord at k)))
      (value_sites reach name None (Coord at k)) lexemes ats
      (whole_plain reach (Assigned name None) (Coord at k) clean) taken
  assign_taken reach name None (Named at read) lexemes ats clean reads here taken =
      skip_plain (form_words (Assign name None (Named at read)))
      (value_sites reach name None (Named at read)) lexemes ats
      (whole_plain reach (Assigned name None) (Named at read) clean) taken
  assign_taken reach name None (Shifted at read shift) lexemes ats clean reads here taken =
      skip_plain (form_words (Assign name None (Shifted at read shift)))
      (value_sites reach name None (Shifted at read shift)) lexemes ats
      (whole_plain reach (Assigned name None) (Shifted at read shift) clean) taken
  assign_taken reach name None (Around at read shift) lexemes ats clean reads here taken =
      skip_plain (form_words (Assign name None (Around at read shift)))
      (value_sites reach name None (Around at read shift)) lexemes ats
      (whole_plain reach (Assigned name None) (Around at read shift) clean) taken
  assign_taken reach name None (Remap at read indices) lexemes ats clean reads here taken =
      skip_plain (form_words (Assign name None (Remap at read indices)))
      (value_sites reach name None (Remap at read indices)) lexemes ats
      (whole_plain reach (Assigned name None) (Remap at read indices) clean) taken
  assign_taken reach name None (Paren at inner) lexemes ats clean reads here taken =
      skip_plain (form_words (Assign name None (Paren at inner)))
      (value_sites reach name None (Paren at inner)) lexemes ats
      (whole_plain reach (Assigned name None) (Paren at inner) clean) taken
  assign_taken reach name None (Neg at operand) lexemes ats clean reads here taken =
      skip_plain (form_words (Assign name None (Neg at operand)))
      (value_sites reach name None (Neg at operand)) lexemes ats
      (whole_plain reach (Assigned name None) (Neg at operand) clean) taken
  assign_taken reach name None (Not at operand) lexemes ats clean reads here taken =
      skip_plain (form_words (Assign name None (Not at operand)))
      (value_sites reach name None (Not at operand)) lexemes ats
      (whole_plain reach (Assigned name None) (Not at operand) clean) taken
  assign_taken reach name None (Abs at operand) lexemes ats clean reads here taken =
      skip_plain (form_words (Assign name None (Abs at operand)))
      (value_sites reach name None (Abs at operand)) lexemes ats
      (whole_plain reach (Assigned name None) (Abs at operand) clean) taken
  assign_taken reach name None (Pair at operator left right) lexemes ats clean reads here taken =
      skip_plain (form_words (Assign name None (Pair at operator left right)))
      (value_sites reach name None (Pair at operator left right)) lexemes ats
      (whole_plain reach (Assigned name None) (Pair at operator left right) clean) taken
  assign_taken reach name None (Reduce at operator over operand) lexemes ats clean reads here taken
      =
      skip_plain (form_words (Assign name None (Reduce at operator over operand)))
      (value_sites reach name None (Reduce at operator over operand)) lexemes ats
      (whole_plain reach (Assigned name None) (Reduce at operator over operand) clean) taken
  assign_taken reach name None (Scan at operator along operand) lexemes ats clean reads here taken =
      skip_plain (form_words (Assign name None (Scan at operator along operand)))
      (value_sites reach name None (Scan at operator along operand)) lexemes ats
      (whole_plain reach (Assigned name None) (Scan at operator along operand) clean) taken
  assign_taken reach name None (Flood at source operand) lexemes ats clean reads here taken =
      skip_plain (form_words (Assign name None (Flood at source operand)))
      (value_sites reach name None (Flood at source operand)) lexemes ats
      (whole_plain reach (Assigned name None) (Flood at source operand) clean) taken

  -- statements between words that make no calls
  within_taken : (front behind_it words : List Word) (inner sites : List Site)
      (lexemes : List Lexeme) (ats : List ℕ) → call_ats sites ≡ call_ats inner →
      Reads lexemes ((front ++ words) ++ behind_it) →
      Taken (past ((front ++ words) ++ behind_it) lexemes) ats →
      (Reads (past front lexemes) words → Taken (past words (past front lexemes)) ats →
      Taken (past front lexemes) (call_ats inner ++ ats)) →
      Taken lexemes (call_ats sites ++ ats)
  within_taken front behind_it words inner sites lexemes ats same reads taken step =
      subst (λ front. Taken lexemes (front ++ ats)) (sym same)
      (skip front lexemes (call_ats inner ++ ats)
      (step
      (reads_past front words lexemes (reads_front (front ++ words) behind_it lexemes reads))
      (taken_past front words lexemes ats
      (skip behind_it (past (front ++ words) lexemes) ats
      (taken_past (front ++ words) behind_it lexemes ats taken)))))

  -- an arm behind `if` or `elsif`, and those behind it
  arm_taken : (own : ℕ) (test : Expr) (body : Stmts) (rest : Arms) (reach within : Reach)
      (lexemes : List Lexeme) (ats : List ℕ) →
      Each HasNoFault (whole_sites reach Test test) →
      Reads lexemes (arm_words (Tested own test body) ++ more_arms rest) →
      Taken (past (arm_words (Tested own test body) ++ more_arms rest) lexemes) ats →
      ((later : List ℕ) →
      Reads (past (expr_words test ++ keyword key.Then) lexemes) (stmts_words body) →
      Taken (past (stmts_words body) (past (expr_words test ++ keyword key.Then) lexemes)) later →
      Taken (past (expr_words test ++ keyword key.Then) lexemes)
      (call_ats (stmts_sites within body) ++ later)) →
      (Reads (past (arm_words (Tested own test body)) lexemes) (more_arms rest) →
      Taken (past (more_arms rest) (past (arm_words (Tested own test body)) lexemes)) ats →
      Taken (past (arm_words (Tested own test body)) lexemes)
      (call_ats (arms_sites reach within rest) ++ ats)) →
      Taken lexemes (call_ats (arms_sites reach within (ThenArm (Tested own test body) rest)) ++
      ats)
  arm_taken own test body rest reach within lexemes ats clean reads taken bodies rests =
      let xs = whole_sites reach Test test in
      let ys = stmts_sites within body in
      let zs = arms_sites reach within rest in
      let front = expr_words test ++ keyword key.Then in
      let words = front ++ stmts_words body in
      both_taken (xs ++ ys) zs lexemes ats
      (subst (λ ats_here. Taken lexemes (ats_here ++ (call_ats zs ++ ats)))
      (sym (plain_front xs ys (whole_plain reach Test test clean)))
      (skip front lexemes (call_ats ys ++ (call_ats zs ++ ats))
      (bodies (call_ats zs ++ ats)
      (reads_past front (stmts_words body) lexemes
      (reads_front words (more_arms rest) lexemes reads))
      (taken_past front (stmts_words body) lexemes (call_ats zs ++ ats)
      (rests (reads_past words (more_arms rest) lexemes reads)
      (taken_past words (more_arms rest) lexemes ats taken))))))

  -- where the statements of an arm stand
  arm_at : (test : Expr) (body : Stmts) (lexemes : List Lexeme) →
      StmtsAt (behind (past (expr_words test) lexemes)) body →
      StmtsAt (past (expr_words test ++ keyword key.Then) lexemes) body
  arm_at test body lexemes here =
      subst (λ (rest : List Lexeme). StmtsAt rest body)
      (sym (past_both (expr_words test) (keyword key.Then) lexemes)) here

  mutual
    pub stmt_taken : (stmt : Stmt) (reach : Reach) (lexemes : List Lexeme) (ats : List ℕ) →
        Each HasNoFault (stmt_sites reach stmt) → Reads lexemes (stmt_words stmt) →
        StmtAt lexemes stmt → Taken (past (stmt_words stmt) lexemes) ats →
        Taken lexemes (call_ats (stmt_sites reach stmt) ++ ats)
    stmt_taken (Prefixed at prefixes form) reach lexemes ats clean reads here taken =
        let words = flat_map prefix_words prefixes in
        let within = under_prefixes reach prefixes in
        let xs = prefixes_sites reach prefixes in
        let ys = AtStmt within at prefixes form ∷ form_sites within form in
        both_taken xs ys lexemes ats
        (skip_plain words xs lexemes (call_ats (form_sites within form) ++ ats)
        (prefixes_plain reach prefixes (each_left HasNoFault xs ys clean))
        (form_taken form within (past words lexemes) ats (each_right HasNoFault xs ys clean).1
        (reads_past words (form_words form) lexemes reads) here.2
        (taken_past words (form_words form) lexemes ats taken)))

    pub stmts_taken : (stmts : Stmts) (reach : Reach) (lexemes : List Lexeme) (ats : List ℕ) →
        Each HasNoFault (stmts_sites reach stmts) → Reads lexemes (stmts_words stmts) →
        StmtsAt lexemes stmts → Taken (past (stmts_words stmts) lexemes) ats →
        Taken lexemes (call_ats (stmts_sites reach stmts) ++ ats)
    stmts_taken NoStmt reach lexemes ats clean reads here taken = taken
    stmts_taken (ThenStmt first rest) reach lexemes ats clean reads here taken =
        let xs = stmt_sites reach first in
        let ys = stmts_sites reach rest in
        both_taken xs ys lexemes ats
        (stmt_taken first reach lexemes (call_ats ys ++ ats) (each_left HasNoFault xs ys clean)
        (reads_front (stmt_words first) (stmts_words rest) lexemes reads) here.0
        (stmts_taken rest reach (past (stmt_words first) lexemes) ats
        (each_right HasNoFault xs ys clean)
        (reads_past (stmt_words first) (stmts_words rest) lexemes reads) here.1
        (taken_past (stmt_words first) (stmts_words rest) lexemes ats taken)))

    form_taken : (form : Form) (reach : Reach) (lexemes : List Lexeme) (ats : List ℕ) →
        Each HasNoFault (form_sites reach form) → Reads lexemes (form_words form) →
        FormAt lexemes form → Taken (past (form_words form) lexemes) ats →
        Taken lexemes (call_ats (form_sites reach form) ++ ats)
    form_taken (Assign name op value) reach lexemes ats clean reads here taken =
        assign_taken reach name op value lexemes ats clean reads here taken
    form_taken (Invoke name actuals) reach lexemes ats clean reads here taken =
        call_taken reach AsStatement name actuals (in_round (exprs_words actuals) ++ symbol
        sym.Semicolon)
        lexemes ats (actuals_plain reach actuals clean.1) reads here.0 taken
    form_taken (Block body) reach lexemes ats clean reads here taken =
        within_taken (keyword key.Begin) end_words (stmts_words body)
        (stmts_sites (inside reach (Some 0)) body) (form_sites reach (Block body)) lexemes ats refl
        reads taken
        (λ read after. stmts_taken body (inside reach (Some 0)) (past (keyword key.Begin) lexemes)
        ats
        clean read here after)
    form_taken (If arms otherwise) reach lexemes ats clean reads here taken =
        let within = inside reach (arms_rank reach arms) in
        let xs = arms_sites reach within arms in
        let ys = otherwise_sites within otherwise in
        let one = arms_words arms in
        let two = one ++ otherwise_words otherwise in
        let front = reads_front two end_words lexemes reads in
        let inner = skip end_words (past two lexemes) ats
        (taken_past two end_words lexemes ats taken) in
        both_taken xs ys lexemes ats
        (first_arms arms reach within lexemes (call_ats ys ++ ats)
        (each_left HasNoFault xs ys clean)
        (reads_front one (otherwise_words otherwise) lexemes front) here.0
        (otherwise_taken otherwise within (past one lexemes) ats (each_right HasNoFault xs ys clean)
        (reads_past one (otherwise_words otherwise) lexemes front) here.1
        (taken_past one (otherwise_words otherwise) lexemes ats inner)))
    form_taken (While test body) reach lexemes ats clean reads here taken =
        let xs = whole_sites reach Test test in
        let within = inside reach (test_rank reach test) in
        let ys = stmts_sites within body in
        let front = (keyword key.While ++ expr_words test) ++ keyword key.Do in
        within_taken front end_words (stmts_words body) ys (xs ++ ys) lexemes ats
        (plain_front xs ys (whole_plain reach Test test (each_left HasNoFault xs ys clean))) reads
        taken
        (λ read after. stmts_taken body within (past front lexemes) ats
        (each_right HasNoFault xs ys clean) read
        (subst (λ (rest : List Lexeme). StmtsAt rest body)
        (sym (past_both (keyword key.While ++ expr_words test) (keyword key.Do) lexemes)) here.1)
        after)
    form_taken (Repeat body until test) reach lexemes ats clean reads here taken =
        let within = inside reach (test_rank reach test) in
        let xs = stmts_sites within body in
        let ys = whole_sites reach Test test in
        let first = keyword key.Repeat ++ stmts_words body in
        let second = keyword key.Until ++ expr_words test ++ symbol sym.Semicolon in
        let same : form_words (Repeat body until test) ≡ first ++ second =
        append_assoc (first ++ keyword key.Until) (expr_words test) (symbol sym.Semicolon)
        ∙ append_assoc first (keyword key.Until) (expr_words test ++ symbol sym.Semicolon) in
        within_taken (keyword key.Repeat) second (stmts_words body) xs (xs ++ ys) lexemes ats
        (plain_back xs ys (whole_plain reach Test test (each_right HasNoFault xs ys clean)))
        (subst (Reads lexemes) same reads)
        (subst (λ (words : List Word). Taken (past words lexemes) ats) same taken)
        (λ read after. stmts_taken body within (past (keyword key.Repeat) lexemes) ats
        (each_left HasNoFault xs ys clean) read here.0 after)
    form_taken (For head body) reach lexemes ats clean reads here taken =
        let a = whole_sites reach Limit head.first in
        let b = whole_sites reach Limit head.last in
        let c = step_sites reach head.step in
        let within = inside reach (Some 0) in
        let ys = stmts_sites within body in
        let heads = each_left HasNoFault ((a ++ b) ++ c) ys clean in
        let two = each_left HasNoFault (a ++ b) c heads in
        let plain = plain_both (a ++ b) c
        (plain_both a b (whole_plain reach Limit head.first (each_left HasNoFault a b two))
        (whole_plain reach Limit head.last (each_right HasNoFault a b two)))
        (step_plain reach head.step (each_right HasNoFault (a ++ b) c heads)) in
        let front = (keyword key.For ++ head_words head) ++ keyword key.Do in
        within_taken front end_words (stmts_words body) ys (((a ++ b) ++ c) ++ ys) lexemes ats
        (plain_front ((a ++ b) ++ c) ys plain) reads taken
        (λ read after. stmts_taken body within (past front lexemes) ats
        (each_right HasNoFault ((a ++ b) ++ c) ys clean) read
        (subst (λ (rest : List Lexeme). StmtsAt rest body)
        (sym (past_both (keyword key.For ++ head_words head) (keyword key.Do) lexemes)) here.1)
        after)
    form_taken (Border border names) reach lexemes ats clean reads here taken =
        skip (form_words (Border border names)) lexemes ats taken
    form_taken (Write line items) reach lexemes ats clean reads here taken =
        skip_plain (form_words (Write line items)) (form_sites reach (Write line items)) lexemes ats
        (items_plain reach items clean) taken
    form_taken (Return value) reach lexemes ats clean reads here taken =
        skip_plain (form_words (Return value)) (form_sites reach (Return value)) lexemes ats
        (whole_plain reach (Result reach.result) value clean) taken

    arms_taken : (arms : Arms) (reach within : Reach) (lexemes : List Lexeme) (ats : List ℕ) →
        Each HasNoFault (arms_sites reach within arms) → Reads lexemes (more_arms arms) →
        ArmsAt lexemes arms → Taken (past (more_arms arms) lexemes) ats →
        Taken lexemes (call_ats (arms_sites reach within arms) ++ ats)
    arms_taken NoArm reach within lexemes ats clean reads here taken = taken
    arms_taken (ThenArm (Tested own test body) rest) reach within [] ats clean reads here taken =
        absurd reads
    arms_taken (ThenArm (Tested own test body) rest) reach within (first ∷ lexemes) ats clean reads
        here taken =
        skips first lexemes _
        (let xs = whole_sites reach Test test in
        let ys = stmts_sites within body in
        let zs = arms_sites reach within rest in
        let mine = each_left HasNoFault (xs ++ ys) zs clean in
        arm_taken own test body rest reach within lexemes ats (each_left HasNoFault xs ys mine)
        reads.1 taken
        (λ later read after. stmts_taken body within
        (past (expr_words test ++ keyword key.Then) lexemes) later (each_right HasNoFault xs ys
        mine)
        read (arm_at test body lexemes here.0.2) after)
        (λ read after. arms_taken rest reach within
        (past (arm_words (Tested own test body)) lexemes) ats
        (each_right HasNoFault (xs ++ ys) zs clean) read here.1 after))

    first_arms : (arms : Arms) (reach within : Reach) (lexemes : List Lexeme) (ats : List ℕ) →
        Each HasNoFault (arms_sites reach within arms) → Reads lexemes (arms_words arms) →
        ArmsAt lexemes arms → Taken (past (arms_words arms) lexemes) ats →
        Taken lexemes (call_ats (arms_sites reach within arms) ++ ats)
    first_arms NoArm reach within lexemes ats clean reads here taken = taken
    first_arms (ThenArm (Tested own test body) rest) reach within [] ats clean reads here taken =
        absurd reads
    first_arms (ThenArm (Tested own test body) rest) reach within (first ∷ lexemes) ats clean reads
        here taken =
        skips first lexemes _
        (let xs = whole_sites reach Test test in
        let ys = stmts_sites within body in
        let zs = arms_sites reach within rest in
        let mine = each_left HasNoFault (xs ++ ys) zs clean in
        arm_taken own test body rest reach within lexemes ats (each_left HasNoFault xs ys mine)
        reads.1 taken
        (λ later read after. stmts_taken body within
        (past (expr_words test ++ keyword key.Then) lexemes) later (each_right HasNoFault xs ys
        mine)
        read (arm_at test body lexemes here.0.2) after)
        (λ read after. arms_taken rest reach within
        (past (arm_words (Tested own test body)) lexemes) ats
        (each_right HasNoFault (xs ++ ys) zs clean) read here.1 after))

    otherwise_taken : (otherwise : Otherwise) (reach : Reach) (lexemes : List Lexeme)
        (ats : List ℕ) → Each HasNoFault (otherwise_sites reach otherwise) →
        Reads lexemes (otherwise_words otherwise) → OtherwiseAt lexemes otherwise →
        Taken (past (otherwise_words otherwise) lexemes) ats →
        Taken lexemes (call_ats (otherwise_sites reach otherwise) ++ ats)
    otherwise_taken NoElse reach lexemes ats clean reads here taken = taken
    otherwise_taken (Else body) reach [] ats clean reads here taken = absurd reads
    otherwise_taken (Else body) reach (first ∷ lexemes) ats clean reads here taken =
        skips first lexemes _ (stmts_taken body reach lexemes ats clean reads.1 here taken)

  -- ---- a procedure's body

  body_taken : (result : Option Base) (stmts : Stmts) (reach : Reach) (lexemes : List Lexeme)
      (ats : List ℕ) → Each HasNoFault (body_sites reach result stmts) →
      Reads lexemes (stmts_words stmts) → StmtsAt lexemes stmts →
      Taken (past (stmts_words stmts) lexemes) ats →
      Taken lexemes (call_ats (body_sites reach result stmts) ++ ats)
  body_taken result NoStmt reach lexemes ats clean reads here taken = taken
  body_taken result (ThenStmt last NoStmt) reach lexemes ats clean reads here taken =
      stmt_taken last (record reach { result = result }) lexemes ats clean
      (reads_front (stmt_words last) [] lexemes reads) here.0
      (taken_past (stmt_words last) [] lexemes ats taken)
  body_taken result (ThenStmt first (ThenStmt second rest)) reach lexemes ats clean reads here
      taken =
      let others = ThenStmt second rest in
      let xs = stmt_sites reach first in
      let ys = body_sites reach result others in
      both_taken xs ys lexemes ats
      (stmt_taken first reach lexemes (call_ats ys ++ ats) (each_left HasNoFault xs ys clean)
      (reads_front (stmt_words first) (stmts_words others) lexemes reads) here.0
      (body_taken result (ThenStmt second rest) reach (past (stmt_words first) lexemes) ats
      (each_right HasNoFault xs ys clean)
      (reads_past (stmt_words first) (stmts_words others) lexemes reads) here.1
      (taken_past (stmt_words first) (stmts_words others) lexemes ats taken)))

  pub outermost_taken : (result : Option Base) (stmt : Stmt) (reach : Reach)
      (lexemes : List Lexeme) (ats : List ℕ) →
      Each HasNoFault (outermost_sites reach result stmt) → Reads lexemes (stmt_words stmt) →
      StmtAt lexemes stmt → Taken (past (stmt_words stmt) lexemes) ats →
      Taken lexemes (call_ats (outermost_sites reach result stmt) ++ ats)
  outermost_taken result (Prefixed at prefixes (Block body)) reach lexemes ats clean reads here
      taken =
      let words = flat_map prefix_words prefixes in
      let within = under_prefixes reach prefixes in
      let xs = prefixes_sites reach prefixes in
      let ys = body_sites within result body in
      let inner = past words lexemes in
      let front = keyword key.Begin ++ stmts_words body in
      let reads_in = reads_past words (form_words (Block body)) lexemes reads in
      both_taken xs ys lexemes ats
      (skip_plain words xs lexemes (call_ats ys ++ ats)
      (prefixes_plain reach prefixes (each_left HasNoFault xs ys clean))
      (skip (keyword key.Begin) inner (call_ats ys ++ ats)
      (body_taken result body within (past (keyword key.Begin) inner) ats
      (each_right HasNoFault xs ys clean)
      (reads_past (keyword key.Begin) (stmts_words body) inner
      (reads_front front end_words inner reads_in)) here.2
      (taken_past (keyword key.Begin) (stmts_words body) inner ats
      (skip end_words (past front inner) ats
      (taken_past front end_words inner ats
      (taken_past words (form_words (Block body)) lexemes ats taken)))))))
  outermost_taken result (Prefixed at prefixes (Assign name op value)) reach lexemes ats clean reads
      here taken =
      stmt_taken (Prefixed at prefixes (Assign name op value)) reach lexemes ats clean reads here
      taken
  outermost_taken result (Prefixed at prefixes (Invoke name actuals)) reach lexemes ats clean reads
      here taken =
      stmt_taken (Prefixed at prefixes (Invoke name actuals)) reach lexemes ats clean reads here
      taken
  outermost_taken result (Prefixed at prefixes (If arms otherwise)) reach lexemes ats clean reads
      here taken =
      stmt_taken (Prefixed at prefixes (If arms otherwise)) reach lexemes ats clean reads here taken
  outermost_taken result (Prefixed at prefixes (While test body)) reach lexemes ats clean reads
      here taken =
      stmt_taken (Prefixed at prefixes (While test body)) reach lexemes ats clean reads here taken
  outermost_taken result (Prefixed at prefixes (Repeat body until test)) reach lexemes ats clean
      reads
      here taken =
      stmt_taken (Prefixed at prefixes (Repeat body until test)) reach lexemes ats clean reads here
      taken
  outermost_taken result (Prefixed at prefixes (For head body)) reach lexemes ats clean reads
      here taken =
      stmt_taken (Prefixed at prefixes (For head body)) reach lexemes ats clean reads here taken
  outermost_taken result (Prefixed at prefixes (Border border names)) reach lexemes ats clean reads
      here taken =
      stmt_taken (Prefixed at prefixes (Border border names)) reach lexemes ats clean reads here
      taken
  outermost_taken result (Prefixed at prefixes (Write line items)) reach lexemes ats clean reads
      here taken =
      stmt_taken (Prefixed at prefixes (Write line items)) reach lexemes ats clean reads here taken
  outermost_taken result (Prefixed at prefixes (Return value)) reach lexemes ats clean reads
      here taken =
      stmt_taken (Prefixed at prefixes (Return value)) reach lexemes ats clean reads here taken
