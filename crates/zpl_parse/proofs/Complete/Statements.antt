-- The rules of statements are complete: words of a statement of the grammar are read as one of the
-- same shape, or are too deep.
use Rattle.std.proofs.Common.{◌≡◌, ℕ, suc, zero, ◌+◌, ◌<◌, ◌≤◌, max, Bool, true, false, List, [], ◌∷◌, ◌++◌, map, length, if◌then◌else◌, Option, Some, None, refl, ap, arith}
use Rattle.std.specs.Option.{option_map}
use Rattle.std.specs.List.{flat_map, AllByRecursion}
use Rattle.zpl_nums.specs.declared.operators.Op.{Op}
use Rattle.zpl_nums.specs.declared.operators.Op.TheVariants as op
use Rattle.zpl_nums.specs.declared.ends.Border.{Border as BorderKind}
use Rattle.zpl_nums.specs.declared.ends.Border.TheVariants as border
use Rattle.zpl_tokens.specs.declared.Kind.TheVariants as kind
use Rattle.zpl_tokens.specs.declared.keywords.Key.TheVariants as key
use Rattle.zpl_tokens.specs.declared.symbols.Sym.TheVariants as sym
use Rattle.zpl_tree.specs.Word.{Word}
use Rattle.zpl_tree.specs.Word as word
use Rattle.zpl_tree.specs.Syntax.{Name, Expr, Exprs, Inner, Mask, Prefix, ForHead, Item, Str, Value, Stmt, Prefixed, Stmts, NoStmt, ThenStmt, Form, Assign, Invoke, Block, If, While, Repeat, For, Border, Write, Return, Arm, Tested, Arms, NoArm, ThenArm, Otherwise, NoElse, Else}
use Rattle.zpl_tree.specs.Depth.{expr_depth, exprs_depth, inner_depth, greatest_of, prefix_depth, step_depth, head_depth, item_depth, stmt_depth, form_depth, stmts_depth, arms_depth, arm_depth, otherwise_depth, nest_depth, form_nest, stmts_nest, arms_nest, arm_nest, otherwise_nest}
use Rattle.zpl_tree.specs.Shape.{name_shape, expr_shape, mask_shape, prefix_shape, head_shape, item_shape, stmt_shape, form_shape, stmts_shape, arms_shape, arm_shape, otherwise_shape}
use Rattle.zpl_tree.specs.Spelling.{keyword as keyword_of, expr_words, exprs_words, inner_words, names_words, mask_words, prefix_words, step_words, head_words, item_words, items_words, end_words, stmt_words, stmts_words, form_words, arm_words, more_arms, otherwise_words}
use Rattle.zpl_tree.specs.Grammar.{IsExpr, AreExprs, IsInner, HasAny, IsAssigning, IsPrefix, IsStep, IsHead, IsItem, HasArm, IsStmt, AreStmts, IsForm, AreArms, IsArm, IsOtherwise}
use Rattle.zpl_grammar.specs.Lexeme.{Lexeme, head_kind, head_at}
use Rattle.zpl_parse.specs.Outcome.{and_then, made}
use Rattle.zpl_parse.specs.Classes.{start_of, begins_stmt}
use Rattle.zpl_parse.specs.Tokens.{next_is, symbol, names}
use Rattle.zpl_parse.specs.Expressions.{levels, actuals}
use Rattle.zpl_parse.specs.Statements.{prefix, prefixes, stmts, item, some_items, items, body_end, arm, arms, otherwise, while_loop, repeat_loop, step, way_down, for_head, for_loop, form_by, stmt}
use Rattle.zpl_parse.specs.Statements as statements
use Rattle.zpl_parse.proofs.Complete.Base.{Begins, none, more, Split, split, split_at, joined, bound_of, shorter, shorter_by_one, Reads, read, deep, weigh, made_reads, then_reads, ends_with, closing_reads, string_inside, at_head}
use Rattle.zpl_parse.proofs.Complete.Levels.{SameExpr, StopsWhole, Opens}
use Rattle.zpl_parse.proofs.Complete.Parts.{InnerEnds}
use Rattle.zpl_parse.proofs.Complete.Here.{names_at, expr_here, opens_here, actuals_here, inner_here}

abbrev pub SameMask : Option Mask → Option Mask → Type 0
SameMask t value = option_map mask_shape value ≡ option_map mask_shape t

abbrev pub SamePrefix : Prefix → Prefix → Type 0
SamePrefix t value = prefix_shape value ≡ prefix_shape t

abbrev pub SamePrefixes : List Prefix → List Prefix → Type 0
SamePrefixes t value = map prefix_shape value ≡ map prefix_shape t

abbrev pub SameItem : Item → Item → Type 0
SameItem t value = item_shape value ≡ item_shape t

abbrev pub SameItems : List Item → List Item → Type 0
SameItems t value = map item_shape value ≡ map item_shape t

abbrev pub SameStep : Option Expr → Option Expr → Type 0
SameStep t value = option_map expr_shape value ≡ option_map expr_shape t

abbrev pub SameHead : ForHead → ForHead → Type 0
SameHead t value = head_shape value ≡ head_shape t

abbrev pub SameStmt : Stmt → Stmt → Type 0
SameStmt t value = stmt_shape value ≡ stmt_shape t

abbrev pub SameStmts : Stmts → Stmts → Type 0
SameStmts t value = stmts_shape value ≡ stmts_shape t

abbrev pub SameForm : Form → Form → Type 0
SameForm t value = form_shape value ≡ form_shape t

abbrev pub SameArm : Arm → Arm → Type 0
SameArm t value = arm_shape value ≡ arm_shape t

abbrev pub SameArms : Arms → Arms → Type 0
SameArms t value = arms_shape value ≡ arms_shape t

abbrev pub SameOtherwise : Otherwise → Otherwise → Type 0
SameOtherwise t value = otherwise_shape value ≡ otherwise_shape t

zero_fits : (n : ℕ) → 0 ≤ n
zero_fits n = omega arith

module _ {most : ℕ} where
  mask_ends : (mask : Option Mask) {xs middle rest : List Lexeme}
      → Begins most (mask_words mask) xs middle
      → Begins most (word.Symbol sym.CloseBracket ∷ []) middle rest → InnerEnds xs
  mask_ends None (none limit) (more w bytes at bound b) =
      record {
        dim = record { closes = refl; stops = refl; dots = refl };
        region =
            record { outside = refl; stride = refl };
        closes = refl;
        follows = refl;
        comma = refl;
        plain =
            refl;
      }
  mask_ends (Some mask) b c = some_ends mask.name mask.without b
    where
      some_ends : (name : Name) (without : Bool) {xs rest : List Lexeme}
          → Begins most (mask_words (Some (record { name = name; without = without }))) xs rest
          → InnerEnds xs
      some_ends name true (more w bytes at bound b) =
          record {
            dim = record { closes = refl; stops = refl; dots = refl };
            region =
                record { outside = refl; stride = refl };
            closes = refl;
            follows = refl;
            comma =
                refl;
            plain = refl;
          }
      some_ends name false (more w bytes at bound b) =
          record {
            dim = record { closes = refl; stops = refl; dots = refl };
            region =
                record { outside = refl; stride = refl };
            closes = refl;
            follows = refl;
            comma =
                refl;
            plain = refl;
          }

  some_mask : (d : ℕ) (name : Name) (without : Bool) {xs rest : List Lexeme}
      → Begins most (mask_words (Some (record { name = name; without = without }))) xs rest →
      Reads (SameMask (Some (record { name = name; without = without }))) rest 0 d
      (statements.mask xs)
  some_mask d name true (more w bytes at bound (more v other place limit (none last))) =
      read (Some (record { name = record { text = name.text; at = place }; without = true }))
      (zero_fits d) refl
  some_mask d name false (more w bytes at bound (more v other place limit (none last))) =
      read (Some (record { name = record { text = name.text; at = place }; without = false }))
      (zero_fits d) refl

  mask_at : (d : ℕ) (mask : Option Mask) {xs middle rest : List Lexeme}
      → Begins most (mask_words mask) xs middle
      → Begins most (word.Symbol sym.CloseBracket ∷ []) middle rest →
      Reads (SameMask mask) middle 0 d (statements.mask xs)
  mask_at d None (none limit) (more w bytes at bound b) = read None (zero_fits d) refl
  mask_at d (Some mask) b c = some_mask d mask.name mask.without b

-- how a form begins
pub record OpensForm (xs : List Lexeme) : Type 0 where
  pub bracket : next_is (kind.Symbol sym.OpenBracket) xs ≡ false
  pub begins : begins_stmt (head_kind xs) ≡ true

module _ {most : ℕ} where
  pub form_opens : (t : Form) → IsForm t → {xs rest : List Lexeme}
      → Begins most (form_words t) xs rest → OpensForm xs
  form_opens (Assign name op value) is (more w bytes at bound b) =
      record { bracket = refl; begins = refl }
  form_opens (Invoke name actuals) is (more w bytes at bound b) =
      record { bracket = refl; begins = refl }
  form_opens (Block body) is (more w bytes at bound b) = record { bracket = refl; begins = refl }
  form_opens (If NoArm otherwise) is b = absurd is.0
  form_opens (If (ThenArm first rest) otherwise) is (more w bytes at bound b) =
      record { bracket = refl; begins = refl }
  form_opens (While test body) is (more w bytes at bound b) =
      record { bracket = refl; begins = refl }
  form_opens (Repeat body until test) is (more w bytes at bound b) =
      record { bracket = refl; begins = refl }
  form_opens (For head body) is (more w bytes at bound b) = record { bracket = refl; begins = refl }
  form_opens (Border border.Wrap names) is (more w bytes at bound b) =
      record { bracket = refl; begins = refl }
  form_opens (Border border.Reflect names) is (more w bytes at bound b) =
      record { bracket = refl; begins = refl }
  form_opens (Write true items) is (more w bytes at bound b) =
      record { bracket = refl; begins = refl }
  form_opens (Write false items) is (more w bytes at bound b) =
      record { bracket = refl; begins = refl }
  form_opens (Return value) is (more w bytes at bound b) = record { bracket = refl; begins = refl }

  form_begins : (prefixes : List Prefix) (t : Form) → IsForm t → {xs middle rest : List Lexeme}
      → Begins most (flat_map prefix_words prefixes) xs middle
      → Begins most (form_words t) middle rest → begins_stmt (head_kind xs) ≡ true
  form_begins [] t is (none bound) c = (form_opens t is c).begins
  form_begins (first ∷ prefixes) t is (more w bytes at bound b) c = refl

module _ (wide most limit : ℕ) (fits : most ≤ wide) where
  -- "[" inner [ ( "with" | "without" ) NAME ] "]"
  prefix_at : (at : ℕ) (region : Inner) (mask : Option Mask) → IsInner region
      → (turns : ℕ) (xs rest : List Lexeme)
      → Begins most (word.Symbol sym.OpenBracket ∷ ((inner_words region ++ mask_words mask) ++
      word.Symbol sym.CloseBracket ∷ [])) xs rest → length xs < suc turns →
      Reads (SamePrefix (record { at = at; region = region; mask = mask })) rest
      (inner_depth region) limit (prefix turns (levels wide limit).expr xs)
  prefix_at at region mask is turns xs rest (more {lexemes = others} w bytes place bound b) short =
      let outer : Split most (inner_words region ++ mask_words mask) (word.Symbol sym.CloseBracket ∷
      []) others rest =
      split (inner_words region ++ mask_words mask) (word.Symbol sym.CloseBracket ∷ []) b in
      let parts : Split most (inner_words region) (mask_words mask) others outer.middle =
      split (inner_words region) (mask_words mask) outer.first in
      weigh {n = max (inner_depth region) 0} {d = limit} (λ k. omega arith) (λ k. omega arith)
      (then_reads _ (inner_here wide most limit fits region is turns others parts.middle parts.first
      (omega arith) (mask_ends mask parts.then outer.then))
      (λ value same. ends_with sym.CloseBracket (λ masked. record {
        at = place;
        region =
            value;
        mask = masked;
      }) (λ masked alike. cc) (mask_at limit mask parts.then outer.then)
      outer.then))

  -- { prefix }
  pub prefixes_at : (those : List Prefix) → AllByRecursion IsPrefix those
      → (turns : ℕ) (xs rest : List Lexeme) → Begins most (flat_map prefix_words those) xs rest
      → length xs < turns → next_is (kind.Symbol sym.OpenBracket) rest ≡ false →
      Reads (SamePrefixes those) rest (greatest_of prefix_depth those) limit
      (prefixes turns (levels wide limit).expr xs)
  prefixes_at those are zero xs rest b short ends = absurd (omega arith)
  prefixes_at [] are (suc turns) xs rest (none bound) short ends =
      rw (ends, prefixes) (read [] (zero_fits limit) refl)
  prefixes_at (first ∷ others) are (suc turns) xs rest b short ends =
      let parts : Split most (prefix_words first) (flat_map prefix_words others) xs rest =
      split (prefix_words first) (flat_map prefix_words others) b in
      let fewer = shorter_by_one parts.first in
      let opened : next_is (kind.Symbol sym.OpenBracket) xs ≡ true =
      at_head (λ those. next_is (kind.Symbol sym.OpenBracket) those ≡ true) (λ bytes at others.
      refl) parts.first in
      rw (
        opened,
        prefixes,
      ) (then_reads _ (prefix_at first.at first.region first.mask are.0 turns xs
      parts.middle parts.first short)
      (λ value same. made_reads (λ those. value ∷ those) (λ those alike. cc)
      (prefixes_at others are.1 turns parts.middle rest parts.then (omega arith) ends)))

  -- item = STRING | expr
  item_at : (t : Item) → IsItem t → (xs rest : List Lexeme) → Begins most (item_words t) xs rest
      → StopsWhole rest
      → Reads (SameItem t) rest (item_depth t) limit (item (levels wide limit).expr xs)
  item_at (Str bytes) is xs rest (more w given place bound (none last)) stops =
      read (Str _) (zero_fits limit) (ap Str (string_inside bytes))
  item_at (Value value) is xs rest b stops =
      let opened : Opens xs = opens_here wide most limit fits value is xs rest b in
      rw (opened.string, item) (made_reads Value (λ v same. ap Value same)
      (expr_here wide most limit fits value is xs rest b stops))

  items_last : (first : Item) → IsItem first → (turns : ℕ) (xs middle rest : List Lexeme)
      → Begins most (item_words first) xs middle → Begins most [] middle rest → StopsWhole rest
      → next_is (kind.Symbol sym.Comma) rest ≡ false →
      Reads (SameItems (first ∷ [])) rest (max (item_depth first) 0) limit
      (some_items (suc turns) (levels wide limit).expr xs)
  items_last first is turns xs middle rest b (none bound) stops ends =
      then_reads _ (item_at first is xs rest b stops) (λ value same.
      rw ends (read (value ∷ []) (zero_fits limit) (ap (λ shape. shape ∷ []) same)))

  items_more : (first : Item) (words : List Word) (others : List Item) → IsItem first
      → (turns : ℕ) (xs middle rest : List Lexeme) → Begins most (item_words first) xs middle
      → Begins most (word.Symbol sym.Comma ∷ words) middle rest → length xs < suc turns →
      ((ys : List Lexeme) → Begins most words ys rest → length ys < turns
      → Reads (SameItems others) rest (greatest_of item_depth others) limit
      (some_items turns (levels wide limit).expr ys)) →
      Reads (SameItems (first ∷ others)) rest
      (max (item_depth first) (greatest_of item_depth others)) limit
      (some_items (suc turns) (levels wide limit).expr xs)
  items_more first words others is turns xs middle rest b (more w bytes place bound c) short h =
      let fewer = shorter b in
      then_reads _ (item_at first is xs _ b refl) (λ value same. made_reads (λ those. value ∷
      those) (λ those alike. cc) (h _ c (omega arith)))

  -- item { "," item }
  some_items_at : (first : Item) (others : List Item) → AllByRecursion IsItem (first ∷ others)
      → (turns : ℕ) (xs rest : List Lexeme) → Begins most (items_words (first ∷ others)) xs rest
      → length xs < turns → StopsWhole rest → next_is (kind.Symbol sym.Comma) rest ≡ false →
      Reads (SameItems (first ∷ others)) rest (greatest_of item_depth (first ∷ others)) limit
      (some_items turns (levels wide limit).expr xs)
  some_items_at first others are zero xs rest b short stops ends = absurd (omega arith)
  some_items_at first [] are (suc turns) xs rest b short stops ends =
      let parts : Split most (item_words first) [] xs rest = split (item_words first) [] b in
      items_last first are.0 turns xs parts.middle rest parts.first parts.then stops ends
  some_items_at first (second ∷ others) are (suc turns) xs rest b short stops ends =
      let parts : Split most (item_words first) (word.Symbol sym.Comma ∷
      items_words (second ∷ others)) xs rest =
      split (item_words first) (word.Symbol sym.Comma ∷ items_words (second ∷ others)) b in
      items_more first (items_words (second ∷ others)) (second ∷ others) are.0 turns xs parts.middle
      rest parts.first parts.then short (λ ys c fewer. some_items_at second others are.1 turns
      ys rest c fewer stops ends)

  -- [ item { "," item } ] ")"
  items_at : (those : List Item) → AllByRecursion IsItem those → (xs rest : List Lexeme)
      → Begins most (items_words those ++ word.Symbol sym.CloseParen ∷ []) xs rest →
      Reads (SameItems those) rest (greatest_of item_depth those) limit
      (items most (levels wide limit).expr xs)
  items_at [] are xs rest (more w bytes place bound (none last)) = read [] (zero_fits limit) refl
  items_at (first ∷ others) are xs rest b =
      let parts : Split most (items_words (first ∷ others)) (word.Symbol sym.CloseParen ∷
      []) xs rest = split (items_words (first ∷ others)) (word.Symbol sym.CloseParen ∷ []) b in
      let inside : Split most (item_words first) _ xs parts.middle =
      split (item_words first) _ parts.first in
      rw (no_close first are.0 xs _ inside.first, items) (ends_with sym.CloseParen (λ those. those)
      (λ those same. same)
      (some_items_at first others are most xs parts.middle parts.first (bound_of parts.first)
      (at_head StopsWhole (λ bytes at others. refl) parts.then)
      (at_head (λ those. next_is (kind.Symbol sym.Comma) those ≡ false) (λ bytes at others.
      refl) parts.then)) parts.then)
    where
      no_close : (t : Item) → IsItem t → (xs rest : List Lexeme)
          → Begins most (item_words t) xs rest → next_is (kind.Symbol sym.CloseParen) xs ≡ false
      no_close (Str bytes) is xs rest (more w given place bound b) = refl
      no_close (Value value) is xs rest b =
          (opens_here wide most limit fits value is xs rest b).paren

  -- [ "by" expr ]
  step_stops : (t : Option Expr) {xs rest : List Lexeme} → Begins most (step_words t) xs rest
      → StopsWhole rest → StopsWhole xs
  step_stops None (none bound) stops = stops
  step_stops (Some value) (more w bytes place bound b) stops = refl

  step_at : (t : Option Expr) → IsStep t → (xs rest : List Lexeme)
      → Begins most (step_words t) xs rest → StopsWhole rest → next_is (kind.Word key.By) rest
      ≡ false → Reads (SameStep t) rest (step_depth t) limit (step (levels wide limit).expr xs)
  step_at None is xs rest (none bound) stops ends =
      rw (ends, step) (read None (zero_fits limit) refl)
  step_at (Some value) is xs rest (more w bytes place bound b) stops ends =
      made_reads Some (λ v same. ap Some same) (expr_here wide most limit fits value is _ rest b
      stops)

  abbrev way_words : Bool → List Word
  way_words down = if down then keyword_of key.Downto else keyword_of key.To

  way_stops : (down : Bool) (words : List Word) {xs rest : List Lexeme}
      → Begins most (way_words down ++ words) xs rest → StopsWhole xs
  way_stops true words (more w bytes place bound b) = refl
  way_stops false words (more w bytes place bound b) = refl

  -- NAME ":=" expr ( "to" | "downto" ) expr [ "by" expr ]
  module _ (counter : Name) (first last : Expr) (stride : Option Expr) (first_is : IsExpr 0 first)
      (last_is : IsExpr 0 last) (stride_is : IsStep stride) where
    head_last : (down : Bool) (place : ℕ) (value : Expr) → SameExpr first value
        → (xs middle rest : List Lexeme) → Begins most (expr_words last) xs middle
        → Begins most (step_words stride) middle rest → StopsWhole rest
        → next_is (kind.Word key.By) rest ≡ false →
        Reads (SameHead (record {
          name = counter;
          first = first;
          down = down;
          last = last;
          step =
              stride;
        })) rest (max (expr_depth last) (step_depth stride)) limit
        (and_then ((levels wide limit).expr xs) (λ last by. made (λ stride. record {
          name =
              record { text = counter.text; at = place };
          first = value;
          down = down;
          last =
              last;
          step = stride;
        }) (step (levels wide limit).expr by)))
    head_last down place value same xs middle rest b c stops ends =
        then_reads _ (expr_here wide most limit fits last last_is xs middle b
        (step_stops stride c stops))
        (λ other alike. made_reads (λ by. record {
          name =
              record { text = counter.text; at = place };
          first = value;
          down = down;
          last =
              other;
          step = by;
        }) (λ by equal. cc) (step_at stride stride_is middle rest c stops
        ends))

    head_way : (down : Bool) (place : ℕ) (value : Expr) → SameExpr first value
        → (xs middle rest : List Lexeme) → Begins most (way_words down ++ expr_words last) xs middle
        → Begins most (step_words stride) middle rest → StopsWhole rest
        → next_is (kind.Word key.By) rest ≡ false →
        Reads (SameHead (record {
          name = counter;
          first = first;
          down = down;
          last = last;
          step =
              stride;
        })) rest (max (expr_depth last) (step_depth stride)) limit
        (and_then (way_down xs) (λ down behind_to. and_then ((levels wide limit).expr behind_to)
        (λ last by. made (λ stride. record {
          name = record { text = counter.text; at = place };
          first = value;
          down = down;
          last = last;
          step =
              stride;
        }) (step (levels wide limit).expr by))))
    head_way true place value same xs middle rest (more w bytes spot bound b) c stops ends =
        head_last true place value same _ middle rest b c stops ends
    head_way false place value same xs middle rest (more w bytes spot bound b) c stops ends =
        head_last false place value same _ middle rest b c stops ends

    head_at_words : (down : Bool) (xs rest : List Lexeme)
        → Begins most (head_words (record {
          name = counter;
          first = first;
          down = down;
          last =
              last;
          step = stride;
        })) xs rest → StopsWhole rest → next_is (kind.Word key.By) rest
        ≡ false →
        Reads (SameHead (record {
          name = counter;
          first = first;
          down = down;
          last = last;
          step =
              stride;
        })) rest (max (max (expr_depth first) (expr_depth last)) (step_depth stride))
        limit (for_head (levels wide limit).expr xs)
    head_at_words down xs rest (more w bytes place bound (more {lexemes =
        others} v other where_at after b)) stops ends =
        let outer : Split most ((expr_words first ++ way_words down) ++ expr_words last)
        (step_words stride) others rest =
        split ((expr_words first ++ way_words down) ++ expr_words last) (step_words stride) b in
        let front : Split most (expr_words first ++ way_words down) (expr_words last) others
        outer.middle =
        split (expr_words first ++ way_words down) (expr_words last) outer.first in
        let parts : Split most (expr_words first) (way_words down) others front.middle =
        split (expr_words first) (way_words down) front.first in
        let way : Begins most (way_words down ++ expr_words last) parts.middle outer.middle =
        joined parts.then front.then in
        weigh {n = max (expr_depth first) (max (expr_depth last) (step_depth stride))} {d =
        limit} (λ k. omega arith) (λ k. omega arith)
        (then_reads _ (expr_here wide most limit fits first first_is others parts.middle parts.first
        (way_stops down (expr_words last) way)) (λ value same.
        head_way down place value same parts.middle outer.middle rest way outer.then stops
        ends))

  -- what is complete for a statement and its parts, where so many more may nest in it and so many
  -- are around it
  abbrev pub StmtAt : Stmt → Type 0
  StmtAt t = (deeper spent : ℕ) → deeper + spent ≡ limit → (xs rest : List Lexeme)
      → Begins most (stmt_words t) xs rest →
      Reads (SameStmt t) rest (max (stmt_depth t) (nest_depth t + spent)) limit
      (stmt most (levels wide limit).expr deeper xs)

  abbrev pub StmtsAt : Stmts → Type 0
  StmtsAt t = (deeper spent : ℕ) → deeper + spent ≡ limit → (turns : ℕ) (xs rest : List Lexeme)
      → Begins most (stmts_words t) xs rest → length xs < turns → begins_stmt (head_kind rest)
      ≡ false →
      Reads (SameStmts t) rest (max (stmts_depth t) (stmts_nest t + spent)) limit
      (stmts turns (stmt most (levels wide limit).expr deeper) xs)

  abbrev pub FormAt : Form → Type 0
  FormAt t = (deeper spent : ℕ) → suc deeper + spent ≡ limit → (xs rest : List Lexeme)
      → Begins most (form_words t) xs rest →
      Reads (SameForm t) rest (max (form_depth t) (form_nest t + spent)) limit
      (form_by most (levels wide limit).expr
      (stmts most (stmt most (levels wide limit).expr deeper)) (start_of (head_kind xs)) xs)

  abbrev pub arms_body : Arms → List Word
  arms_body NoArm = []
  arms_body (ThenArm first rest) = arm_words first ++ more_arms rest

  abbrev pub ArmAt : Arm → Type 0
  ArmAt t = (deeper spent : ℕ) → suc deeper + spent ≡ limit → (place : ℕ) (xs rest : List Lexeme)
      → Begins most (arm_words t) xs rest → begins_stmt (head_kind rest) ≡ false →
      Reads (SameArm t) rest (max (arm_depth t) (arm_nest t + suc spent)) limit
      (arm (levels wide limit).expr (stmts most (stmt most (levels wide limit).expr deeper))
      place xs)

  abbrev pub ArmsAt : Arms → Type 0
  ArmsAt t = (deeper spent : ℕ) → suc deeper + spent ≡ limit
      → (turns place : ℕ) (xs rest : List Lexeme) → Begins most (arms_body t) xs rest
      → length xs < turns → begins_stmt (head_kind rest) ≡ false
      → next_is (kind.Word key.Elsif) rest ≡ false →
      Reads (SameArms t) rest (max (arms_depth t) (arms_nest t + suc spent)) limit
      (arms turns (levels wide limit).expr
      (stmts most (stmt most (levels wide limit).expr deeper)) place xs)

  abbrev pub OtherwiseAt : Otherwise → Type 0
  OtherwiseAt t = (deeper spent : ℕ) → suc deeper + spent ≡ limit → (xs rest : List Lexeme)
      → Begins most (otherwise_words t) xs rest → begins_stmt (head_kind rest) ≡ false
      → next_is (kind.Word key.Else) rest ≡ false →
      Reads (SameOtherwise t) rest (max (otherwise_depth t) (otherwise_nest t + suc spent)) limit
      (otherwise (stmts most (stmt most (levels wide limit).expr deeper)) xs)

  -- NAME assign expr ";"
  assign_tail : (name : Name) (place : ℕ) (op : Option Op) (value : Expr) → IsExpr 0 value
      → (xs rest : List Lexeme) → Begins most (expr_words value ++ word.Symbol sym.Semicolon ∷
      []) xs rest →
      Reads (SameForm (Assign name op value)) rest (expr_depth value) limit
      (and_then ((levels wide limit).expr xs) (λ value rest.
      made (λ at. Assign (record { text = name.text; at = place }) op value)
      (symbol sym.Semicolon rest)))
  assign_tail name place op value is xs rest b =
      let parts : Split most (expr_words value) (word.Symbol sym.Semicolon ∷ []) xs rest =
      split (expr_words value) (word.Symbol sym.Semicolon ∷ []) b in
      ends_with sym.Semicolon (λ v. Assign (record { text = name.text; at = place }) op v)
      (λ v same. ap (Assign (name_shape name) op) same) (expr_here wide most limit fits value is
      xs parts.middle parts.first (at_head StopsWhole (λ bytes at others. refl) parts.then))
      parts.then

  assign_at : (name : Name) (op : Option Op) (value : Expr) → IsAssigning op → IsExpr 0 value
      → FormAt (Assign name op value)
  assign_at name None value assigns is deeper spent e xs rest
      (more w bytes place bound (more v other where_at limit_at b)) =
      weigh {n = expr_depth value} {d =
      limit} (λ k. omega arith) (λ k. omega arith) (assign_tail name place None value is _ rest b)
  assign_at name (Some op.Add) value assigns is deeper spent e xs rest
      (more w bytes place bound (more v other where_at limit_at b)) =
      weigh {n = expr_depth value} {d =
      limit} (λ k. omega arith) (λ k. omega arith) (assign_tail name place (Some op.Add) value is _
      rest b)
  assign_at name (Some op.Sub) value assigns is deeper spent e xs rest
      (more w bytes place bound (more v other where_at limit_at b)) =
      weigh {n = expr_depth value} {d =
      limit} (λ k. omega arith) (λ k. omega arith) (assign_tail name place (Some op.Sub) value is _
      rest b)
  assign_at name (Some op.Mul) value assigns is deeper spent e xs rest
      (more w bytes place bound (more v other where_at limit_at b)) =
      weigh {n = expr_depth value} {d =
      limit} (λ k. omega arith) (λ k. omega arith) (assign_tail name place (Some op.Mul) value is _
      rest b)
  assign_at name (Some op.Div) value assigns is deeper spent e xs rest
      (more w bytes place bound (more v other where_at limit_at b)) =
      weigh {n = expr_depth value} {d =
      limit} (λ k. omega arith) (λ k. omega arith) (assign_tail name place (Some op.Div) value is _
      rest b)
  assign_at name (Some op.Rem) value assigns is deeper spent e xs rest
      (more w bytes place bound (more v other where_at limit_at b)) =
      weigh {n = expr_depth value} {d =
      limit} (λ k. omega arith) (λ k. omega arith) (assign_tail name place (Some op.Rem) value is _
      rest b)
  assign_at name (Some op.And) value assigns is deeper spent e xs rest
      (more w bytes place bound (more v other where_at limit_at b)) =
      weigh {n = expr_depth value} {d =
      limit} (λ k. omega arith) (λ k. omega arith) (assign_tail name place (Some op.And) value is _
      rest b)
  assign_at name (Some op.Or) value assigns is deeper spent e xs rest
      (more w bytes place bound (more v other where_at limit_at b)) =
      weigh {n = expr_depth value} {d =
      limit} (λ k. omega arith) (λ k. omega arith) (assign_tail name place (Some op.Or) value is _
      rest b)
  assign_at name (Some op.Eq) value assigns is deeper spent e xs rest b = absurd assigns
  assign_at name (Some op.Ne) value assigns is deeper spent e xs rest b = absurd assigns
  assign_at name (Some op.Lt) value assigns is deeper spent e xs rest b = absurd assigns
  assign_at name (Some op.Le) value assigns is deeper spent e xs rest b = absurd assigns
  assign_at name (Some op.Gt) value assigns is deeper spent e xs rest b = absurd assigns
  assign_at name (Some op.Ge) value assigns is deeper spent e xs rest b = absurd assigns
  assign_at name (Some op.Max) value assigns is deeper spent e xs rest b = absurd assigns
  assign_at name (Some op.Min) value assigns is deeper spent e xs rest b = absurd assigns

  -- NAME "(" [ expr { "," expr } ] ")" ";"
  invoke_at : (name : Name) (those : Exprs) → AreExprs those → FormAt (Invoke name those)
  invoke_at name those are deeper spent e xs rest (more w bytes place bound (more {lexemes =
      others} v other where_at limit_at b)) =
      let parts : Split most (exprs_words those ++ word.Symbol sym.CloseParen ∷
      []) (word.Symbol sym.Semicolon ∷ []) others rest =
      split (exprs_words those ++ word.Symbol sym.CloseParen ∷ []) (word.Symbol sym.Semicolon ∷
      []) b in
      weigh {n = exprs_depth those} {d = limit} (λ k. omega arith) (λ k. omega arith)
      (ends_with sym.Semicolon (Invoke (record { text = name.text; at = place })) (λ v same.
      ap (Invoke (name_shape name)) same) (actuals_here wide most limit fits those are most
      others parts.middle parts.first (bound_of parts.first)) parts.then)

  -- { stmt } within a statement
  body_at : (t : Stmts) → StmtsAt t → (deeper spent : ℕ) → suc deeper + spent ≡ limit
      → (xs rest : List Lexeme) → Begins most (stmts_words t) xs rest → begins_stmt (head_kind rest)
      ≡ false →
      Reads (SameStmts t) rest (max (stmts_depth t) (stmts_nest t + suc spent)) limit
      (stmts most (stmt most (levels wide limit).expr deeper) xs)
  body_at t h deeper spent e xs rest b ends =
      h deeper (suc spent) (omega arith) most xs rest b (bound_of b) ends

  pub body_end_at : (t : Stmts) → StmtsAt t → (deeper spent : ℕ) → suc deeper + spent ≡ limit
      → (xs rest : List Lexeme) → Begins most (stmts_words t ++ end_words) xs rest →
      Reads (SameStmts t) rest (max (stmts_depth t) (stmts_nest t + suc spent)) limit
      (body_end (stmts most (stmt most (levels wide limit).expr deeper)) xs)
  body_end_at t h deeper spent e xs rest b =
      let parts : Split most (stmts_words t) end_words xs rest =
      split (stmts_words t) end_words b in
      weigh {n = max (max (stmts_depth t) (stmts_nest t + suc spent)) 0} {d =
      limit} (λ k. omega arith) (λ k. omega arith)
      (then_reads _ (body_at t h deeper spent e xs parts.middle parts.first
      (at_head (λ those. begins_stmt (head_kind those) ≡ false) (λ bytes at others. refl)
      parts.then))
      (λ value same. made_reads (λ at. value) (λ at any. same) (closing_reads {d =
      limit} parts.then)))

  block_at : (t : Stmts) → StmtsAt t → FormAt (Block t)
  block_at t h deeper spent e xs rest (more w bytes place bound b) =
      weigh {n = max (stmts_depth t) (stmts_nest t + suc spent)} {d =
      limit} (λ k. omega arith) (λ k. omega arith)
      (made_reads Block (λ value same. ap Block same) (body_end_at t h deeper spent e _ rest b))

  -- a rule, a keyword, and a body up to its end
  module _ (test : Expr) (is : IsExpr 0 test) (t : Stmts) (h : StmtsAt t) where
    while_split : (deeper spent : ℕ) → suc deeper + spent ≡ limit → (xs middle rest : List Lexeme)
        → Begins most (expr_words test) xs middle
        → Begins most (word.Keyword key.Do ∷ (stmts_words t ++ end_words)) middle rest →
        Reads (SameForm (While test t)) rest
        (max (expr_depth test) (max (stmts_depth t) (stmts_nest t + suc spent))) limit
        (while_loop (levels wide limit).expr
        (stmts most (stmt most (levels wide limit).expr deeper)) xs)
    while_split deeper spent e xs middle rest b (more w bytes place bound c) =
        then_reads _ (expr_here wide most limit fits test is xs _ b refl) (λ value same.
        made_reads (While value) (λ those alike. cc) (body_end_at t h deeper spent e _ rest c))

    while_at : FormAt (While test t)
    while_at deeper spent e xs rest (more {lexemes = others} w bytes place bound b) =
        let outer : Split most ((expr_words test ++ word.Keyword key.Do ∷ []) ++ stmts_words t)
        end_words others rest =
        split ((expr_words test ++ word.Keyword key.Do ∷ []) ++ stmts_words t) end_words b in
        let parts : Split most (expr_words test) (word.Keyword key.Do ∷ stmts_words t) others
        outer.middle =
        split_at (expr_words test) (word.Keyword key.Do) (stmts_words t) outer.first in
        weigh {n = max (expr_depth test) (max (stmts_depth t) (stmts_nest t + suc spent))} {d =
        limit} (λ k. omega arith) (λ k. omega arith)
        (while_split deeper spent e others parts.middle rest parts.first
        (joined parts.then outer.then))

    repeat_split : (until deeper spent : ℕ) → suc deeper + spent ≡ limit
        → (xs middle after rest : List Lexeme) → Begins most (stmts_words t) xs middle
        → Begins most (word.Keyword key.Until ∷ expr_words test) middle after
        → Begins most (word.Symbol sym.Semicolon ∷ []) after rest →
        Reads (SameForm (Repeat t until test)) rest
        (max (max (stmts_depth t) (stmts_nest t + suc spent)) (expr_depth test)) limit
        (repeat_loop (levels wide limit).expr
        (stmts most (stmt most (levels wide limit).expr deeper)) xs)
    repeat_split until deeper spent e xs middle after rest b (more w bytes place bound c) d =
        then_reads _ (body_at t h deeper spent e xs _ b refl) (λ value same.
        ends_with sym.Semicolon (λ v. Repeat value place v) (λ v alike. cc)
        (expr_here wide most limit fits test is _ after c
        (at_head StopsWhole (λ bytes at others. refl) d)) d)

    repeat_at : (until : ℕ) → FormAt (Repeat t until test)
    repeat_at until deeper spent e xs rest (more {lexemes = others} w bytes place bound b) =
        let outer : Split most ((stmts_words t ++ word.Keyword key.Until ∷ []) ++ expr_words test)
        (word.Symbol sym.Semicolon ∷ []) others rest =
        split ((stmts_words t ++ word.Keyword key.Until ∷ []) ++ expr_words test)
        (word.Symbol sym.Semicolon ∷ []) b in
        let parts : Split most (stmts_words t) (word.Keyword key.Until ∷ expr_words test) others
        outer.middle =
        split_at (stmts_words t) (word.Keyword key.Until) (expr_words test) outer.first in
        weigh {n = max (max (stmts_depth t) (stmts_nest t + suc spent)) (expr_depth test)} {d =
        limit} (λ k. omega arith) (λ k. omega arith)
        (repeat_split until deeper spent e others parts.middle outer.middle rest parts.first
        parts.then outer.then)

    -- expr "then" { stmt }
    arm_split : (deeper spent : ℕ) → suc deeper + spent ≡ limit
        → (at place : ℕ) (xs middle rest : List Lexeme) → Begins most (expr_words test) xs middle
        → Begins most (word.Keyword key.Then ∷ stmts_words t) middle rest
        → begins_stmt (head_kind rest) ≡ false →
        Reads (SameArm (Tested at test t)) rest
        (max (expr_depth test) (max (stmts_depth t) (stmts_nest t + suc spent))) limit
        (arm (levels wide limit).expr (stmts most (stmt most (levels wide limit).expr deeper))
        place xs)
    arm_split deeper spent e at place xs middle rest b (more w bytes spot bound c) ends =
        then_reads _ (expr_here wide most limit fits test is xs _ b refl) (λ value same.
        made_reads (Tested place value) (λ those alike. cc) (body_at t h deeper spent e _ rest c
        ends))

    arm_at : (at : ℕ) → ArmAt (Tested at test t)
    arm_at at deeper spent e place xs rest b ends =
        let parts : Split most (expr_words test) (word.Keyword key.Then ∷ stmts_words t) xs rest =
        split_at (expr_words test) (word.Keyword key.Then) (stmts_words t) b in
        weigh {n = max (expr_depth test) (max (stmts_depth t) (stmts_nest t + suc spent))} {d =
        limit} (λ k. omega arith) (λ k. omega arith)
        (arm_split deeper spent e at place xs parts.middle rest parts.first parts.then ends)

  for_split : (head : ForHead) → IsHead head → (t : Stmts) → StmtsAt t → (deeper spent : ℕ)
      → suc deeper + spent ≡ limit → (xs middle rest : List Lexeme)
      → Begins most (head_words head) xs middle
      → Begins most (word.Keyword key.Do ∷ (stmts_words t ++ end_words)) middle rest →
      Reads (SameForm (For head t)) rest
      (max (head_depth head) (max (stmts_depth t) (stmts_nest t + suc spent))) limit
      (for_loop (levels wide limit).expr
      (stmts most (stmt most (levels wide limit).expr deeper)) xs)
  for_split head is t h deeper spent e xs middle rest b (more w bytes place bound c) =
      then_reads _ (head_at_words head.name head.first head.last head.step is.0 is.1 is.2 head.down
      xs _ b refl refl) (λ value same. made_reads (For value) (λ those alike. cc)
      (body_end_at t h deeper spent e _ rest c))

  for_at : (head : ForHead) → IsHead head → (t : Stmts) → StmtsAt t → FormAt (For head t)
  for_at head is t h deeper spent e xs rest (more {lexemes = others} w bytes place bound b) =
      let outer : Split most ((head_words head ++ word.Keyword key.Do ∷ []) ++ stmts_words t)
      end_words others rest =
      split ((head_words head ++ word.Keyword key.Do ∷ []) ++ stmts_words t) end_words b in
      let parts : Split most (head_words head) (word.Keyword key.Do ∷ stmts_words t) others
      outer.middle =
      split_at (head_words head) (word.Keyword key.Do) (stmts_words t) outer.first in
      weigh {n = max (head_depth head) (max (stmts_depth t) (stmts_nest t + suc spent))} {d =
      limit} (λ k. omega arith) (λ k. omega arith)
      (for_split head is t h deeper spent e others parts.middle rest parts.first
      (joined parts.then outer.then))

  -- { expr "then" { stmt } }, each behind an "if" or an "elsif"
  arms_last : (first : Arm) → ArmAt first → (deeper spent : ℕ) → suc deeper + spent ≡ limit
      → (turns place : ℕ) (xs middle rest : List Lexeme) → Begins most (arm_words first) xs middle
      → Begins most [] middle rest → begins_stmt (head_kind rest) ≡ false
      → next_is (kind.Word key.Elsif) rest ≡ false →
      Reads (SameArms (ThenArm first NoArm)) rest
      (max (max (arm_depth first) (arm_nest first + suc spent)) 0) limit
      (arms (suc turns) (levels wide limit).expr
      (stmts most (stmt most (levels wide limit).expr deeper)) place xs)
  arms_last first h deeper spent e turns place xs middle rest b (none bound) ends elsif =
      then_reads _ (h deeper spent e place xs rest b ends) (λ value same.
      rw elsif (read (ThenArm value NoArm) (zero_fits limit)
      (ap (λ shape. ThenArm shape NoArm) same)))

  arms_more : (first second : Arm) (others : Arms) → ArmAt first → ArmsAt (ThenArm second others)
      → (deeper spent : ℕ) → suc deeper + spent ≡ limit
      → (turns place : ℕ) (xs middle rest : List Lexeme) → Begins most (arm_words first) xs middle →
      Begins most (more_arms (ThenArm second others)) middle rest → length xs < suc turns
      → begins_stmt (head_kind rest) ≡ false → next_is (kind.Word key.Elsif) rest ≡ false →
      Reads (SameArms (ThenArm first (ThenArm second others))) rest
      (max (max (arm_depth first) (arm_nest first + suc spent))
      (max (arms_depth (ThenArm second others)) (arms_nest (ThenArm second others) + suc
      spent))) limit
      (arms (suc turns) (levels wide limit).expr
      (stmts most (stmt most (levels wide limit).expr deeper)) place xs)
  arms_more first second others h k deeper spent e turns place xs middle rest b
      (more w bytes spot bound c) short ends elsif =
      let fewer = shorter b in
      then_reads _ (h deeper spent e place xs _ b refl) (λ value same.
      made_reads (ThenArm value) (λ those alike. cc) (k deeper spent e turns spot _ rest c
      (omega arith) ends elsif))

  arms_at : (first : Arm) (others : Arms) → ArmAt first → (HasArm others → ArmsAt others)
      → ArmsAt (ThenArm first others)
  arms_at first others h k deeper spent e zero place xs rest b short ends elsif =
      absurd (omega arith)
  arms_at first NoArm h k deeper spent e (suc turns) place xs rest b short ends elsif =
      let parts : Split most (arm_words first) [] xs rest = split (arm_words first) [] b in
      weigh {n = max (max (arm_depth first) (arm_nest first + suc spent)) 0} {d =
      limit} (λ k. omega arith) (λ k. omega arith)
      (arms_last first h deeper spent e turns place xs parts.middle rest parts.first parts.then ends
      elsif)
  arms_at first (ThenArm second others) h k deeper spent e (suc turns) place xs rest b short ends
      elsif =
      let parts : Split most (arm_words first) (more_arms (ThenArm second others)) xs rest =
      split (arm_words first) (more_arms (ThenArm second others)) b in
      weigh {n =
      max (max (arm_depth first) (arm_nest first + suc spent))
      (max (arms_depth (ThenArm second others)) (arms_nest (ThenArm second others) + suc
      spent))} {d = limit} (λ k. omega arith) (λ k. omega arith)
      (arms_more first second others h (k tt) deeper spent e turns place xs parts.middle rest
      parts.first parts.then short ends elsif)

  -- [ "else" { stmt } ]
  no_else_at : OtherwiseAt NoElse
  no_else_at deeper spent e xs rest (none bound) ends plain =
      rw (plain, otherwise) (read NoElse (omega arith) refl)

  else_at : (t : Stmts) → StmtsAt t → OtherwiseAt (Else t)
  else_at t h deeper spent e xs rest (more w bytes place bound b) ends plain =
      made_reads Else (λ value same. ap Else same) (body_at t h deeper spent e _ rest b ends)

  otherwise_ends : (t : Otherwise) {xs middle rest : List Lexeme}
      → Begins most (otherwise_words t) xs middle → Begins most end_words middle rest
      → (begins_stmt (head_kind xs) ≡ false) × (next_is (kind.Word key.Elsif) xs ≡ false)
  otherwise_ends NoElse (none limit_at) (more w bytes place bound b) = (refl, refl)
  otherwise_ends (Else t) (more w bytes place bound b) c = (refl, refl)

  if_at : (first : Arm) (others : Arms) (t : Otherwise) → ArmsAt (ThenArm first others)
      → OtherwiseAt t → FormAt (If (ThenArm first others) t)
  if_at first others t h k deeper spent e xs rest (more {lexemes = behind_if} w bytes place bound b)
      =
      let tested : Arms = ThenArm first others in
      let outer : Split most (arms_body tested ++ otherwise_words t) end_words behind_if rest =
      split (arms_body tested ++ otherwise_words t) end_words b in
      let parts : Split most (arms_body tested) (otherwise_words t) behind_if outer.middle =
      split (arms_body tested) (otherwise_words t) outer.first in
      let ends = otherwise_ends t parts.then outer.then in
      weigh {n =
      max (max (arms_depth tested) (arms_nest tested + suc spent))
      (max (max (otherwise_depth t) (otherwise_nest t + suc spent)) 0)} {d =
      limit} (λ k. omega arith) (λ k. omega arith)
      (then_reads _ (h deeper spent e most place behind_if parts.middle parts.first
      (bound_of parts.first) ends.0 ends.1)
      (λ value same.
      then_reads _ (k deeper spent e parts.middle outer.middle parts.then
      (at_head (λ those. begins_stmt (head_kind those) ≡ false) (λ bytes at others. refl)
      outer.then) (at_head (λ those. next_is (kind.Word key.Else) those
      ≡ false) (λ bytes at others. refl) outer.then))
      (λ other alike. made_reads (λ end. If value other) (λ end any. cc) (closing_reads {d =
      limit} outer.then))))

  -- ( "wrap" | "reflect" ) NAME { "," NAME } ";"
  border_tail : (b : BorderKind) (those : List Name) → HasAny those → (xs rest : List Lexeme)
      → Begins most (names_words those ++ word.Symbol sym.Semicolon ∷ []) xs rest →
      Reads (SameForm (Border b those)) rest 0 limit (and_then (names most xs) (λ those rest.
      made (λ at. Border b those) (symbol sym.Semicolon rest)))
  border_tail kind_of those has xs rest b =
      let parts : Split most (names_words those) (word.Symbol sym.Semicolon ∷ []) xs rest =
      split (names_words those) (word.Symbol sym.Semicolon ∷ []) b in
      ends_with sym.Semicolon (Border kind_of) (λ value same. ap (Border kind_of) same)
      (names_at limit those has most xs parts.middle parts.first (let short =
      bound_of parts.first in
      omega arith) (at_head (λ those. next_is (kind.Symbol sym.Comma) those
      ≡ false) (λ bytes at others. refl) parts.then)) parts.then

  border_at : (b : BorderKind) (those : List Name) → HasAny those → FormAt (Border b those)
  border_at border.Wrap those has deeper spent e xs rest (more w bytes place bound b) =
      weigh {n = 0} {d =
      limit} (λ k. omega arith) (λ k. omega arith) (border_tail border.Wrap those has _ rest b)
  border_at border.Reflect those has deeper spent e xs rest (more w bytes place bound b) =
      weigh {n = 0} {d =
      limit} (λ k. omega arith) (λ k. omega arith) (border_tail border.Reflect those has _ rest b)

  -- ( "write" | "writeln" ) "(" [ item { "," item } ] ")" ";"
  write_tail : (line : Bool) (those : List Item) → AllByRecursion IsItem those
      → (xs rest : List Lexeme)
      → Begins most ((items_words those ++ word.Symbol sym.CloseParen ∷ []) ++
      word.Symbol sym.Semicolon ∷ []) xs rest →
      Reads (SameForm (Write line those)) rest (greatest_of item_depth those) limit
      (and_then (items most (levels wide limit).expr xs) (λ those after.
      made (λ end. Write line those) (symbol sym.Semicolon after)))
  write_tail line those are xs rest b =
      let parts : Split most (items_words those ++ word.Symbol sym.CloseParen ∷
      []) (word.Symbol sym.Semicolon ∷ []) xs rest =
      split (items_words those ++ word.Symbol sym.CloseParen ∷ []) (word.Symbol sym.Semicolon ∷
      []) b in
      ends_with sym.Semicolon (Write line) (λ value same. ap (Write line) same)
      (items_at those are xs parts.middle parts.first) parts.then

  write_at : (line : Bool) (those : List Item) → AllByRecursion IsItem those
      → FormAt (Write line those)
  write_at true those are deeper spent e xs rest
      (more w bytes place bound (more v other where_at limit_at b)) =
      weigh {n = greatest_of item_depth those} {d =
      limit} (λ k. omega arith) (λ k. omega arith) (write_tail true those are _ rest b)
  write_at false those are deeper spent e xs rest
      (more w bytes place bound (more v other where_at limit_at b)) =
      weigh {n = greatest_of item_depth those} {d =
      limit} (λ k. omega arith) (λ k. omega arith) (write_tail false those are _ rest b)

  -- "return" expr ";"
  return_at : (value : Expr) → IsExpr 0 value → FormAt (Return value)
  return_at value is deeper spent e xs rest (more {lexemes = others} w bytes place bound b) =
      let parts : Split most (expr_words value) (word.Symbol sym.Semicolon ∷ []) others rest =
      split (expr_words value) (word.Symbol sym.Semicolon ∷ []) b in
      weigh {n = expr_depth value} {d = limit} (λ k. omega arith) (λ k. omega arith)
      (ends_with sym.Semicolon Return (λ v same. ap Return same)
      (expr_here wide most limit fits value is others parts.middle parts.first
      (at_head StopsWhole (λ bytes at others. refl) parts.then)) parts.then)

  some_nest : (t : Form) → 0 < form_nest t
  some_nest (Assign name op value) = omega arith
  some_nest (Invoke name actuals) = omega arith
  some_nest (Block body) = omega arith
  some_nest (If arms otherwise) = omega arith
  some_nest (While test body) = omega arith
  some_nest (Repeat body until test) = omega arith
  some_nest (For head body) = omega arith
  some_nest (Border kind names) = omega arith
  some_nest (Write line items) = omega arith
  some_nest (Return value) = omega arith

  -- { prefix } simple
  stmt_at : (at : ℕ) (before : List Prefix) (t : Form) → AllByRecursion IsPrefix before → IsForm t
      → FormAt t → StmtAt (Prefixed at before t)
  stmt_at at before t are is h zero spent e xs rest b =
      let parts : Split most (flat_map prefix_words before) (form_words t) xs rest =
      split (flat_map prefix_words before) (form_words t) b in
      let some = some_nest t in
      rw (form_begins before t is parts.first parts.then, stmt) (deep _ (omega arith))
  stmt_at at before t are is h (suc deeper) spent e xs rest b =
      let parts : Split most (flat_map prefix_words before) (form_words t) xs rest =
      split (flat_map prefix_words before) (form_words t) b in
      weigh {n = max (greatest_of prefix_depth before) (max (form_depth t) (form_nest t + spent))}
      {d = limit} (λ k. omega arith) (λ k. omega arith)
      (then_reads _ (prefixes_at before are most xs parts.middle parts.first (bound_of parts.first)
      (form_opens t is parts.then).bracket)
      (λ value same. made_reads (Prefixed (head_at parts.middle) value) (λ form alike. cc)
      (h deeper spent e parts.middle rest parts.then)))

  -- { stmt }
  no_stmt_at : StmtsAt NoStmt
  no_stmt_at deeper spent e zero xs rest b short ends = absurd (omega arith)
  no_stmt_at deeper spent e (suc turns) xs rest (none bound) short ends =
      rw (ends, stmts) (read NoStmt (omega arith) refl)

  stmt_begins : (t : Stmt) → IsStmt t → {xs rest : List Lexeme} → Begins most (stmt_words t) xs rest
      → begins_stmt (head_kind xs) ≡ true
  stmt_begins (Prefixed at before t) is {xs = xs} {rest = rest} b =
      let parts : Split most (flat_map prefix_words before) (form_words t) xs rest =
      split (flat_map prefix_words before) (form_words t) b in
      form_begins before t is.1 parts.first parts.then

  stmt_shorter : (t : Stmt) → IsStmt t → {xs rest : List Lexeme}
      → Begins most (stmt_words t) xs rest → length rest < length xs
  stmt_shorter (Prefixed at (first ∷ before) t) is b = shorter_by_one b
  stmt_shorter (Prefixed at [] t) is b = form_shorter t is.1 b
    where
      form_shorter : (t : Form) → IsForm t → {xs rest : List Lexeme}
          → Begins most (form_words t) xs rest → length rest < length xs
      form_shorter (Assign name op value) is b = shorter_by_one b
      form_shorter (Invoke name actuals) is b = shorter_by_one b
      form_shorter (Block body) is b = shorter_by_one b
      form_shorter (If NoArm otherwise) is b = absurd is.0
      form_shorter (If (ThenArm first rest) otherwise) is b = shorter_by_one b
      form_shorter (While test body) is b = shorter_by_one b
      form_shorter (Repeat body until test) is b = shorter_by_one b
      form_shorter (For head body) is b = shorter_by_one b
      form_shorter (Border border.Wrap names) is b = shorter_by_one b
      form_shorter (Border border.Reflect names) is b = shorter_by_one b
      form_shorter (Write true items) is b = shorter_by_one b
      form_shorter (Write false items) is b = shorter_by_one b
      form_shorter (Return value) is b = shorter_by_one b

  then_stmt_at : (first : Stmt) (others : Stmts) → IsStmt first → StmtAt first → StmtsAt others
      → StmtsAt (ThenStmt first others)
  then_stmt_at first others is h k deeper spent e zero xs rest b short ends = absurd (omega arith)
  then_stmt_at first others is h k deeper spent e (suc turns) xs rest b short ends =
      let parts : Split most (stmt_words first) (stmts_words others) xs rest =
      split (stmt_words first) (stmts_words others) b in
      let fewer = stmt_shorter first is parts.first in
      weigh {n =
      max (max (stmt_depth first) (nest_depth first + spent))
      (max (stmts_depth others) (stmts_nest others + spent))} {d =
      limit} (λ k. omega arith) (λ k. omega arith)
      (rw (
        stmt_begins first is parts.first,
        stmts,
      ) (then_reads _ (h deeper spent e xs parts.middle parts.first) (λ value same.
      made_reads (ThenStmt value) (λ those alike. cc) (k deeper spent e turns parts.middle rest
      parts.then (omega arith) ends))))

  mutual
    -- statements of the grammar
    pub stmt_all : (t : Stmt) → IsStmt t → StmtAt t
    stmt_all (Prefixed at prefixes form) is =
        stmt_at at prefixes form is.0 is.1 (form_all form is.1)

    pub stmts_all : (t : Stmts) → AreStmts t → StmtsAt t
    stmts_all NoStmt are = no_stmt_at
    stmts_all (ThenStmt first rest) are =
        then_stmt_at first rest are.0 (stmt_all first are.0) (stmts_all rest are.1)

    pub form_all : (t : Form) → IsForm t → FormAt t
    form_all (Assign name op value) is = assign_at name op value is.0 is.1
    form_all (Invoke name actuals) is = invoke_at name actuals is
    form_all (Block body) is = block_at body (stmts_all body is)
    form_all (If NoArm otherwise) is = absurd is.0
    form_all (If (ThenArm first rest) otherwise) is =
        if_at first rest otherwise (arms_at first rest (arm_all first is.1.0)
        (arms_all rest is.1.1)) (otherwise_all otherwise is.2)
    form_all (While test body) is = while_at test is.0 body (stmts_all body is.1)
    form_all (Repeat body until test) is = repeat_at test is.1 body (stmts_all body is.0) until
    form_all (For head body) is = for_at head is.0 body (stmts_all body is.1)
    form_all (Border kind names) is = border_at kind names is
    form_all (Write line items) is = write_at line items is
    form_all (Return value) is = return_at value is

    arms_all : (t : Arms) → AreArms t → HasArm t → ArmsAt t
    arms_all NoArm are has = absurd has
    arms_all (ThenArm first rest) are has =
        arms_at first rest (arm_all first are.0) (arms_all rest are.1)

    arm_all : (t : Arm) → IsArm t → ArmAt t
    arm_all (Tested at test body) is = arm_at test is.0 body (stmts_all body is.1) at

    otherwise_all : (t : Otherwise) → IsOtherwise t → OtherwiseAt t
    otherwise_all NoElse is = no_else_at
    otherwise_all (Else body) is = else_at body (stmts_all body is)
