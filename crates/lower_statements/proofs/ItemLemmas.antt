-- Prints: what one item adds.
use Rattle.std.proofs.Common.{◌≡◌, ℕ, zero, suc, Bool, true, false, List, [], ◌∷◌, ◌++◌, drop, get_or, map, Option, None, Some, sym, refl, ap, ap₂, ◌∙◌, append-nil}
use Rattle.std.proofs.lemmas.Bool.{false≢true}
use Rattle.std.proofs.lemmas.List.{map-append}
use Rattle.zpl_text.specs.Escapes.{unescaped}
use Rattle.zpl_tree.specs.Syntax.{Base, Boolean, Expr, Integer, Item, Other, Str, Value}
use Rattle.zpl_names.specs.Kinds.{Rank}
use Rattle.zpl_names.specs.Ranks.{is_above_zero}
use Rattle.zpl_names.specs.Sites.{Printed}
use Rattle.zpl_names.specs.Types.{type_of}
use Rattle.name_kinds.specs.Part.{base_seen}
use Rattle.node_form.specs.Expression.{Expression, Variable, words_of}
use Rattle.node_form.specs.declared.instructions.Instr.TheVariants as instr
use Rattle.node_form.specs.declared.words.ExprOp.{ExprOp}
use Rattle.flat_form.specs.Row as row
use Rattle.flat_form.specs.Row.{Row}
use Rattle.zpl_lowering.specs.Hoist.{kept_rows}
use Rattle.zpl_lowering.specs.Statement.{Shown, is_truth, scalar_print, shown_at, shown_of}
use Rattle.zpl_lowering.specs.Where.{Next, Slotted, Where, rank_in, slotted_at}
use Rattle.lower_draft.specs.Drafted.{Drafted, grown, pushed, with_scalars}
use Rattle.lower_draft.specs.Inline.{row_of}
use Rattle.lower_draft.specs.declared.rows.FlatRow.{FlatRow}
use Rattle.lower_draft.proofs.GrowthLemmas.{scalars_grown}
use Rattle.lower_statements.specs.Writes.{behind_item, is_boolean, print_of, rows_in, shown_alone, value_of}
use Rattle.lower_statements.proofs.RowLemmas.{nothing_grown}
use Rattle.lower_points.specs.of_lower_operators.Code.{owning}

-- ---- values

module _ (line : ℕ) (truth : Bool) (scalar temp : ℕ) (over : Slotted) (expr : Expression) where
  scalar_at : (rank : Rank) → is_above_zero rank ≡ false →
      shown_at line truth scalar temp over rank expr
      ≡ shown_at line truth scalar temp over None expr
  scalar_at None is = refl
  scalar_at (Some zero) is = refl
  scalar_at (Some (suc rank)) is = absurd (false≢true (sym is))

  array_at : (rank : Rank) → is_above_zero rank ≡ true →
      shown_at line truth scalar temp over rank expr
      ≡ shown_at line truth scalar temp over (Some 1) expr
  array_at None is = absurd (false≢true is)
  array_at (Some zero) is = absurd (false≢true is)
  array_at (Some (suc rank)) is = refl

module _ (w : Where) (line : ℕ) (expr : Expr) (left : Expression) (draft : Drafted) where
  abbrev rank : Rank
  rank = rank_in w Printed expr

  abbrev current : Slotted
  current = slotted_at w.currents rank

  abbrev truth : Bool
  truth = is_truth (type_of w.scope expr)

  abbrev of_expr : Shown
  of_expr = shown_of w line draft.next.scalars draft.next.temps expr left

  module _ (is : is_above_zero rank ≡ false) where
    as_scalar : of_expr ≡ shown_at line truth draft.next.scalars draft.next.temps current None left
    as_scalar =
        scalar_at line truth draft.next.scalars draft.next.temps current left rank is

    pub scalar_value : (new : Drafted) (words : List ExprOp) → words ≡ words_of left →
        new ≡ pushed (with_scalars draft 1) (row.Set draft.next.scalars words line) →
        new ≡ grown draft (shown_alone of_expr)
    scalar_value new words same set =
        set
        ∙ ap (λ ws. pushed (with_scalars draft 1) (row.Set draft.next.scalars ws line)) same
        ∙ scalars_grown draft (row.Set draft.next.scalars (words_of left) line ∷ []) 1
        ∙ ap (λ s. grown draft (shown_alone s)) (sym as_scalar)

    pub scalar_shown : (print : Row) (prints : Bool) → prints ≡ truth →
        print ≡ scalar_print prints (words_of (Variable draft.next.scalars)) → print ≡ of_expr.print
    scalar_shown print prints same shown =
        shown ∙ ap (λ p. scalar_print p (words_of (Variable draft.next.scalars))) same
        ∙ ap (λ s. s.print) (sym as_scalar)

  module _ (is : is_above_zero rank ≡ true) (over : Slotted) (same : over ≡ current) where
    as_array : of_expr
        ≡ shown_at line truth draft.next.scalars draft.next.temps current (Some 1) left
    as_array =
        array_at line truth draft.next.scalars draft.next.temps current left rank is

    pub array_value : (new : Drafted) →
        new ≡ grown draft (owning 0 (over.flood ∷ [])
        (kept_rows line draft.next.temps over.slot left None)) →
        new ≡ grown draft (shown_alone of_expr)
    array_value new kept =
        kept
        ∙ ap (λ o. grown draft (owning 0 (o.flood ∷ [])
        (kept_rows line draft.next.temps o.slot left None))) same
        ∙ ap (λ s. grown draft (shown_alone s)) (sym as_array)

    pub array_shown : (print : Row) (prints : Bool) → prints ≡ truth →
        print ≡ row.Plain (instr.Gather prints draft.next.temps over.slot) → print ≡ of_expr.print
    array_shown print prints as_truth shown =
        shown
        ∙ ap₂ (λ p o. row.Plain (instr.Gather p draft.next.temps o.slot)) as_truth same
        ∙ ap (λ s. s.print) (sym as_array)

pub boolean_seen : (type : Option Base) → is_boolean (base_seen type) ≡ is_truth type
boolean_seen None = refl
boolean_seen (Some Integer) = refl
boolean_seen (Some Boolean) = refl
boolean_seen (Some (Other name)) = refl

-- ---- an item

module _ (w : Where) (line : ℕ) (item : Item) (exprs : List Expression) where
  module _ (bytes : List ℕ) (is : item ≡ Str bytes) where
    pub text_code : (draft : Drafted) → draft ≡ grown draft (value_of w line draft.next item exprs)
    text_code draft =
        nothing_grown draft
        ∙ ap (λ i. grown draft (value_of w line draft.next i exprs)) (sym is)

    pub text_print : (next : Next) (old more : List Row) →
        more ≡ old ++ row.Print (unescaped bytes) ∷ [] → more ≡ old ++ print_of w line next item exprs
    text_print next old more had =
        had ∙ ap (λ i. old ++ print_of w line next i exprs) (sym is)

    pub text_left : (words : List (List ExprOp)) → words ≡ map words_of exprs →
        words ≡ map words_of (behind_item item exprs)
    text_left words had = had ∙ ap (λ i. map words_of (behind_item i exprs)) (sym is)

  module _ (expr : Expr) (is : item ≡ Value expr) where
    -- no value is left
    module _ (none : [] ≡ map words_of exprs) where
      no_code : (es : List Expression) → [] ≡ map words_of es → (draft : Drafted) →
          draft ≡ grown draft (value_of w line draft.next (Value expr) es)
      no_code [] h draft = nothing_grown draft
      no_code (first ∷ rest) h draft =
          absurd (let no : [] ≡ words_of first ∷ map words_of rest = h in cc)

      no_print : (es : List Expression) → [] ≡ map words_of es → (next : Next) →
          [] ≡ print_of w line next (Value expr) es
      no_print [] h next = refl
      no_print (first ∷ rest) h next =
          absurd (let no : [] ≡ words_of first ∷ map words_of rest = h in cc)

      no_left : (es : List Expression) → [] ≡ map words_of es →
          [] ≡ map words_of (behind_item (Value expr) es)
      no_left [] h = refl
      no_left (first ∷ rest) h =
          absurd (let no : [] ≡ words_of first ∷ map words_of rest = h in cc)

      pub none_code : (draft : Drafted) →
          draft ≡ grown draft (value_of w line draft.next item exprs)
      none_code draft =
          no_code exprs none draft
          ∙ ap (λ i. grown draft (value_of w line draft.next i exprs)) (sym is)

      pub none_print : (next : Next) (old : List Row) → old ≡ old ++ print_of w line next item exprs
      none_print next old =
          sym (append-nil old) ∙ ap (λ p. old ++ p) (no_print exprs none next)
          ∙ ap (λ i. old ++ print_of w line next i exprs) (sym is)

      pub none_left : [] ≡ map words_of (behind_item item exprs)
      none_left = no_left exprs none ∙ ap (λ i. map words_of (behind_item i exprs)) (sym is)

    -- one is
    module _ (words : List ExprOp) (rest : List (List ExprOp))
        (some : words ∷ rest ≡ map words_of exprs) (draft : Drafted) where
      one_code : (es : List Expression) → words ∷ rest ≡ map words_of es → (new : Drafted) →
          ((left : Expression) → words ≡ words_of left → new ≡ grown draft (shown_alone
          (shown_of w line draft.next.scalars draft.next.temps expr left))) →
          new ≡ grown draft (value_of w line draft.next (Value expr) es)
      one_code [] h new grows = absurd (let no : words ∷ rest ≡ [] = h in cc)
      one_code (first ∷ others) h new grows = grows first (ap (λ l. get_or l 0 words) h)

      one_print : (es : List Expression) → words ∷ rest ≡ map words_of es → (print : Row) →
          ((left : Expression) → words ≡ words_of left → print
          ≡ (shown_of w line draft.next.scalars draft.next.temps expr left).print) →
          print ∷ [] ≡ print_of w line draft.next (Value expr) es
      one_print [] h print shows = absurd (let no : words ∷ rest ≡ [] = h in cc)
      one_print (first ∷ others) h print shows =
          ap (λ p. p ∷ []) (shows first (ap (λ l. get_or l 0 words) h))

      one_left : (es : List Expression) → words ∷ rest ≡ map words_of es →
          rest ≡ map words_of (behind_item (Value expr) es)
      one_left [] h = absurd (let no : words ∷ rest ≡ [] = h in cc)
      one_left (first ∷ others) h = ap (drop 1) h

      pub some_code : (new : Drafted) →
          ((left : Expression) → words ≡ words_of left → new ≡ grown draft (shown_alone
          (shown_of w line draft.next.scalars draft.next.temps expr left))) →
          new ≡ grown draft (value_of w line draft.next item exprs)
      some_code new grows =
          one_code exprs some new grows
          ∙ ap (λ i. grown draft (value_of w line draft.next i exprs)) (sym is)

      pub some_print : (old more : List Row) (print : Row) → more ≡ old ++ print ∷ [] →
          ((left : Expression) → words ≡ words_of left → print
          ≡ (shown_of w line draft.next.scalars draft.next.temps expr left).print) →
          more ≡ old ++ print_of w line draft.next item exprs
      some_print old more print had shows =
          had ∙ ap (λ p. old ++ p) (one_print exprs some print shows)
          ∙ ap (λ i. old ++ print_of w line draft.next i exprs) (sym is)

      pub some_left : rest ≡ map words_of (behind_item item exprs)
      some_left = one_left exprs some ∙ ap (λ i. map words_of (behind_item i exprs)) (sym is)

pub rows_pushed : (rows new : List FlatRow) (one : FlatRow) → new ≡ rows ++ one ∷ [] →
    rows_in new ≡ rows_in rows ++ row_of one ∷ []
rows_pushed rows new one is = ap rows_in is ∙ map-append row_of rows (one ∷ [])
