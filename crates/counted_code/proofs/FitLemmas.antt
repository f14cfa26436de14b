-- Counted code fits, and is typed, as its code is.
use Rattle.std.proofs.Common.{◌≡◌, refl, sym, ◌∙◌, ap, subst, ℕ, zero, suc, ◌+◌, ◌<◌, ◌≤◌}
use Rattle.std.proofs.Common.{Bool, true, false, List, [], ◌∷◌, ◌++◌, length, map, arith}
use Rattle.std.proofs.Common.{pos}
use Rattle.std.specs.Prelude.{Option, Some, None, slice_get, All, flat_map}
use Rattle.std.specs.List.{range_with_len}
use Rattle.std.specs.Option.{IfSome, IsSomeAnd, option_map}
use Rattle.std.proofs.lemmas.Option.{slice_get-map}
use Rattle.std.proofs.lemmas.List.{length-map}
use Rattle.std.proofs.lemmas.List.Elements.{All-weaker, All-append, All-cons, All-from_recursion}
use Rattle.std.proofs.lemmas.List.Elements.{All-head, All-map, All-nil, All-tail}
use Rattle.zpl_nums.specs.declared.operators.Op.TheVariants as op
use Rattle.node_form.specs.declared.arrays.ArrayRow.{ArrayRow}
use Rattle.node_form.specs.declared.arrays.Item.{Item}
use Rattle.node_form.specs.declared.instructions.Instr.{Instr}
use Rattle.node_form.specs.declared.instructions.Instr.TheVariants as instr
use Rattle.node_form.specs.declared.members.Member.{Member}
use Rattle.node_form.specs.declared.members.Member.TheVariants as member
use Rattle.node_form.specs.declared.tables.Tables.{Tables}
use Rattle.node_form.specs.declared.words.ExprOp.{ExprOp}
use Rattle.node_form.specs.declared.words.ExprOp.TheVariants as word
use Rattle.node_form.specs.Expression.{CellValue, Constant, Operation}
use Rattle.node_form.specs.Fits.{Fits, FitsAt, FitsExchange, FitsExpr, FitsGroup, FitsInstr}
use Rattle.node_form.specs.Fits.{FitsItem, FitsMember, FitsRemap}
use Rattle.node_form.specs.Fits.{FitsWord, Grows, HasExpr, HasGroup}
use Rattle.node_form.proofs.GrowthLemmas.{FitsExchange-grows, FitsInstr-grows, FitsWord-grows}
use Rattle.node_form.proofs.GrowthLemmas.{Keeps-append, Keeps-same}
use Rattle.typed_tables.specs.Typed.{AreTyped, IsTypedWord}
use Rattle.counted_code.specs.Counted.{counted, counted_exprs, counted_group, counted_member}
use Rattle.counted_code.specs.Counted.{counting, equal_expr, equal_words}
use Rattle.counted_code.specs.Counted.{idling, number_expr, number_words, until_expr, until_words}
use Rattle.counted_code.specs.Counted.{while_expr, while_words}
use Rattle.counted_code.proofs.TableLemmas.{equal_there, number_there, old_there}
use Rattle.counted_code.proofs.TableLemmas.{until_there, while_there}
use Rattle.counted_code.proofs.GroupLemmas.{block, head, split}
use Rattle.counted_code.proofs.NestLemmas.{counted_nest, nest_members}
use Rattle.code_parts.specs.Uses.{is_turning}

all_flat : {X Y : Type 0} (P : Y → Type 0) (f : X → List Y) (xs : List X)
    → All (λ x. All P (f x)) xs → All P (flat_map f xs)
all_flat P f [] all = All-nil P
all_flat P f (x ∷ xs) all =
    All-append P (f x) (flat_map f xs) (All-head (λ x. All P (f x)) x xs all)
    (all_flat P f xs (All-tail (λ x. All P (f x)) x xs all))

module _ (n : ℕ) (code : Tables) where
  abbrev real : Tables
  real = counted n code

  -- with the new groups alone
  abbrev middle : Tables
  middle = record code { groups = real.groups }

  grows : Grows middle real
  grows = record {
    scalars = omega arith;
    cells = omega arith;
    slots = Keeps-same code.slots;
    arrays = Keeps-same code.arrays;
    texts = omega arith;
    exprs = Keeps-append code.exprs _;
    groups = Keeps-same real.groups;
    exchanges = omega arith;
    code = omega arith;
  }

  pub word_fits : (rank : ℕ) (w : ExprOp) → FitsWord code rank w → FitsWord real rank w
  word_fits rank w fits = FitsWord-grows middle real grows rank w fits

  words_fit : (rank : ℕ) (words : List ExprOp) → All (FitsWord code rank) words
      → All (FitsWord real rank) words
  words_fit rank words fits =
      All-weaker (FitsWord code rank) (FitsWord real rank) (word_fits rank) words fits

  own_cell : code.cells < code.cells + 1
  own_cell = omega arith

  test_fits : (rank : ℕ) (one other : _)
      → All (FitsWord real rank) (word.Cell code.cells ∷ word.Const (pos n) ∷ word.Pair one ∷
      word.Pair other ∷ [])
  test_fits rank one other =
      All-from_recursion (FitsWord real rank)
      (word.Cell code.cells ∷ word.Const (pos n) ∷ word.Pair one ∷ word.Pair other ∷ [])
      (own_cell, (tt, (tt, (tt, tt))))

  while_fits : (rank : ℕ) (words : List ExprOp) → All (FitsWord code rank) words
      → All (FitsWord real rank) (while_words code.cells n words)
  while_fits rank words fits =
      All-append (FitsWord real rank) words _ (words_fit rank words fits)
      (test_fits rank op.Lt op.And)

  until_fits : (rank : ℕ) (words : List ExprOp) → All (FitsWord code rank) words
      → All (FitsWord real rank) (until_words code.cells n words)
  until_fits rank words fits =
      All-append (FitsWord real rank) words _ (words_fit rank words fits)
      (test_fits rank op.Ge op.Or)

  number_fits : (rank k : ℕ) → All (FitsWord real rank) (number_words k)
  number_fits rank k = All-from_recursion (FitsWord real rank) (word.Const (pos k) ∷ []) (tt, tt)

  equal_fits : (rank k : ℕ) → All (FitsWord real rank) (equal_words code.cells k)
  equal_fits rank k =
      All-from_recursion (FitsWord real rank)
      (word.Cell code.cells ∷ word.Const (pos k) ∷ word.Pair op.Eq ∷ [])
      (own_cell, (tt, (tt, tt)))

  -- ---- expressions
  old_expr : (words : List ExprOp) → FitsExpr code words → FitsExpr real words
  old_expr words fits = record {
    stack = fits.stack;
    rank = fits.rank;
    is_rank = fits.is_rank;
    fit = words_fit fits.rank words fits.fit;
  }

  tested_expr : (one other : _) (words : List ExprOp) → FitsExpr code words
      → FitsExpr real (words ++ word.Cell code.cells ∷ word.Const (pos n) ∷ word.Pair one ∷
      word.Pair other ∷ [])
  tested_expr one other words fits = record {
    stack = record {
      tree = Operation other fits.stack.tree
          (Operation one (CellValue code.cells) (Constant (pos n)));
      spelled =
          ap (λ w. w ++ word.Cell code.cells ∷ word.Const (pos n) ∷ word.Pair one ∷ word.Pair other
          ∷ [])
          fits.stack.spelled;
    };
    rank = fits.rank;
    is_rank = fits.is_rank;
    fit = All-append (FitsWord real fits.rank) words _ (words_fit fits.rank words fits.fit)
        (test_fits fits.rank one other);
  }

  number_expr_fits : (k : ℕ) → FitsExpr real (number_words k)
  number_expr_fits k = record {
    stack = record { tree = Constant (pos k); spelled = refl };
    rank = 1;
    is_rank = (omega arith, omega arith);
    fit = number_fits 1 k;
  }

  equal_expr_fits : (k : ℕ) → FitsExpr real (equal_words code.cells k)
  equal_expr_fits k = record {
    stack = record {
      tree = Operation op.Eq (CellValue code.cells) (Constant (pos k));
      spelled =
          refl;
    };
    rank = 1;
    is_rank = (omega arith, omega arith);
    fit = equal_fits 1 k;
  }

  all_ranged : (P : List ExprOp → Type 0) (f : ℕ → List ExprOp) (ks : List ℕ) → ((k : ℕ) → P (f k))
      → All P (map f ks)
  all_ranged P f [] each = All-nil P
  all_ranged P f (k ∷ ks) each = All-cons P (f k) (map f ks) (each k) (all_ranged P f ks each)

  exprs_fit : All (FitsExpr code) code.exprs → All (FitsExpr real) (counted_exprs n code)
  exprs_fit fits =
      All-append (FitsExpr real) code.exprs _
      (All-weaker (FitsExpr code) (FitsExpr real) old_expr code.exprs fits)
      (All-append (FitsExpr real) (map (while_words code.cells n) code.exprs) _
      (All-map (FitsExpr real) (while_words code.cells n) code.exprs
      (All-weaker (FitsExpr code) (λ w. FitsExpr real (while_words code.cells n w))
      (tested_expr op.Lt op.And) code.exprs fits))
      (All-append (FitsExpr real) (map (until_words code.cells n) code.exprs) _
      (All-map (FitsExpr real) (until_words code.cells n) code.exprs
      (All-weaker (FitsExpr code) (λ w. FitsExpr real (until_words code.cells n w))
      (tested_expr op.Ge op.Or) code.exprs fits))
      (All-append (FitsExpr real) (map number_words (range_with_len 0 (suc n))) _
      (all_ranged (FitsExpr real) number_words (range_with_len 0 (suc n)) number_expr_fits)
      (all_ranged (FitsExpr real) (equal_words code.cells) (range_with_len 0 n) equal_expr_fits))))

  -- ---- members
  has_by : (rank expr there : ℕ) (f : List ExprOp → List ExprOp)
      → ((words : List ExprOp) → slice_get code.exprs expr ≡ Some words
      → slice_get (counted_exprs n code) there ≡ Some (f words))
      → ((words : List ExprOp) → All (FitsWord code rank) words
      → All (FitsWord real rank) (f words))
      → HasExpr code rank expr → HasExpr real rank there
  has_by rank expr there f found fit has = by (slice_get code.exprs expr) refl has
    where
      by : (o : Option (List ExprOp)) → slice_get code.exprs expr ≡ o
          → IsSomeAnd o (All (FitsWord code rank))
          → HasExpr real rank there
      by None e has = absurd has
      by (Some words) e has =
          subst (λ o. IsSomeAnd o (All (FitsWord real rank))) (sym (found words e)) (fit words has)

  has_old : (rank expr : ℕ) → HasExpr code rank expr → HasExpr real rank expr
  has_old rank expr has =
      has_by rank expr expr (λ w. w) (old_there n code expr) (words_fit rank) has

  mask_old : (rank : ℕ) (mask : Option ℕ) → IfSome mask (HasExpr code rank)
      → IfSome mask (HasExpr real rank)
  mask_old rank None has = tt
  mask_old rank (Some mask) has = has_old rank mask has

  has_number : (rank k : ℕ) → k < suc n → HasExpr real rank (number_expr n code k)
  has_number rank k less =
      subst (λ o. IsSomeAnd o (All (FitsWord real rank))) (sym (number_there n code k less))
      (number_fits rank k)

  has_equal : (rank k : ℕ) → k < n → HasExpr real rank (equal_expr n code k)
  has_equal rank k less =
      subst (λ o. IsSomeAnd o (All (FitsWord real rank))) (sym (equal_there n code k less))
      (equal_fits rank k)

  counting_fits : (rank k : ℕ) → k ≤ n → All (FitsMember real rank) (counting n code k)
  counting_fits rank zero few = All-nil (FitsMember real rank)
  counting_fits rank (suc k) few =
      All-cons (FitsMember real rank)
      (member.Cell code.cells (number_expr n code (suc k)) (Some (equal_expr n code k)) 0)
      (counting n code k) (
        own_cell,
        has_number rank (suc k) (omega (arith, few)),
        has_equal rank k
            (omega (arith, few)),
      )
      (counting_fits rank k (omega (arith, few)))

  idling_fits : (rank k : ℕ) → All (FitsMember real rank) (idling n code k)
  idling_fits rank zero = All-nil (FitsMember real rank)
  idling_fits rank (suc k) =
      All-cons (FitsMember real rank)
      (member.Cell code.cells (number_expr n code 0) (Some (number_expr n code 0)) 0)
      (idling n code k)
      (own_cell, has_number rank 0 (omega arith), has_number rank 0 (omega arith))
      (idling_fits rank k)

  block_fits : (rank : ℕ) (b : Bool) → All (FitsMember real rank) (block n code b)
  block_fits rank true = counting_fits rank n (omega arith)
  block_fits rank false = idling_fits rank n

  head_fits : (rank : ℕ) (one : Member) → FitsMember code rank one
      → FitsMember real rank (head n code one)
  head_fits rank (member.Put array expr mask line) fits =
      (fits.0, has_old rank expr fits.1, mask_old rank mask fits.2)
  head_fits rank (member.Cell cell expr mask line) fits =
      (less cell fits.0, has_old rank expr fits.1, mask_old rank mask fits.2)
    where
      less : (k : ℕ) → k < code.cells → k < code.cells + 1
      less k below = omega (arith, below)
  head_fits rank (member.Acc scalar f expr mask line) fits =
      (fits.0, has_old rank expr fits.1, mask_old rank mask fits.2)
  head_fits rank (member.OpenIf expr mask line) fits =
      (has_old rank expr fits.0, mask_old rank mask fits.1)
  head_fits rank member.Otherwise fits = tt
  head_fits rank member.CloseIf fits = tt
  head_fits rank (member.OpenWhile expr mask line) fits = (
    has_by rank expr (while_expr n code expr) (while_words code.cells n) (while_there n code expr)
        (while_fits rank) fits.0,
    mask_old rank mask fits.1,
  )
  head_fits rank member.CloseWhile fits = tt
  head_fits rank (member.OpenRepeat mask line) fits = mask_old rank mask fits
  head_fits rank (member.Until expr) fits =
      has_by rank expr (until_expr n code expr) (until_words code.cells n) (until_there n code expr)
      (until_fits rank) fits

  member_fits : (rank : ℕ) (one : Member) → FitsMember code rank one
      → All (FitsMember real rank) (counted_member n code one)
  member_fits rank one fits =
      subst (All (FitsMember real rank)) (sym (split n code one))
      (All-cons (FitsMember real rank) (head n code one) (block n code (is_turning one))
      (head_fits rank one fits)
      (block_fits rank (is_turning one)))

  members_fit : (rank : ℕ) (members : List Member) → All (FitsMember code rank) members
      → All (FitsMember real rank) (counted_group n code members)
  members_fit rank members fits =
      all_flat (FitsMember real rank) (counted_member n code) members
      (All-weaker (FitsMember code rank)
      (λ one. All (FitsMember real rank) (counted_member n code one)) (member_fits rank)
      members fits)

  group_fits : (members : List Member) → FitsGroup code members
      → FitsGroup real (counted_group n code members)
  group_fits members fits = record {
    nest = record {
      tree = counted_nest n code fits.nest.tree;
      spelled = nest_members n code fits.nest.tree ∙ ap (counted_group n code) fits.nest.spelled;
    };
    rank = fits.rank;
    is_rank = fits.is_rank;
    fit = members_fit fits.rank members fits.fit;
  }

  -- ---- rows
  item_fits : (item : Item) → FitsItem code item → FitsItem middle item
  item_fits item fits = record {
    rank = fits.rank;
    slot = fits.slot;
    array = fits.array;
    stored = fits.stored;
    shift = fits.shift;
  }

  exchange_fits : (items : List Item) → FitsExchange code items → FitsExchange real items
  unfolding FitsExchange
  exchange_fits items fits =
      FitsExchange-grows middle real grows items
      (All-weaker (FitsItem code) (FitsItem middle) item_fits items fits)

  as_many : (k : ℕ) → k < length code.groups → k < length real.groups
  as_many k less = subst (λ j. k < j) (sym (length-map code.groups (counted_group n code))) less

  remap_fits : (rank array : ℕ) (parts : List (Option ℕ)) (o : Option ArrayRow)
      → IsSomeAnd o (FitsRemap code rank array parts)
      → IsSomeAnd o (FitsRemap middle rank array parts)
  remap_fits rank array parts None fits = fits
  remap_fits rank array parts (Some row) fits = record {
    stored = fits.stored;
    ranges = fits.ranges;
    given = fits.given;
    absent = fits.absent;
  }

  loop_fits : (rank group : ℕ) → HasGroup code rank group → HasGroup real rank group
  loop_fits rank group has =
      subst (λ o. IsSomeAnd o (All (FitsMember real rank)))
      (sym (slice_get-map (counted_group n code) code.groups group))
      (by (slice_get code.groups group) has)
    where
      by : (o : Option (List Member)) → IsSomeAnd o (All (FitsMember code rank))
          → IsSomeAnd (option_map (counted_group n code) o) (All (FitsMember real rank))
      by None has = absurd has
      by (Some members) has = members_fit rank members has

  at_middle : (rank : ℕ) (row : Instr) → FitsAt code rank row → FitsInstr real row
  at_middle rank (instr.Loop slot group) fits =
      record { rank = rank; fit = (fits.0, loop_fits rank group fits.1) }
  at_middle rank (instr.Vote group) fits = record { rank = rank; fit = as_many group fits }
  at_middle rank (instr.TreeVote group) fits = record { rank = rank; fit = as_many group fits }
  at_middle rank (instr.Remap array slot from parts) fits =
      FitsInstr-grows middle real grows (instr.Remap array slot from parts)
      (record {
        rank = rank;
        fit = (
          fits.0,
          fits.1,
          fits.2,
          remap_fits rank array parts (slice_get code.arrays from)
              fits.3,
        );
      })
  at_middle rank row fits =
      FitsInstr-grows middle real grows row (record { rank = rank; fit = fits })

  pub counted_fits : Fits code → Fits real
  counted_fits fits = record {
    grid = fits.grid;
    slots = fits.slots;
    arrays = fits.arrays;
    exprs = exprs_fit fits.exprs;
    groups =
        All-map (FitsGroup real) (counted_group n code) code.groups
        (All-weaker (FitsGroup code) (λ g. FitsGroup real (counted_group n code g)) group_fits
        code.groups fits.groups);
    exchanges = All-weaker (FitsExchange code) (FitsExchange real) exchange_fits code.exchanges
        fits.exchanges;
    code =
        All-weaker (FitsInstr code) (FitsInstr real) (λ row fit. at_middle fit.rank row fit.fit)
        code.code fits.code;
  }

  -- ---- three dimensions
  abbrev Typed : List ExprOp → Type 0
  Typed words = All IsTypedWord words

  tested_typed : (one other : _) (words : List ExprOp) → Typed words
      → Typed (words ++ word.Cell code.cells ∷ word.Const (pos n) ∷ word.Pair one ∷ word.Pair other
      ∷ [])
  tested_typed one other words typed =
      All-append IsTypedWord words _ typed
      (All-from_recursion IsTypedWord
      (word.Cell code.cells ∷ word.Const (pos n) ∷ word.Pair one ∷ word.Pair other ∷ [])
      (tt, (tt, (tt, (tt, tt)))))

  pub counted_typed : AreTyped code → AreTyped real
  counted_typed typed = record {
    arrays = typed.arrays;
    exprs =
        All-append Typed code.exprs _ typed.exprs
        (All-append Typed (map (while_words code.cells n) code.exprs) _
        (All-map Typed (while_words code.cells n) code.exprs
        (All-weaker Typed (λ w. Typed (while_words code.cells n w)) (tested_typed op.Lt op.And)
        code.exprs typed.exprs))
        (All-append Typed (map (until_words code.cells n) code.exprs) _
        (All-map Typed (until_words code.cells n) code.exprs
        (All-weaker Typed (λ w. Typed (until_words code.cells n w)) (tested_typed op.Ge op.Or)
        code.exprs typed.exprs))
        (All-append Typed (map number_words (range_with_len 0 (suc n))) _
        (all_ranged Typed number_words (range_with_len 0 (suc n))
        (λ k. All-from_recursion IsTypedWord (word.Const (pos k) ∷ []) (tt, tt)))
        (all_ranged Typed (equal_words code.cells) (range_with_len 0 n)
        (λ k. All-from_recursion IsTypedWord
        (word.Cell code.cells ∷ word.Const (pos k) ∷ word.Pair op.Eq ∷ [])
        (tt, (tt, (tt, tt))))))));
    exchanges = typed.exchanges;
    code = typed.code;
  }
