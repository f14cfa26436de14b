-- Groups without cells.
use Rattle.std.proofs.Common.{◌≡◌, refl, sym, ◌∙◌, ap, subst, arith, ℕ, zero, suc, List, [], ◌∷◌}
use Rattle.std.proofs.Common.{◌++◌}
use Rattle.std.proofs.Common.{map, All, Option, Some, None}
use Rattle.std.specs.Prelude.{flat_map, fold, max, slice_get, slice_index_or, ⊤}
use Rattle.std.specs.List.{AllByRecursion}
use Rattle.std.specs.Option.{IfSome, IsSomeAnd, option_map}
use Rattle.std.proofs.lemmas.Grind.{flat_map-append}
use Rattle.std.proofs.lemmas.List.{map-append}
use Rattle.std.proofs.lemmas.List.Elements.{recursion_from_All}
use Rattle.node_form.specs.declared.instructions.Instr.{Instr}
use Rattle.node_form.specs.declared.instructions.Instr.TheVariants as instr
use Rattle.node_form.specs.declared.members.Member as number
use Rattle.node_form.specs.declared.members.Member.TheVariants as member
use Rattle.node_form.specs.declared.tables.Tables.{Tables}
use Rattle.node_form.specs.declared.words.ExprOp.{ExprOp}
use Rattle.node_form.specs.declared.words.ExprOp.TheVariants as word
use Rattle.node_form.specs.Fits.{Fits, FitsGroup, FitsMember, FitsWord, HasExpr}
use Rattle.node_form.specs.Nest.{Nest, Nothing}
use Rattle.nest_meaning.specs.Tree.{nest_of}
use Rattle.nest_meaning.specs.Units.{followed_by}
use Rattle.nest_meaning.proofs.TreeLemmas.{reads_again}
use Rattle.code_parts.specs.Uses.{rows_or_none}
use Rattle.flat_form.specs.Names.{each_word, group_cells, group_words, member_cells, word_cells}
use Rattle.flat_form.specs.Row.{Words, mask_words, member_inlined, member_words, words_at}
use Rattle.flat_passes.specs.Grouped.{Grouped, Plain, Runs, grouped}
use Rattle.fused_runs.proofs.BeginLemmas.{inline}
use Rattle.fused_runs.proofs.UnitLemmas.{both_nests}

abbrev AllZero : List ℕ → Type 0
AllZero numbers = AllByRecursion (λ k. k ≡ 0) numbers

zero_both : (xs ys : List ℕ) → AllZero xs → AllZero ys → AllZero (xs ++ ys)
zero_both [] ys first second = second
zero_both (x ∷ xs) ys first second = (first.0, zero_both xs ys first.1 second)

zero_fold : (xs : List ℕ) → AllZero xs → fold max 0 xs ≡ 0
zero_fold [] all = refl
zero_fold (x ∷ xs) all =
    subst (λ k. fold max (max 0 k) xs ≡ 0) (sym all.0) (zero_fold xs all.1)

abbrev cell_of : ExprOp → List ℕ
cell_of one = word_cells one ∷ []

module _ (tables : Tables) where
  -- the group has no cell, and its members nest
  pub record IsBare (group : List number.Member) : Type 0 where
    pub kept : AllZero (map member_cells (inline tables group))
    pub named : AllZero (each_word cell_of (group_words (inline tables group)))
    pub tree : Nest
    pub read : nest_of group ≡ Some tree

  pub no_cells : (group : List number.Member) → IsBare group
      → group_cells (inline tables group) ≡ 0
  no_cells group is =
      zero_fold (map member_cells (inline tables group)
      ++ each_word cell_of (group_words (inline tables group)))
      (zero_both (map member_cells (inline tables group))
      (each_word cell_of (group_words (inline tables group))) is.kept is.named)

  pub both_bare : (one other : List number.Member) → IsBare one → IsBare other
      → IsBare (one ++ other)
  both_bare one other first second =
      let G = inline tables one in
      let H = inline tables other in
      let joined : inline tables (one ++ other) ≡ G ++ H =
      map-append (member_inlined tables) one other in
      record {
        kept = subst (λ l. AllZero (map member_cells l)) (sym joined)
            (subst AllZero (sym (map-append member_cells G H))
            (zero_both (map member_cells G) (map member_cells H) first.kept second.kept));
        named = subst (λ l. AllZero (each_word cell_of (group_words l))) (sym joined)
            (subst (λ l. AllZero (each_word cell_of l)) (sym (flat_map-append member_words G H))
            (subst AllZero
            (sym (flat_map-append (λ words. flat_map cell_of words) (group_words G)
            (group_words H)))
            (zero_both (each_word cell_of (group_words G)) (each_word cell_of (group_words H))
            first.named second.named)));
        tree = followed_by first.tree second.tree;
        read = both_nests one other first.tree second.tree first.read second.read;
      }

  -- ---- where tables have no cells
  module _ (none : tables.cells ≡ 0) (rank : ℕ) where
    word_none : (one : ExprOp) → FitsWord tables rank one → word_cells one ≡ 0
    word_none (word.Cell cell) fits = absurd (omega (arith, fits, none))
    word_none one fits = refl

    words_none : (words : List ExprOp) → AllByRecursion (FitsWord tables rank) words
        → AllZero (flat_map cell_of words)
    words_none [] all = tt
    words_none (one ∷ words) all = (word_none one all.0, words_none words all.1)

    some_index : (exprs : List Words) (expr : ℕ)
        → IsSomeAnd (slice_get exprs expr) (All (FitsWord tables rank))
        → AllZero (flat_map cell_of (slice_index_or exprs expr []))
    some_index [] expr has = absurd has
    some_index (words ∷ exprs) zero has =
        words_none words (recursion_from_All (FitsWord tables rank) words has)
    some_index (words ∷ exprs) (suc expr) has = some_index exprs expr has

    mask_none : (mask : Option ℕ) → IfSome mask (HasExpr tables rank)
        → AllZero (each_word cell_of (mask_words (option_map (words_at tables) mask)))
    mask_none (Some mask) has =
        zero_both (flat_map cell_of (words_at tables mask)) [] (some_index tables.exprs mask has) tt
    mask_none None has = tt

    exprs_none : (expr : ℕ) (mask : Option ℕ) → HasExpr tables rank expr
        → IfSome mask (HasExpr tables rank)
        → AllZero (each_word cell_of (words_at tables expr
        ∷ mask_words (option_map (words_at tables) mask)))
    exprs_none expr mask has also =
        zero_both (flat_map cell_of (words_at tables expr))
        (each_word cell_of (mask_words (option_map (words_at tables) mask)))
        (some_index tables.exprs expr has) (mask_none mask also)

    member_none : (one : number.Member) → FitsMember tables rank one
        → (member_cells (member_inlined tables one) ≡ 0)
        × AllZero (each_word cell_of (member_words (member_inlined tables one)))
    member_none (member.Put array expr mask line) fits =
        (refl, exprs_none expr mask fits.1 fits.2)
    member_none (member.Cell cell expr mask line) fits = absurd (omega (arith, fits.0, none))
    member_none (member.Acc scalar operator expr mask line) fits =
        (refl, exprs_none expr mask fits.1 fits.2)
    member_none (member.OpenIf expr mask line) fits = (refl, exprs_none expr mask fits.0 fits.1)
    member_none member.Otherwise fits = (refl, tt)
    member_none member.CloseIf fits = (refl, tt)
    member_none (member.OpenWhile expr mask line) fits =
        (refl, exprs_none expr mask fits.0 fits.1)
    member_none member.CloseWhile fits = (refl, tt)
    member_none (member.OpenRepeat mask line) fits = (refl, mask_none mask fits)
    member_none (member.Until expr) fits = (
      refl,
      zero_both (flat_map cell_of (words_at tables expr)) []
          (some_index tables.exprs expr fits) tt,
    )

    members_none : (group : List number.Member) → AllByRecursion (FitsMember tables rank) group
        → AllZero (map member_cells (inline tables group))
        × AllZero (each_word cell_of (group_words (inline tables group)))
    members_none [] all = (tt, tt)
    members_none (one ∷ group) all =
        let here = member_none one all.0 in
        let more = members_none group all.1 in (
          (here.0, more.0),
          subst AllZero
              (sym (flat_map-append (λ words. flat_map cell_of words)
              (member_words (member_inlined tables one)) (group_words (inline tables group))))
              (zero_both (each_word cell_of (member_words (member_inlined tables one)))
              (each_word cell_of (group_words (inline tables group))) here.1 more.1),
        )

  -- ---- groups of such tables that fit
  bare_group : tables.cells ≡ 0 → (group : List number.Member) → FitsGroup tables group
      → IsBare group
  bare_group none group fits =
      let bare = members_none none fits.rank group
      (recursion_from_All (FitsMember tables fits.rank) group fits.fit) in
      record {
        kept = bare.0;
        named = bare.1;
        tree = fits.nest.tree;
        read = ap nest_of (sym fits.nest.spelled) ∙ reads_again fits.nest.tree;
      }

  bare_found : tables.cells ≡ 0 → (groups : List (List number.Member)) (group : ℕ)
      → AllByRecursion (FitsGroup tables) groups
      → IsBare (rows_or_none (slice_get groups group))
  bare_found none [] group all = record {
    kept = tt;
    named = tt;
    tree = Nothing;
    read = refl;
  }
  bare_found none (members ∷ groups) zero all = bare_group none members all.0
  bare_found none (members ∷ groups) (suc group) all = bare_found none groups group all.1

  abbrev pub IsFine : Grouped → Type 0
  IsFine (Runs slot group) = IsBare group
  IsFine (Plain row) = ⊤

  pub rows_fine : Fits tables → tables.cells ≡ 0 → (row : Instr) → IsFine (grouped tables row)
  rows_fine fits none (instr.Loop slot group) =
      bare_found none tables.groups group
      (recursion_from_All (FitsGroup tables) tables.groups fits.groups)
  rows_fine fits none row = tt
