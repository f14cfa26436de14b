-- What is named in rows seen inline, and that tables name it.
use Rattle.std.proofs.Common.{◌≡◌, refl, sym, subst, inl, inr, ℕ, zero, suc}
use Rattle.std.proofs.Common.{arith, List, [], ◌∷◌, map, Option, Some, None, Any}
use Rattle.std.specs.Prelude.{slice_get, slice_index_or, flat_map, ⊤}
use Rattle.std.specs.Option.{IsSomeAnd, option_map}
use Rattle.std.proofs.lemmas.Option.{get_or_from_slice_get}
use Rattle.grid_meaning.specs.of_node_form.declared.instructions.DimRow.{DimRow}
use Rattle.grid_meaning.specs.of_node_form.declared.instructions.DimRow.TheVariants as part
use Rattle.grid_meaning.specs.of_node_form.declared.members.Member as number
use Rattle.grid_meaning.specs.of_node_form.declared.members.Member.TheVariants as member
use Rattle.grid_meaning.specs.of_node_form.declared.tables.Tables.{Tables}
use Rattle.grid_meaning.specs.of_node_form.declared.touches.Thing.{Thing}
use Rattle.grid_meaning.specs.of_node_form.declared.touches.Thing.TheVariants as thing
use Rattle.grid_meaning.specs.of_node_form.declared.words.ExprOp.{ExprOp}
use Rattle.grid_meaning.specs.of_node_form.declared.words.ExprOp.TheVariants as word
use Rattle.grid_meaning.specs.of_node_form.Touch.{IsNamedByWord, IsNamedByExpr, IsNamedByGroup, IsNamedByMask}
use Rattle.grid_meaning.specs.of_node_form.Touch.{IsNamedByMember, IsNamedByPart}
use Rattle.nest_meaning.specs.of_row_runs.Straight.{Every}
use Rattle.flat_form.specs.Names.{each_word, group_puts, group_totals}
use Rattle.flat_form.specs.Names.{group_words, member_puts, member_totals, word_reads, word_scalars}
use Rattle.flat_form.specs.Row.{Words, Member, Put, Cell, Acc, OpenIf, Otherwise, CloseIf}
use Rattle.flat_form.specs.Row.{OpenWhile, CloseWhile, OpenRepeat, Until, Part, Span, Star, Copied}
use Rattle.flat_form.specs.Row.{mask_words, member_inlined, member_words, part_inlined, part_words}
use Rattle.flat_form.specs.Row.{words_at}
use Rattle.flat_form.proofs.WordLemmas.{every_append, every_flat, every_more}

module _ (P : Thing → Type 0) where
  abbrev pub WordNamed : ExprOp → Type 0
  WordNamed (word.Scalar scalar) = P (thing.Scalar scalar)
  WordNamed (word.Here array) = P (thing.Array array)
  WordNamed (word.Shifted array shift) = P (thing.Array array)
  WordNamed row = ⊤

  abbrev pub ExprNamed : Words → Type 0
  ExprNamed words = Every WordNamed words

  abbrev pub OwnNamed : Member → Type 0
  OwnNamed (Put array expr mask line) = P (thing.Array array)
  OwnNamed (Acc scalar operator expr mask line) = P (thing.Scalar scalar)
  OwnNamed row = ⊤

  abbrev pub PartNamed : Part → Type 0
  PartNamed (Span low high) = ExprNamed low × ExprNamed high
  PartNamed Star = ⊤
  PartNamed (Copied slot) = P (thing.Slot slot)

  pub record GroupNamed (group : List Member) : Type 0 where
    pub own : Every OwnNamed group
    pub exprs : Every ExprNamed (group_words group)

  -- ---- lists of what is named
  word_scalars_named : (w : ExprOp) → WordNamed w → Every (λ k. P (thing.Scalar k)) (word_scalars w)
  word_scalars_named (word.Scalar scalar) is = (is, tt)
  word_scalars_named (word.Const value) is = tt
  word_scalars_named (word.Here array) is = tt
  word_scalars_named (word.Shifted array shift) is = tt
  word_scalars_named (word.Cell cell) is = tt
  word_scalars_named (word.Coord dimension) is = tt
  word_scalars_named (word.Pair op) is = tt
  word_scalars_named word.Neg is = tt
  word_scalars_named word.Not is = tt
  word_scalars_named word.Abs is = tt

  word_reads_named : (w : ExprOp) → WordNamed w
      → Every (λ read. P (thing.Array read.array)) (word_reads w)
  word_reads_named (word.Here array) is = (is, tt)
  word_reads_named (word.Shifted array shift) is = (is, tt)
  word_reads_named (word.Const value) is = tt
  word_reads_named (word.Scalar scalar) is = tt
  word_reads_named (word.Cell cell) is = tt
  word_reads_named (word.Coord dimension) is = tt
  word_reads_named (word.Pair op) is = tt
  word_reads_named word.Neg is = tt
  word_reads_named word.Not is = tt
  word_reads_named word.Abs is = tt

  each_named : {X : Type 0} (R : X → Type 0) (f : ExprOp → List X)
      → ((w : ExprOp) → WordNamed w → Every R (f w))
      → (exprs : List Words) → Every ExprNamed exprs → Every R (each_word f exprs)
  each_named R f each exprs all =
      every_flat R (λ expr. flat_map f expr) exprs
      (every_more (λ expr named. every_flat R f expr (every_more each expr named)) exprs all)

  pub scalars_named : (exprs : List Words) → Every ExprNamed exprs
      → Every (λ k. P (thing.Scalar k)) (each_word word_scalars exprs)
  scalars_named exprs all =
      each_named (λ k. P (thing.Scalar k)) word_scalars word_scalars_named exprs all

  pub reads_named : (exprs : List Words) → Every ExprNamed exprs
      → Every (λ read. P (thing.Array read.array)) (each_word word_reads exprs)
  reads_named exprs all =
      each_named (λ read. P (thing.Array read.array)) word_reads word_reads_named exprs all

  member_puts_named : (m : Member) → OwnNamed m → Every (λ k. P (thing.Array k)) (member_puts m)
  member_puts_named (Put array expr mask line) is = (is, tt)
  member_puts_named (Cell cell expr mask line) is = tt
  member_puts_named (Acc scalar operator expr mask line) is = tt
  member_puts_named (OpenIf expr mask line) is = tt
  member_puts_named Otherwise is = tt
  member_puts_named CloseIf is = tt
  member_puts_named (OpenWhile expr mask line) is = tt
  member_puts_named CloseWhile is = tt
  member_puts_named (OpenRepeat mask line) is = tt
  member_puts_named (Until expr) is = tt

  member_totals_named : (m : Member) → OwnNamed m
      → Every (λ total. P (thing.Scalar total.scalar)) (member_totals m)
  member_totals_named (Acc scalar operator expr mask line) is = (is, tt)
  member_totals_named (Put array expr mask line) is = tt
  member_totals_named (Cell cell expr mask line) is = tt
  member_totals_named (OpenIf expr mask line) is = tt
  member_totals_named Otherwise is = tt
  member_totals_named CloseIf is = tt
  member_totals_named (OpenWhile expr mask line) is = tt
  member_totals_named CloseWhile is = tt
  member_totals_named (OpenRepeat mask line) is = tt
  member_totals_named (Until expr) is = tt

  pub puts_named : (group : List Member) → Every OwnNamed group
      → Every (λ k. P (thing.Array k)) (group_puts group)
  puts_named group own =
      every_flat (λ k. P (thing.Array k)) member_puts group (every_more member_puts_named group own)

  pub totals_named : (group : List Member) → Every OwnNamed group
      → Every (λ total. P (thing.Scalar total.scalar)) (group_totals group)
  totals_named group own = every_flat (λ total. P (thing.Scalar total.scalar)) member_totals group
      (every_more member_totals_named group own)

  -- ---- what tables name
  behind_any : {X : Type 0} (R : X → Type 0) (x : X) (xs : List X) → Any R xs → Any R (x ∷ xs)
  behind_any R x xs (k, y, inside, is, holds) = (suc k, y, omega (arith, inside), is, holds)

  first_any : {X : Type 0} (R : X → Type 0) (x : X) (xs : List X) → R x → Any R (x ∷ xs)
  first_any R x xs holds = (0, x, omega arith, refl, holds)

  pub every_named : {X : Type 0} (R : Thing → X → Type 0) (S : X → Type 0)
      → ((x : X) → ((it : Thing) → R it x → P it) → S x)
      → (xs : List X) → ((it : Thing) → Any (R it) xs → P it) → Every S xs
  every_named R S one [] all = tt
  every_named R S one (x ∷ xs) all = (
    one x (λ it r. all it (first_any (R it) x xs r)),
    every_named R S one xs
        (λ it r. all it (behind_any (R it) x xs r)),
  )

  word_named : (w : ExprOp) → ((it : Thing) → IsNamedByWord it w → P it) → WordNamed w
  word_named (word.Scalar scalar) all = all (thing.Scalar scalar) refl
  word_named (word.Here array) all = all (thing.Array array) refl
  word_named (word.Shifted array shift) all = all (thing.Array array) refl
  word_named (word.Const value) all = tt
  word_named (word.Cell cell) all = tt
  word_named (word.Coord dimension) all = tt
  word_named (word.Pair op) all = tt
  word_named word.Neg all = tt
  word_named word.Not all = tt
  word_named word.Abs all = tt

  module _ (tables : Tables) where
    at_none : {X : Type 0} (xs : List X) (k : ℕ) (d : X) → slice_get xs k ≡ None
        → slice_index_or xs k d ≡ d
    at_none [] k d e = refl
    at_none (x ∷ xs) zero d e = cc
    at_none (x ∷ xs) (suc k) d e = at_none xs k d e

    expr_by : (expr : ℕ) (o : Option Words) → slice_get tables.exprs expr ≡ o
        → ((it : Thing) → IsSomeAnd o (Any (IsNamedByWord it)) → P it)
        → ExprNamed (words_at tables expr)
    expr_by expr None e all = subst ExprNamed (sym (at_none tables.exprs expr [] e)) tt
    expr_by expr (Some words) e all =
        subst ExprNamed (sym (get_or_from_slice_get tables.exprs expr words [] e))
        (every_named IsNamedByWord WordNamed word_named words all)

    pub expr_named : (expr : ℕ) → ((it : Thing) → IsNamedByExpr tables it expr → P it)
        → ExprNamed (words_at tables expr)
    expr_named expr all = expr_by expr (slice_get tables.exprs expr) refl all

    mask_named : (mask : Option ℕ) → ((it : Thing) → IsNamedByMask tables it mask → P it)
        → Every ExprNamed (mask_words (option_map (words_at tables) mask))
    mask_named None all = tt
    mask_named (Some mask) all = (expr_named mask all, tt)

    own_named : (m : number.Member) → ((it : Thing) → IsNamedByMember tables it m → P it)
        → OwnNamed (member_inlined tables m)
    own_named (member.Put array expr mask line) all = all (thing.Array array) (inl refl)
    own_named (member.Cell cell expr mask line) all = tt
    own_named (member.Acc scalar operator expr mask line) all = all (thing.Scalar scalar) (inl refl)
    own_named (member.OpenIf expr mask line) all = tt
    own_named member.Otherwise all = tt
    own_named member.CloseIf all = tt
    own_named (member.OpenWhile expr mask line) all = tt
    own_named member.CloseWhile all = tt
    own_named (member.OpenRepeat mask line) all = tt
    own_named (member.Until expr) all = tt

    exprs_named : (m : number.Member) → ((it : Thing) → IsNamedByMember tables it m → P it)
        → Every ExprNamed (member_words (member_inlined tables m))
    exprs_named (member.Put array expr mask line) all = (
      expr_named expr (λ it n. all it (inr (inl n))),
      mask_named mask
          (λ it n. all it (inr (inr n))),
    )
    exprs_named (member.Cell cell expr mask line) all =
        (expr_named expr (λ it n. all it (inl n)), mask_named mask (λ it n. all it (inr n)))
    exprs_named (member.Acc scalar operator expr mask line) all = (
      expr_named expr (λ it n. all it (inr (inl n))),
      mask_named mask
          (λ it n. all it (inr (inr n))),
    )
    exprs_named (member.OpenIf expr mask line) all =
        (expr_named expr (λ it n. all it (inl n)), mask_named mask (λ it n. all it (inr n)))
    exprs_named member.Otherwise all = tt
    exprs_named member.CloseIf all = tt
    exprs_named (member.OpenWhile expr mask line) all =
        (expr_named expr (λ it n. all it (inl n)), mask_named mask (λ it n. all it (inr n)))
    exprs_named member.CloseWhile all = tt
    exprs_named (member.OpenRepeat mask line) all = mask_named mask all
    exprs_named (member.Until expr) all = (expr_named expr all, tt)

    members_own : (members : List number.Member)
        → Every (λ m. OwnNamed (member_inlined tables m)) members
        → Every OwnNamed (map (member_inlined tables) members)
    members_own [] all = tt
    members_own (m ∷ members) all = (all.0, members_own members all.1)

    members_exprs : (members : List number.Member)
        → Every (λ m. Every ExprNamed (member_words (member_inlined tables m))) members
        → Every ExprNamed (group_words (map (member_inlined tables) members))
    members_exprs [] all = tt
    members_exprs (m ∷ members) all = every_append ExprNamed
        (member_words (member_inlined tables m))
        (group_words (map (member_inlined tables) members)) all.0 (members_exprs members all.1)

    pub members_named : (members : List number.Member)
        → ((it : Thing) → Any (IsNamedByMember tables it) members → P it)
        → GroupNamed (map (member_inlined tables) members)
    members_named members all = record {
      own = members_own members (every_named (IsNamedByMember tables)
          (λ m. OwnNamed (member_inlined tables m)) own_named members all);
      exprs = members_exprs members (every_named (IsNamedByMember tables)
          (λ m. Every ExprNamed (member_words (member_inlined tables m))) exprs_named members all);
    }

    group_by : (group : ℕ) (o : Option (List number.Member)) → slice_get tables.groups group ≡ o
        → ((it : Thing) → IsSomeAnd o (Any (IsNamedByMember tables it)) → P it)
        → GroupNamed (map (member_inlined tables) (slice_index_or tables.groups group []))
    group_by group None e all =
        subst (λ g. GroupNamed (map (member_inlined tables) g))
        (sym (at_none tables.groups group [] e)) (record { own = tt; exprs = tt })
    group_by group (Some members) e all =
        subst (λ g. GroupNamed (map (member_inlined tables) g))
        (sym (get_or_from_slice_get tables.groups group members [] e)) (members_named members all)

    pub group_named : (group : ℕ) → ((it : Thing) → IsNamedByGroup tables it group → P it)
        → GroupNamed (map (member_inlined tables) (slice_index_or tables.groups group []))
    group_named group all = group_by group (slice_get tables.groups group) refl all

    part_named : (p : DimRow) → ((it : Thing) → IsNamedByPart tables it p → P it)
        → PartNamed (part_inlined tables p)
    part_named (part.Span low high) all =
        (expr_named low (λ it n. all it (inl n)), expr_named high (λ it n. all it (inr n)))
    part_named part.Star all = tt
    part_named (part.Copied slot) all = all (thing.Slot slot) refl

    parts_map : (parts : List DimRow) → Every (λ p. PartNamed (part_inlined tables p)) parts
        → Every PartNamed (map (part_inlined tables) parts)
    parts_map [] all = tt
    parts_map (p ∷ parts) all = (all.0, parts_map parts all.1)

    pub parts_named : (parts : List DimRow) → ((it : Thing) → Any (IsNamedByPart tables it) parts
        → P it) → Every PartNamed (map (part_inlined tables) parts)
    parts_named parts all = parts_map parts (every_named (IsNamedByPart tables)
        (λ p. PartNamed (part_inlined tables p)) part_named parts all)

  part_words_named : (p : Part) → PartNamed p → Every ExprNamed (part_words p)
  part_words_named (Span low high) is = (is.0, (is.1, tt))
  part_words_named Star is = tt
  part_words_named (Copied slot) is = tt

  pub parts_exprs : (parts : List Part) → Every PartNamed parts
      → Every ExprNamed (flat_map part_words parts)
  parts_exprs parts all =
      every_flat ExprNamed part_words parts (every_more part_words_named parts all)
