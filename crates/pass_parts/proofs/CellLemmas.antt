-- What becomes of words, members and groups where arrays become cells.
use Rattle.std.proofs.Common.{◌≡◌, refl, sym, ap, ◌∙◌, ℕ, zero, suc, ◌==◌, Bool, true, false}
use Rattle.std.proofs.Common.{List, [], ◌∷◌, ◌++◌, map}
use Rattle.std.specs.Prelude.{◌||◌, flat_map, slice_get, Option, Some, None}
use Rattle.std.specs.List.{list_any}
use Rattle.std.proofs.lemmas.Bool.Decides.{Decides-eqb}
use Rattle.std.proofs.lemmas.List.{map-append}
use Rattle.std.proofs.lemmas.List.Folds.{list_any-append}
use Rattle.node_form.specs.declared.words.ExprOp.{ExprOp}
use Rattle.node_form.specs.declared.words.ExprOp.TheVariants as word
use Rattle.node_form.specs.declared.members.Member.{Member}
use Rattle.node_form.specs.declared.members.Member.TheVariants as member
use Rattle.node_form.specs.declared.tables.Tables.{Tables}
use Rattle.node_form.specs.Group.{depth_behind}
use Rattle.code_parts.specs.Uses.{accumulated_by, arrays_in, exprs_of, is_turning, member_words}
use Rattle.code_parts.specs.Uses.{members_of, named_by, put_by, rows_or_none, scalars_in, shifted_in}
use Rattle.code_parts.specs.Uses.{words_of}
use Rattle.pass_sizes.specs.of_fuse_contract.Contracting.{cell_among, contracted, contracted_arrays, here_or_cell}
use Rattle.pass_sizes.specs.of_fuse_contract.Contracting.{is_among, is_named_in, member_contracted, put_or_cell}
use Rattle.pass_sizes.specs.of_fuse_contract.Contracting.{word_contracted}

-- ---- lists by their numbers, and lists of lists
mapped_rows : {A B : Type 0} (f : A → B) (lists : List (List A)) (k : ℕ)
    → rows_or_none (slice_get (map (map f) lists) k) ≡ map f (rows_or_none (slice_get lists k))
mapped_rows f [] k = refl
mapped_rows f (list ∷ lists) zero = refl
mapped_rows f (list ∷ lists) (suc k) = mapped_rows f lists k

flat_mapped : {A B C : Type 0} (f : B → C) (g : A → List C) (h : A → List B)
    → ((x : A) → g x ≡ map f (h x)) → (xs : List A) → flat_map g xs ≡ map f (flat_map h xs)
flat_mapped f g h same [] = refl
flat_mapped f g h same (x ∷ xs) =
    ap (λ l. l ++ flat_map g xs) (same x)
    ∙ (ap (λ l. map f (h x) ++ l) (flat_mapped f g h same xs)
    ∙ sym (map-append f (h x) (flat_map h xs)))

flat_of_map : {A B C : Type 0} (f : A → B) (g : B → List C) (h : A → List C)
    → ((x : A) → g (f x) ≡ h x) → (xs : List A) → flat_map g (map f xs) ≡ flat_map h xs
flat_of_map f g h same [] = refl
flat_of_map f g h same (x ∷ xs) =
    ap (λ l. l ++ flat_map g (map f xs)) (same x)
    ∙ ap (λ l. h x ++ l) (flat_of_map f g h same xs)

module _ (tables : Tables) where
  abbrev pub cell_of : ℕ → Option ℕ
  cell_of = cell_among tables.cells (contracted_arrays tables)

  abbrev pub new_word : ExprOp → ExprOp
  new_word = word_contracted cell_of

  abbrev pub new_member : Member → Member
  new_member = member_contracted cell_of

  pub words_new : (expr : ℕ)
      → words_of (contracted tables) expr ≡ map new_word (words_of tables expr)
  words_new expr = mapped_rows new_word tables.exprs expr

  pub members_new : (group : ℕ)
      → members_of (contracted tables) group ≡ map new_member (members_of tables group)
  members_new group = mapped_rows new_member tables.groups group

  -- ---- members
  same_exprs : (one : Member) → exprs_of (new_member one) ≡ exprs_of one
  same_exprs (member.Put array expr mask line) = by (cell_of array)
    where
      by : (cell : Option ℕ)
          → exprs_of (put_or_cell cell_of array expr mask line cell)
          ≡ exprs_of (member.Put array expr mask line)
      by None = refl
      by (Some cell) = refl
  same_exprs one = refl

  pub member_words_new : (one : Member)
      → member_words (contracted tables) (new_member one) ≡ map new_word (member_words tables one)
  member_words_new one =
      ap (flat_map (words_of (contracted tables))) (same_exprs one)
      ∙ flat_mapped new_word (words_of (contracted tables)) (words_of tables) words_new
      (exprs_of one)

  pub group_words_new : (group : List Member)
      → flat_map (member_words (contracted tables)) (map new_member group)
      ≡ map new_word (flat_map (member_words tables) group)
  group_words_new group =
      flat_of_map new_member (member_words (contracted tables))
      (λ one. map new_word (member_words tables one)) member_words_new group
      ∙ flat_mapped new_word (λ one. map new_word (member_words tables one)) (member_words tables)
      (λ one. refl) group

  same_accumulated : (one : Member) → accumulated_by (new_member one) ≡ accumulated_by one
  same_accumulated (member.Put array expr mask line) = by (cell_of array)
    where
      by : (cell : Option ℕ) → accumulated_by (put_or_cell cell_of array expr mask line cell) ≡ []
      by None = refl
      by (Some cell) = refl
  same_accumulated one = refl

  pub accumulated_new : (group : List Member)
      → flat_map accumulated_by (map new_member group) ≡ flat_map accumulated_by group
  accumulated_new group = flat_of_map new_member accumulated_by accumulated_by same_accumulated group

  same_turning : (one : Member) → is_turning (new_member one) ≡ is_turning one
  same_turning (member.Put array expr mask line) = by (cell_of array)
    where
      by : (cell : Option ℕ) → is_turning (put_or_cell cell_of array expr mask line cell) ≡ false
      by None = refl
      by (Some cell) = refl
  same_turning one = refl

  pub turning_new : (group : List Member)
      → list_any is_turning (map new_member group) ≡ list_any is_turning group
  turning_new [] = refl
  turning_new (one ∷ group) =
      ap (λ b. b || list_any is_turning (map new_member group)) (same_turning one)
      ∙ ap (λ b. is_turning one || b) (turning_new group)

  pub depth_new : (depth : ℕ) (one : Member)
      → depth_behind depth (new_member one) ≡ depth_behind depth one
  depth_new depth (member.Put array expr mask line) = by (cell_of array)
    where
      by : (cell : Option ℕ)
          → depth_behind depth (put_or_cell cell_of array expr mask line cell)
          ≡ depth_behind depth (member.Put array expr mask line)
      by None = refl
      by (Some cell) = refl
  depth_new depth one = refl

  -- ---- words
  same_shifted : (one : ExprOp) → shifted_in (new_word one) ≡ shifted_in one
  same_shifted (word.Here array) = by (cell_of array)
    where
      by : (cell : Option ℕ) → shifted_in (here_or_cell cell_of array cell) ≡ []
      by None = refl
      by (Some cell) = refl
  same_shifted one = refl

  same_scalars : (one : ExprOp) → scalars_in (new_word one) ≡ scalars_in one
  same_scalars (word.Here array) = by (cell_of array)
    where
      by : (cell : Option ℕ) → scalars_in (here_or_cell cell_of array cell) ≡ []
      by None = refl
      by (Some cell) = refl
  same_scalars one = refl

  pub shifted_new : (group : List Member)
      → flat_map shifted_in (flat_map (member_words (contracted tables)) (map new_member group))
      ≡ flat_map shifted_in (flat_map (member_words tables) group)
  shifted_new group =
      ap (flat_map shifted_in) (group_words_new group)
      ∙ flat_of_map new_word shifted_in shifted_in same_shifted
      (flat_map (member_words tables) group)

  pub scalars_new : (group : List Member)
      → flat_map scalars_in (flat_map (member_words (contracted tables)) (map new_member group))
      ≡ flat_map scalars_in (flat_map (member_words tables) group)
  scalars_new group =
      ap (flat_map scalars_in) (group_words_new group)
      ∙ flat_of_map new_word scalars_in scalars_in same_scalars
      (flat_map (member_words tables) group)

  -- ---- an array that stays one is named as before
  module _ (array : ℕ) (kept : cell_of array ≡ None) where
    other_array : (other cell : ℕ) → cell_of other ≡ Some cell → (other == array) ≡ false
    other_array other cell is = by (other == array) refl
      where
        none : None ≡ Some cell → ⊥
        none e = cc

        by : (b : Bool) → (other == array) ≡ b → b ≡ false
        by true same =
            absurd (none (sym kept
            ∙ (ap cell_of (sym ((Decides-eqb other array).0 same)) ∙ is)))
        by false same = refl

    pub word_names : (one : ExprOp)
        → is_among array (arrays_in (new_word one)) ≡ is_among array (arrays_in one)
    word_names (word.Here other) = by (cell_of other) refl
      where
        by : (cell : Option ℕ) → cell_of other ≡ cell
            → is_among array (arrays_in (here_or_cell cell_of other cell)) ≡ is_among array (other ∷ [])
        by None is = refl
        by (Some cell) is = ap (λ b. b || false) (sym (other_array other cell is))
    word_names one = refl

    pub words_name : (words : List ExprOp)
        → is_among array (flat_map arrays_in (map new_word words))
        ≡ is_among array (flat_map arrays_in words)
    words_name [] = refl
    words_name (one ∷ words) =
        list_any-append (λ other. other == array) (arrays_in (new_word one))
        (flat_map arrays_in (map new_word words))
        ∙ (ap (λ b. b || is_among array (flat_map arrays_in (map new_word words))) (word_names one)
        ∙ (ap (λ b. is_among array (arrays_in one) || b) (words_name words)
        ∙ sym (list_any-append (λ other. other == array) (arrays_in one)
        (flat_map arrays_in words))))

    put_names : (one : Member)
        → is_among array (put_by (new_member one)) ≡ is_among array (put_by one)
    put_names (member.Put other expr mask line) = by (cell_of other) refl
      where
        by : (cell : Option ℕ) → cell_of other ≡ cell
            → is_among array (put_by (put_or_cell cell_of other expr mask line cell))
            ≡ is_among array (other ∷ [])
        by None is = refl
        by (Some cell) is = ap (λ b. b || false) (sym (other_array other cell is))
    put_names one = refl

    pub member_names : (one : Member)
        → is_among array (named_by (contracted tables) (new_member one))
        ≡ is_named_in tables array one
    member_names one =
        list_any-append (λ other. other == array) (put_by (new_member one))
        (flat_map arrays_in (member_words (contracted tables) (new_member one)))
        ∙ (ap (λ b. b || is_among array
        (flat_map arrays_in (member_words (contracted tables) (new_member one)))) (put_names one)
        ∙ (ap (λ b. is_among array (put_by one) || b)
        (ap (λ words. is_among array (flat_map arrays_in words)) (member_words_new one)
        ∙ words_name (member_words tables one))
        ∙ sym (list_any-append (λ other. other == array) (put_by one)
        (flat_map arrays_in (member_words tables one)))))

    pub group_names : (group : List Member)
        → is_among array (flat_map (named_by (contracted tables)) (map new_member group))
        ≡ list_any (is_named_in tables array) group
    group_names [] = refl
    group_names (one ∷ group) =
        list_any-append (λ other. other == array) (named_by (contracted tables) (new_member one))
        (flat_map (named_by (contracted tables)) (map new_member group))
        ∙ (ap (λ b. b || is_among array
        (flat_map (named_by (contracted tables)) (map new_member group))) (member_names one)
        ∙ ap (λ b. is_named_in tables array one || b) (group_names group))
