-- Rows that are pushed part by part.
use Rattle.std.proofs.Common.{◌≡◌, ℕ, suc, ◌+◌, List, [], ◌∷◌, ◌++◌, length, map, get_or, refl, sym}
use Rattle.std.proofs.Common.{ap, ◌∙◌, arith, append_assoc, append-nil, length-append}
use Rattle.std.specs.Prelude.{flat_map}
use Rattle.zpl_lowering.specs.of_node_form.declared.members.Member as number
use Rattle.zpl_lowering.specs.of_node_form.declared.instructions.DimRow.{DimRow}
use Rattle.zpl_lowering.specs.of_node_form.declared.instructions.Instr.{Instr}
use Rattle.zpl_lowering.specs.of_node_form.declared.instructions.Instr.TheVariants as instr
use Rattle.zpl_lowering.specs.of_flat_form.Row as row
use Rattle.zpl_lowering.specs.of_flat_form.Row.{Row, Words, Member, all_coded, coded, group_coded, member_coded}
use Rattle.zpl_lowering.specs.of_flat_form.Row.{member_words, part_coded, part_words, row_groups, row_texts}
use Rattle.zpl_lowering.specs.of_flat_form.Row.{row_words}
use Rattle.lower_draft.specs.declared.rows.FlatPart.{FlatPart}
use Rattle.lower_draft.specs.Inline.{part_of}
use Rattle.lower_draft.proofs.LaidLemmas.{map_length}
use Rattle.lower_draft.specs.Drafted.{Drafted, pushed, with_code, with_exprs, with_group, with_text}

pub more_exprs : (draft : Drafted) (xs ys : List Words) →
    with_exprs (with_exprs draft xs) ys ≡ with_exprs draft (xs ++ ys)
more_exprs draft xs ys =
    ap (λ (exprs : List Words). record draft { tables = record draft.tables { exprs = exprs } })
    (append_assoc draft.tables.exprs xs ys)

pub no_exprs : (draft : Drafted) → draft ≡ with_exprs draft []
no_exprs draft =
    ap (λ (exprs : List Words). record draft { tables = record draft.tables { exprs = exprs } })
    (sym (append-nil draft.tables.exprs))

-- ---- parts that have their numbers, before those of a list

module _ {X Y : Type 0} (words_of : X → List Words) (coding : ℕ → X → Y) where
  abbrev pub coded_behind : List Y → Drafted → List X → List Y
  coded_behind before draft xs =
      before ++ all_coded words_of coding (length draft.tables.exprs) xs

  abbrev pub with_all : Drafted → List X → Drafted
  with_all draft xs = with_exprs draft (flat_map words_of xs)

  one_coded : (before : List Y) (draft : Drafted) (one : X) (rest : List X) →
      coded_behind (before ++ coding (length draft.tables.exprs) one ∷ [])
      (with_exprs draft (words_of one)) rest
      ≡ coded_behind before draft (one ∷ rest)
  one_coded before draft one rest =
      append_assoc before (coding (length draft.tables.exprs) one ∷ [])
      (all_coded words_of coding (length (draft.tables.exprs ++ words_of one)) rest)
      ∙ ap (λ (n : ℕ). before
      ++ (coding (length draft.tables.exprs) one ∷ all_coded words_of coding n rest))
      (length-append draft.tables.exprs (words_of one))

  -- one more
  pub next_coded : (draft middle : Drafted) (before goal : List Y) (one : X) (rest : List X)
      (row : Y) → middle ≡ with_exprs draft (words_of one) →
      row ≡ coding (length draft.tables.exprs) one →
      coded_behind before draft (one ∷ rest) ≡ goal →
      coded_behind (before ++ row ∷ []) middle rest ≡ goal
  next_coded draft middle before goal one rest row middle-is row-is left =
      ap (λ (d : Drafted). coded_behind (before ++ row ∷ []) d rest) middle-is
      ∙ ap (λ (y : Y). coded_behind (before ++ y ∷ []) (with_exprs draft (words_of one)) rest)
      row-is
      ∙ one_coded before draft one rest ∙ left

  pub next_with : (draft middle goal : Drafted) (one : X) (rest : List X) →
      middle ≡ with_exprs draft (words_of one) → with_all draft (one ∷ rest) ≡ goal →
      with_all middle rest ≡ goal
  next_with draft middle goal one rest middle-is left =
      ap (λ (d : Drafted). with_all d rest) middle-is
      ∙ more_exprs draft (words_of one) (flat_map words_of rest) ∙ left

  -- and where none is left
  pub end_coded : (draft : Drafted) (before goal : List Y) (xs : List X) → xs ≡ [] →
      coded_behind before draft xs ≡ goal → before ≡ goal
  end_coded draft before goal xs none left =
      sym (append-nil before)
      ∙ sym (ap (λ (ys : List X). coded_behind before draft ys) none) ∙ left

  pub end_with : (draft goal : Drafted) (xs : List X) → xs ≡ [] → with_all draft xs ≡ goal →
      draft ≡ goal
  end_with draft goal xs none left =
      no_exprs draft ∙ sym (ap (λ (ys : List X). with_all draft ys) none) ∙ left

pub nothing_left : {X : Type 0} (xs : List X) → length xs ≡ 0 → xs ≡ []
nothing_left [] none = refl
nothing_left (x ∷ xs) none = absurd (omega arith)

pub coded_length : {X Y : Type 0} (words_of : X → List Words) (coding : ℕ → X → Y) (n : ℕ)
    (xs : List X) → length (all_coded words_of coding n xs) ≡ length xs
coded_length words_of coding n [] = refl
coded_length words_of coding n (x ∷ xs) =
    ap suc (coded_length words_of coding (n + length (words_of x)) xs)

pub three_long : (rows : List DimRow) (n : ℕ) (parts given : List FlatPart) →
    rows ≡ all_coded part_words part_coded n (map part_of parts) → parts ≡ given →
    length given ≡ 3 → length rows ≡ 3
three_long rows n parts given rows-is parts-is long =
    ap length rows-is ∙ coded_length part_words part_coded n (map part_of parts)
    ∙ map_length part_of parts ∙ ap length parts-is ∙ long

-- a list of three by its places
pub three_of : {Y : Type 0} (ys : List Y) (x y z : Y) → length ys ≡ 3 →
    get_or ys 0 x ∷ get_or ys 1 y ∷ get_or ys 2 z ∷ [] ≡ ys
three_of [] x y z long = absurd (omega (arith, long))
three_of (a ∷ []) x y z long = absurd (omega (arith, long))
three_of (a ∷ b ∷ []) x y z long = absurd (omega (arith, long))
three_of (a ∷ b ∷ c ∷ []) x y z long = refl
three_of (a ∷ b ∷ c ∷ d ∷ ys) x y z long = absurd (omega (arith, long))

-- ---- rows

-- a row by its numbers, behind its expressions
pub built : (draft behind new : Drafted) (one : Row) (coding : Instr) →
    row_groups (length draft.tables.exprs) one ≡ [] → row_texts one ≡ [] →
    behind ≡ with_exprs draft (row_words one) → coding ≡ coded draft.tables one →
    new ≡ with_code behind coding → new ≡ pushed draft one
built draft behind new one coding groups texts behind-is coding-is new-is =
    new-is
    ∙ ap (λ (d : Drafted). with_code d coding) behind-is
    ∙ ap (with_code (with_exprs draft (row_words one))) coding-is
    ∙ ap (λ (gs : List (List number.Member)). record draft {
      tables = record draft.tables {
        exprs = draft.tables.exprs ++ row_words one;
        groups = gs;
        code = draft.tables.code ++ coded draft.tables one ∷ [];
      };
    }) (sym (ap (λ (gs : List (List number.Member)). draft.tables.groups ++ gs) groups ∙ append-nil
    draft.tables.groups))
    ∙ ap (λ (ts : List (List ℕ)). record draft {
      tables = record draft.tables {
        exprs = draft.tables.exprs ++ row_words one;
        groups = draft.tables.groups ++ row_groups (length draft.tables.exprs) one;
        texts = ts;
        code = draft.tables.code ++ coded draft.tables one ∷ [];
      };
    }) (sym (ap (λ (ts : List (List ℕ)). draft.tables.texts ++ ts) texts ∙ append-nil
    draft.tables.texts))

pub plain_built : (draft new : Drafted) (one : Instr) → new ≡ with_code draft one →
    new ≡ pushed draft (row.Plain one)
plain_built draft new one new-is =
    built draft draft new (row.Plain one) one refl refl (no_exprs draft) refl new-is

pub text_built : (draft behind new : Drafted) (text : List ℕ) (at : ℕ) →
    behind ≡ with_text draft text → at ≡ length draft.tables.texts →
    new ≡ with_code behind (instr.Print at) → new ≡ pushed draft (row.Print text)
text_built draft behind new text at behind-is at-is new-is =
    new-is
    ∙ ap (λ (d : Drafted). with_code d (instr.Print at)) behind-is
    ∙ ap (λ (n : ℕ). with_code (with_text draft text) (instr.Print n)) at-is
    ∙ ap (λ (d : Drafted). with_code (with_text d text) (instr.Print (length draft.tables.texts)))
    (no_exprs draft)
    ∙ ap (λ (gs : List (List number.Member)). record draft {
      tables = record draft.tables {
        exprs = draft.tables.exprs ++ [];
        groups = gs;
        texts = draft.tables.texts ++ text ∷ [];
        code = draft.tables.code ++ instr.Print (length draft.tables.texts) ∷ [];
      };
    }) (sym (append-nil draft.tables.groups))

pub loop_built : (draft middle behind new : Drafted) (slot : ℕ) (group : List Member)
    (members : List number.Member) (at : ℕ) →
    members ≡ group_coded (length draft.tables.exprs) group →
    middle ≡ with_exprs draft (flat_map member_words group) → behind ≡ with_group middle members →
    at ≡ length middle.tables.groups → new ≡ with_code behind (instr.Loop slot at) →
    new ≡ pushed draft (row.Loop slot group)
loop_built draft middle behind new slot group members at members-is middle-is behind-is at-is
    new-is =
    new-is
    ∙ ap (λ (d : Drafted). with_code d (instr.Loop slot at)) behind-is
    ∙ ap (λ (n : ℕ). with_code (with_group middle members) (instr.Loop slot n)) at-is
    ∙ ap (λ (d : Drafted). with_code (with_group d members) (instr.Loop slot (length
    d.tables.groups))) middle-is
    ∙ ap (λ (ms : List number.Member). with_code (with_group (with_exprs draft (flat_map
    member_words group)) ms)
    (instr.Loop slot (length draft.tables.groups))) members-is
    ∙ ap (λ (ts : List (List ℕ)). record draft {
      tables = record draft.tables {
        exprs = draft.tables.exprs ++ flat_map member_words group;
        groups = draft.tables.groups ++ group_coded (length draft.tables.exprs) group ∷ [];
        texts = ts;
        code = draft.tables.code ++ instr.Loop slot (length draft.tables.groups) ∷ [];
      };
    }) (sym (append-nil draft.tables.texts))

-- ---- dimensions

pub span_added : (draft middle new : Drafted) (low high : Words) →
    middle ≡ with_exprs draft (low ∷ []) → new ≡ with_exprs middle (high ∷ []) →
    new ≡ with_exprs draft (low ∷ high ∷ [])
span_added draft middle new low high middle-is new-is =
    new-is ∙ ap (λ (d : Drafted). with_exprs d (high ∷ [])) middle-is
    ∙ more_exprs draft (low ∷ []) (high ∷ [])

pub one_more_expr : (draft middle : Drafted) (words : Words) (at : ℕ) →
    middle ≡ with_exprs draft (words ∷ []) → at ≡ length middle.tables.exprs →
    at ≡ length draft.tables.exprs + 1
one_more_expr draft middle words at middle-is at-is =
    at-is ∙ ap (λ (d : Drafted). length d.tables.exprs) middle-is
    ∙ length-append draft.tables.exprs (words ∷ [])
