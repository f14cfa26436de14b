-- What a loop demands, by its members seen inline.
use Rattle.std.proofs.Common.{◌≡◌, ◌⊎◌, inl, inr, ℕ, zero, suc, ◌+◌, Bool, true, false, ◌&&◌, ◌||◌, ℤ, pos, refl, sym, ap, ◌∙◌, subst, true≢false}
use Rattle.std.proofs.Common.{List, [], ◌∷◌, ◌++◌, map, append_assoc}
use Rattle.std.specs.Prelude.{Option, Some, None, flat_map, not, slice_get, slice_index_or}
use Rattle.std.specs.List.{list_all}
use Rattle.zpl_lowering.specs.of_node_form.Value.{unmoved}
use Rattle.zpl_lowering.specs.of_node_form.declared.words.ExprOp.{ExprOp}
use Rattle.zpl_lowering.specs.of_node_form.declared.words.ExprOp.TheVariants as word
use Rattle.zpl_lowering.specs.of_node_form.declared.members.Member as number
use Rattle.zpl_lowering.specs.of_node_form.declared.members.Member.TheVariants as member
use Rattle.zpl_lowering.specs.of_node_form.declared.tables.Tables.{Tables}
use Rattle.code_parts.specs.Uses.{member_words, members_of, put_by, rows_or_none, words_of}
use Rattle.code_parts.proofs.ListLemmas.{In}
use Rattle.zpl_lowering.specs.of_flat_form.Row.{Words, member_inlined, words_at}
use Rattle.node_check.specs.Demand.{has_place, places_in, places_of}
use Rattle.sound_lowering.specs.Goes.{HasMask, HasMember, HasMembers, HasWord, HasWords}

both_true : (a b : Bool) → a ≡ true → b ≡ true → (a && b) ≡ true
both_true true b first rest = rest
both_true false b first rest = absurd (true≢false (sym first))

pub found : {X : Type 0} (lists : List (List X)) (k : ℕ)
    → rows_or_none (slice_get lists k) ≡ slice_index_or lists k []
found [] k = refl
found (one ∷ lists) zero = refl
found (one ∷ lists) (suc k) = found lists k

all_both : {X : Type 0} (test : X → Bool) (xs ys : List X) → list_all test xs ≡ true
    → list_all test ys ≡ true → list_all test (xs ++ ys) ≡ true
all_both test [] ys first rest = rest
all_both test (x ∷ xs) ys first rest =
    by (test x) (λ is. all_both test xs ys is rest) first
  where
    by : (b : Bool) → (list_all test xs ≡ true → list_all test (xs ++ ys) ≡ true)
        → (b && list_all test xs) ≡ true → (b && list_all test (xs ++ ys)) ≡ true
    by true later is = later is
    by false later is = absurd (true≢false (sym is))

each_place : (xs ys : Words)
    → flat_map places_in (xs ++ ys) ≡ flat_map places_in xs ++ flat_map places_in ys
each_place [] ys = refl
each_place (x ∷ xs) ys =
    ap (λ rest. places_in x ++ rest) (each_place xs ys)
    ∙ sym (append_assoc (places_in x) (flat_map places_in xs) (flat_map places_in ys))

-- an expression, of which each word with a shift passes where its array is there
module _ (Here : ℕ → List ℤ → Type 0) (test : ℕ × List ℤ → Bool) where
  abbrev pub WordPasses : ExprOp → Type 0
  WordPasses (word.Shifted array shift) = Here array shift → test (array, shift) ≡ true
  WordPasses one = Unit {0}

  abbrev pub WordsPass : Words → Type 0
  WordsPass [] = Unit {0}
  WordsPass (one ∷ words) = WordPasses one × WordsPass words

-- a test of places that passes wherever an array is there
module _ (code : Tables) (Here : ℕ → List ℤ → Type 0) (test : ℕ × List ℤ → Bool)
    (unmoved_pass : (array : ℕ) → Here array unmoved → test (array, unmoved) ≡ true) where
  words_pass : (words : Words) → WordsPass Here test words → HasWords Here words
      → list_all test (flat_map places_in words) ≡ true
  words_pass [] passes has = refl
  words_pass (word.Here array ∷ words) passes has =
      both_true (test (array, unmoved)) (list_all test (flat_map places_in words))
      (unmoved_pass array has.0) (words_pass words passes.1 has.1)
  words_pass (word.Shifted array shift ∷ words) passes has =
      both_true (test (array, shift)) (list_all test (flat_map places_in words))
      (passes.0 has.0) (words_pass words passes.1 has.1)
  words_pass (one ∷ words) passes has = words_pass words passes.1 has.1

  module _ (pass : (expr : ℕ) → WordsPass Here test (words_at code expr)) where
    expr_passes : (expr : ℕ) → HasWords Here (words_at code expr)
        → list_all test (flat_map places_in (words_of code expr)) ≡ true
    expr_passes expr has =
        subst (λ words. list_all test (flat_map places_in words) ≡ true)
        (sym (found code.exprs expr)) (words_pass (words_at code expr) (pass expr) has)

    one_expr : (expr : ℕ) → HasWords Here (words_at code expr)
        → list_all test (flat_map places_in (flat_map (words_of code) (expr ∷ []))) ≡ true
    one_expr expr has =
        subst (λ words. list_all test (flat_map places_in words) ≡ true)
        (sym (none_behind (words_of code expr))) (expr_passes expr has)
      where
        none_behind : (words : Words) → words ++ [] ≡ words
        none_behind [] = refl
        none_behind (one ∷ words) = ap (λ rest. one ∷ rest) (none_behind words)

    each_both : (xs ys : Words) → list_all test (flat_map places_in xs) ≡ true
        → list_all test (flat_map places_in ys) ≡ true
        → list_all test (flat_map places_in (xs ++ ys)) ≡ true
    each_both xs ys first rest =
        subst (λ places. list_all test places ≡ true) (sym (each_place xs ys))
        (all_both test (flat_map places_in xs) (flat_map places_in ys) first rest)

    two_exprs : (expr mask : ℕ) → HasWords Here (words_at code expr)
        → HasWords Here (words_at code mask)
        → list_all test (flat_map places_in (flat_map (words_of code) (expr ∷ mask ∷ []))) ≡ true
    two_exprs expr mask has also =
        each_both (words_of code expr) (flat_map (words_of code) (mask ∷ [])) (expr_passes expr has)
        (one_expr mask also)

    member_passes : (one : number.Member) → HasMember Here (member_inlined code one)
        → list_all test (places_of code one) ≡ true
    member_passes (member.Put array expr (Some mask) line) has =
        both_true (test (array, unmoved))
        (list_all test (flat_map places_in (flat_map (words_of code) (expr ∷ mask ∷ []))))
        (unmoved_pass array has.0) (two_exprs expr mask has.1 has.2)
    member_passes (member.Put array expr None line) has =
        both_true (test (array, unmoved))
        (list_all test (flat_map places_in (flat_map (words_of code) (expr ∷ []))))
        (unmoved_pass array has.0) (one_expr expr has.1)
    member_passes (member.Cell cell expr (Some mask) line) has = two_exprs expr mask has.0 has.1
    member_passes (member.Cell cell expr None line) has = one_expr expr has.0
    member_passes (member.Acc scalar operator expr (Some mask) line) has =
        two_exprs expr mask has.0 has.1
    member_passes (member.Acc scalar operator expr None line) has = one_expr expr has.0
    member_passes (member.OpenIf expr (Some mask) line) has = two_exprs expr mask has.0 has.1
    member_passes (member.OpenIf expr None line) has = one_expr expr has.0
    member_passes member.Otherwise has = refl
    member_passes member.CloseIf has = refl
    member_passes (member.OpenWhile expr (Some mask) line) has = two_exprs expr mask has.0 has.1
    member_passes (member.OpenWhile expr None line) has = one_expr expr has.0
    member_passes member.CloseWhile has = refl
    member_passes (member.OpenRepeat (Some mask) line) has = one_expr mask has
    member_passes (member.OpenRepeat None line) has = refl
    member_passes (member.Until expr) has = one_expr expr has

    group_passes : (group : List number.Member) → HasMembers Here (map (member_inlined code) group)
        → list_all (λ one. list_all test (places_of code one)) group ≡ true
    group_passes [] has = refl
    group_passes (one ∷ group) has =
        both_true (list_all test (places_of code one))
        (list_all (λ one. list_all test (places_of code one)) group) (member_passes one has.0)
        (group_passes group has.1)

    pub loop_passes : (group : ℕ)
        → HasMembers Here (map (member_inlined code) (slice_index_or code.groups group []))
        → list_all (λ one. list_all test (places_of code one)) (members_of code group) ≡ true
    loop_passes group has =
        subst (λ members. list_all (λ one. list_all test (places_of code one)) members ≡ true)
        (sym (found code.groups group)) (group_passes (slice_index_or code.groups group []) has)
