-- What groups need, one after another.
use Rattle.std.proofs.Common.{◌≡◌, refl, sym, ap, ◌∙◌, ℕ, zero, suc, ◌+◌, Bool, true, false, List, [], ◌∷◌, ◌++◌}
use Rattle.std.proofs.Common.{map, take}
use Rattle.std.specs.Prelude.{◌||◌, Some, None, Option, flat_map, fold, slice_get}
use Rattle.std.specs.List.{list_any}
use Rattle.std.proofs.lemmas.Grind.{flat_map-append}
use Rattle.std.proofs.lemmas.List.{append-nil, map-append}
use Rattle.std.proofs.lemmas.List.Sums.{fold-append}
use Rattle.std.proofs.lemmas.List.Folds.{list_any-append}
use Rattle.plan_form.specs.of_node_form.declared.arrays.Item.{Item}
use Rattle.plan_form.specs.of_node_form.declared.words.ExprOp.{ExprOp}
use Rattle.plan_form.specs.of_node_form.declared.members.Member.{Member}
use Rattle.plan_form.specs.of_node_form.declared.tables.Tables.{Tables}
use Rattle.plan_form.specs.of_code_parts.Uses.{as_list, divides_in, exprs_of, member_words, words_of}
use Rattle.plan_form.specs.Draft.{with_unit, written}
use Rattle.plan_form.specs.Units.{PlanUnit, with_item}
use Rattle.plan_form.specs.declared.draft.PlanDraft.{PlanDraft}
use Rattle.plan_form.proofs.ItemLemmas.{taken_more}
use Rattle.comm_needs.specs.Needs.{needed_alone, needed_by, with_needed}

-- ---- tests
pub any_more : {X : Type 0} (test : X → Bool) (xs : List X) (k : ℕ) (x : X)
    → slice_get xs k ≡ Some x → list_any test (take k xs) ≡ false → test x ≡ false
    → list_any test (take (k + 1) xs) ≡ false
any_more test xs k x there front here =
    ap (list_any test) (taken_more xs k x there)
    ∙ (list_any-append test (take k xs) (x ∷ [])
    ∙ (ap (λ b. b || (test x || false)) front ∙ ap (λ b. b || false) here))

pub any_here : {X : Type 0} (test : X → Bool) (xs : List X) (k : ℕ) (x : X)
    → slice_get xs k ≡ Some x → test x ≡ true → list_any test xs ≡ true
any_here test [] zero x there here = cc
any_here test [] (suc k) x there here = cc
any_here test (y ∷ ys) zero x there here =
    let e : y ≡ x = cc in
    ap (λ b. b || list_any test ys) (ap test e ∙ here)
any_here test (y ∷ ys) (suc k) x there here =
    by (test y) (list_any test ys) (any_here test ys k x there here)
  where
    by : (a b : Bool) → b ≡ true → (a || b) ≡ true
    by true b e = refl
    by false b e = e

-- of words that members have
pub any_of_all : (test : ExprOp → Bool) (words : Member → List ExprOp) (members : List Member)
    → list_any test (flat_map words members) ≡ list_any (λ one. list_any test (words one)) members
any_of_all test words [] = refl
any_of_all test words (one ∷ members) =
    list_any-append test (words one) (flat_map words members)
    ∙ ap (λ b. list_any test (words one) || b) (any_of_all test words members)

-- ---- items
pub needed_both : (slot : ℕ) (items : List Item) (xs ys : List ExprOp)
    → with_needed slot items (xs ++ ys) ≡ with_needed slot (with_needed slot items xs) ys
needed_both slot items xs ys =
    ap (fold with_item items) (flat_map-append (needed_by slot) xs ys)
    ∙ fold-append with_item items (flat_map (needed_by slot) xs) (flat_map (needed_by slot) ys)

pub needed_more : (slot : ℕ) (old items new : List Item) (words : List ExprOp) (k : ℕ)
    (word : ExprOp) → slice_get words k ≡ Some word
    → items ≡ with_needed slot old (take k words) → new ≡ with_needed slot items (word ∷ [])
    → new ≡ with_needed slot old (take (k + 1) words)
needed_more slot old items new words k word there is added =
    added
    ∙ (ap (λ l. with_needed slot l (word ∷ [])) is
    ∙ (sym (needed_both slot old (take k words) (word ∷ []))
    ∙ ap (with_needed slot old) (sym (taken_more words k word there))))

-- a member's expression and its mask
pub member_words_are : (tables : Tables) (one : Member) (expr mask : Option ℕ)
    → as_list expr ++ as_list mask ≡ exprs_of one
    → member_words tables one
    ≡ flat_map (words_of tables) (as_list expr) ++ flat_map (words_of tables) (as_list mask)
member_words_are tables one expr mask is =
    ap (flat_map (words_of tables)) (sym is)
    ∙ flat_map-append (words_of tables) (as_list expr) (as_list mask)

pub member_needs : (tables : Tables) (slot : ℕ) (members : List Member) (k : ℕ) (one : Member)
    (expr mask : Option ℕ) (items half new : List Item) → slice_get members k ≡ Some one
    → as_list expr ++ as_list mask ≡ exprs_of one
    → items ≡ with_needed slot [] (flat_map (member_words tables) (take k members))
    → half ≡ with_needed slot items (flat_map (words_of tables) (as_list expr))
    → new ≡ with_needed slot half (flat_map (words_of tables) (as_list mask))
    → new ≡ with_needed slot [] (flat_map (member_words tables) (take (k + 1) members))
member_needs tables slot members k one expr mask items half new there is before first last =
    let left = flat_map (words_of tables) (as_list expr) in
    let right = flat_map (words_of tables) (as_list mask) in
    let front = flat_map (member_words tables) (take k members) in
    last
    ∙ (ap (λ l. with_needed slot l right) (first ∙ ap (λ l. with_needed slot l left) before)
    ∙ (sym (needed_both slot (with_needed slot [] front) left right)
    ∙ (ap (with_needed slot (with_needed slot [] front)) (sym (member_words_are tables one expr mask is))
    ∙ (ap (with_needed slot (with_needed slot [] front)) (sym (append-nil (member_words tables one)))
    ∙ (sym (needed_both slot [] front (member_words tables one ++ []))
    ∙ ap (with_needed slot [])
    (sym (flat_map-append (member_words tables) (take k members) (one ∷ []))
    ∙ ap (flat_map (member_words tables)) (sym (taken_more members k one there))))))))

-- ---- drafts
pub written_both : (draft : PlanDraft) (xs ys : List PlanUnit)
    → written draft (xs ++ ys) ≡ written (written draft xs) ys
written_both draft xs ys = fold-append with_unit draft xs ys

pub alone_more : (old draft new : PlanDraft) (items : List Item) (k : ℕ) (item : Item)
    → slice_get items k ≡ Some item → draft ≡ written old (map needed_alone (take k items))
    → new ≡ with_unit draft (needed_alone item)
    → new ≡ written old (map needed_alone (take (k + 1) items))
alone_more old draft new items k item there is added =
    added
    ∙ (ap (λ d. with_unit d (needed_alone item)) is
    ∙ (sym (written_both old (map needed_alone (take k items)) (needed_alone item ∷ []))
    ∙ ap (written old)
    (sym (map-append needed_alone (take k items) (item ∷ []))
    ∙ ap (map needed_alone) (sym (taken_more items k item there)))))
