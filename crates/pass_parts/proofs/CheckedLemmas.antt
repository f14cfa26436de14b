-- Where checks that always pass are left out, loops know what they join.
use Rattle.std.proofs.Common.{◌≡◌, refl, sym, ap, ◌∙◌, subst, ℕ, ◌==◌, Bool, true, false, not}
use Rattle.std.proofs.Common.{true≢false, List, [], ◌∷◌, ◌++◌, ℤ, append_assoc, append-nil}
use Rattle.std.specs.Prelude.{◌&&◌, ◌||◌, fold, Option, Some, None}
use Rattle.std.specs.List.{AllByRecursion, list_all}
use Rattle.std.proofs.lemmas.Bool.{and_from, and_parts}
use Rattle.std.proofs.lemmas.Bool.Decides.{Decides-eqb}
use Rattle.std.proofs.lemmas.List.Sums.{fold-append}
use Rattle.node_form.specs.declared.arrays.Item.{Item}
use Rattle.node_form.specs.declared.instructions.Instr.{Instr}
use Rattle.node_form.specs.declared.instructions.Instr.TheVariants as instr
use Rattle.node_form.specs.declared.tables.Tables.{Tables}
use Rattle.code_parts.specs.Stretch.{IsRightInStretches, IsStretch, is_right_throughout}
use Rattle.code_parts.specs.Uses.{members_of}
use Rattle.code_parts.proofs.WalkLemmas.{in_stretches, throughout}
use Rattle.pass_sizes.specs.of_fuse_contract.Fusing.{reference, references_of, stands_with}
use Rattle.pass_parts.specs.Checks.{ChecksBetween, StandsBetween, checked_by, checked_in, is_check}
use Rattle.pass_parts.specs.Checks.{is_one_of}

-- a loop, and the references of the checks that alone stand behind it
pub record Since : Type 0 where
  pub loop : ℕ × ℕ
  pub items : List Item

module _ (tables : Tables) (joins : ℕ → ℕ → Bool) where
  -- ---- along the old rows
  abbrev pub needed_behind : Option Since → Item → Option Since
  needed_behind None item = None
  needed_behind (Some since) item =
      Some (record { loop = since.loop; items = since.items ++ item ∷ [] })

  abbrev pub old_learn : Option Since → Instr → Option Since
  old_learn since (instr.Loop slot group) = Some (record { loop = (slot, group); items = [] })
  old_learn since (instr.Need slot array shift line) =
      needed_behind since (reference slot array shift)
  old_learn since row = None

  -- the group may stand wherever that of the loop does
  abbrev pub stands_too : Since → ℕ → Bool
  stands_too since group =
      stands_with tables (members_of tables since.loop.1) (members_of tables group)

  abbrev pub are_needed : Option Since → ℕ → ℕ → Bool
  are_needed None slot group = true
  are_needed (Some since) slot group =
      not ((since.loop.0 == slot) && joins since.loop.1 group)
      || (list_all (is_one_of since.items) (references_of tables slot (members_of tables group))
      && stands_too since group)

  abbrev pub old_right : Option Since → Instr → Bool
  old_right since (instr.Loop slot group) = are_needed since slot group
  old_right since row = true

  -- ---- what is known since a loop stands there
  record IsSince (rows : List Instr) (since : Since) : Type 0 where
    before : List Instr
    between : List Instr
    is : rows ≡ before ++ instr.Loop since.loop.0 since.loop.1 ∷ between
    items : since.items ≡ checked_in between
    checks : AllByRecursion (λ row. is_check row ≡ true) between

  abbrev Found : List Instr → Option Since → Type 0
  Found rows None = Unit {0}
  Found rows (Some since) = IsSince rows since

  every_append : (xs ys : List Instr) → AllByRecursion (λ row. is_check row ≡ true) xs
      → AllByRecursion (λ row. is_check row ≡ true) ys
      → AllByRecursion (λ row. is_check row ≡ true) (xs ++ ys)
  every_append [] ys left right = right
  every_append (x ∷ xs) ys left right = (left.0, every_append xs ys left.1 right)

  checked_more : (xs : List Instr) (row : Instr)
      → checked_in (xs ++ row ∷ []) ≡ checked_in xs ++ checked_by row
  checked_more [] row = append-nil (checked_by row)
  checked_more (x ∷ xs) row =
      ap (λ l. checked_by x ++ l) (checked_more xs row)
      ∙ sym (append_assoc (checked_by x) (checked_in xs) (checked_by row))

  found_need : (rows : List Instr) (since : Option Since) (slot array : ℕ) (shift : List ℤ)
      (line : ℕ) → Found rows since
      → Found (rows ++ instr.Need slot array shift line ∷ [])
      (needed_behind since (reference slot array shift))
  found_need rows None slot array shift line found = tt
  found_need rows (Some since) slot array shift line found =
      let row = instr.Need slot array shift line in
      record {
        before = found.before;
        between = found.between ++ row ∷ [];
        is =
            ap (λ l. l ++ row ∷ []) found.is
            ∙ append_assoc found.before
            (instr.Loop since.loop.0 since.loop.1 ∷ found.between) (row ∷ []);
        items =
            ap (λ l. l ++ reference slot array shift ∷ []) found.items
            ∙ sym (checked_more found.between row);
        checks = every_append found.between (row ∷ []) found.checks (refl, tt);
      }

  found_row : (rows : List Instr) (since : Option Since) (row : Instr) → Found rows since
      → Found (rows ++ row ∷ []) (old_learn since row)
  found_row rows since (instr.Loop slot group) found =
      record { before = rows; between = []; is = refl; items = refl; checks = tt }
  found_row rows since (instr.Need slot array shift line) found =
      found_need rows since slot array shift line found
  found_row rows since row found = tt

  found_all : (rows more : List Instr) (since : Option Since) → Found rows since
      → Found (rows ++ more) (fold old_learn since more)
  found_all rows [] since found = subst (λ l. Found l since) (sym (append-nil rows)) found
  found_all rows (row ∷ more) since found =
      subst (λ l. Found l (fold old_learn (old_learn since row) more))
      (append_assoc rows (row ∷ []) more)
      (found_all (rows ++ row ∷ []) more (old_learn since row) (found_row rows since row found))

  -- ---- so it is right
  loop_right : ChecksBetween tables joins → StandsBetween tables joins
      → (before : List Instr) (slot group : ℕ)
      → IsStretch tables.code (before ++ instr.Loop slot group ∷ [])
      → are_needed (fold old_learn None before) slot group ≡ true
  loop_right checks stands before slot group s =
      by (fold old_learn None before) (found_all [] before None tt)
    where
      standing : (since : Since) → IsSince before since → (since.loop.0 == slot) ≡ true
          → joins since.loop.1 group ≡ true
          → (list_all (is_one_of since.items)
          (references_of tables slot (members_of tables group)) && stands_too since group) ≡ true
      standing since found same joinable =
          let here : since.loop.0 ≡ slot = (Decides-eqb since.loop.0 slot).0 same in
          let place : before ++ instr.Loop slot group ∷ []
          ≡ found.before ++ instr.Loop slot since.loop.1
          ∷ (found.between ++ instr.Loop slot group ∷ []) =
          ap (λ l. l ++ instr.Loop slot group ∷ [])
          (found.is ∙ ap (λ n. found.before ++ instr.Loop n since.loop.1 ∷ found.between) here)
          ∙ append_assoc found.before (instr.Loop slot since.loop.1 ∷ found.between)
          (instr.Loop slot group ∷ []) in
          let stretch = subst (IsStretch tables.code) place s in
          and_from (list_all (is_one_of since.items)
          (references_of tables slot (members_of tables group))) (stands_too since group)
          (ap (λ items. list_all (is_one_of items)
          (references_of tables slot (members_of tables group))) found.items
          ∙ checks found.before found.between slot since.loop.1 group stretch found.checks
          joinable)
          (stands found.before found.between slot since.loop.1 group stretch found.checks joinable)

      cases : (since : Since) → IsSince before since → (a b : Bool) → (since.loop.0 == slot) ≡ a
          → joins since.loop.1 group ≡ b
          → (not (a && b) || (list_all (is_one_of since.items)
          (references_of tables slot (members_of tables group)) && stands_too since group)) ≡ true
      cases since found true true same joinable = standing since found same joinable
      cases since found true false same joinable = refl
      cases since found false b same joinable = refl

      by : (since : Option Since) → Found before since → are_needed since slot group ≡ true
      by None found = refl
      by (Some since) found =
          cases since found (since.loop.0 == slot) (joins since.loop.1 group) refl refl

  old_all : ChecksBetween tables joins → StandsBetween tables joins
      → IsRightInStretches None old_learn old_right tables.code
  old_all checks stands before (instr.Loop slot group) s =
      loop_right checks stands before slot group s
  old_all checks stands before row s = refl

  pub old_throughout : ChecksBetween tables joins → StandsBetween tables joins
      → is_right_throughout None old_learn old_right tables.code ≡ true
  old_throughout checks stands =
      throughout None old_learn old_right tables.code (old_all checks stands)

  -- ---- and back
  folded : (between : List Instr) (loop : ℕ × ℕ) (items : List Item)
      → AllByRecursion (λ row. is_check row ≡ true) between
      → fold old_learn (Some (record { loop = loop; items = items })) between
      ≡ Some (record { loop = loop; items = items ++ checked_in between })
  folded [] loop items checks =
      ap (λ l. Some (record { loop = loop; items = l })) (sym (append-nil items))
  folded (instr.Need slot array shift line ∷ between) loop items checks =
      folded between loop (items ++ reference slot array shift ∷ []) checks.1
      ∙ ap (λ l. Some (record { loop = loop; items = l }))
      (append_assoc items (reference slot array shift ∷ []) (checked_in between))
  folded (row ∷ between) loop items checks = absurd (true≢false (sym checks.0))

  joined : (a b x : Bool) → a ≡ true → b ≡ true → (not (a && b) || x) ≡ true → x ≡ true
  joined true true x one other known = known
  joined true false x one other known = absurd (true≢false (sym other))
  joined false b x one other known = absurd (true≢false (sym one))

  both_back : is_right_throughout None old_learn old_right tables.code ≡ true
      → (before between : List Instr) (slot one other : ℕ)
      → IsStretch tables.code
      (before ++ instr.Loop slot one ∷ (between ++ instr.Loop slot other ∷ []))
      → AllByRecursion (λ row. is_check row ≡ true) between → joins one other ≡ true
      → (list_all (is_one_of (checked_in between))
      (references_of tables slot (members_of tables other))
      && stands_with tables (members_of tables one) (members_of tables other)) ≡ true
  both_back right before between slot one other s checks joinable =
      let rows = before ++ instr.Loop slot one ∷ between in
      let place : before ++ instr.Loop slot one ∷ (between ++ instr.Loop slot other ∷ [])
      ≡ rows ++ instr.Loop slot other ∷ [] =
      sym (append_assoc before (instr.Loop slot one ∷ between) (instr.Loop slot other ∷ [])) in
      let since : fold old_learn None rows
      ≡ Some (record { loop = (slot, one); items = checked_in between }) =
      fold-append old_learn None before (instr.Loop slot one ∷ between)
      ∙ folded between (slot, one) [] checks in
      let there = in_stretches None old_learn old_right tables.code right rows
      (instr.Loop slot other) (subst (IsStretch tables.code) place s) in
      joined (slot == slot) (joins one other)
      (list_all (is_one_of (checked_in between))
      (references_of tables slot (members_of tables other))
      && stands_with tables (members_of tables one) (members_of tables other))
      ((Decides-eqb slot slot).1 refl) joinable
      (ap (λ since. are_needed since slot other) (sym since) ∙ there)

  pub checks_back : is_right_throughout None old_learn old_right tables.code ≡ true
      → ChecksBetween tables joins
  checks_back right before between slot one other s checks joinable =
      (and_parts (list_all (is_one_of (checked_in between))
      (references_of tables slot (members_of tables other))) _
      (both_back right before between slot one other s checks joinable)).0

  pub stands_back : is_right_throughout None old_learn old_right tables.code ≡ true
      → StandsBetween tables joins
  stands_back right before between slot one other s checks joinable =
      (and_parts (list_all (is_one_of (checked_in between))
      (references_of tables slot (members_of tables other))) _
      (both_back right before between slot one other s checks joinable)).1
