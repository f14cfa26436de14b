-- What is told of the forms of statement.
use Rattle.std.proofs.Common.{◌≡◌, ℕ, ◌+◌, ◌-◌, ◌<◌, ◌≤◌, ◌==◌, length, get_or, drop, slice_get, option_map, true≢false, arith, eqb-true, Bool, true, false, not, ◌&&◌, ◌||◌, cond, Option, Some, None, List, [], ◌∷◌, ◌++◌, is_none, is_some, map, append-nil, append_assoc, refl, sym, ◌∙◌, ap, ap₂}
use Rattle.std.specs.List.{flat_map, list_any}
use Rattle.std.proofs.lemmas.List.{drop_all, drop_more}
use Rattle.name_kinds.specs.of_zpl_nums.declared.ends.Border.{Border as BorderKind}
use Rattle.name_kinds.specs.of_zpl_nums.declared.operators.Op.{Op}
use Rattle.zpl_tree.specs.Syntax.{Name, Expr, Exprs, ForHead, Prefix, Stmts, Arms, Item, Otherwise, Assign, Invoke, Block, If, While, Repeat, For, Border, Write, Return, at_of}
use Rattle.zpl_tree.specs.Syntax.{Posts, RegionBase, Rexpr}
use Rattle.zpl_tree.specs.View.{inner_of, mask_of, posts_of, pre_of, prefix_of}
use Rattle.zpl_tree.specs.declared.regions.Post.{Post as CodePost}
use Rattle.zpl_tree.specs.declared.regions.Pre.{Pre as CodePre}
use Rattle.zpl_tree.specs.declared.statements.Mask.{Mask as CodeMask}
use Rattle.zpl_tree.specs.declared.statements.Prefix.{Prefix as CodePrefix}
use Rattle.name_kinds.specs.of_zpl_names.Accepted as kind
use Rattle.name_kinds.specs.of_zpl_names.Kinds.{Rank}
use Rattle.name_kinds.specs.of_zpl_names.Ranks.{array_rank, first_rank, is_above_zero, ranks_clash}
use Rattle.name_kinds.specs.of_zpl_names.Scope.{is_array, is_fixed, is_scalar, is_value}
use Rattle.name_kinds.specs.of_zpl_names.Types.{is_elementwise, kind_base}
use Rattle.name_kinds.specs.of_zpl_names.Faults as written
use Rattle.name_kinds.specs.of_zpl_names.Faults.{assigned_operand, at_if, broken_arms, broken_test, ends_in_border, has_flood, has_prefix, is_border_region, is_other_target, is_under_mask, item_rank, kind_at, lacks_region, shape_at, unless_taken, wants_boolean}
use Rattle.name_kinds.specs.of_zpl_names.Sites.{AtStmt, Reach, arms_rank, test_rank}
use Rattle.name_kinds.proofs.PartLemmas.{part-elementwise}
use Rattle.site_faults.specs.Findings.{State, after, region_told, tells, text_told, where_reached}
use Rattle.site_faults.specs.Flood.{is_flood_written}
use Rattle.site_faults.specs.Whole.{is_integer_operand}
use Rattle.site_faults.proofs.FindingLemmas.{at_of-expr, tells-append, tells-none}
use Rattle.site_faults.proofs.WholeLemmas.{boolean-seen}

-- the first places of a statement in a shattered one
abbrev pub broken : Reach → ℕ → List Prefix → Bool → List ℕ
broken reach at prefixes breaks =
    cond (is_above_zero reach.shattered) (at_if (has_prefix prefixes) at ++ at_if breaks at) []

-- what is told of it, where nothing else is
alone : (reach : Reach) (at : ℕ) (prefixes : List Prefix) (breaks : Bool) (state : State) →
    tells kind.ShatterBody (broken reach at prefixes breaks ++ []) state ≡
    tells kind.ShatterBody (broken reach at prefixes breaks) state
alone reach at prefixes breaks state =
    ap (λ places. tells kind.ShatterBody places state)
    (append-nil (broken reach at prefixes breaks))

or-false : (b : Bool) → b || false ≡ b
or-false true = refl
or-false false = refl

pub invoke_told : (state : State) (reach : Reach) (at : ℕ) (prefixes : List Prefix) (name : Name)
    (actuals : Exprs) →
    after state (AtStmt reach at prefixes (Invoke name actuals)) ≡
    tells kind.ShatterBody (broken reach at prefixes true) state
unfolding after text_told region_told tells
invoke_told state reach at prefixes name actuals = alone reach at prefixes true state

pub block_told : (state : State) (reach : Reach) (at : ℕ) (prefixes : List Prefix) (body : Stmts) →
    after state (AtStmt reach at prefixes (Block body)) ≡
    tells kind.ShatterBody (broken reach at prefixes false) state
unfolding after text_told region_told tells
block_told state reach at prefixes body = alone reach at prefixes false state

pub return_told : (state : State) (reach : Reach) (at : ℕ) (prefixes : List Prefix) (value : Expr) →
    after state (AtStmt reach at prefixes (Return value)) ≡
    tells kind.ReturnPlace (at_if (is_none reach.result) at)
    (tells kind.ShatterBody (broken reach at prefixes true) state)
unfolding after text_told region_told tells
return_told state reach at prefixes value =
    ap (tells kind.ReturnPlace (at_if (is_none reach.result) at))
    (alone reach at prefixes true state)

operand-place : (reach : Reach) (name : Name) (op : Option Op) →
    assigned_operand reach name op ≡ at_if (is_integer_operand (kind_at reach name) op) name.at
operand-place reach name None = refl
operand-place reach name (Some op) = refl

broken-assign : (above there other plain : Bool) (at place : ℕ) (state : State) →
    tells kind.ShatterBody
    (cond above (at_if there at ++ (at_if other at ++ at_if plain place)) [] ++ []) state ≡
    tells kind.ShatterBody (at_if (above && plain) place)
    (tells kind.ShatterBody (cond above (at_if there at ++ at_if other at) []) state)
broken-assign true there other plain at place state =
    ap (λ places. tells kind.ShatterBody places state)
    (append-nil (at_if there at ++ (at_if other at ++ at_if plain place)) ∙
    sym (append_assoc (at_if there at) (at_if other at) (at_if plain place))) ∙
    tells-append kind.ShatterBody (at_if there at ++ at_if other at) (at_if plain place) state
broken-assign false there other plain at place state =
    sym (tells-none kind.ShatterBody (tells kind.ShatterBody [] state))

pub assign_told : (state : State) (reach : Reach) (at : ℕ) (prefixes : List Prefix) (name : Name)
    (op : Option Op) (value : Expr) →
    after state (AtStmt reach at prefixes (Assign name op value)) ≡
    tells kind.FloodClash
    (where_reached state.reached (at_if (is_flood_written reach (kind_at reach name)) at))
    (tells kind.NotAssignable (at_if (is_fixed (kind_at reach name)) name.at)
    (tells kind.ShatterBody
    (at_if (is_above_zero reach.shattered && not (is_elementwise value)) (at_of value))
    (tells kind.ShatterBody
    (broken reach at prefixes (is_other_target (kind_at reach name) reach.shattered))
    (tells kind.NoRegion (at_if (lacks_region reach (array_rank (kind_at reach name))) at)
    (tells kind.TypeClash (at_if (is_integer_operand (kind_at reach name) op) name.at)
    (tells kind.UnknownName (at_if (not (is_value (kind_at reach name))) name.at) state))))))
unfolding after text_told region_told tells
assign_told state reach at prefixes name op value =
    ap
    (λ mid. tells kind.FloodClash
    (where_reached state.reached (at_if (is_flood_written reach (kind_at reach name)) at))
    (tells kind.NotAssignable (at_if (is_fixed (kind_at reach name)) name.at) mid))
    (broken-assign (is_above_zero reach.shattered) (has_prefix prefixes)
    (is_other_target (kind_at reach name) reach.shattered) (not (is_elementwise value)) at
    (at_of value)
    (tells kind.NoRegion
    (at_if (lacks_region reach (array_rank (kind_at reach name)) || false) at)
    (tells kind.TypeClash (assigned_operand reach name op)
    (tells kind.UnknownName (at_if (not (is_value (kind_at reach name))) name.at) state))) ∙
    ap₂
    (λ lacks places. tells kind.ShatterBody
    (at_if (is_above_zero reach.shattered && not (is_elementwise value)) (at_of value))
    (tells kind.ShatterBody
    (broken reach at prefixes (is_other_target (kind_at reach name) reach.shattered))
    (tells kind.NoRegion (at_if lacks at)
    (tells kind.TypeClash places
    (tells kind.UnknownName (at_if (not (is_value (kind_at reach name))) name.at) state)))))
    (or-false (lacks_region reach (array_rank (kind_at reach name))))
    (operand-place reach name op))

pub ruleset assign_rules = (assign_told, part-elementwise, at_of-expr)

pub for_told : (state : State) (reach : Reach) (at : ℕ) (prefixes : List Prefix) (head : ForHead)
    (body : Stmts) →
    after state (AtStmt reach at prefixes (For head body)) ≡
    tells kind.NotAssignable (at_if (is_fixed (kind_at reach head.name)) head.name.at)
    (tells kind.ShatterBody (broken reach at prefixes true)
    (tells kind.TypeClash
    (at_if (is_scalar (kind_at reach head.name) &&
    wants_boolean (kind_base (kind_at reach head.name))) head.name.at)
    (tells kind.UnknownName (at_if (not (is_scalar (kind_at reach head.name))) head.name.at)
    state)))
unfolding after text_told region_told tells
for_told state reach at prefixes head body =
    ap (tells kind.NotAssignable (at_if (is_fixed (kind_at reach head.name)) head.name.at))
    (alone reach at prefixes true
    (tells kind.TypeClash
    (at_if (is_scalar (kind_at reach head.name) &&
    wants_boolean (kind_base (kind_at reach head.name))) head.name.at)
    (tells kind.UnknownName (at_if (not (is_scalar (kind_at reach head.name))) head.name.at)
    state)))

pub ruleset for_rules = (for_told, boolean-seen)

-- a statement with tests
tested : (reach : Reach) (at : ℕ) (prefixes : List Prefix) (rank : Rank) (tests : List ℕ)
    (state : State) →
    tells kind.ShatterBody (broken reach at prefixes false ++ tests)
    (tells kind.NoRegion (at_if (lacks_region reach rank || false) at) state) ≡
    tells kind.ShatterBody tests
    (tells kind.ShatterBody (broken reach at prefixes false)
    (tells kind.NoRegion (at_if (lacks_region reach rank) at) state))
tested reach at prefixes rank tests state =
    tells-append kind.ShatterBody (broken reach at prefixes false) tests
    (tells kind.NoRegion (at_if (lacks_region reach rank || false) at) state) ∙
    ap
    (λ lacks. tells kind.ShatterBody tests
    (tells kind.ShatterBody (broken reach at prefixes false)
    (tells kind.NoRegion (at_if lacks at) state))) (or-false (lacks_region reach rank))

pub if_told : (state : State) (reach : Reach) (at : ℕ) (prefixes : List Prefix) (arms : Arms)
    (otherwise : Otherwise) →
    after state (AtStmt reach at prefixes (If arms otherwise)) ≡
    tells kind.ShatterBody
    (broken_arms reach (first_rank reach.shattered (arms_rank reach arms)) arms)
    (tells kind.ShatterBody (broken reach at prefixes false)
    (tells kind.NoRegion (at_if (lacks_region reach (arms_rank reach arms)) at) state))
unfolding after text_told region_told tells
if_told state reach at prefixes arms otherwise =
    tested reach at prefixes (arms_rank reach arms)
    (broken_arms reach (first_rank reach.shattered (arms_rank reach arms)) arms) state

pub while_told : (state : State) (reach : Reach) (at : ℕ) (prefixes : List Prefix) (test : Expr)
    (body : Stmts) →
    after state (AtStmt reach at prefixes (While test body)) ≡
    tells kind.ShatterBody
    (broken_test reach (first_rank reach.shattered (test_rank reach test)) test)
    (tells kind.ShatterBody (broken reach at prefixes false)
    (tells kind.NoRegion (at_if (lacks_region reach (test_rank reach test)) at) state))
unfolding after text_told region_told tells
while_told state reach at prefixes test body =
    tested reach at prefixes (test_rank reach test)
    (broken_test reach (first_rank reach.shattered (test_rank reach test)) test) state

pub repeat_told : (state : State) (reach : Reach) (at : ℕ) (prefixes : List Prefix) (body : Stmts)
    (until : ℕ) (test : Expr) →
    after state (AtStmt reach at prefixes (Repeat body until test)) ≡
    tells kind.ShatterBody
    (broken_test reach (first_rank reach.shattered (test_rank reach test)) test)
    (tells kind.ShatterBody (broken reach at prefixes false)
    (tells kind.NoRegion (at_if (lacks_region reach (test_rank reach test)) at) state))
unfolding after text_told region_told tells
repeat_told state reach at prefixes body until test =
    tested reach at prefixes (test_rank reach test)
    (broken_test reach (first_rank reach.shattered (test_rank reach test)) test) state

pub ruleset if_rules = (if_told)

pub ruleset loop_rules = (while_told, repeat_told)

pub write_told : (state : State) (reach : Reach) (at : ℕ) (prefixes : List Prefix) (line : Bool)
    (items : List Item) →
    after state (AtStmt reach at prefixes (Write line items)) ≡
    tells kind.MaskPlace
    (where_reached state.reached
    (at_if (list_any (is_under_mask reach) (map (item_rank reach) items)) at))
    (tells kind.FloodClash
    (where_reached state.reached
    (at_if (list_any (λ item. has_flood (shape_at reach (item_rank reach item))) items) at))
    (tells kind.ShatterBody (broken reach at prefixes true)
    (tells kind.NoRegion
    (at_if (list_any (lacks_region reach) (map (item_rank reach) items)) at) state)))
unfolding after text_told region_told tells
write_told state reach at prefixes line items =
    ap
    (λ mid. tells kind.MaskPlace
    (where_reached state.reached
    (at_if (list_any (is_under_mask reach) (map (item_rank reach) items)) at))
    (tells kind.FloodClash
    (where_reached state.reached
    (at_if (list_any (λ item. has_flood (shape_at reach (item_rank reach item))) items) at)) mid))
    (alone reach at prefixes true
    (tells kind.NoRegion
    (at_if (list_any (lacks_region reach) (map (item_rank reach) items)) at) state))

pub ruleset write_rules = (write_told)

pub border_told : (state : State) (reach : Reach) (at : ℕ) (prefixes : List Prefix)
    (border : BorderKind) (names : List Name) →
    after state (AtStmt reach at prefixes (Border border names)) ≡
    tells kind.MaskPlace
    (where_reached state.reached (at_if (is_under_mask reach reach.prefix) at))
    (tells kind.FloodClash
    (where_reached state.reached
    (at_if (has_flood (shape_at reach reach.prefix) || list_any (written.is_flood_written reach) names)
    at))
    (tells kind.BorderForm (at_if (not (ends_in_border prefixes)) at)
    (tells kind.ShatterBody (broken reach at prefixes true)
    (tells kind.NoRegion (at_if (lacks_region reach reach.prefix) at)
    (tells kind.RankClash
    (flat_map (λ name. at_if (ranks_clash reach.prefix (array_rank (kind_at reach name))) name.at)
    names)
    (tells kind.UnknownName (flat_map (unless_taken reach is_array) names) state))))))
unfolding after text_told region_told tells
border_told state reach at prefixes border names =
    let first = tells kind.RankClash
    (flat_map (λ name. at_if (ranks_clash reach.prefix (array_rank (kind_at reach name))) name.at)
    names)
    (tells kind.UnknownName (flat_map (unless_taken reach is_array) names) state) in
    ap₂
    (λ mask mid. tells kind.MaskPlace (where_reached state.reached (at_if mask at))
    (tells kind.FloodClash
    (where_reached state.reached
    (at_if (has_flood (shape_at reach reach.prefix) || list_any (written.is_flood_written reach) names)
    at))
    (tells kind.BorderForm (at_if (not (ends_in_border prefixes)) at) mid)))
    (or-false (is_under_mask reach reach.prefix))
    (alone reach at prefixes true
    (tells kind.NoRegion (at_if (lacks_region reach reach.prefix || false) at) first) ∙
    ap
    (λ lacks. tells kind.ShatterBody (broken reach at prefixes true)
    (tells kind.NoRegion (at_if lacks at) first)) (or-false (lacks_region reach reach.prefix)))

pub ruleset border_rules = (border_told)

-- ---- the prefix before a border statement

pub border-pre : (pre : List CodePre) (base : RegionBase) (posts : Posts) →
    (length pre ≡ 1 → ⊥) → is_border_region (Rexpr (map pre_of pre) base posts) ≡ false
border-pre [] base posts h = refl
border-pre (one ∷ []) base posts h = absurd (h (omega arith))
border-pre (one ∷ two ∷ rest) base posts h = refl

pub border-post : (pre : List CodePre) (base : RegionBase) (posts : List CodePost) →
    (length posts == 0) ≡ false → is_border_region (Rexpr (map pre_of pre) base (posts_of posts)) ≡
    false
border-post pre base [] h = absurd (true≢false h)
border-post [] base (post ∷ posts) h = refl
border-post (one ∷ []) base (post ∷ posts) h = refl
border-post (one ∷ two ∷ rest) base (post ∷ posts) h = refl

pub border-there : (pre : List CodePre) (base : RegionBase) (posts : List CodePost) (d : CodePre) →
    length pre ≡ 1 → (length posts == 0) ≡ true →
    (get_or pre 0 d).outside ≡ is_border_region (Rexpr (map pre_of pre) base (posts_of posts))
border-there [] base posts d one none = absurd (omega arith)
border-there (one ∷ two ∷ rest) base posts d single none = absurd (omega arith)
border-there (one ∷ []) base [] d single none = refl
border-there (one ∷ []) base (post ∷ posts) d single none =
    let none = eqb-true (length (post ∷ posts)) 0 none in absurd (omega arith)

pub not-some : {A : Type 0} (o : Option A) → not (is_some o) ≡ is_none o
not-some None = refl
not-some (Some a) = refl

mask-none : (mask : Option CodeMask) → is_none mask ≡ is_none (option_map mask_of mask)
mask-none None = refl
mask-none (Some mask) = refl

pub border-last : (prefixes : List CodePrefix) (last : CodePrefix) →
    slice_get prefixes (length prefixes - 1) ≡ Some last →
    is_border_region (inner_of last.region) && is_none last.mask ≡
    ends_in_border (map prefix_of prefixes)
border-last [] last e = let none : None ≡ Some last = e in cc
border-last (one ∷ []) last e =
    let same : one ≡ last = cc in
    ap (λ prefix. is_border_region (inner_of prefix.region) && is_none prefix.mask) (sym same) ∙
    ap (λ none. is_border_region (inner_of one.region) && none) (mask-none one.mask)
border-last (one ∷ two ∷ rest) last e = border-last (two ∷ rest) last (grind arith)

-- ---- tests of each of a list

pub any-step : {X : Type 0} (test : X → Bool) (xs : List X) (k : ℕ) (d : X) (old now found whole : Bool)
    → k < length xs → found ≡ test (get_or xs k d) → now ≡ (old || found) →
    old || list_any test (drop k xs) ≡ whole → now || list_any test (drop (k + 1) xs) ≡ whole
any-step test xs k d old now found whole less here next invariant =
    ap (λ now. now || list_any test (drop (k + 1) xs)) (next ∙ ap (λ b. old || b) here) ∙
    or-assoc old (test (get_or xs k d)) (list_any test (drop (k + 1) xs)) ∙
    ap (λ rest. old || list_any test rest) (sym (drop_more xs k d less)) ∙ invariant
  where
    or-assoc : (a b c : Bool) → (a || b) || c ≡ a || (b || c)
    or-assoc true b c = refl
    or-assoc false b c = refl

pub any-end : {X : Type 0} (test : X → Bool) (xs : List X) (k : ℕ) (old whole : Bool) →
    length xs ≤ k → old || list_any test (drop k xs) ≡ whole → old ≡ whole
any-end test xs k old whole end invariant =
    sym (or-false old) ∙ ap (λ xs. old || list_any test xs) (sym (drop_all k xs end)) ∙ invariant

pub any-map : {X Y : Type 0} (f : X → Y) (test : Y → Bool) (xs : List X) →
    list_any (λ x. test (f x)) xs ≡ list_any test (map f xs)
any-map f test [] = refl
any-map f test (x ∷ xs) = ap (λ b. test (f x) || b) (any-map f test xs)

pub not-not : (b : Bool) → not (not b) ≡ b
not-not true = refl
not-not false = refl
