-- Counted code is sound where its code is.
use Rattle.std.proofs.Common.{◌≡◌, ◌⊎◌, inl, inr, refl, sym, ◌∙◌, ap, ap₂, subst, ℕ, zero, suc}
use Rattle.std.proofs.Common.{◌<◌, ◌≤◌, Bool, true, false, not, ◌&&◌, ◌||◌, List, [], ◌∷◌, ◌++◌}
use Rattle.std.proofs.Common.{length, map, arith}
use Rattle.std.proofs.Common.{Contains, filter}
use Rattle.std.proofs.Math.Path.{fun_ext}
use Rattle.std.specs.Prelude.{Option, Some, None, slice_get, All, flat_map}
use Rattle.std.specs.List.{list_all, list_any}
use Rattle.std.specs.Option.{IfSome, IsSomeAnd, option_map}
use Rattle.std.proofs.lemmas.Option.{slice_get-map}
use Rattle.std.proofs.lemmas.List.Elements.{All-head, All-tail}
use Rattle.std.proofs.lemmas.List.Folds.{list_all-append}
use Rattle.std.proofs.lemmas.Grind.{flat_map-append}
use Rattle.node_form.specs.declared.instructions.DimRow.{DimRow}
use Rattle.node_form.specs.declared.instructions.DimRow.TheVariants as part
use Rattle.node_form.specs.declared.instructions.Instr.{Instr}
use Rattle.node_form.specs.declared.instructions.Instr.TheVariants as instr
use Rattle.node_form.specs.declared.members.Member.{Member}
use Rattle.node_form.specs.declared.members.Member.TheVariants as member
use Rattle.node_form.specs.declared.tables.Tables.{Tables}
use Rattle.node_form.specs.declared.words.ExprOp.{ExprOp}
use Rattle.node_form.specs.Fits.{Fits, FitsAt, FitsInstr, FitsMember, FitsPart, FitsWord, HasExpr}
use Rattle.node_form.specs.Fits.{HasScalarExpr, IsScalarWord}
use Rattle.node_form.specs.Value.{unmoved}
use Rattle.node_form.proofs.GrowthLemmas.{Fits-instr-row}
use Rattle.code_parts.specs.Uses.{accumulated, accumulated_by, as_list, divides_in}
use Rattle.code_parts.specs.Uses.{is_turning}
use Rattle.code_parts.specs.Uses.{members_of, rows_or_none, scalars_in, words_of}
use Rattle.node_check.specs.Demand.{has_own, has_place, is_met, is_uniform_part, leaves_slots}
use Rattle.node_check.specs.Demand.{places_in, places_of}
use Rattle.node_check.specs.declared.facts.Fact.{Fact}
use Rattle.node_check.specs.declared.facts.Fact.TheVariants.{Agree, Border, Held, Made, Stands, Uniform}
use Rattle.node_check.specs.Learn.{is_uniform, is_among, learnt, loses, made, made_where}
use Rattle.node_check.specs.Learn.{tells_uniform}
use Rattle.node_check.specs.Path.{AreFacts, Begins, Comes, Follows}
use Rattle.node_check.specs.Sound.{IsLinksNeeded, IsSound}
use Rattle.counted_code.specs.Counted.{counted, counted_exprs, counted_group, counted_member}
use Rattle.counted_code.specs.Counted.{counting, equal_expr, equal_words}
use Rattle.counted_code.specs.Counted.{idling, number_expr, number_words, until_expr, until_words}
use Rattle.counted_code.specs.Counted.{while_expr, while_words}
use Rattle.counted_code.proofs.TableLemmas.{equal_there, number_there, old_there, until_there}
use Rattle.counted_code.proofs.TableLemmas.{while_there}
use Rattle.counted_code.proofs.GroupLemmas.{block, head, split}

module _ (n : ℕ) (code : Tables) where
  abbrev real : Tables
  real = counted n code

  -- ---- paths
  pub comes_there : {at : ℕ} {opened : List ℕ} → Comes code at opened → Comes real at opened
  comes_there Begins = Begins
  comes_there (Follows comes e next) = Follows (comes_there comes) e next

  pub comes_back : {at : ℕ} {opened : List ℕ} → Comes real at opened → Comes code at opened
  comes_back Begins = Begins
  comes_back (Follows comes e next) = Follows (comes_back comes) e next

  -- ---- words
  scalar_words : (expr : ℕ) → HasScalarExpr code expr → words_of real expr ≡ words_of code expr
  scalar_words expr has = by (slice_get code.exprs expr) refl has
    where
      by : (o : Option (List ExprOp)) → slice_get code.exprs expr ≡ o
          → IsSomeAnd o (All IsScalarWord)
          → words_of real expr ≡ rows_or_none o
      by None e has = absurd has
      by (Some words) e has = ap rows_or_none (old_there n code expr words e)

  old_words : (rank expr : ℕ) → HasExpr code rank expr → words_of real expr ≡ words_of code expr
  old_words rank expr has = by (slice_get code.exprs expr) refl has
    where
      by : (o : Option (List ExprOp)) → slice_get code.exprs expr ≡ o
          → IsSomeAnd o (All (FitsWord code rank))
          → words_of real expr ≡ rows_or_none o
      by None e has = absurd has
      by (Some words) e has = ap rows_or_none (old_there n code expr words e)

  new_words : (rank expr there : ℕ) (f : List ExprOp → List ExprOp)
      → ((words : List ExprOp) → slice_get code.exprs expr ≡ Some words
      → slice_get (counted_exprs n code) there ≡ Some (f words))
      → HasExpr code rank expr → words_of real there ≡ f (words_of code expr)
  new_words rank expr there f found has = by (slice_get code.exprs expr) refl has
    where
      by : (o : Option (List ExprOp)) → slice_get code.exprs expr ≡ o
          → IsSomeAnd o (All (FitsWord code rank))
          → words_of real there ≡ f (rows_or_none o)
      by None e has = absurd has
      by (Some words) e has = ap rows_or_none (found words e)

  uniform_same : (facts : List Fact) (expr : ℕ) → HasScalarExpr code expr
      → is_uniform real facts expr ≡ is_uniform code facts expr
  uniform_same facts expr has =
      ap (λ words. list_all (λ scalar. list_any (tells_uniform scalar) facts)
      (flat_map scalars_in words))
      (scalar_words expr has)

  -- ---- members
  accumulated_cells : (k : ℕ) → flat_map accumulated_by (counting n code k) ≡ []
  accumulated_cells zero = refl
  accumulated_cells (suc k) = accumulated_cells k

  accumulated_idle : (k : ℕ) → flat_map accumulated_by (idling n code k) ≡ []
  accumulated_idle zero = refl
  accumulated_idle (suc k) = accumulated_idle k

  accumulated_block : (b : Bool) → flat_map accumulated_by (block n code b) ≡ []
  accumulated_block true = accumulated_cells n
  accumulated_block false = accumulated_idle n

  accumulated_head : (one : Member) → accumulated_by (head n code one) ≡ accumulated_by one
  accumulated_head (member.OpenWhile expr mask line) = refl
  accumulated_head (member.Until expr) = refl
  accumulated_head one = refl

  no_more : {X : Type 0} (xs : List X) → xs ++ [] ≡ xs
  no_more [] = refl
  no_more (x ∷ xs) = ap (λ l. x ∷ l) (no_more xs)

  accumulated_member : (one : Member) → flat_map accumulated_by (counted_member n code one)
      ≡ accumulated_by one
  accumulated_member one =
      ap (flat_map accumulated_by) (split n code one)
      ∙ (ap₂ (λ a b. a ++ b) (accumulated_head one) (accumulated_block (is_turning one))
      ∙ no_more (accumulated_by one))

  accumulated_group : (members : List Member)
      → flat_map accumulated_by (counted_group n code members) ≡ flat_map accumulated_by members
  accumulated_group [] = refl
  accumulated_group (one ∷ members) =
      flat_map-append accumulated_by (counted_member n code one) (counted_group n code members)
      ∙ ap₂ (λ a b. a ++ b) (accumulated_member one) (accumulated_group members)

  group_same : (group : ℕ) → members_of real group ≡ counted_group n code (members_of code group)
  group_same group =
      ap rows_or_none (slice_get-map (counted_group n code) code.groups group)
      ∙ by (slice_get code.groups group)
    where
      by : (o : Option (List Member))
          → rows_or_none (option_map (counted_group n code) o)
          ≡ counted_group n code (rows_or_none o)
      by None = refl
      by (Some members) = refl

  accumulated_same : (group : ℕ) → accumulated real group ≡ accumulated code group
  accumulated_same group =
      ap (flat_map accumulated_by) (group_same group) ∙ accumulated_group (members_of code group)

  -- ---- what is learnt
  loses_same : (row : Instr) (fact : Fact) → loses real row fact ≡ loses code row fact
  loses_same (instr.Loop slot group) (Uniform scalar) =
      ap (λ l. is_among l scalar) (accumulated_same group)
  loses_same (instr.Loop slot group) fact = refl
  loses_same row (Uniform scalar) = refl
  loses_same row (Stands slot region) = refl
  loses_same row (Made form slot from shift) = refl
  loses_same row (Held slot array shift) = refl
  loses_same row (Agree target source kind) = refl
  loses_same row (Border slot shift) = refl

  made_same : (rank : ℕ) (facts : List Fact) (row : Instr) → FitsAt code rank row
      → made real facts row ≡ made code facts row
  made_same rank facts (instr.Set scalar expr line) fits =
      ap (λ b. made_where b (Uniform scalar)) (uniform_same facts expr fits.1)
  made_same rank facts row fits = refl

  pub learnt_same : (facts : List Fact) (row : Instr) → FitsInstr code row
      → learnt real facts row ≡ learnt code facts row
  learnt_same facts row fits =
      ap₂ (λ (lost : Fact → Bool) more. filter (λ fact. not (lost fact)) facts ++ more)
      (fun_ext (loses_same row))
      (made_same fits.rank facts row fits.fit)

  pub facts_there : Fits code → (facts : ℕ → List Fact) → AreFacts code facts → AreFacts real facts
  facts_there fits facts are = record {
    start = are.start;
    behind = λ at next opened row fact comes e there has.
        subst (λ l. Contains l fact) (sym
        (learnt_same (facts at) row (Fits-instr-row code at row fits e)))
        (are.behind at next opened row fact (comes_back comes) e there has);
  }

  -- ---- what is demanded
  part_same : (rank : ℕ) (facts : List Fact) (one : DimRow) → FitsPart code rank one
      → is_uniform_part real facts one ≡ is_uniform_part code facts one
  part_same rank facts (part.Span low high) fits =
      ap₂ (λ a b. a && b) (uniform_same facts low fits.0) (uniform_same facts high fits.1)
  part_same rank facts part.Star fits = refl
  part_same rank facts (part.Copied slot) fits = refl

  parts_same : (rank : ℕ) (facts : List Fact) (parts : List DimRow) → All (FitsPart code rank) parts
      → list_all (is_uniform_part real facts) parts ≡ list_all (is_uniform_part code facts) parts
  parts_same rank facts [] fits = refl
  parts_same rank facts (one ∷ parts) fits =
      ap₂ (λ a b. a && b) (part_same rank facts one (All-head (FitsPart code rank) one parts fits))
      (parts_same rank facts parts (All-tail (FitsPart code rank) one parts fits))

  -- the places of a member
  mask_words : (rank : ℕ) (mask : Option ℕ) → IfSome mask (HasExpr code rank)
      → flat_map (words_of real) (as_list mask) ≡ flat_map (words_of code) (as_list mask)
  mask_words rank None has = refl
  mask_words rank (Some mask) has = ap (λ l. l ++ []) (old_words rank mask has)

  tested_places : (words tail : List ExprOp) → flat_map places_in tail ≡ []
      → flat_map places_in (words ++ tail) ≡ flat_map places_in words
  tested_places words tail none =
      flat_map-append places_in words tail
      ∙ (ap (λ l. flat_map places_in words ++ l) none ∙ no_more (flat_map places_in words))

  places_both : (first other rest there : List ExprOp) → flat_map places_in first
      ≡ flat_map places_in other → rest ≡ there
      → flat_map places_in (first ++ rest) ≡ flat_map places_in (other ++ there)
  places_both first other rest there e f =
      flat_map-append places_in first rest
      ∙ (ap₂ (λ a b. a ++ flat_map places_in b) e f ∙ sym (flat_map-append places_in other there))

  while_places : (rank expr : ℕ) → HasExpr code rank expr
      → flat_map places_in (words_of real (while_expr n code expr))
      ≡ flat_map places_in (words_of code expr)
  while_places rank expr has =
      ap (flat_map places_in)
      (new_words rank expr (while_expr n code expr) (while_words code.cells n)
      (while_there n code expr) has)
      ∙ tested_places (words_of code expr) _ refl

  until_places : (rank expr : ℕ) → HasExpr code rank expr
      → flat_map places_in (words_of real (until_expr n code expr))
      ≡ flat_map places_in (words_of code expr)
  until_places rank expr has =
      ap (flat_map places_in)
      (new_words rank expr (until_expr n code expr) (until_words code.cells n)
      (until_there n code expr) has)
      ∙ tested_places (words_of code expr) _ refl

  masked_places : (rank expr : ℕ) (mask : Option ℕ) → HasExpr code rank expr
      → IfSome mask (HasExpr code rank)
      → flat_map places_in (flat_map (words_of real) (expr ∷ as_list mask))
      ≡ flat_map places_in (flat_map (words_of code) (expr ∷ as_list mask))
  masked_places rank expr mask has masks =
      places_both (words_of real expr) (words_of code expr) _ _
      (ap (flat_map places_in) (old_words rank expr has)) (mask_words rank mask masks)

  head_places : (rank : ℕ) (one : Member) → FitsMember code rank one
      → places_of real (head n code one) ≡ places_of code one
  head_places rank (member.Put array expr mask line) fits =
      ap (λ l. map (λ array. (array, unmoved)) (array ∷ []) ++ l)
      (masked_places rank expr mask fits.1 fits.2)
  head_places rank (member.Cell cell expr mask line) fits =
      masked_places rank expr mask fits.1 fits.2
  head_places rank (member.Acc scalar f expr mask line) fits =
      masked_places rank expr mask fits.1 fits.2
  head_places rank (member.OpenIf expr mask line) fits = masked_places rank expr mask fits.0 fits.1
  head_places rank member.Otherwise fits = refl
  head_places rank member.CloseIf fits = refl
  head_places rank (member.OpenWhile expr mask line) fits =
      places_both (words_of real (while_expr n code expr)) (words_of code expr) _ _
      (while_places rank expr fits.0) (mask_words rank mask fits.1)
  head_places rank member.CloseWhile fits = refl
  head_places rank (member.OpenRepeat mask line) fits =
      ap (flat_map places_in) (mask_words rank mask fits)
  head_places rank (member.Until expr) fits =
      places_both (words_of real (until_expr n code expr)) (words_of code expr) [] []
      (until_places rank expr fits) refl

  number_words_there : (k : ℕ) → k < suc n → words_of real (number_expr n code k) ≡ number_words k
  number_words_there k less = ap rows_or_none (number_there n code k less)

  equal_words_there : (k : ℕ) → k < n → words_of real (equal_expr n code k)
      ≡ equal_words code.cells k
  equal_words_there k less = ap rows_or_none (equal_there n code k less)

  module _ (facts : List Fact) (slot : ℕ) where
    abbrev holds : Tables → Member → Bool
    holds tables one = list_all (has_place tables facts slot) (places_of tables one)

    counting_hold : (k : ℕ) → k ≤ n → list_all (holds real) (counting n code k) ≡ true
    counting_hold zero few = refl
    counting_hold (suc k) few =
        ap₂ (λ (first second : List ExprOp). list_all (has_place real facts slot)
        (flat_map places_in (first ++ (second ++ []))) && list_all (holds real) (counting n code k))
        (number_words_there (suc k) (omega (arith, few))) (equal_words_there k (omega (arith, few)))
        ∙ counting_hold k (omega (arith, few))

    idling_hold : (k : ℕ) → list_all (holds real) (idling n code k) ≡ true
    idling_hold zero = refl
    idling_hold (suc k) =
        ap (λ (first : List ExprOp). list_all (has_place real facts slot)
        (flat_map places_in (first ++ (first ++ []))) && list_all (holds real) (idling n code k))
        (number_words_there 0 (omega arith))
        ∙ idling_hold k

    block_hold : (b : Bool) → list_all (holds real) (block n code b) ≡ true
    block_hold true = counting_hold n (omega arith)
    block_hold false = idling_hold n

    and_true : (b : Bool) → (b && true) ≡ b
    and_true true = refl
    and_true false = refl

    members_hold : (rank : ℕ) (members : List Member) → All (FitsMember code rank) members
        → list_all (holds real) (counted_group n code members) ≡ list_all (holds code) members
    members_hold rank [] fits = refl
    members_hold rank (one ∷ members) fits =
        list_all-append (holds real) (counted_member n code one) (counted_group n code members)
        ∙ ap₂ (λ a b. a && b)
        (ap (list_all (holds real)) (split n code one)
        ∙ (ap₂ (λ l b. list_all (has_place code facts slot) l && b)
        (head_places rank one (All-head (FitsMember code rank) one members fits))
        (block_hold (is_turning one))
        ∙ and_true (holds code one)))
        (members_hold rank members (All-tail (FitsMember code rank) one members fits))

  own_same : (rank : ℕ) (facts : List Fact) (opened : List ℕ) (row : Instr) → FitsAt code rank row
      → has_own real facts opened row ≡ has_own code facts opened row
  own_same rank facts opened (instr.Set scalar expr line) fits =
      ap₂ (λ (words : List ExprOp) b. not (list_any divides_in words) || b)
      (scalar_words expr fits.1)
      (uniform_same facts expr fits.1)
  own_same rank facts opened (instr.Dims slot parts line) fits =
      parts_same rank facts parts fits.1.0
  own_same rank facts opened (instr.Unless expr goal line) fits = uniform_same facts expr fits.0
  own_same rank facts opened (instr.Number expr) fits = uniform_same facts expr fits
  own_same rank facts opened (instr.Truth expr) fits = uniform_same facts expr fits
  own_same rank facts opened (instr.Loop slot group) fits =
      ap (list_all (holds facts slot real)) (group_same group)
      ∙ by (slice_get code.groups group) fits.1
    where
      by : (o : Option (List Member)) → IsSomeAnd o (All (FitsMember code rank))
          → list_all (holds facts slot real) (counted_group n code (rows_or_none o))
          ≡ list_all (holds facts slot code) (rows_or_none o)
      by None has = absurd has
      by (Some members) has = members_hold facts slot rank members has
  own_same rank facts opened row fits = refl

  pub met_same : (facts : List Fact) (opened : List ℕ) (row : Instr) → FitsInstr code row
      → is_met real facts opened row ≡ is_met code facts opened row
  met_same facts opened row fits =
      ap (λ b. b && leaves_slots code opened row) (own_same fits.rank facts opened row fits.fit)

  -- ---- sound code
  pub counted_sound : Fits code → IsSound code → IsSound real
  counted_sound fits sound at row e =
      let meets = sound at row e in
      let fit = Fits-instr-row code at row fits e in
      record {
        alike = λ one other here there. meets.alike one other (comes_back here) (comes_back there);
        met = λ opened comes.
            let has = meets.met opened (comes_back comes) in
            record {
              facts = has.facts;
              right = facts_there fits has.facts has.right;
              met = met_same (has.facts at) opened row fit ∙ has.met;
            };
      }

  pub counted_links : (links : ℕ) → IsLinksNeeded code links → IsLinksNeeded real links
  counted_links links needed = record {
    positive = needed.positive;
    enough = λ at opened comes. needed.enough at opened (comes_back comes);
    least = by needed.least;
  }
    where
      by : (links ≡ 1) ⊎ ((at : ℕ) × (opened : List ℕ) × Comes code at opened
          × (length opened ≡ links))
          → (links ≡ 1) ⊎ ((at : ℕ) × (opened : List ℕ) × Comes real at opened
          × (length opened ≡ links))
      by (inl one) = inl one
      by (inr there) = inr (there.0, there.1, comes_there there.2, there.3)
