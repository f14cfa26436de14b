-- Rows that fit, laid out in tables without rows, make tables that fit.
use Rattle.std.proofs.Common.{◌≡◌, ℕ, zero, suc, ◌+◌, ◌<◌, ◌≤◌, List, [], ◌∷◌, ◌++◌, length, drop, refl, sym, ap, ◌∙◌, subst, arith, length-append, append_assoc}
use Rattle.std.specs.Prelude.{Option, Some, None, slice_get, All, replicate, flat_map}
use Rattle.std.specs.List.{AllByRecursion}
use Rattle.std.specs.Option.{IfSome, IsSomeAnd}
use Rattle.std.proofs.lemmas.List.{length-replicate}
use Rattle.std.proofs.lemmas.List.Elements.{All-append, All-cons, All-nil, All-from_recursion, All-weaker}
use Rattle.stored_shifts.specs.of_node_form.declared.words.ExprOp.TheVariants as word
use Rattle.stored_shifts.specs.of_node_form.declared.members.Member as number
use Rattle.stored_shifts.specs.of_node_form.declared.instructions.Instr.{Instr}
use Rattle.stored_shifts.specs.of_node_form.declared.instructions.Instr.TheVariants as instr
use Rattle.stored_shifts.specs.of_node_form.declared.tables.Tables.{Tables}
use Rattle.stored_shifts.specs.of_node_form.Fits.{IsRank, HasArray, FitsArray, FitsWord, FitsExpr, IsScalarWord, HasScalarExpr, HasExpr, FitsMember, FitsGroup, FitsPart, IsStar, FitsInstr, Keeps, Grows, FitsExchange}
use Rattle.stored_shifts.specs.of_node_form.Grid.{IsGrid}
use Rattle.stored_shifts.proofs.of_node_form.GrowthLemmas.{Keeps-append, Keeps-same, FitsWord-grows, FitsExpr-grows, FitsGroup-grows, FitsInstr-grows}
use Rattle.lower_numbers.specs.of_flat_form.Flat.{IsFlatRow, IsFlat}
use Rattle.lower_numbers.specs.of_flat_form.Row as row
use Rattle.lower_numbers.specs.of_flat_form.Row.{Words, Member, Part, Row, with_row, with_rows, all_coded, member_words, member_coded, mask_words, numbered, part_words, part_coded, row_words, row_groups, row_texts, coded, group_coded}
use Rattle.lowering_fits.specs.Inline.{IsOwnRow, FitsWords, FitsScalar, FitsMask, FitsInside, AllInside, FitsDim, AllDims, AllStars, StarsPast, long, FitsRow, FitRows, IsGround}

-- ---- what stands behind other things

last_placed : {X : Type 0} (xs : List X) (y : X) (ys : List X) →
    slice_get (xs ++ y ∷ ys) (length xs) ≡ Some y
last_placed [] y ys = refl
last_placed (x ∷ xs) y ys = last_placed xs y ys

-- words stand from a number on
abbrev StandFrom : List Words → ℕ → List Words → Type 0
StandFrom all n [] = Unit {0}
StandFrom all n (one ∷ rest) = (slice_get all n ≡ Some one) × StandFrom all (n + 1) rest

stand_behind : (all front words : List Words) → all ≡ front ++ words →
    StandFrom all (length front) words
stand_behind all front [] is = tt
stand_behind all front (one ∷ words) is = (
  subst (λ xs. slice_get xs (length front) ≡ Some one) (sym is) (last_placed front one words),
  subst (λ n. StandFrom all n words) (length-append front (one ∷ []))
      (stand_behind all (front ++ one ∷ []) words (is ∙ sym (append_assoc front (one ∷ []) words))),
)

stand_first : (all : List Words) (n : ℕ) (xs ys : List Words) → StandFrom all n (xs ++ ys) →
    StandFrom all n xs
stand_first all n [] ys stand = tt
stand_first all n (x ∷ xs) ys stand = (stand.0, stand_first all (n + 1) xs ys stand.1)

stand_rest : (all : List Words) (n : ℕ) (xs ys : List Words) → StandFrom all n (xs ++ ys) →
    StandFrom all (n + length xs) ys
stand_rest all n [] ys stand =
    let same : n ≡ n + 0 = omega arith in subst (λ k. StandFrom all k ys) same stand
stand_rest all n (x ∷ xs) ys stand =
    let same : (n + 1) + length xs ≡ n + suc (length xs) = omega arith in
    subst (λ k. StandFrom all k ys) same (stand_rest all (n + 1) xs ys stand.1)

-- ---- parts of rows, in tables that have grown

module _ (base now : Tables) (grows : Grows base now) where
  word_all : (rank : ℕ) (words : Words) → FitsWords base rank words → All (FitsWord now rank) words
  word_all rank words fits =
      All-weaker (FitsWord base rank) (FitsWord now rank) (FitsWord-grows base now grows rank) words
      fits.fit

  expr_fits : (rank : ℕ) (words : Words) → IsRank rank → FitsWords base rank words →
      FitsExpr now words
  expr_fits rank words is fits =
      record { stack = fits.stack; rank = rank; is_rank = is; fit = word_all rank words fits }

  has_expr : (rank n : ℕ) (words : Words) → slice_get now.exprs n ≡ Some words →
      FitsWords base rank words → HasExpr now rank n
  has_expr rank n words stands fits =
      subst (λ o. IsSomeAnd o (All (FitsWord now rank))) (sym stands) (word_all rank words fits)

  has_scalar : (n : ℕ) (words : Words) → slice_get now.exprs n ≡ Some words →
      FitsScalar base words → HasScalarExpr now n
  has_scalar n words stands fits =
      subst (λ o. IsSomeAnd o (All IsScalarWord)) (sym stands) fits.scalar

  has_mask : (rank n : ℕ) (mask : Option Words) → StandFrom now.exprs n (mask_words mask) →
      FitsMask base rank mask → IfSome (numbered n mask) (HasExpr now rank)
  has_mask rank n None stand fits = tt
  has_mask rank n (Some words) stand fits = has_expr rank n words stand.0 fits

  has_array : (rank array : ℕ) → HasArray base rank array → HasArray now rank array
  has_array rank array has = FitsWord-grows base now grows rank (word.Here array) has

  -- a member whose words stand from n on
  member_fits : (rank n : ℕ) (one : Member) → StandFrom now.exprs n (member_words one) →
      FitsInside base rank one → FitsMember now rank (member_coded n one)
  member_fits rank n (row.Put array expr mask line) stand fits = (
    has_array rank array fits.0,
    has_expr rank n expr stand.0 fits.1,
    has_mask rank (n + 1) mask stand.1 fits.2,
  )
  member_fits rank n (row.Cell cell expr mask line) stand fits =
      let more = grows.cells in let inside = fits.0 in (
        omega arith,
        has_expr rank n expr stand.0 fits.1,
        has_mask rank (n + 1) mask stand.1 fits.2,
      )
  member_fits rank n (row.Acc scalar operator expr mask line) stand fits =
      let more = grows.scalars in let inside = fits.0 in (
        omega arith,
        has_expr rank n expr stand.0 fits.1,
        has_mask rank (n + 1) mask stand.1 fits.2,
      )
  member_fits rank n (row.OpenIf expr mask line) stand fits =
      (has_expr rank n expr stand.0 fits.0, has_mask rank (n + 1) mask stand.1 fits.1)
  member_fits rank n row.Otherwise stand fits = tt
  member_fits rank n row.CloseIf stand fits = tt
  member_fits rank n (row.OpenWhile expr mask line) stand fits =
      (has_expr rank n expr stand.0 fits.0, has_mask rank (n + 1) mask stand.1 fits.1)
  member_fits rank n row.CloseWhile stand fits = tt
  member_fits rank n (row.OpenRepeat mask line) stand fits = has_mask rank n mask stand fits
  member_fits rank n (row.Until expr) stand fits = has_expr rank n expr stand.0 fits

  members_fit : (rank n : ℕ) (group : List Member) →
      StandFrom now.exprs n (flat_map member_words group) → AllInside base rank group →
      AllByRecursion (FitsMember now rank) (group_coded n group)
  members_fit rank n [] stand fits = tt
  members_fit rank n (one ∷ group) stand fits = (
    member_fits rank n one
        (stand_first now.exprs n (member_words one) (flat_map member_words group) stand) fits.0,
    members_fit rank (n + length (member_words one)) group
        (stand_rest now.exprs n (member_words one) (flat_map member_words group) stand) fits.1,
  )

  -- a dimension
  part_fits : (rank n : ℕ) (one : Part) → StandFrom now.exprs n (part_words one) →
      FitsDim base rank one → FitsPart now rank (part_coded n one)
  part_fits rank n (row.Span low high) stand fits =
      (has_scalar n low stand.0 fits.0, has_scalar (n + 1) high stand.1.0 fits.1)
  part_fits rank n row.Star stand fits = tt
  part_fits rank n (row.Copied slot) stand fits = grows.slots slot rank fits

  parts_fit : (rank n : ℕ) (parts : List Part) →
      StandFrom now.exprs n (flat_map part_words parts) → AllDims base rank parts →
      AllByRecursion (FitsPart now rank) (all_coded part_words part_coded n parts)
  parts_fit rank n [] stand fits = tt
  parts_fit rank n (one ∷ parts) stand fits = (
    part_fits rank n one
        (stand_first now.exprs n (part_words one) (flat_map part_words parts) stand) fits.0,
    parts_fit rank (n + length (part_words one)) parts
        (stand_rest now.exprs n (part_words one) (flat_map part_words parts) stand) fits.1,
  )

  -- and the expressions that they are made of
  mask_exprs : (rank : ℕ) (mask : Option Words) → IsRank rank → FitsMask base rank mask →
      All (FitsExpr now) (mask_words mask)
  mask_exprs rank None is fits = All-nil (FitsExpr now)
  mask_exprs rank (Some words) is fits =
      All-cons (FitsExpr now) words [] (expr_fits rank words is fits) (All-nil (FitsExpr now))

  both_exprs : (rank : ℕ) (expr : Words) (mask : Option Words) → IsRank rank →
      FitsWords base rank expr → FitsMask base rank mask →
      All (FitsExpr now) (expr ∷ mask_words mask)
  both_exprs rank expr mask is fits masks =
      All-cons (FitsExpr now) expr (mask_words mask) (expr_fits rank expr is fits)
      (mask_exprs rank mask is masks)

  member_exprs : (rank : ℕ) (one : Member) → IsRank rank → FitsInside base rank one →
      All (FitsExpr now) (member_words one)
  member_exprs rank (row.Put array expr mask line) is fits =
      both_exprs rank expr mask is fits.1 fits.2
  member_exprs rank (row.Cell cell expr mask line) is fits =
      both_exprs rank expr mask is fits.1 fits.2
  member_exprs rank (row.Acc scalar operator expr mask line) is fits =
      both_exprs rank expr mask is fits.1 fits.2
  member_exprs rank (row.OpenIf expr mask line) is fits =
      both_exprs rank expr mask is fits.0 fits.1
  member_exprs rank row.Otherwise is fits = All-nil (FitsExpr now)
  member_exprs rank row.CloseIf is fits = All-nil (FitsExpr now)
  member_exprs rank (row.OpenWhile expr mask line) is fits =
      both_exprs rank expr mask is fits.0 fits.1
  member_exprs rank row.CloseWhile is fits = All-nil (FitsExpr now)
  member_exprs rank (row.OpenRepeat mask line) is fits = mask_exprs rank mask is fits
  member_exprs rank (row.Until expr) is fits = both_exprs rank expr None is fits tt

  members_exprs : (rank : ℕ) (group : List Member) → IsRank rank → AllInside base rank group →
      All (FitsExpr now) (flat_map member_words group)
  members_exprs rank [] is fits = All-nil (FitsExpr now)
  members_exprs rank (one ∷ group) is fits =
      All-append (FitsExpr now) (member_words one) (flat_map member_words group)
      (member_exprs rank one is fits.0) (members_exprs rank group is fits.1)

  scalar_fits : (words : Words) → FitsScalar base words → FitsExpr now words
  scalar_fits words fits = expr_fits 1 words (omega arith, omega arith) fits.stands

  one_scalar : (words : Words) → FitsScalar base words → All (FitsExpr now) (words ∷ [])
  one_scalar words fits =
      All-cons (FitsExpr now) words [] (scalar_fits words fits) (All-nil (FitsExpr now))

  part_exprs : (rank : ℕ) (one : Part) → FitsDim base rank one →
      All (FitsExpr now) (part_words one)
  part_exprs rank (row.Span low high) fits =
      All-cons (FitsExpr now) low (high ∷ []) (scalar_fits low fits.0) (one_scalar high fits.1)
  part_exprs rank row.Star fits = All-nil (FitsExpr now)
  part_exprs rank (row.Copied slot) fits = All-nil (FitsExpr now)

  parts_exprs : (rank : ℕ) (parts : List Part) → AllDims base rank parts →
      All (FitsExpr now) (flat_map part_words parts)
  parts_exprs rank [] fits = All-nil (FitsExpr now)
  parts_exprs rank (one ∷ parts) fits =
      All-append (FitsExpr now) (part_words one) (flat_map part_words parts)
      (part_exprs rank one fits.0) (parts_exprs rank parts fits.1)

-- ---- the parts of a dimension past the rank

stars_coded : (n : ℕ) (parts : List Part) → AllStars parts →
    AllByRecursion IsStar (all_coded part_words part_coded n parts)
stars_coded n [] stars = tt
stars_coded n (row.Span low high ∷ parts) stars = absurd stars.0
stars_coded n (row.Star ∷ parts) stars = (tt, stars_coded (n + 0) parts stars.1)
stars_coded n (row.Copied slot ∷ parts) stars = absurd stars.0

stars_past : (rank n : ℕ) (parts : List Part) → StarsPast rank parts →
    AllByRecursion IsStar (drop rank (all_coded part_words part_coded n parts))
stars_past zero n [] stars = tt
stars_past (suc rank) n [] stars = tt
stars_past zero n (one ∷ parts) stars = stars_coded n (one ∷ parts) stars
stars_past (suc rank) n (one ∷ parts) stars =
    stars_past rank (n + length (part_words one)) parts stars

-- ---- tables that rows were laid out in

pub record Laid (base now : Tables) (count : ℕ) : Type 0 where
  pub grows : Grows base now
  pub grid : now.grid ≡ base.grid
  pub slots : now.slots ≡ base.slots
  pub arrays : now.arrays ≡ base.arrays
  pub exchanges : now.exchanges ≡ []
  pub exprs : All (FitsExpr now) now.exprs
  pub groups : All (FitsGroup now) now.groups
  pub code : All (FitsInstr (long now count)) now.code
  pub flat : All IsFlatRow now.code

Keeps-both : {X : Type 0} (xs ys zs : List X) → Keeps xs ys → Keeps ys zs → Keeps xs zs
Keeps-both xs ys zs first second k one at = second k one (first k one at)

-- behind them
abbrev more : Tables → List Words → List (List number.Member) → List (List ℕ) → Instr → Tables
more now exprs groups texts one = record now {
  exprs = now.exprs ++ exprs;
  groups = now.groups ++ groups;
  texts = now.texts ++ texts;
  code = now.code ++ one ∷ [];
}

more_grows : (now : Tables) (exprs : List Words) (groups : List (List number.Member))
    (texts : List (List ℕ)) (one : Instr) → Grows now (more now exprs groups texts one)
more_grows now exprs groups texts one = record {
  scalars = omega arith;
  cells = omega arith;
  slots = Keeps-same now.slots;
  arrays = Keeps-same now.arrays;
  texts = omega (arith, length-append now.texts texts);
  exprs = Keeps-append now.exprs exprs;
  groups = Keeps-append now.groups groups;
  exchanges = omega arith;
  code = omega (arith, length-append now.code (one ∷ []));
}

grows_on : (old mid new : Tables) → Grows old mid → Grows mid new → Grows old new
grows_on old mid new first second = record {
  scalars = omega (arith, first.scalars, second.scalars);
  cells = omega (arith, first.cells, second.cells);
  slots = Keeps-both old.slots mid.slots new.slots first.slots second.slots;
  arrays = Keeps-both old.arrays mid.arrays new.arrays first.arrays second.arrays;
  texts = omega (arith, first.texts, second.texts);
  exprs = Keeps-both old.exprs mid.exprs new.exprs first.exprs second.exprs;
  groups = Keeps-both old.groups mid.groups new.groups first.groups second.groups;
  exchanges = omega (arith, first.exchanges, second.exchanges);
  code = omega (arith, first.code, second.code);
}

-- the same with so many rows of code
long_grows : (old new : Tables) (count : ℕ) → Grows old new →
    Grows (long old count) (long new count)
long_grows old new count grows = record {
  scalars = grows.scalars;
  cells = grows.cells;
  slots = grows.slots;
  arrays = grows.arrays;
  texts = grows.texts;
  exprs = grows.exprs;
  groups = grows.groups;
  exchanges = grows.exchanges;
  code = omega arith;
}

flat_of : (one : Instr) → IsOwnRow one → IsFlatRow one
flat_of (instr.Set scalar expr line) own = absurd own
flat_of (instr.Fix slot region) own = tt
flat_of (instr.Dims slot parts line) own = absurd own
flat_of (instr.Formed form slot from shift line) own = tt
flat_of (instr.Need slot array shift line) own = tt
flat_of (instr.Same target source kind line) own = tt
flat_of (instr.Fits slot shift line) own = tt
flat_of (instr.Room array slot) own = tt
flat_of (instr.Clear array) own = tt
flat_of (instr.Loop slot group) own = absurd own
flat_of (instr.Start exchange) own = absurd own
flat_of (instr.Finish exchange) own = absurd own
flat_of (instr.Edge kind array slot shift) own = tt
flat_of (instr.Flood array target from source) own = tt
flat_of (instr.Part array target fold from source) own = tt
flat_of (instr.Scan array slot fold along from mask) own = tt
flat_of (instr.Vote group) own = absurd own
flat_of (instr.Fold scalar fold) own = tt
flat_of (instr.TreeVote group) own = absurd own
flat_of (instr.TreeFold scalar fold) own = absurd own
flat_of (instr.Print text) own = absurd own
flat_of (instr.Number expr) own = absurd own
flat_of (instr.Truth expr) own = absurd own
flat_of (instr.Gather truth array slot) own = tt
flat_of (instr.Jump goal) own = tt
flat_of (instr.Unless expr goal line) own = absurd own
flat_of (instr.Trap kind line) own = tt
flat_of instr.End own = tt
flat_of (instr.Remap array slot from parts) own = tt

module _ (base now : Tables) (count : ℕ) (laid : Laid base now count) where
  laid_more : (exprs : List Words) (groups : List (List number.Member)) (texts : List (List ℕ))
      (one : Instr) →
      All (FitsExpr (more now exprs groups texts one)) exprs →
      All (FitsGroup (more now exprs groups texts one)) groups →
      FitsInstr (long (more now exprs groups texts one) count) one → IsFlatRow one →
      Laid base (more now exprs groups texts one) count
  laid_more exprs groups texts one exprs_fit groups_fit fits flat =
      let new : Tables = more now exprs groups texts one in
      let grows : Grows now new = more_grows now exprs groups texts one in
      record {
        grows = grows_on base now new laid.grows grows;
        grid = laid.grid;
        slots = laid.slots;
        arrays = laid.arrays;
        exchanges = laid.exchanges;
        exprs = All-append (FitsExpr new) now.exprs exprs
            (All-weaker (FitsExpr now) (FitsExpr new) (FitsExpr-grows now new grows) now.exprs laid.exprs)
            exprs_fit;
        groups = All-append (FitsGroup new) now.groups groups
            (All-weaker (FitsGroup now) (FitsGroup new) (FitsGroup-grows now new grows) now.groups
            laid.groups) groups_fit;
        code = All-append (FitsInstr (long new count)) now.code (one ∷ [])
            (All-weaker (FitsInstr (long now count)) (FitsInstr (long new count))
            (FitsInstr-grows (long now count) (long new count) (long_grows now new count grows))
            now.code laid.code)
            (All-cons (FitsInstr (long new count)) one [] fits (All-nil (FitsInstr (long new count))));
        flat = All-append IsFlatRow now.code (one ∷ []) laid.flat
            (All-cons IsFlatRow one [] flat (All-nil IsFlatRow));
      }

  -- what stands behind the expressions that were there
  behind_exprs : (exprs : List Words) → StandFrom (now.exprs ++ exprs) (length now.exprs) exprs
  behind_exprs exprs = stand_behind (now.exprs ++ exprs) now.exprs exprs refl

  -- one expression and no group
  laid_scalar : (expr : Words) (one : Instr) → FitsScalar base expr →
      (HasScalarExpr (long (more now (expr ∷ []) [] [] one) count) (length now.exprs) →
      FitsInstr (long (more now (expr ∷ []) [] [] one) count) one) → IsFlatRow one →
      Laid base (more now (expr ∷ []) [] [] one) count
  laid_scalar expr one fits instr_fits flat =
      let new : Tables = more now (expr ∷ []) [] [] one in
      let grows : Grows base new =
      grows_on base now new laid.grows (more_grows now (expr ∷ []) [] [] one) in
      laid_more (expr ∷ []) [] [] one (one_scalar base new grows expr fits)
      (All-nil (FitsGroup new))
      (instr_fits (has_scalar base new grows (length now.exprs) expr (behind_exprs (expr ∷ [])).0 fits))
      flat

  laid_row : (one : Row) → FitsRow base count one → Laid base (with_row now one) count
  laid_row (row.Set scalar expr line) fits =
      let grows = laid.grows in
      let scalars = grows.scalars in
      let inside = fits.0 in
      let more_scalars : scalar < now.scalars = omega arith in
      laid_scalar expr (instr.Set scalar (length now.exprs) line) fits.1
      (λ has. record { rank = 1; fit = (more_scalars, has) }) tt
  laid_row (row.Dims slot parts line) fits =
      let one : Instr =
      instr.Dims slot (all_coded part_words part_coded (length now.exprs) parts) line in
      let exprs : List Words = flat_map part_words parts in
      let new : Tables = more now exprs [] [] one in
      let grows : Grows base new =
      grows_on base now new laid.grows (more_grows now exprs [] [] one) in
      laid_more exprs [] [] one (parts_exprs base new grows fits.rank parts fits.fit)
      (All-nil (FitsGroup new))
      (record {
        rank = fits.rank;
        fit = (
          grows.slots slot fits.rank fits.over,
          (
            All-from_recursion (FitsPart (long new count) fits.rank)
                (all_coded part_words part_coded (length now.exprs) parts)
                (parts_fit base new grows fits.rank (length now.exprs) parts (behind_exprs exprs)
                fits.fit),
            All-from_recursion IsStar
                (drop fits.rank (all_coded part_words part_coded (length now.exprs) parts))
                (stars_past fits.rank (length now.exprs) parts fits.stars),
          ),
        );
      }) tt
  laid_row (row.Loop slot group) fits =
      let one : Instr = instr.Loop slot (length now.groups) in
      let exprs : List Words = flat_map member_words group in
      let members : List number.Member = group_coded (length now.exprs) group in
      let new : Tables = more now exprs (members ∷ []) [] one in
      let grows : Grows base new =
      grows_on base now new laid.grows (more_grows now exprs (members ∷ []) [] one) in
      let all : All (FitsMember new fits.rank) members =
      All-from_recursion (FitsMember new fits.rank) members
      (members_fit base new grows fits.rank (length now.exprs) group (behind_exprs exprs)
      fits.fit) in
      laid_more exprs (members ∷ []) [] one
      (members_exprs base new grows fits.rank group fits.is_rank fits.fit)
      (All-cons (FitsGroup new) members []
      (record {
        nest = fits.nest (length now.exprs);
        rank = fits.rank;
        is_rank = fits.is_rank;
        fit = all;
      }) (All-nil (FitsGroup new)))
      (record {
        rank = fits.rank;
        fit = (
          grows.slots slot fits.rank fits.over,
          subst (λ o. IsSomeAnd o (All (FitsMember new fits.rank)))
              (sym (last_placed now.groups members [])) all,
        );
      }) tt
  laid_row (row.Print text) fits =
      let one : Instr = instr.Print (length now.texts) in
      let new : Tables = more now [] [] (text ∷ []) one in
      let inside : length now.texts < length (now.texts ++ text ∷ []) =
      omega (arith, length-append now.texts (text ∷ [])) in
      laid_more [] [] (text ∷ []) one (All-nil (FitsExpr new)) (All-nil (FitsGroup new))
      (record { rank = 1; fit = inside }) tt
  laid_row (row.Number expr) fits =
      laid_scalar expr (instr.Number (length now.exprs)) fits
      (λ has. record { rank = 1; fit = has }) tt
  laid_row (row.Truth expr) fits =
      laid_scalar expr (instr.Truth (length now.exprs)) fits
      (λ has. record { rank = 1; fit = has }) tt
  laid_row (row.Unless expr goal line) fits =
      let below = fits.1 in
      let within : goal ≤ length (replicate count instr.End) =
      omega (arith, length-replicate count instr.End) in
      laid_scalar expr (instr.Unless (length now.exprs) goal line) fits.0
      (λ has. record { rank = 1; fit = (has, within) }) tt
  laid_row (row.Plain one) fits =
      let new : Tables = more now [] [] [] one in
      let grows : Grows base new =
      grows_on base now new laid.grows (more_grows now [] [] [] one) in
      laid_more [] [] [] one (All-nil (FitsExpr new)) (All-nil (FitsGroup new))
      (FitsInstr-grows (long base count) (long new count) (long_grows base new count grows) one
      fits.0) (flat_of one fits.1)

laid_rows : (base : Tables) (count : ℕ) (now : Tables) (rows : List Row) → Laid base now count →
    FitRows base count rows → Laid base (with_rows now rows) count
laid_rows base count now [] laid fit = laid
laid_rows base count now (one ∷ rows) laid fit =
    laid_rows base count (with_row now one) rows (laid_row base now count laid one fit.0) fit.1

rows_counted : (now : Tables) (rows : List Row) →
    length (with_rows now rows).code ≡ length now.code + length rows
rows_counted now [] = omega arith
rows_counted now (one ∷ rows) =
    rows_counted (with_row now one) rows
    ∙ omega (arith, length-append now.code (coded now one ∷ []))

nothing_laid : (base : Tables) (count : ℕ) → IsGround base → Laid base base count
nothing_laid base count is = record {
  grows = record {
    scalars = omega arith;
    cells = omega arith;
    slots = Keeps-same base.slots;
    arrays = Keeps-same base.arrays;
    texts = omega arith;
    exprs = Keeps-same base.exprs;
    groups = Keeps-same base.groups;
    exchanges = omega arith;
    code = omega arith;
  };
  grid = refl;
  slots = refl;
  arrays = refl;
  exchanges = is.exchanges;
  exprs = subst (All (FitsExpr base)) (sym is.exprs) (All-nil (FitsExpr base));
  groups = subst (All (FitsGroup base)) (sym is.groups) (All-nil (FitsGroup base));
  code = subst (All (FitsInstr (long base count))) (sym is.code) (All-nil (FitsInstr (long base count)));
  flat = subst (All IsFlatRow) (sym is.code) (All-nil IsFlatRow);
}

-- code of just so many rows
as_long : (now : Tables) (count : ℕ) → length now.code ≡ count → Grows (long now count) now
as_long now count is = record {
  scalars = omega arith;
  cells = omega arith;
  slots = Keeps-same now.slots;
  arrays = Keeps-same now.arrays;
  texts = omega arith;
  exprs = Keeps-same now.exprs;
  groups = Keeps-same now.groups;
  exchanges = omega arith;
  code = omega (arith, length-replicate count instr.End);
}

pub rows_make_flat : (base : Tables) (rows : List Row) → IsGround base → IsGrid base.grid →
    All IsRank base.slots → All FitsArray base.arrays → FitRows base (length rows) rows →
    IsFlat (with_rows base rows)
rows_make_flat base rows ground grid slots arrays fit =
    let count : ℕ = length rows in
    let new : Tables = with_rows base rows in
    let laid : Laid base new count =
    laid_rows base count base rows (nothing_laid base count ground) fit in
    let counted : length new.code ≡ count =
    rows_counted base rows ∙ omega (arith, ap length ground.code) in
    record {
      fits = record {
        grid = subst IsGrid (sym laid.grid) grid;
        slots = subst (All IsRank) (sym laid.slots) slots;
        arrays = subst (All FitsArray) (sym laid.arrays) arrays;
        exprs = laid.exprs;
        groups = laid.groups;
        exchanges = subst (All (FitsExchange new)) (sym laid.exchanges) (All-nil (FitsExchange new));
        code = All-weaker (FitsInstr (long new count)) (FitsInstr new)
            (FitsInstr-grows (long new count) new (as_long new count counted)) new.code laid.code;
      };
      rows = laid.flat;
    }
