-- The plan of a flat program fits.
use Rattle.std.proofs.Common.{◌≡◌, refl, subst, arith, ℕ, ◌<◌, Bool, true, false}
use Rattle.std.proofs.Common.{List, [], ◌∷◌, ◌++◌, length, map}
use Rattle.std.specs.Prelude.{All, Option, Some, None, flat_map, fold, if◌then◌else◌, slice_get}
use Rattle.std.specs.Option.{IfSome, IsSomeAnd}
use Rattle.std.specs.List.{AllByRecursion}
use Rattle.std.proofs.lemmas.List.Elements.{recursion_from_All}
use Rattle.std.proofs.lemmas.Option.{get_or_from_slice_get, slice_get_within}
use Rattle.node_form.specs.declared.words.ExprOp.{ExprOp}
use Rattle.node_form.specs.declared.words.ExprOp.TheVariants as word
use Rattle.node_form.specs.declared.arrays.Item.{Item}
use Rattle.node_form.specs.declared.members.Member.{Member}
use Rattle.node_form.specs.declared.members.Member.TheVariants as member
use Rattle.node_form.specs.declared.instructions.Instr.TheVariants as instr
use Rattle.node_form.specs.declared.tables.Tables.{Tables}
use Rattle.node_form.specs.Fits.{Fits, FitsItem, FitsMember, FitsWord, HasExpr, HasGroup, HasSlot}
use Rattle.node_form.specs.Grid.{IsGrid}
use Rattle.code_parts.specs.Exchanged.{is_among}
use Rattle.code_parts.specs.Uses.{as_list, exprs_of, group_words, member_words, members_of}
use Rattle.code_parts.specs.Uses.{rows_or_none, words_of}
use Rattle.pass_parts.proofs.of_flat_passes.StretchLemmas.{every_append}
use Rattle.pass_parts.specs.of_plan_form.Units.{PlanUnit, Exchange, Single, with_item}
use Rattle.pass_parts.specs.of_plan_form.Rewrite.{with_units}
use Rattle.pass_parts.specs.of_comm_needs.Needs.{is_voted_on, loop_with_needs, needed_alone, needed_by, needs_of}
use Rattle.pass_parts.specs.of_comm_needs.Needs.{planned, vote_if, with_needs}
use Rattle.stored_shifts.specs.Stored.{IsStoredRead, ShiftsAreStored}
use Rattle.pass_fits.proofs.UnitLemmas.{FitsUnit, KeepsUnits, units_fit}
use Rattle.pass_fits.proofs.RecodedLemmas.{recoded_fits}

-- ---- items that are added, each once
pub item_added : (P : Item → Type 0) (items : List Item) (item : Item) → AllByRecursion P items
    → P item → AllByRecursion P (with_item items item)
item_added P items item all holds = by (is_among items item)
  where
    by : (b : Bool) → AllByRecursion P (if b then items else items ++ item ∷ [])
    by true = all
    by false = every_append P items (item ∷ []) all (holds, tt)

pub items_added : (P : Item → Type 0) (items others : List Item) → AllByRecursion P items
    → AllByRecursion P others → AllByRecursion P (fold with_item items others)
items_added P items [] all more = all
items_added P items (item ∷ others) all more =
    items_added P (with_item items item) others (item_added P items item all more.0) more.1

every_flat : {X Y : Type 0} (P : X → Type 0) (Q : Y → Type 0) (f : X → List Y)
    → ((x : X) → P x → AllByRecursion Q (f x)) → (xs : List X) → AllByRecursion P xs
    → AllByRecursion Q (flat_map f xs)
every_flat P Q f keeps [] all = tt
every_flat P Q f keeps (x ∷ xs) all =
    every_append Q (f x) (flat_map f xs) (keeps x all.0) (every_flat P Q f keeps xs all.1)

module _ (tables : Tables) (stored : ShiftsAreStored tables) where
  -- ---- words of a group that fits at a rank
  module _ (rank : ℕ) where
    -- the word fits, and what it reads with a shift is stored
    abbrev IsGood : ExprOp → Type 0
    IsGood one = FitsWord tables rank one × IsStoredRead tables one

    both_good : (words : List ExprOp) → AllByRecursion (FitsWord tables rank) words
        → AllByRecursion (IsStoredRead tables) words → AllByRecursion IsGood words
    both_good [] fit reads = tt
    both_good (one ∷ words) fit reads = ((fit.0, reads.0), both_good words fit.1 reads.1)

    stored_at : (expr : ℕ) (words : List ExprOp) → slice_get tables.exprs expr ≡ Some words
        → All (IsStoredRead tables) words
    stored_at expr words found =
        subst (All (IsStoredRead tables)) (get_or_from_slice_get tables.exprs expr words words found)
        (stored expr words (slice_get_within tables.exprs expr words found))

    words_good : (expr : ℕ) (found : Option (List ExprOp)) → slice_get tables.exprs expr ≡ found
        → IsSomeAnd found (All (FitsWord tables rank))
        → AllByRecursion IsGood (rows_or_none found)
    words_good expr None is fit = tt
    words_good expr (Some words) is fit =
        both_good words (recursion_from_All (FitsWord tables rank) words fit)
        (recursion_from_All (IsStoredRead tables) words (stored_at expr words is))

    expr_good : (expr : ℕ) → HasExpr tables rank expr
        → AllByRecursion IsGood (words_of tables expr)
    expr_good expr fit = words_good expr (slice_get tables.exprs expr) refl fit

    masks : (mask : Option ℕ) → IfSome mask (HasExpr tables rank)
        → AllByRecursion (HasExpr tables rank) (as_list mask)
    masks None fit = tt
    masks (Some expr) fit = (fit, tt)

    exprs_fit : (one : Member) → FitsMember tables rank one
        → AllByRecursion (HasExpr tables rank) (exprs_of one)
    exprs_fit (member.Put array expr mask line) fit = (fit.1, masks mask fit.2)
    exprs_fit (member.Cell cell expr mask line) fit = (fit.1, masks mask fit.2)
    exprs_fit (member.Acc scalar fold expr mask line) fit = (fit.1, masks mask fit.2)
    exprs_fit (member.OpenIf expr mask line) fit = (fit.0, masks mask fit.1)
    exprs_fit member.Otherwise fit = tt
    exprs_fit member.CloseIf fit = tt
    exprs_fit (member.OpenWhile expr mask line) fit = (fit.0, masks mask fit.1)
    exprs_fit member.CloseWhile fit = tt
    exprs_fit (member.OpenRepeat mask line) fit = masks mask fit
    exprs_fit (member.Until expr) fit = (fit, tt)

    member_good : (one : Member) → FitsMember tables rank one
        → AllByRecursion IsGood (member_words tables one)
    member_good one fit =
        every_flat (HasExpr tables rank) IsGood (words_of tables) expr_good (exprs_of one)
        (exprs_fit one fit)

    members_fit : (found : Option (List Member))
        → IsSomeAnd found (All (FitsMember tables rank))
        → AllByRecursion (FitsMember tables rank) (rows_or_none found)
    members_fit None fit = tt
    members_fit (Some members) fit = recursion_from_All (FitsMember tables rank) members fit

    group_good : (group : ℕ) → HasGroup tables rank group
        → AllByRecursion IsGood (group_words tables group)
    group_good group fit =
        every_flat (FitsMember tables rank) IsGood (member_words tables) member_good
        (members_of tables group) (members_fit (slice_get tables.groups group) fit)

    -- ---- what a loop needs fits
    needed_fit : (slot : ℕ) → HasSlot tables rank slot → (one : ExprOp) → IsGood one
        → AllByRecursion (FitsItem tables) (needed_by slot one)
    needed_fit slot over (word.Shifted array shift) good = (
      record {
        rank = rank;
        slot = over;
        array = good.0.0;
        stored = good.1;
        shift = good.0.1;
      },
      tt,
    )
    needed_fit slot over (word.Const value) good = tt
    needed_fit slot over (word.Scalar scalar) good = tt
    needed_fit slot over (word.Here array) good = tt
    needed_fit slot over (word.Cell cell) good = tt
    needed_fit slot over (word.Coord dimension) good = tt
    needed_fit slot over (word.Pair op) good = tt
    needed_fit slot over word.Neg good = tt
    needed_fit slot over word.Not good = tt
    needed_fit slot over word.Abs good = tt

    needs_fit : (slot group : ℕ) → HasSlot tables rank slot → HasGroup tables rank group
        → AllByRecursion (FitsItem tables) (needs_of tables slot group)
    needs_fit slot group over fit =
        items_added (FitsItem tables) []
        (flat_map (needed_by slot) (group_words tables group)) tt
        (every_flat IsGood (FitsItem tables) (needed_by slot) (needed_fit slot over)
        (group_words tables group) (group_good group fit))

  -- ---- a loop, with what it needs in front of it and its vote behind it
  module _ (end : ℕ) where
    alone_fit : (items : List Item) → AllByRecursion (FitsItem tables) items
        → AllByRecursion (FitsUnit tables end) (map needed_alone items)
    alone_fit [] all = tt
    alone_fit (item ∷ items) all = ((all.0, tt), alone_fit items all.1)

    group_there : (rank group : ℕ) (found : Option (List Member))
        → slice_get tables.groups group ≡ found
        → IsSomeAnd found (All (FitsMember tables rank)) → group < length tables.groups
    group_there rank group None is fit = absurd fit
    group_there rank group (Some members) is fit = slice_get_within tables.groups group members is

    vote_fits : (b : Bool) (group : ℕ) → group < length tables.groups
        → AllByRecursion (FitsUnit tables end) (vote_if b group)
    vote_fits true group there = (record { rank = 0; fit = there }, tt)
    vote_fits false group there = tt

    loop_fits : (slot group : ℕ) → FitsUnit tables end (Single (instr.Loop slot group))
        → AllByRecursion (FitsUnit tables end) (loop_with_needs tables slot group)
    loop_fits slot group fit =
        every_append (FitsUnit tables end) (map needed_alone (needs_of tables slot group))
        (Single (instr.Loop slot group) ∷ vote_if (is_voted_on tables group) group)
        (alone_fit (needs_of tables slot group)
        (needs_fit fit.rank slot group fit.fit.0 fit.fit.1)) (
          fit,
          vote_fits (is_voted_on tables group) group
              (group_there fit.rank group (slice_get tables.groups group) refl fit.fit.1),
        )

    unit_fits : (unit : PlanUnit) → FitsUnit tables end unit
        → AllByRecursion (FitsUnit tables end) (with_needs tables unit)
    unit_fits (Exchange items) fit = (fit, tt)
    unit_fits (Single (instr.Loop slot group)) fit = loop_fits slot group fit
    unit_fits (Single row) fit = (fit, tt)

  needs_keep : KeepsUnits tables (flat_map (with_needs tables))
  needs_keep end =
      every_flat (FitsUnit tables end) (FitsUnit tables end) (with_needs tables) (unit_fits end)

pub planned_fits : (grid : List ℕ) (tables : Tables) → IsGrid grid → Fits tables
    → ShiftsAreStored tables → Fits (planned grid tables)
planned_fits grid tables is fits stored =
    let plan : Tables = with_units (flat_map (with_needs tables)) tables in
    let fit : Fits plan =
    units_fit tables (flat_map (with_needs tables)) fits (needs_keep tables stored) in
    recoded_fits plan grid plan.code (omega arith) is fit fit.code
