-- The phases of a statement, and a loop behind them that puts one array.
use Rattle.std.proofs.Common.{◌≡◌, inl, inr, ℕ, ◌+◌, ◌<◌, Bool, true, false, pos, List, [], ◌∷◌, ◌++◌, sym, ap, ◌∙◌, subst, arith}
use Rattle.std.specs.Prelude.{Option, Some, None, slice_get}
use Rattle.zpl_meaning.specs.Context.{Mask}
use Rattle.node_form.specs.declared.arrays.Item.{Item}
use Rattle.node_form.specs.Expression.{Expression, Constant, Element, words_of}
use Rattle.row_runs.specs.Structured as piece
use Rattle.row_runs.specs.Structured.{Piece, size}
use Rattle.lowering_fits.specs.of_flat_form.Row as row
use Rattle.lowering_fits.specs.of_flat_form.Row.{Row, Member}
use Rattle.lowering_fits.specs.of_zpl_lowering.Check.{Check}
use Rattle.lowering_fits.specs.of_zpl_lowering.Where.{Stored, Numbers, Slotted, Where, Next}
use Rattle.lowering_fits.specs.of_zpl_lowering.Slate.{Slate, Slates, Settled, settled, settled_each, Placed}
use Rattle.lowering_fits.specs.of_zpl_lowering.Reference.{Reference, refer_to, over_reference, referred, all_referred, all_conforming, needs}
use Rattle.lowering_fits.specs.of_zpl_lowering.Hoist.{Hoisted, mask_word, array_code, mask_code, hoisted, all_hoisted}
use Rattle.lowering_fits.specs.of_zpl_lowering.Lowered.{Phased, free_at, phased_with, first_left}
use Rattle.lowering_fits.specs.of_zpl_lowering.Statement.{put_row, lowered_array}
use Rattle.lowering_checks.specs.Walked.{KnowsMask, KnowsMembers, Since, behind_rows, MayRun, laid, HasChecks}
use Rattle.lowering_checks.proofs.WalkLemmas.{behind_both, laid_rows, laid_then, then_at, rows_check, then_check}
use Rattle.lowering_checks.proofs.KnownLemmas.{AllKnown, all_left, all_right, Knows, needs_know, KnowsTree, tree_words}
use Rattle.lowering_checks.proofs.SlateLemmas.{AllQuiet, quiet_both, quiet_checked, each_quiet, all_conforming_quiet, needs_quiet, Reads, settled_fresh}
use Rattle.lowering_checks.proofs.HoistLemmas.{Away, Ends, hoisted_ends, all_checks}

-- ---- phases

abbrev pub phase_rows : Where → ℕ → Next → List Reference → List Placed → List Row
phase_rows w line next refs placed =
    let all = settled_each w line next placed in
    all.rows ++ (all_conforming line all.slate ++ needs line refs)

phase_quiet : (w : Where) (line : ℕ) (next : Next) (refs : List Reference) (placed : List Placed) →
    AllQuiet (phase_rows w line next refs placed)
phase_quiet w line next refs placed =
    let all : Settled Slates = settled_each w line next placed in
    quiet_both all.rows (all_conforming line all.slate ++ needs line refs)
    (each_quiet w line next placed)
    (quiet_both (all_conforming line all.slate) (needs line refs)
    (all_conforming_quiet line all.slate) (needs_quiet line refs))

pub phases_check : (w : Where) (line : ℕ) (next : Next) (first last : List Reference)
    (placed : List Placed) → HasChecks (phased_with w line next first last placed).lowered.code
phases_check w line next first last placed =
    let all : Settled Slates = settled_each w line next placed in
    let refs : List Reference = first ++ (all_referred w.numbers all.slate ++ last) in
    let code = (all_hoisted w.numbers line (free_at next 0) all.slate).code in
    then_check (piece.Rows (phase_rows w line next refs placed)) code
    (rows_check (phase_rows w line next refs placed) (λ before.
    quiet_checked before (phase_rows w line next refs placed)
    (phase_quiet w line next refs placed)))
    (all_checks w.numbers line (free_at next 0) all.slate)

-- behind the rows before the operators' each reference is known
phase_know : (w : Where) (line : ℕ) (next : Next) (refs : List Reference) (placed : List Placed)
    (at : ℕ) (last : Option Since) →
    Knows (behind_rows last (laid at (piece.Rows (phase_rows w line next refs placed)))) refs
phase_know w line next refs placed at last =
    let all : Settled Slates = settled_each w line next placed in
    let middle = all_conforming line all.slate in
    subst (λ state. Knows state refs)
    (sym (ap (behind_rows last) (laid_rows at (phase_rows w line next refs placed))
    ∙ behind_both last all.rows (middle ++ needs line refs)
    ∙ behind_both (behind_rows last all.rows) middle (needs line refs)))
    (needs_know (behind_rows (behind_rows last all.rows) middle) line refs)

-- ---- masks

word_known : (b : Bool) (known : List Item) (slot : ℕ) (tree : Expression) →
    KnowsTree known slot tree → KnowsTree known slot (mask_word b tree)
word_known true known slot tree knows = knows
word_known false known slot tree knows = knows

stored_known : (b : Bool) (known : List Item) (slot : ℕ) (stored : Option Stored) →
    AllKnown known (refer_to slot [] stored) →
    KnowsTree known slot (mask_word b (array_code stored))
stored_known b known slot None all = word_known b known slot (Constant (pos 0)) tt
stored_known b known slot (Some stored) all =
    word_known b known slot (Element stored.array) all.0

pub mask_known : (numbers : Numbers) (known : List Item) (slot : ℕ) (mask : Option Mask)
    (flood : List Bool) →
    AllKnown known
    (over_reference numbers (record { slot = slot; flood = flood; mask = mask })) →
    KnowsMask known slot (mask_code numbers mask)
mask_known numbers known slot None flood all = tt
mask_known numbers known slot (Some mask) flood all =
    tree_words known slot
    (mask_word mask.without (array_code (slice_get numbers.arrays mask.array)))
    (stored_known mask.without known slot (slice_get numbers.arrays mask.array) all)

-- ---- a loop behind the rows of operators

away_run : (n slot : ℕ) (group : List Member) (last : Option Since) → slot < n → Away n last →
    MayRun last slot group
away_run n slot group None below away = tt
away_run n slot group (Some since) below away = λ same.
    let less = away.0 in
    let no : ⊥ = omega (arith, below, less, same) in absurd no

known_run : (slot : ℕ) (group : List Member) (refs : List Reference) (last : Option Since) →
    ((known : List Item) → AllKnown known refs → KnowsMembers known slot group) →
    Knows last refs → MayRun last slot group
known_run slot group refs None members knows = tt
known_run slot group refs (Some since) members knows = λ same. members since.known knows

pub needs_run : (last : Option Since) (line slot : ℕ) (group : List Member)
    (refs : List Reference) →
    ((known : List Item) → AllKnown known refs → KnowsMembers known slot group) →
    MayRun (behind_rows last (needs line refs)) slot group
needs_run last line slot group refs members =
    known_run slot group refs (behind_rows last (needs line refs)) members
    (needs_know last line refs)

module _ (w : Where) (line : ℕ) (next : Next) (over : Slotted) (value : Placed) where
  abbrev slate_here : Slate
  slate_here = (settled w line next value.rank value.expr).slate

  abbrev hoist_here : Hoisted Expression
  hoist_here = hoisted w.numbers line (free_at next 0) slate_here

  abbrev Left : List Item → Type 0
  Left known =
      AllKnown known (referred w.numbers slate_here) → KnowsTree known over.slot hoist_here.left

  -- the members of the loop
  puts_known : (stored : Stored) (known : List Item) → Left known →
      AllKnown known (refer_to over.slot [] (Some stored)
      ++ ((referred w.numbers slate_here ++ []) ++ over_reference w.numbers over)) →
      KnowsMembers known over.slot
      (row.Put stored.array (words_of hoist_here.left) (mask_code w.numbers over.mask) line ∷ [])
  puts_known stored known left all =
      let own = refer_to over.slot [] (Some stored) in
      let read = referred w.numbers slate_here ++ [] in
      let mask = over_reference w.numbers over in
      let later = all_right known own (read ++ mask) all in (
        (
          all.0,
          tree_words known over.slot hoist_here.left
              (left (all_left known (referred w.numbers slate_here) []
              (all_left known read mask later))),
          mask_known w.numbers known over.slot over.mask over.flood
              (all_right known read mask later),
        ),
        tt,
      )

  put_runs : (stored : Stored) → over.slot < next.slots →
      Ends next.slots hoist_here.code Left →
      (let refs = refer_to over.slot [] (Some stored)
      ++ ((referred w.numbers slate_here ++ []) ++ over_reference w.numbers over) in
      let code = piece.Then (piece.Rows (phase_rows w line next refs (value ∷ [])))
      (piece.Then hoist_here.code (piece.Rows [])) in
      (at : ℕ) (last : Option Since) →
      MayRun (behind_rows last (laid at code)) over.slot
      (row.Put stored.array (words_of hoist_here.left) (mask_code w.numbers over.mask) line ∷ []))
  put_runs stored below ends at last = by ends
    where
      group : List Member
      group =
          row.Put stored.array (words_of hoist_here.left) (mask_code w.numbers over.mask) line ∷ []

      refs : List Reference
      refs =
          refer_to over.slot [] (Some stored)
          ++ ((referred w.numbers slate_here ++ []) ++ over_reference w.numbers over)

      front : Piece Row Check
      front = piece.Rows (phase_rows w line next refs (value ∷ []))

      back : Piece Row Check
      back = piece.Then hoist_here.code (piece.Rows [])

      state : Option Since
      state = behind_rows last (laid at front)

      after : ℕ
      after = at + size front

      split : behind_rows last (laid at (piece.Then front back))
          ≡ behind_rows state (laid after hoist_here.code)
      split =
          ap (behind_rows last) (laid_then at front back)
          ∙ behind_both last (laid at front) (laid after back)
          ∙ ap (behind_rows state) (laid_then after hoist_here.code (piece.Rows []))
          ∙ behind_both state (laid after hoist_here.code)
          (laid (after + size hoist_here.code) (piece.Rows []))

      by : Ends next.slots hoist_here.code Left →
          MayRun (behind_rows last (laid at (piece.Then front back))) over.slot group
      by (inl empty) =
          subst (λ s. MayRun s over.slot group)
          (sym (split ∙ ap (behind_rows state) (empty.0 after)))
          (known_run over.slot group refs state
          (λ known all. puts_known stored known (empty.1 known) all)
          (phase_know w line next refs (value ∷ []) at last))
      by (inr away) =
          subst (λ s. MayRun s over.slot group) (sym split)
          (away_run next.slots over.slot group (behind_rows state (laid after hoist_here.code))
          below (away after state))

  pub array_checks : (target : Option Stored) → over.slot < next.slots →
      Reads over.slot slate_here → HasChecks (lowered_array w line next over value target).code
  array_checks None below reads =
      let phases : Phased = phased_with w line next [] (over_reference w.numbers over)
      (value ∷ []) in
      then_check phases.lowered.code (piece.Rows [])
      (phases_check w line next [] (over_reference w.numbers over) (value ∷ []))
      (λ at last. tt)
  array_checks (Some stored) below reads = λ at last.
      let own = refer_to over.slot [] (Some stored) in
      let mask = over_reference w.numbers over in
      let phases : Phased = phased_with w line next own mask (value ∷ []) in
      let ends = hoisted_ends next.slots over.slot w.numbers line (free_at next 0) slate_here
      (settled_fresh next.slots w line next value.rank value.expr (omega arith)) reads in
      then_at at last phases.lowered.code
      (piece.Rows (put_row w line over (first_left phases.left) (Some stored)))
      (phases_check w line next own mask (value ∷ []) at last)
      (put_runs stored below ends at last, tt)
