-- In flat code nothing is ever open, so that sets of facts which meet each demand make it sound.
use Rattle.std.proofs.Common.{◌≡◌, ◌⊎◌, inl, inr, ℕ, zero, suc, ◌+◌, ◌<◌, Bool, true, false, ◌&&◌, refl, sym, ap, ◌∙◌, subst, arith, true≢false}
use Rattle.std.proofs.Common.{List, [], ◌∷◌, ◌++◌, length, map, Contains}
use Rattle.std.specs.Prelude.{Option, Some, None, All, slice_get}
use Rattle.std.specs.Option.{option_map}
use Rattle.std.proofs.lemmas.Option.{slice_get-map}
use Rattle.zpl_lowering.specs.of_node_form.declared.instructions.Instr.{Instr}
use Rattle.zpl_lowering.specs.of_node_form.declared.instructions.Instr.TheVariants as instr
use Rattle.zpl_lowering.specs.of_node_form.declared.tables.Tables.{Tables}
use Rattle.code_parts.proofs.ListLemmas.{In, contained, in_list}
use Rattle.zpl_lowering.specs.of_row_runs.Structured.{Piece, size}
use Rattle.zpl_lowering.specs.of_flat_form.Flat.{IsFlat, IsFlatRow}
use Rattle.zpl_lowering.specs.of_flat_form.Row as row
use Rattle.zpl_lowering.specs.of_flat_form.Row.{Row, all_inlined}
use Rattle.zpl_lowering.specs.of_flat_form.Static.{HasFringes}
use Rattle.zpl_lowering.specs.Check.{Check}
use Rattle.lowering_checks.specs.Walked.{laid}
use Rattle.node_check.specs.declared.facts.Fact.{Fact}
use Rattle.node_check.specs.Learn.{learnt, start_facts}
use Rattle.node_check.specs.Path.{AreFacts, Begins, Comes, Follows, nexts, open_behind}
use Rattle.node_check.specs.Demand.{has_own, is_met, leaves_slots}
use Rattle.node_check.specs.Sound.{HasFacts, IsSound, MeetsDemand}
use Rattle.sound_lowering.specs.Goes.{AreIn, Goes, MeetsRow, row_nexts}
use Rattle.sound_lowering.specs.Undecided.{IsUndecidedSound}
use Rattle.sound_lowering.specs.Uniform.{AreTaken, asks_scalars, uniform_at}
use Rattle.sound_lowering.proofs.UniformLemmas.{NamesScalars, all_uniform, uniform_at_start, uniform_behind}
use Rattle.sound_lowering.proofs.SegmentLemmas.{AreAlong, CodeRuns, front, glued, goes_runs, high, laid_long, low}
use Rattle.sound_lowering.proofs.AssembleLemmas.{all_at, assembled, both_true, scalars_met, scalars_named}

-- ---- nothing is open
flat_opens : (one : Instr) → IsFlatRow one → open_behind [] one ≡ []
flat_opens (instr.Start exchange) flat = absurd flat
flat_opens (instr.Finish exchange) flat = refl
flat_opens one flat = refl

pub never_open : (code : Tables) → IsFlat code → (at : ℕ) (opened : List ℕ) → Comes code at opened
    → opened ≡ []
never_open code flat at opened Begins = refl
never_open code flat at opened (Follows {at = before} {opened = first} {row = one} comes there leads) =
    ap (λ opened. open_behind opened one) (never_open code flat before first comes)
    ∙ flat_opens one (all_at IsFlatRow code.code flat.rows before one there)

-- ---- sets of facts in front of all rows
abbrev pub FactsOf : Tables → (ℕ → List Fact) → Type 0
FactsOf code facts =
    (at next : ℕ) (one : Instr) (fact : Fact) → slice_get code.code at ≡ Some one
    → In (nexts at one) next → In (facts next) fact → In (learnt code (facts at) one) fact

are_facts : (code : Tables) (facts : ℕ → List Fact)
    → ((fact : Fact) → In (facts 0) fact → In (start_facts code) fact) → FactsOf code facts
    → AreFacts code facts
are_facts code facts start behind = record {
  start = λ fact h. contained (start_facts code) fact (start fact (in_list (facts 0) fact h));
  behind = λ at next opened one fact comes there leads h.
      contained (learnt code (facts at) one) fact
      (behind at next one fact there (in_list (nexts at one) next leads)
      (in_list (facts next) fact h));
}

meets_by : (code : Tables) → IsFlat code → (facts : ℕ → List Fact) → AreFacts code facts
    → (at : ℕ) (one : Instr) → is_met code (facts at) [] one ≡ true → MeetsDemand code at one
meets_by code flat facts right at one met = record {
  alike = λ first other here there.
      never_open code flat at first here ∙ sym (never_open code flat at other there);
  met = λ opened comes. record {
    facts = facts;
    right = right;
    met =
        subst (λ opened. is_met code (facts at) opened one ≡ true)
        (sym (never_open code flat at opened comes)) met;
  };
}

pub undecided_sound : (code : Tables) → IsFlat code → IsUndecidedSound code → IsSound code
undecided_sound code flat sound at one there =
    meets_by code flat sound.facts (are_facts code sound.facts sound.start sound.behind) at one
    (sound.met at one there)

-- ---- rows that ask of scalars alone
module _ (code : Tables) (flat : IsFlat code) (taken : AreTaken code) where
  named : NamesScalars code
  named = scalars_named code flat.fits

  pub uniform_facts : AreFacts code (uniform_at code)
  uniform_facts =
      are_facts code (uniform_at code) (uniform_at_start code taken named)
      (λ at next one fact there leads h.
      uniform_behind code taken named at next one there leads fact h)

  pub scalars_meet : (at : ℕ) (one : Instr) → slice_get code.code at ≡ Some one
      → asks_scalars one ≡ true → MeetsDemand code at one
  scalars_meet at one there asks =
      meets_by code flat (uniform_at code) uniform_facts at one
      (both_true (has_own code (uniform_at code at) [] one) (leaves_slots code [] one)
      (scalars_met code (uniform_at code at) one
      (all_at IsFlatRow code.code flat.rows at one there) asks
      (λ is expr. all_uniform code taken named at one there is expr)) refl)

-- ---- structured code that goes
along_more : (code : Tables) (facts : ℕ → List Fact) (at : ℕ) (xs : List Row)
    → AreAlong code facts at xs → AreAlong code facts at (xs ++ row.Plain instr.End ∷ [])
along_more code facts at [] along = ((tt, λ next h. absurd h), tt)
along_more code facts at (x ∷ xs) along = (along.0, along_more code facts (suc at) xs along.1)

module _ (code : Tables) (one : Piece Row Check) (after : List Fact)
    (runs : CodeRuns code 0 one [] after) where
  abbrev slots : ℕ → List Fact
  slots = glued (size one) runs.facts (λ k. after)

  agree : (k : ℕ) → k < size one → slots (0 + k) ≡ runs.facts k
  agree k below =
      let same : 0 + k ≡ k = omega arith in
      ap slots same ∙ low (size one) k runs.facts (λ k. after) below

  exits : AreIn (slots (0 + size one)) after
  exits fact h =
      let same : 0 + size one ≡ size one + 0 = omega arith in
      subst (λ facts. In facts fact) (high (size one) 0 runs.facts (λ k. after))
      (subst (λ n. In (slots n) fact) same h)

  begins : (fact : Fact) → In (slots 0) fact → ⊥
  begins fact h = runs.entry fact (by (size one) runs.facts h)
    where
      by : (n : ℕ) (facts : ℕ → List Fact) → In (glued n facts (λ k. after) 0) fact
          → In (front n facts after) fact
      by zero facts h = h
      by (suc n) facts h = h

  sound_by : IsFlat code → AreTaken code → HasFringes code
      → all_inlined code ≡ laid 0 one ++ row.Plain instr.End ∷ [] → IsUndecidedSound code
  sound_by flat taken fringes same =
      assembled code flat taken fringes slots
      (subst (AreAlong code slots 0) (sym same)
      (along_more code slots 0 (laid 0 one) (runs.holds slots agree exits))) begins

pub goes_sound : (code : Tables) (one : Piece Row Check) (after : List Fact) → IsFlat code
    → AreTaken code → HasFringes code
    → all_inlined code ≡ laid 0 one ++ row.Plain instr.End ∷ []
    → Goes code [] one after → IsUndecidedSound code
goes_sound code one after flat taken fringes same goes =
    sound_by code one after (goes_runs code 0 one [] after goes) flat taken fringes same
