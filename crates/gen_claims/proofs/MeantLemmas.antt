-- The lines of runs that ended normally tell of what the drawn program means.
use Rattle.std.proofs.Common.{◌≡◌, ◌≢◌, ℕ, List, [], ◌∷◌, ◌++◌, length}
use Rattle.std.proofs.Common.{refl, sym, ◌∙◌, ap, subst}
use Rattle.std.proofs.lemmas.List.{append-nil, flat_map_more}
use Rattle.zpl_nums.specs.declared.ends.End.TheVariants.{Done, More}
use Rattle.zpl_meaning.specs.Program.{Meaning, mean_of}
use Rattle.node_form.specs.declared.tables.Tables.{Tables}
use Rattle.grid_meaning.specs.Grid.{IsCapacity, first_ending, processors}
use Rattle.grid_meaning.specs.Order.{given}
use Rattle.grid_runs.specs.Run.{grid_at}
use Rattle.call_claims.specs.Command.{Asked, IsGen, asked_on}
use Rattle.call_claims.specs.Execution.{Execution}
use Rattle.call_claims.proofs.MetLemmas.{is_met}
use Rattle.run_claims.specs.of_exec_claims.Cause.{run_of}
use Rattle.run_claims.proofs.of_list_claims.WholeLemmas.{OneProgram}
use Rattle.run_claims.proofs.CodeLemmas.{Laws, right_at}
use Rattle.run_claims.proofs.WholeLemmas.{EndingsStay, finished, same_end}
use Rattle.program_texts.specs.Text.{drawn_program}
use Rattle.gen_claims.specs.Grids.{NamedGrid, line_of}
use Rattle.gen_claims.specs.Meant.{AreMeantFor, IsMeantToPrint, ended_with, lines_of}
use Rattle.gen_claims.specs.Meant.AreMeantFor.{none_yet as none_meant, tell}
use Rattle.gen_claims.specs.Runs.{EndsNormally, IsRunOf, Went, line_for}
use Rattle.gen_claims.specs.Runs.Went.{none_yet, one_more}

-- ---- meanings
meaning_is : (meaning : Meaning) (bytes : List ℕ) → bytes ≡ meaning.bytes → meaning.ending ≡ Done
    → meaning ≡ ended_with bytes
meaning_is meaning bytes same ends =
    ap (λ e. let made : Meaning = record { bytes = meaning.bytes; ending = e } in made) ends
    ∙ ap (λ b. ended_with b) (sym same)

same_bytes : (one other : List ℕ) → ended_with one ≡ ended_with other → one ≡ other
same_bytes one other e = ap (λ (m : Meaning). m.bytes) e

module _ (one : OneProgram) (seed : ℕ) (asked : Asked) where
  -- a number's program means one thing
  one_meant : (bytes others : List ℕ) → IsMeantToPrint seed asked bytes
      → IsMeantToPrint seed asked others → bytes ≡ others
  one_meant bytes others a b =
      let same : a.program ≡ b.program = one (drawn_program seed) a.program b.program
      a.accepted.accepted b.accepted.accepted in
      let mean : mean_of a.program asked.settings a.enough
      ≡ mean_of b.program asked.settings a.enough =
      ap (λ p. mean_of p asked.settings a.enough) same in
      let ends : (mean_of b.program asked.settings a.enough).ending ≢ More =
      subst (λ (m : Meaning). m.ending ≢ More) mean a.ends in
      same_bytes bytes others (sym (a.is a.enough a.ends) ∙ (mean ∙ b.is a.enough ends))

  module _ (laws : Laws) (stay : EndingsStay) (capacity : IsCapacity asked.links) where
    -- it means what a run has printed that ended normally
    meant_by : (grid : NamedGrid) (code : Tables) (turns : ℕ) → IsRunOf seed asked grid code turns
        → EndsNormally asked code turns
        → IsMeantToPrint seed asked (grid_at (run_of code asked []) turns).printed
    meant_by grid code turns run ends =
        let on : Asked = asked_on asked grid.factors in record {
          program = run.of_text.program;
          accepted = run.of_text.accepted.under;
          enough = length (given [] (processors code) turns);
          ends =
              let right = right_at laws on run.of_text capacity [] [] refl turns in
              (right.finishes ends.over).within;
          is = λ n enough.
              let done =
              finished laws stay on run.of_text capacity [] [] refl n enough turns ends.over in
              meaning_is (mean_of run.of_text.program asked.settings n)
              (grid_at (run_of code asked []) turns).printed done.all
              (sym (same_end (first_ending (grid_at (run_of code asked []) turns)) Done
              (mean_of run.of_text.program asked.settings n).ending ends.first done.ending.first));
        }

    -- and so do all before it
    meant_more : (so_far : List NamedGrid) (lines : List ℕ) (grid : NamedGrid) (code : Tables)
        (turns : ℕ) → AreMeantFor seed asked so_far lines
        → IsMeantToPrint seed asked (grid_at (run_of code asked []) turns).printed
        → AreMeantFor seed asked (so_far ++ grid ∷ [])
        (lines ++ line_for seed asked grid code turns)
    meant_more so_far lines grid code turns none_meant is =
        subst (AreMeantFor seed asked (grid ∷ []))
        (append-nil (line_for seed asked grid code turns)) (tell (grid ∷ []) is)
    meant_more so_far lines grid code turns (tell {bytes = bytes} all meant) is =
        let printed = (grid_at (run_of code asked []) turns).printed in
        subst (λ more. AreMeantFor seed asked (all ++ grid ∷ [])
        (lines_of seed all bytes ++ line_of seed grid.name more))
        (one_meant bytes printed meant is)
        (subst (AreMeantFor seed asked (all ++ grid ∷ []))
        (sym (flat_map_more (λ (g : NamedGrid). line_of seed g.name bytes) [] all grid))
        (tell (all ++ grid ∷ []) meant))

    went_meant : {so_far : List NamedGrid} {last : Execution} {lines : List ℕ}
        → Went seed asked so_far last lines → AreMeantFor seed asked so_far lines
    went_meant none_yet = none_meant
    went_meant (one_more {before = before} {lines = lines} grid code turns went run ends) =
        meant_more before lines grid code turns (went_meant went)
        (meant_by grid code turns run ends)

pub lines_meant : Laws → EndingsStay → OneProgram → (words : List (List ℕ)) (seed : ℕ)
    (asked : Asked) → IsGen words seed asked → (so_far : List NamedGrid) (last : Execution)
    (lines : List ℕ) → Went seed asked so_far last lines → AreMeantFor seed asked so_far lines
lines_meant laws stay one words seed asked given so_far last lines went =
    went_meant one seed asked laws stay (is_met given.worded).links went
