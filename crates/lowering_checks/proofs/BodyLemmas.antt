-- Parameters and local variables: each loop in their code may stand anywhere.
use Rattle.std.proofs.Common.{ℕ, ◌≤◌, Bool, true, false, pos, List, [], ◌∷◌, ◌++◌, arith}
use Rattle.zpl_tree.specs.Syntax.{Name, Bracket, NoBracket, Bracketed, VarDef}
use Rattle.zpl_names.specs.Expansion.{FormalName}
use Rattle.zpl_meaning.specs.Context.{Setup}
use Rattle.row_runs.specs.Structured as piece
use Rattle.node_form.specs.Expression.{Constant, words_of}
use Rattle.node_form.specs.declared.instructions.Instr.TheVariants as instr
use Rattle.lowering_fits.specs.of_flat_form.Row as row
use Rattle.lowering_fits.specs.of_flat_form.Row.{Row}
use Rattle.lowering_fits.specs.of_zpl_lowering.Where.{Stored, Next}
use Rattle.lowering_fits.specs.of_zpl_lowering.Lowered.{Lowered}
use Rattle.lowering_fits.specs.of_zpl_lowering.Statement.{Given, Valued, Copied, Referring}
use Rattle.lowering_fits.specs.of_zpl_lowering.Program.{Framed, with_scalar, Entry, rows_if, zero_row, clear_row, copy_rows, made_copy, givens_code, names_code, locals_code}
use Rattle.lowering_fits.specs.Whole.{given_frame, given_frames, local_frame, name_frames, local_frames}
use Rattle.lowering_checks.specs.Walked.{HasChecks}
use Rattle.lowering_checks.proofs.WalkLemmas.{rows_check, then_check}
use Rattle.lowering_checks.proofs.SlateLemmas.{AllQuiet}
use Rattle.lowering_checks.proofs.AssignLemmas.{quiet_rows}

copy_checks : (line : ℕ) (next : Next) (from : Stored) → HasChecks (made_copy line next from).code
copy_checks line next from =
    rows_check (copy_rows line next.arrays next.slots from) (λ last. (tt, (tt, tt)))

pub givens_check : (line : ℕ) (formals : List FormalName) (actuals : List Given) (frame : Framed)
    (next : Next) (rest : Framed → Next → Lowered) →
    (let last = given_frames line formals actuals frame next in
    next.slots ≤ last.next.slots → HasChecks (rest last.frame last.next).code) →
    HasChecks (givens_code line formals actuals frame next rest).code
givens_check line [] actuals frame next rest checks = checks (omega arith)
givens_check line (formal ∷ formals) [] frame next rest checks = checks (omega arith)
givens_check line (formal ∷ formals) (Valued scalar ∷ actuals) frame next rest checks =
    givens_check line formals actuals (with_scalar frame formal.name scalar) next rest checks
givens_check line (formal ∷ formals) (Referring thing ∷ actuals) frame next rest checks =
    givens_check line formals actuals
    (record frame { names = frame.names ++ (formal.name.text, thing) ∷ [] }) next rest checks
givens_check line (formal ∷ formals) (Copied from home ∷ actuals) frame next rest checks =
    let one = given_frame line formal.name (Copied from home) frame next in
    then_check (made_copy line next from).code
    (givens_code line formals actuals one.frame one.next rest).code (copy_checks line next from)
    (givens_check line formals actuals one.frame one.next rest
    (λ more. checks (omega (arith, more))))

pub if_quiet : (b : Bool) (rows : List Row) → AllQuiet rows → AllQuiet (rows_if b rows)
if_quiet true rows quiet = quiet
if_quiet false rows quiet = tt

names_check : (setup : Setup) (entry : Entry) (shape : Bracket) (names : List Name)
    (frame : Framed) (next : Next) (rest : Framed → Next → Lowered) →
    (let last = name_frames setup entry shape names frame next in
    next.slots ≤ last.next.slots → HasChecks (rest last.frame last.next).code) →
    HasChecks (names_code setup entry shape names frame next rest).code
names_check setup entry shape [] frame next rest checks = checks (omega arith)
names_check setup entry NoBracket (name ∷ names) frame next rest checks =
    let one = local_frame setup entry NoBracket name frame next in
    then_check (piece.Rows (zero_row entry next.scalars))
    (names_code setup entry NoBracket names one.frame one.next rest).code
    (quiet_rows (zero_row entry next.scalars) (if_quiet entry.clears
    (row.Set next.scalars (words_of (Constant (pos 0))) entry.line ∷ []) (tt, tt)))
    (names_check setup entry NoBracket names one.frame one.next rest
    (λ more. checks (omega (arith, more))))
names_check setup entry (Bracketed inner) (name ∷ names) frame next rest checks =
    let one = local_frame setup entry (Bracketed inner) name frame next in
    then_check (piece.Rows (clear_row entry next.arrays))
    (names_code setup entry (Bracketed inner) names one.frame one.next rest).code
    (quiet_rows (clear_row entry next.arrays) (if_quiet entry.clears
    (row.Plain (instr.Clear next.arrays) ∷ []) (tt, tt)))
    (names_check setup entry (Bracketed inner) names one.frame one.next rest
    (λ more. checks (omega (arith, more))))

pub locals_check : (setup : Setup) (entry : Entry) (vars : List VarDef) (frame : Framed)
    (next : Next) (rest : Framed → Next → Lowered) →
    (let last = local_frames setup entry vars frame next in
    next.slots ≤ last.next.slots → HasChecks (rest last.frame last.next).code) →
    HasChecks (locals_code setup entry vars frame next rest).code
locals_check setup entry [] frame next rest checks = checks (omega arith)
locals_check setup entry (var ∷ vars) frame next rest checks =
    let one = name_frames setup entry var.shape var.names frame next in
    names_check setup entry var.shape var.names frame next
    (λ frame after. locals_code setup entry vars frame after rest)
    (λ more. locals_check setup entry vars one.frame one.next rest
    (λ further. checks (omega (arith, more, further))))
