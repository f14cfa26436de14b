use Rattle.std.proofs.Common.{◌≡◌, ◌∙◌, ◌<◌, ap, arith, length, subst, sym}
use Rattle.std.specs.Prelude.{All, Some, slice_get}
use Rattle.std.specs.Option.{IfSome, option_copied}
use Rattle.std.specs.List.{list_all}
use Rattle.flat_passes.specs.of_node_form.declared.instructions.Instr.TheVariants as instr
use Rattle.flat_passes.specs.of_node_form.Fits.{FitsInstr, FitsRegion}
use Rattle.flat_passes.proofs.of_node_form.GrowthLemmas.{Fits-array-row}
use Rattle.flat_passes.specs.of_code_parts.Needs.{is_decided}
use Rattle.bound_check.specs.Writes.{passes_within, writes_into}
use Rattle.bound_check.proofs.WriteLemmas.{all_noted_length, all_writes_fit, listed, rows_pass}
use Rattle.bound_check.proofs.WriteLemmas.{slot_there}
use Rattle.bound_check.proofs.checks.is_decided.Goals as goal

pub list-requires : goal.list-requires
list-requires c =
    let tables = c.args.tables.now in
    let fits : FitsInstr tables
    (instr.Need c.in-Need.slot c.in-Need.array c.in-Need.shift c.in-Need.line) =
    subst (FitsInstr tables) c.in-Need.is c.requires.row in
    let less : c.in-Need.slot < length tables.slots =
    slot_there tables c.in-Need.slot c.in-Need.array c.in-Need.line c.in-Need.shift fits in
    let long : length c.args.writes.now ≡ length tables.slots =
    ap length c.requires.writes ∙ all_noted_length (length tables.slots) tables.code in
    omega (arith, less, long)

pub all_pass-requires-clause-row : goal.all_pass-requires-clause-row
all_pass-requires-clause-row c =
    let tables = c.args.tables.now in
    let here : slice_get tables.arrays c.in-Need.array ≡ Some c.in-Some.row.now =
    ap (slice_get tables.arrays) (sym c.from.ensures)
    ∙ (sym c.get.ensures.row ∙ ap option_copied c.in-Some.is) in
    Fits-array-row tables c.in-Need.array c.in-Some.row.now c.requires.fits here

pub all_pass-requires-clause-regions : goal.all_pass-requires-clause-regions
all_pass-requires-clause-regions c =
    let tables = c.args.tables.now in
    let fits : FitsInstr tables
    (instr.Need c.in-Need.slot c.in-Need.array c.in-Need.shift c.in-Need.line) =
    subst (FitsInstr tables) c.in-Need.is c.requires.row in
    let less : c.in-Need.slot < length tables.slots =
    slot_there tables c.in-Need.slot c.in-Need.array c.in-Need.line c.in-Need.shift fits in
    let is : c.list.result.now ≡ writes_into c.in-Need.slot tables.code =
    listed tables c.in-Need.slot c.list.result.now c.args.writes.now less c.requires.writes
    c.list.ensures in
    subst (All (λ write. IfSome write FitsRegion)) (sym is)
    (all_writes_fit tables c.in-Need.slot tables.code c.requires.fits.code)

pub returns-in-Some : goal.returns-in-Some
returns-in-Some c =
    let tables = c.args.tables.now in
    let fits : FitsInstr tables
    (instr.Need c.in-Need.slot c.in-Need.array c.in-Need.shift c.in-Need.line) =
    subst (FitsInstr tables) c.in-Need.is c.requires.row in
    let less : c.in-Need.slot < length tables.slots =
    slot_there tables c.in-Need.slot c.in-Need.array c.in-Need.line c.in-Need.shift fits in
    let is : c.list.result.now ≡ writes_into c.in-Need.slot tables.code =
    listed tables c.in-Need.slot c.list.result.now c.args.writes.now less c.requires.writes
    c.list.ensures in
    let here : slice_get tables.arrays c.in-Need.array ≡ Some c.in-Some.row.now =
    ap (slice_get tables.arrays) (sym c.from.ensures)
    ∙ (sym c.get.ensures.row ∙ ap option_copied c.in-Some.is) in
    c.all_pass.ensures
    ∙ (ap (list_all (passes_within c.in-Need.shift c.in-Some.row.now)) is
    ∙ (sym (rows_pass tables c.in-Need.slot c.in-Need.array c.in-Need.shift c.in-Some.row.now here
    tables.code)
    ∙ ap (is_decided tables) (sym c.in-Need.is)))
