-- Each row that a processor does by itself fares well.
use Rattle.std.proofs.Common.{◌≡◌, ℕ, true, true≢false, sym, Option}
use Rattle.node_form.specs.declared.instructions.Instr.{Instr}
use Rattle.node_form.specs.declared.instructions.Instr.TheVariants as instr
use Rattle.node_form.specs.declared.tables.Tables.{Tables}
use Rattle.checked_rows.specs.Faced.{AreTables}
use Rattle.checked_rows.specs.Right.{RowFares, is_alone}
use Rattle.checked_rows.proofs.ControlRowLemmas as control
use Rattle.checked_rows.proofs.LoopFareLemmas.{loop_fares}
use Rattle.checked_rows.proofs.PrintLemmas as prints

pub alone_fares : (code : Tables) (tables : AreTables code) (links : Option ℕ) (n : ℕ) (row : Instr)
    → is_alone row ≡ true → RowFares code links n row
alone_fares code tables links n (instr.Set scalar expr line) is =
    control.set_fares code tables links n scalar expr line
alone_fares code tables links n (instr.Fix slot region) is =
    control.fix_fares code tables links n slot region
alone_fares code tables links n (instr.Dims slot parts line) is =
    control.dims_fares code tables links n slot parts line
alone_fares code tables links n (instr.Formed form slot from shift line) is =
    control.formed_fares code tables links n form slot from shift line
alone_fares code tables links n (instr.Need slot array shift line) is =
    control.need_fares code tables links n slot array shift line
alone_fares code tables links n (instr.Same target source kind line) is =
    control.same_fares code tables links n target source kind line
alone_fares code tables links n (instr.Fits slot shift line) is =
    control.fits_fares code tables links n slot shift line
alone_fares code tables links n (instr.Jump goal) is = control.jump_fares code tables links n goal
alone_fares code tables links n (instr.Unless expr goal line) is =
    control.unless_fares code tables links n expr goal line
alone_fares code tables links n (instr.Trap kind line) is =
    control.trap_fares code tables links n kind line
alone_fares code tables links n instr.End is = control.end_fares code tables links n
alone_fares code tables links n (instr.Room array slot) is =
    prints.room_fares code tables links n array slot
alone_fares code tables links n (instr.Clear array) is =
    prints.clear_fares code tables links n array
alone_fares code tables links n (instr.Print text) is = prints.print_fares code tables links n text
alone_fares code tables links n (instr.Number expr) is =
    prints.number_fares code tables links n expr
alone_fares code tables links n (instr.Truth expr) is = prints.truth_fares code tables links n expr
alone_fares code tables links n (instr.Loop slot group) is =
    loop_fares code tables links n slot group
alone_fares code tables links n row is = absurd (true≢false (sym is))
