-- What calls do beyond the longest chain.
use Rattle.std.specs.Prelude.{ℕ, List}
use Rattle.zpl_binding.specs.of_zpl_tree.Syntax.{Program}
use Rattle.zpl_binding.specs.Settings.{Setting}
use Rattle.zpl_binding.specs.Declarations.{known_of}
use Rattle.zpl_binding.specs.Storages.{borders_of}
use Rattle.zpl_meaning.specs.Outcome.{Outcome}
use Rattle.zpl_meaning.specs.Variables.{Frame}
use Rattle.zpl_meaning.specs.Program.{call_at, setup_of, entry_call, first_frame}

-- the whole run, down chains of so many calls
abbrev pub outcome_down : ℕ → Program → List Setting → ℕ → Outcome
outcome_down depth program settings n =
    let known = known_of program settings in
    let borders = borders_of program in
    let frame : Frame = first_frame program known borders in
    call_at (setup_of program known borders frame) n depth (entry_call program) frame.store
