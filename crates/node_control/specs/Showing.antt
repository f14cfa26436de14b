-- What rows show of a value.
use Rattle.std.specs.Prelude.{ℕ, Bool, true, false}
use Rattle.std.specs.Fmt.{signed_decimal}
use Rattle.zpl_arrays.specs.ArrayText.{truth_text}
use Rattle.node_form.specs.declared.tables.Tables.{Tables}
use Rattle.grid_meaning.specs.Action.{Action}
use Rattle.grid_meaning.specs.Local.{Local}
use Rattle.grid_meaning.specs.Turn.{expression_value, prints_value}

-- as a truth value, or in decimal
abbrev pub value_shown : Bool → Tables → ℕ → Local → ℕ → Action
value_shown true code p local expr = prints_value p local (expression_value code local expr) truth_text
value_shown false code p local expr = prints_value p local (expression_value code local expr) signed_decimal
