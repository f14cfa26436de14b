-- The forms of a region, in memory.
use Rattle.std.specs.Prelude.{ℕ, List}
use Rattle.zpl_tree.specs.Syntax.{Pre, Posts}
use Rattle.zpl_binding.specs.Regions.{Known}
use Rattle.lower_places.specs.of_zpl_lowering.Bracket as plain
use Rattle.lower_regions.specs.declared.forms.Form.{Form}
use Rattle.lower_regions.specs.declared.opened.Opened.{Opened}
use Rattle.lower_regions.specs.Opened.{standing_at}

abbrev pub form_of : Form → plain.Form
form_of form = record { form = form.form; shift = form.shift }

-- the forms around a region that stands in a slot
abbrev pub forms_in : Known → ℕ → ℕ → List Pre → Posts → Opened → plain.Opened
forms_in known next line pre post base =
    plain.formed next line (plain.forms_of known pre post) (standing_at base)
