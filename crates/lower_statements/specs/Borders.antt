-- Border statements under their prefixes, in memory.
use Rattle.std.specs.Prelude.{List, Option}
use Rattle.zpl_tree.specs.Syntax.{Name}
use Rattle.zpl_meaning.specs.Store.{Thing}
use Rattle.flat_form.specs.Row.{Row}
use Rattle.zpl_lowering.specs.Statement.{border_rows, border_thing, each_border}
use Rattle.zpl_lowering.specs.Where.{Numbers, Stored, Where}
use Rattle.lower_points.specs.of_lower_places.View.{edge_of}
use Rattle.lower_statements.specs.declared.borders.Bordering.{Bordering}

-- the rows of one array
abbrev pub rows_at : Bordering → Option Stored → List Row
rows_at at stored = border_rows at.kind (edge_of at.edge) at.border at.source at.line stored

-- those of what a name stands for
abbrev pub thing_at : Numbers → Bordering → Option Thing → List Row
thing_at numbers at thing =
    border_thing numbers at.kind (edge_of at.edge) at.border at.source at.line thing

-- those of all names
abbrev pub each_at : Where → Bordering → List Name → List Row
each_at w at names = each_border w at.kind (edge_of at.edge) at.border at.source at.line names
