-- The scope that a place sees.
use Rattle.zpl_names.specs.Scope as names
use Rattle.name_kinds.specs.declared.scope.Scope.{Scope}

abbrev pub scope_of : Scope → names.Scope
scope_of scope = record {
  own = scope.own.now;
  globals = scope.globals.now;
  constants = scope.constants;
}
