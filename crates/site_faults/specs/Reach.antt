-- What is in reach of a place, and what stands there, as the definitions of sites see it.
use Rattle.std.specs.Option.{option_map}
use Rattle.zpl_tree.specs.View.{base_type_of, exprs_of, name_of}
use Rattle.name_kinds.specs.of_zpl_names.Sites as sites
use Rattle.name_kinds.specs.Reach.{scope_of}
use Rattle.name_kinds.specs.Seen.{shapes_of}
use Rattle.site_faults.specs.declared.reach.Reach.{Reach}
use Rattle.site_faults.specs.declared.reach.Role.{Role}
use Rattle.site_faults.specs.declared.reach.Role.TheVariants.{Bound, Component, Limit, Initial, Result, Test, Printed, Actual, Operand, Assigned}
use Rattle.site_faults.specs.declared.reach.CallRole.{CallRole}
use Rattle.site_faults.specs.declared.reach.CallRole.TheVariants.{AsStatement, AsValue, Elsewhere}
use Rattle.site_faults.specs.declared.findings.Called.{Called}

abbrev pub reach_of : Reach → sites.Reach
reach_of reach = record {
  scope = scope_of reach.scope;
  prefix = reach.prefix;
  shapes = shapes_of reach.shapes;
  shattered = reach.shattered;
  result = option_map base_type_of reach.result;
  declared = reach.declared;
}

abbrev pub role_of : Role → sites.Role
role_of Bound = sites.Bound
role_of Component = sites.Component
role_of Limit = sites.Limit
role_of (Initial base) = sites.Initial (base_type_of base)
role_of (Result base) = sites.Result (option_map base_type_of base)
role_of Test = sites.Test
role_of Printed = sites.Printed
role_of Actual = sites.Actual
role_of Operand = sites.Operand
role_of (Assigned name op) = sites.Assigned (name_of name) op

abbrev pub call_role_of : CallRole → sites.CallRole
call_role_of AsStatement = sites.AsStatement
call_role_of AsValue = sites.AsValue
call_role_of Elsewhere = sites.Elsewhere

abbrev pub call_site_of : Called → sites.CallSite
call_site_of call = record {
  name = name_of call.name;
  actuals = exprs_of call.actuals.now;
  shapes = shapes_of call.shapes;
}
