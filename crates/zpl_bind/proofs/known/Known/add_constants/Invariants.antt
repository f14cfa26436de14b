use Rattle.std.proofs.Common.{◌≡◌, drop, map}
use Rattle.zpl_tree.specs.View.{define_of}
use Rattle.zpl_parts.specs.of_zpl_binding.Declarations.{with_all, with_constant}
use Rattle.zpl_bind.specs.Known.{IsKnown, known_in}
use Rattle.zpl_bind.proofs.known.Known.add_constants.Given as goal

abbrev pub invariant-loop-constant : goal.invariant-loop-constant
invariant-loop-constant l = record {
  known : IsKnown l.self;
  rest : with_all with_constant (known_in l.self) (map define_of (drop l.constant-index l.constants))
      ≡ with_all with_constant (known_in l.initial.self) (map define_of l.constants);
}
