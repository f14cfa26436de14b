use Rattle.std.proofs.Common.{◌≡◌, drop, map}
use Rattle.zpl_tree.specs.View.{define_of}
use Rattle.zpl_parts.specs.of_zpl_binding.Declarations.{with_all, with_config}
use Rattle.zpl_bind.specs.Known.{IsKnown, known_in, settings_in}
use Rattle.zpl_bind.proofs.known.Known.add_configs.Given as goal

abbrev pub invariant-loop-config : goal.invariant-loop-config
invariant-loop-config l = record {
  known : IsKnown l.self;
  rest : with_all (with_config (settings_in l.texts)) (known_in l.self) (map define_of (drop l.config-index l.configs))
      ≡ with_all (with_config (settings_in l.texts)) (known_in l.initial.self) (map define_of l.configs);
}
