use Rattle.std.proofs.Common.{◌≡◌, ◌++◌, drop, map}
use Rattle.zpl_tree.specs.View.{define_of}
use Rattle.zpl_bind.specs.Tables.{IsTable, listed}
use Rattle.zpl_bind.specs.Texts.{bases_of}
use Rattle.zpl_bind.proofs.texts.add_each.Given as goal

abbrev pub invariant-loop-config : goal.invariant-loop-config
invariant-loop-config l = record {
  table : IsTable l.bases;
  bases : bases_of (listed l.bases) ++ map (λ config. (config.name.text, config.base)) (map define_of (drop l.config-index l.configs))
      ≡ bases_of (listed l.initial.bases) ++ map (λ config. (config.name.text, config.base)) (map define_of l.configs);
}
