use Rattle.std.proofs.Common.{◌≡◌, ◌++◌, drop, map}
use Rattle.std.specs.List.{flat_map}
use Rattle.zpl_tree.specs.View.{decl_of}
use Rattle.zpl_bind.specs.Tables.{IsTable, listed}
use Rattle.zpl_bind.specs.Texts.{bases_of, config_bases}
use Rattle.zpl_bind.proofs.texts.configs_of.Given as goal

abbrev pub invariant-loop-decl : goal.invariant-loop-decl
invariant-loop-decl l = record {
  table : IsTable l.bases;
  bases : bases_of (listed l.bases) ++ flat_map config_bases (map decl_of (drop l.decl-index l.decls))
      ≡ flat_map config_bases (map decl_of l.decls);
}
