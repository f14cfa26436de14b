use Rattle.std.proofs.Common.{◌≡◌, drop, map}
use Rattle.zpl_tree.specs.View.{decl_of}
use Rattle.zpl_parts.specs.of_zpl_binding.Declarations.{with_all, with_decl}
use Rattle.zpl_bind.specs.Known.{IsKnown, known_in, settings_in}
use Rattle.zpl_bind.proofs.known.Known.add_decls.Given as goal

abbrev pub invariant-loop-decl : goal.invariant-loop-decl
invariant-loop-decl l = record {
  known : IsKnown l.self;
  rest : with_all (with_decl (settings_in l.texts)) (known_in l.self) (map decl_of (drop l.decl-index l.decls))
      ≡ with_all (with_decl (settings_in l.texts)) (known_in l.initial.self) (map decl_of l.decls);
}
