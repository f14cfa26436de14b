use Rattle.std.proofs.Common.{option_map, ap, ◌∙◌}
use Rattle.zpl_names.specs.Scope.{kind_in}
use Rattle.name_kinds.specs.Seen.{known_of}
use Rattle.name_kinds.proofs.NameLemmas.{lookup-found}
use Rattle.name_kinds.proofs.names.Names.find.Goals as goal

pub returns-in-Some : goal.returns-in-Some
returns-in-Some c =
    ap (λ found. known_of (option_map (λ known. known.kind) found)) c.in-Some.ensures.value ∙
    lookup-found c.self.inside.entries.entries c.args.text.now ∙
    ap (λ names. kind_in names c.args.text.now) c.self.view_is

pub returns-in-None : goal.returns-in-None
returns-in-None c =
    ap (λ found. known_of (option_map (λ known. known.kind) found)) c.in-None.ensures.value ∙
    lookup-found c.self.inside.entries.entries c.args.text.now ∙
    ap (λ names. kind_in names c.args.text.now) c.self.view_is
