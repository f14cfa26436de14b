use Rattle.std.proofs.Common.{ap, ◌∙◌}
use Rattle.rank_types.specs.Symbols.{kind_named}
use Rattle.rank_types.proofs.SymbolLemmas.{lookup-found}
use Rattle.rank_types.proofs.symbols.Symbols.find.Goals as goal

pub returns-in-Some : goal.returns-in-Some
returns-in-Some c =
    c.in-Some.ensures.value ∙ lookup-found c.self.inside.entries.entries c.args.name.now ∙
    ap (λ symbols. kind_named symbols c.args.name.now) c.self.view_is

pub returns-in-None : goal.returns-in-None
returns-in-None c =
    c.in-None.ensures.value ∙ lookup-found c.self.inside.entries.entries c.args.name.now ∙
    ap (λ symbols. kind_named symbols c.args.name.now) c.self.view_is
