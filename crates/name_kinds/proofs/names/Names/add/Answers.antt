use Rattle.std.proofs.Common.{refl, sym, ◌∙◌}
use Rattle.name_kinds.proofs.NameLemmas.{there-already, added-last}
use Rattle.name_kinds.proofs.names.Names.add.Goals as goal

pub returns-then-contains_key : goal.returns-then-contains_key
returns-then-contains_key c = (
  there-already c.self.inside.entries.entries c.args.name.now.text.now c.args.self.now
      c.self.view_is
      (sym c.contains_key.ensures ∙ c.if-contains_key.true),
  refl,
)

pub returns : goal.returns
returns c =
    added-last c.self.inside.entries.entries c.insert.new.self.entries c.args.name.now.text
    (record { at = c.args.name.now.at; kind = c.args.kind }) c.args.self.now c.self.view_is
    (sym c.contains_key.ensures ∙ c.if-contains_key.false)
    c.in_ok-insert.ensures.entries
