use Rattle.std.proofs.Common.{◌≡◌, ◌∙◌, ap, nat_eq, rules}
use Rattle.indexmap.specs.IndexMap.{get}
use Rattle.fuse_contract.specs.Known.{is_since, key_eq, key_of, or_never}
use Rattle.fuse_contract.proofs.known.Known.knows.Goals as goal

pub returns : goal.returns
returns c =
    let learned : c.copied-learned.result
    ≡ get key_eq c.args.self.now.references (key_of c.args.item) = search rules in
    λ items is.
    c.is_since.ensures
    ∙ (ap (λ time. is_since time c.forgotten.result c.forgotten-2.result) learned
    ∙ (ap (λ time. is_since (get key_eq c.args.self.now.references (key_of c.args.item)) time
    c.forgotten-2.result) c.forgotten.ensures
    ∙ (ap (λ time. is_since (get key_eq c.args.self.now.references (key_of c.args.item))
    (or_never (get nat_eq c.args.self.now.slots c.args.item.slot)) time) c.forgotten-2.ensures
    ∙ is.same (key_of c.args.item))))
