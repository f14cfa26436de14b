use Rattle.std.proofs.Common.{List, sym, subst}
use Rattle.listing_rules.specs.of_listing_lines.declared.lines.Line.{Line}
use Rattle.listing_rules.specs.Stages.{AreTables}
use Rattle.listing_rules.proofs.Sound.{sound}
use Rattle.node_text.specs.Listing.{IsListing}
use Rattle.node_text.proofs.Read.{listed, explained_on}
use Rattle.node_text.proofs.listings.read_listing.Goals as goal

pub returns-in_err-tables-clause-err : goal.returns-in_err-tables-clause-err
returns-in_err-tables-clause-err c =
    explained_on c.args.bytes.now c.in_ok-lines.lines.items c.deref.result.now _ _ c.in_ok-lines.ensures.ok c.deref.ensures.value c.from_residual-in_err-tables.ensures.1 c.in_err-tables.ensures.err

pub of-requires : goal.of-requires
of-requires c =
    let rows = subst (λ (l : List Line). AreTables l c.in_ok-tables.tables) c.deref.ensures.value c.in_ok-tables.ensures.ok in
    (sound c.in_ok-lines.lines.items c.in_ok-tables.tables rows).fits

pub returns-clause-ok : goal.returns-clause-ok
returns-clause-ok c =
    let rows = subst (λ (l : List Line). AreTables l c.in_ok-tables.tables) c.deref.ensures.value c.in_ok-tables.ensures.ok in
    subst (IsListing c.args.bytes.now) (sym c.of.ensures) (listed c.args.bytes.now c.in_ok-lines.lines.items c.in_ok-tables.tables c.in_ok-lines.ensures.ok rows)
