use Rattle.std.proofs.Common.{rules, ◌≡◌, ◌<◌, length, sym, ap, ◌∙◌, arith}
use Rattle.std.specs.Prelude.{Some}
use Rattle.zpl_region.specs.Ends.{greatest_member, least_member}
use Rattle.zpl_region.specs.Region.{members}
use Rattle.scan_messages.proofs.BoxLemmas as box
use Rattle.scan_messages.proofs.lines.line_from.Goals as goal

pub returns-in_default-clause-line : goal.returns-in_default-clause-line
returns-in_default-clause-line c =
    box.no_line c.args.part.now c.requires.part c.args.k c.args.head.now (box.none_least c.args.part.now c.requires.part (sym c.least.ensures ∙ c.in_default.is))

pub returns-in_default-greatest-clause-line : goal.returns-in_default-greatest-clause-line
returns-in_default-greatest-clause-line c =
    box.no_line c.args.part.now c.requires.part c.args.k c.args.head.now (box.none_greatest c.args.part.now c.requires.part (sym c.greatest.ensures ∙ c.in_default-greatest.is))

pub returns-clause-line : goal.returns-clause-line
returns-clause-line c =
    let first : least_member c.args.part.now ≡ Some c.in-Some.least = sym c.least.ensures ∙ c.in-Some.is in
    let last : greatest_member c.args.part.now ≡ Some c.in-Some-greatest.greatest = sym c.greatest.ensures ∙ c.in-Some-greatest.is in
    let inside : c.args.k < length c.args.part.now.dims = omega (arith, c.requires.dim, c.requires.many, c.requires.part.rank_below) in
    ap members c.meet.ensures.met
    ∙ box.line_met c.args.part.now c.requires.part c.args.k c.requires.dim inside c.in-Some.least c.in-Some-greatest.greatest first last c.args.head.now _ _
    c.requires.head (search rules) (search rules)

pub returns-clause-region : goal.returns-clause-region
returns-clause-region c =
    let first : least_member c.args.part.now ≡ Some c.in-Some.least = sym c.least.ensures ∙ c.in-Some.is in
    let last : greatest_member c.args.part.now ≡ Some c.in-Some-greatest.greatest = sym c.greatest.ensures ∙ c.in-Some-greatest.is in
    let inside : c.args.k < length c.args.part.now.dims = omega (arith, c.requires.dim, c.requires.many, c.requires.part.rank_below) in
    c.meet.ensures.region
    (box.line_reach c.args.part.now c.requires.part c.args.k c.requires.dim inside c.in-Some.least c.in-Some-greatest.greatest first last c.args.head.now _ _
    c.requires.head (search rules) (search rules))
