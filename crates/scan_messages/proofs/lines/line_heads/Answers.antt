use Rattle.std.proofs.Common.{rules, ◌≡◌, ◌<◌, length, sym, ap, ◌∙◌, arith}
use Rattle.std.specs.Prelude.{Some}
use Rattle.zpl_region.specs.Ends.{greatest_member, least_member}
use Rattle.zpl_region.specs.Region.{members}
use Rattle.scan_messages.proofs.BoxLemmas as box
use Rattle.scan_messages.proofs.lines.line_heads.Goals as goal

pub returns-in_default-clause-heads : goal.returns-in_default-clause-heads
returns-in_default-clause-heads c =
    box.no_lines c.args.part.now c.requires.part c.args.k (box.none_least c.args.part.now c.requires.part (sym c.least.ensures ∙ c.in_default.is))

pub returns-in_default-greatest-clause-heads : goal.returns-in_default-greatest-clause-heads
returns-in_default-greatest-clause-heads c =
    box.no_lines c.args.part.now c.requires.part c.args.k (box.none_greatest c.args.part.now c.requires.part (sym c.greatest.ensures ∙ c.in_default-greatest.is))

pub returns-clause-heads : goal.returns-clause-heads
returns-clause-heads c =
    let first : least_member c.args.part.now ≡ Some c.in-Some.least = sym c.least.ensures ∙ c.in-Some.is in
    let last : greatest_member c.args.part.now ≡ Some c.in-Some-greatest.greatest = sym c.greatest.ensures ∙ c.in-Some-greatest.is in
    let inside : c.args.k < length c.args.part.now.dims = omega (arith, c.requires.dim, c.requires.many, c.requires.part.rank_below) in
    ap members c.meet.ensures.met
    ∙ box.heads_met c.args.part.now c.requires.part c.args.k c.requires.dim inside c.in-Some.least c.in-Some-greatest.greatest first last _ (search rules)

pub returns-clause-region : goal.returns-clause-region
returns-clause-region c =
    let first : least_member c.args.part.now ≡ Some c.in-Some.least = sym c.least.ensures ∙ c.in-Some.is in
    let last : greatest_member c.args.part.now ≡ Some c.in-Some-greatest.greatest = sym c.greatest.ensures ∙ c.in-Some-greatest.is in
    let inside : c.args.k < length c.args.part.now.dims = omega (arith, c.requires.dim, c.requires.many, c.requires.part.rank_below) in
    c.meet.ensures.region
    (box.heads_reach c.args.part.now c.requires.part c.args.k c.requires.dim inside c.in-Some.least c.in-Some-greatest.greatest first last _ (search rules))
