use Rattle.std.proofs.Common.{◌∙◌, ap, sym, ◌++◌, List, map}
use Rattle.std.specs.Prelude.{filter}
use Rattle.std.proofs.lemmas.List.Elements.{All-append, All-same}
use Rattle.zpl_region.specs.Tests.{is_within_limit}
use Rattle.node_form.specs.Control.{formed_by}
use Rattle.node_check.specs.Fact.{Fact, Stands}
use Rattle.node_check.specs.Front.{HasRegion}
use Rattle.node_check.specs.Learn.{region_in, regions_of}
use Rattle.node_check.proofs.EachLemmas.{kept_each}
use Rattle.node_check.proofs.makes.made_formed.Goals as goal

pub returns-clause-regions : goal.returns-clause-regions
returns-clause-regions c =
    All-same HasRegion c.extend_from_slice.new.self.items
    (c.in_ok-made.made.items ++ c.as_slice.result.now) c.in_ok-extend_from_slice.ensures.items
    (All-append HasRegion c.in_ok-made.made.items c.as_slice.result.now c.in_ok-made.ensures.regions
    (All-same HasRegion c.as_slice.result.now c.in_ok-side.side.items c.as_slice.ensures.value
    c.in_ok-side.ensures.regions))

pub returns-clause-facts : goal.returns-clause-facts
returns-clause-facts c =
    let forming = c.args.forming.now in
    c.in_ok-extend_from_slice.ensures.items
    ∙ (ap (λ (facts : List Fact). facts ++ c.as_slice.result.now)
    (c.in_ok-made.ensures.facts
    ∙ sym (kept_each (Stands forming.slot) is_within_limit (formed_by forming.form forming.shift)
    (region_in forming.from) c.args.facts.now))
    ∙ ap (λ (facts : List Fact). map (Stands forming.slot) (filter is_within_limit
    (map (formed_by forming.form forming.shift) (regions_of c.args.facts.now forming.from)))
    ++ facts)
    (c.as_slice.ensures.value ∙ c.in_ok-side.ensures.facts))
