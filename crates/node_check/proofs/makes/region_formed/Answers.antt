use Rattle.std.proofs.Common.{◌≡◌, ◌∙◌, sym, ap, subst, arith, true, false}
use Rattle.std.proofs.Common.{map}
use Rattle.std.specs.Option.{option_to_list}
use Rattle.zpl_region.specs.Region.{IsRegion}
use Rattle.node_check.specs.Fact.{Stands}
use Rattle.node_check.specs.Front.{HasRegion, formed_in}
use Rattle.node_check.proofs.CodeLemmas.{formed_here, some_ok}
use Rattle.node_check.proofs.RegionLemmas.{formed_kept}
use Rattle.node_check.proofs.makes.region_formed.Goals as goal

pub returns-else-slot-forming : goal.returns-else-slot-forming
returns-else-slot-forming c =
    let forming = c.args.forming.now in
    let region : IsRegion c.in-Stands.region =
    subst (λ fact. HasRegion fact) c.in-Stands.is c.requires in
    record {
      region = some_ok IsRegion c.formed.result c.ok.result c.ok.ensures.value c.formed.ensures.region;
      facts =
          ap (λ o. map (Stands forming.slot) (option_to_list o)) c.ok.ensures.value
          ∙ (ap (map (Stands forming.slot))
          (formed_kept forming.form forming.shift c.in-Stands.region c.formed.result region
          c.formed.ensures.limit)
          ∙ (formed_here forming.form forming.slot forming.from forming.shift c.in-Stands.slot
          c.in-Stands.region c.if-slot-forming.false
          ∙ ap (formed_in forming.form forming.slot forming.from forming.shift)
          (sym c.in-Stands.is)));
    }
