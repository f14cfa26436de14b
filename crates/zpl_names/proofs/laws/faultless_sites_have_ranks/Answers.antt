use Rattle.std.proofs.lemmas.List.Elements.{recursion_from_All}
use Rattle.zpl_names.specs.Sites.{expr_sites, region_sites, whole_sites}
use Rattle.zpl_names.specs.Accepted.{HasNoFault}
use Rattle.zpl_names.proofs.KnownLemmas.{own-known, region-known, whole-known}
use Rattle.zpl_names.proofs.DeclaredLemmas.{all_known}
use Rattle.zpl_names.proofs.laws.faultless_sites_have_ranks.Goals as goal

pub returns : goal.returns
returns c = record {
  wholes = λ reach role expr k p g h. whole-known reach role expr (all_known reach.scope k) p g
      (recursion_from_All HasNoFault (whole_sites reach role expr) h);
  parts = λ reach rank expr k p h. own-known reach rank expr (all_known reach.scope k) p
      (recursion_from_All HasNoFault (expr_sites reach rank expr) h);
  regions = λ reach hint region k i p h. region-known reach hint region (all_known reach.scope k) i p
      (recursion_from_All HasNoFault (region_sites reach hint region) h);
}
