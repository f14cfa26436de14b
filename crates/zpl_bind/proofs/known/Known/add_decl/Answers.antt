use Rattle.std.proofs.Common.{subst}
use Rattle.zpl_tree.specs.View.{decl_of, region_of}
use Rattle.zpl_bind.specs.Few.{IsFew, IsFewDecl}
use Rattle.zpl_bind.proofs.KnownLemmas.{all-seen}
use Rattle.zpl_bind.proofs.known.Known.add_decl.Goals as goal

pub add_regions-requires-clause-few : goal.add_regions-requires-clause-few
add_regions-requires-clause-few c =
    all-seen (λ region. IsFew region.body) region_of c.in-Regions.regions.now
    (subst (λ decl. IsFewDecl (decl_of decl)) c.in-Regions.is c.requires.few)
