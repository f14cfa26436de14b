use Rattle.std.proofs.Common.{◌≡◌, ap, sym, subst, filter, [], ◌∷◌}
use Rattle.std.specs.Str.{bytes_eq}
use Rattle.zpl_parts.specs.of_zpl_binding.Outcome.{Gives}
use Rattle.zpl_parts.specs.of_zpl_binding.Storages.{widened}
use Rattle.zpl_bind.specs.Known.{known_in}
use Rattle.zpl_bind.specs.Storages.{IsAround, borders_in}
use Rattle.zpl_bind.proofs.RegionLemmas.{built-region}
use Rattle.zpl_bind.proofs.StorageLemmas.{around-hull, around-next}
use Rattle.zpl_bind.proofs.storages.around.Goals as goal

pub loop-part-init : goal.loop-part-init
loop-part-init c = record {
  around =
      subst (IsAround c.args.region.now) (sym c.hull-storage.ensures.hull)
      (around-hull c.args.region.now (built-region c.args.region.now c.requires.rank c.requires.region));
  rest =
      ap (λ s. widened (known_in c.args.known.now) c.args.region.now s
      (filter (λ border. bytes_eq border.region.text c.args.name.now) (borders_in c.args.borders.now)))
      c.hull-storage.ensures.hull;
}

pub loop-part-preserved : goal.loop-part-preserved
loop-part-preserved c = record {
  around = c.widened_by-storage.ensures.around;
  rest =
      around-next (known_in c.args.known.now) c.args.region.now c.loop-part.storage
      c.widened_by-storage.result c.args.name.now c.args.borders.now c.loop-part.part-index
      c.part-item.result _ c.loop-part-test.true
      (subst (λ part. widened (known_in c.args.known.now) c.args.region.now c.loop-part.storage
      (filter (λ border. bytes_eq border.region.text c.args.name.now) (borders_in (part ∷ [])))
      ≡ Gives c.widened_by-storage.result) c.part-item.is c.widened_by-storage.ensures.widened)
      c.loop-part.invariant.rest;
}
