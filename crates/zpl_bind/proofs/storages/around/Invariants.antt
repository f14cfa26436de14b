use Rattle.std.proofs.Common.{◌≡◌, drop, filter}
use Rattle.std.specs.Str.{bytes_eq}
use Rattle.zpl_region.specs.Hull.{hull}
use Rattle.zpl_parts.specs.of_zpl_binding.Storages.{widened}
use Rattle.zpl_bind.specs.Known.{known_in}
use Rattle.zpl_bind.specs.Storages.{IsAround, borders_in}
use Rattle.zpl_bind.proofs.storages.around.Given as goal

abbrev pub invariant-loop-part : goal.invariant-loop-part
invariant-loop-part l = record {
  around : IsAround l.region l.storage;
  rest : widened (known_in l.known) l.region l.storage
      (filter (λ border. bytes_eq border.region.text l.name) (borders_in (drop l.part-index l.borders)))
      ≡ widened (known_in l.known) l.region (hull l.region)
      (filter (λ border. bytes_eq border.region.text l.name) (borders_in l.borders));
}
