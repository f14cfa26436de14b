use Rattle.std.proofs.Common.{◌≡◌, [], take, map}
use Rattle.zpl_bind.specs.Known.{settings_in}
use Rattle.zpl_bind.specs.Lists.{settings_of}
use Rattle.zpl_bind.specs.Tables.{IsTable, listed}
use Rattle.zpl_bind.specs.Texts.{bases_of, text_faults}
use Rattle.zpl_parts.specs.of_zpl_binding.Settings.{twice_set}
use Rattle.zpl_bind.proofs.texts.texts_of.Given as goal

abbrev pub invariant-loop-pair : goal.invariant-loop-pair
invariant-loop-pair l = record {
  table : IsTable l.texts;
  texts : settings_in l.texts
      ≡ settings_of (map (λ pair. (pair.0.items, pair.1.items)) (take l.pair-index l.pair-items));
  typed : text_faults (bases_of (listed l.bases))
      (settings_of (map (λ pair. (pair.0.items, pair.1.items)) (take l.pair-index l.pair-items)))
      ≡ [];
  once : twice_set
      (settings_of (map (λ pair. (pair.0.items, pair.1.items)) (take l.pair-index l.pair-items)))
      ≡ [];
}
