-- What lowered tables owe, of what is known of the code of their program.
use Rattle.std.proofs.Common.{◌≡◌, true, List, [], ◌∷◌}
use Rattle.std.proofs.lemmas.List.Elements.{All-weaker}
use Rattle.zpl_tree.specs.Syntax.{Program}
use Rattle.zpl_binding.specs.Settings.{Setting}
use Rattle.node_form.specs.declared.members.Member.{Member}
use Rattle.node_form.specs.declared.tables.Tables.{Tables}
use Rattle.flat_form.specs.Flat.{IsFlat}
use Rattle.flat_form.specs.Static.{HasFringes, HasOneUnitALoop}
use Rattle.stored_shifts.specs.Stored.{ShiftsAreStored}
use Rattle.temp_norm.specs.Normalised.{PutsAlone, ReadThemselvesAlone, reads_itself}
use Rattle.temp_norm.specs.Normalised.PutsAlone.{puts_alone}
use Rattle.text_sharing.specs.Shared.{texts_shared}
use Rattle.typed_tables.specs.Typed.{AreTyped}
use Rattle.zpl_lowering.specs.Program.{lowered_program}
use Rattle.zpl_lowering.specs.Tables.{empty_tables, flat_tables, unshared_tables}
use Rattle.lowered_flat.specs.of_lowering_fits.Lowerings.{FitsLowered}
use Rattle.sharable_tables.specs.Owed.{OwesPlan}
use Rattle.owed_tables.proofs.AloneLemmas.{whole_alone}
use Rattle.owed_tables.proofs.ThreeLemmas.{typed_three}

-- texts that stand once change no group and no expression
shared_alone : (tables : Tables) → ReadThemselvesAlone tables →
    ReadThemselvesAlone (texts_shared tables)
shared_alone tables =
    All-weaker (λ group. reads_itself tables group ≡ true → PutsAlone tables group)
    (λ group. reads_itself (texts_shared tables) group ≡ true →
    PutsAlone (texts_shared tables) group)
    (λ group alone itself. same group (alone itself)) tables.groups
  where
    same : (group : List Member) → PutsAlone tables group →
        PutsAlone (texts_shared tables) group
    same group (puts_alone array expr mask line apart) = puts_alone array expr mask line apart

pub lowered_owe : (program : Program) (settings : List Setting) →
    IsFlat (flat_tables program settings) → (flat_tables program settings).cells ≡ 0 →
    AreTyped (flat_tables program settings) →
    ShiftsAreStored (unshared_tables program settings) →
    HasFringes (unshared_tables program settings) →
    HasOneUnitALoop (flat_tables program settings) →
    FitsLowered (empty_tables (1 ∷ 0 ∷ 0 ∷ []) (lowered_program program settings))
    (lowered_program program settings) → OwesPlan (flat_tables program settings)
lowered_owe program settings flat cells typed stored fringes units fits = record {
  flat = flat;
  without_cells = cells;
  threes = typed_three (flat_tables program settings) typed;
  stored = stored;
  fringes = fringes;
  units = units;
  alone = shared_alone (unshared_tables program settings)
      (whole_alone (1 ∷ 0 ∷ 0 ∷ []) (lowered_program program settings) stored fits);
}
