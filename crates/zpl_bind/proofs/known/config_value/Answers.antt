use mir.Val.{to_z, of_z}
use Rattle.std.proofs.Common.{w64, rules, ◌≡◌, ap, sym, ◌∙◌, subst, refl, Option, None, List, ℕ}
use Rattle.std.specs.Option.{option_map}
use Rattle.zpl_tree.specs.View.{define_of}
use Rattle.zpl_parts.specs.of_zpl_binding.Outcome as plain
use Rattle.zpl_parts.specs.of_zpl_binding.Outcome.{Outcome, Gives}
use Rattle.zpl_parts.specs.of_zpl_binding.Constants.{config_value, taken}
use Rattle.zpl_parts.specs.of_zpl_binding.Settings.{setting_of}
use Rattle.zpl_bind.specs.Fault.{Computes}
use Rattle.zpl_bind.specs.Known.{settings_in}
use Rattle.zpl_bind.specs.Tables.{computed, listed}
use Rattle.zpl_bind.proofs.KnownLemmas.{setting-found}
use Rattle.zpl_bind.proofs.known.config_value.Goals as goal

pub returns-in-None : goal.returns-in-None
returns-in-None c =
    let is : setting_of (settings_in c.args.texts.now) c.args.config.now.name.text.now ≡ None =
    setting-found (listed c.args.texts.now) c.args.config.now.name.text.now
    ∙ ap (option_map (λ value. value.now)) (sym c.find.ensures ∙ c.in-None.is) in
    let P : Option (List ℕ) → Type 0 = λ o. Computes c.value_of.result
    (config_value o (computed (listed c.args.values.now)) (define_of c.args.config.now)) in
    subst P (sym is) c.value_of.ensures

pub returns-in-Some-value_in : goal.returns-in-Some-value_in
returns-in-Some-value_in c =
    let same : to_z w64 (of_z w64 c.in-Some-value_in.value) ≡ c.in-Some-value_in.value =
    search rules in
    ap (λ o. config_value o (computed (listed c.args.values.now)) (define_of c.args.config.now))
    (setting-found (listed c.args.texts.now) c.args.config.now.name.text.now
    ∙ ap (option_map (λ value. value.now)) (sym c.find.ensures ∙ c.in-Some.is))
    ∙ ap taken (sym c.value_in.ensures ∙ c.in-Some-value_in.is) ∙ ap Gives (sym same)

pub returns-in-None-value_in : goal.returns-in-None-value_in
returns-in-None-value_in c = record {
  told = plain.ConfigType;
  tells = refl;
  fails =
      ap (λ o. config_value o (computed (listed c.args.values.now)) (define_of c.args.config.now))
      (setting-found (listed c.args.texts.now) c.args.config.now.name.text.now
      ∙ ap (option_map (λ value. value.now)) (sym c.find.ensures ∙ c.in-Some.is))
      ∙ ap taken (sym c.value_in.ensures ∙ c.in-None-value_in.is);
}
