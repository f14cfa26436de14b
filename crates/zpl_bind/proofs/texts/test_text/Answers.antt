use Rattle.std.proofs.Common.{◌≡◌, [], ◌∷◌, sym, ap, ◌∙◌, subst, Contains}
use Rattle.std.specs.Option.{option_map}
use Rattle.zpl_tree.specs.View.{base_type_of}
use Rattle.zpl_parts.specs.of_zpl_binding.Outcome.{UnknownConfig, ConfigType}
use Rattle.zpl_parts.specs.of_zpl_binding.Settings.{value_fault}
use Rattle.zpl_parts.proofs.of_zpl_binding.ListLemmas.{head-member}
use Rattle.zpl_bind.specs.Tables.{found, listed}
use Rattle.zpl_bind.specs.Texts.{bases_of, type_fault}
use Rattle.zpl_bind.proofs.TextLemmas.{found-base}
use Rattle.zpl_bind.proofs.texts.test_text.Goals as goal

pub returns-in-None-clause-err : goal.returns-in-None-clause-err
returns-in-None-clause-err c =
    let is : type_fault (found (bases_of (listed c.args.bases.now)) c.args.name.now) c.args.text.now
    ≡ UnknownConfig ∷ [] =
    ap (λ o. type_fault o c.args.text.now) (found-base (listed c.args.bases.now) c.args.name.now
    ∙ ap (option_map base_type_of) (sym c.find.ensures ∙ c.in-None.is)) in
    subst (λ l. Contains l UnknownConfig) (sym is) (head-member UnknownConfig [])

pub returns-in-Some-value_in-clause-ok : goal.returns-in-Some-value_in-clause-ok
returns-in-Some-value_in-clause-ok c =
    ap (λ o. type_fault o c.args.text.now) (found-base (listed c.args.bases.now) c.args.name.now
    ∙ ap (option_map base_type_of) (sym c.find.ensures ∙ c.in-Some.is))
    ∙ ap value_fault (sym c.value_in.ensures ∙ c.in-Some-value_in.is)

pub returns-in-None-value_in-clause-err : goal.returns-in-None-value_in-clause-err
returns-in-None-value_in-clause-err c =
    let is : type_fault (found (bases_of (listed c.args.bases.now)) c.args.name.now) c.args.text.now
    ≡ ConfigType ∷ [] =
    ap (λ o. type_fault o c.args.text.now) (found-base (listed c.args.bases.now) c.args.name.now
    ∙ ap (option_map base_type_of) (sym c.find.ensures ∙ c.in-Some.is))
    ∙ ap value_fault (sym c.value_in.ensures ∙ c.in-None-value_in.is) in
    subst (λ l. Contains l ConfigType) (sym is) (head-member ConfigType [])
