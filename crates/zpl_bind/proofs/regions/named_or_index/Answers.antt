use Rattle.std.proofs.Common.{sym, ap, ◌∙◌, ◌≡◌, pos, cond, false, if◌then◌else◌, subst, [], ◌∷◌, w64, arith}
use mir.Val.{SFits}
use Rattle.std.proofs.lemmas.Int.{ints, to_z-of_z}
use Rattle.std.specs.Prelude.{unwrap_or, is_some}
use Rattle.zpl_tree.specs.View.{name_of}
use Rattle.zpl_parts.specs.of_zpl_binding.Outcome.{Outcome, Gives, and_then}
use Rattle.zpl_parts.specs.of_zpl_binding.Regions.{no_region, region_named, index_of, is_region_name, limited, region_over}
use Rattle.zpl_region.specs.declared.regions.Region.{Region}
use Rattle.zpl_bind.specs.Fault.{Computes}
use Rattle.zpl_region.specs.Hull.{all_from}
use Rattle.zpl_bind.specs.Known.{IsBuilt, known_in}
use Rattle.zpl_bind.specs.Tables.{listed}
use Rattle.zpl_bind.proofs.TableLemmas.{outcome-found}
use Rattle.zpl_bind.proofs.RegionLemmas.{found-holds, any-found}
use Rattle.zpl_bind.proofs.regions.named_or_index.Goals as goal

pub returns-in-Some-clause-computes : goal.returns-in-Some-clause-computes
returns-in-Some-clause-computes c =
    let known = known_in c.args.known.now in
    let name = name_of c.args.name.now in
    ap (λ b. cond b (region_named known name) (index_of known name))
    (any-found (listed c.args.known.now.regions) c.args.name.now.text.now ∙
    ap is_some (sym c.find.ensures ∙ c.in-Some.is))
    ∙ outcome-found no_region (listed c.args.known.now.regions) c.args.name.now.text.now
    ∙ ap (λ o. Gives (unwrap_or o no_region)) (sym c.find.ensures ∙ c.in-Some.is)

pub returns-in-Some-clause-built : goal.returns-in-Some-clause-built
returns-in-Some-clause-built c =
    found-holds IsBuilt (listed c.args.known.now.regions) c.args.name.now.text.now
    c.in-Some.region c.requires.built (sym c.in-Some.is ∙ c.find.ensures)

pub returns-in-None-clause-computes : goal.returns-in-None-clause-computes
returns-in-None-clause-computes c =
    let known = known_in c.args.known.now in
    let name = name_of c.args.name.now in
    let value = c.unwrap_or-value.result in
    let fits : SFits w64 value = omega (arith, ints, c.unwrap_or-value.type_inv) in
    let index : is_region_name known name ≡ false =
    any-found (listed c.args.known.now.regions) c.args.name.now.text.now ∙
    ap is_some (sym c.find.ensures ∙ c.in-None.is) in
    let is : (if is_region_name known name then region_named known name else index_of known name)
    ≡ limited (region_over (all_from value value ∷ [])) =
    ap (λ b. if b then region_named known name else index_of known name) index
    ∙ ap (λ o. and_then o (λ value. limited (region_over (all_from value value ∷ []))))
    (outcome-found (pos 0) (listed c.args.known.now.values) c.args.name.now.text.now
    ∙ ap Gives (sym (c.unwrap_or-value.ensures ∙ ap (λ (o : _). unwrap_or o (pos 0)) c.find-in-None.ensures))) in
    let over : c.all_from.result ≡ all_from value value =
    rw (to_z-of_z w64 value fits) at c.all_from.ensures in
    let P : Outcome Region → Type 0 = λ o. Computes c.limited.result o in
    subst P (sym (is ∙ ap (λ d. limited (region_over (d ∷ []))) (sym over)))
    c.limited.ensures.computes
