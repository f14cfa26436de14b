use Rattle.std.proofs.Common.{◌≡◌, ℕ, List, [], ◌∷◌, ◌++◌, map, take, sym, ap, ap₂, ◌∙◌, subst, true, false, Contains, Vec, Global}
use Rattle.std.specs.Prelude.{is_some}
use Rattle.std.proofs.lemmas.List.{map-append}
use Rattle.zpl_parts.specs.of_zpl_binding.Outcome.{TwiceSet}
use Rattle.zpl_parts.specs.of_zpl_binding.Settings.{is_set}
use Rattle.zpl_bind.specs.Fault.{IsAmong}
use Rattle.zpl_bind.specs.Lists.{settings_of}
use Rattle.zpl_bind.specs.Tables.{listed}
use Rattle.zpl_bind.specs.Texts.{bases_of, all_text_faults}
use Rattle.zpl_bind.proofs.KnownLemmas.{told-err}
use Rattle.zpl_bind.proofs.TextLemmas.{set-found, settings-next, typed-next, once-next, twice-told, fault-told, one_setting}
use Rattle.zpl_bind.proofs.texts.texts_of.Goals as goal

abbrev seen : Vec ℕ Global × Vec ℕ Global → List ℕ × List ℕ
seen pair = (pair.0.items, pair.1.items)

pub returns-then-is_some-clause-err : goal.returns-then-is_some-clause-err
returns-then-is_some-clause-err c =
    let pairs = c.pairs-pair-items.result.now in
    let i = c.loop-pair.pair-index in
    let name = c.as_slice-name.result.now in
    let text = c.as_slice-text.result.now in
    let is = ap seen (sym c.pair-item.is) ∙
    ap₂ (λ (a b : List ℕ). (a, b)) (sym c.as_slice-name.ensures.value) (sym c.as_slice-text.ensures.value) in
    let again : is_set (settings_of (map seen (take i pairs))) name ≡ true =
    ap (λ l. is_set l name) (sym c.loop-pair.invariant.texts) ∙
    set-found (listed c.loop-pair.texts) name ∙
    sym (ap is_some c.find.ensures) ∙ sym c.is_some.ensures ∙ c.if-is_some.true in
    subst (λ l. Contains (all_text_faults (bases_of (listed c.args.bases.now)) (settings_of l)) TwiceSet)
    c.pairs-pair-items.ensures
    (twice-told seen pairs i c.pair-item.result name text (bases_of (listed c.args.bases.now))
    c.loop-pair-test.true is again)

pub returns-in_err-test_text-clause-err : goal.returns-in_err-test_text-clause-err
returns-in_err-test_text-clause-err c =
    let pairs = c.pairs-pair-items.result.now in
    let i = c.loop-pair.pair-index in
    let name = c.as_slice-name.result.now in
    let text = c.as_slice-text.result.now in
    let fault = c.in_err-test_text.field-0.0 in
    let bases = bases_of (listed c.args.bases.now) in
    let is = ap seen (sym c.pair-item.is) ∙
    ap₂ (λ (a b : List ℕ). (a, b)) (sym c.as_slice-name.ensures.value) (sym c.as_slice-text.ensures.value) in
    told-err c.from_residual.result fault _ c.from_residual.ensures.1
    (subst (λ l. IsAmong fault (all_text_faults bases (settings_of l))) c.pairs-pair-items.ensures
    (fault-told seen pairs i c.pair-item.result name text bases fault c.loop-pair-test.true is
    c.in_err-test_text.ensures.err))

pub loop-pair-preserved : goal.loop-pair-preserved
loop-pair-preserved c =
    let pairs = c.pairs-pair-items.result.now in
    let i = c.loop-pair.pair-index in
    let name = c.as_slice-name.result.now in
    let text = c.as_slice-text.result.now in
    let is = ap seen (sym c.pair-item.is) ∙
    ap₂ (λ (a b : List ℕ). (a, b)) (sym c.as_slice-name.ensures.value) (sym c.as_slice-text.ensures.value) in
    let new : is_set (settings_of (map seen (take i pairs))) name ≡ false =
    ap (λ l. is_set l name) (sym c.loop-pair.invariant.texts) ∙
    set-found (listed c.loop-pair.texts) name ∙
    sym (ap is_some c.find.ensures) ∙ sym c.is_some.ensures ∙ c.if-is_some.false in
    record {
      table = c.in_ok-add.ensures.table;
      texts = ap (map _) c.in_ok-add.ensures.added ∙ map-append _ (listed c.loop-pair.texts) _ ∙
          ap (λ l. l ++ one_setting name text ∷ []) c.loop-pair.invariant.texts ∙
          sym (settings-next seen pairs i c.pair-item.result name text c.loop-pair-test.true is);
      typed = typed-next seen pairs i c.pair-item.result name text
          (bases_of (listed c.args.bases.now)) c.loop-pair-test.true is
          c.loop-pair.invariant.typed c.in_ok-test_text.ensures.ok;
      once = once-next seen pairs i c.pair-item.result name text c.loop-pair-test.true is
          c.loop-pair.invariant.once new;
    }
