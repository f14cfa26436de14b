use Rattle.std.proofs.Common.{◌≡◌, ℕ, ℤ, Bool, w64, take, pos, sym, ap, subst, ◌∙◌, arith}
use mir.Val.{SFits}
use Rattle.std.specs.List.{prefix_len}
use Rattle.std.specs.Char.{is_ascii_digit}
use Rattle.std.specs.Str.Parse.{digits_value}
use Rattle.std.proofs.lemmas.Bool.{false≢true}
use Rattle.std.proofs.lemmas.Int.{ints, to_z-of_z}
use Rattle.std.proofs.lemmas.List.Sums.{prefix_len-le-length}
use Rattle.zpl_tokens.specs.declared.Kind.TheVariants.{Number}
use Rattle.zpl_text.specs.Cutting.{IsCut, too_large, float_text}
use Rattle.zpl_text.proofs.Cuts.{numeral_cut}
use Rattle.zpl_text.proofs.Runs.{run_passes}
use Rattle.zpl_text.proofs.numbers.number_at.Goals as goal
use Rattle.zpl_text.proofs.numbers.number_at.Goals.{After-split_at}

-- the digits at the front
digits_are : (c : After-split_at)
    → c.split_at.result.0.now ≡ take (prefix_len is_ascii_digit c.args.rest.now) c.args.rest.now
digits_are c = c.split_at.ensures.front
    ∙ ap (λ (n : ℕ). take n c.args.rest.now) c.digit_count.ensures

-- their cut
digits_cut : (c : After-split_at) (ditto : Bool)
    → IsCut ditto c.args.rest.now (Number (pos (digits_value 10 c.split_at.result.0.now)))
    c.split_at.result.1.now
digits_cut c ditto =
    rw (digits_are c, c.split_at.ensures.back, c.digit_count.ensures)
    (numeral_cut ditto c.args.rest.now c.requires.digit)

pub split_at-requires : goal.split_at-requires
split_at-requires c = omega (arith, prefix_len-le-length is_ascii_digit c.args.rest.now)

pub returns-then-is_float_tail-clause-cut : goal.returns-then-is_float_tail-clause-cut
returns-then-is_float_tail-clause-cut c = λ ditto.
    rw c.offset_of-at.ensures
    (float_text (digits_cut (goal.at.returns-then-is_float_tail-clause-cut c).After-split_at ditto)
    (c.is_float_tail.ensures.0 c.if-is_float_tail.true))

pub value_of-requires : goal.value_of-requires
value_of-requires c =
    rw (digits_are (goal.at.value_of-requires c).After-split_at)
    (run_passes is_ascii_digit c.args.rest.now)

pub returns-in-Some-clause-cut : goal.returns-in-Some-clause-cut
returns-in-Some-clause-cut c = λ ditto.
    let value = c.in-Some.value in
    let found = c.in-Some.ensures {u = tt} in
    let fits : SFits w64 value = omega (arith, ints, found.0, found.1) in
    let cut = subst (λ (z : ℤ). IsCut ditto c.args.rest.now (Number z) c.split_at.result.1.now)
    (sym found.0) (digits_cut (goal.at.returns-in-Some-clause-cut c).After-split_at ditto) in
    rw (to_z-of_z w64 value fits) (
      cut,
      (
        (λ floats. false≢true (sym c.if-is_float_tail.false ∙ c.is_float_tail.ensures.1 floats)),
        found.1,
      ),
    )

pub returns-in-None-clause-cut : goal.returns-in-None-clause-cut
returns-in-None-clause-cut c = λ ditto.
    rw c.offset_of-at.ensures
    (too_large (digits_cut (goal.at.returns-in-None-clause-cut c).After-split_at ditto)
    (λ floats. false≢true (sym c.if-is_float_tail.false ∙ c.is_float_tail.ensures.1 floats))
    (c.in-None.ensures {u = tt}))
