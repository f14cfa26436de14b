use Rattle.zpl_claims.specs.Origin.{origin_of}
use Rattle.compiled_tidy.proofs.AcceptedLemmas.{accepted_tidily}
use Rattle.compiled_tidy.proofs.laws.accepted_code_is_tidy.Goals as goal

pub returns : goal.returns
returns c = λ text tokens program build accepted.
    c.compiled_code_is_tidy.ensures (origin_of build program _)
    (accepted_tidily c.parsed_names_stand_apart.ensures
    c.lowered_programs_are_flat.ensures.flat c.texts_hold_their_words.ensures.words
    c.texts_hold_their_words.ensures.tokens c.loops_are_checked.ensures
    c.checks_say_what_follows.ensures c.totals_stand_apart.ensures.rows
    c.totals_stand_apart.ensures.tables c.totals_stand_apart.ensures.puts
    c.loops_read_apart.ensures c.declarations_fit.ensures c.puts_are_alike.ensures
    c.boxes_of_texts_are_stored.ensures text tokens program build accepted)
