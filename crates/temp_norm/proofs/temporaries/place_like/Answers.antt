use Rattle.std.proofs.Common.{◌∙◌, ap, length}
use Rattle.std.specs.Prelude.{unwrap_or}
use Rattle.temp_norm.specs.Normalised.{is_like}
use Rattle.temp_norm.proofs.PieceLemmas.{place_or_len}
use Rattle.temp_norm.proofs.temporaries.place_like.Goals as goal

pub returns : goal.returns
returns c =
    c.unwrap_or.ensures
    ∙ (ap (λ found. unwrap_or found (length c.args.rows.now)) c.find_like.ensures
    ∙ place_or_len (is_like c.args.row) c.args.rows.now)
