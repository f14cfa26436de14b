use Rattle.std.proofs.Common.{rules, refl}
use Rattle.time_call.specs.Work.IsPutAs.{cut, whole}
use Rattle.time_call.proofs.tables.put_table.Goals as goal

pub returns-in-Ok-put_piece-clause-put : goal.returns-in-Ok-put_piece-clause-put
returns-in-Ok-put_piece-clause-put g c = λ history is.
    whole refl (record {
      text = c.in-Ok.text.items;
      is = c.in-Ok.ensures history is;
      holds = search rules;
    })

pub returns-in-Ok-clause-put : goal.returns-in-Ok-clause-put
returns-in-Ok-clause-put g c = λ history is.
    cut refl (record {
      text = c.in-Ok.text.items;
      is = c.in-Ok.ensures history is;
      holds = search rules;
    })
