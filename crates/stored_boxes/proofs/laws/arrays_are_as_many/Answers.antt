use Rattle.stored_boxes.proofs.CountLemmas.{many, none}
use Rattle.stored_boxes.proofs.laws.arrays_are_as_many.Goals as goal

pub returns : goal.returns
returns c = record {
  many = λ program settings grammar clean.
      many program settings (c.all_code_is_numbered.ensures program settings grammar clean);
  none = λ program settings grammar clean.
      none program settings (c.all_code_is_numbered.ensures program settings grammar clean);
}
