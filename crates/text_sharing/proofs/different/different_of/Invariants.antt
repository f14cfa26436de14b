use Rattle.std.proofs.Common.{◌≡◌}
use Rattle.std.specs.Prelude.{drop, fold}
use Rattle.text_sharing.specs.Shared.{different, with_text}
use Rattle.text_sharing.specs.Numbered.{IsNumbered}
use Rattle.text_sharing.proofs.different.different_of.Given as goal

-- the texts so far, and what is left
abbrev pub invariant-loop-i : goal.invariant-loop-i
invariant-loop-i l = record {
  rest : fold with_text l.found.texts (drop l.i l.texts) ≡ different l.texts;
  numbered : IsNumbered l.found;
}
