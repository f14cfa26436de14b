-- What a put does to the lists of bytes that a sink tells that it took.
use Rattle.std.specs.Prelude.{ℕ, List, ◌++◌}
use Rattle.zpl_lists.specs.Front.{IsFrontOf}

-- whatever list was told before, that list and the piece behind it is told after
abbrev pub Takes : (List ℕ → Type 0) → List ℕ → (List ℕ → Type 0) → Type 0
Takes before piece after = (taken : List ℕ) → before taken → after (taken ++ piece)

-- How a call leaves a sink of which `before` and `after` say that its last put failed: where a put
-- of the call failed it was the last one, and else the last one went well, or there was none.
pub record StopsAtFault (failed before after : Type 0) : Type 0 where
  pub fails : failed → after
  pub goes_on : ¬ failed → after → before

-- the sink took some front of the piece
pub record TakesFront (before : List ℕ → Type 0) (piece : List ℕ) (after : List ℕ → Type 0) : Type 0
  where
    pub front : List ℕ
    pub is_front : IsFrontOf front piece
    pub takes : Takes before front after
