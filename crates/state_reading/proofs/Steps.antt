-- What breaks in one of two steps, and what a fact must hold for.
use Rattle.std.proofs.Common.{◌≡◌, List, refl, subst}
use Rattle.save_lines.specs.declared.lines.SavedLine.{SavedLine}
use Rattle.save_reading.proofs.OneWay.{Same}

-- the first step breaks; or it is done, and what comes next breaks
pub data Either {X : Type 0} (Read : X → List SavedLine → Type 0) (Breaks : List SavedLine → Type 0)
    (Next : X → List SavedLine → List SavedLine → Type 0) : List SavedLine → Type 0 where
  Now : (left : List SavedLine) → Breaks left → Either Read Breaks Next left
  Behind : (x : X) (rest left : List SavedLine) → Read x rest → Next x rest left → Either Read Breaks Next left

-- a fact doesn't hold, and this is left; or it does, and what comes next breaks
pub data Unless (Fact : Type 0) (here : List SavedLine) (Next : List SavedLine → Type 0) : List SavedLine → Type 0 where
  Fails : (Fact → ⊥) → Unless Fact here Next here
  Holds : (left : List SavedLine) → Fact → Next left → Unless Fact here Next left

-- lines are left in one way
abbrev pub IsOneWay : (List SavedLine → Type 0) → Type 0
IsOneWay Breaks = (left left' : List SavedLine) → Breaks left → Breaks left' → left ≡ left'

pub record IsFirstTold {X : Type 0} (Read : X → List SavedLine → Type 0) (Breaks : List SavedLine → Type 0) : Type 0 where
  pub one : (x y : X) (rest rest' : List SavedLine) → Read x rest → Read y rest' → Same x y rest rest'
  pub apart : (x : X) (rest left : List SavedLine) → Read x rest → Breaks left → ⊥
  pub left : IsOneWay Breaks

same_list : (lines : List SavedLine) → lines ≡ lines
same_list lines = refl

pub either_left : {X : Type 0} (Read : X → List SavedLine → Type 0) (Breaks : List SavedLine → Type 0) (Next : X → List SavedLine → List SavedLine → Type 0) →
    IsFirstTold Read Breaks → ((x : X) (rest : List SavedLine) → Read x rest → IsOneWay (Next x rest)) → IsOneWay (Either Read Breaks Next)
either_left Read Breaks Next told next _ _ (Now left breaks) (Now left' breaks') = told.left left left' breaks breaks'
either_left Read Breaks Next told next _ _ (Now left breaks) (Behind x rest left' reads breaks') = absurd (told.apart x rest left reads breaks)
either_left Read Breaks Next told next _ _ (Behind x rest left reads breaks) (Now left' breaks') = absurd (told.apart x rest left' reads breaks')
either_left {X} Read Breaks Next told next _ _ (Behind x rest left reads breaks) (Behind y rest' left' reads' breaks') =
    let same = told.one x y rest rest' reads reads' in
    next y rest' reads' left left' (subst (λ (r : List SavedLine). Next y r left) same.behind (subst (λ (z : X). Next z rest left) same.value breaks)) breaks'

pub unless_left : (Fact : Type 0) (here : List SavedLine) (Next : List SavedLine → Type 0) → IsOneWay Next → IsOneWay (Unless Fact here Next)
unless_left Fact here Next next _ _ (Fails none) (Fails none') = same_list here
unless_left Fact here Next next _ _ (Fails none) (Holds left fact breaks) = absurd (none fact)
unless_left Fact here Next next _ _ (Holds left fact breaks) (Fails none) = absurd (none fact)
unless_left Fact here Next next _ _ (Holds left fact breaks) (Holds left' fact' breaks') = next left left' breaks breaks'
