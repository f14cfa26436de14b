-- Flood dimensions as a list.
use Rattle.std.specs.Prelude.{◌≡◌, refl, Bool, List, [], ◌∷◌}
use Rattle.lower_draft.specs.declared.floods.Flags.{Flags}
use Rattle.lower_draft.specs.declared.floods.Flags.TheVariants.{Zero, One, Two, Three}

abbrev pub listed : Flags → List Bool
listed Zero = []
listed (One a) = a ∷ []
listed (Two a b) = a ∷ b ∷ []
listed (Three a b c) = a ∷ b ∷ c ∷ []

-- back, from a list of at most three
abbrev pub flags_of : List Bool → Flags
flags_of [] = Zero
flags_of (a ∷ []) = One a
flags_of (a ∷ b ∷ []) = Two a b
flags_of (a ∷ b ∷ c ∷ rest) = Three a b c

pub flags_back : (flags : Flags) → flags_of (listed flags) ≡ flags
flags_back Zero = refl
flags_back (One a) = refl
flags_back (Two a b) = refl
flags_back (Three a b c) = refl
