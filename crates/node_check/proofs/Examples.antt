-- Small programs that are sound, and some of which a demand isn't met.
use Rattle.std.proofs.Common.{◌≡◌, ℕ, true, List, [], ◌∷◌, None}
use Rattle.std.proofs.Common.{Contains, pos, negsuc, ℤ, codes, refl, arith}
use Rattle.std.proofs.Common.{zero, suc, ◌<◌, arith, subst, ◌≡◌, ℕ}
use Rattle.zpl_nums.specs.declared.operators.Op.TheVariants as op
use Rattle.zpl_nums.specs.declared.folds.Fold.TheVariants as fold
use Rattle.zpl_region.specs.declared.dims.Dim.TheVariants as dim
use Rattle.zpl_region.specs.declared.regions.Region.{Region}
use Rattle.zpl_region.specs.Region.{padding}
use Rattle.node_form.specs.declared.arrays.ArrayDim.{ArrayDim}
use Rattle.node_form.specs.declared.arrays.ArrayDim.TheVariants as axis
use Rattle.node_form.specs.declared.arrays.ArrayRow.{ArrayRow}
use Rattle.node_form.specs.declared.arrays.Item.{Item}
use Rattle.node_form.specs.declared.instructions.DimRow.TheVariants as part
use Rattle.node_form.specs.declared.instructions.Instr.TheVariants as instr
use Rattle.node_form.specs.declared.members.Member.TheVariants as member
use Rattle.node_form.specs.declared.tables.Tables.{Tables}
use Rattle.node_form.specs.declared.words.ExprOp.TheVariants as word
use Rattle.node_check.specs.Along.{Goes, Learns, Starts}
use Rattle.node_check.specs.Learn.{learnt, start_facts}
use Rattle.node_check.specs.Sound.{HasOneList, IsFaulty, IsMet, IsSound, MeetsDemand}
use Rattle.node_check.specs.declared.faults.CheckFault.TheVariants.{Unsound}
use Rattle.node_check.proofs.PathLemmas.{met_by_nothing, unmet_along}
use Rattle.node_check.proofs.StraightLemmas.{straight_sound, walked_open}

abbrev no_range : ArrayDim
no_range = axis.Range (pos 0) (pos 0) (pos 0) (pos 0)

-- a stored array over the numbers from 1 on, with fringes
abbrev over : ℤ → ℤ → ArrayRow
over hi width = record {
  rank = 1;
  stored = true;
  dims = axis.Range (pos 1) hi width width ∷ no_range ∷ no_range ∷ [];
}

abbrev line : ℤ → ℤ → Region
line lo hi = record { rank = 1; dims = dim.Range lo hi (pos 1) (pos 1) ∷ padding ∷ padding ∷ [] }

abbrev along : ℤ → List ℤ
along d = d ∷ pos 0 ∷ pos 0 ∷ []

abbrev item : ℤ → Item
item d = record { array = 0; slot = 0; shift = along d }

abbrev nothing : Tables
nothing = record {
  grid = 2 ∷ 0 ∷ 0 ∷ [];
  scalars = 0;
  cells = 0;
  slots = [];
  arrays = [];
  texts = [];
  exprs = [];
  groups = [];
  exchanges = [];
  code = [];
}

here : (x : ℕ) (xs : List ℕ) → Contains (x ∷ xs) x
here x xs = (0, omega arith, refl)

second : (x y : ℕ) → Contains (x ∷ y ∷ []) y
second x y = (1, omega arith, refl)

-- ---- scalars alone
abbrev greets : Tables
greets = record nothing {
  scalars = 1;
  texts = codes "hi" ∷ [];
  exprs =
      (word.Const (pos 20) ∷ [])
      ∷ (word.Scalar 0 ∷ word.Const (pos 1) ∷ word.Pair op.Add ∷ [])
      ∷ [];
  code = instr.Set 0 0 1 ∷ instr.Print 0 ∷ instr.Number 1 ∷ instr.End ∷ [];
}

greets_is_sound : IsSound greets
greets_is_sound = straight_sound greets refl refl

-- ---- two exchanges are open at once
abbrev crossed : Tables
crossed = record nothing {
  slots = 1 ∷ [];
  arrays = over (pos 4) (pos 1) ∷ [];
  exchanges =
      (item (pos 1) ∷ item (negsuc 0) ∷ [])
      ∷ (item (pos 1) ∷ item (negsuc 0) ∷ [])
      ∷ [];
  code =
      instr.Fix 0 (line (pos 2) (pos 3))
      ∷ instr.Start 0
      ∷ instr.Start 1
      ∷ instr.Finish 0
      ∷ instr.Finish 1
      ∷ instr.End
      ∷ [];
}

crossed_is_sound : IsSound crossed
crossed_is_sound = straight_sound crossed refl refl

two_are_open : walked_open crossed 3 ≡ 0 ∷ 1 ∷ []
two_are_open = refl

-- ---- a test of a scalar that differs from processor to processor
abbrev sums : Tables
sums = record nothing {
  scalars = 1;
  slots = 1 ∷ [];
  exprs = (word.Const (pos 1) ∷ []) ∷ (word.Scalar 0 ∷ []) ∷ [];
  groups = (member.Acc 0 fold.Sum 0 None 1 ∷ []) ∷ [];
  code =
      instr.Fix 0 (line (pos 1) (pos 1))
      ∷ instr.Loop 0 0
      ∷ instr.Unless 1 4 1
      ∷ instr.Fold 0 fold.Sum
      ∷ instr.End
      ∷ [];
}

sums_learns :
    Learns sums 2 []
    (learnt sums (learnt sums (start_facts sums) (instr.Fix 0 (line (pos 1) (pos 1))))
    (instr.Loop 0 0))
sums_learns = Goes {next = 2} (Goes {next = 1} Starts refl (here 1 [])) refl (here 2 [])

sums_is_unmet : ¬ IsMet sums 2
sums_is_unmet = unmet_along sums 2 [] _ (instr.Unless 1 4 1) sums_learns refl refl

-- and it is the least one
sums_is_faulty : IsFaulty sums (Unsound 2)
sums_is_faulty = (λ large. omega (arith, large), record { unmet = sums_is_unmet; least = least })
  where
    least : (earlier : ℕ) → earlier < 2 → HasOneList sums earlier → IsMet sums earlier
    least zero less alike row there =
        let same : instr.Fix 0 (line (pos 1) (pos 1)) ≡ row = cc in
        subst (λ row. MeetsDemand sums 0 row) same
        (met_by_nothing sums refl 0 (instr.Fix 0 (line (pos 1) (pos 1))) refl)
    least (suc zero) less alike row there =
        let same : instr.Loop 0 0 ≡ row = cc in
        subst (λ row. MeetsDemand sums 1 row) same
        (met_by_nothing sums refl 1 (instr.Loop 0 0) refl)
    least (suc (suc k)) less alike row there = absurd (omega (arith, less))

-- once it is folded, the test may stand
abbrev folded : Tables
folded = record sums {
  code =
      instr.Fix 0 (line (pos 1) (pos 1))
      ∷ instr.Loop 0 0
      ∷ instr.Fold 0 fold.Sum
      ∷ instr.Number 1
      ∷ instr.End
      ∷ [];
}

folded_is_sound : IsSound folded
folded_is_sound = straight_sound folded refl refl

-- ---- a place past the storage
abbrev beyond : Tables
beyond = record nothing {
  slots = 1 ∷ [];
  arrays = over (pos 2) (pos 0) ∷ [];
  exprs = (word.Shifted 0 (along (pos 1)) ∷ []) ∷ [];
  groups = (member.Put 0 0 None 0 ∷ []) ∷ [];
  code = instr.Fix 0 (line (pos 1) (pos 2)) ∷ instr.Loop 0 0 ∷ instr.End ∷ [];
}

beyond_learns :
    Learns beyond 1 [] (learnt beyond (start_facts beyond) (instr.Fix 0 (line (pos 1) (pos 2))))
beyond_learns = Goes {next = 1} Starts refl (here 1 [])

beyond_is_unmet : ¬ IsMet beyond 1
beyond_is_unmet = unmet_along beyond 1 [] _ (instr.Loop 0 0) beyond_learns refl refl

-- ---- a check of places, and then another region in its slot
abbrev rewritten : Tables
rewritten = record nothing {
  scalars = 1;
  slots = 1 ∷ [];
  arrays = over (pos 4) (pos 0) ∷ [];
  exprs = (word.Here 0 ∷ []) ∷ (word.Scalar 0 ∷ []) ∷ [];
  groups = (member.Put 0 0 None 0 ∷ []) ∷ [];
  code =
      instr.Need 0 0 (along (pos 0)) 1
      ∷ instr.Dims 0 (part.Span 1 1 ∷ part.Star ∷ part.Star ∷ []) 1
      ∷ instr.Loop 0 0
      ∷ instr.End
      ∷ [];
}

rewritten_learns :
    Learns rewritten 2 []
    (learnt rewritten
    (learnt rewritten (start_facts rewritten) (instr.Need 0 0 (along (pos 0)) 1))
    (instr.Dims 0 (part.Span 1 1 ∷ part.Star ∷ part.Star ∷ []) 1))
rewritten_learns = Goes {next = 2} (Goes {next = 1} Starts refl (here 1 [])) refl (here 2 [])

rewritten_is_unmet : ¬ IsMet rewritten 2
rewritten_is_unmet = unmet_along rewritten 2 [] _ (instr.Loop 0 0) rewritten_learns refl refl

-- with the check behind the region the places are there
abbrev checked : Tables
checked = record rewritten {
  code =
      instr.Dims 0 (part.Span 1 1 ∷ part.Star ∷ part.Star ∷ []) 1
      ∷ instr.Need 0 0 (along (pos 0)) 1
      ∷ instr.Loop 0 0
      ∷ instr.End
      ∷ [];
}

checked_is_sound : IsSound checked
checked_is_sound = straight_sound checked refl refl

-- ---- an exchange is open at a vote
abbrev voting : Tables
voting = record crossed {
  groups = [] ∷ [];
  code =
      instr.Fix 0 (line (pos 2) (pos 3)) ∷ instr.Start 0 ∷ instr.Vote 0 ∷ instr.Finish 0 ∷ [];
}

voting_learns :
    Learns voting 2 (0 ∷ [])
    (learnt voting (learnt voting (start_facts voting) (instr.Fix 0 (line (pos 2) (pos 3))))
    (instr.Start 0))
voting_learns = Goes {next = 2} (Goes {next = 1} Starts refl (here 1 [])) refl (here 2 [])

voting_is_unmet : ¬ IsMet voting 2
voting_is_unmet = unmet_along voting 2 (0 ∷ []) _ (instr.Vote 0) voting_learns refl refl

-- ---- Two paths lead to a loop, and on one of them alone the places are checked.
abbrev joined : Tables
joined = record rewritten {
  scalars = 1;
  code =
      instr.Dims 0 (part.Span 1 1 ∷ part.Star ∷ part.Star ∷ []) 1
      ∷ instr.Unless 1 3 1
      ∷ instr.Need 0 0 (along (pos 0)) 1
      ∷ instr.Loop 0 0
      ∷ instr.End
      ∷ [];
}

joined_learns :
    Learns joined 3 []
    (learnt joined
    (learnt joined (start_facts joined)
    (instr.Dims 0 (part.Span 1 1 ∷ part.Star ∷ part.Star ∷ []) 1)) (instr.Unless 1 3 1))
joined_learns = Goes {next = 3} (Goes {next = 1} Starts refl (here 1 [])) refl (second 2 3)

joined_is_unmet : ¬ IsMet joined 3
joined_is_unmet = unmet_along joined 3 [] _ (instr.Loop 0 0) joined_learns refl refl
