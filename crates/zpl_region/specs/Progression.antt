-- Numbers with one step between them.
use Rattle.std.specs.Prelude.{◌≡◌, ℕ, zero, suc, ◌-◌, ◌*◌, ◌^◌, ◌≤◌, ◌<◌, Bool, ◌&&◌, int_le, ℤ, pos, neg_ℤ, ◌+ℤ◌, ◌≤ℤ◌, List, [], ◌∷◌}
use Rattle.zpl_region.specs.declared.progressions.Progression.{Progression}

-- count numbers from first on, each of them step above the one before it
abbrev pub progression : ℤ → ℕ → ℕ → List ℤ
progression first step zero = []
progression first step (suc count) = first ∷ progression (first +ℤ pos step) step count

abbrev pub terms : Progression → List ℤ
terms p = progression p.first p.step p.count

-- x lies from lo to hi
abbrev pub is_between : ℤ → ℤ → ℤ → Bool
is_between lo hi x = int_le lo x && int_le x hi

-- the normal form: no two progressions in it have the same numbers. All numbers are from -2^40 to
-- 2^40
pub record IsNormal (p : Progression) : Type 0 where
  pub rising : 0 < p.step
  pub low : neg_ℤ (pos (2 ^ 40)) ≤ℤ p.first
  pub high : (p.first +ℤ pos ((p.count - 1) * p.step)) ≤ℤ pos (2 ^ 40)
  pub none : p.count ≡ 0 → p.first ≡ pos 0
  pub short : p.count ≤ 1 → p.step ≡ 1
