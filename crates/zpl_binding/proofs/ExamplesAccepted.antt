-- Settings of this program are accepted: a copy is within the limit.
use Rattle.std.proofs.Common.{◌≡◌, ℕ, zero, suc, List, [], ◌∷◌, None, Some, pos, codes, Contains, inl, inr, refl, sym, ◌∙◌, subst, arith}
use Rattle.std.specs.Int.{int_wrap}
use Rattle.zpl_arrays.specs.of_zpl_region.declared.regions.Region.{Region}
use Rattle.zpl_arrays.specs.of_zpl_region.Hull.{all_from}
use Rattle.zpl_tree.specs.Syntax.{Number, Named, Around, NoExpr, ThenExpr, Dir, Vector, NamedRegion, Rexpr, Dims, Bracketed, NoPost, Span, NoDim, ThenDim, Prefixed, NoStmt, ThenStmt, Assign, Integer, Config, Regions, Vars, Program}
use Rattle.zpl_names.specs.Declared.{routine_named}
use Rattle.zpl_names.specs.Sites.{CallSite}
use Rattle.zpl_names.specs.Reached.{calls_in}
use Rattle.zpl_binding.specs.Outcome.{RegionLimit, Gives, Fails}
use Rattle.zpl_binding.specs.Regions.{region_over}
use Rattle.zpl_binding.specs.Settings.{Setting}
use Rattle.zpl_binding.specs.Formals.{array_in, AreClosed, AroundRead, around_reads, IsListed}
use Rattle.zpl_binding.specs.Declarations.{known_of}
use Rattle.zpl_binding.specs.Copies.{copy_of, HasCopiesWithin}
use Rattle.zpl_binding.specs.Bound.{Bound, Binds, IsAcceptedWith}
use Rattle.zpl_binding.proofs.Trees.{name, declared, set}
use Rattle.zpl_binding.proofs.OutcomeLemmas.{no-contains}
use Rattle.zpl_binding.proofs.FormalLemmas.{copies-within}
use Rattle.zpl_binding.proofs.BoundLemmas.{bound-accepts}

-- config var n : integer = 1; region R = [1..n]; var A : [R] integer; S: [R] A := A@^[1];
abbrev program : Program
program = (declared ((Config ((record {
  name = (name (codes "n") 11);
  base = Integer;
  value =
      (Number 25 (pos 1));
}) ∷ [])) ∷ (Regions ((record {
  name = (name (codes "R") 35);
  body = (Dims
      (ThenDim (Span (Number 40 (pos 1)) (Named 43 (name (codes "n") 43))) NoDim));
  posts = NoPost;
})
    ∷ [])) ∷ (Vars ((record {
      names = ((name (codes "A") 51) ∷ []);
      shape = (Bracketed (Rexpr []
          (NamedRegion (name (codes "R") 56)) NoPost));
      base = Integer;
    }) ∷ [])) ∷ []) (ThenStmt (Prefixed
    75 ((record {
      at = 71;
      region = (Rexpr [] (NamedRegion (name (codes "R") 72)) NoPost);
      mask =
          None;
    }) ∷ []) (Assign (name (codes "A") 75) None (Around 80 (name (codes "A") 80) (Vector
    (ThenExpr (Number 84 (pos 1)) NoExpr))))) NoStmt))

abbrev four : List Setting
four = set (codes "n") (codes "4") ∷ []

abbrev shift : Dir
shift = Vector (ThenExpr (Number 84 (pos 1)) NoExpr)

-- what it is bound to, with n set to 4
abbrev bound : Bound
bound = record {
  values = pos 4 ∷ [];
  regions = region_over (all_from (pos 1) (pos 4) ∷ []) ∷ [];
  vectors = (pos 1 ∷ pos 0 ∷ pos 0 ∷ []) ∷ [];
  storages = region_over (all_from (pos 1) (pos 4) ∷ []) ∷ [];
}

binds : Binds program four bound
unfolding int_wrap
binds = record { values = refl; regions = refl; vectors = refl; storages = refl }

-- the entry procedure calls nothing
entry_only : (text : List ℕ) → Contains (codes "t" ∷ []) text → codes "t" ≡ text
entry_only text (zero, below, is) = is
entry_only text (suc k, below, is) = absurd (omega (arith, below))

no_calls : (text : List ℕ) (call : CallSite) → Contains (codes "t" ∷ []) text →
    ¬ Contains (calls_in program text) call
no_calls text call here there =
    no-contains (calls_in program (codes "t")) call refl
    (subst (λ text. Contains (calls_in program text) call) (sym (entry_only text here)) there)

closed : AreClosed program (codes "t" ∷ []) []
closed = record {
  entry = (0, omega arith, refl);
  calls = λ text call here there. absurd (no_calls text call here there);
  handed = λ text call handed variable here there hands listed.
      absurd (no_calls text call here there);
}

gives_fails : (region : Region) → Gives region ≡ Fails RegionLimit → ⊥
gives_fails region e = cc

some_same : (x y : ℕ) → Some x ≡ Some y → x ≡ y
some_same x y e = cc

-- the storage of the copy is 1..5
copy_fits : copy_of program (known_of program four) 51 shift ≡
    Gives (region_over (all_from (pos 1) (pos 5) ∷ []))
unfolding int_wrap
copy_fits = refl

abbrev NotPast : ℕ → AroundRead → Type 0
NotPast variable read =
    array_in program (routine_named program (codes "t")) read.array ≡ Some variable →
    ¬ (copy_of program (known_of program four) variable read.shift ≡ Fails RegionLimit)

read_fits : (variable : ℕ) → NotPast variable (record { array = codes "A"; shift = shift })
read_fits variable found past =
    gives_fails (region_over (all_from (pos 1) (pos 5) ∷ []))
    (sym copy_fits ∙
    subst (λ at. copy_of program (known_of program four) at shift ≡ Fails RegionLimit)
    (sym (some_same 51 variable found)) past)

reads_fit : (read : AroundRead) (variable : ℕ) →
    Contains (around_reads program (codes "t")) read →
    IsListed program [] (codes "t") read.array variable →
    ¬ (copy_of program (known_of program four) variable read.shift ≡ Fails RegionLimit)
reads_fit read variable (zero, below, is) (inl found) past =
    subst (NotPast variable) is (read_fits variable) found past
reads_fit read variable (suc k, below, is) (inl found) past = absurd (omega (arith, below))
reads_fit read variable there (inr listed) past =
    no-contains [] (record { procedure = codes "t"; formal = read.array; variable = variable })
    refl listed

within : HasCopiesWithin program (known_of program four) (codes "t" ∷ []) []
within text read variable here there listed past =
    subst
    (λ text. Contains (around_reads program text) read →
    IsListed program [] text read.array variable → ⊥) (entry_only text here)
    (λ there listed. reads_fit read variable there listed past) there listed

accepted : IsAcceptedWith program four
accepted =
    bound-accepts program four bound binds refl
    (copies-within program (codes "t" ∷ []) [] (known_of program four) closed within)
