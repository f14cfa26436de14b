-- Trees of small programs and settings for the examples. Offsets count from the beginning of the
-- text that stands above an example; an ` S: ` between declarations and statements counts too.
use Rattle.std.proofs.Common.{ℕ, ◌++◌, List, [], ◌∷◌, None, codes}
use Rattle.std.specs.Prelude.{map}
use Rattle.zpl_arrays.specs.of_zpl_region.declared.regions.Region.{Region}
use Rattle.zpl_tree.specs.Syntax.{Name, Prefixed, Stmts, Block, Decl, Defined, Program}
use Rattle.zpl_binding.specs.Outcome.{Outcome}
use Rattle.zpl_binding.specs.Settings.{Setting}
use Rattle.zpl_binding.specs.Declarations.{known_of}
use Rattle.zpl_binding.specs.Storages.{arrays_of, home_at}

abbrev pub name : List ℕ → ℕ → Name
name text at = record { text = text; at = at }

-- the program t with these declarations, and these statements in its entry procedure
abbrev pub declared : List Decl → Stmts → Program
declared decls body = record {
  name = name (codes "t") 0;
  decls =
      decls ++ Defined (record {
        name = name (codes "t") 0;
        params = [];
        result = None;
        locals = [];
        body = Prefixed 0 [] (Block body);
      }) ∷ [];
  source = [];
}

abbrev pub set : List ℕ → List ℕ → Setting
set config value = record { name = config; value = value }

-- the home boxes of all arrays
abbrev pub homes_of : Program → List Setting → List (Outcome Region)
homes_of program settings =
    map (λ array. home_at program (known_of program settings) array.name.at) (arrays_of program)
