-- Why the words that are printed are a spelling.
use Rattle.std.proofs.Common.{List, [], ◌∷◌, refl, inl}
use Rattle.std.specs.List.{flat_map}
use Rattle.zpl_tree.specs.Grammar.{IsProgram, Spells, SpellsEach, SpellsRegion, SpellsMoreLocals, SpellsLocals, SpellsDecl}
use Rattle.zpl_tree.specs.Spelling.{region_words, var_words, locals_words, decl_words, program_words}
use Rattle.zpl_tree.specs.Syntax.{RegionDef, VarDef, Decl, Config, Constant, Regions, Directions, Vars, Defined, Program}
use Rattle.zpl_tree.specs.Word.{Word}

each_spelled : {A : Type 0} (S : A → List Word → Type 0) (words : A → List Word)
    → ((x : A) → S x (words x)) → (xs : List A) →
    SpellsEach S xs (flat_map words xs)
each_spelled S words spelled [] = refl
each_spelled S words spelled (x ∷ xs) =
    (words x, flat_map words xs, spelled x, each_spelled S words spelled xs, refl)

more_locals : (vars : List VarDef) → SpellsMoreLocals vars (flat_map var_words vars)
more_locals [] = refl
more_locals (first ∷ rest) = (flat_map var_words rest, more_locals rest, inl refl)

locals_spelled : (vars : List VarDef) → SpellsLocals vars (locals_words vars)
locals_spelled [] = refl
locals_spelled (first ∷ rest) = (flat_map var_words rest, more_locals rest, refl)

region_spelled : (region : RegionDef) → SpellsRegion region (region_words region)
region_spelled region = inl refl

decl_spelled : (decl : Decl) → SpellsDecl decl (decl_words decl)
decl_spelled (Config defines) = refl
decl_spelled (Constant defines) = refl
decl_spelled (Regions regions) = (
  flat_map region_words regions,
  each_spelled SpellsRegion region_words region_spelled regions,
  refl,
)
decl_spelled (Directions directions) = refl
decl_spelled (Vars vars) = refl
decl_spelled (Defined procedure) =
    (locals_words procedure.locals, locals_spelled procedure.locals, refl)

pub program_spelled : (program : Program) → IsProgram program
    → Spells program (program_words program)
program_spelled program is = (
  flat_map decl_words program.decls,
  is,
  each_spelled SpellsDecl decl_words decl_spelled program.decls,
  refl,
)
