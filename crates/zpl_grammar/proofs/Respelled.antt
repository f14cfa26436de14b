-- Where a spelling of a tree is writable, so are the words that the tree is printed as.
use Rattle.std.proofs.Common.{◌≡◌, Bool, true, false, List, [], ◌∷◌, ◌++◌, refl, sym, ◌∙◌, ap, subst, ⊎_elim}
use Rattle.std.specs.List.{flat_map}
use Rattle.std.proofs.lemmas.Bool.{false≢true}
use Rattle.std.proofs.lemmas.List.{append_cancel_right}
use Rattle.zpl_tokens.specs.declared.keywords.Key.TheVariants as key
use Rattle.zpl_tokens.specs.declared.symbols.Sym.{Sym}
use Rattle.zpl_tokens.specs.declared.symbols.Sym.TheVariants as sym
use Rattle.zpl_text.specs.Cutting.{opens_ditto}
use Rattle.zpl_tree.specs.Grammar.{Spells, SpellsEach, SpellsRegion, SpellsMoreLocals, SpellsLocals, SpellsProcedure, SpellsDecl, IsRexpr, HasNoPost}
use Rattle.zpl_tree.specs.Spelling.{symbol, keyword, name_words, in_round, in_square, expr_words, exprs_words, inner_words, bracket_words, posts_words, names_words, prefix_words, assign_words, head_words, items_words, border_words, end_words, stmt_words, stmts_words, form_words, arms_words, otherwise_words, type_words, define_words, region_words, direction_words, var_words, params_words, result_words, locals_words, heading_words, decl_words, before_end, program_words}
use Rattle.zpl_tree.specs.Syntax.{Name, NamedRegion, Ditto, Inner, Rexpr, Dims, Posts, NoPost, ThenPost, Stmt, Prefixed, Form, Assign, Invoke, Block, If, While, Repeat, For, Border, Write, Return, Define, RegionDef, DirDef, VarDef, Procedure, Decl, Config, Constant, Regions, Directions, Vars, Defined, Program}
use Rattle.zpl_tree.specs.Word.{Word, kind_of}
use Rattle.zpl_tree.specs.Word as word
use Rattle.zpl_grammar.specs.Writable.{IsWritable, EachIsWritable, AreWritable}

-- whether a quote is a ditto behind the words
abbrev behind : Bool → List Word → Bool
behind ditto [] = ditto
behind ditto (w ∷ words) = behind (opens_ditto (kind_of w)) words

behind-append : (ditto : Bool) (xs ys : List Word) → behind ditto (xs ++ ys)
    ≡ behind (behind ditto xs) ys
behind-append ditto [] ys = refl
behind-append ditto (x ∷ xs) ys = behind-append (opens_ditto (kind_of x)) xs ys

-- words in a row are writable where each part is
each_parts : (ditto : Bool) (xs ys : List Word) → EachIsWritable ditto (xs ++ ys)
    → EachIsWritable ditto xs × EachIsWritable (behind ditto xs) ys
each_parts ditto [] ys each = (tt, each)
each_parts ditto (x ∷ xs) ys each =
    let more = each_parts (opens_ditto (kind_of x)) xs ys each.1 in
    ((each.0, more.0), more.1)

each_whole : (ditto : Bool) (xs ys : List Word) → EachIsWritable ditto xs
    → EachIsWritable (behind ditto xs) ys → EachIsWritable ditto (xs ++ ys)
each_whole ditto [] ys front back = back
each_whole ditto (x ∷ xs) ys front back =
    (front.0, each_whole (opens_ditto (kind_of x)) xs ys front.1 back)

-- New words are writable where the old are, and no quote is a ditto before or behind them.
record MayReplace (old new : List Word) : Type 0 where
  each : EachIsWritable false old → EachIsWritable false new
  behind_old : behind false old ≡ false
  behind_new : behind false new ≡ false

stays : (xs : List Word) → behind false xs ≡ false → MayReplace xs xs
stays xs is = record { each = λ each. each; behind_old = is; behind_new = is }

replaces : {xs xs' ys ys' : List Word} → MayReplace xs ys → MayReplace xs' ys'
    → MayReplace (xs ++ xs') (ys ++ ys')
replaces {xs = xs} {xs' = xs'} {ys = ys} {ys' = ys'} one two = record {
  each = λ each.
      let parts = each_parts false xs xs' each in
      let back = two.each (subst (λ (d : Bool). EachIsWritable d xs') one.behind_old parts.1) in
      each_whole false ys ys' (one.each parts.0) (subst (λ (d : Bool). EachIsWritable d ys')
      (sym one.behind_new) back);
  behind_old = behind-append false xs xs' ∙ ap (λ (d : Bool). behind d xs') one.behind_old
      ∙ two.behind_old;
  behind_new = behind-append false ys ys' ∙ ap (λ (d : Bool). behind d ys') one.behind_new
      ∙ two.behind_new;
}

-- each part in its turn
each_replaces : {A : Type 0} (S : A → List Word → Type 0) (words : A → List Word)
    → ((x : A) (old : List Word) → S x old → MayReplace old (words x))
    → (xs : List A) (old : List Word) → SpellsEach S xs old → MayReplace old (flat_map words xs)
each_replaces S words one [] old spells =
    subst (λ (ws : List Word). MayReplace ws []) (sym spells) (stays [] refl)
each_replaces S words one (x ∷ xs) old (front, back, first, rest, split) =
    subst (λ (ws : List Word). MayReplace ws (words x ++ flat_map words xs)) (sym split)
    (replaces (one x front first) (each_replaces S words one xs back rest))

-- behind the words no quote is a ditto, whatever stands before them
abbrev Settle : List Word → Type 0
Settle words = (ditto : Bool) → behind ditto words ≡ false

settle_behind : (xs ys : List Word) → Settle ys → Settle (xs ++ ys)
settle_behind xs ys settle = λ ditto. behind-append ditto xs ys ∙ settle (behind ditto xs)

-- a definition, a heading and a statement end with a semicolon
semicolon_settles : (words : List Word) → Settle (words ++ symbol sym.Semicolon)
semicolon_settles words = settle_behind words (symbol sym.Semicolon) (λ ditto. refl)

end_settles : (words : List Word) → Settle (words ++ end_words)
end_settles words = settle_behind words end_words (λ ditto. refl)

each_settles : {A : Type 0} (words : A → List Word) → ((x : A) → Settle (words x)) → (xs : List A)
    → behind false (flat_map words xs) ≡ false
each_settles words settle [] = refl
each_settles words settle (x ∷ xs) =
    behind-append false (words x) (flat_map words xs)
    ∙ ap (λ (d : Bool). behind d (flat_map words xs)) (settle x false)
    ∙ each_settles words settle xs

define_settles : (define : Define) → Settle (define_words define)
define_settles define =
    semicolon_settles (name_words define.name ++ symbol sym.Colon ++ type_words define.base ++
    symbol sym.Equal ++ expr_words define.value)

region_settles : (region : RegionDef) → Settle (region_words region)
region_settles region =
    semicolon_settles (name_words region.name ++ symbol sym.Equal ++
    in_square (inner_words region.body) ++ posts_words region.posts)

direction_settles : (direction : DirDef) → Settle (direction_words direction)
direction_settles direction =
    semicolon_settles (name_words direction.name ++ symbol sym.Equal ++
    in_square (exprs_words direction.parts))

var_settles : (var : VarDef) → Settle (var_words var)
var_settles var =
    semicolon_settles (names_words var.names ++ symbol sym.Colon ++ bracket_words var.shape ++
    type_words var.base)

heading_settles : (procedure : Procedure) → Settle (heading_words procedure)
heading_settles procedure =
    semicolon_settles (keyword key.Procedure ++ name_words procedure.name ++
    in_round (params_words procedure.params) ++ result_words procedure.result)

form_settles : (form : Form) → Settle (form_words form)
form_settles (Assign name op value) =
    semicolon_settles (name_words name ++ assign_words op ++ expr_words value)
form_settles (Invoke name actuals) =
    semicolon_settles (name_words name ++ in_round (exprs_words actuals))
form_settles (Block body) = end_settles (keyword key.Begin ++ stmts_words body)
form_settles (If arms otherwise) = end_settles (arms_words arms ++ otherwise_words otherwise)
form_settles (While test body) =
    end_settles (keyword key.While ++ expr_words test ++ keyword key.Do ++ stmts_words body)
form_settles (Repeat body until test) =
    semicolon_settles (keyword key.Repeat ++ stmts_words body ++ keyword key.Until ++
    expr_words test)
form_settles (For head body) =
    end_settles (keyword key.For ++ head_words head ++ keyword key.Do ++ stmts_words body)
form_settles (Border kind names) = semicolon_settles (border_words kind ++ names_words names)
form_settles (Write true items) =
    semicolon_settles (keyword key.Writeln ++ in_round (items_words items))
form_settles (Write false items) =
    semicolon_settles (keyword key.Write ++ in_round (items_words items))
form_settles (Return value) = semicolon_settles (keyword key.Return ++ expr_words value)

stmt_settles : (stmt : Stmt) → Settle (stmt_words stmt)
stmt_settles (Prefixed at prefixes form) =
    settle_behind (flat_map prefix_words prefixes) (form_words form) (form_settles form)

-- A region that is named without brackets begins with a name, so it may stand behind a bracket too.
symbol_writable : (ditto : Bool) (s : Sym) → IsWritable ditto (word.Symbol s)
symbol_writable ditto s = record { token = refl; stands = tt; limit = tt }

in_brackets : (inner : Inner) → IsRexpr inner → EachIsWritable false (inner_words inner)
    → EachIsWritable true (inner_words inner)
in_brackets (Rexpr [] (NamedRegion name) post) is each =
    (record { token = each.0.token; stands = tt; limit = tt }, each.1)
in_brackets (Rexpr [] (Ditto at) post) is each = absurd (false≢true each.0.stands)
in_brackets (Rexpr (first ∷ pre) base post) is each =
    (record { token = each.0.token; stands = tt; limit = tt }, each.1)
in_brackets (Dims dims) is each = absurd is

bracketed : (name : Name) (inner : Inner) (posts : Posts) → IsRexpr inner → HasNoPost posts
    → MayReplace (name_words name ++ symbol sym.Equal ++ inner_words inner ++ symbol sym.Semicolon)
    (name_words name ++ symbol sym.Equal ++ in_square (inner_words inner) ++
    posts_words posts ++ symbol sym.Semicolon)
bracketed name inner (ThenPost stride dir rest) is none = absurd none
bracketed name inner NoPost is none =
    let words = inner_words inner in
    let closed : List Word = words ++ symbol sym.CloseBracket ++ [] in
    record {
      each = λ each.
          let bare = each_parts false words (symbol sym.Semicolon) each.1.1 in
          let inside =
          each_whole true words (symbol sym.CloseBracket) (in_brackets inner is bare.0)
          (symbol_writable (behind true words) sym.CloseBracket, tt) in
          let whole = each_whole true (words ++ symbol sym.CloseBracket) [] inside tt in
          let ended =
          each_whole true closed (symbol sym.Semicolon) whole
          (symbol_writable (behind true closed) sym.Semicolon, tt) in
          (each.0, (each.1.0, (symbol_writable false sym.OpenBracket, ended)));
      behind_old = semicolon_settles words false;
      behind_new = semicolon_settles closed true;
    }

region_replaces : (region : RegionDef) (old : List Word) → SpellsRegion region old
    → MayReplace old (region_words region)
region_replaces region old spells =
    ⊎_elim
    (λ same. subst (λ (ws : List Word). MayReplace ws (region_words region)) (sym same)
    (stays (region_words region) (region_settles region false)))
    (λ bare. subst (λ (ws : List Word). MayReplace ws (region_words region)) (sym bare.2)
    (bracketed region.name region.body region.posts bare.0 bare.1))
    spells

-- A `var` between local variables may go.
without_var : {xs ys : List Word} → MayReplace xs ys → MayReplace (keyword key.Var ++ xs) ys
without_var one = record {
  each = λ each. one.each each.1;
  behind_old = one.behind_old;
  behind_new =
      one.behind_new;
}

more_replace : (vars : List VarDef) (old : List Word) → SpellsMoreLocals vars old
    → MayReplace old (flat_map var_words vars)
more_replace [] old spells =
    subst (λ (ws : List Word). MayReplace ws []) (sym spells) (stays [] refl)
more_replace (first ∷ rest) old (others, more, spells) =
    let whole : MayReplace (var_words first ++ others) (var_words first ++ flat_map var_words rest)
    =
    replaces (stays (var_words first) (var_settles first false)) (more_replace rest others more) in
    ⊎_elim
    (λ same. subst (λ (ws : List Word). MayReplace ws (flat_map var_words (first ∷ rest)))
    (sym same) whole)
    (λ same. subst (λ (ws : List Word). MayReplace ws (flat_map var_words (first ∷ rest)))
    (sym same) (without_var whole))
    spells

locals_replace : (vars : List VarDef) (old : List Word) → SpellsLocals vars old
    → MayReplace old (locals_words vars)
locals_replace [] old spells =
    subst (λ (ws : List Word). MayReplace ws []) (sym spells) (stays [] refl)
locals_replace (first ∷ rest) old (others, more, same) =
    subst (λ (ws : List Word). MayReplace ws (locals_words (first ∷ rest))) (sym same)
    (replaces (stays (keyword key.Var) refl)
    (replaces (stays (var_words first) (var_settles first false))
    (more_replace rest others more)))

procedure_replaces : (procedure : Procedure) (old : List Word) → SpellsProcedure procedure old
    → MayReplace old (decl_words (Defined procedure))
procedure_replaces procedure old (locals, spells, same) =
    subst (λ (ws : List Word). MayReplace ws (decl_words (Defined procedure))) (sym same)
    (replaces (replaces (stays (heading_words procedure) (heading_settles procedure false))
    (locals_replace procedure.locals locals spells))
    (stays (stmt_words procedure.body) (stmt_settles procedure.body false)))

decl_stays : (decl : Decl) (old : List Word) → behind false (decl_words decl) ≡ false
    → old ≡ decl_words decl → MayReplace old (decl_words decl)
decl_stays decl old settles same =
    subst (λ (ws : List Word). MayReplace ws (decl_words decl)) (sym same)
    (stays (decl_words decl) settles)

decl_replaces : (decl : Decl) (old : List Word) → SpellsDecl decl old
    → MayReplace old (decl_words decl)
decl_replaces (Config defines) old same =
    decl_stays (Config defines) old (each_settles define_words define_settles defines) same
decl_replaces (Constant defines) old same =
    decl_stays (Constant defines) old (each_settles define_words define_settles defines) same
decl_replaces (Regions regions) old (definitions, each, same) =
    subst (λ (ws : List Word). MayReplace ws (decl_words (Regions regions))) (sym same)
    (replaces (stays (keyword key.Region) refl) (each_replaces SpellsRegion region_words
    region_replaces regions definitions each))
decl_replaces (Directions directions) old same =
    decl_stays (Directions directions) old (each_settles direction_words direction_settles
    directions) same
decl_replaces (Vars vars) old same =
    decl_stays (Vars vars) old (each_settles var_words var_settles vars) same
decl_replaces (Defined procedure) old spells = procedure_replaces procedure old spells

pub program_writable : (program : Program) (words : List Word) → Spells program words
    → AreWritable words → AreWritable (program_words program)
program_writable program words (decls, is, each, same) writable =
    let front : List Word = keyword key.Program ++ name_words program.name ++
    symbol sym.Semicolon in
    let one : MayReplace (front ++ decls) (before_end program) =
    replaces (stays front refl) (each_replaces SpellsDecl decl_words decl_replaces program.decls
    decls each) in
    let old : writable.before ≡ front ++ decls =
    append_cancel_right writable.before (front ++ decls) (word.End ∷ []) (sym writable.split
    ∙ same) in
    record {
      before = before_end program;
      split = refl;
      each = one.each (subst (λ (ws : List Word). EachIsWritable false ws) old writable.each);
    }
