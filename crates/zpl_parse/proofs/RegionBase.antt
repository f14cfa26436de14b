-- Rules of directions and regions behind the parts that are already read.
use Rattle.std.proofs.Common.{◌≡◌, ◌<◌, ℕ, suc, Bool, true, false, List, [], ◌∷◌, length, Option, Some, None, sym, ap, subst, ◌∙◌, arith}
use Rattle.zpl_text.specs.declared.tokens.Token.{Token}
use Rattle.zpl_tokens.specs.declared.Kind.TheVariants as kind
use Rattle.zpl_tokens.specs.declared.symbols.Sym.TheVariants as sym
use Rattle.zpl_tree.specs.Syntax.{Expr, Pre, RegionBase, Dir, NamedDir, Vector, Inner, Rexpr, Dims, Posts, NoPost, ThenPost, DimText, DimTexts, NoDim, ThenDim}
use Rattle.zpl_parse.specs.declared.faults.ParseFault.{ParseFault}
use Rattle.zpl_parse.specs.Classes.{stride_of, closes_region}
use Rattle.zpl_grammar.specs.Lexeme.{Lexeme, lexemes_of, head_kind, second_kind, behind}
use Rattle.zpl_parse.specs.Outcome.{Outcome, Done, Wrong, Reader, and_then, made}
use Rattle.zpl_parse.specs.Tokens.{name, next_is}
use Rattle.zpl_parse.specs.Expressions.{components, dir, posts, region_base, rexpr, dim_text, dim_texts, begins_region, inner}
use Rattle.zpl_parse.specs.Following.{IsFaultOf}

-- what is said of an outcome holds of the same one
pub fault_is : {A : Type 0} (fault : ParseFault) (o p : Outcome A) → o ≡ p → IsFaultOf fault p → IsFaultOf fault o
fault_is fault o p e h = subst (IsFaultOf fault) (sym e) h

pub dir_vector : (few : ℕ) (expr : Reader Expr) (lexemes rest : List Lexeme) → next_is (kind.Symbol sym.OpenBracket) lexemes ≡ true → rest ≡ behind lexemes →
    dir few expr lexemes ≡ made Vector (components few expr rest)
dir_vector few expr lexemes rest is behind_is =
    let by : Bool → Outcome Dir = λ b. elim b [
      | true ↦ made Vector (components few expr (behind lexemes))
      | false ↦ made NamedDir (name lexemes)
    ] in
    ap by is ∙ ap (λ rest. made Vector (components few expr rest)) (sym behind_is)

pub posts_go : (less : ℕ) (expr : Reader Expr) (lexemes after : List Lexeme) (stride : Bool) → stride_of (head_kind lexemes) ≡ Some stride → after ≡ behind lexemes →
    posts (suc less) expr lexemes ≡ and_then (dir less expr after) (λ way rest. made (ThenPost stride way) (posts less expr rest))
posts_go less expr lexemes after stride is behind_is =
    let by : Option Bool → Outcome Posts = λ o. elim o [
      | None ↦ Done NoPost lexemes
      | Some stride ↦ and_then (dir less expr (behind lexemes)) (λ way rest. made (ThenPost stride way) (posts less expr rest))
    ] in
    let next : Dir → Reader Posts = λ way rest. made (ThenPost stride way) (posts less expr rest) in
    ap by is ∙ ap (λ after. and_then (dir less expr after) next) (sym behind_is)

pub posts_end : (less : ℕ) (expr : Reader Expr) (lexemes : List Lexeme) → stride_of (head_kind lexemes) ≡ None →
    posts (suc less) expr lexemes ≡ Done NoPost lexemes
posts_end less expr lexemes is =
    let by : Option Bool → Outcome Posts = λ o. elim o [
      | None ↦ Done NoPost lexemes
      | Some stride ↦ and_then (dir less expr (behind lexemes)) (λ way rest. made (ThenPost stride way) (posts less expr rest))
    ] in
    ap by is

pub inner_dims : (few : ℕ) (expr : Reader Expr) (lexemes : List Lexeme) → begins_region (head_kind lexemes) (second_kind lexemes) ≡ false →
    inner few expr lexemes ≡ and_then (dim_texts few expr lexemes) (λ dims rest.
    elim (closes_region (head_kind rest)) [ true ↦ Done (Dims dims) rest | false ↦ Wrong rest ])
inner_dims few expr lexemes is =
    let by : Bool → Outcome Inner = λ b. elim b [
      | true ↦ rexpr few expr lexemes
      | false ↦ and_then (dim_texts few expr lexemes) (λ dims rest.
          elim (closes_region (head_kind rest)) [ true ↦ Done (Dims dims) rest | false ↦ Wrong rest ])
    ] in
    ap by is

pub inner_ends : (few : ℕ) (expr : Reader Expr) (lexemes rest : List Lexeme) (dims : DimTexts) → begins_region (head_kind lexemes) (second_kind lexemes) ≡ false →
    dim_texts few expr lexemes ≡ Done dims rest → closes_region (head_kind rest) ≡ true → inner few expr lexemes ≡ Done (Dims dims) rest
inner_ends few expr lexemes rest dims not is ends =
    let after : DimTexts → Reader Inner = λ dims rest.
    elim (closes_region (head_kind rest)) [ true ↦ Done (Dims dims) rest | false ↦ Wrong rest ] in
    let by : Bool → Outcome Inner = λ b. elim b [ true ↦ Done (Dims dims) rest | false ↦ Wrong rest ] in
    inner_dims few expr lexemes not ∙ ap (λ o. and_then o after) is ∙ ap by ends

pub rexpr_based : (few : ℕ) (expr : Reader Expr) (lexemes rest : List Lexeme) (pre : List Pre) (base : RegionBase) → region_base few lexemes ≡ Done (pre, base) rest →
    rexpr few expr lexemes ≡ made (Rexpr pre base) (posts few expr rest)
rexpr_based few expr lexemes rest pre base is =
    let after : List Pre × RegionBase → Reader Inner = λ base rest. made (Rexpr base.0 base.1) (posts few expr rest) in
    ap (λ o. and_then o after) is

pub dims_go : (less : ℕ) (expr : Reader Expr) (lexemes rest last : List Lexeme) (first : DimText) → dim_text expr lexemes ≡ Done first rest →
    next_is (kind.Symbol sym.Comma) rest ≡ true → last ≡ behind rest → dim_texts (suc less) expr lexemes ≡ made (ThenDim first) (dim_texts less expr last)
dims_go less expr lexemes rest last first is goes behind_is =
    let by : Bool → Outcome DimTexts = λ b. elim b [
      | true ↦ made (ThenDim first) (dim_texts less expr (behind rest))
      | false ↦ Done (ThenDim first NoDim) rest
    ] in
    let after : DimText → Reader DimTexts = λ first rest. elim (next_is (kind.Symbol sym.Comma) rest) [
      | true ↦ made (ThenDim first) (dim_texts less expr (behind rest))
      | false ↦ Done (ThenDim first NoDim) rest
    ] in
    ap (λ o. and_then o after) is ∙ ap by goes ∙ ap (λ last. made (ThenDim first) (dim_texts less expr last)) (sym behind_is)

pub dims_end : (less : ℕ) (expr : Reader Expr) (lexemes rest : List Lexeme) (first : DimText) → dim_text expr lexemes ≡ Done first rest →
    next_is (kind.Symbol sym.Comma) rest ≡ false → dim_texts (suc less) expr lexemes ≡ Done (ThenDim first NoDim) rest
dims_end less expr lexemes rest first is ends =
    let by : Bool → Outcome DimTexts = λ b. elim b [
      | true ↦ made (ThenDim first) (dim_texts less expr (behind rest))
      | false ↦ Done (ThenDim first NoDim) rest
    ] in
    let after : DimText → Reader DimTexts = λ first rest. elim (next_is (kind.Symbol sym.Comma) rest) [
      | true ↦ made (ThenDim first) (dim_texts less expr (behind rest))
      | false ↦ Done (ThenDim first NoDim) rest
    ] in
    ap (λ o. and_then o after) is ∙ ap by ends

pub posts_more : (less : ℕ) (expr : Reader Expr) (lexemes after rest : List Lexeme) (stride : Bool) (way : Dir) → stride_of (head_kind lexemes) ≡ Some stride →
    after ≡ behind lexemes → dir less expr after ≡ Done way rest → posts (suc less) expr lexemes ≡ made (ThenPost stride way) (posts less expr rest)
posts_more less expr lexemes after rest stride way is behind_is read =
    let next : Dir → Reader Posts = λ way rest. made (ThenPost stride way) (posts less expr rest) in
    posts_go less expr lexemes after stride is behind_is ∙ ap (λ o. and_then o next) read

-- where a lexeme says "at" or "by", there is one
pub strides_some : (text : List ℕ) (tokens : List Token) (stride : Bool) → stride_of (head_kind (lexemes_of text tokens)) ≡ Some stride → 0 < length tokens
strides_some text [] stride is = absurd (cc)
strides_some text (token ∷ tokens) stride is = omega arith
