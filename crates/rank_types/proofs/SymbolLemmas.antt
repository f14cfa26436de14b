-- Tables of global names, by their entries.
use Rattle.std.proofs.Common.{◌≡◌, ℕ, Bool, true, false, cond, List, [], ◌∷◌, map, Option, Some, None, option_map, Bor, refl, sym, ◌∙◌, ap, true≢false}
use Rattle.std.specs.Map.{lookup}
use Rattle.std.specs.Prelude.{find}
use Rattle.std.specs.Str.{bytes_eq}
use Rattle.name_kinds.proofs.NameLemmas.{bytes_eq-comm}
use Rattle.rank_types.specs.declared.symbols.NameKind.{NameKind}
use Rattle.rank_types.specs.Symbols.{Symbol, kind_named, row_of}

abbrev Row : Type 0
Row = Bor (List ℕ) × NameKind

pub lookup-found : (rows : List Row) (text : List ℕ) →
    lookup (λ key. bytes_eq text key.now) rows ≡ kind_named (map row_of rows) text
lookup-found [] text = refl
lookup-found (row ∷ rows) text =
    by (bytes_eq text row.0.now) (bytes_eq row.0.now text) (bytes_eq-comm text row.0.now)
    (lookup-found rows text)
  where
    by : (a b : Bool) → a ≡ b →
        lookup (λ key. bytes_eq text key.now) rows ≡ kind_named (map row_of rows) text →
        cond a (Some row.1) (lookup (λ key. bytes_eq text key.now) rows) ≡
        option_map (λ symbol. symbol.kind) (cond b (Some (row_of row))
        (find (λ symbol. bytes_eq symbol.name text) (map row_of rows)))
    by true true e later = refl
    by true false e later = absurd (true≢false e)
    by false true e later = absurd (true≢false (sym e))
    by false false e later = later
