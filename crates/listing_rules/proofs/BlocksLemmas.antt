-- Blocks, and why there is none.
use Rattle.std.proofs.Common.{◌≡◌, Bool, true, false, List, [], ◌∷◌, sym, subst, refl}
use Rattle.std.specs.Prelude.{IsTrue, ◌↔◌}
use Rattle.listing_rows.specs.of_listing_lines.declared.keywords.Keyword.{Keyword}
use Rattle.listing_rows.specs.of_listing_lines.declared.lines.Line.{Line}
use Rattle.listing_rules.specs.Blocks.{NoBlock, Unheaded, Stopped, Unfinished}
use Rattle.listing_rules.specs.Reads.{Reads, Stops}

-- the line is the heading, or isn't
pub headed : (heading : Line) (lines : List Line) (line : Line) (below : List Line) → lines ≡ line ∷ below → IsTrue true ↔ (line ≡ heading) → lines ≡ heading ∷ below
headed heading lines line below split is = let same : line ≡ heading = is.0 refl in cc

module _ {X : Type 0} (heading : Line) (p : Keyword → Bool) (Is : List X → Line → X → Type 0) (Whole : List X → Type 0) where
  pub unheaded : (lines : List Line) (line : Line) (below : List Line) → lines ≡ line ∷ below → IsTrue false ↔ (line ≡ heading) → NoBlock heading p Is Whole lines lines
  unheaded lines line below split is = Unheaded lines (λ other e. let same : line ≡ heading = cc in let no : IsTrue false = is.1 same in cc)

  pub stopped_below : (lines below left : List Line) → lines ≡ heading ∷ below → Stops p Is [] below left → NoBlock heading p Is Whole lines left
  stopped_below lines below left begun stops = subst (λ (l : List Line). NoBlock heading p Is Whole l left) (sym begun) (Stopped below left stops)

  pub unfinished : (lines below : List Line) (rows : List X) (left : List Line) → lines ≡ heading ∷ below → Reads p Is [] below rows left → (Whole rows → ⊥) → NoBlock heading p Is Whole lines left
  unfinished lines below rows left begun reads none = subst (λ (l : List Line). NoBlock heading p Is Whole l left) (sym begun) (Unfinished below rows left reads none)
