-- Lines and fields by their parts.
use Rattle.std.proofs.Common.{◌≡◌, Bool, true, List, sym, ◌∙◌, ap}
use Rattle.std.specs.Prelude.{IsTrue, ◌↔◌, ℤ}
use Rattle.listing_rows.specs.of_listing_lines.declared.fields.Field.{Field}
use Rattle.listing_rows.specs.of_listing_lines.declared.fields.Field.TheVariants as field
use Rattle.listing_rows.specs.of_listing_lines.declared.fields.Mark.{Mark}
use Rattle.listing_rows.specs.of_listing_lines.declared.keywords.Keyword.{Keyword}
use Rattle.listing_rows.specs.of_listing_lines.declared.lines.Line.{Line}

numbers_eq : (m n : Mark) (a b : List ℤ) → m ≡ n → a ≡ b → field.Numbers m a ≡ field.Numbers n b
numbers_eq m n a b e f = cc

numbers_parts : (m n : Mark) (a b : List ℤ) → field.Numbers m a ≡ field.Numbers n b → a ≡ b
numbers_parts m n a b e = cc

pub numbers_same : (one other : Field) (m n : Mark) (a b : List ℤ) (e f : Bool) → one ≡ field.Numbers m a → other ≡ field.Numbers n b → e ≡ true → IsTrue e ↔ (m ≡ n) → IsTrue f ↔ (a ≡ b) →
    IsTrue f ↔ (one ≡ other)
numbers_same one other m n a b e f p q set marks numbers = (
  λ h. p ∙ (numbers_eq m n a b (marks.0 set) (numbers.0 h) ∙ sym q),
  λ same. numbers.1 (numbers_parts m n a b (sym p ∙ (same ∙ q))),
)

line_eq : (a b : Line) → a.keyword ≡ b.keyword → a.fields ≡ b.fields → a ≡ b
line_eq a b e f =
    let made : Keyword → List Field → Line = λ k l. record { keyword = k; fields = l } in
    ap (λ (k : Keyword). made k a.fields) e ∙ ap (λ (l : List Field). made b.keyword l) f

pub line_same : (one other : Line) (e f : Bool) → e ≡ true → IsTrue e ↔ (one.keyword ≡ other.keyword) → IsTrue f ↔ (one.fields ≡ other.fields) → IsTrue f ↔ (one ≡ other)
line_same one other e f set keywords fields = (
  λ h. line_eq one other (keywords.0 set) (fields.0 h),
  λ same. fields.1 (ap (λ (l : Line). l.fields) same),
)
