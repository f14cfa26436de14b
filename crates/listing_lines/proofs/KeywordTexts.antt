-- Each keyword is written in its own way.
use Rattle.std.proofs.Common.{◌≡◌, ℕ, ◌<◌, Bool, true, false, List, [], ◌∷◌, length, sym, ◌∙◌, ap, refl, arith}
use Rattle.std.specs.Prelude.{Option, Some, find}
use Rattle.std.specs.Str.{bytes_eq}
use Rattle.listing_lines.specs.declared.keywords.Keyword.{Keyword}
use Rattle.listing_lines.specs.declared.keywords.Keyword.TheVariants as key
use Rattle.listing_lines.specs.Keyword.{keyword_text}

abbrev all_keywords : List Keyword
all_keywords =
    key.Version ∷ key.Grid ∷ key.Scalars ∷ key.Slots ∷ key.Cells ∷ key.Array ∷ key.Text ∷ key.Expr ∷
    key.Group ∷ key.Exchange ∷ key.Item ∷ key.Code ∷ key.Put ∷ key.Cell ∷ key.Acc ∷ key.If ∷
    key.Else ∷ key.Fi ∷ key.While ∷ key.Od ∷ key.Repeat ∷ key.Until ∷ key.Set ∷ key.Fix ∷
    key.Dims ∷ key.Of ∷ key.In ∷ key.At ∷ key.By ∷ key.Need ∷ key.Same ∷ key.Fits ∷
    key.Room ∷ key.Clear ∷ key.Loop ∷ key.Start ∷ key.Finish ∷ key.Wrap ∷ key.Reflect ∷ key.Flood ∷
    key.Part ∷ key.Scan ∷ key.Vote ∷ key.Fold ∷ key.TreeVote ∷ key.TreeFold ∷ key.Print ∷ key.Number ∷
    key.Truth ∷ key.Gather ∷ key.Jump ∷ key.Unless ∷ key.Trap ∷ key.End ∷ key.Remap ∷ []

abbrev written_so : List ℕ → Option Keyword
written_so text = find (λ keyword. bytes_eq (keyword_text keyword) text) all_keywords

own : (keyword : Keyword) → written_so (keyword_text keyword) ≡ Some keyword
own key.Version = refl
own key.Grid = refl
own key.Scalars = refl
own key.Slots = refl
own key.Cells = refl
own key.Array = refl
own key.Text = refl
own key.Expr = refl
own key.Group = refl
own key.Exchange = refl
own key.Item = refl
own key.Code = refl
own key.Put = refl
own key.Cell = refl
own key.Acc = refl
own key.If = refl
own key.Else = refl
own key.Fi = refl
own key.While = refl
own key.Od = refl
own key.Repeat = refl
own key.Until = refl
own key.Set = refl
own key.Fix = refl
own key.Dims = refl
own key.Of = refl
own key.In = refl
own key.At = refl
own key.By = refl
own key.Need = refl
own key.Same = refl
own key.Fits = refl
own key.Room = refl
own key.Clear = refl
own key.Loop = refl
own key.Start = refl
own key.Finish = refl
own key.Wrap = refl
own key.Reflect = refl
own key.Flood = refl
own key.Part = refl
own key.Scan = refl
own key.Vote = refl
own key.Fold = refl
own key.TreeVote = refl
own key.TreeFold = refl
own key.Print = refl
own key.Number = refl
own key.Truth = refl
own key.Gather = refl
own key.Jump = refl
own key.Unless = refl
own key.Trap = refl
own key.End = refl
own key.Remap = refl

pub same_keyword : (one other : Keyword) → keyword_text one ≡ keyword_text other → one ≡ other
same_keyword one other same = let e : Some one ≡ Some other = sym (own one) ∙ (ap written_so same ∙ own other) in cc

abbrev has_some : List ℕ → Bool
has_some [] = false
has_some (byte ∷ bytes) = true

written : (keyword : Keyword) → has_some (keyword_text keyword) ≡ true
written key.Version = refl
written key.Grid = refl
written key.Scalars = refl
written key.Slots = refl
written key.Cells = refl
written key.Array = refl
written key.Text = refl
written key.Expr = refl
written key.Group = refl
written key.Exchange = refl
written key.Item = refl
written key.Code = refl
written key.Put = refl
written key.Cell = refl
written key.Acc = refl
written key.If = refl
written key.Else = refl
written key.Fi = refl
written key.While = refl
written key.Od = refl
written key.Repeat = refl
written key.Until = refl
written key.Set = refl
written key.Fix = refl
written key.Dims = refl
written key.Of = refl
written key.In = refl
written key.At = refl
written key.By = refl
written key.Need = refl
written key.Same = refl
written key.Fits = refl
written key.Room = refl
written key.Clear = refl
written key.Loop = refl
written key.Start = refl
written key.Finish = refl
written key.Wrap = refl
written key.Reflect = refl
written key.Flood = refl
written key.Part = refl
written key.Scan = refl
written key.Vote = refl
written key.Fold = refl
written key.TreeVote = refl
written key.TreeFold = refl
written key.Print = refl
written key.Number = refl
written key.Truth = refl
written key.Gather = refl
written key.Jump = refl
written key.Unless = refl
written key.Trap = refl
written key.End = refl
written key.Remap = refl

some_length : (text : List ℕ) → has_some text ≡ true → 0 < length text
some_length [] h = absurd cc
some_length (byte ∷ bytes) h = omega arith

pub keyword_length : (keyword : Keyword) → 0 < length (keyword_text keyword)
keyword_length keyword = some_length (keyword_text keyword) (written keyword)
