-- What the classes of tokens say of the words that stand there.
use Rattle.std.proofs.Common.{◌≡◌, ℕ, ℤ, pos, int_le, if◌then◌else◌, nat_le, IsTrue, Bool, true, false, List, [], ◌∷◌, ◌++◌, Option, Some, None, refl, subst, append_assoc, ap}
use Rattle.zpl_nums.specs.declared.operators.Op.{Op}
use Rattle.zpl_nums.specs.declared.operators.Op.TheVariants as op
use Rattle.zpl_nums.specs.declared.folds.Fold.{Fold}
use Rattle.zpl_nums.specs.declared.folds.Fold.TheVariants as fold
use Rattle.zpl_nums.specs.declared.ends.Border.TheVariants as border
use Rattle.zpl_tokens.specs.declared.Kind.{Kind}
use Rattle.zpl_tokens.specs.declared.Kind.TheVariants as kind
use Rattle.zpl_tokens.specs.declared.keywords.Key.{Key}
use Rattle.zpl_tokens.specs.declared.keywords.Key.TheVariants as key
use Rattle.zpl_tokens.specs.declared.symbols.Sym.{Sym}
use Rattle.zpl_tokens.specs.declared.symbols.Sym.TheVariants as sym
use Rattle.zpl_tree.specs.Spelling.{symbol, keyword, fold_words, index_words, operator_words, pair_words, assign_words, border_words}
use Rattle.zpl_tree.specs.Grammar.{IsNatural, IsAssigning, own_level, left_level, right_level}
use Rattle.zpl_tree.specs.Word.{Word, kind_of}
use Rattle.zpl_tree.specs.Word as word
use Rattle.zpl_parse.specs.declared.classes.Opening.{Opening}
use Rattle.zpl_parse.specs.declared.classes.Opening.TheVariants as opening
use Rattle.zpl_parse.specs.declared.classes.Suffix.{Suffix}
use Rattle.zpl_parse.specs.declared.classes.Suffix.TheVariants as suffix
use Rattle.zpl_parse.specs.declared.classes.Folding.{Folding}
use Rattle.zpl_parse.specs.declared.classes.Folding.TheVariants as folding
use Rattle.zpl_parse.specs.declared.classes.Start.{Start}
use Rattle.zpl_parse.specs.declared.classes.Start.TheVariants as start
use Rattle.zpl_parse.specs.declared.classes.Part.{Part}
use Rattle.zpl_parse.specs.declared.classes.Part.TheVariants as part
use Rattle.zpl_parse.specs.Classes.{or_op, and_op, comp_op, sum_op, term_op, assigning, opening_of, opening_symbol_of, opening_keyword_of, opening_number, suffix_of, folding_of, start_of, start_keyword, part_of, part_keyword, outside_of, stride_of, without_of, down_of}
use Rattle.zpl_parse.proofs.Sound.Tokens.{IsSign}

-- an equation that no two constructors have
none_some : {A : Type 0} {x : A} → None ≡ Some x → ⊥
none_some e = cc

-- words that are one sign, of a kind
pub record IsOneSign (k : Kind) (words : List Word) : Type 0 where
  pub word : Word
  pub sign : IsSign word
  pub are : words ≡ word ∷ []
  pub kind : k ≡ kind_of word

a_symbol : (s : Sym) → IsOneSign (kind.Symbol s) (symbol s)
a_symbol s = record { word = word.Symbol s; sign = tt; are = refl; kind = refl }

a_keyword : (k : Key) → IsOneSign (kind.Word k) (keyword k)
a_keyword k = record { word = word.Keyword k; sign = tt; are = refl; kind = refl }

-- an operator between operands
pub record IsOperator (own left right : ℕ) (k : Kind) (o : Op) : Type 0 where
  pub sign : IsOneSign k (operator_words o)
  pub between : (a b : List Word) → pair_words o a b ≡ a ++ operator_words o ++ b
  pub own_is : own_level o ≡ own
  pub left_is : left_level o ≡ left
  pub right_is : right_level o ≡ right

pub or_op_is : (k : Kind) (o : Op) → or_op k ≡ Some o → IsOperator 0 0 1 k o
or_op_is (kind.Symbol sym.Or) o e =
    let same : op.Or ≡ o = cc in
    subst (IsOperator 0 0 1 (kind.Symbol sym.Or)) same (record {
      sign = a_symbol sym.Or;
      between =
          λ a b. refl;
      own_is = refl;
      left_is = refl;
      right_is = refl;
    })
or_op_is _ o e = absurd (none_some e)

pub and_op_is : (k : Kind) (o : Op) → and_op k ≡ Some o → IsOperator 1 1 2 k o
and_op_is (kind.Symbol sym.And) o e =
    let same : op.And ≡ o = cc in
    subst (IsOperator 1 1 2 (kind.Symbol sym.And)) same (record {
      sign = a_symbol sym.And;
      between =
          λ a b. refl;
      own_is = refl;
      left_is = refl;
      right_is = refl;
    })
and_op_is _ o e = absurd (none_some e)

pub comp_op_is : (k : Kind) (o : Op) → comp_op k ≡ Some o → IsOperator 2 3 3 k o
comp_op_is (kind.Symbol sym.Equal) o e =
    let same : op.Eq ≡ o = cc in
    subst (IsOperator 2 3 3 (kind.Symbol sym.Equal)) same (record {
      sign =
          a_symbol sym.Equal;
      between = λ a b. refl;
      own_is = refl;
      left_is = refl;
      right_is = refl;
    })
comp_op_is (kind.Symbol sym.NotEqual) o e =
    let same : op.Ne ≡ o = cc in
    subst (IsOperator 2 3 3 (kind.Symbol sym.NotEqual)) same (record {
      sign =
          a_symbol sym.NotEqual;
      between = λ a b. refl;
      own_is = refl;
      left_is = refl;
      right_is =
          refl;
    })
comp_op_is (kind.Symbol sym.Less) o e =
    let same : op.Lt ≡ o = cc in
    subst (IsOperator 2 3 3 (kind.Symbol sym.Less)) same (record {
      sign =
          a_symbol sym.Less;
      between = λ a b. refl;
      own_is = refl;
      left_is = refl;
      right_is = refl;
    })
comp_op_is (kind.Symbol sym.LessEqual) o e =
    let same : op.Le ≡ o = cc in
    subst (IsOperator 2 3 3 (kind.Symbol sym.LessEqual)) same (record {
      sign =
          a_symbol sym.LessEqual;
      between = λ a b. refl;
      own_is = refl;
      left_is = refl;
      right_is =
          refl;
    })
comp_op_is (kind.Symbol sym.Greater) o e =
    let same : op.Gt ≡ o = cc in
    subst (IsOperator 2 3 3 (kind.Symbol sym.Greater)) same (record {
      sign =
          a_symbol sym.Greater;
      between = λ a b. refl;
      own_is = refl;
      left_is = refl;
      right_is =
          refl;
    })
comp_op_is (kind.Symbol sym.GreaterEqual) o e =
    let same : op.Ge ≡ o = cc in
    subst (IsOperator 2 3 3 (kind.Symbol sym.GreaterEqual)) same (record {
      sign =
          a_symbol sym.GreaterEqual;
      between = λ a b. refl;
      own_is = refl;
      left_is = refl;
      right_is =
          refl;
    })
comp_op_is _ o e = absurd (none_some e)

pub sum_op_is : (k : Kind) (o : Op) → sum_op k ≡ Some o → IsOperator 3 3 4 k o
sum_op_is (kind.Symbol sym.Plus) o e =
    let same : op.Add ≡ o = cc in
    subst (IsOperator 3 3 4 (kind.Symbol sym.Plus)) same (record {
      sign =
          a_symbol sym.Plus;
      between = λ a b. refl;
      own_is = refl;
      left_is = refl;
      right_is = refl;
    })
sum_op_is (kind.Symbol sym.Minus) o e =
    let same : op.Sub ≡ o = cc in
    subst (IsOperator 3 3 4 (kind.Symbol sym.Minus)) same (record {
      sign =
          a_symbol sym.Minus;
      between = λ a b. refl;
      own_is = refl;
      left_is = refl;
      right_is = refl;
    })
sum_op_is _ o e = absurd (none_some e)

pub term_op_is : (k : Kind) (o : Op) → term_op k ≡ Some o → IsOperator 4 4 5 k o
term_op_is (kind.Symbol sym.Star) o e =
    let same : op.Mul ≡ o = cc in
    subst (IsOperator 4 4 5 (kind.Symbol sym.Star)) same (record {
      sign =
          a_symbol sym.Star;
      between = λ a b. refl;
      own_is = refl;
      left_is = refl;
      right_is = refl;
    })
term_op_is (kind.Symbol sym.Slash) o e =
    let same : op.Div ≡ o = cc in
    subst (IsOperator 4 4 5 (kind.Symbol sym.Slash)) same (record {
      sign =
          a_symbol sym.Slash;
      between = λ a b. refl;
      own_is = refl;
      left_is = refl;
      right_is = refl;
    })
term_op_is (kind.Symbol sym.Percent) o e =
    let same : op.Rem ≡ o = cc in
    subst (IsOperator 4 4 5 (kind.Symbol sym.Percent)) same (record {
      sign =
          a_symbol sym.Percent;
      between = λ a b. refl;
      own_is = refl;
      left_is = refl;
      right_is =
          refl;
    })
term_op_is _ o e = absurd (none_some e)

-- an operator of assignments
pub record IsAssign (k : Kind) (o : Option Op) : Type 0 where
  pub sign : IsOneSign k (assign_words o)
  pub is : IsAssigning o

pub assigning_is : (k : Kind) (o : Option Op) → assigning k ≡ Some o → IsAssign k o
assigning_is (kind.Symbol sym.Assign) o e =
    let same : None ≡ o = cc in
    subst (IsAssign (kind.Symbol sym.Assign)) same (record { sign = a_symbol sym.Assign; is = tt })
assigning_is (kind.Symbol sym.AddAssign) o e =
    let same : Some op.Add ≡ o = cc in
    subst (IsAssign (kind.Symbol sym.AddAssign)) same (record {
      sign = a_symbol sym.AddAssign;
      is =
          tt;
    })
assigning_is (kind.Symbol sym.SubAssign) o e =
    let same : Some op.Sub ≡ o = cc in
    subst (IsAssign (kind.Symbol sym.SubAssign)) same (record {
      sign = a_symbol sym.SubAssign;
      is =
          tt;
    })
assigning_is (kind.Symbol sym.MulAssign) o e =
    let same : Some op.Mul ≡ o = cc in
    subst (IsAssign (kind.Symbol sym.MulAssign)) same (record {
      sign = a_symbol sym.MulAssign;
      is =
          tt;
    })
assigning_is (kind.Symbol sym.DivAssign) o e =
    let same : Some op.Div ≡ o = cc in
    subst (IsAssign (kind.Symbol sym.DivAssign)) same (record {
      sign = a_symbol sym.DivAssign;
      is =
          tt;
    })
assigning_is (kind.Symbol sym.RemAssign) o e =
    let same : Some op.Rem ≡ o = cc in
    subst (IsAssign (kind.Symbol sym.RemAssign)) same (record {
      sign = a_symbol sym.RemAssign;
      is =
          tt;
    })
assigning_is (kind.Symbol sym.AndAssign) o e =
    let same : Some op.And ≡ o = cc in
    subst (IsAssign (kind.Symbol sym.AndAssign)) same (record {
      sign = a_symbol sym.AndAssign;
      is =
          tt;
    })
assigning_is (kind.Symbol sym.OrAssign) o e =
    let same : Some op.Or ≡ o = cc in
    subst (IsAssign (kind.Symbol sym.OrAssign)) same (record {
      sign = a_symbol sym.OrAssign;
      is =
          tt;
    })
assigning_is _ o e = absurd (none_some e)

-- What begins an expression: its kind, and a fact of its value.
abbrev pub IsOpening : Kind → Opening → Type 0
IsOpening k (opening.Number value) = (k ≡ kind.Number value) × IsNatural value
IsOpening k (opening.Truth value) =
    IsOneSign k (if value then keyword key.True else keyword key.False)
IsOpening k (opening.Coord dimension) = IsOneSign k (index_words dimension) ×
    IsTrue (nat_le 1 dimension) × IsTrue (nat_le dimension 3)
IsOpening k opening.Name = k ≡ kind.Name
IsOpening k opening.Paren = k ≡ kind.Symbol sym.OpenParen
IsOpening k opening.Minus = k ≡ kind.Symbol sym.Minus
IsOpening k opening.Not = k ≡ kind.Symbol sym.Not
IsOpening k opening.Abs = k ≡ kind.Word key.Abs
IsOpening k (opening.Fold operator) = IsOneSign k (fold_words operator)
IsOpening k opening.Flood = k ≡ kind.Symbol sym.Flood

opening_symbol_is : (s : Sym) (o : Opening) → opening_symbol_of s ≡ Some o
    → IsOpening (kind.Symbol s) o
opening_symbol_is sym.OpenParen o e =
    let same : opening.Paren ≡ o = cc in
    subst (IsOpening (kind.Symbol sym.OpenParen)) same refl
opening_symbol_is sym.Minus o e =
    let same : opening.Minus ≡ o = cc in
    subst (IsOpening (kind.Symbol sym.Minus)) same refl
opening_symbol_is sym.Not o e =
    let same : opening.Not ≡ o = cc in
    subst (IsOpening (kind.Symbol sym.Not)) same refl
opening_symbol_is sym.Flood o e =
    let same : opening.Flood ≡ o = cc in
    subst (IsOpening (kind.Symbol sym.Flood)) same refl
opening_symbol_is sym.Plus o e =
    let same : opening.Fold fold.Sum ≡ o = cc in
    subst (IsOpening (kind.Symbol sym.Plus)) same (a_symbol sym.Plus)
opening_symbol_is sym.Star o e =
    let same : opening.Fold fold.Prod ≡ o = cc in
    subst (IsOpening (kind.Symbol sym.Star)) same (a_symbol sym.Star)
opening_symbol_is sym.And o e =
    let same : opening.Fold fold.All ≡ o = cc in
    subst (IsOpening (kind.Symbol sym.And)) same (a_symbol sym.And)
opening_symbol_is sym.Or o e =
    let same : opening.Fold fold.Any ≡ o = cc in
    subst (IsOpening (kind.Symbol sym.Or)) same (a_symbol sym.Or)
opening_symbol_is _ o e = absurd (none_some e)

opening_keyword_is : (k : Key) (o : Opening) → opening_keyword_of k ≡ Some o
    → IsOpening (kind.Word k) o
opening_keyword_is key.Max o e =
    let same : opening.Fold fold.Max ≡ o = cc in
    subst (IsOpening (kind.Word key.Max)) same (a_keyword key.Max)
opening_keyword_is key.Min o e =
    let same : opening.Fold fold.Min ≡ o = cc in
    subst (IsOpening (kind.Word key.Min)) same (a_keyword key.Min)
opening_keyword_is key.Abs o e =
    let same : opening.Abs ≡ o = cc in
    subst (IsOpening (kind.Word key.Abs)) same refl
opening_keyword_is key.True o e =
    let same : opening.Truth true ≡ o = cc in
    subst (IsOpening (kind.Word key.True)) same (a_keyword key.True)
opening_keyword_is key.False o e =
    let same : opening.Truth false ≡ o = cc in
    subst (IsOpening (kind.Word key.False)) same (a_keyword key.False)
opening_keyword_is key.Index1 o e =
    let same : opening.Coord 1 ≡ o = cc in
    subst (IsOpening (kind.Word key.Index1)) same (a_keyword key.Index1, refl, refl)
opening_keyword_is key.Index2 o e =
    let same : opening.Coord 2 ≡ o = cc in
    subst (IsOpening (kind.Word key.Index2)) same (a_keyword key.Index2, refl, refl)
opening_keyword_is key.Index3 o e =
    let same : opening.Coord 3 ≡ o = cc in
    subst (IsOpening (kind.Word key.Index3)) same (a_keyword key.Index3, refl, refl)
opening_keyword_is _ o e = absurd (none_some e)

opening_number_is : (value : ℤ) (natural : Bool) (o : Opening) → int_le (pos 0) value ≡ natural
    → opening_number value natural ≡ Some o → IsOpening (kind.Number value) o
opening_number_is value true o is e =
    let same : opening.Number value ≡ o = cc in
    subst (IsOpening (kind.Number value)) same (refl, is)
opening_number_is value false o is e = absurd (none_some e)

pub opening_is : (k : Kind) (o : Opening) → opening_of k ≡ Some o → IsOpening k o
opening_is kind.Name o e =
    let same : opening.Name ≡ o = cc in
    subst (IsOpening kind.Name) same refl
opening_is (kind.Number value) o e = opening_number_is value (int_le (pos 0) value) o refl e
opening_is (kind.Symbol symbol) o e = opening_symbol_is symbol o e
opening_is (kind.Word keyword) o e = opening_keyword_is keyword o e
opening_is _ o e = absurd (none_some e)

-- what stands behind an operator that folds
abbrev pub IsFolding : Fold → Kind → Folding → Type 0
IsFolding operator k folding.Reduce = k ≡ kind.Symbol sym.Reduce
IsFolding operator k folding.Scan = k ≡ kind.Symbol sym.Scan
IsFolding operator k (folding.Pair o) =
    (k ≡ kind.Symbol sym.OpenParen) × (own_level o ≡ 6) × (left_level o ≡ 0) × (right_level o ≡ 0) ×
    ((a b : List Word) → pair_words o a b ≡ fold_words operator ++
    (word.Symbol sym.OpenParen ∷
    (a ++ (word.Symbol sym.Comma ∷ (b ++ (word.Symbol sym.CloseParen ∷ []))))))

folding_symbol_is : (operator : Fold) (s : Sym) (f : Folding) → folding_of operator (kind.Symbol s)
    ≡ Some f → IsFolding operator (kind.Symbol s) f
folding_symbol_is operator sym.Reduce f e =
    let same : folding.Reduce ≡ f = cc in
    subst (IsFolding operator (kind.Symbol sym.Reduce)) same refl
folding_symbol_is operator sym.Scan f e =
    let same : folding.Scan ≡ f = cc in
    subst (IsFolding operator (kind.Symbol sym.Scan)) same refl
folding_symbol_is fold.Max sym.OpenParen f e =
    let same : folding.Pair op.Max ≡ f = cc in
    subst (IsFolding fold.Max (kind.Symbol sym.OpenParen)) same (
      refl,
      refl,
      refl,
      refl,
      λ a b. simp append_assoc,
    )
folding_symbol_is fold.Min sym.OpenParen f e =
    let same : folding.Pair op.Min ≡ f = cc in
    subst (IsFolding fold.Min (kind.Symbol sym.OpenParen)) same (
      refl,
      refl,
      refl,
      refl,
      λ a b. simp append_assoc,
    )
folding_symbol_is fold.Sum sym.OpenParen f e = absurd (none_some e)
folding_symbol_is fold.Prod sym.OpenParen f e = absurd (none_some e)
folding_symbol_is fold.All sym.OpenParen f e = absurd (none_some e)
folding_symbol_is fold.Any sym.OpenParen f e = absurd (none_some e)
folding_symbol_is operator _ f e = absurd (none_some e)

pub folding_is : (operator : Fold) (k : Kind) (f : Folding) → folding_of operator k ≡ Some f
    → IsFolding operator k f
folding_is operator (kind.Symbol s) f e = folding_symbol_is operator s f e
folding_is operator _ f e = absurd (none_some e)

-- the sign of what goes on behind a name
abbrev pub sign_of : Suffix → Sym
sign_of suffix.Shift = sym.At
sign_of suffix.Remap = sym.Hash
sign_of suffix.Call = sym.OpenParen

suffix_symbol_is : (s : Sym) (f : Suffix) → suffix_of (kind.Symbol s) ≡ Some f
    → kind.Symbol s ≡ kind.Symbol (sign_of f)
suffix_symbol_is sym.At f e =
    let same : suffix.Shift ≡ f = cc in
    ap (λ (g : Suffix). kind.Symbol (sign_of g)) same
suffix_symbol_is sym.Hash f e =
    let same : suffix.Remap ≡ f = cc in
    ap (λ (g : Suffix). kind.Symbol (sign_of g)) same
suffix_symbol_is sym.OpenParen f e =
    let same : suffix.Call ≡ f = cc in
    ap (λ (g : Suffix). kind.Symbol (sign_of g)) same
suffix_symbol_is _ f e = absurd (none_some e)

pub suffix_is : (k : Kind) (f : Suffix) → suffix_of k ≡ Some f → k ≡ kind.Symbol (sign_of f)
suffix_is (kind.Symbol s) f e = suffix_symbol_is s f e
suffix_is _ f e = absurd (none_some e)

-- two words, by a Bool
pub outside_is : (k : Kind) (b : Bool) → outside_of k ≡ Some b
    → IsOneSign k (if b then keyword key.Of else keyword key.In)
outside_is (kind.Word key.Of) b e =
    let same : true ≡ b = cc in
    subst (λ (b : Bool).
    IsOneSign (kind.Word key.Of) (if b then keyword key.Of else keyword key.In)) same
    (a_keyword key.Of)
outside_is (kind.Word key.In) b e =
    let same : false ≡ b = cc in
    subst (λ (b : Bool).
    IsOneSign (kind.Word key.In) (if b then keyword key.Of else keyword key.In)) same
    (a_keyword key.In)
outside_is _ b e = absurd (none_some e)

pub stride_is : (k : Kind) (b : Bool) → stride_of k ≡ Some b
    → IsOneSign k (if b then keyword key.By else keyword key.At)
stride_is (kind.Word key.By) b e =
    let same : true ≡ b = cc in
    subst (λ (b : Bool).
    IsOneSign (kind.Word key.By) (if b then keyword key.By else keyword key.At)) same
    (a_keyword key.By)
stride_is (kind.Word key.At) b e =
    let same : false ≡ b = cc in
    subst (λ (b : Bool).
    IsOneSign (kind.Word key.At) (if b then keyword key.By else keyword key.At)) same
    (a_keyword key.At)
stride_is _ b e = absurd (none_some e)

pub without_is : (k : Kind) (b : Bool) → without_of k ≡ Some b
    → IsOneSign k (if b then keyword key.Without else keyword key.With)
without_is (kind.Word key.Without) b e =
    let same : true ≡ b = cc in
    subst (λ (b : Bool).
    IsOneSign (kind.Word key.Without) (if b then keyword key.Without else keyword key.With))
    same (a_keyword key.Without)
without_is (kind.Word key.With) b e =
    let same : false ≡ b = cc in
    subst (λ (b : Bool). IsOneSign (kind.Word key.With) (if b then keyword key.Without else keyword
    key.With)) same (a_keyword key.With)
without_is _ b e = absurd (none_some e)

pub down_is : (k : Kind) (b : Bool) → down_of k ≡ Some b
    → IsOneSign k (if b then keyword key.Downto else keyword key.To)
down_is (kind.Word key.Downto) b e =
    let same : true ≡ b = cc in
    subst (λ (b : Bool). IsOneSign (kind.Word key.Downto) (if b then keyword key.Downto else keyword
    key.To)) same (a_keyword key.Downto)
down_is (kind.Word key.To) b e =
    let same : false ≡ b = cc in
    subst (λ (b : Bool).
    IsOneSign (kind.Word key.To) (if b then keyword key.Downto else keyword key.To)) same
    (a_keyword key.To)
down_is _ b e = absurd (none_some e)

-- what begins a statement: its words
abbrev pub IsStart : Kind → Start → Type 0
IsStart k start.Name = k ≡ kind.Name
IsStart k start.Block = k ≡ kind.Word key.Begin
IsStart k start.If = k ≡ kind.Word key.If
IsStart k start.While = k ≡ kind.Word key.While
IsStart k start.Repeat = k ≡ kind.Word key.Repeat
IsStart k start.For = k ≡ kind.Word key.For
IsStart k (start.Border which) = IsOneSign k (border_words which)
IsStart k (start.Write line) = IsOneSign k (if line then keyword key.Writeln else keyword key.Write)
IsStart k start.Return = k ≡ kind.Word key.Return

start_keyword_is : (k : Key) (s : Start) → start_keyword k ≡ Some s → IsStart (kind.Word k) s
start_keyword_is key.Begin s e =
    let same : start.Block ≡ s = cc in
    subst (IsStart (kind.Word key.Begin)) same refl
start_keyword_is key.If s e =
    let same : start.If ≡ s = cc in
    subst (IsStart (kind.Word key.If)) same refl
start_keyword_is key.While s e =
    let same : start.While ≡ s = cc in
    subst (IsStart (kind.Word key.While)) same refl
start_keyword_is key.Repeat s e =
    let same : start.Repeat ≡ s = cc in
    subst (IsStart (kind.Word key.Repeat)) same refl
start_keyword_is key.For s e =
    let same : start.For ≡ s = cc in
    subst (IsStart (kind.Word key.For)) same refl
start_keyword_is key.Wrap s e =
    let same : start.Border border.Wrap ≡ s = cc in
    subst (IsStart (kind.Word key.Wrap)) same (a_keyword key.Wrap)
start_keyword_is key.Reflect s e =
    let same : start.Border border.Reflect ≡ s = cc in
    subst (IsStart (kind.Word key.Reflect)) same (a_keyword key.Reflect)
start_keyword_is key.Write s e =
    let same : start.Write false ≡ s = cc in
    subst (IsStart (kind.Word key.Write)) same (a_keyword key.Write)
start_keyword_is key.Writeln s e =
    let same : start.Write true ≡ s = cc in
    subst (IsStart (kind.Word key.Writeln)) same (a_keyword key.Writeln)
start_keyword_is key.Return s e =
    let same : start.Return ≡ s = cc in
    subst (IsStart (kind.Word key.Return)) same refl
start_keyword_is _ s e = absurd (none_some e)

pub start_is : (k : Kind) (s : Start) → start_of k ≡ Some s → IsStart k s
start_is kind.Name s e =
    let same : start.Name ≡ s = cc in
    subst (IsStart kind.Name) same refl
start_is (kind.Word k) s e = start_keyword_is k s e
start_is _ s e = absurd (none_some e)

-- what begins a declaration
abbrev pub IsPart : Kind → Part → Type 0
IsPart k part.Config = k ≡ kind.Word key.Config
IsPart k part.Constant = k ≡ kind.Word key.Constant
IsPart k part.Region = k ≡ kind.Word key.Region
IsPart k part.Direction = k ≡ kind.Word key.Direction
IsPart k part.Var = k ≡ kind.Word key.Var
IsPart k part.Procedure = k ≡ kind.Word key.Procedure

part_keyword_is : (k : Key) (p : Part) → part_keyword k ≡ Some p → IsPart (kind.Word k) p
part_keyword_is key.Config p e =
    let same : part.Config ≡ p = cc in
    subst (IsPart (kind.Word key.Config)) same refl
part_keyword_is key.Constant p e =
    let same : part.Constant ≡ p = cc in
    subst (IsPart (kind.Word key.Constant)) same refl
part_keyword_is key.Region p e =
    let same : part.Region ≡ p = cc in
    subst (IsPart (kind.Word key.Region)) same refl
part_keyword_is key.Direction p e =
    let same : part.Direction ≡ p = cc in
    subst (IsPart (kind.Word key.Direction)) same refl
part_keyword_is key.Var p e =
    let same : part.Var ≡ p = cc in
    subst (IsPart (kind.Word key.Var)) same refl
part_keyword_is key.Procedure p e =
    let same : part.Procedure ≡ p = cc in
    subst (IsPart (kind.Word key.Procedure)) same refl
part_keyword_is _ p e = absurd (none_some e)

pub part_is : (k : Kind) (p : Part) → part_of k ≡ Some p → IsPart k p
part_is (kind.Word k) p e = part_keyword_is k p e
part_is _ p e = absurd (none_some e)
