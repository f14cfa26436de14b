-- The table of forms: what fields stand behind each keyword.
use Rattle.std.specs.Prelude.{List, [], ◌∷◌}
use Rattle.listing_lines.specs.declared.keywords.Keyword.{Keyword}
use Rattle.listing_lines.specs.declared.keywords.Keyword.TheVariants as key
use Rattle.listing_lines.specs.declared.forms.Kind.TheVariants as kind
use Rattle.listing_lines.specs.declared.forms.Slot.{Slot}
use Rattle.listing_lines.specs.declared.forms.Slot.TheVariants.{One, Maybe, Many}

-- the fields behind a keyword. The dimensions of an array are those of a stored one
abbrev pub form_of : Keyword → List Slot
form_of key.Version = One kind.Version ∷ []
form_of key.Grid = One kind.Number ∷ Maybe kind.Number ∷ Maybe kind.Number ∷ []
form_of key.Scalars = One kind.Number ∷ []
form_of key.Slots = Many kind.Number ∷ []
form_of key.Cells = One kind.Number ∷ []
form_of key.Array = One kind.Stored ∷ Many kind.Stored ∷ []
form_of key.Text = One kind.Bytes ∷ []
form_of key.Expr = One kind.Word ∷ Many kind.Word ∷ []
form_of key.Group = []
form_of key.Exchange = []
form_of key.Item = One kind.Number ∷ One kind.Number ∷ One kind.Vector ∷ []
form_of key.Code = []
form_of key.Put = One kind.Number ∷ One kind.Number ∷ One kind.Mask ∷ One kind.Number ∷ []
form_of key.Cell = One kind.Number ∷ One kind.Number ∷ One kind.Mask ∷ One kind.Number ∷ []
form_of key.Acc = One kind.Number ∷ One kind.Fold ∷ One kind.Number ∷ One kind.Mask ∷ One kind.Number ∷ []
form_of key.If = One kind.Number ∷ One kind.Mask ∷ One kind.Number ∷ []
form_of key.Else = []
form_of key.Fi = []
form_of key.While = One kind.Number ∷ One kind.Mask ∷ One kind.Number ∷ []
form_of key.Od = []
form_of key.Repeat = One kind.Mask ∷ One kind.Number ∷ []
form_of key.Until = One kind.Number ∷ []
form_of key.Set = One kind.Number ∷ One kind.Number ∷ One kind.Number ∷ []
form_of key.Fix = One kind.Number ∷ One kind.Bounds ∷ Many kind.Bounds ∷ []
form_of key.Dims = One kind.Number ∷ One kind.Part ∷ Many kind.Part ∷ One kind.Number ∷ []
form_of key.Of = One kind.Number ∷ One kind.Number ∷ One kind.Vector ∷ One kind.Number ∷ []
form_of key.In = One kind.Number ∷ One kind.Number ∷ One kind.Vector ∷ One kind.Number ∷ []
form_of key.At = One kind.Number ∷ One kind.Number ∷ One kind.Vector ∷ One kind.Number ∷ []
form_of key.By = One kind.Number ∷ One kind.Number ∷ One kind.Vector ∷ One kind.Number ∷ []
form_of key.Need = One kind.Number ∷ One kind.Number ∷ One kind.Vector ∷ One kind.Number ∷ []
form_of key.Same = One kind.Number ∷ One kind.Number ∷ One kind.Same ∷ One kind.Number ∷ []
form_of key.Fits = One kind.Number ∷ One kind.Vector ∷ One kind.Number ∷ []
form_of key.Room = One kind.Number ∷ One kind.Number ∷ []
form_of key.Clear = One kind.Number ∷ []
form_of key.Loop = One kind.Number ∷ One kind.Number ∷ []
form_of key.Start = One kind.Number ∷ []
form_of key.Finish = One kind.Number ∷ []
form_of key.Wrap = One kind.Number ∷ One kind.Number ∷ One kind.Vector ∷ []
form_of key.Reflect = One kind.Number ∷ One kind.Number ∷ One kind.Vector ∷ []
form_of key.Flood = One kind.Number ∷ One kind.Number ∷ One kind.Number ∷ One kind.Number ∷ []
form_of key.Part = One kind.Number ∷ One kind.Number ∷ One kind.Fold ∷ One kind.Number ∷ One kind.Number ∷ []
form_of key.Scan = One kind.Number ∷ One kind.Number ∷ One kind.Fold ∷ One kind.Number ∷ One kind.Number ∷ One kind.Mask ∷ []
form_of key.Vote = One kind.Number ∷ []
form_of key.Fold = One kind.Number ∷ One kind.Fold ∷ []
form_of key.TreeVote = One kind.Number ∷ []
form_of key.TreeFold = One kind.Number ∷ One kind.Fold ∷ []
form_of key.Print = One kind.Number ∷ []
form_of key.Number = One kind.Number ∷ []
form_of key.Truth = One kind.Number ∷ []
form_of key.Gather = One kind.Shown ∷ One kind.Number ∷ One kind.Number ∷ []
form_of key.Jump = One kind.Number ∷ []
form_of key.Unless = One kind.Number ∷ One kind.Number ∷ One kind.Number ∷ []
form_of key.Trap = One kind.Trap ∷ One kind.Number ∷ []
form_of key.End = []
form_of key.Remap = One kind.Number ∷ One kind.Number ∷ One kind.Number ∷ One kind.Number ∷ Many kind.Number ∷ []

-- the fields of a temporary's line
abbrev pub hidden_form : List Slot
hidden_form = One kind.Hidden ∷ Many kind.Hidden ∷ []
