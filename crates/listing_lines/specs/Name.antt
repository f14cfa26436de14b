-- How each name is written.
use Rattle.std.specs.Prelude.{ℕ, List, codes}
use Rattle.listing_lines.specs.declared.names.Name.{Name}
use Rattle.listing_lines.specs.declared.names.Name.TheVariants.{Minus, Star, MinusStar, Plus, Slash, Percent}
use Rattle.listing_lines.specs.declared.names.Name.TheVariants.{Equal, NotEqual, Less, LessEqual, Greater, GreaterEqual}
use Rattle.listing_lines.specs.declared.names.Name.TheVariants.{And, Or, Max, Min, Neg, Not}
use Rattle.listing_lines.specs.declared.names.Name.TheVariants.{Abs, Sum, Prod, All, Any, Part}
use Rattle.listing_lines.specs.declared.names.Name.TheVariants.{Flood, Number, Truth}

abbrev pub name_text : Name → List ℕ
name_text Minus = codes "-"
name_text Star = codes "*"
name_text MinusStar = codes "-*"
name_text Plus = codes "+"
name_text Slash = codes "/"
name_text Percent = codes "%"
name_text Equal = codes "="
name_text NotEqual = codes "!="
name_text Less = codes "<"
name_text LessEqual = codes "<="
name_text Greater = codes ">"
name_text GreaterEqual = codes ">="
name_text And = codes "&"
name_text Or = codes "|"
name_text Max = codes "max"
name_text Min = codes "min"
name_text Neg = codes "neg"
name_text Not = codes "not"
name_text Abs = codes "abs"
name_text Sum = codes "sum"
name_text Prod = codes "prod"
name_text All = codes "all"
name_text Any = codes "any"
name_text Part = codes "part"
name_text Flood = codes "flood"
name_text Number = codes "number"
name_text Truth = codes "truth"
