-- How each keyword is written.
use Rattle.std.specs.Prelude.{ℕ, List, codes}
use Rattle.zpl_tokens.specs.declared.keywords.Key.{Key}
use Rattle.zpl_tokens.specs.declared.keywords.Key.TheVariants.{Program, Config, Var, Constant}
use Rattle.zpl_tokens.specs.declared.keywords.Key.TheVariants.{Region, Direction, Procedure, Begin}
use Rattle.zpl_tokens.specs.declared.keywords.Key.TheVariants.{End, If, Then, Elsif, Else, While}
use Rattle.zpl_tokens.specs.declared.keywords.Key.TheVariants.{Do, Repeat, Until, For, To, Downto}
use Rattle.zpl_tokens.specs.declared.keywords.Key.TheVariants.{By, Of, In, At, With, Without, Wrap}
use Rattle.zpl_tokens.specs.declared.keywords.Key.TheVariants.{Reflect, Return, Integer, Boolean}
use Rattle.zpl_tokens.specs.declared.keywords.Key.TheVariants.{True, False, Max, Min, Abs, Write}
use Rattle.zpl_tokens.specs.declared.keywords.Key.TheVariants.{Writeln, Index1, Index2, Index3}

abbrev pub keyword_text : Key → List ℕ
keyword_text Program = codes "program"
keyword_text Config = codes "config"
keyword_text Var = codes "var"
keyword_text Constant = codes "constant"
keyword_text Region = codes "region"
keyword_text Direction = codes "direction"
keyword_text Procedure = codes "procedure"
keyword_text Begin = codes "begin"
keyword_text End = codes "end"
keyword_text If = codes "if"
keyword_text Then = codes "then"
keyword_text Elsif = codes "elsif"
keyword_text Else = codes "else"
keyword_text While = codes "while"
keyword_text Do = codes "do"
keyword_text Repeat = codes "repeat"
keyword_text Until = codes "until"
keyword_text For = codes "for"
keyword_text To = codes "to"
keyword_text Downto = codes "downto"
keyword_text By = codes "by"
keyword_text Of = codes "of"
keyword_text In = codes "in"
keyword_text At = codes "at"
keyword_text With = codes "with"
keyword_text Without = codes "without"
keyword_text Wrap = codes "wrap"
keyword_text Reflect = codes "reflect"
keyword_text Return = codes "return"
keyword_text Integer = codes "integer"
keyword_text Boolean = codes "boolean"
keyword_text True = codes "true"
keyword_text False = codes "false"
keyword_text Max = codes "max"
keyword_text Min = codes "min"
keyword_text Abs = codes "abs"
keyword_text Write = codes "write"
keyword_text Writeln = codes "writeln"
keyword_text Index1 = codes "Index1"
keyword_text Index2 = codes "Index2"
keyword_text Index3 = codes "Index3"
