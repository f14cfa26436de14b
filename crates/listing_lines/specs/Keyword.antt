-- How each keyword is written.
use Rattle.std.specs.Prelude.{ℕ, List, codes}
use Rattle.listing_lines.specs.declared.keywords.Keyword.{Keyword}
use Rattle.listing_lines.specs.declared.keywords.Keyword.TheVariants.{Version, Grid, Scalars, Slots, Cells, Array}
use Rattle.listing_lines.specs.declared.keywords.Keyword.TheVariants.{Text, Expr, Group, Exchange, Item, Code}
use Rattle.listing_lines.specs.declared.keywords.Keyword.TheVariants.{Put, Cell, Acc, If, Else, Fi}
use Rattle.listing_lines.specs.declared.keywords.Keyword.TheVariants.{While, Od, Repeat, Until, Set, Fix}
use Rattle.listing_lines.specs.declared.keywords.Keyword.TheVariants.{Dims, Of, In, At, By, Need}
use Rattle.listing_lines.specs.declared.keywords.Keyword.TheVariants.{Same, Fits, Room, Clear, Loop, Start}
use Rattle.listing_lines.specs.declared.keywords.Keyword.TheVariants.{Finish, Wrap, Reflect, Flood, Part, Scan}
use Rattle.listing_lines.specs.declared.keywords.Keyword.TheVariants.{Vote, Fold, TreeVote, TreeFold, Print, Number}
use Rattle.listing_lines.specs.declared.keywords.Keyword.TheVariants.{Truth, Gather, Jump, Unless, Trap, End}
use Rattle.listing_lines.specs.declared.keywords.Keyword.TheVariants.{Remap}

abbrev pub keyword_text : Keyword → List ℕ
keyword_text Version = codes "zplnode"
keyword_text Grid = codes "grid"
keyword_text Scalars = codes "scalars"
keyword_text Slots = codes "slots"
keyword_text Cells = codes "cells"
keyword_text Array = codes "array"
keyword_text Text = codes "text"
keyword_text Expr = codes "expr"
keyword_text Group = codes "group"
keyword_text Exchange = codes "exchange"
keyword_text Item = codes "item"
keyword_text Code = codes "code"
keyword_text Put = codes "put"
keyword_text Cell = codes "cell"
keyword_text Acc = codes "acc"
keyword_text If = codes "if"
keyword_text Else = codes "else"
keyword_text Fi = codes "fi"
keyword_text While = codes "while"
keyword_text Od = codes "od"
keyword_text Repeat = codes "repeat"
keyword_text Until = codes "until"
keyword_text Set = codes "set"
keyword_text Fix = codes "fix"
keyword_text Dims = codes "dims"
keyword_text Of = codes "of"
keyword_text In = codes "in"
keyword_text At = codes "at"
keyword_text By = codes "by"
keyword_text Need = codes "need"
keyword_text Same = codes "same"
keyword_text Fits = codes "fits"
keyword_text Room = codes "room"
keyword_text Clear = codes "clear"
keyword_text Loop = codes "loop"
keyword_text Start = codes "start"
keyword_text Finish = codes "finish"
keyword_text Wrap = codes "wrap"
keyword_text Reflect = codes "reflect"
keyword_text Flood = codes "flood"
keyword_text Part = codes "part"
keyword_text Scan = codes "scan"
keyword_text Vote = codes "vote"
keyword_text Fold = codes "fold"
keyword_text TreeVote = codes "treevote"
keyword_text TreeFold = codes "treefold"
keyword_text Print = codes "print"
keyword_text Number = codes "number"
keyword_text Truth = codes "truth"
keyword_text Gather = codes "gather"
keyword_text Jump = codes "jump"
keyword_text Unless = codes "unless"
keyword_text Trap = codes "trap"
keyword_text End = codes "end"
keyword_text Remap = codes "remap"
