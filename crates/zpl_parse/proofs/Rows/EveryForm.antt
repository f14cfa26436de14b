-- The rules, computed on the words of a program with each form of the grammar. The text, its
-- offsets and the tree, which was written
-- by hand, are those of the test `every_form_has_its_tree`.
use Prim.Native.String.{String}
use Rattle.std.proofs.Common.{◌≡◌, ◌∷◌, ℕ, true, false, List, [], codes, refl, pos, None, Some}
use Rattle.zpl_nums.specs.declared.ends.Border.TheVariants as border
use Rattle.zpl_nums.specs.declared.operators.Op.TheVariants as op
use Rattle.zpl_nums.specs.declared.folds.Fold.TheVariants as fold
use Rattle.zpl_tokens.specs.declared.keywords.Key.{Key}
use Rattle.zpl_tokens.specs.declared.keywords.Key.TheVariants as key
use Rattle.zpl_tokens.specs.declared.symbols.Sym.{Sym}
use Rattle.zpl_tokens.specs.declared.symbols.Sym.TheVariants as sym
use Rattle.zpl_tree.specs.Syntax.{Name, NamedRegion, Ditto, Expr, Number, Truth, Coord, Named, Shifted, Around, Remap, Call, Paren, Neg, Not, Abs, Pair, Reduce, Scan, Flood, Exprs, NoExpr, ThenExpr, NamedDir, Vector, Inner, Rexpr, Dims, NoBracket, Bracketed, NoPost, ThenPost, DimText, Blank, Star, One, Span, DimTexts, NoDim, ThenDim, Str, Value, Stmt, Prefixed, Stmts, NoStmt, ThenStmt, Assign, Invoke, Block, If, While, Repeat, For, Border, Write, Return, Tested, NoArm, ThenArm, NoElse, Else, Integer, Boolean, Other, Procedure, Decl, Config, Constant, Regions, Directions, Vars, Defined, Program}
use Rattle.zpl_tree.specs.Word as word
use Rattle.zpl_grammar.specs.Lexeme.{Lexeme, lexeme_at}
use Rattle.zpl_parse.specs.Outcome.{Done}
use Rattle.zpl_parse.specs.Declarations.{program}

-- words at an offset
abbrev keyword : ℕ → Key → Lexeme
keyword at k = lexeme_at at (word.Keyword k)

abbrev symbol : ℕ → Sym → Lexeme
symbol at s = lexeme_at at (word.Symbol s)

abbrev number : ℕ → ℕ → Lexeme
number at n = lexeme_at at (word.Number (pos n))

abbrev name : ℕ → String → Lexeme
name at text = lexeme_at at (word.Name (codes text))

-- what a name is at an offset: by itself, as an expression, and as a region
abbrev called : ℕ → String → Name
called at text = record { text = codes text; at = at }

abbrev named : ℕ → String → Expr
named at text = Named at (called at text)

abbrev region : ℕ → String → Inner
region at text = Rexpr [] (NamedRegion (called at text)) NoPost

-- the lists of a tree
abbrev exprs : List Expr → Exprs
exprs [] = NoExpr
exprs (first ∷ rest) = ThenExpr first (exprs rest)

abbrev dims : List DimText → DimTexts
dims [] = NoDim
dims (first ∷ rest) = ThenDim first (dims rest)

abbrev stmts : List Stmt → Stmts
stmts [] = NoStmt
stmts (first ∷ rest) = ThenStmt first (stmts rest)

-- the words of the text, each at its offset
abbrev words : List Lexeme
words =
    -- program p;
    keyword 0 key.Program ∷ name 8 "p" ∷ symbol 9 sym.Semicolon ∷
    -- config var n : integer = 8; s : boolean = true;
    keyword 11 key.Config ∷ keyword 18 key.Var ∷ name 22 "n" ∷ symbol 24 sym.Colon ∷
    keyword 26 key.Integer ∷ symbol 34 sym.Equal ∷ number 36 8 ∷
    symbol 37 sym.Semicolon ∷ name 39 "s" ∷ symbol 41 sym.Colon ∷ keyword 43 key.Boolean ∷
    symbol 51 sym.Equal ∷ keyword 53 key.True ∷
    symbol 57 sym.Semicolon ∷
    -- constant c : t = -n;
    keyword 59 key.Constant ∷ name 68 "c" ∷ symbol 70 sym.Colon ∷ name 72 "t" ∷
    symbol 74 sym.Equal ∷ symbol 76 sym.Minus ∷ name 77 "n" ∷
    symbol 78 sym.Semicolon ∷
    -- region R = [1..n, *] at e by [2]; S = d of d in R by e; T = [" at d];
    keyword 80 key.Region ∷ name 87 "R" ∷ symbol 89 sym.Equal ∷ symbol 91 sym.OpenBracket ∷
    number 92 1 ∷ symbol 93 sym.DotDot ∷ name 95 "n" ∷
    symbol 96 sym.Comma ∷ symbol 98 sym.Star ∷ symbol 99 sym.CloseBracket ∷ keyword 101 key.At ∷
    name 104 "e" ∷ keyword 106 key.By ∷
    symbol 109 sym.OpenBracket ∷ number 110 2 ∷ symbol 111 sym.CloseBracket ∷
    symbol 112 sym.Semicolon ∷ name 114 "S" ∷ symbol 116 sym.Equal ∷
    name 118 "d" ∷ keyword 120 key.Of ∷ name 123 "d" ∷ keyword 125 key.In ∷ name 128 "R" ∷
    keyword 130 key.By ∷ name 133 "e" ∷
    symbol 134 sym.Semicolon ∷ name 136 "T" ∷ symbol 138 sym.Equal ∷ symbol 140 sym.OpenBracket ∷
    lexeme_at 141 word.Ditto ∷ keyword 143 key.At ∷
    name 146 "d" ∷ symbol 147 sym.CloseBracket ∷ symbol 148 sym.Semicolon ∷
    -- direction d = [1]; e = [0, -1];
    keyword 150 key.Direction ∷ name 160 "d" ∷ symbol 162 sym.Equal ∷ symbol 164 sym.OpenBracket ∷
    number 165 1 ∷ symbol 166 sym.CloseBracket ∷
    symbol 167 sym.Semicolon ∷ name 169 "e" ∷ symbol 171 sym.Equal ∷ symbol 173 sym.OpenBracket ∷
    number 174 0 ∷ symbol 175 sym.Comma ∷
    symbol 177 sym.Minus ∷ number 178 1 ∷ symbol 179 sym.CloseBracket ∷ symbol 180 sym.Semicolon ∷
    -- var a, b : [R] integer; q : boolean; r : t;
    keyword 182 key.Var ∷ name 186 "a" ∷ symbol 187 sym.Comma ∷ name 189 "b" ∷
    symbol 191 sym.Colon ∷ symbol 193 sym.OpenBracket ∷ name 194 "R" ∷
    symbol 195 sym.CloseBracket ∷ keyword 197 key.Integer ∷ symbol 204 sym.Semicolon ∷
    name 206 "q" ∷ symbol 208 sym.Colon ∷
    keyword 210 key.Boolean ∷ symbol 217 sym.Semicolon ∷ name 219 "r" ∷ symbol 221 sym.Colon ∷
    name 223 "t" ∷ symbol 224 sym.Semicolon ∷
    -- procedure f(); begin end;
    keyword 226 key.Procedure ∷ name 236 "f" ∷ symbol 237 sym.OpenParen ∷
    symbol 238 sym.CloseParen ∷ symbol 239 sym.Semicolon ∷
    keyword 241 key.Begin ∷ keyword 247 key.End ∷ symbol 250 sym.Semicolon ∷
    -- procedure g(var x, y : [d of R] integer; z : t) : integer;
    keyword 252 key.Procedure ∷ name 262 "g" ∷ symbol 263 sym.OpenParen ∷ keyword 264 key.Var ∷
    name 268 "x" ∷ symbol 269 sym.Comma ∷ name 271 "y" ∷
    symbol 273 sym.Colon ∷ symbol 275 sym.OpenBracket ∷ name 276 "d" ∷ keyword 278 key.Of ∷
    name 281 "R" ∷ symbol 282 sym.CloseBracket ∷
    keyword 284 key.Integer ∷ symbol 291 sym.Semicolon ∷ name 293 "z" ∷ symbol 295 sym.Colon ∷
    name 297 "t" ∷ symbol 298 sym.CloseParen ∷
    symbol 300 sym.Colon ∷ keyword 302 key.Integer ∷ symbol 309 sym.Semicolon ∷
    -- var i : integer; var j : [1..2] t; k : boolean;
    keyword 311 key.Var ∷ name 315 "i" ∷ symbol 317 sym.Colon ∷ keyword 319 key.Integer ∷
    symbol 326 sym.Semicolon ∷ keyword 328 key.Var ∷
    name 332 "j" ∷ symbol 334 sym.Colon ∷ symbol 336 sym.OpenBracket ∷ number 337 1 ∷
    symbol 338 sym.DotDot ∷ number 340 2 ∷
    symbol 341 sym.CloseBracket ∷ name 343 "t" ∷ symbol 344 sym.Semicolon ∷ name 346 "k" ∷
    symbol 348 sym.Colon ∷ keyword 350 key.Boolean ∷
    symbol 357 sym.Semicolon ∷
    -- [R] [S with q] [, without q] begin
    symbol 359 sym.OpenBracket ∷ name 360 "R" ∷ symbol 361 sym.CloseBracket ∷
    symbol 363 sym.OpenBracket ∷ name 364 "S" ∷ keyword 366 key.With ∷
    name 371 "q" ∷ symbol 372 sym.CloseBracket ∷ symbol 374 sym.OpenBracket ∷ symbol 375 sym.Comma ∷
    keyword 377 key.Without ∷ name 385 "q" ∷
    symbol 386 sym.CloseBracket ∷ keyword 388 key.Begin ∷
    -- [ ] x := 1; [, k] x += n; [*, i..n] x -= Index1; ["] x *= Index2; [d of "] x /= Index3;
    symbol 394 sym.OpenBracket ∷ symbol 396 sym.CloseBracket ∷ name 398 "x" ∷
    symbol 400 sym.Assign ∷ number 403 1 ∷ symbol 404 sym.Semicolon ∷
    symbol 406 sym.OpenBracket ∷ symbol 407 sym.Comma ∷ name 409 "k" ∷ symbol 410 sym.CloseBracket ∷
    name 412 "x" ∷ symbol 414 sym.AddAssign ∷
    name 417 "n" ∷ symbol 418 sym.Semicolon ∷ symbol 420 sym.OpenBracket ∷ symbol 421 sym.Star ∷
    symbol 422 sym.Comma ∷ name 424 "i" ∷
    symbol 425 sym.DotDot ∷ name 427 "n" ∷ symbol 428 sym.CloseBracket ∷ name 430 "x" ∷
    symbol 432 sym.SubAssign ∷ keyword 435 key.Index1 ∷
    symbol 441 sym.Semicolon ∷ symbol 443 sym.OpenBracket ∷ lexeme_at 444 word.Ditto ∷
    symbol 445 sym.CloseBracket ∷ name 447 "x" ∷
    symbol 449 sym.MulAssign ∷ keyword 452 key.Index2 ∷ symbol 458 sym.Semicolon ∷
    symbol 460 sym.OpenBracket ∷ name 461 "d" ∷ keyword 463 key.Of ∷
    lexeme_at 466 word.Ditto ∷ symbol 467 sym.CloseBracket ∷ name 469 "x" ∷
    symbol 471 sym.DivAssign ∷ keyword 474 key.Index3 ∷
    symbol 480 sym.Semicolon ∷
    -- x %= a@d; q &= a@[1, -1]; q |= !false;
    name 482 "x" ∷ symbol 484 sym.RemAssign ∷ name 487 "a" ∷ symbol 488 sym.At ∷ name 489 "d" ∷
    symbol 490 sym.Semicolon ∷ name 492 "q" ∷
    symbol 494 sym.AndAssign ∷ name 497 "a" ∷ symbol 498 sym.At ∷ symbol 499 sym.OpenBracket ∷
    number 500 1 ∷ symbol 501 sym.Comma ∷
    symbol 503 sym.Minus ∷ number 504 1 ∷ symbol 505 sym.CloseBracket ∷ symbol 506 sym.Semicolon ∷
    name 508 "q" ∷ symbol 510 sym.OrAssign ∷
    symbol 513 sym.Not ∷ keyword 514 key.False ∷ symbol 519 sym.Semicolon ∷
    -- f(); g(a, (n)); begin end;
    name 521 "f" ∷ symbol 522 sym.OpenParen ∷ symbol 523 sym.CloseParen ∷ symbol 524 sym.Semicolon ∷
    name 526 "g" ∷ symbol 527 sym.OpenParen ∷
    name 528 "a" ∷ symbol 529 sym.Comma ∷ symbol 531 sym.OpenParen ∷ name 532 "n" ∷
    symbol 533 sym.CloseParen ∷ symbol 534 sym.CloseParen ∷
    symbol 535 sym.Semicolon ∷ keyword 537 key.Begin ∷ keyword 543 key.End ∷
    symbol 546 sym.Semicolon ∷
    -- if q then elsif k then f(); f(); else x := f(); end;
    keyword 548 key.If ∷ name 551 "q" ∷ keyword 553 key.Then ∷ keyword 558 key.Elsif ∷
    name 564 "k" ∷ keyword 566 key.Then ∷ name 571 "f" ∷
    symbol 572 sym.OpenParen ∷ symbol 573 sym.CloseParen ∷ symbol 574 sym.Semicolon ∷ name 576 "f" ∷
    symbol 577 sym.OpenParen ∷
    symbol 578 sym.CloseParen ∷ symbol 579 sym.Semicolon ∷ keyword 581 key.Else ∷ name 586 "x" ∷
    symbol 588 sym.Assign ∷ name 591 "f" ∷
    symbol 592 sym.OpenParen ∷ symbol 593 sym.CloseParen ∷ symbol 594 sym.Semicolon ∷
    keyword 596 key.End ∷ symbol 599 sym.Semicolon ∷
    -- if q then f(); end;
    keyword 601 key.If ∷ name 604 "q" ∷ keyword 606 key.Then ∷ name 611 "f" ∷
    symbol 612 sym.OpenParen ∷ symbol 613 sym.CloseParen ∷
    symbol 614 sym.Semicolon ∷ keyword 616 key.End ∷ symbol 619 sym.Semicolon ∷
    -- while q do f(); end;
    keyword 621 key.While ∷ name 627 "q" ∷ keyword 629 key.Do ∷ name 632 "f" ∷
    symbol 633 sym.OpenParen ∷ symbol 634 sym.CloseParen ∷
    symbol 635 sym.Semicolon ∷ keyword 637 key.End ∷ symbol 640 sym.Semicolon ∷
    -- repeat f(); until k;
    keyword 642 key.Repeat ∷ name 649 "f" ∷ symbol 650 sym.OpenParen ∷ symbol 651 sym.CloseParen ∷
    symbol 652 sym.Semicolon ∷ keyword 654 key.Until ∷
    name 660 "k" ∷ symbol 661 sym.Semicolon ∷
    -- for i := 1 to n do end;
    keyword 663 key.For ∷ name 667 "i" ∷ symbol 669 sym.Assign ∷ number 672 1 ∷ keyword 674 key.To ∷
    name 677 "n" ∷ keyword 679 key.Do ∷
    keyword 682 key.End ∷ symbol 685 sym.Semicolon ∷
    -- for i := n downto 1 by 2 do f(); end;
    keyword 687 key.For ∷ name 691 "i" ∷ symbol 693 sym.Assign ∷ name 696 "n" ∷
    keyword 698 key.Downto ∷ number 705 1 ∷ keyword 707 key.By ∷
    number 710 2 ∷ keyword 712 key.Do ∷ name 715 "f" ∷ symbol 716 sym.OpenParen ∷
    symbol 717 sym.CloseParen ∷ symbol 718 sym.Semicolon ∷
    keyword 720 key.End ∷ symbol 723 sym.Semicolon ∷
    -- wrap a, b; reflect a;
    keyword 725 key.Wrap ∷ name 730 "a" ∷ symbol 731 sym.Comma ∷ name 733 "b" ∷
    symbol 734 sym.Semicolon ∷ keyword 736 key.Reflect ∷ name 744 "a" ∷
    symbol 745 sym.Semicolon ∷
    -- write(); writeln("so", abs(-1));
    keyword 747 key.Write ∷ symbol 752 sym.OpenParen ∷ symbol 753 sym.CloseParen ∷
    symbol 754 sym.Semicolon ∷ keyword 756 key.Writeln ∷
    symbol 763 sym.OpenParen ∷ lexeme_at 764 (word.Str (codes "so")) ∷ symbol 768 sym.Comma ∷
    keyword 770 key.Abs ∷ symbol 773 sym.OpenParen ∷
    symbol 774 sym.Minus ∷ number 775 1 ∷ symbol 776 sym.CloseParen ∷ symbol 777 sym.CloseParen ∷
    symbol 778 sym.Semicolon ∷
    -- x := a + b - a * b / a % b;
    name 780 "x" ∷ symbol 782 sym.Assign ∷ name 785 "a" ∷ symbol 787 sym.Plus ∷ name 789 "b" ∷
    symbol 791 sym.Minus ∷ name 793 "a" ∷
    symbol 795 sym.Star ∷ name 797 "b" ∷ symbol 799 sym.Slash ∷ name 801 "a" ∷
    symbol 803 sym.Percent ∷ name 805 "b" ∷ symbol 806 sym.Semicolon ∷
    -- q := a = b & a != b | a < b & a <= b | a > b & a >= b;
    name 808 "q" ∷ symbol 810 sym.Assign ∷ name 813 "a" ∷ symbol 815 sym.Equal ∷ name 817 "b" ∷
    symbol 819 sym.And ∷ name 821 "a" ∷
    symbol 823 sym.NotEqual ∷ name 826 "b" ∷ symbol 828 sym.Or ∷ name 830 "a" ∷
    symbol 832 sym.Less ∷ name 834 "b" ∷ symbol 836 sym.And ∷
    name 838 "a" ∷ symbol 840 sym.LessEqual ∷ name 843 "b" ∷ symbol 845 sym.Or ∷ name 847 "a" ∷
    symbol 849 sym.Greater ∷ name 851 "b" ∷
    symbol 853 sym.And ∷ name 855 "a" ∷ symbol 857 sym.GreaterEqual ∷ name 860 "b" ∷
    symbol 861 sym.Semicolon ∷
    -- write(+<<a, +<<[R] a, *<<a, *<<[R] a, max<<a, max<<[R] a, min<<a, min<<[R] a, &<<a, &<<[R] a,
    -- |<<a, |<<[R] a);
    keyword 863 key.Write ∷ symbol 868 sym.OpenParen ∷ symbol 869 sym.Plus ∷ symbol 870 sym.Reduce ∷
    name 872 "a" ∷ symbol 873 sym.Comma ∷
    symbol 875 sym.Plus ∷ symbol 876 sym.Reduce ∷ symbol 878 sym.OpenBracket ∷ name 879 "R" ∷
    symbol 880 sym.CloseBracket ∷ name 882 "a" ∷
    symbol 883 sym.Comma ∷ symbol 885 sym.Star ∷ symbol 886 sym.Reduce ∷ name 888 "a" ∷
    symbol 889 sym.Comma ∷ symbol 891 sym.Star ∷
    symbol 892 sym.Reduce ∷ symbol 894 sym.OpenBracket ∷ name 895 "R" ∷
    symbol 896 sym.CloseBracket ∷ name 898 "a" ∷ symbol 899 sym.Comma ∷
    keyword 901 key.Max ∷ symbol 904 sym.Reduce ∷ name 906 "a" ∷ symbol 907 sym.Comma ∷
    keyword 909 key.Max ∷ symbol 912 sym.Reduce ∷
    symbol 914 sym.OpenBracket ∷ name 915 "R" ∷ symbol 916 sym.CloseBracket ∷ name 918 "a" ∷
    symbol 919 sym.Comma ∷ keyword 921 key.Min ∷
    symbol 924 sym.Reduce ∷ name 926 "a" ∷ symbol 927 sym.Comma ∷ keyword 929 key.Min ∷
    symbol 932 sym.Reduce ∷ symbol 934 sym.OpenBracket ∷
    name 935 "R" ∷ symbol 936 sym.CloseBracket ∷ name 938 "a" ∷ symbol 939 sym.Comma ∷
    symbol 941 sym.And ∷ symbol 942 sym.Reduce ∷ name 944 "a" ∷
    symbol 945 sym.Comma ∷ symbol 947 sym.And ∷ symbol 948 sym.Reduce ∷ symbol 950 sym.OpenBracket ∷
    name 951 "R" ∷ symbol 952 sym.CloseBracket ∷
    name 954 "a" ∷ symbol 955 sym.Comma ∷ symbol 957 sym.Or ∷ symbol 958 sym.Reduce ∷ name 960 "a" ∷
    symbol 961 sym.Comma ∷ symbol 963 sym.Or ∷
    symbol 964 sym.Reduce ∷ symbol 966 sym.OpenBracket ∷ name 967 "R" ∷
    symbol 968 sym.CloseBracket ∷ name 970 "a" ∷ symbol 971 sym.CloseParen ∷
    symbol 972 sym.Semicolon ∷
    -- write(+||a, *||[1] a, max||a, min||[2] a, &||a, |||[3] a, >>[1, b] a);
    keyword 974 key.Write ∷ symbol 979 sym.OpenParen ∷ symbol 980 sym.Plus ∷ symbol 981 sym.Scan ∷
    name 983 "a" ∷ symbol 984 sym.Comma ∷
    symbol 986 sym.Star ∷ symbol 987 sym.Scan ∷ symbol 989 sym.OpenBracket ∷ number 990 1 ∷
    symbol 991 sym.CloseBracket ∷ name 993 "a" ∷
    symbol 994 sym.Comma ∷ keyword 996 key.Max ∷ symbol 999 sym.Scan ∷ name 1001 "a" ∷
    symbol 1002 sym.Comma ∷ keyword 1004 key.Min ∷
    symbol 1007 sym.Scan ∷ symbol 1009 sym.OpenBracket ∷ number 1010 2 ∷
    symbol 1011 sym.CloseBracket ∷ name 1013 "a" ∷ symbol 1014 sym.Comma ∷
    symbol 1016 sym.And ∷ symbol 1017 sym.Scan ∷ name 1019 "a" ∷ symbol 1020 sym.Comma ∷
    symbol 1022 sym.Or ∷ symbol 1023 sym.Scan ∷
    symbol 1025 sym.OpenBracket ∷ number 1026 3 ∷ symbol 1027 sym.CloseBracket ∷ name 1029 "a" ∷
    symbol 1030 sym.Comma ∷ symbol 1032 sym.Flood ∷
    symbol 1034 sym.OpenBracket ∷ number 1035 1 ∷ symbol 1036 sym.Comma ∷ name 1038 "b" ∷
    symbol 1039 sym.CloseBracket ∷ name 1041 "a" ∷
    symbol 1042 sym.CloseParen ∷ symbol 1043 sym.Semicolon ∷
    -- return max(i, min(g(k), 1));
    keyword 1045 key.Return ∷ keyword 1052 key.Max ∷ symbol 1055 sym.OpenParen ∷ name 1056 "i" ∷
    symbol 1057 sym.Comma ∷ keyword 1059 key.Min ∷
    symbol 1062 sym.OpenParen ∷ name 1063 "g" ∷ symbol 1064 sym.OpenParen ∷ name 1065 "k" ∷
    symbol 1066 sym.CloseParen ∷ symbol 1067 sym.Comma ∷
    number 1069 1 ∷ symbol 1070 sym.CloseParen ∷ symbol 1071 sym.CloseParen ∷
    symbol 1072 sym.Semicolon ∷
    -- end;
    keyword 1074 key.End ∷ symbol 1077 sym.Semicolon ∷
    lexeme_at 1079 word.End ∷ []

-- config var n : integer = 8; s : boolean = true;
abbrev configs : Decl
configs =
    Config (
    record { name = called 22 "n"; base = Integer; value = Number 36 (pos 8) } ∷
    record { name = called 39 "s"; base = Boolean; value = Truth 53 true } ∷ [])

-- constant c : t = -n;
abbrev constants : Decl
constants =
    Constant (
    record { name = called 68 "c"; base = Other (called 72 "t"); value = Neg 76 (named 77 "n") } ∷
    [])

-- region R = [1..n, *] at e by [2]; S = d of d in R by e; T = [" at d];
abbrev regions : Decl
regions =
    Regions (
    record {
      name = called 87 "R";
      body = Dims (dims (Span (Number 92 (pos 1)) (named 95 "n") ∷ Star 98 ∷ []));
      posts = ThenPost false (NamedDir (called 104 "e"))
          (ThenPost true (Vector (exprs (Number 110 (pos 2) ∷ []))) NoPost);
    } ∷
    record {
      name = called 114 "S";
      body =
          Rexpr (record { dir = called 118 "d"; outside = true } ∷ record {
            dir =
                called 123 "d";
            outside = false;
          } ∷ [])
          (NamedRegion (called 128 "R")) (ThenPost true (NamedDir (called 133 "e")) NoPost);
      posts = NoPost;
    } ∷
    record {
      name = called 136 "T";
      body =
          Rexpr [] (Ditto 141) (ThenPost false (NamedDir (called 146 "d")) NoPost);
      posts = NoPost;
    } ∷
    [])

-- direction d = [1]; e = [0, -1];
abbrev directions : Decl
directions =
    Directions (
    record { name = called 160 "d"; parts = exprs (Number 165 (pos 1) ∷ []) } ∷
    record {
      name = called 169 "e";
      parts =
          exprs (Number 174 (pos 0) ∷ Neg 177 (Number 178 (pos 1)) ∷ []);
    } ∷ [])

-- var a, b : [R] integer; q : boolean; r : t;
abbrev variables : Decl
variables =
    Vars (
    record {
      names = called 186 "a" ∷ called 189 "b" ∷ [];
      shape =
          Bracketed (region 194 "R");
      base = Integer;
    } ∷
    record { names = called 206 "q" ∷ []; shape = NoBracket; base = Boolean } ∷
    record { names = called 219 "r" ∷ []; shape = NoBracket; base = Other (called 223 "t") } ∷ [])

-- procedure f(); begin end;
abbrev empty : Procedure
empty = record {
  name = called 236 "f";
  params = [];
  result = None;
  locals = [];
  body =
      Prefixed 241 [] (Block NoStmt);
}

-- the statements of g
abbrev statements : List Stmt
statements =
    -- [ ] x := 1; [, k] x += n; [*, i..n] x -= Index1; ["] x *= Index2; [d of "] x /= Index3;
    Prefixed 398 (record { at = 394; region = Dims (dims (Blank 396 ∷ [])); mask = None } ∷
    []) (Assign (called 398 "x") None (Number 403 (pos 1))) ∷
    Prefixed 412 (record {
      at = 406;
      region = Dims (dims (Blank 407 ∷ One (named 409 "k") ∷ []));
      mask = None;
    } ∷ [])
    (Assign (called 412 "x") (Some op.Add) (named 417 "n")) ∷
    Prefixed 430 (record {
      at = 420;
      region =
          Dims (dims (Star 421 ∷ Span (named 424 "i") (named 427 "n") ∷ []));
      mask = None;
    } ∷ [])
    (Assign (called 430 "x") (Some op.Sub) (Coord 435 1)) ∷
    Prefixed 447 (record { at = 443; region = Rexpr [] (Ditto 444) NoPost; mask = None } ∷
    []) (Assign (called 447 "x") (Some op.Mul) (Coord 452 2)) ∷
    Prefixed 469 (record {
      at = 460;
      region =
          Rexpr (record { dir = called 461 "d"; outside = true } ∷ []) (Ditto 466) NoPost;
      mask =
          None;
    } ∷ [])
    (Assign (called 469 "x") (Some op.Div) (Coord 474 3)) ∷
    -- x %= a@d; q &= a@[1, -1]; q |= !false;
    Prefixed 482 [] (Assign (called 482 "x") (Some op.Rem)
    (Shifted 487 (called 487 "a") (NamedDir (called 489 "d")))) ∷
    Prefixed 492 []
    (Assign (called 492 "q") (Some op.And)
    (Shifted 497 (called 497 "a")
    (Vector (exprs (Number 500 (pos 1) ∷ Neg 503 (Number 504 (pos 1)) ∷ []))))) ∷
    Prefixed 508 [] (Assign (called 508 "q") (Some op.Or) (Not 513 (Truth 514 false))) ∷
    -- f(); g(a, (n)); begin end;
    Prefixed 521 [] (Invoke (called 521 "f") NoExpr) ∷
    Prefixed 526 [] (Invoke (called 526 "g") (exprs (named 528 "a" ∷ Paren 531 (named 532 "n") ∷
    []))) ∷
    Prefixed 537 [] (Block NoStmt) ∷
    -- if q then elsif k then f(); f(); else x := f(); end;
    Prefixed 548 []
    (If
    (ThenArm (Tested 548 (named 551 "q") NoStmt)
    (ThenArm
    (Tested 558 (named 564 "k")
    (stmts (Prefixed 571 [] (Invoke (called 571 "f") NoExpr) ∷
    Prefixed 576 [] (Invoke (called 576 "f") NoExpr) ∷ [])))
    NoArm)) (Else
    (stmts (Prefixed 586 [] (Assign (called 586 "x") None (Call 591 (called 591 "f") NoExpr)) ∷
    [])))) ∷
    -- if q then f(); end;
    Prefixed 601 []
    (If (ThenArm
    (Tested 601 (named 604 "q") (stmts (Prefixed 611 [] (Invoke (called 611 "f") NoExpr) ∷ [])))
    NoArm) NoElse) ∷
    -- while q do f(); end;
    Prefixed 621 []
    (While (named 627 "q") (stmts (Prefixed 632 [] (Invoke (called 632 "f") NoExpr) ∷ []))) ∷
    -- repeat f(); until k;
    Prefixed 642 [] (Repeat (stmts (Prefixed 649 [] (Invoke (called 649 "f") NoExpr) ∷ [])) 654
    (named 660 "k")) ∷
    -- for i := 1 to n do end;
    Prefixed 663 [] (For (record {
      name = called 667 "i";
      first = Number 672 (pos 1);
      down =
          false;
      last = named 677 "n";
      step = None;
    }) NoStmt) ∷
    -- for i := n downto 1 by 2 do f(); end;
    Prefixed 687 []
    (For (record {
      name = called 691 "i";
      first = named 696 "n";
      down = true;
      last =
          Number 705 (pos 1);
      step = Some (Number 710 (pos 2));
    })
    (stmts (Prefixed 715 [] (Invoke (called 715 "f") NoExpr) ∷ []))) ∷
    -- wrap a, b; reflect a;
    Prefixed 725 [] (Border border.Wrap (called 730 "a" ∷ called 733 "b" ∷ [])) ∷
    Prefixed 736 [] (Border border.Reflect (called 744 "a" ∷ [])) ∷
    -- write(); writeln("so", abs(-1));
    Prefixed 747 [] (Write false []) ∷
    Prefixed 756 [] (Write true (Str (codes "so") ∷ Value (Abs 770 (Neg 774 (Number 775 (pos 1)))) ∷
    [])) ∷
    -- x := a + b - a * b / a % b;
    Prefixed 780 []
    (Assign (called 780 "x") None
    (Pair 785 op.Sub (Pair 785 op.Add (named 785 "a") (named 789 "b"))
    (Pair 793 op.Rem (Pair 793 op.Div (Pair 793 op.Mul (named 793 "a") (named 797 "b"))
    (named 801 "a")) (named 805 "b")))) ∷
    -- q := a = b & a != b | a < b & a <= b | a > b & a >= b;
    Prefixed 808 []
    (Assign (called 808 "q") None
    (Pair 813 op.Or
    (Pair 813 op.Or (Pair 813 op.And (Pair 813 op.Eq (named 813 "a") (named 817 "b"))
    (Pair 821 op.Ne (named 821 "a") (named 826 "b")))
    (Pair 830 op.And (Pair 830 op.Lt (named 830 "a") (named 834 "b"))
    (Pair 838 op.Le (named 838 "a") (named 843 "b"))))
    (Pair 847 op.And (Pair 847 op.Gt (named 847 "a") (named 851 "b"))
    (Pair 855 op.Ge (named 855 "a") (named 860 "b"))))) ∷
    -- write(+<<a, +<<[R] a, *<<a, *<<[R] a, max<<a, max<<[R] a, min<<a, min<<[R] a, &<<a, &<<[R] a,
    -- |<<a, |<<[R] a);
    Prefixed 863 []
    (Write false
    (Value (Reduce 869 fold.Sum NoBracket (named 872 "a")) ∷
    Value (Reduce 875 fold.Sum (Bracketed (region 879 "R")) (named 882 "a")) ∷
    Value (Reduce 885 fold.Prod NoBracket (named 888 "a")) ∷
    Value (Reduce 891 fold.Prod (Bracketed (region 895 "R")) (named 898 "a")) ∷
    Value (Reduce 901 fold.Max NoBracket (named 906 "a")) ∷
    Value (Reduce 909 fold.Max (Bracketed (region 915 "R")) (named 918 "a")) ∷
    Value (Reduce 921 fold.Min NoBracket (named 926 "a")) ∷
    Value (Reduce 929 fold.Min (Bracketed (region 935 "R")) (named 938 "a")) ∷
    Value (Reduce 941 fold.All NoBracket (named 944 "a")) ∷
    Value (Reduce 947 fold.All (Bracketed (region 951 "R")) (named 954 "a")) ∷
    Value (Reduce 957 fold.Any NoBracket (named 960 "a")) ∷
    Value (Reduce 963 fold.Any (Bracketed (region 967 "R")) (named 970 "a")) ∷ [])) ∷
    -- write(+||a, *||[1] a, max||a, min||[2] a, &||a, |||[3] a, >>[1, b] a);
    Prefixed 974 []
    (Write false
    (Value (Scan 980 fold.Sum None (named 983 "a")) ∷
    Value (Scan 986 fold.Prod (Some (pos 1)) (named 993 "a")) ∷
    Value (Scan 996 fold.Max None (named 1001 "a")) ∷
    Value (Scan 1004 fold.Min (Some (pos 2)) (named 1013 "a")) ∷
    Value (Scan 1016 fold.All None (named 1019 "a")) ∷
    Value (Scan 1022 fold.Any (Some (pos 3)) (named 1029 "a")) ∷
    Value (Flood 1032 (Dims (dims (One (Number 1035 (pos 1)) ∷ One (named 1038 "b") ∷ [])))
    (named 1041 "a")) ∷ [])) ∷
    -- return max(i, min(g(k), 1));
    Prefixed 1045 []
    (Return
    (Pair 1052 op.Max (named 1056 "i")
    (Pair 1059 op.Min (Call 1063 (called 1063 "g") (exprs (named 1065 "k" ∷ [])))
    (Number 1069 (pos 1))))) ∷ []

-- procedure g(var x, y : [d of R] integer; z : t) : integer;
-- var i : integer; var j : [1..2] t; k : boolean;
-- [R] [S with q] [, without q] begin
abbrev filled : Procedure
filled = record {
  name = called 262 "g";
  params =
      record {
        by_ref = true;
        names = called 268 "x" ∷ called 271 "y" ∷ [];
        shape = Bracketed (Rexpr (record { dir = called 276 "d"; outside = true } ∷
            []) (NamedRegion (called 281 "R")) NoPost);
        base = Integer;
      } ∷
      record {
        by_ref = false;
        names = called 293 "z" ∷ [];
        shape = NoBracket;
        base =
            Other (called 297 "t");
      } ∷ [];
  result = Some Integer;
  locals =
      record { names = called 315 "i" ∷ []; shape = NoBracket; base = Integer } ∷
      record {
        names = called 332 "j" ∷ [];
        shape = Bracketed (Dims (dims (Span (Number 337 (pos 1)) (Number 340 (pos 2)) ∷ [])));
        base = Other (called 343 "t");
      } ∷
      record { names = called 346 "k" ∷ []; shape = NoBracket; base = Boolean } ∷ [];
  body = Prefixed 388 (
      record { at = 359; region = region 360 "R"; mask = None } ∷
      record {
        at = 363;
        region = region 364 "S";
        mask =
            Some (record { name = called 371 "q"; without = false });
      } ∷
      record {
        at = 374;
        region = Dims (dims (Blank 375 ∷ Blank 377 ∷ []));
        mask =
            Some (record { name = called 385 "q"; without = true });
      } ∷ [])
      (Block (stmts statements));
}

abbrev the_program : Program
the_program = record {
  name = called 8 "p";
  decls = configs ∷ constants ∷ regions ∷ directions ∷ variables ∷ Defined empty ∷ Defined filled ∷
      [];
  source = [];
}

-- the rules take all 504 words and give this tree
every_form : program [] 504 words ≡ Done the_program []
every_form = refl
