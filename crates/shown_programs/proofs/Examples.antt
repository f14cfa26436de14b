-- A program with arrays, prefixes, a border statement, and a call that hands an array on; one with a
-- call that copies an array and answers; one with a shattered loop, and full folds; one with full
-- folds in tests; one with full folds in a bound, in what a call takes, and in what is returned;
-- one with a flood, a partial fold, a remap read and a scan; and one with a read that wraps round.
use Rattle.std.proofs.Common.{inl, inr, ℕ, true, false, List, [], ◌∷◌, Some, None, pos, codes, refl}
use Rattle.zpl_nums.specs.declared.ends.Border.TheVariants.{Wrap}
use Rattle.zpl_nums.specs.declared.folds.Fold.TheVariants as fold
use Rattle.zpl_nums.specs.declared.operators.Op.TheVariants as op
use Rattle.zpl_nums.proofs.IntegerLemmas.{IsInteger-truth}
use Rattle.zpl_tree.specs.Syntax.{Name, Number, Coord, Named, Around, Vector, Paren, Pair, Reduce, Remap, Scan, Flood, Value, Prefixed, NoStmt, ThenStmt, Assign, Block, For, Invoke, While, Write, Return, Call, NoExpr, ThenExpr, Abs, If, Tested, NoArm, ThenArm, NoElse, NoBracket, Bracketed, Rexpr, Dims, NamedRegion, NoPost, Blank, One, Span, NoDim, ThenDim, Integer, Vars, Regions, Directions, Defined, Border, Program}
use Rattle.zpl_names.specs.Reached.{longest_chain}
use Rattle.shown_programs.specs.Text.{IsShownProgram}

abbrev name : List ℕ → ℕ → Name
name text at = record { text = text; at = at }

-- region R = [1..2]; direction d = [1]; var A : [R] integer;
-- procedure p(var X : [R] integer); var B : [R] integer; [R] begin B := 1; X := X + B; end;
-- procedure t(); [R] begin p(A); [d of R] wrap A; writeln(A); end;
abbrev example : Program
example = record {
  name = name (codes "t") 8;
  decls = Regions (record {
    name = name (codes "R") 20;
    body = Dims (ThenDim (Span (Number 25 (pos 1)) (Number 28 (pos 2))) NoDim);
    posts = NoPost;
  } ∷ [])
      ∷ Directions (record {
        name = name (codes "d") 40;
        parts = ThenExpr (Number 45 (pos 1)) NoExpr;
      } ∷ [])
      ∷ Vars (record {
        names = name (codes "A") 37 ∷ [];
        shape = Bracketed (Rexpr [] (NamedRegion (name (codes "R") 42)) NoPost);
        base = Integer;
      } ∷ [])
      ∷ Defined (record {
        name = name (codes "p") 60;
        params = record {
          by_ref = true;
          names = name (codes "X") 66 ∷ [];
          shape = Bracketed (Rexpr [] (NamedRegion (name (codes "R") 71)) NoPost);
          base = Integer;
        } ∷ [];
        result = None;
        locals = record {
          names = name (codes "B") 90 ∷ [];
          shape = Bracketed (Rexpr [] (NamedRegion (name (codes "R") 95)) NoPost);
          base = Integer;
        } ∷ [];
        body = Prefixed 107
            (record {
              at = 107;
              region = Rexpr [] (NamedRegion (name (codes "R") 108)) NoPost;
              mask = None;
            } ∷ [])
            (Block
            (ThenStmt (Prefixed 117 [] (Assign (name (codes "B") 117) None (Number 122 (pos 1))))
            (ThenStmt (Prefixed 125 [] (Assign (name (codes "X") 125) None
            (Pair 132 op.Add (Named 130 (name (codes "X") 130)) (Named 134 (name (codes "B") 134)))))
            NoStmt)));
      })
      ∷ Defined (record {
        name = name (codes "t") 155;
        params = [];
        result = None;
        locals = [];
        body = Prefixed 160
            (record {
              at = 160;
              region = Rexpr [] (NamedRegion (name (codes "R") 161)) NoPost;
              mask = None;
            } ∷ [])
            (Block
            (ThenStmt (Prefixed 170 [] (Invoke (name (codes "p") 170)
            (ThenExpr (Named 172 (name (codes "A") 172)) NoExpr)))
            (ThenStmt (Prefixed 185
            (record {
              at = 176;
              region = Rexpr (record { dir = name (codes "d") 177; outside = true } ∷ [])
                  (NamedRegion (name (codes "R") 182)) NoPost;
              mask = None;
            } ∷ []) (Border Wrap (name (codes "A") 190 ∷ [])))
            (ThenStmt (Prefixed 176 [] (Write true (Value (Named 184 (name (codes "A") 184)) ∷ [])))
            NoStmt))));
      })
      ∷ [];
  source = [];
}

is_shown : IsShownProgram example []
unfolding longest_chain
is_shown = record {
  values = λ text. IsInteger-truth false;
  entry = record {
    routine = _;
    named = refl;
    shown = (
      (tt, tt),
      (
        (
          tt,
          inr (inr (inr (
            tt,
            record {
              routine = _;
              named = refl;
              shown = (
                (tt, tt),
                (
                  (tt, inr (inr (inl (IsInteger-truth true)))),
                  ((tt, inr (inr (inl (tt, tt)))), tt),
                ),
              );
            },
          ))),
        ),
        (((tt, tt), inl tt), ((tt, inr (inr (inl (tt, tt)))), tt)),
      ),
    );
  };
}

-- region R = [1..2]; var A : [R] integer; n : integer;
-- procedure q(X : [R] integer; k : integer) : integer;
-- begin [R] X := X + k; return k + 1; end;
-- procedure t(); begin n := q(A, n); writeln(n); end;
abbrev asks : Program
asks = record {
  name = name (codes "t") 8;
  decls = Regions (record {
    name = name (codes "R") 20;
    body = Dims (ThenDim (Span (Number 25 (pos 1)) (Number 28 (pos 2))) NoDim);
    posts = NoPost;
  } ∷ [])
      ∷ Vars (record {
        names = name (codes "A") 37 ∷ [];
        shape = Bracketed (Rexpr [] (NamedRegion (name (codes "R") 42)) NoPost);
        base = Integer;
      }
      ∷ record { names = name (codes "n") 54 ∷ []; shape = NoBracket; base = Integer }
      ∷ [])
      ∷ Defined (record {
        name = name (codes "q") 80;
        params = record {
          by_ref = false;
          names = name (codes "X") 82 ∷ [];
          shape = Bracketed (Rexpr [] (NamedRegion (name (codes "R") 87)) NoPost);
          base = Integer;
        }
            ∷ record {
              by_ref = false;
              names = name (codes "k") 99 ∷ [];
              shape = NoBracket;
              base = Integer;
            }
            ∷ [];
        result = Some Integer;
        locals = [];
        body = Prefixed 120 [] (Block
            (ThenStmt (Prefixed 130
            (record {
              at = 126;
              region = Rexpr [] (NamedRegion (name (codes "R") 127)) NoPost;
              mask = None;
            } ∷ [])
            (Assign (name (codes "X") 130) None
            (Pair 137 op.Add (Named 135 (name (codes "X") 135)) (Named 139 (name (codes "k") 139)))))
            (ThenStmt (Prefixed 142 [] (Return
            (Pair 151 op.Add (Named 149 (name (codes "k") 149)) (Number 153 (pos 1))))) NoStmt)));
      })
      ∷ Defined (record {
        name = name (codes "t") 175;
        params = [];
        result = None;
        locals = [];
        body = Prefixed 180 [] (Block
            (ThenStmt (Prefixed 186 [] (Assign (name (codes "n") 186) None (Call 191
            (name (codes "q") 191)
            (ThenExpr (Named 193 (name (codes "A") 193))
            (ThenExpr (Named 196 (name (codes "n") 196)) NoExpr)))))
            (ThenStmt (Prefixed 200 [] (Write true (Value (Named 208 (name (codes "n") 208)) ∷ [])))
            NoStmt)));
      })
      ∷ [];
  source = [];
}

asks_is_shown : IsShownProgram asks []
unfolding longest_chain
asks_is_shown = record {
  values = λ text. IsInteger-truth false;
  entry = record {
    routine = _;
    named = refl;
    shown = (
      tt,
      (
        (
          tt,
          inr (inr (inr (
            (tt, tt),
            record {
              routine = _;
              named = refl;
              shown = (
                tt,
                (((tt, tt), inr (inr (inl (tt, tt)))), (tt, (tt, IsInteger-truth true))),
              );
            },
          ))),
        ),
        ((tt, inr (inr (inl (tt, tt)))), tt),
      ),
    );
  };
}

-- region R = [1..2]; var A : [R] integer; n : integer;
-- procedure t(); [R] begin
--   while A < 1 do A += 1; end; n := +<< A; A := A * (+<< (A * n)); writeln(n, A, max<< A);
-- end;
abbrev folds : Program
folds = record {
  name = name (codes "t") 8;
  decls = Regions (record {
    name = name (codes "R") 20;
    body = Dims (ThenDim (Span (Number 25 (pos 1)) (Number 28 (pos 2))) NoDim);
    posts = NoPost;
  } ∷ [])
      ∷ Vars (record {
        names = name (codes "A") 37 ∷ [];
        shape = Bracketed (Rexpr [] (NamedRegion (name (codes "R") 42)) NoPost);
        base = Integer;
      }
      ∷ record { names = name (codes "n") 54 ∷ []; shape = NoBracket; base = Integer }
      ∷ [])
      ∷ Defined (record {
        name = name (codes "t") 80;
        params = [];
        result = None;
        locals = [];
        body = Prefixed 85
            (record {
              at = 85;
              region = Rexpr [] (NamedRegion (name (codes "R") 86)) NoPost;
              mask = None;
            } ∷ [])
            (Block
            (ThenStmt (Prefixed 97 []
            (While (Pair 105 op.Lt (Named 103 (name (codes "A") 103)) (Number 107 (pos 1)))
            (ThenStmt (Prefixed 112 []
            (Assign (name (codes "A") 112) (Some op.Add) (Number 117 (pos 1)))) NoStmt)))
            (ThenStmt (Prefixed 125 [] (Assign (name (codes "n") 125) None
            (Reduce 130 fold.Sum NoBracket (Named 134 (name (codes "A") 134)))))
            (ThenStmt (Prefixed 137 [] (Assign (name (codes "A") 137) None
            (Pair 144 op.Mul (Named 142 (name (codes "A") 142))
            (Paren 146 (Reduce 147 fold.Sum NoBracket (Paren 151
            (Pair 154 op.Mul (Named 152 (name (codes "A") 152))
            (Named 156 (name (codes "n") 156)))))))))
            (ThenStmt (Prefixed 161 [] (Write true
            (Value (Named 169 (name (codes "n") 169))
            ∷ Value (Named 172 (name (codes "A") 172))
            ∷ Value (Reduce 175 fold.Max NoBracket (Named 181 (name (codes "A") 181)))
            ∷ []))) NoStmt)))));
      })
      ∷ [];
  source = [];
}

folds_is_shown : IsShownProgram folds []
unfolding longest_chain
folds_is_shown = record {
  values = λ text. IsInteger-truth false;
  entry = record {
    routine = _;
    named = refl;
    shown = (
      (tt, tt),
      (
        (
          tt,
          inl (inr (inl (
            refl,
            ((tt, IsInteger-truth true), (tt, (IsInteger-truth true, tt))),
          ))),
        ),
        (
          (tt, inr (inr (inl tt))),
          (
            (tt, inr (inr (inl (tt, (tt, tt))))),
            ((tt, inr (inr (inl (tt, (tt, (tt, tt)))))), tt),
          ),
        ),
      ),
    );
  };
}

-- region R = [1..2]; var A, B : [R] integer;
-- procedure t(); [R] begin
--   while (max<< abs(A - B)) > 1 do A += 1; end; if (+<< A) > 1 then B := A; end;
-- end;
abbrev tests : Program
tests = record {
  name = name (codes "t") 8;
  decls = Regions (record {
    name = name (codes "R") 20;
    body = Dims (ThenDim (Span (Number 25 (pos 1)) (Number 28 (pos 2))) NoDim);
    posts = NoPost;
  } ∷ [])
      ∷ Vars (record {
        names = name (codes "A") 37 ∷ name (codes "B") 40 ∷ [];
        shape = Bracketed (Rexpr [] (NamedRegion (name (codes "R") 45)) NoPost);
        base = Integer;
      } ∷ [])
      ∷ Defined (record {
        name = name (codes "t") 80;
        params = [];
        result = None;
        locals = [];
        body = Prefixed 85
            (record {
              at = 85;
              region = Rexpr [] (NamedRegion (name (codes "R") 86)) NoPost;
              mask = None;
            } ∷ [])
            (Block
            (ThenStmt (Prefixed 97 []
            (While (Pair 122 op.Gt (Paren 103 (Reduce 104 fold.Max NoBracket (Abs 110
            (Pair 116 op.Sub (Named 114 (name (codes "A") 114)) (Named 118 (name (codes "B") 118))))))
            (Number 124 (pos 1)))
            (ThenStmt (Prefixed 129 []
            (Assign (name (codes "A") 129) (Some op.Add) (Number 134 (pos 1)))) NoStmt)))
            (ThenStmt (Prefixed 142 []
            (If (ThenArm (Tested 142
            (Pair 153 op.Gt (Paren 145 (Reduce 146 fold.Sum NoBracket (Named 150
            (name (codes "A") 150)))) (Number 155 (pos 1)))
            (ThenStmt (Prefixed 162 []
            (Assign (name (codes "B") 162) None (Named 167 (name (codes "A") 167)))) NoStmt)) NoArm)
            NoElse)) NoStmt)));
      })
      ∷ [];
  source = [];
}

tests_is_shown : IsShownProgram tests []
unfolding longest_chain
tests_is_shown = record {
  values = λ text. IsInteger-truth false;
  entry = record {
    routine = _;
    named = refl;
    shown = (
      (tt, tt),
      (
        (
          tt,
          inr (
            refl,
            (
              ((tt, tt), IsInteger-truth true),
              ((tt, inr (inr (inl (IsInteger-truth true)))), tt),
            ),
          ),
        ),
        (
          (
            tt,
            inr (
              refl,
              (
                (
                  ((tt, IsInteger-truth true), ((tt, inr (inr (inl tt))), tt)),
                  tt,
                ),
                tt,
              ),
            ),
          ),
          tt,
        ),
      ),
    );
  };
}

-- region R = [1..2]; var A : [R] integer; m, n : integer;
-- procedure q(k : integer) : integer; begin [R] return k + +<< A; end;
-- procedure t(); [R] begin for n := 1 to +<< A do m := q(max<< A); end; end;
abbrev answers : Program
answers = record {
  name = name (codes "t") 8;
  decls = Regions (record {
    name = name (codes "R") 20;
    body = Dims (ThenDim (Span (Number 25 (pos 1)) (Number 28 (pos 2))) NoDim);
    posts = NoPost;
  } ∷ [])
      ∷ Vars (record {
        names = name (codes "A") 37 ∷ [];
        shape = Bracketed (Rexpr [] (NamedRegion (name (codes "R") 42)) NoPost);
        base = Integer;
      }
      ∷ record {
        names = name (codes "m") 54 ∷ name (codes "n") 57 ∷ [];
        shape = NoBracket;
        base = Integer;
      }
      ∷ [])
      ∷ Defined (record {
        name = name (codes "q") 80;
        params = record {
          by_ref = false;
          names = name (codes "k") 82 ∷ [];
          shape = NoBracket;
          base = Integer;
        } ∷ [];
        result = Some Integer;
        locals = [];
        body = Prefixed 105 [] (Block
            (ThenStmt (Prefixed 111
            (record {
              at = 111;
              region = Rexpr [] (NamedRegion (name (codes "R") 112)) NoPost;
              mask = None;
            } ∷ [])
            (Return (Pair 124 op.Add (Named 122 (name (codes "k") 122))
            (Reduce 126 fold.Sum NoBracket (Named 130 (name (codes "A") 130)))))) NoStmt));
      })
      ∷ Defined (record {
        name = name (codes "t") 150;
        params = [];
        result = None;
        locals = [];
        body = Prefixed 155
            (record {
              at = 155;
              region = Rexpr [] (NamedRegion (name (codes "R") 156)) NoPost;
              mask = None;
            } ∷ [])
            (Block
            (ThenStmt (Prefixed 165 [] (For (record {
              name = name (codes "n") 169;
              first = Number 174 (pos 1);
              down = false;
              last = Reduce 179 fold.Sum NoBracket (Named 183 (name (codes "A") 183));
              step = None;
            })
            (ThenStmt (Prefixed 188 [] (Assign (name (codes "m") 188) None (Call 193
            (name (codes "q") 193)
            (ThenExpr (Reduce 195 fold.Max NoBracket (Named 201 (name (codes "A") 201)))
            NoExpr)))) NoStmt))) NoStmt));
      })
      ∷ [];
  source = [];
}

answers_is_shown : IsShownProgram answers []
unfolding longest_chain
answers_is_shown = record {
  values = λ text. IsInteger-truth false;
  entry = record {
    routine = _;
    named = refl;
    shown = (
      (tt, tt),
      (
        (
          tt,
          (
            (IsInteger-truth true, tt, IsInteger-truth true),
            (
              (
                tt,
                inr (inr (inr (
                  (tt, tt),
                  record { routine = _; named = refl; shown = (tt, ((tt, tt), (tt, tt))) },
                ))),
              ),
              tt,
            ),
          ),
        ),
        tt,
      ),
    );
  };
}

-- region R = [1..2, 1..2]; C = [1..2, 1]; var A, B : [R] integer; D : [C] integer;
-- procedure t(); [R] begin
--   B := A + >>[ , 1] A; [C] D := +<<[R] A; A := B#[Index2, Index1]; writeln(max||A);
-- end;
abbrev operators : Program
operators = record {
  name = name (codes "t") 8;
  decls = Regions (record {
    name = name (codes "R") 20;
    body = Dims
        (ThenDim (Span (Number 25 (pos 1)) (Number 28 (pos 2)))
        (ThenDim (Span (Number 31 (pos 1)) (Number 34 (pos 2))) NoDim));
    posts = NoPost;
  }
      ∷ record {
        name = name (codes "C") 38;
        body = Dims
            (ThenDim (Span (Number 43 (pos 1)) (Number 46 (pos 2)))
            (ThenDim (One (Number 49 (pos 1))) NoDim));
        posts = NoPost;
      }
      ∷ [])
      ∷ Vars (record {
        names = name (codes "A") 57 ∷ name (codes "B") 60 ∷ [];
        shape = Bracketed (Rexpr [] (NamedRegion (name (codes "R") 65)) NoPost);
        base = Integer;
      }
      ∷ record {
        names = name (codes "D") 77 ∷ [];
        shape = Bracketed (Rexpr [] (NamedRegion (name (codes "C") 82)) NoPost);
        base = Integer;
      }
      ∷ [])
      ∷ Defined (record {
        name = name (codes "t") 104;
        params = [];
        result = None;
        locals = [];
        body = Prefixed 109
            (record {
              at = 109;
              region = Rexpr [] (NamedRegion (name (codes "R") 110)) NoPost;
              mask = None;
            } ∷ [])
            (Block
            (ThenStmt (Prefixed 121 [] (Assign (name (codes "B") 121) None
            (Pair 128 op.Add (Named 126 (name (codes "A") 126))
            (Flood 130 (Dims (ThenDim (Blank 133) (ThenDim (One (Number 135 (pos 1))) NoDim)))
            (Named 138 (name (codes "A") 138))))))
            (ThenStmt (Prefixed 145
            (record {
              at = 141;
              region = Rexpr [] (NamedRegion (name (codes "C") 142)) NoPost;
              mask = None;
            } ∷ [])
            (Assign (name (codes "D") 145) None (Reduce 150 fold.Sum
            (Bracketed (Rexpr [] (NamedRegion (name (codes "R") 154)) NoPost))
            (Named 157 (name (codes "A") 157)))))
            (ThenStmt (Prefixed 160 [] (Assign (name (codes "A") 160) None
            (Remap 165 (name (codes "B") 165)
            (ThenExpr (Coord 168 2) (ThenExpr (Coord 176 1) NoExpr)))))
            (ThenStmt (Prefixed 185 [] (Write true
            (Value (Scan 193 fold.Max None (Named 198 (name (codes "A") 198))) ∷ []))) NoStmt)))));
      })
      ∷ [];
  source = [];
}

operators_is_shown : IsShownProgram operators []
unfolding longest_chain
operators_is_shown = record {
  values = λ text. IsInteger-truth false;
  entry = record {
    routine = _;
    named = refl;
    shown = (
      (tt, tt),
      (
        (tt, inr (inr (inl (tt, ((tt, (IsInteger-truth true, tt)), tt))))),
        (
          ((tt, tt), inr (inr (inl (tt, tt)))),
          (
            (tt, inr (inr (inl (tt, (tt, tt))))),
            (
              (tt, inr (inr (inl (tt, tt)))),
              tt,
            ),
          ),
        ),
      ),
    );
  };
}

-- region R = [1..2, 1..2]; var A, B : [R] integer;
-- procedure t(); [R] begin B := A@^[0, 1]; end;
abbrev wraps : Program
wraps = record {
  name = name (codes "t") 8;
  decls = Regions (record {
    name = name (codes "R") 18;
    body = Dims
        (ThenDim (Span (Number 23 (pos 1)) (Number 26 (pos 2)))
        (ThenDim (Span (Number 29 (pos 1)) (Number 32 (pos 2))) NoDim));
    posts = NoPost;
  } ∷ [])
      ∷ Vars (record {
        names = name (codes "A") 40 ∷ name (codes "B") 43 ∷ [];
        shape = Bracketed (Rexpr [] (NamedRegion (name (codes "R") 48)) NoPost);
        base = Integer;
      } ∷ [])
      ∷ Defined (record {
        name = name (codes "t") 70;
        params = [];
        result = None;
        locals = [];
        body = Prefixed 75
            (record {
              at = 75;
              region = Rexpr [] (NamedRegion (name (codes "R") 76)) NoPost;
              mask = None;
            } ∷ [])
            (Block
            (ThenStmt (Prefixed 85 [] (Assign (name (codes "B") 85) None
            (Around 91 (name (codes "A") 90)
            (Vector (ThenExpr (Number 94 (pos 0)) (ThenExpr (Number 97 (pos 1)) NoExpr))))))
            NoStmt));
      })
      ∷ [];
  source = [];
}

wraps_is_shown : IsShownProgram wraps []
unfolding longest_chain
wraps_is_shown = record {
  values = λ text. IsInteger-truth false;
  entry = record {
    routine = _;
    named = refl;
    shown = ((tt, tt), ((tt, inr (inr (inl tt))), tt));
  };
}
