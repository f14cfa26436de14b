-- The expanded program.
use Rattle.std.proofs.Common.{◌≡◌, true, false, [], ◌∷◌, Some, None, pos, codes, refl}
use Rattle.zpl_tree.specs.of_zpl_nums.declared.operators.Op.TheVariants as op
use Rattle.zpl_tree.specs.of_zpl_nums.declared.folds.Fold.TheVariants as fold
use Rattle.zpl_tree.specs.Syntax.{Number, Named, Shifted, Around, Pair, Reduce, NoExpr, ThenExpr, NamedDir, NamedRegion, Rexpr, Dims, NoBracket, Bracketed, NoPost, Span, NoDim, ThenDim, Prefixed, NoStmt, ThenStmt, Assign, Invoke, Block, If, While, Repeat, Tested, NoArm, ThenArm, NoElse, Integer, Boolean, Regions, Directions, Vars, Defined, Program}
use Rattle.zpl_names.specs.Expansion.{expanded_statements, expanded_nodes, expanded_tokens, called_names, expanded_arrays, expanded_shifts, expanded_copies, plain_tokens, source_size, other_size, shattered_loops}
use Rattle.zpl_tree.specs.of_zpl_nums.declared.ends.Border.TheVariants as edge
use Rattle.zpl_tree.specs.Syntax.{Border, One, Paren, Vector}
use Rattle.zpl_names.specs.Counts.{stmt_count, stmt_nodes}
use Rattle.zpl_names.specs.Reached.{longest_chain}
use Rattle.zpl_names.proofs.Trees.{name}

-- program t; region R = [1..4]; direction e = [1];
-- var A, B : [R] integer; x : integer;
-- procedure u(var a : [R] integer; b : [R] integer); var l : [R] integer;
-- [R] begin a := b@e; l := a@^e; b := a@e; end;
-- procedure v(var a : [R] integer; var c : [R] integer);
-- [R] begin a := c@e; end;
-- procedure t();
-- [R] begin u(A, B); A := B@e + 1; v(A, B); v(A, A); [R] A := 1; A := A@e; begin x := +<<A; end; end;
abbrev pub calls : Program
calls = record {
  name = (name (codes "t") 8);
  decls = ((Regions ((record {
    name = (name (codes "R")
        18);
    body = (Dims (ThenDim (Span (Number 23 (pos 1)) (Number 26 (pos 4))) NoDim));
    posts =
        NoPost;
  }) ∷ [])) ∷ (Directions ((record {
    name = (name (codes "e") 40);
    parts = (ThenExpr
        (Number 45 (pos 1)) NoExpr);
  }) ∷ [])) ∷ (Vars ((record {
    names = ((name (codes "A") 53) ∷ (name
        (codes "B") 56) ∷ []);
    shape = (Bracketed (Rexpr [] (NamedRegion (name (codes "R") 61))
        NoPost));
    base = Integer;
  }) ∷ (record {
    names = ((name (codes "x") 73) ∷ []);
    shape = NoBracket;
    base = Integer;
  }) ∷ [])) ∷ (Defined (record {
    name = (name (codes "u") 96);
    params = ((record {
      by_ref = true;
      names = ((name (codes "a") 102) ∷ []);
      shape = (Bracketed (Rexpr [] (NamedRegion
          (name (codes "R") 107)) NoPost));
      base = Integer;
    }) ∷ (record {
      by_ref = false;
      names = ((name
          (codes "b") 119) ∷ []);
      shape = (Bracketed (Rexpr [] (NamedRegion (name (codes "R") 124))
          NoPost));
      base = Integer;
    }) ∷ []);
    result = None;
    locals = ((record {
      names = ((name (codes "l")
          141) ∷ []);
      shape = (Bracketed (Rexpr [] (NamedRegion (name (codes "R") 146)) NoPost));
      base =
          Integer;
    }) ∷ []);
    body = (Prefixed 162 ((record {
      at = 158;
      region = (Rexpr [] (NamedRegion
          (name (codes "R") 159)) NoPost);
      mask = None;
    }) ∷ []) (Block (ThenStmt (Prefixed 168 [] (Assign
        (name (codes "a") 168) None (Shifted 173 (name (codes "b") 173) (NamedDir (name (codes "e")
        175))))) (ThenStmt (Prefixed 178 [] (Assign (name (codes "l") 178) None (Around 183 (name (codes
        "a") 183) (NamedDir (name (codes "e") 186))))) (ThenStmt (Prefixed 189 [] (Assign (name (codes
        "b") 189) None (Shifted 194 (name (codes "a") 194) (NamedDir (name (codes "e") 196)))))
        NoStmt)))));
  })) ∷ (Defined (record {
    name = (name (codes "v") 214);
    params = ((record {
      by_ref =
          true;
      names = ((name (codes "a") 220) ∷ []);
      shape = (Bracketed (Rexpr [] (NamedRegion (name
          (codes "R") 225)) NoPost));
      base = Integer;
    }) ∷ (record {
      by_ref = true;
      names = ((name (codes
          "c") 241) ∷ []);
      shape = (Bracketed (Rexpr [] (NamedRegion (name (codes "R") 246)) NoPost));
      base = Integer;
    }) ∷ []);
    result = None;
    locals = [];
    body = (Prefixed 263 ((record {
      at = 259;
      region = (Rexpr [] (NamedRegion (name (codes "R") 260)) NoPost);
      mask = None;
    }) ∷ []) (Block
        (ThenStmt (Prefixed 269 [] (Assign (name (codes "a") 269) None (Shifted 274 (name (codes "c")
        274) (NamedDir (name (codes "e") 276))))) NoStmt)));
  })) ∷ (Defined (record {
    name = (name (codes
        "t") 294);
    params = [];
    result = None;
    locals = [];
    body = (Prefixed 303 ((record {
      at = 299;
      region = (Rexpr [] (NamedRegion (name (codes "R") 300)) NoPost);
      mask = None;
    }) ∷ []) (Block
        (ThenStmt (Prefixed 309 [] (Invoke (name (codes "u") 309) (ThenExpr (Named 311 (name (codes "A")
        311)) (ThenExpr (Named 314 (name (codes "B") 314)) NoExpr)))) (ThenStmt (Prefixed 318 [] (Assign
        (name (codes "A") 318) None (Pair 323 op.Add (Shifted 323 (name (codes "B") 323) (NamedDir (name
        (codes "e") 325))) (Number 329 (pos 1))))) (ThenStmt (Prefixed 332 [] (Invoke (name (codes "v")
        332) (ThenExpr (Named 334 (name (codes "A") 334)) (ThenExpr (Named 337 (name (codes "B") 337))
        NoExpr)))) (ThenStmt (Prefixed 341 [] (Invoke (name (codes "v") 341) (ThenExpr (Named 343 (name
        (codes "A") 343)) (ThenExpr (Named 346 (name (codes "A") 346)) NoExpr)))) (ThenStmt (Prefixed
        354 ((record {
          at = 350;
          region = (Rexpr [] (NamedRegion (name (codes "R") 351)) NoPost);
          mask =
              None;
        }) ∷ []) (Assign (name (codes "A") 354) None (Number 359 (pos 1)))) (ThenStmt (Prefixed 362
        [] (Assign (name (codes "A") 362) None (Shifted 367 (name (codes "A") 367) (NamedDir (name
        (codes "e") 369))))) (ThenStmt (Prefixed 372 [] (Block (ThenStmt (Prefixed 378 [] (Assign (name
        (codes "x") 378) None (Reduce 383 fold.Sum NoBracket (Named 386 (name (codes "A") 386)))))
        NoStmt))) NoStmt)))))))));
  })) ∷ []);
  source = [];
}

-- 8 of t, 3 of u and 2 of v: the outermost blocks do not count
statements_of_calls : expanded_statements calls ≡ 13
unfolding longest_chain
statements_of_calls = refl

nodes_of_calls : expanded_nodes calls ≡ 18
unfolding longest_chain
nodes_of_calls = refl

tokens_of_calls : expanded_tokens calls ≡ 106
unfolding longest_chain
tokens_of_calls = refl

-- a, b and l of u, and a and c of v twice
names_of_calls : called_names calls ≡ 7
unfolding longest_chain
names_of_calls = refl

-- A and B; the copy of B that b is, and l
arrays_of_calls : expanded_arrays calls ≡ record { path = []; variable = 53; storage = 53 } ∷ record
    { path = []; variable = 56; storage = 56 } ∷ record {
      path = (309 ∷ []);
      variable = 119;
      storage
          = 56;
    } ∷ record { path = (309 ∷ []); variable = 141; storage = 141 } ∷ []
unfolding longest_chain
arrays_of_calls = refl

-- of B and A in t, of b and a in u, and of c in v: B and A
shifts_of_calls : expanded_shifts calls ≡ record {
  array = record {
    path = [];
    variable = 56;
    storage = 56;
  };
  shift = NamedDir (name (codes "e") 325);
} ∷ record {
  array = record {
    path = [];
    variable = 53;
    storage = 53;
  };
  shift = NamedDir (name (codes "e") 369);
} ∷ record {
  array =
      record { path = (309 ∷ []); variable = 119; storage = 56 };
  shift = NamedDir (name (codes "e")
      175);
} ∷ record {
  array = record { path = []; variable = 53; storage = 53 };
  shift = NamedDir
      (name (codes "e") 196);
} ∷ record {
  array = record { path = []; variable = 56; storage = 56 };
  shift = NamedDir (name (codes "e") 276);
} ∷ record {
  array = record {
    path = [];
    variable = 53;
    storage = 53;
  };
  shift = NamedDir (name (codes "e") 276);
} ∷ []
unfolding longest_chain
shifts_of_calls = refl

copies_of_calls : expanded_copies calls ≡ record {
  array = record {
    path = [];
    variable = 53;
    storage = 53;
  };
  shift = NamedDir (name (codes "e") 186);
} ∷ []
unfolding longest_chain
copies_of_calls = refl

-- of t the second statement, the first and the third of u, and that of v where a and c are two arrays
plain_of_calls : plain_tokens calls ≡ 8 ∷ 6 ∷ 6 ∷ 6 ∷ []
unfolding longest_chain
plain_of_calls = refl

-- 106 tokens and 7 names; the tree is over an empty text
size_of_calls : source_size calls ≡ 113
unfolding longest_chain
size_of_calls = refl

-- 66 tokens stand in no statement; of 113 tokens and names 26 stand in plain assignments
other_size_of_calls : other_size calls 160 ≡ 153
unfolding longest_chain
other_size_of_calls = refl

-- program t; region R = [1..4];
-- var A, B : [R] integer; x : integer; p : boolean;
-- procedure t();
-- [R] begin
--   while p do repeat x := 1; until p; end;
--   while A < 3 do repeat A := 1; until A > 2; if A > B then while B < 2 do B += 1; end; end; end;
--   if A > 2 then repeat A := 1; until A > 2; end;
-- end;
abbrev loops : Program
loops = record {
  name = (name (codes "t") 8);
  decls = ((Regions ((record {
    name = (name (codes "R")
        18);
    body = (Dims (ThenDim (Span (Number 23 (pos 1)) (Number 26 (pos 4))) NoDim));
    posts =
        NoPost;
  }) ∷ [])) ∷ (Vars ((record {
    names = ((name (codes "A") 34) ∷ (name (codes "B") 37) ∷
        []);
    shape = (Bracketed (Rexpr [] (NamedRegion (name (codes "R") 42)) NoPost));
    base = Integer;
  }) ∷ (record { names = ((name (codes "x") 54) ∷ []); shape = NoBracket; base = Integer }) ∷
      (record { names = ((name (codes "p") 67) ∷ []); shape = NoBracket; base = Boolean }) ∷ [])) ∷
      (Defined (record {
        name = (name (codes "t") 90);
        params = [];
        result = None;
        locals = [];
        body =
            (Prefixed 99 ((record {
              at = 95;
              region = (Rexpr [] (NamedRegion (name (codes "R") 96)) NoPost);
              mask = None;
            }) ∷ []) (Block (ThenStmt (Prefixed 107 [] (While (Named 113 (name (codes "p") 113))
            (ThenStmt (Prefixed 118 [] (Repeat (ThenStmt (Prefixed 125 [] (Assign (name (codes "x") 125)
            None (Number 130 (pos 1)))) NoStmt) 133 (Named 139 (name (codes "p") 139)))) NoStmt))) (ThenStmt
            (Prefixed 149 [] (While (Pair 155 op.Lt (Named 155 (name (codes "A") 155)) (Number 159 (pos 3)))
            (ThenStmt (Prefixed 164 [] (Repeat (ThenStmt (Prefixed 171 [] (Assign (name (codes "A") 171)
            None (Number 176 (pos 1)))) NoStmt) 179 (Pair 185 op.Gt (Named 185 (name (codes "A") 185))
            (Number 189 (pos 2))))) (ThenStmt (Prefixed 192 [] (If (ThenArm (Tested 192 (Pair 195 op.Gt
            (Named 195 (name (codes "A") 195)) (Named 199 (name (codes "B") 199))) (ThenStmt (Prefixed 206
            [] (While (Pair 212 op.Lt (Named 212 (name (codes "B") 212)) (Number 216 (pos 2))) (ThenStmt
            (Prefixed 221 [] (Assign (name (codes "B") 221) (Some op.Add) (Number 226 (pos 1)))) NoStmt)))
            NoStmt)) NoArm) NoElse)) NoStmt)))) (ThenStmt (Prefixed 246 [] (If (ThenArm (Tested 246 (Pair
            249 op.Gt (Named 249 (name (codes "A") 249)) (Number 253 (pos 2))) (ThenStmt (Prefixed 260 []
            (Repeat (ThenStmt (Prefixed 267 [] (Assign (name (codes "A") 267) None (Number 272 (pos 1))))
            NoStmt) 275 (Pair 281 op.Gt (Named 281 (name (codes "A") 281)) (Number 285 (pos 2))))) NoStmt))
            NoArm) NoElse)) NoStmt)))));
      })) ∷ []);
  source = [];
}

-- the first statement is not shattered
most_loops : shattered_loops loops ≡ 3
unfolding longest_chain
most_loops = refl

-- ---- statements and nodes
-- wrap A, B; is one statement
one_statement :
    stmt_count (Prefixed 0 [] (Border edge.Wrap (name (codes "A") 5 ∷ name (codes "B") 8 ∷ [])))
    ≡ 1
one_statement = refl

-- [1..n, 2] A := (A@[1, n]); has the three bounds of its prefix, the bracket, the read and two
-- components
counted_nodes :
    stmt_nodes (Prefixed 10 (record {
      at = 0;
      region = Dims (ThenDim (Span (Number 1 (pos 1)) (Named 4 (name (codes "n") 4)))
          (ThenDim (One (Number 7 (pos 2))) NoDim));
      mask = None;
    } ∷ []) (Assign (name (codes "A") 10) None (Paren 15 (Shifted 16 (name (codes "A") 16)
    (Vector (ThenExpr (Number 19 (pos 1)) (ThenExpr (Named 22 (name (codes "n") 22)) NoExpr)))))))
    ≡ 7
counted_nodes = refl
