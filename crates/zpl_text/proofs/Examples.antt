-- A few rows of the rules, worked by hand.
use Rattle.std.proofs.Common.{◌≡◌, ℕ, true, false, List, [], ◌∷◌, ◌++◌, codes, pos, refl, arith}
use Rattle.std.proofs.Common.{inl}
use Rattle.zpl_tokens.specs.declared.Kind.TheVariants.{Number, Str, Ditto, Symbol, Word, End}
use Rattle.zpl_tokens.specs.declared.keywords.Key.TheVariants.{Of}
use Rattle.zpl_tokens.specs.declared.symbols.Sym.TheVariants.{OpenBracket, Or}
use Rattle.zpl_text.specs.declared.faults.LexFault.TheVariants.{FloatText}
use Rattle.zpl_text.specs.Kinds.{IsToken, nothing, plain, escape}
use Rattle.zpl_text.specs.Gaps.{IsPastGap, Skips, white, line}
use Rattle.zpl_text.specs.Gaps as gaps
use Rattle.zpl_text.specs.Cutting.{opens_ditto, float_text}
use Rattle.zpl_text.specs.Tokens.{Takes, token, start, IsTokens, HasFault}
use Rattle.zpl_text.specs.Tokens as cutting
use Rattle.std.proofs.lemmas.Bool.{both_ways}
use Rattle.zpl_text.specs.Bytes.{is_white}
use Rattle.zpl_text.proofs.Cuts.{heads, numeral_cut}
use Rattle.zpl_text.proofs.Marks.{single_cut, single_from_pairs}
use Rattle.zpl_text.proofs.Written.{symbol_absent}
use Rattle.zpl_text.proofs.Quoted.{ditto_cut}

-- whole tokens
zeros_count : IsToken (codes "007") (Number (pos 7))
zeros_count = (refl, refl)

keyword : IsToken (codes "of") (Word Of)
keyword = refl

-- "a\"b", in which an escape is a quote
escaped : IsToken (34 ∷ 97 ∷ 92 ∷ 34 ∷ 98 ∷ 34 ∷ []) Str
escaped = (
  97 ∷ 92 ∷ 34 ∷ 98 ∷ [],
  plain (λ same. omega (arith, same)) (λ same. omega (arith, same))
      (λ same. omega (arith, same))
      (escape refl (plain (λ same. omega (arith, same)) (λ same. omega (arith, same))
      (λ same. omega (arith, same)) nothing)),
  refl,
)

-- where a quote is a ditto
behind_bracket : opens_ditto (Symbol OpenBracket) ≡ true
behind_bracket = refl

behind_bar : opens_ditto (Symbol Or) ≡ false
behind_bar = refl

-- a comment may end with the text
to_the_end : Skips (codes " -- x") []
to_the_end = white refl
    (line (record {
      body = codes " x";
      split = refl;
      on_line =
          ((λ same. omega (arith, same)), ((λ same. omega (arith, same)), tt));
      ends_line = tt;
    })
    gaps.nothing)

-- no gap begins with a digit, a quote or a dot
past : (b : ℕ) (rest : List ℕ) → is_white b ≡ false → (b ≡ 45 → ⊥) → (b ≡ 47 → ⊥)
    → IsPastGap (b ∷ rest)
past b rest black no_dash no_slash = record {
  no_white = λ first. both_ways (is_white b) black first;
  no_line = λ starts. no_dash (heads starts.1);
  no_block = λ starts. no_slash (heads starts.1);
}

-- `1.` is a float
float : HasFault (codes "1.") [] (FloatText 0)
float = record {
  last = start (codes "1.");
  cuts = cutting.nothing;
  fault_at = record {
    begin = codes "1.";
    skips = gaps.nothing;
    wrong = float_text (numeral_cut false (codes "1.") refl) (inl (refl, λ is. is));
  };
}

-- `["` is a bracket, a ditto and the end
ditto : IsTokens (codes "[" ++ 34 ∷ [])
    (record { kind = Symbol OpenBracket; from = 0; to = 1 } ∷ record {
      kind = Ditto;
      from = 1;
      to =
          2;
    } ∷ record { kind = End; from = 2; to = 2 } ∷ [])
ditto = record {
  found = record { kind = Symbol OpenBracket; from = 0; to = 1 } ∷ record {
    kind = Ditto;
    from =
        1;
    to = 2;
  } ∷ [];
  last = record { rest = []; ditto = false };
  cuts = token {next = record { rest = 34 ∷ []; ditto = true }} bracket
      (token {next = record { rest = []; ditto = false }} quote_mark cutting.nothing);
  only_gap = gaps.nothing;
  all = refl;
}
  where
    bracket : Takes (codes "[" ++ 34 ∷ []) (start (codes "[" ++ 34 ∷ []))
        (record { kind = Symbol OpenBracket; from = 0; to = 1 })
        (record { rest = 34 ∷ []; ditto = true })
    bracket = record {
      begin = codes "[" ++ 34 ∷ [];
      skips = gaps.nothing;
      past_gap = past 91 (34 ∷ []) refl (λ same. omega (arith, same)) (λ same. omega (arith, same));
      cut = single_cut false (codes "[" ++ 34 ∷ []) OpenBracket refl (omega arith)
          (single_from_pairs (91 ∷ 34 ∷ []) (symbol_absent (91 ∷ 34 ∷ []) refl)) refl;
      sound = tt;
      from = refl;
      to = refl;
      ditto = refl;
    }

    quote_mark : Takes (codes "[" ++ 34 ∷ []) (record { rest = 34 ∷ []; ditto = true })
        (record { kind = Ditto; from = 1; to = 2 }) (record { rest = []; ditto = false })
    quote_mark = record {
      begin = 34 ∷ [];
      skips = gaps.nothing;
      past_gap = past 34 [] refl (λ same. omega (arith, same)) (λ same. omega (arith, same));
      cut = ditto_cut (34 ∷ []) (omega arith) refl;
      sound = tt;
      from = refl;
      to = refl;
      ditto = refl;
    }
