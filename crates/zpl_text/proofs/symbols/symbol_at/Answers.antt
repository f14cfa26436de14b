use Rattle.zpl_text.proofs.Marks.{marked, double_cut, single_cut, no_symbol}
use Rattle.zpl_text.proofs.symbols.symbol_at.Goals as goal

pub returns-in_err-symbol-clause-cut : goal.returns-in_err-symbol-clause-cut
returns-in_err-symbol-clause-cut c =
    let bytes = c.args.bytes.now in
    let mark = marked bytes c.requires.some c.requires.no_word c.requires.no_quote in
    rw c.from_residual.ensures
    (no_symbol bytes mark c.requires.some c.in_default.ensures
    (c.in_err-symbol.ensures {u = tt}))

pub returns-in-Some-clause-cut : goal.returns-in-Some-clause-cut
returns-in-Some-clause-cut c = λ ditto.
    let bytes = c.args.bytes.now in
    let mark = marked bytes c.requires.some c.requires.no_word c.requires.no_quote in
    double_cut ditto bytes c.in-Some.symbol mark c.in-Some.ensures

pub returns-clause-cut : goal.returns-clause-cut
returns-clause-cut c = λ ditto.
    let bytes = c.args.bytes.now in
    let mark = marked bytes c.requires.some c.requires.no_word c.requires.no_quote in
    single_cut ditto bytes c.in_ok-symbol.symbol mark c.requires.some c.in_default.ensures
    c.in_ok-symbol.ensures
