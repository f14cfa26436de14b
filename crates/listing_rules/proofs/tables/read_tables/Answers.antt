use Rattle.std.proofs.Common.{◌≡◌, ℕ, ◌+◌, ◌-◌, List, [], length, drop, subst, refl}
use Rattle.node_form.specs.declared.instructions.Instr.{Instr}
use Rattle.listing_rows.specs.of_listing_lines.declared.lines.Line.{Line}
use Rattle.listing_rules.specs.declared.parts.Part.TheVariants as part
use Rattle.listing_rules.specs.Reads.{NoFirst, Reads, Stops}
use Rattle.listing_rules.specs.Rules.{belongs, IsCodeLine, IsInstrLine}
use Rattle.listing_rules.specs.Stages.{Breaks, AtCode, AtInstruction}
use Rattle.listing_rules.proofs.ReadsLemmas.{fault_passed}
use Rattle.listing_rules.proofs.TablesLemmas.{left_count, read_all}
use Rattle.listing_rules.proofs.tables.read_tables.Goals as goal

pub returns-in_err-take_code-clause-err : goal.returns-in_err-take_code-clause-err
returns-in_err-take_code-clause-err c =
    let lines = c.args.lines.now in
    fault_passed (NoFirst IsCodeLine (drop c.in_ok-known.at lines)) (Breaks lines) lines _ _ c.from_residual-in_err-take_code.ensures.1 c.in_err-take_code.ensures.err
    (λ left none. AtCode c.in_ok-known.known.tables (drop c.in_ok-known.at lines) left c.in_ok-known.ensures.ok none)

pub returns-in_err-code-clause-err : goal.returns-in_err-code-clause-err
returns-in_err-code-clause-err c =
    let lines = c.args.lines.now in
    let t = c.in_ok-known.known.tables in
    let instructions = drop (c.in_ok-known.at + 1) lines in
    let count : length lines - c.in_ok-known.at - 1 ≡ length instructions = left_count lines c.in_ok-known.at _ c.in_ok-take_code.ensures.inside refl in
    fault_passed (Stops (belongs part.Instructions) (λ (done : List Instr). IsInstrLine t (length lines - c.in_ok-known.at - 1)) [] instructions) (Breaks lines) lines _ _ c.from_residual-in_err-code.ensures.1 c.in_err-code.ensures.err
    (λ left stops. AtInstruction t (drop c.in_ok-known.at lines) instructions left c.in_ok-known.ensures.ok c.in_ok-take_code.ensures.ok
    (subst (λ (n : ℕ). Stops (belongs part.Instructions) (λ (done : List Instr). IsInstrLine t n) [] instructions left) count stops))

pub returns-clause-ok : goal.returns-clause-ok
returns-clause-ok c =
    let lines = c.args.lines.now in
    let t = c.in_ok-known.known.tables in
    let instructions = drop (c.in_ok-known.at + 1) lines in
    let count : length lines - c.in_ok-known.at - 1 ≡ length instructions = left_count lines c.in_ok-known.at _ c.in_ok-take_code.ensures.inside refl in
    let all = read_all c.in_ok-code.ensures.ok in
    let rest = subst (λ (rest : List Line). Reads (belongs part.Instructions) (λ (done : List Instr). IsInstrLine t (length lines - c.in_ok-known.at - 1)) [] instructions c.in_ok-code.code rest) all c.in_ok-code.ensures.ok in
    record {
      before = t;
      behind = drop c.in_ok-known.at lines;
      exchanges = c.in_ok-known.ensures.ok;
      instructions = instructions;
      code = c.in_ok-take_code.ensures.ok;
      rows = c.in_ok-code.code;
      reads = subst (λ (n : ℕ). Reads (belongs part.Instructions) (λ (done : List Instr). IsInstrLine t n) [] instructions c.in_ok-code.code []) count rest;
      made = refl;
    }
