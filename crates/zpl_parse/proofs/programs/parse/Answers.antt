use Rattle.std.proofs.Common.{◌≡◌, suc, length, arith}
use Rattle.zpl_tree.specs.View.{syntax_of}
use Rattle.zpl_grammar.specs.Texts.{IsShallowTree}
use Rattle.zpl_parse.specs.declared.faults.ParseFault.TheVariants.{Syntax, TooDeep}
use Rattle.zpl_parse.proofs.OneTree.{placed_once}
use Rattle.zpl_parse.proofs.Answering.{tree_wants_memory, passed_reads, passed_fault, placed_if, placed_reads, placed_fault}
use Rattle.zpl_parse.proofs.programs.parse.Goals as goal

-- ---- what was read
pub returns-clause-tree : goal.returns-clause-tree
returns-clause-tree c =
    let text = c.args.bytes.now in
    let tokens = c.args.tokens.now in
    let most = suc (length tokens) in
    let tree = c.rules_tell_trees_and_faults.ensures.tree text tokens most (syntax_of c.in_ok-program.program) _ c.requires (c.in_ok-program.ensures {u = tt} most (omega arith)) in
    placed_if c.placed_program.result c.in_ok-program.program (λ program. IsShallowTree text tokens (syntax_of program)) c.placed_program.ensures tree

pub returns-clause-exact : goal.returns-clause-exact
returns-clause-exact c = λ tree is.
    let text = c.args.bytes.now in
    let tokens = c.args.tokens.now in
    let most = suc (length tokens) in
    let read = c.rules_tell_trees_and_faults.ensures.tree text tokens most (syntax_of c.in_ok-program.program) _ c.requires (c.in_ok-program.ensures {u = tt} most (omega arith)) in
    placed_reads c.placed_program.result c.in_ok-program.program (λ program. syntax_of program ≡ tree) c.placed_program.ensures
    (placed_once text tokens (syntax_of c.in_ok-program.program) tree read.tree is.tree)

pub returns-clause-syntax : goal.returns-clause-syntax
returns-clause-syntax c = λ at same. absurd (placed_fault c.placed_program.result c.in_ok-program.program (Syntax at) c.placed_program.ensures same)

pub returns-clause-too_deep : goal.returns-clause-too_deep
returns-clause-too_deep c = λ same. absurd (placed_fault c.placed_program.result c.in_ok-program.program TooDeep c.placed_program.ensures same)

-- ---- what was not
pub returns-in_err-program-clause-exact : goal.returns-in_err-program-clause-exact
returns-in_err-program-clause-exact c = λ tree is.
    let text = c.args.bytes.now in
    let tokens = c.args.tokens.now in
    let told = c.rules_tell_trees_and_faults.ensures in
    passed_reads _ _ _ c.from_residual.ensures.1
    (tree_wants_memory text tokens c.in_err-program.field-0.0 tree (λ at. told.syntax text tokens at c.requires) (told.too_deep text tokens c.requires) (c.in_err-program.ensures {u = tt}) is)

pub returns-in_err-program-clause-syntax : goal.returns-in_err-program-clause-syntax
returns-in_err-program-clause-syntax c = λ at same.
    let text = c.args.bytes.now in
    let tokens = c.args.tokens.now in
    c.rules_tell_trees_and_faults.ensures.syntax text tokens at c.requires
    (passed_fault text tokens c.in_err-program.field-0.0 (Syntax at) _ c.from_residual.ensures.1 same (c.in_err-program.ensures {u = tt}))

pub returns-in_err-program-clause-too_deep : goal.returns-in_err-program-clause-too_deep
returns-in_err-program-clause-too_deep c = λ same.
    let text = c.args.bytes.now in
    let tokens = c.args.tokens.now in
    c.rules_tell_trees_and_faults.ensures.too_deep text tokens c.requires
    (passed_fault text tokens c.in_err-program.field-0.0 TooDeep _ c.from_residual.ensures.1 same (c.in_err-program.ensures {u = tt}))
