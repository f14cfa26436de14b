use Rattle.std.proofs.Common.{◌≡◌, arith, length, ap}
use Rattle.node_form.specs.declared.tables.Tables.{Tables}
use Rattle.grid_meaning.specs.State.{IsStore}
use Rattle.grid_save.specs.Written.{store_line}
use Rattle.grid_save.proofs.StoreLemmas.{zip_long}
use Rattle.grid_save.proofs.WriteLemmas.{element_more, elements_end, writes_none}
use Rattle.grid_save.proofs.states.add_stores.Goals as goal

pub loop-array-init : goal.loop-array-init
loop-array-init c = writes_none c.args.text.now.items

pub loop-array-preserved : goal.loop-array-preserved
loop-array-preserved c =
    element_more store_line c.args.local.now.local.stores c.args.text.now.items c.loop-array.text.items c.add_store.new.text.items
    c.loop-array.array c.loop-array.invariant c.in_ok-add_store.ensures

pub returns : goal.returns
returns c =
    let code = c.args.code.now in
    let stores = c.args.local.now.local.stores in
    let many : length code.arrays ≡ length stores = zip_long (IsStore code c.args.p) code.arrays stores c.requires.ready.state.parts.stores in
    let same = ap (λ (tables : Tables). length tables.arrays) c.tables.ensures.same in
    elements_end store_line stores c.args.text.now.items c.loop-array.text.items c.loop-array.array
    (omega (arith, many, same, c.len-count.ensures, c.loop-array-test.false)) c.loop-array.invariant
