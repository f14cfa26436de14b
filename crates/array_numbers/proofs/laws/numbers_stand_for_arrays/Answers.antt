use Rattle.std.proofs.Common.{◌≡◌, refl, sym, ◌∙◌, subst, ◌+◌, ◌<◌, length}
use Rattle.std.specs.Prelude.{slice_get}
use Rattle.zpl_names.specs.Expansion.{array_named, expanded_arrays}
use Rattle.zpl_meaning.specs.Program.{first_frame, setup_of}
use Rattle.array_numbers.proofs.NumberLemmas.{Anything, any_decls, any_vars, globals_first, number_below, one_array, own_in_order, stands_there}
use Rattle.array_numbers.proofs.laws.numbers_stand_for_arrays.Goals as goal

pub returns : goal.returns
returns c = record {
  one = λ program known borders grammar clean instance framed arrays is name other number has also.
      one_array Anything (setup_of program known borders (first_frame program known borders)) grammar
      clean refl (any_decls known borders program.decls)
      (λ routine member. any_vars known borders routine.procedure.locals)
      instance framed arrays is name other has.place also.place has.home also.home has.stored
      also.stored has.thing also.thing has.has also.has (has.is ∙ sym also.is);
  below = λ program known borders grammar clean instance framed arrays is name number has.
      subst (λ n. n < arrays) has.is
      (number_below Anything (setup_of program known borders (first_frame program known borders))
      grammar clean refl (any_decls known borders program.decls)
      (λ routine member. any_vars known borders routine.procedure.locals) instance framed arrays is name has.place has.home has.stored has.thing has.has);
  own = λ program known borders grammar clean instance framed arrays is name number has i below at.
      own_in_order Anything (setup_of program known borders (first_frame program known borders))
      grammar clean refl (any_decls known borders program.decls)
      (λ routine member. any_vars known borders routine.procedure.locals) instance framed arrays is
      name has.place has.home has.stored has.thing has.has i below
      (subst (λ n. n + length instance.own ≡ arrays + i) (sym has.is) at);
  placed = λ program known borders grammar clean instance framed arrays is own name number has.
      subst (λ n. array_named program instance name ≡ slice_get (expanded_arrays program) n) has.is
      (stands_there Anything (setup_of program known borders (first_frame program known borders))
      grammar clean refl (any_decls known borders program.decls)
      (λ routine member. any_vars known borders routine.procedure.locals) (expanded_arrays program)
      (globals_first program) instance framed arrays is own name has.place has.home has.stored
      has.thing has.has);
}
