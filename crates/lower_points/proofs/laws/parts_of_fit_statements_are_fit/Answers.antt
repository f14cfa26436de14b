use Rattle.lower_points.proofs.FormLemmas.{fit_block, fit_choice, fit_for, fit_repeat, fit_while}
use Rattle.lower_points.proofs.FitLemmas.{arm_body, arm_test, fit_first, fit_later, fit_rest}
use Rattle.lower_points.proofs.laws.parts_of_fit_statements_are_fit.Goals as goal

pub returns : goal.returns
returns c = record {
  block = fit_block;
  arms = λ one arms otherwise is fit. (fit_choice one arms otherwise is fit).0;
  otherwise = λ one arms otherwise is fit. (fit_choice one arms otherwise is fit).1;
  while_test = λ one test body is fit. (fit_while one test body is fit).0;
  while_body = λ one test body is fit. (fit_while one test body is fit).1;
  repeat_body = λ one body until test is fit. (fit_repeat one body until test is fit).0;
  repeat_test = λ one body until test is fit. (fit_repeat one body until test is fit).1;
  for_head = λ one head body is fit. (fit_for one head body is fit).0;
  for_body = λ one head body is fit. (fit_for one head body is fit).1;
  first = fit_first;
  rest = fit_rest;
  arm_test = arm_test;
  arm_body = arm_body;
  later = fit_later;
}
