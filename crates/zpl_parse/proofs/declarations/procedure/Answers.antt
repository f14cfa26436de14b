use Rattle.std.proofs.Common.{◌<◌, length, arith}
use Rattle.zpl_parse.proofs.Follows.{passed, fault_then, fault_made}
use Rattle.zpl_parse.proofs.DeclarationSteps.{fault_next, done_next, done_made}
use Rattle.zpl_parse.proofs.declarations.procedure.Goals as goal

pub returns-in_err-name-clause-follows : goal.returns-in_err-name-clause-follows
returns-in_err-name-clause-follows c = λ few most enough within.
    let text = c.args.bytes.now in
    passed _ _ _ _ c.from_residual.ensures.1
    (fault_then _ _ _ (c.in_err-name.ensures {u = tt}).follows)

pub returns-in_err-rest-clause-follows : goal.returns-in_err-rest-clause-follows
returns-in_err-rest-clause-follows c = λ few most enough within.
    let text = c.args.bytes.now in
    passed _ _ _ _ c.from_residual-in_err-rest.ensures.1
    (fault_next _ _ _ _ _ c.in_ok-name.ensures.follows
    (fault_then _ _ _ ((c.in_err-rest.ensures {u = tt}).follows text)))

pub returns-in_err-params-clause-follows : goal.returns-in_err-params-clause-follows
returns-in_err-params-clause-follows c = λ few most enough within.
    let text = c.args.bytes.now in
    let less_inside : length c.in_ok-rest.rest.now < few = omega (arith, c.in_ok-name.ensures.shorter, c.in_ok-rest.ensures.shorter) in
    let much_inside : length c.in_ok-rest.rest.now < most = omega (arith, c.in_ok-name.ensures.shorter, c.in_ok-rest.ensures.shorter) in
    passed _ _ _ _ c.from_residual-in_err-params.ensures.1
    (fault_next _ _ _ _ _ c.in_ok-name.ensures.follows
    (fault_next _ _ _ _ _ (c.in_ok-rest.ensures.follows text)
    (fault_then _ _ _ ((c.in_err-params.ensures {u = tt}).follows few most less_inside much_inside))))

pub returns-in_err-result-clause-follows : goal.returns-in_err-result-clause-follows
returns-in_err-result-clause-follows c = λ few most enough within.
    let text = c.args.bytes.now in
    let less_inside : length c.in_ok-rest.rest.now < few = omega (arith, c.in_ok-name.ensures.shorter, c.in_ok-rest.ensures.shorter) in
    let much_inside : length c.in_ok-rest.rest.now < most = omega (arith, c.in_ok-name.ensures.shorter, c.in_ok-rest.ensures.shorter) in
    passed _ _ _ _ c.from_residual-in_err-result.ensures.1
    (fault_next _ _ _ _ _ c.in_ok-name.ensures.follows
    (fault_next _ _ _ _ _ (c.in_ok-rest.ensures.follows text)
    (fault_next _ _ _ _ _ (c.in_ok-params.ensures.follows few most less_inside much_inside)
    (fault_then _ _ _ (c.in_err-result.ensures {u = tt}).follows))))

pub returns-in_err-rest-2-clause-follows : goal.returns-in_err-rest-2-clause-follows
returns-in_err-rest-2-clause-follows c = λ few most enough within.
    let text = c.args.bytes.now in
    let less_inside : length c.in_ok-rest.rest.now < few = omega (arith, c.in_ok-name.ensures.shorter, c.in_ok-rest.ensures.shorter) in
    let much_inside : length c.in_ok-rest.rest.now < most = omega (arith, c.in_ok-name.ensures.shorter, c.in_ok-rest.ensures.shorter) in
    passed _ _ _ _ c.from_residual-in_err-rest-2.ensures.1
    (fault_next _ _ _ _ _ c.in_ok-name.ensures.follows
    (fault_next _ _ _ _ _ (c.in_ok-rest.ensures.follows text)
    (fault_next _ _ _ _ _ (c.in_ok-params.ensures.follows few most less_inside much_inside)
    (fault_next _ _ _ _ _ c.in_ok-result.ensures.follows
    (fault_then _ _ _ ((c.in_err-rest-2.ensures {u = tt}).follows text))))))

pub returns-in_err-locals-clause-follows : goal.returns-in_err-locals-clause-follows
returns-in_err-locals-clause-follows c = λ few most enough within.
    let text = c.args.bytes.now in
    let less_inside : length c.in_ok-rest.rest.now < few = omega (arith, c.in_ok-name.ensures.shorter, c.in_ok-rest.ensures.shorter) in
    let much_inside : length c.in_ok-rest.rest.now < most = omega (arith, c.in_ok-name.ensures.shorter, c.in_ok-rest.ensures.shorter) in
    let less_heading : length c.in_ok-rest-2.rest.now < few = omega (arith, c.in_ok-name.ensures.shorter, c.in_ok-rest.ensures.shorter, c.in_ok-params.ensures.shorter, c.in_ok-result.ensures.shorter, c.in_ok-rest-2.ensures.shorter) in
    let much_heading : length c.in_ok-rest-2.rest.now < most = omega (arith, c.in_ok-name.ensures.shorter, c.in_ok-rest.ensures.shorter, c.in_ok-params.ensures.shorter, c.in_ok-result.ensures.shorter, c.in_ok-rest-2.ensures.shorter) in
    passed _ _ _ _ c.from_residual-in_err-locals.ensures.1
    (fault_next _ _ _ _ _ c.in_ok-name.ensures.follows
    (fault_next _ _ _ _ _ (c.in_ok-rest.ensures.follows text)
    (fault_next _ _ _ _ _ (c.in_ok-params.ensures.follows few most less_inside much_inside)
    (fault_next _ _ _ _ _ c.in_ok-result.ensures.follows
    (fault_next _ _ _ _ _ (c.in_ok-rest-2.ensures.follows text)
    (fault_then _ _ _ ((c.in_err-locals.ensures {u = tt}).follows few most less_heading much_heading)))))))

pub returns-in_err-body-clause-follows : goal.returns-in_err-body-clause-follows
returns-in_err-body-clause-follows c = λ few most enough within.
    let text = c.args.bytes.now in
    let less_inside : length c.in_ok-rest.rest.now < few = omega (arith, c.in_ok-name.ensures.shorter, c.in_ok-rest.ensures.shorter) in
    let much_inside : length c.in_ok-rest.rest.now < most = omega (arith, c.in_ok-name.ensures.shorter, c.in_ok-rest.ensures.shorter) in
    let less_heading : length c.in_ok-rest-2.rest.now < few = omega (arith, c.in_ok-name.ensures.shorter, c.in_ok-rest.ensures.shorter, c.in_ok-params.ensures.shorter, c.in_ok-result.ensures.shorter, c.in_ok-rest-2.ensures.shorter) in
    let much_heading : length c.in_ok-rest-2.rest.now < most = omega (arith, c.in_ok-name.ensures.shorter, c.in_ok-rest.ensures.shorter, c.in_ok-params.ensures.shorter, c.in_ok-result.ensures.shorter, c.in_ok-rest-2.ensures.shorter) in
    let less_last : length c.in_ok-locals.rest.now < few = omega (arith, c.in_ok-name.ensures.shorter, c.in_ok-rest.ensures.shorter, c.in_ok-params.ensures.shorter, c.in_ok-result.ensures.shorter, c.in_ok-rest-2.ensures.shorter, c.in_ok-locals.ensures.shorter) in
    let much_last : length c.in_ok-locals.rest.now < most = omega (arith, c.in_ok-name.ensures.shorter, c.in_ok-rest.ensures.shorter, c.in_ok-params.ensures.shorter, c.in_ok-result.ensures.shorter, c.in_ok-rest-2.ensures.shorter, c.in_ok-locals.ensures.shorter) in
    passed _ _ _ _ c.from_residual-in_err-body.ensures.1
    (fault_next _ _ _ _ _ c.in_ok-name.ensures.follows
    (fault_next _ _ _ _ _ (c.in_ok-rest.ensures.follows text)
    (fault_next _ _ _ _ _ (c.in_ok-params.ensures.follows few most less_inside much_inside)
    (fault_next _ _ _ _ _ c.in_ok-result.ensures.follows
    (fault_next _ _ _ _ _ (c.in_ok-rest-2.ensures.follows text)
    (fault_next _ _ _ _ _ (c.in_ok-locals.ensures.follows few most less_heading much_heading)
    (fault_made _ _ _ ((c.in_err-body.ensures {u = tt}).follows few most less_last much_last))))))))

pub returns-clause-follows : goal.returns-clause-follows
returns-clause-follows c = λ few most enough within.
    let text = c.args.bytes.now in
    let less_inside : length c.in_ok-rest.rest.now < few = omega (arith, c.in_ok-name.ensures.shorter, c.in_ok-rest.ensures.shorter) in
    let much_inside : length c.in_ok-rest.rest.now < most = omega (arith, c.in_ok-name.ensures.shorter, c.in_ok-rest.ensures.shorter) in
    let less_heading : length c.in_ok-rest-2.rest.now < few = omega (arith, c.in_ok-name.ensures.shorter, c.in_ok-rest.ensures.shorter, c.in_ok-params.ensures.shorter, c.in_ok-result.ensures.shorter, c.in_ok-rest-2.ensures.shorter) in
    let much_heading : length c.in_ok-rest-2.rest.now < most = omega (arith, c.in_ok-name.ensures.shorter, c.in_ok-rest.ensures.shorter, c.in_ok-params.ensures.shorter, c.in_ok-result.ensures.shorter, c.in_ok-rest-2.ensures.shorter) in
    let less_last : length c.in_ok-locals.rest.now < few = omega (arith, c.in_ok-name.ensures.shorter, c.in_ok-rest.ensures.shorter, c.in_ok-params.ensures.shorter, c.in_ok-result.ensures.shorter, c.in_ok-rest-2.ensures.shorter, c.in_ok-locals.ensures.shorter) in
    let much_last : length c.in_ok-locals.rest.now < most = omega (arith, c.in_ok-name.ensures.shorter, c.in_ok-rest.ensures.shorter, c.in_ok-params.ensures.shorter, c.in_ok-result.ensures.shorter, c.in_ok-rest-2.ensures.shorter, c.in_ok-locals.ensures.shorter) in
    done_next _ _ _ _ _ c.in_ok-name.ensures.follows
    (done_next _ _ _ _ _ (c.in_ok-rest.ensures.follows text)
    (done_next _ _ _ _ _ (c.in_ok-params.ensures.follows few most less_inside much_inside)
    (done_next _ _ _ _ _ c.in_ok-result.ensures.follows
    (done_next _ _ _ _ _ (c.in_ok-rest-2.ensures.follows text)
    (done_next _ _ _ _ _ (c.in_ok-locals.ensures.follows few most less_heading much_heading)
    (done_made _ _ _ _ (c.in_ok-body.ensures.follows few most less_last much_last)))))))
