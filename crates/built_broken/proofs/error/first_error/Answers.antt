-- `first_error` is right because a text's errors are those of its opening, its closing and its body, in this order, and what stands for
-- itself at the front of the body has none.
use mathlib.Core.Path.{sym, ap, ◌∙◌}
use native.Mathlib.Omega.{arith}
use Prim.Native.Nat.{◌+◌, ◌<◌, ◌^◌}
use lib.ListN.{take}
use Rattle.decoder_pieces.specs.declared.body.Body.{Body}
use Rattle.decoder_pieces.specs.Steps.{errors_left}
use Rattle.decoder_marks.proofs.OpenLaws.{opened_errors, opened_fits, opened_outside}
use Rattle.decoder_pieces.proofs.StepLaws.{past_fits, plain_fits, errors_after}
use Rattle.built_broken.proofs.ErrorLaws.{either_first, either_clean}
use Rattle.built_broken.proofs.error.first_error.Goals as goal

pub returns-in-Some : goal.returns-in-Some
returns-in-Some c =
    let a = c.args in
    let o = c.open_text-opened in
    let all = opened_errors a.e a.text.now o.result o.ensures in
    either_first _ o.result.opening o.result.closing (errors_left a.e a.text.now o.result.body) (sym c.or.ensures ∙ c.in-Some.is)
    ∙ ap (take 1) (sym all)

pub slice_bounds-plain_run-count : goal.slice_bounds-plain_run-count
slice_bounds-plain_run-count c = omega (arith, opened_fits c.args.e c.args.text.now c.open_text-opened.result c.open_text-opened.ensures)

pub slice_bounds-plain_run-start : goal.slice_bounds-plain_run-start
slice_bounds-plain_run-start c = omega (arith, opened_fits c.args.e c.args.text.now c.open_text-opened.result c.open_text-opened.ensures)

pub slice_bounds-plain_run-end : goal.slice_bounds-plain_run-end
slice_bounds-plain_run-end c = omega (arith, opened_fits c.args.e c.args.text.now c.open_text-opened.result c.open_text-opened.ensures)

pub error_from-requires : goal.error_from-requires
error_from-requires c =
    let o = c.open_text-opened in
    rw c.past.ensures (opened_fits c.args.e c.args.text.now o.result o.ensures).1

pub returns : goal.returns
returns c =
    let a = c.args in
    let o = c.open_text-opened in
    let b = o.result.body in
    let all = opened_errors a.e a.text.now o.result o.ensures in
    let marks = either_clean o.result.opening o.result.closing (errors_left a.e a.text.now b) (sym c.or.ensures ∙ c.in_default.is) in
    let fits = opened_fits a.e a.text.now o.result o.ensures in
    let outside = opened_outside a.e a.text.now o.result o.ensures in
    let within : b.at + c.plain_run-n.result < 2 ^ 64 = omega (arith, fits, plain_fits a.e a.text.now b outside fits.0 _ c.plain_run-n.ensures) in
    let behind = errors_after a.e a.text.now b outside fits.0 _ c.plain_run-n.ensures in
    c.error_from.ensures
    ∙ ap (λ (x : Body). take 1 (errors_left a.e a.text.now x)) (c.past.ensures ∙ past_fits b _ within) ∙ ap (take 1) (sym (all ∙ marks ∙ behind))
