-- `value`, `array`, `inline_table` and `keyval` are right together: each bracket leaves fewer tokens to what is called
-- inside it.
use Rattle.std.proofs.Common.{true, Some, None, drop, refl, sym, ap, subst, ◌∙◌, arith}
use Rattle.text_classes.specs.Runs.{stands}
use Rattle.text_classes.proofs.Conds.{both_left, both_right}
use Rattle.text_classes.proofs.FirstLaws.{stands_there}
use Rattle.built_values.proofs.KindLaws.{length_kinds}
use Rattle.built_values.specs.Answers.{kinds_of}
use Rattle.built_values.specs.Checkers.{is_string, is_scalar_part, past, Follows, Marked}
use Rattle.built_values.specs.declared.kinds.Run.{Run}
use Rattle.built_values.specs.declared.kinds.Run.TheVariants.{Lines}
use Rattle.built_values.specs.declared.check.After.{After}
use Rattle.built_values.proofs.CountLaws.{inside_after, even_key, even_spaced}
use Rattle.built_values.proofs.LoopLaws.{starts, exit_end, item_inside, exit_shut, exit_none, exit_closed, exit_neither, goes_on_lem}
use Rattle.built_values.proofs.ArrayLaws.{arrays, tables, not_shut}
use Rattle.built_values.proofs.PlaceLaws.{keyval_no_key, keyval_no_sep, keyval_found}
use Rattle.built_values.proofs.ValueLaws.{value_end, value_string, value_scalar, value_array, value_table, value_none}
use Rattle.built_values.proofs.check.+array_inline_table_keyval_value.Goals as goal

-- ---- `array`

pub array-loop-p-init : goal.array-loop-p-init
array-loop-p-init t c = starts (arrays c.args.v) (kinds_of c.args.records.now) c.args.at c.args.level c.requires.0 c.requires.1

pub array-overflow_add-p : goal.array-overflow_add-p
array-overflow_add-p t c = omega (arith, length_kinds c.args.records.now, c.requires.0.within)

pub array-overflow_add-result : goal.array-overflow_add-result
array-overflow_add-result t c =
    let there = stands_there 93 (kinds_of c.args.records.now) c.skip-a.result (sym c.is_at.ensures ∙ c.if-is_at.true) in
    omega (arith, there.0, length_kinds c.args.records.now)

pub array-returns-then-is_at : goal.array-returns-then-is_at
array-returns-then-is_at t c =
    let is = c.args in
    let skip = c.skip-a in
    exit_shut (arrays is.v) (kinds_of is.records.now) is.at is.level c.loop-p.p true c.loop-p.invariant
    skip.result skip.ensures.left skip.ensures.place.0 skip.ensures.place.1 refl (sym c.is_at.ensures ∙ c.if-is_at.true)

pub array-value-requires : goal.array-value-requires
array-value-requires t c =
    let is = c.args in
    let skip = c.skip-a in (
      omega (arith, c.decreases, c.loop-p.invariant.far, skip.ensures.place),
      item_inside (arrays is.v) (kinds_of is.records.now) is.at is.level c.loop-p.p true c.loop-p.invariant
          skip.result skip.ensures.left skip.ensures.place.0 skip.ensures.place.1,
    )

pub array-returns-in_err-b : goal.array-returns-in_err-b
array-returns-in_err-b t c =
    let is = c.args in
    let skip = c.skip-a in
    rw c.from_residual.ensures (exit_none (arrays is.v) (kinds_of is.records.now) is.at is.level c.loop-p.p true c.loop-p.invariant
    skip.result skip.ensures.left skip.ensures.place.0 skip.ensures.place.1
    (λ e. sym c.is_at.ensures ∙ c.if-is_at.false) c.in_err-b.ensures)

pub array-returns-in-Closed : goal.array-returns-in-Closed
array-returns-in-Closed t c =
    let is = c.args in
    let skip = c.skip-a in
    exit_closed (arrays is.v) (kinds_of is.records.now) is.at is.level c.loop-p.p true c.loop-p.invariant
    skip.result skip.ensures.left skip.ensures.place.0 skip.ensures.place.1
    (λ e. sym c.is_at.ensures ∙ c.if-is_at.false) _ c.in_ok-b.ensures _
    (subst (λ (x : After). Follows Lines 93 (kinds_of is.records.now) c.in_ok-b.b (Some x)) c.in-Closed.is c.in_ok-after.ensures)

pub array-loop-p-preserved : goal.array-loop-p-preserved
array-loop-p-preserved t c =
    let is = c.args in
    let skip = c.skip-a in
    goes_on_lem (arrays is.v) (kinds_of is.records.now) is.at is.level c.loop-p.p true c.loop-p.invariant
    skip.result skip.ensures.left skip.ensures.place.0 skip.ensures.place.1
    (λ e. sym c.is_at.ensures ∙ c.if-is_at.false) _ c.in_ok-b.ensures _
    (subst (λ (x : After). Follows Lines 93 (kinds_of is.records.now) c.in_ok-b.b (Some x)) c.in-Separated.is c.in_ok-after.ensures)

pub array-returns-in_err-after : goal.array-returns-in_err-after
array-returns-in_err-after t c =
    let is = c.args in
    let skip = c.skip-a in
    rw c.from_residual-in_err-after.ensures (exit_neither (arrays is.v) (kinds_of is.records.now) is.at is.level c.loop-p.p true c.loop-p.invariant
    skip.result skip.ensures.left skip.ensures.place.0 skip.ensures.place.1
    (λ e. sym c.is_at.ensures ∙ c.if-is_at.false) _ c.in_ok-b.ensures c.in_err-after.ensures)

pub array-returns : goal.array-returns
array-returns t c =
    let is = c.args in
    exit_end (arrays is.v) (kinds_of is.records.now) is.at is.level c.loop-p.p true c.loop-p.invariant (omega (arith, length_kinds c.args.records.now))

-- ---- `inline_table`

pub inline_table-loop-p-init : goal.inline_table-loop-p-init
inline_table-loop-p-init t c =
    starts (tables c.args.v) (kinds_of c.args.records.now) c.args.at c.args.level c.requires.0 c.requires.1

pub inline_table-overflow_add-p : goal.inline_table-overflow_add-p
inline_table-overflow_add-p t c = omega (arith, length_kinds c.args.records.now, c.requires.0.within)

pub inline_table-overflow_add-result : goal.inline_table-overflow_add-result
inline_table-overflow_add-result t c =
    let ks = kinds_of c.args.records.now in
    let test = sym c.is_shut.ensures ∙ c.if-is_shut.true in
    let there = stands_there 125 ks c.skip-a.result (both_right c.loop-p.shuts (stands 125 (drop c.skip-a.result ks)) test) in
    omega (arith, there.0, length_kinds c.args.records.now)

pub inline_table-returns-then-is_shut : goal.inline_table-returns-then-is_shut
inline_table-returns-then-is_shut t c =
    let is = c.args in
    let ks = kinds_of is.records.now in
    let skip = c.skip-a in
    let skipped = skip.ensures.left ∙ ap (λ (x : Run). past x (drop c.loop-p.p ks)) c.table_run-run.ensures in
    let test = sym c.is_shut.ensures ∙ c.if-is_shut.true in
    let here = stands 125 (drop skip.result ks) in
    exit_shut (tables is.v) ks is.at is.level c.loop-p.p c.loop-p.shuts c.loop-p.invariant
    skip.result skipped skip.ensures.place.0 skip.ensures.place.1
    (both_left c.loop-p.shuts here test) (both_right c.loop-p.shuts here test)

pub inline_table-keyval-requires : goal.inline_table-keyval-requires
inline_table-keyval-requires t c =
    let is = c.args in
    let ks = kinds_of is.records.now in
    let skip = c.skip-a in
    let skipped = skip.ensures.left ∙ ap (λ (x : Run). past x (drop c.loop-p.p ks)) c.table_run-run.ensures in (
      omega (arith, c.decreases, c.loop-p.invariant.far, skip.ensures.place),
      item_inside (tables is.v) ks is.at is.level c.loop-p.p c.loop-p.shuts c.loop-p.invariant
          skip.result skipped skip.ensures.place.0 skip.ensures.place.1,
    )

pub inline_table-returns-in_err-b : goal.inline_table-returns-in_err-b
inline_table-returns-in_err-b t c =
    let is = c.args in
    let ks = kinds_of is.records.now in
    let skip = c.skip-a in
    let skipped = skip.ensures.left ∙ ap (λ (x : Run). past x (drop c.loop-p.p ks)) c.table_run-run.ensures in
    let apart = not_shut c.loop-p.shuts ks skip.result (sym c.is_shut.ensures ∙ c.if-is_shut.false) in
    rw c.from_residual.ensures (exit_none (tables is.v) ks is.at is.level c.loop-p.p c.loop-p.shuts c.loop-p.invariant
    skip.result skipped skip.ensures.place.0 skip.ensures.place.1 apart c.in_err-b.ensures)

pub inline_table-returns-in-Closed : goal.inline_table-returns-in-Closed
inline_table-returns-in-Closed t c =
    let is = c.args in
    let ks = kinds_of is.records.now in
    let skip = c.skip-a in
    let run = c.table_run-run.ensures in
    let skipped = skip.ensures.left ∙ ap (λ (x : Run). past x (drop c.loop-p.p ks)) run in
    let apart = not_shut c.loop-p.shuts ks skip.result (sym c.is_shut.ensures ∙ c.if-is_shut.false) in
    exit_closed (tables is.v) ks is.at is.level c.loop-p.p c.loop-p.shuts c.loop-p.invariant
    skip.result skipped skip.ensures.place.0 skip.ensures.place.1 apart _ c.in_ok-b.ensures _
    (subst (λ (x : Run). Marked x 125 ks c.in_ok-b.b c.in-Closed.end) run
    (subst (λ (x : After). Follows c.table_run-run.result 125 ks c.in_ok-b.b (Some x)) c.in-Closed.is c.in_ok-after.ensures))

pub inline_table-returns-in_err-after : goal.inline_table-returns-in_err-after
inline_table-returns-in_err-after t c =
    let is = c.args in
    let ks = kinds_of is.records.now in
    let skip = c.skip-a in
    let run = c.table_run-run.ensures in
    let skipped = skip.ensures.left ∙ ap (λ (x : Run). past x (drop c.loop-p.p ks)) run in
    let apart = not_shut c.loop-p.shuts ks skip.result (sym c.is_shut.ensures ∙ c.if-is_shut.false) in
    rw c.from_residual-in_err-after.ensures (exit_neither (tables is.v) ks is.at is.level c.loop-p.p c.loop-p.shuts c.loop-p.invariant
    skip.result skipped skip.ensures.place.0 skip.ensures.place.1 apart _ c.in_ok-b.ensures
    (subst (λ (x : Run). Follows x 125 ks c.in_ok-b.b None) run c.in_err-after.ensures))

pub inline_table-loop-p-preserved : goal.inline_table-loop-p-preserved
inline_table-loop-p-preserved t c =
    let is = c.args in
    let ks = kinds_of is.records.now in
    let skip = c.skip-a in
    let run = c.table_run-run.ensures in
    let skipped = skip.ensures.left ∙ ap (λ (x : Run). past x (drop c.loop-p.p ks)) run in
    let apart = not_shut c.loop-p.shuts ks skip.result (sym c.is_shut.ensures ∙ c.if-is_shut.false) in
    rw c.last_comma-shuts.ensures
    (goes_on_lem (tables is.v) ks is.at is.level c.loop-p.p c.loop-p.shuts c.loop-p.invariant
    skip.result skipped skip.ensures.place.0 skip.ensures.place.1 apart _ c.in_ok-b.ensures _
    (subst (λ (x : Run). Marked x 44 ks c.in_ok-b.b c.in-Separated.next) run
    (subst (λ (x : After). Follows c.table_run-run.result 125 ks c.in_ok-b.b (Some x)) c.in-Separated.is c.in_ok-after.ensures)))

pub inline_table-returns : goal.inline_table-returns
inline_table-returns t c =
    let is = c.args in
    exit_end (tables is.v) (kinds_of is.records.now) is.at is.level c.loop-p.p c.loop-p.shuts c.loop-p.invariant (omega (arith, length_kinds c.args.records.now))

-- ---- `keyval`

pub keyval-returns-in_err-after_key : goal.keyval-returns-in_err-after_key
keyval-returns-in_err-after_key t c = rw c.from_residual.ensures
    (keyval_no_key c.args.v (kinds_of c.args.records.now) c.args.at c.in_err-after_key.ensures)

pub keyval-returns-in_err-after_sep : goal.keyval-returns-in_err-after_sep
keyval-returns-in_err-after_sep t c =
    rw c.from_residual-in_err-after_sep.ensures (keyval_no_sep c.args.v (kinds_of c.args.records.now) c.args.at _ c.in_ok-after_key.ensures c.in_err-after_sep.ensures)

pub keyval-value-requires : goal.keyval-value-requires
keyval-value-requires t c =
    let is = c.args in
    let ks = kinds_of is.records.now in
    let found = c.in_ok-after_key.ensures in
    let sep = c.in_ok-after_sep.ensures in
    let after_key = inside_after (λ t d. even_key d) ks is.at c.in_ok-after_key.after_key is.level c.requires found.takes found.within in
    let after_sep =
    inside_after (λ t d. even_spaced (refl, refl) d) ks c.in_ok-after_key.after_key c.in_ok-after_sep.after_sep is.level
    after_key sep.takes sep.within in
    (omega (arith, c.decreases, found.after, sep.after, sep.within), after_sep)

pub keyval-returns : goal.keyval-returns
keyval-returns t c =
    keyval_found c.args.v (kinds_of c.args.records.now) c.args.at _ c.in_ok-after_key.ensures _ c.in_ok-after_sep.ensures
    c.value.result c.value.ensures

-- ---- `value`

pub value-returns-then-records-at : goal.value-returns-then-records-at
value-returns-then-records-at t c = value_end c.args.v (kinds_of c.args.records.now) c.args.at (omega (arith, length_kinds c.args.records.now))

pub value-kind_at-kind-requires : goal.value-kind_at-kind-requires
value-kind_at-kind-requires t c = omega (arith, length_kinds c.args.records.now)

pub value-returns-then-is_string : goal.value-returns-then-is_string
value-returns-then-is_string t c =
    value_string c.args.v (kinds_of c.args.records.now) c.args.at (omega (arith, length_kinds c.args.records.now))
    (sym (ap is_string c.kind_at-kind.ensures) ∙ sym c.is_string.ensures ∙ c.if-is_string.true)

pub value-returns-then-is_scalar_part : goal.value-returns-then-is_scalar_part
value-returns-then-is_scalar_part t c =
    value_scalar c.args.v (kinds_of c.args.records.now) c.args.at (omega (arith, length_kinds c.args.records.now))
    (sym (ap is_scalar_part c.kind_at-kind.ensures) ∙ sym c.is_scalar_part.ensures ∙ c.if-is_scalar_part.true)
    _ c.skip.ensures.left c.skip.ensures.place.0 c.skip.ensures.place.1

pub value-returns-then-kind-eq-LEFT_SQUARE_BRACKET : goal.value-returns-then-kind-eq-LEFT_SQUARE_BRACKET
value-returns-then-kind-eq-LEFT_SQUARE_BRACKET t c =
    value_array c.args.v (kinds_of c.args.records.now) c.args.at (omega (arith, length_kinds c.args.records.now))
    (sym c.kind_at-kind.ensures ∙ c.if-kind-eq-LEFT_SQUARE_BRACKET.true) c.array.result c.array.ensures

pub value-returns-then-kind-eq-LEFT_CURLY_BRACKET : goal.value-returns-then-kind-eq-LEFT_CURLY_BRACKET
value-returns-then-kind-eq-LEFT_CURLY_BRACKET t c =
    value_table c.args.v (kinds_of c.args.records.now) c.args.at (omega (arith, length_kinds c.args.records.now))
    (sym c.kind_at-kind.ensures ∙ c.if-kind-eq-LEFT_CURLY_BRACKET.true) c.inline_table.result c.inline_table.ensures

pub value-returns : goal.value-returns
value-returns t c =
    let kind = c.kind_at-kind.ensures in
    value_none c.args.v (kinds_of c.args.records.now) c.args.at (omega (arith, length_kinds c.args.records.now))
    (sym (ap is_string kind) ∙ sym c.is_string.ensures ∙ c.if-is_string.false)
    (sym (ap is_scalar_part kind) ∙ sym c.is_scalar_part.ensures ∙ c.if-is_scalar_part.false)
    (λ e. c.if-kind-eq-LEFT_SQUARE_BRACKET.false (kind ∙ e)) (λ e. c.if-kind-eq-LEFT_CURLY_BRACKET.false (kind ∙ e))
