-- `lex_part` is right because it asks for the records first, and only then fills them.
use mathlib.Core.Path.{sym, ◌∙◌}
use lib.ListN.{length}
use Rattle.std.proofs.lemmas.Result.{err_from_is_err_and}
use Rattle.built_lexing.proofs.FillLaws.{part_astray, part_long, part_few, part_put, part_fits, straight_line}
use Rattle.built_lexing.proofs.lex_part.Goals as goal

pub returns-then-is_astray : goal.returns-then-is_astray
returns-then-is_astray c =
    part_astray c.args.lexing c.args.part.now c.args.records.now (sym c.is_astray.ensures ∙ c.if-is_astray.true)

pub returns-then-passes_limit : goal.returns-then-passes_limit
returns-then-passes_limit c =
    part_long c.args.lexing c.args.part.now c.args.records.now (sym c.is_astray.ensures ∙ c.if-is_astray.false) (sym c.passes_limit.ensures ∙ c.if-passes_limit.true)

pub room_for-requires : goal.room_for-requires
room_for-requires c = (
  part_fits c.args.lexing.at (length c.args.part.now) c.passes_limit.result c.passes_limit.ensures c.if-passes_limit.false,
  straight_line c.args.lexing c.is_astray.result c.is_astray.ensures c.if-is_astray.false,
)

pub returns-in_err-room_for : goal.returns-in_err-room_for
returns-in_err-room_for c =
    let p = err_from_is_err_and c.from_residual.result c.from_residual.ensures.1 in
    rw (p.1, p.2) (part_few c.args.lexing c.args.part.now c.args.records.now (sym c.is_astray.ensures ∙ c.if-is_astray.false) (sym c.passes_limit.ensures ∙ c.if-passes_limit.false) _ c.in_err-room_for.ensures)

pub fill-requires : goal.fill-requires
fill-requires c = (
  part_fits c.args.lexing.at (length c.args.part.now) c.passes_limit.result c.passes_limit.ensures c.if-passes_limit.false,
  straight_line c.args.lexing c.is_astray.result c.is_astray.ensures c.if-is_astray.false,
)

pub returns : goal.returns
returns c =
    part_put c.args.lexing c.args.part.now c.args.records.now (sym c.is_astray.ensures ∙ c.if-is_astray.false) (sym c.passes_limit.ensures ∙ c.if-passes_limit.false) _ _
    c.fill.ensures.count c.fill.ensures.next c.in_ok-room_for.ensures c.fill.ensures.memory
