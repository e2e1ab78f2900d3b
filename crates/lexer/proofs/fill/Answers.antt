-- `fill` is right because the tokens that begin before the end of the document are stored first, and Eof after them.
use mathlib.Core.Path.{refl, ap, ◌∙◌}
use native.Mathlib.Omega.{arith}
use Rattle.lexer_token.specs.Records.{record_of}
use Rattle.lexer.proofs.TokenLaws.{start_fits}
use Rattle.lexer.proofs.WholeLaws.{AllPassed, counted, filled, filled_length}
use Rattle.lexer.proofs.fill.Goals as goal

pub lex_until-all-requires : goal.lex_until-all-requires
lex_until-all-requires g c =
    let doc = c.args.doc.now in
    let all = counted doc c.start_of.result _ c.start_of.ensures refl in
    (omega (arith, start_fits doc), omega arith, omega arith, omega (arith, all))

pub offset_bounds-records-n : goal.offset_bounds-records-n
offset_bounds-records-n g c =
    let all = counted c.args.doc.now _ _ c.start_of.ensures c.lex_until-all.ensures.count in
    omega (arith, all)

pub bounds-records-n : goal.bounds-records-n
bounds-records-n g c =
    let is = c.lex_until-all.ensures in
    let passed : AllPassed c.args.doc.now c.start_of.result c.lex_until-all.result c.args.records.now c.lex_until-all.new.records =
    record { by = c.start_of.ensures; count = is.count; behind = is.line; stores = is.memory } in
    omega (arith, counted c.args.doc.now _ _ passed.by passed.count, filled_length passed)

pub overflow_add-result : goal.overflow_add-result
overflow_add-result g c =
    let all = counted c.args.doc.now _ _ c.start_of.ensures c.lex_until-all.ensures.count in
    omega (arith, all)

pub returns : goal.returns
returns g c =
    let is = c.lex_until-all.ensures in
    let passed : AllPassed c.args.doc.now c.start_of.result c.lex_until-all.result c.args.records.now c.lex_until-all.new.records =
    record { by = c.start_of.ensures; count = is.count; behind = is.line; stores = is.memory } in
    let eof = c.as_record.ensures ∙ ap record_of c.token_of.ensures in
    record {
      count = counted c.args.doc.now _ _ passed.by passed.count;
      memory = filled passed c.as_record.result eof c.requires;
    }
