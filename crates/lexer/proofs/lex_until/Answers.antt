-- `lex_until` is right because the tokens still to come, stored from here on, give the records at the end: a turn stores
-- the first of them, for which a record is left, and takes the line after it.
use Prim.Native.Nat.{◌+◌}
use mathlib.Core.Path.{◌≡◌, ap, ◌∙◌}
use native.Mathlib.Omega.{arith}
use lib.ListN.{drop}
use Rattle.lexer_token.specs.Records.{token_of, record_of}
use Rattle.lexer.specs.Tokens.{found_at}
use Rattle.lexer.specs.declared.Found.{Found}
use Rattle.lexer.proofs.TokenLaws.{token_fits_at, token_long_at}
use Rattle.lexer.proofs.FoundLaws.{found_few, found_record}
use Rattle.lexer.proofs.UntilLaws.{turned_by, has_room, arrived}
use Rattle.lexer.proofs.lex_until.Goals as goal

pub bounds-records-n : goal.bounds-records-n
bounds-records-n g c =
    let is = c.args in
    omega (arith, has_room is.doc.now is.stop is.start is.first is.records.now c.loop-at.invariant (omega arith) (omega arith) c.requires.3)

pub overflow_add-line : goal.overflow_add-line
overflow_add-line g c = omega (arith, found_few c.args.doc.now _ c.token-found.ensures, c.loop-at.invariant.low)

pub loop-at-smaller : goal.loop-at-smaller
loop-at-smaller g c =
    let doc = c.args.doc.now in
    let at = c.loop-at.at in
    let end = ap (λ (f : Found). f.end) c.token-found.ensures in
    omega (arith, end, token_long_at doc at (omega arith), token_fits_at doc at (omega arith))

pub loop-at-preserved : goal.loop-at-preserved
loop-at-preserved g c =
    let is = c.args in
    let now = c.loop-at in
    let here : c.token-found.result ≡ found_at now.at (drop now.at is.doc.now) = c.token-found.ensures in
    let end = ap (λ (f : Found). f.end) here in
    let on = ap (λ (f : Found). now.line + f.feeds) here in
    let made : c.token_of.result ≡ token_of c.token-found.result.kind now.at c.token-found.result.end now.line = c.token_of.ensures in
    let record_is = c.as_record.ensures ∙ ap record_of made ∙ found_record now.at now.line (drop now.at is.doc.now) here in
    turned_by is.doc.now is.stop is.start is.first is.records.now now.invariant (omega arith) (omega arith) end on record_is

pub returns : goal.returns
returns g c =
    let is = c.args in
    let all = arrived is.doc.now is.stop is.start is.first is.records.now c.loop-at.invariant (omega arith) in
    record { count = all.0; line = all.1.0; place = all.1.1.0; memory = all.1.1.1 }
