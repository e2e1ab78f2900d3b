-- `lex_by` is right because the check's refusals are its own, and so many records are lent as are written: where there are
-- more than bytes, because tokens number at most the bytes plus one.
use Prim.Native.Nat.{ℕ}
use Rattle.std.specs.Prelude.{Ok, Err}
use mathlib.Core.Path.{sym, ap, ◌∙◌}
use native.Mathlib.Omega.{arith}
use Rattle.text_refusals.specs.declared.Refusal.TheVariants.{FewTokens}
use Rattle.std.proofs.lemmas.Result.{err_from_is_err_and}
use Rattle.lexer.proofs.TokenLaws.{tokens_count}
use Rattle.lexer.proofs.WholeLaws.{lex_broken, lex_few, lex_answered}
use Rattle.lexer.proofs.NumberLaws.{lexed}
use Rattle.lexer.proofs.lex_by.Goals as goal

pub returns-in_err-check_utf8 : goal.returns-in_err-check_utf8
returns-in_err-check_utf8 g c =
    let up = err_from_is_err_and c.from_residual.result c.from_residual.ensures.1 in
    let is = lex_broken c.args.doc.now c.args.records.now _ (sym c.in_err-check_utf8.ensures.answer) in
    lexed c.args.doc.now c.args.records.now _ _ (rw (up.1, up.2) is.0) is.1

pub fill-requires : goal.fill-requires
fill-requires g c = omega (arith, tokens_count c.args.doc.now)

pub returns-then-doc-records : goal.returns-then-doc-records
returns-then-doc-records g c =
    let doc = c.args.doc.now in
    let old = c.args.records.now in
    let is = lex_answered doc old (sym c.in_ok-check_utf8.ensures.answer) (omega (arith, tokens_count doc)) in
    lexed doc old _ _ (ap Ok c.fill.ensures.count ∙ is.0) (c.fill.ensures.memory ∙ is.1)

pub returns-then-records-needed : goal.returns-then-records-needed
returns-then-records-needed g c =
    let doc = c.args.doc.now in
    let old = c.args.records.now in
    let is = lex_few doc old (sym c.in_ok-check_utf8.ensures.answer) (omega arith) in
    lexed doc old _ _ (ap (λ (n : ℕ). Err (FewTokens n)) c.count-needed.ensures ∙ is.0) is.1

pub returns : goal.returns
returns g c =
    let doc = c.args.doc.now in
    let old = c.args.records.now in
    let is = lex_answered doc old (sym c.in_ok-check_utf8.ensures.answer) (omega arith) in
    lexed doc old _ _ (ap Ok c.fill-2.ensures.count ∙ is.0) (c.fill-2.ensures.memory ∙ is.1)
