-- `lex_tokens` is right because each turn stores the next token, and as many turns are made as records are written.
use Prim.Native.Nat.{ℕ}
use mathlib.Core.Path.{◌≡◌, sym, ap, ◌∙◌}
use mathlib.Core.List.{List}
use native.Mathlib.Omega.{arith}
use lib.ListN.{length, set}
use Rattle.lexer_token.specs.declared.Token.{Token}
use Rattle.std.specs.Prelude.{Result}
use Rattle.text_refusals.specs.declared.Refusal.{Refusal}
use Rattle.lexer.specs.Whole.{lex_answer}
use Rattle.lexer_structs.specs.Turns.{writes_of, next_of, cursor_after, stored}
use Rattle.lexer_structs.specs.declared.Turn.{Turn}
use Rattle.lexer_structs.proofs.TurnLaws.{written, writes_fit, first_cursor, next_cursor_lem, stored_none, stored_next, stored_all}
use Rattle.lexer_structs.proofs.lex_tokens.Goals as goal

-- as many turns are made as records are written
turns : (doc : List ℕ) (old : List Token) (a : Result ℕ Refusal) (n : ℕ) → a ≡ lex_answer doc (length old) → n ≡ writes_of a
    → n ≡ written doc old
turns doc old a n e f = f ∙ ap writes_of e

pub loop-i-init : goal.loop-i-init
loop-i-init c =
    record {
      cursor = c.first-cursor.ensures ∙ first_cursor c.args.doc.now;
      stores = sym (stored_none c.args.doc.now c.args.records.now);
    }

pub offset_bounds-records-i : goal.offset_bounds-records-i
offset_bounds-records-i c =
    let doc = c.args.doc.now in
    let old = c.args.records.now in
    omega (arith, turns doc old _ _ c.plan-answer.ensures c.unwrap_or-written.ensures, writes_fit doc old)

pub bounds-records-i : goal.bounds-records-i
bounds-records-i c =
    let doc = c.args.doc.now in
    let old = c.args.records.now in
    omega (arith, turns doc old _ _ c.plan-answer.ensures c.unwrap_or-written.ensures, writes_fit doc old, c.loop-i.auto.records)

pub loop-i-preserved : goal.loop-i-preserved
loop-i-preserved c =
    let doc = c.args.doc.now in
    let old = c.args.records.now in
    let now = c.loop-i in
    let all = turns doc old _ _ c.plan-answer.ensures c.unwrap_or-written.ensures in
    let turn : c.advance-turn.result ≡ next_of doc (cursor_after doc now.i) =
    c.advance-turn.ensures ∙ ap (next_of doc) now.invariant.cursor in
    record {
      cursor = ap (λ (t : Turn). t.cursor) turn ∙ next_cursor_lem doc now.i;
      stores =
          ap (λ (ts : List Token). set ts now.i c.advance-turn.result.token) now.invariant.stores
          ∙ ap (λ (t : Turn). set (stored doc old now.i) now.i t.token) turn
          ∙ stored_next doc old now.i (omega (arith, all));
    }

pub returns : goal.returns
returns c =
    let doc = c.args.doc.now in
    let old = c.args.records.now in
    let now = c.loop-i in
    let all = turns doc old _ _ c.plan-answer.ensures c.unwrap_or-written.ensures in
    let last : now.i ≡ written doc old = omega (arith, all, now.auto.i-end) in
    record { answer = c.plan-answer.ensures; memory = now.invariant.stores ∙ ap (stored doc old) last ∙ stored_all doc old }
