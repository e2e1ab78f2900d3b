-- `lex_end` is right because the token in progress, if there is one, and `Eof` after it are stored one after the other.
use Prim.Native.Nat.{ℕ, ◌+◌}
use mathlib.Core.Path.{◌≡◌, sym, ap, ◌∙◌}
use mathlib.Core.List.{[], ◌∷◌, map}
use native.Mathlib.Omega.{arith}
use lib.ListN.{length}
use lib.Seq.{sets}
use Rattle.std.specs.Prelude.{Option}
use Rattle.lexer_token.specs.declared.Token.{Token}
use Rattle.lexer_token.specs.declared.Span.{Span}
use Rattle.lexer_token.specs.declared.TokenKind.TheVariants.{Eof}
use Rattle.lexer_token.specs.Records.{record_of, token_of}
use Rattle.built_bytes.specs.Turns.{pending_of}
use Rattle.built_lexing.specs.declared.states.Lexing.{Lexing}
use Rattle.built_lexing.specs.States.{tokens_in, pending_token}
use Rattle.built_lexing.proofs.CountLaws.{ending_two, ending_one, given_one}
use Rattle.built_lexing.proofs.FillLaws.{end_few, end_put}
use Rattle.built_lexing.proofs.lex_end.Goals as goal
use Rattle.built_lexing.proofs.lex_end.Goals.{then-is_some, else-is_some}

-- the count, by the token in progress of the rule
by_rule : (l : Lexing) (g : Option Token) (n : ℕ) → g ≡ pending_token (pending_of l.mode) l → n ≡ length (tokens_in g) + 1
    → n ≡ length (tokens_in (pending_token (pending_of l.mode) l)) + 1
by_rule l g n is e = e ∙ ap (λ (x : Option Token). length (tokens_in x) + 1) is

pub returns-then-records-needed : goal.returns-then-records-needed
returns-then-records-needed c =
    let l = c.args.lexing in
    let needed : c.if-is_some.needed ≡ length (tokens_in c.pending-token.result) + 1 =
    elim c.if-is_some.branch [
      | then-is_some w ↦ w.needed-is ∙ ending_two c.pending-token.result (sym c.is_some.ensures ∙ w.if-is_some.true)
      | else-is_some w ↦ w.needed-is ∙ ending_one c.pending-token.result (sym c.is_some.ensures ∙ w.if-is_some.false)
    ] in
    end_few l c.args.records.now c.if-is_some.needed (by_rule l c.pending-token.result _ c.pending-token.ensures needed) (omega arith)

pub put-count-requires : goal.put-count-requires
put-count-requires c = omega (arith, c.put-n.ensures.count, given_one c.pending-token.result)

pub returns : goal.returns
returns c =
    let l = c.args.lexing in
    let old = c.args.records.now in
    let then = c.put-n.new.records in
    let token = c.pending-token.ensures in
    let needed : c.if-is_some.needed ≡ length (tokens_in c.pending-token.result) + 1 =
    elim c.if-is_some.branch [
      | then-is_some w ↦ w.needed-is ∙ ending_two c.pending-token.result (sym c.is_some.ensures ∙ w.if-is_some.true)
      | else-is_some w ↦ w.needed-is ∙ ending_one c.pending-token.result (sym c.is_some.ensures ∙ w.if-is_some.false)
    ] in
    let told = by_rule l c.pending-token.result _ token needed in
    end_put l old (omega arith) c.put-n.result c.put-count.result then c.put-count.new.records
    (c.put-n.ensures.count ∙ omega (arith, needed, told)) (c.put-count.ensures.count)
    (c.put-n.ensures.memory ∙ ap (λ (x : Option Token). sets old 0 (map record_of (tokens_in x))) token)
    (c.put-count.ensures.memory
    ∙ ap (λ (t : Token). sets then c.put-n.result (map record_of (t ∷ []))) (c.new-eof.ensures ∙ ap (λ (p : Span). token_of Eof p.start p.end l.line) c.new.ensures))
