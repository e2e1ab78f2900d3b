-- Each promise of this crate admits one answer only. A theorem bears its function's name, with its type's name where
-- two functions share one, and is about the function's own contract: what a caller learns of its `ensures`.
-- Where a promise says an answer's number and value too, its first clause, an equation, already admits one answer.
-- Assumes nothing.
use Rattle.std.specs.Prelude.{ℕ, ◌≡◌, List, Result, Ok, Err, MatchResult}
use Rattle.std.proofs.Common.{sym, ◌∙◌, Bor}
use Rattle.std.specs.Result.{result_map_both}
use Rattle.text_refusals.specs.declared.Refusal.{Refusal}
use Rattle.text_classes.proofs.OneAnswer.{OneAnswer, OneOutcome}
use Rattle.lexer_token.proofs as promised

pub token_new : OneAnswer promised.Token.new.Reads.Learnt
token_new κs a x y s t p q = p ∙ sym q

pub as_record : OneAnswer promised.Token.as_record.Reads.Learnt
as_record κs a x y s t p q = p ∙ sym q

pub span_new : OneAnswer promised.Span.new.Reads.Learnt
span_new κs a x y s t p q = p ∙ sym q

pub number : OneAnswer promised.TokenKind.number.Reads.Learnt
number κs a x y s t p q = p ∙ sym q

pub try_from : OneAnswer promised.TokenKindTryFromUsize.try_from.Reads.Learnt
try_from κs a x y s t p q = p.answer ∙ sym q.answer

-- an answer with its words for the reference to them
abbrev words_of : Result (Bor (List ℕ)) Refusal → Result (List ℕ) Refusal
words_of r = result_map_both (λ text. text.now) (λ e. e) r

worded : (d : Result (List ℕ) Refusal) (r : Result (Bor (List ℕ)) Refusal) → MatchResult r (λ text. d ≡ Ok text.now) (λ e. d ≡ Err e)
    → words_of r ≡ d
worded d (Ok text) h = sym h
worded d (Err e) h = sym h

pub description : OneOutcome promised.TokenKind.description.Reads.Learnt (λ κs r s. words_of r)
description κs a x y s t p q = worded _ x p.0 ∙ sym (worded _ y q.0)

pub encoding : OneAnswer promised.TokenKind.encoding.Reads.Learnt
encoding κs a x y s t p q = p.0 ∙ sym q.0
