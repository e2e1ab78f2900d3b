-- The shortcuts of the engine that tests ranges are right: what the two laws of `Engine` ask of it.
-- Assumes nothing.
use Rattle.std.proofs.Common.{◌≡◌, ℕ, ◌<◌, Bool, true, false, ◌&&◌, ltb, ltb-true, Option, Some, None, IfSome, List, take, sym, refl, ap, ◌∙◌, ⊎_elim, arith}
use Rattle.text_classes.specs.Runs.{run}
use Rattle.text_classes.proofs.RunLaws.{run_le, run_first}
use Rattle.text_classes.proofs.Conds.{cond_case, both_left, both_right}
use Rattle.decoder_rules.specs.declared.Encoding.{Encoding}
use Rattle.decoder_rules.specs.Encodings.{plain}
use Rattle.decoder_rules.specs.Pieces.{copy_piece}
use Rattle.decoder_rules.specs.Bodies.{piece_of}
use Rattle.decoder_rules.proofs.PlainLaws.{plain_piece}
use Rattle.decoder_pieces.specs.declared.string.Escape.{Escape}
use Rattle.decoder_pieces.specs.GoodEscapes.{escape_at}
use Rattle.decoder_pieces.specs.Engines.{FewAt, EscapeAt, few_at}
use Rattle.decoder_scans.proofs.ScanLaws.{front_run}

-- a short run of plain bytes is the rule's piece
pub few_piece : (e : Encoding) (at : ℕ) (s : List ℕ) (n : ℕ) → n ≡ run (plain e) (take 8 s) → 0 < n → n < 8
    → piece_of e false at s ≡ copy_piece n
few_piece e at s n is some few =
    let all : n ≡ run (plain e) s = ⊎_elim (λ w. omega arith) (λ w. omega arith) (front_run (plain e) 8 s) in
    let first = run_first (plain e) s (omega (arith, run_le (plain e) s)) n all some in
    plain_piece e at s first ∙ ap copy_piece (sym all)

pub few_right : (e : Encoding) (d : Bool) (s : List ℕ) → IfSome (few_at e d s) (FewAt e d s)
unfolding few_at
few_right e true s = tt
few_right e false s =
    let n : ℕ = run (plain e) (take 8 s) in
    cond_case (λ (r : Option ℕ). IfSome r (FewAt e false s)) (ltb 0 n && ltb n 8)
    (λ t.
    let some = ltb-true 0 n (both_left (ltb 0 n) (ltb n 8) t) in
    let few = ltb-true n 8 (both_right (ltb 0 n) (ltb n 8) t) in
    record { some = some; short = few; piece = λ at. few_piece e at s n refl some few })
    (λ _. tt)

pub escape_right : (e : Encoding) (s : List ℕ) → IfSome (escape_at e s) (EscapeAt e s)
escape_right e s = go (escape_at e s) refl
  where
    go : (r : Option Escape) → r ≡ escape_at e s → IfSome r (EscapeAt e s)
    go None is = tt
    go (Some x) is = is
