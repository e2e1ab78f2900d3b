-- The promises of `comment_front` and of `is_comment_end` admit two answers each, and this file says so: the first may stop at any
-- place before, and the second may say of any place that it is no end; then the check decides. `first_broken`, whose promise
-- admits one answer, holds for all of them.
-- Assumes nothing.
use Rattle.std.proofs.Common.{◌≡◌, ℕ, ◌≤◌, Bool, true, false, List, [], ◌∷◌, length, drop, sym, refl, arith}
use mathlib.Core.Bool.{false≢true}
use Rattle.text_classes.specs.Runs.{run}
use Rattle.text_classes.proofs.RunLaws.{run_end, same_end_byte}
use Rattle.text_characters.proofs.CharLaws.{along_ascii}
use Rattle.lexer_scans.specs.Extents.{in_comment}
use Rattle.lexer_comments.specs.Fronts.{Fronted}
use Rattle.lexer_comments.proofs.FrontLaws.{front_start}

-- a comment of one letter, after its sign
abbrev pub letter : List ℕ
letter = 0x61 ∷ []

-- it is gone over or not
pub comment_front : ((x y : ℕ) → (0 ≤ length letter → Fronted letter 0 x) → (0 ≤ length letter → Fronted letter 0 y) → x ≡ y) → ⊥
comment_front one =
    let start = front_start letter 0 (omega arith) in
    let over : Fronted letter 0 1 =
    record {
      along = along_ascii letter 0 0 (omega arith) (omega arith) start.along;
      same = same_end_byte in_comment letter 0 0 (omega arith) refl start.same;
    } in
    let same : ◌≡◌ {A = ℕ} 0 1 = one 0 1 (λ _. start) (λ _. over) in
    omega arith

-- the end of a document is told or not
pub is_comment_end : ((x y : Bool) → (x ≡ true → run in_comment (drop 0 []) ≡ 0) → (y ≡ true → run in_comment (drop 0 []) ≡ 0) → x ≡ y) → ⊥
is_comment_end one =
    let same : true ≡ false = one true false (λ _. run_end in_comment [] 0 (omega arith)) (λ h. absurd (false≢true h)) in
    false≢true (sym same)
