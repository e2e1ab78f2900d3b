-- The promise of `letter_char` admits one answer. That of `copy_short` admits two, and this file says so: it may leave a text that is
-- short and simple to its caller, which decodes it then. `decode`, whose promise admits one answer, holds for either.
-- Assumes nothing.
use Rattle.std.specs.Prelude.{Option, Some, None}
use Prim.Native.Nat.{ℕ}
use mathlib.Core.Path.{◌≡◌, refl, sym, ◌∙◌}
use mathlib.Core.List.{List, [], ◌∷◌}
use native.Mathlib.Omega.{arith}
use lib.ListN.{length}
use Rattle.text_classes.specs.Runs.{run}
use Rattle.text.proofs.AnswerLaws.{answer_ascii}
use Rattle.text_scalars.specs.Utf8Read.{ascii}
use Rattle.decoder_rules.proofs.StoreLaws.{Stored, store_none}
use Rattle.decoder_short.specs.Letters.{is_simple, simple_bytes, Short, ShortCopied}
use Rattle.text_classes.proofs.OneAnswer.{OneAnswer}
use Rattle.decoder_short.proofs as promised

pub letter_char : OneAnswer promised.letter_char.Reads.Learnt
letter_char κs a x y s t p q = p ∙ sym q

-- two quotation marks
abbrev pub empty : List ℕ
empty = 0x22 ∷ 0x22 ∷ []

is_ascii : run ascii empty ≡ 2
unfolding run
is_ascii = refl

is_short : Short empty
unfolding is_simple
is_short =
    record { two = omega arith; opens = refl; closes = refl; valid = answer_ascii empty (omega arith) is_ascii; simple = refl }

-- what it decodes to is written, which is no byte, or it is left
pub copy_short : ((x y : Option ℕ) → ShortCopied empty [] x [] → ShortCopied empty [] y [] → x ≡ y) → ⊥
unfolding simple_bytes
copy_short one =
    let same = one (Some 0) None (record { short = is_short; fewer = omega arith; room = omega arith; stored = store_none [] 0 }) refl in
    absurd (let z : ◌≡◌ {A = ℕ} 0 1 = cc in omega arith)
