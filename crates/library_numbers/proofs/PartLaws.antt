-- The start and the length that are answered are those of the text that `text_of` returns.
use Prim.Native.Nat.{ℕ}
use mathlib.Core.Path.{◌≡◌, refl, ap, ◌∙◌}
use mathlib.Core.List.{List}
use Rattle.lexer_token.specs.Records.{span_of}
use Rattle.lexer_place.specs.Spans.{span_answer, text_checked, span_text}
use Rattle.std.specs.Prelude.{Result, Ok, Err, ⊤}
use Rattle.text_refusals.specs.declared.Refusal.{Refusal}
use Rattle.library_numbers.specs.Numbers.{part_of, part_text}
use Rattle.library_numbers.specs.declared.PartNumbers.{PartNumbers}

part_text_lem : (doc : List ℕ) (start end : ℕ) (s : Result ⊤ Refusal)
    → part_text doc (part_of s start end) ≡ text_checked s doc (span_of start end)
part_text_lem doc start end (Ok done) = refl
part_text_lem doc start end (Err r) = refl

pub parted : (doc : List ℕ) (start end : ℕ) (r : PartNumbers) → r ≡ part_of (span_answer doc (span_of start end)) start end
    → (r ≡ part_of (span_answer doc (span_of start end)) start end) × (part_text doc r ≡ span_text doc (span_of start end))
unfolding span_text
parted doc start end r e = (e, ap (part_text doc) e ∙ part_text_lem doc start end (span_answer doc (span_of start end)))
