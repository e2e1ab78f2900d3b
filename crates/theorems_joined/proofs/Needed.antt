-- Each condition is needed: three pairs that break the law, by computation. The joined document has another number of tokens.
use Prim.Native.Nat.{ℕ}
use mathlib.Core.Path.{◌≡◌, refl, ap}
use mathlib.Core.Logic.{inl, inr}
use mathlib.Core.Option.{Option, some}
use mathlib.Core.List.{[], ◌∷◌}
use native.Mathlib.Omega.{arith}
use lib.ListN.{length}
use Rattle.text_classes.specs.Classes.{wschar, token_start}
use Rattle.text_classes.specs.Runs.{run, triple}
use Rattle.text_scalars.specs.Utf8.{encode_scalar}
use Rattle.text_scalars.proofs.CutLaws.{one_utf8}
use Rattle.lexer_scans.specs.Extents.{ml_tail, newline_tail}
use Rattle.lexer.specs.Table.{kind_by, kind_of, extent, token_len}
use Rattle.lexer.specs.Tokens.{walk, tokens_from, start_of, tokens_of}
use Rattle.theorems_joined.specs.Joined.{open_string, NewlineNeeded, UnmarkedNeeded, NoCrLfNeeded}

other_byte : {a b : ℕ} → (a ≡ b → ⊥) → ◌≡◌ {A = Option ℕ} (some a) (some b) → ⊥
other_byte d e = d (cc)

pub newline_needed : NewlineNeeded
unfolding wschar token_start run triple ml_tail kind_by kind_of extent token_len walk tokens_from start_of tokens_of encode_scalar
newline_needed = (
  record {
    head_utf8 = (open_string, (inl (omega arith), (inl (omega arith), (inl (omega arith), (inl (omega arith), tt)))), refl);
    tail_utf8 = one_utf8 0x61 (omega arith);
    within = omega arith;
    breaks = λ e. omega (arith, ap length e);
  },
  refl,
  λ e. absurd (other_byte (λ z. omega arith) e),
)

pub unmarked_needed : UnmarkedNeeded
unfolding wschar token_start run triple newline_tail kind_by kind_of extent token_len walk tokens_from start_of tokens_of encode_scalar
unmarked_needed = (
  record {
    head_utf8 = one_utf8 0x0A (omega arith);
    tail_utf8 = (0xFEFF ∷ [], (inr (omega arith, omega arith), tt), refl);
    within = omega arith;
    breaks = λ e. omega (arith, ap length e);
  },
  refl,
  λ e. absurd (other_byte (λ z. omega arith) e),
)

pub no_crlf_needed : NoCrLfNeeded
unfolding wschar token_start run triple newline_tail kind_by kind_of extent token_len walk tokens_from start_of tokens_of encode_scalar
no_crlf_needed = (
  record {
    head_utf8 = one_utf8 0x0D (omega arith);
    tail_utf8 = one_utf8 0x0A (omega arith);
    within = omega arith;
    breaks = λ e. omega (arith, ap length e);
  },
  refl,
  refl,
)
