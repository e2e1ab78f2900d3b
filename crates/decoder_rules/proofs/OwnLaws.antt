-- A short line is gone over character by character, up to the mark that closes it: what that loop keeps, and that a line of
-- which it goes over all is an `OwnLine`.
-- Assumes nothing.
use Prim.Native.Nat.{ℕ, ◌+◌, ◌-◌, ◌≤◌, ◌<◌}
use mathlib.Core.Path.{◌≡◌, refl, sym, ap, ◌∙◌}
use mathlib.Core.Logic.{inl, inr}
use mathlib.Core.Bool.{Bool, true, false}
use mathlib.Core.List.{List}
use native.Mathlib.Decide.{dec_lt, ℕ_discrete}
use native.Mathlib.Omega.{arith}
use lib.ListN.{length, get_or}
use Rattle.text_classes.specs.Classes.{literal_char, basic_unescaped}
use Rattle.text_classes.proofs.Conds.{not_both}
use Rattle.text_refusals.specs.Refusals.{limit}
use Rattle.text_scalars.specs.Utf8Read.{Along}
use Rattle.text_characters.specs.Lead.{CharacterAt}
use Rattle.text_scalars.proofs.ReadLaws.{valid_end}
use Rattle.text_characters.proofs.CharLaws.{along_ascii, along_whole, wide_high}
use Rattle.text.proofs.AnswerLaws.{answer_valid}
use Rattle.decoder_rules.specs.Encodings.{plain}
use Rattle.decoder_rules.proofs.AsciiLaws.{High, basic_high, literal_high}
use Rattle.decoder_rules.proofs.PlainLaws.{OwnLine, LineMarks, line_of, marks_low}

-- the last byte of s stops the loop: it is ASCII and does not stand for itself; and p lets all beyond ASCII pass
pub record Closed (p : ℕ → Bool) (s : List ℕ) : Type 0 where
  pub some : 1 < length s
  pub low : get_or s (length s - 1) 0 < 0x80
  pub stops : p (get_or s (length s - 1) 0) ≡ false
  pub high : High p

-- from place 1 up to place r whole characters stand, each byte of which passes the test p
pub record OwnTo (p : ℕ → Bool) (s : List ℕ) (r : ℕ) : Type 0 where
  pub along : Along s 1 r
  pub within : r < length s
  pub own : (k : ℕ) → 1 ≤ k → k < r → p (get_or s k 0) ≡ true

module _ (p : ℕ → Bool) (s : List ℕ) (closed : Closed p s) where
  pub own_start : OwnTo p s 1
  own_start =
      record { along = (omega arith, omega (arith, closed.some), refl); within = closed.some; own = λ k l h. absurd (omega arith) }

  -- a place whose byte is not the last one's lies before it
  not_last : (i : ℕ) → i < length s → (get_or s i 0 ≡ get_or s (length s - 1) 0 → ⊥) → i + 1 < length s
  not_last i h differ = go (ℕ_discrete i (length s - 1))
    where
      go : Dec (i ≡ length s - 1) → i + 1 < length s
      go (yes e) = absurd (differ (ap (λ (k : ℕ). get_or s k 0) e))
      go (no d) = omega arith

  pub own_ascii : {i : ℕ} → OwnTo p s i → get_or s i 0 < 0x80 → p (get_or s i 0) ≡ true → OwnTo p s (i + 1)
  own_ascii {i} to low passes =
      record {
        along = along_ascii s 1 i to.within low to.along;
        within = not_last i to.within (λ e. not_both passes (ap p e ∙ closed.stops));
        own = λ k l h. each k l h (ℕ_discrete k i);
      }
    where
      each : (k : ℕ) → 1 ≤ k → k < i + 1 → Dec (k ≡ i) → p (get_or s k 0) ≡ true
      each k l h (yes e) = rw e passes
      each k l h (no d) = to.own k l (omega arith)

  pub own_wide : {i n : ℕ} → OwnTo p s i → (i + n ≤ length s) × CharacterAt s i n → OwnTo p s (i + n)
  own_wide {i} {n} to wide =
      record {
        along = along_whole s 1 i n fits char to.along;
        within = omega (arith, not_last (i + (n - 1)) (omega (arith, fits)) (λ e. omega (arith, high (n - 1) (omega arith), closed.low)));
        own = λ k l h. each k l h (dec_lt k i);
      }
    where
      fits : i + n ≤ length s
      fits = wide.0

      char : CharacterAt s i n
      char = wide.1

      some : 0 < n
      some = omega (arith, char.some)

      high : (k : ℕ) → k < n → 0x80 ≤ get_or s (i + k) 0
      high k h = wide_high s i n k char h

      each : (k : ℕ) → 1 ≤ k → k < i + n → Dec (k < i) → p (get_or s k 0) ≡ true
      each k l h (yes e) = to.own k l e
      each k l h (no d) =
          let place : i + (k - i) ≡ k = omega arith in
          rw place at (closed.high (get_or s (i + (k - i)) 0) (high (k - i) (omega arith)))

-- the marks of a line close it
pub marks_close : {q z : ℕ} → LineMarks q z → (t : List ℕ) → 1 < length t → get_or t (length t - 1) 0 ≡ q → Closed (plain (line_of z)) t
unfolding line_of literal_char basic_unescaped
marks_close (inl (e, f)) t some closes =
    rw f (record { some = some; low = omega arith; stops = ap literal_char (closes ∙ e); high = literal_high })
marks_close (inr (e, f)) t some closes =
    rw f (record { some = some; low = omega arith; stops = ap basic_unescaped (closes ∙ e); high = basic_high })

-- where the loop comes to the closing mark, the line stands for itself
pub own_line : {q z r : ℕ} → LineMarks q z → (t : List ℕ) → length t ≤ limit → 2 ≤ length t → get_or t 0 0 ≡ q
    → get_or t (length t - 1) 0 ≡ q → r + 1 ≡ length t → OwnTo (plain (line_of z)) t r → OwnLine q (plain (line_of z)) t
own_line {q} {r = r} marks t few two opens closes all to =
    record {
      two = two;
      opens = opens;
      closes = closes;
      valid = answer_valid t few (omega (arith, end, valid_end t (r + 1) (omega arith)));
      own = λ k l h. to.own k l (omega arith);
    }
  where
    first : Along t 0 1
    first = along_ascii t 0 0 (omega arith) (omega (arith, opens, marks_low marks)) (omega arith, omega arith, refl)

    last : get_or t r 0 ≡ q
    last = let place : r ≡ length t - 1 = omega arith in rw place closes

    end : Along t 0 (r + 1)
    end =
        along_ascii t 0 r to.within (omega (arith, last, marks_low marks))
        (omega (arith, to.along), omega (arith, to.along), omega (arith, first, to.along))
