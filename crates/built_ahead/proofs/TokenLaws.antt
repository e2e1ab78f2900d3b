-- The token that begins at a place, by the byte there.
-- Assumes nothing.
use Prim.Native.Nat.{ℕ, ◌+◌, ◌≤◌, ◌<◌}
use mathlib.Core.Path.{◌≡◌, ap, ◌∙◌}
use mathlib.Core.Bool.{false}
use mathlib.Core.List.{List, [], ◌∷◌}
use native.Mathlib.Omega.{arith}
use lib.ListN.{length, get_or}
use lib.Dec.{eqb}
use borrow.Author.Tests.{ne_eqb}
use Rattle.text_classes.specs.Classes.{wschar}
use Rattle.lexer_token.specs.declared.TokenKind.{TokenKind}
use Rattle.lexer_token.specs.declared.TokenKind.TheVariants.{Newline}
use Rattle.lexer.specs.Table.{kind_by}
use Rattle.lexer.proofs.KindLaws.{NoneOf, atom_by}
use Rattle.built_bytes.specs.declared.Mode.{Mode}
use Rattle.built_bytes.specs.declared.Mode.TheVariants.{Idle, Word}
use Rattle.built_bytes.specs.declared.Turn.TheVariants.{Opens, Single}
use Rattle.built_bytes.specs.Turns.{opening}
use Rattle.built_ahead.specs.declared.Ahead.{Ahead}
use Rattle.built_ahead.specs.declared.Ahead.TheVariants.{Whole, Open}
use Rattle.built_ahead.specs.Ahead.{Looked, TokenAt, past, alone, longer}

pub at_the_end : (s : List ℕ) (i : ℕ) → length s ≤ i → TokenAt s i (Open Idle i 0)
at_the_end s i h = past h

module _ (s : List ℕ) (i : ℕ) (inside : i < length s) where
  pub single_byte : (k : TokenKind) (b : ℕ) → get_or s i 0 ≡ b → opening b ≡ Single k → eqb b 10 ≡ false → TokenAt s i (Whole k (i + 1) 0)
  single_byte k b is o n = alone {feeds = 0} inside (ap opening is ∙ o) (λ line. rw (is, n) (omega arith))

  pub lf_byte : get_or s i 0 ≡ 10 → TokenAt s i (Whole Newline (i + 1) 1)
  unfolding opening kind_by wschar
  lf_byte is = alone {feeds = 1} inside (ap opening is) (λ line. rw is (omega arith))

  pub opens_byte : (m : Mode) (b : ℕ) → get_or s i 0 ≡ b → opening b ≡ Opens m → eqb b 10 ≡ false → (x : Ahead) → Looked m s (i + 1) x → TokenAt s i x
  opens_byte m b is o n x h = longer inside (ap opening is ∙ o) (ap (λ (c : ℕ). eqb c 10) is ∙ n) h

  pub word_byte : NoneOf (get_or s i 0) (34 ∷ 39 ∷ 10 ∷ 13 ∷ 35 ∷ 9 ∷ 32 ∷ 125 ∷ 123 ∷ 93 ∷ 91 ∷ 44 ∷ 61 ∷ 46 ∷ []) → (x : Ahead)
      → Looked Word s (i + 1) x → TokenAt s i x
  unfolding opening
  word_byte r x h = longer {m = Word} inside (rw (atom_by (get_or s i 0) false r)) (ne_eqb (get_or s i 0) 10 r.0.0.1) h
