-- A step over a token, where one begins at the cursor, and one at the end of the document.
-- Assumes nothing.
use Prim.Native.Nat.{ℕ, ◌≤◌}
use Rattle.std.specs.Prelude.{Ok, Some, None}
use mathlib.Core.Path.{◌≡◌, sym, ap, ◌∙◌}
use mathlib.Core.Bool.{true, false}
use mathlib.Core.List.{List}
use lib.ListN.{length, drop}
use native.Mathlib.Omega.{arith}
use borrow.Author.Tests.{le-ltb, eq-eqb, ne_eqb}
use Rattle.lexer_token.specs.declared.Token.{Token}
use Rattle.lexer.specs.Tokens.{found_at, eof_at}
use Rattle.lexer.specs.Steps.{cursor_of, Step, step_within, step_of}
use Rattle.lexer.specs.Loops.{Before, step_over}
use Rattle.lexer.specs.declared.Cursor.{Cursor}
use Rattle.lexer.specs.declared.Found.{Found}

module _ (doc : List ℕ) (c : Cursor) (b : Before doc c) where
  step_before : step_of doc c ≡ step_over (found_at c.place (drop c.place doc)) c.place c.line c.ended
  unfolding step_of
  step_before =
      let there : c.place ≤ length doc = omega arith in
      simp (le-ltb _ _ b.0, le-ltb _ _ there, le-ltb _ _ b.2, ne_eqb c.place (length doc) (λ e. omega arith))

  -- so a step is told by what stands there
  pub stepped_over : (n : Found) (r : Step) → n ≡ found_at c.place (drop c.place doc) → r ≡ step_over n c.place c.line c.ended
      → r ≡ step_of doc c
  stepped_over n r e f = f ∙ ap (λ (m : Found). step_over m c.place c.line c.ended) e ∙ sym step_before

module _ (doc : List ℕ) (c : Cursor) (w : step_of doc c ≡ step_within doc c) (e : c.place ≡ length doc) where
  pub step_end : c.ended ≡ true → Ok None ≡ step_of doc c
  step_end t = rw (w, eq-eqb _ _ e, t)

  pub step_eof : c.ended ≡ false → (t : Token) (n : Cursor) → t ≡ eof_at c.place c.line
      → n ≡ cursor_of c.place c.line true → Ok (Some (t, n)) ≡ step_of doc c
  step_eof f t n p q = rw (p, q, w, eq-eqb _ _ e, f)
