-- The promises of `look` and `token_at` admit more than one answer, and these theorems say so: of a token that goes on, a look ahead may
-- stop at any place at which it can tell the mode. Here of two spaces, before and after the second.
-- Assumes nothing.
use Prim.Native.Nat.{ℕ}
use mathlib.Core.Path.{◌≡◌, refl}
use mathlib.Core.List.{List, [], ◌∷◌}
use native.Mathlib.Omega.{arith}
use Rattle.text_classes.specs.Classes.{wschar}
use Rattle.lexer.specs.Lines.{line_feeds}
use Rattle.lexer.specs.Table.{kind_by}
use Rattle.built_bytes.specs.declared.Mode.TheVariants.{Blanks}
use Rattle.built_bytes.specs.Turns.{opening, turn_of}
use Rattle.built_bytes.specs.Rests.{stay, on}
use Rattle.built_ahead.specs.declared.Ahead.{Ahead}
use Rattle.built_ahead.specs.declared.Ahead.TheVariants.{Open}
use Rattle.built_ahead.specs.Ahead.{LeadsTo, Looked, TokenAt, longer}
use Rattle.built_ahead.proofs.LookLaws.{stays_put}

abbrev spaces : List ℕ
spaces = 32 ∷ 32 ∷ []

further : LeadsTo Blanks spaces 1 Blanks 2 0
unfolding turn_of wschar line_feeds
further = record { forward = omega arith; within = λ _. omega arith; runs = on refl stay; lines = refl }

apart : Open Blanks 1 0 ≡ Open Blanks 2 0 → ⊥
apart e =
    let same : ◌≡◌ {A = ℕ} 1 2 = cc in
    omega arith

pub look : ((x y : Ahead) → Looked Blanks spaces 1 x → Looked Blanks spaces 1 y → x ≡ y) → ⊥
look one = apart (one (Open Blanks 1 0) (Open Blanks 2 0) (stays_put spaces 1 Blanks) further)

after : (x : Ahead) → Looked Blanks spaces 1 x → TokenAt spaces 0 x
unfolding opening kind_by wschar
after x h = longer {m = Blanks} (omega arith) refl refl h

pub token_at : ((x y : Ahead) → TokenAt spaces 0 x → TokenAt spaces 0 y → x ≡ y) → ⊥
token_at one =
    apart (one (Open Blanks 1 0) (Open Blanks 2 0) (after (Open Blanks 1 0) (stays_put spaces 1 Blanks)) (after (Open Blanks 2 0) further))
