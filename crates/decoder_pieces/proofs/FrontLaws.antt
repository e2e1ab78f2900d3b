-- The front of a body: whether its first byte is in a set is told by how long the run of such bytes is; and a line-ending escape by the
-- bytes at its places.
-- Assumes nothing.
use Prim.Native.Nat.{ℕ, suc, ◌+◌, ◌≤◌, ◌<◌}
use mathlib.Core.Path.{◌≡◌, refl}
use mathlib.Core.Bool.{Bool, true, false, cond}
use mathlib.Core.List.{List, [], ◌∷◌}
use native.Mathlib.Omega.{arith}
use borrow.Author.Tests.{eqb-true}
use lib.ListN.{drop}
use lib.Seq.{drop-drop}
use Rattle.text_classes.specs.Classes.{wschar, basic_unescaped}
use Rattle.text_classes.specs.Runs.{run, first_is, stands}
use Rattle.decoder_rules.specs.declared.DecodeError.TheVariants.{LoneCr, MissingNewline}
use Rattle.decoder_rules.specs.Pieces.{drop_piece, bad_drop}
use Rattle.decoder_rules.specs.Bodies.{escaped_nl}

-- ---- the first byte

module _ (p : ℕ → Bool) where
  pub front_some : (s : List ℕ) (n : ℕ) → n ≡ run p s → 0 < n → first_is p s ≡ true
  unfolding run
  front_some [] n e h = absurd (omega arith)
  front_some (b ∷ s) n e h = go (p b) e
    where
      go : (t : Bool) → n ≡ cond t (suc (run p s)) 0 → t ≡ true
      go true f = refl
      go false f = absurd (omega arith)

  pub front_none : (s : List ℕ) (n : ℕ) → n ≡ run p s → n ≤ 0 → first_is p s ≡ false
  unfolding run
  front_none [] n e h = refl
  front_none (b ∷ s) n e h = go (p b) e
    where
      go : (t : Bool) → n ≡ cond t (suc (run p s)) 0 → t ≡ false
      go true f = absurd (omega arith)
      go false f = refl

  never : (q : ℕ) → p q ≡ false → (s : List ℕ) → stands q s ≡ true → first_is p s ≡ false
  never q h [] e = refl
  never q h (b ∷ s) e = rw (eqb-true b q e) h

-- a backslash does not stand for itself
pub backslash_basic : (s : List ℕ) → stands 0x5C s ≡ true → first_is basic_unescaped s ≡ false
unfolding basic_unescaped
backslash_basic s e = never basic_unescaped 0x5C refl s e

-- ---- a line-ending escape: n bytes are its backslash and the blanks after it

pub nl_is : (at : ℕ) (s : List ℕ) (n : ℕ) → n ≡ 1 + run wschar (drop 1 s)
    → escaped_nl at (drop 1 s)
    ≡ cond (stands 0x0A (drop n s)) (drop_piece (n + 1))
    (cond (stands 0x0D (drop n s))
    (cond (stands 0x0A (drop (n + 1) s)) (drop_piece (n + 2)) (bad_drop (n + 1) LoneCr (at + (n + 1))))
    (bad_drop n MissingNewline (at + n)))
unfolding escaped_nl
nl_is at s n h =
    let w = run wschar (drop 1 s) in
    let one : 1 + w ≡ n = omega arith in
    let two : 2 + w ≡ n + 1 = omega arith in
    let three : 3 + w ≡ n + 2 = omega arith in
    rw (drop-drop w 1 s, two, three, one, drop-drop 1 n s)
