-- Blocks in which the first place of a byte is found: the least of the places told so far.
-- Assumes nothing.
use Prim.Native.Nat.{ℕ, ◌+◌, ◌≤◌, ◌<◌, min}
use mathlib.Core.Path.{◌≡◌, ap, ◌∙◌}
use mathlib.Core.Bool.{Bool, true, false}
use mathlib.Core.List.{List}
use native.Mathlib.Decide.{dec_lt}
use native.Mathlib.Omega.{arith}
use lib.ListN.{length, get_or, drop}
use Rattle.text_classes.specs.Runs.{run}
use Rattle.text_classes.proofs.RunLaws.{Block, block_start, block_step, block_end, run_stop}
use Rattle.lexer_scans.specs.Scans.{Clear, GoesOn}

-- a place that tells of the byte at the place k whether it passes: it is k where the byte does not, and 255 where it does
abbrev pub PlaceTold : Bool → ℕ → ℕ → Type 0
PlaceTold passes k place = (k < place → passes ≡ true) × (place < 255 → (passes ≡ false) × (place ≡ k))

pub told_passed : (t : Bool) (k place : ℕ) → t ≡ true → place ≡ 255 → PlaceTold t k place
told_passed t k place e f = (λ l. e, λ l. absurd (omega arith))

pub told_stopped : (t : Bool) (k place : ℕ) → t ≡ false → place ≡ k → PlaceTold t k place
told_stopped t k place e f = (λ l. absurd (omega arith), λ l. (e, f))

module _ (p : ℕ → Bool) (s : List ℕ) (i : ℕ) where
  abbrev passes : ℕ → Bool
  passes j = p (get_or s (i + j) 0)

  -- of j bytes, those before the least place pass
  abbrev pub BlockTo : ℕ → ℕ → Type 0
  BlockTo first j = (m : ℕ) → m ≤ j → m ≤ first → Block p s i m

  pub block_to_start : (first : ℕ) → BlockTo first 0
  block_to_start first m h k = block_end p s i 0 m (omega arith) (block_start p s i)

  pub block_to_step : (j place old new : ℕ) → i + j < length s → (j < place → passes j ≡ true)
      → new ≤ place → new ≤ old → BlockTo old j → BlockTo new (j + 1)
  block_to_step j place old new h f a b kept m l k =
      elim (dec_lt m (j + 1)) [
        | yes q ↦ kept m (omega arith) (omega arith)
        | no q ↦ block_end p s i (j + 1) m (omega arith)
            (block_step p s i j h (f (omega arith)) (kept j (omega arith) (omega arith)))
      ]

  -- the same of the first j bytes of a block of w; and the byte at the least place does not pass, if it is one of the block
  abbrev pub ClearTo : ℕ → ℕ → ℕ → Type 0
  ClearTo w first j = (first ≤ w) × BlockTo first j × (first < w → passes first ≡ false)

  pub clear_start : (w : ℕ) → ClearTo w w 0
  clear_start w = (omega arith, block_to_start w, λ l. absurd (omega arith))

  -- one byte more, of which `place` tells: `new` is the less of that place and the least one so far
  pub clear_step : (w j place old new : ℕ) → w ≤ 255 → i + j < length s → PlaceTold (passes j) j place → new ≡ min old place
      → ClearTo w old j → ClearTo w new (j + 1)
  clear_step w j place old new v h told least kept =
      let below : (new ≤ place) × (new ≤ old) = omega arith in
      (omega arith, block_to_step j place old new h told.0 below.0 below.1 kept.1, at)
    where
      at : new < w → passes new ≡ false
      at l =
          elim (dec_lt new old) [
            | yes q ↦
                let same : new ≡ place = omega arith in
                let told = told.1 (omega arith) in
                ap passes (same ∙ told.1) ∙ told.0
            | no q ↦
                let same : new ≡ old = omega arith in
                ap passes same ∙ kept.2 (omega arith)
          ]

  -- a block that is over
  pub clear_all : (w first j : ℕ) → w ≤ j → ClearTo w first j → Clear p s i w first
  clear_all w first j h c = (c.0, c.1 first (omega arith) (omega arith), c.2)

module _ (p : ℕ → Bool) (s : List ℕ) (start i w n : ℕ) where
  -- a block in which a byte is found
  pub clear_found : i + w ≤ length s → Clear p s i w n → n < w → GoesOn p s start i → i + n ≡ start + run p (drop start s)
  clear_found h c l g = omega (arith, g.1, c.1, run_stop p s (i + n) (omega arith) (c.2 l))

  -- a block in which none is
  pub clear_over : Clear p s i w n → w ≤ n → GoesOn p s start i → GoesOn p s start (i + w)
  clear_over c l g =
      let all : n ≡ w = omega (arith, c.0) in
      (omega arith, omega (arith, block_end p s i n w all c.1, g.1))
