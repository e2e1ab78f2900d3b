-- The letters of escapes by their classes: each letter's class has it alone.
-- Assumes nothing.
use Prim.Native.Nat.{ℕ, ◌<◌}
use mathlib.Core.Path.{◌≡◌, refl}
use Rattle.decoder_rules.specs.declared.Edition.{Edition}
use Rattle.decoder_rules.specs.declared.Edition.TheVariants.{Toml10, Toml11}
use Rattle.decoder_rules.specs.Escapes.{new_letter, letter_of}
use Rattle.table_classes.specs.declared.Sign.TheVariants.{QuotationMark, Backslash, BigU, SmallB, SmallE, SmallF, SmallN, SmallR, SmallT, SmallU, SmallX}
use Rattle.table_classes.specs.Classed.{class_of}
use Rattle.table_classes.proofs.TableLaws.{is_alone}
use Rattle.table_pieces.specs.Letters.{new_by, letter_by}

new_by_lem : (v : Edition) (b : ℕ) → b < 256 → new_letter v b ≡ new_by v (class_of b)
new_by_lem Toml10 b h = refl
new_by_lem Toml11 b h = rw (← (is_alone SmallE b h), ← (is_alone SmallX b h))

pub letter_by_lem : (v : Edition) (b : ℕ) → b < 256 → letter_of v b ≡ letter_by v (class_of b)
unfolding letter_of letter_by
letter_by_lem v b h =
    rw (
      ← (is_alone QuotationMark b h),
      ← (is_alone Backslash b h),
      ← (is_alone SmallB b h),
      ← (is_alone SmallF b h),
      ← (is_alone SmallN b h),
      ← (is_alone SmallR b h),
      ← (is_alone SmallT b h),
      ← (is_alone SmallU b h),
      ← (is_alone BigU b h),
      new_by_lem v b h,
    )
