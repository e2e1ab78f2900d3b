-- What a class is, said without its number.
-- Assumes nothing.
use Prim.Native.Nat.{ℕ}
use mathlib.Core.Path.{sym, ap, ◌∙◌}
use lib.Dec.{eqb}
use Rattle.table_classes.specs.declared.Set.TheVariants.{Digit, Hexdig, UnquotedChar, Continuation, NonAscii, BasicUnescaped}
use Rattle.table_classes.specs.declared.Sign.TheVariants.{Tab, Lf, Cr, Space, QuotationMark, NumberSign, Apostrophe, Comma, Dot, Equals, BigU, LeftSquare, Backslash, RightSquare, SmallB, SmallE, SmallF, SmallN, SmallR, SmallT, SmallU, SmallX, LeftCurly, RightCurly}
use Rattle.table_classes.specs.Classed.{class_of}
use Rattle.table_classes.specs.Masks.{mask_of, has_class, alone_of}
use Rattle.table_classes.specs.ClassesMean.{Alike, Apart}
use Rattle.table_classes.proofs.TableLaws.{has_is, is_alone}

pub alike : Alike
alike a b h l e = (
  (λ w. sym (has_is w a h) ∙ ap (λ (k : ℕ). has_class (mask_of w) k) e ∙ has_is w b l),
  (λ g. sym (is_alone g a h) ∙ ap (λ (k : ℕ). eqb k (alone_of g)) e ∙ is_alone g b l),
)

pub apart : Apart
unfolding class_of
apart a b sets signs =
    simp (
      signs Tab,
      signs Lf,
      signs Cr,
      signs Space,
      signs QuotationMark,
      signs NumberSign,
      signs Apostrophe,
      signs Comma,
      signs Dot,
      signs Equals,
      signs BigU,
      signs LeftSquare,
      signs Backslash,
      signs RightSquare,
      signs SmallB,
      signs SmallE,
      signs SmallF,
      signs SmallN,
      signs SmallR,
      signs SmallT,
      signs SmallU,
      signs SmallX,
      signs LeftCurly,
      signs RightCurly,
      sets Digit,
      sets Hexdig,
      sets UnquotedChar,
      sets Continuation,
      sets NonAscii,
      sets BasicUnescaped,
    )
