-- The table's rule, proved once over all its entries, by tests that antt computes: an entry is the class of its byte; the mask of a set
-- has the class of a byte exactly where the set has the byte; and the class of a single byte is that of no other.
-- Assumes nothing.
use Prim.Native.Nat.{ℕ, ◌<◌}
use mathlib.Core.Path.{◌≡◌, sym, ◌∙◌}
use mathlib.Core.Bool.{Bool}
use native.Mathlib.Omega.{arith}
use borrow.Author.Tests.{eqb-true, eq-eqb}
use lib.Dec.{T, eqb, eqb→eq, ltb, ltb→lt}
use Rattle.text_classes.specs.Classes.{wschar, token_start, literal_char, mll_char, basic_unescaped, mlb_unescaped, digit, hexdig, unquoted_char, continuation}
use Rattle.text_classes.proofs.ByteTable.{all_from, same, at_each, classes_agree}
use Rattle.table_classes.specs.declared.Set.{Set}
use Rattle.table_classes.specs.declared.Set.TheVariants.{Wschar, TokenStart, NonAscii, LiteralChar, MllChar, BasicUnescaped, MlbUnescaped, Digit, Hexdig, UnquotedChar, Continuation, InAtom, InComment, InLiteral, InBasic, InMlLiteral, InMlBasic, MllPlain, MlbPlain, BasicInvalid, MlbInvalid, Skipped}
use Rattle.table_classes.specs.declared.Sign.{Sign}
use Rattle.table_classes.specs.declared.Sign.TheVariants.{Tab, Lf, Cr, Space, QuotationMark, NumberSign, Apostrophe, Comma, Dot, Equals, BigU, LeftSquare, Backslash, RightSquare, SmallB, SmallE, SmallF, SmallN, SmallR, SmallT, SmallU, SmallX, LeftCurly, RightCurly}
use Rattle.table_classes.specs.Classed.{set_of, byte_of, class_of}
use Rattle.table_classes.specs.Masks.{table, entry_of, mask_of, has_class, alone_of}

-- ---- the entries

pub entry_is : (b : ℕ) → b < 256 → entry_of b ≡ class_of b
unfolding table class_of digit hexdig unquoted_char continuation basic_unescaped
entry_is b h =
    eqb→eq (entry_of b) (class_of b) (at_each (λ n. eqb (entry_of n) (class_of n)) 0 256 tt b (omega arith) h)

-- there are 31 classes, so that a mask has a bit for each
pub class_low : (b : ℕ) → b < 256 → class_of b < 31
unfolding class_of digit hexdig unquoted_char continuation basic_unescaped
class_low b h = ltb→lt (class_of b) 31 (at_each (λ n. ltb (class_of n) 31) 0 256 tt b (omega arith) h)

-- ---- the sets

-- the test of a set at all bytes
abbrev covers : Set → Bool
covers w = all_from (λ b. same (has_class (mask_of w) (class_of b)) (set_of w b)) 0 256

covered : (w : Set) → T (covers w)
unfolding class_of wschar token_start literal_char mll_char basic_unescaped mlb_unescaped digit hexdig unquoted_char continuation
covered Wschar = tt
covered TokenStart = tt
covered NonAscii = tt
covered LiteralChar = tt
covered MllChar = tt
covered BasicUnescaped = tt
covered MlbUnescaped = tt
covered Digit = tt
covered Hexdig = tt
covered UnquotedChar = tt
covered Continuation = tt
covered InAtom = tt
covered InComment = tt
covered InLiteral = tt
covered InBasic = tt
covered InMlLiteral = tt
covered InMlBasic = tt
covered MllPlain = tt
covered MlbPlain = tt
covered BasicInvalid = tt
covered MlbInvalid = tt
covered Skipped = tt

pub has_is : (w : Set) (b : ℕ) → b < 256 → has_class (mask_of w) (class_of b) ≡ set_of w b
has_is w b h =
    classes_agree (λ n. has_class (mask_of w) (class_of n)) (set_of w) 0 256 (covered w) b (omega arith) h

-- ---- the single bytes

-- the test of a single byte at all bytes
abbrev alone : Sign → Bool
alone g = all_from (λ b. same (eqb (class_of b) (alone_of g)) (eqb b (byte_of g))) 0 256

all_alone : (g : Sign) → T (alone g)
unfolding class_of digit hexdig unquoted_char continuation basic_unescaped
all_alone Tab = tt
all_alone Lf = tt
all_alone Cr = tt
all_alone Space = tt
all_alone QuotationMark = tt
all_alone NumberSign = tt
all_alone Apostrophe = tt
all_alone Comma = tt
all_alone Dot = tt
all_alone Equals = tt
all_alone BigU = tt
all_alone LeftSquare = tt
all_alone Backslash = tt
all_alone RightSquare = tt
all_alone SmallB = tt
all_alone SmallE = tt
all_alone SmallF = tt
all_alone SmallN = tt
all_alone SmallR = tt
all_alone SmallT = tt
all_alone SmallU = tt
all_alone SmallX = tt
all_alone LeftCurly = tt
all_alone RightCurly = tt

pub is_alone : (g : Sign) (b : ℕ) → b < 256 → eqb (class_of b) (alone_of g) ≡ eqb b (byte_of g)
is_alone g b h =
    classes_agree (λ n. eqb (class_of n) (alone_of g)) (λ n. eqb n (byte_of g)) 0 256 (all_alone g) b (omega arith) h

-- where its class is met, the byte is met
pub byte_is : (g : Sign) (b : ℕ) → b < 256 → class_of b ≡ alone_of g → b ≡ byte_of g
byte_is g b h e = eqb-true _ _ (sym (is_alone g b h) ∙ eq-eqb _ _ e)

-- and where its class is not met, neither is the byte
pub byte_is_not : (g : Sign) (b : ℕ) → b < 256 → (class_of b ≡ alone_of g → ⊥) → b ≡ byte_of g → ⊥
byte_is_not g b h n e = n (eqb-true _ _ (is_alone g b h ∙ eq-eqb _ _ e))
