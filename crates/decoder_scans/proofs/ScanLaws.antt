-- The byte sets as the code tests them, and the bytes that a block may hold.
-- Assumes nothing.
use Rattle.std.proofs.Common.{◌≡◌, ℕ, zero, suc, ◌+◌, ◌%◌, ◌<◌, ◌≤◌, Bool, true, false, cond, ◌||◌, eqb, ltb, leb, ◌⊎◌, List, [], ◌∷◌, take, sym, refl, ◌∙◌, inl, inr, ⊎_elim, arith, le-ltb, eqb-true, leb-true}
use mathlib.Core.Bool.{false≢true}
use native.Mathlib.Decide.{dec_lt}
use lib.Bits.{bit_xor, xor_zero_r}
use Rattle.text_classes.specs.Classes.{literal_char, mll_char, basic_unescaped, mlb_unescaped, unquoted_char}
use Rattle.text_classes.specs.Runs.{run}
use Rattle.text_classes.proofs.ByteTable.{classes_agree, class_is, keys_are, rest_is}
use Rattle.text_classes.proofs.Conds.{not_both, or_inv}
use Rattle.decoder_rules.specs.declared.Edition.{Edition}
use Rattle.decoder_rules.specs.declared.Encoding.{Encoding}
use Rattle.decoder_rules.specs.declared.Encoding.TheVariants.{LiteralString, BasicString, MlLiteralString, MlBasicString, UnquotedKey}
use Rattle.decoder_rules.specs.Encodings.{mll_plain, mlb_plain, plain}
use Rattle.decoder_scans.specs.Scan.{mask_of, is_marked, Wide, stops_of}

-- ---- a byte that no test of a block finds is plain

pub neither : (x y : Bool) → (x || y) ≡ false → (x ≡ false) × (y ≡ false)
neither true y h = absurd (false≢true (sym h))
neither false y h = (refl, h)

module _ (b : ℕ) (byte : b < 256) (del : b ≡ 0x7F → ⊥) where
  -- the tab, or no control
  literal_clear : (b ≡ 0x27 → ⊥) → ((0x20 ≤ b) ⊎ (b ≡ 9)) → true ≡ literal_char b
  unfolding literal_char
  literal_clear q (inl l) = rest_is true literal_char (0x27 ∷ 0x7F ∷ []) 32 224 tt b (⊎_elim q del) l byte
  literal_clear q (inr e) = keys_are true literal_char (9 ∷ []) tt {b = b} e

  basic_clear : (b ≡ 0x22 → ⊥) → (b ≡ 0x5C → ⊥) → ((0x20 ≤ b) ⊎ (b ≡ 9)) → true ≡ basic_unescaped b
  unfolding basic_unescaped
  basic_clear q s (inl l) = rest_is true basic_unescaped (0x22 ∷ 0x5C ∷ 0x7F ∷ []) 32 224 tt b (⊎_elim q (⊎_elim s del)) l byte
  basic_clear q s (inr e) = keys_are true basic_unescaped (9 ∷ []) tt {b = b} e

  -- the tab, the LF, or no control
  mll_clear : ((0x20 ≤ b) ⊎ ((9 ≤ b) × (b < 11))) → true ≡ mll_plain b
  unfolding mll_plain mll_char
  mll_clear (inl l) = rest_is true mll_plain (0x7F ∷ []) 32 224 tt b del l byte
  mll_clear (inr (l, h)) = class_is true mll_plain 9 2 tt b l h

  mlb_clear : (b ≡ 0x5C → ⊥) → ((0x20 ≤ b) ⊎ ((9 ≤ b) × (b < 11))) → true ≡ mlb_plain b
  unfolding mlb_plain mlb_unescaped
  mlb_clear s (inl l) = rest_is true mlb_plain (0x5C ∷ 0x7F ∷ []) 32 224 tt b (⊎_elim s del) l byte
  mlb_clear s (inr (l, h)) = class_is true mlb_plain 9 2 tt b l h

-- not among the 31 from 1 on once the tab's bits are turned; w is what b becomes less 1, wrapped
turned : (b : ℕ) → b < 256 → true ≡ ((leb 0x20 b || eqb b 9) || ltb ((bit_xor b 9 + 255) % 256) 31)
turned b h = class_is true (λ n. (leb 0x20 n || eqb n 9) || ltb ((bit_xor n 9 + 255) % 256) 31) 0 256 tt b (omega arith) h

in_line : (b w : ℕ) → b < 256 → w < 256 → (w + 1) % 256 ≡ bit_xor b 9 → 31 ≤ w → (0x20 ≤ b) ⊎ (b ≡ 9)
in_line b w h i e k =
    let x : bit_xor b 9 < 256 = omega arith in
    let same : (bit_xor b 9 + 255) % 256 ≡ w = omega arith in
    let no = le-ltb w 31 k in
    or_inv (leb 0x20 b || eqb b 9) _ (sym (turned b h))
    (λ t. or_inv (leb 0x20 b) _ t (λ l. inl (leb-true _ _ l)) (λ l. inr (eqb-true _ _ l)))
    (λ t. not_both t (rw same no))

-- neither below 9 nor among the 21 from 0B on; w is b - 0B, wrapped
over_lines : (b w : ℕ) → w < 256 → (w + 11) % 256 ≡ bit_xor b 0 → 9 ≤ b → 21 ≤ w → (0x20 ≤ b) ⊎ ((9 ≤ b) × (b < 11))
over_lines b w h e l k =
    let same : (w + 11) % 256 ≡ b = e ∙ xor_zero_r b in
    elim (dec_lt b 11) [ yes m ↦ inr (l, m) | no m ↦ inl (omega arith) ]

pub clear_plain : (e : Encoding) → Wide e → (b w : ℕ) → b < 256 → w < 256 → (w + (stops_of e).from) % 256 ≡ bit_xor b (stops_of e).flip
    → (b ≡ (stops_of e).first → ⊥) → (b ≡ (stops_of e).second → ⊥) → (b ≡ 0x7F → ⊥) → (stops_of e).low ≤ b → (stops_of e).span ≤ w
    → plain e b ≡ true
clear_plain LiteralString v b w h i x f s d l k = sym (literal_clear b h d f (in_line b w h i x k))
clear_plain (BasicString n) v b w h i x f s d l k = sym (basic_clear b h d f s (in_line b w h i x k))
clear_plain MlLiteralString v b w h i x f s d l k = sym (mll_clear b h d (over_lines b w i x l k))
clear_plain (MlBasicString n) v b w h i x f s d l k = sym (mlb_clear b h d f (over_lines b w i x l k))
clear_plain UnquotedKey v b w h i x f s d l k = absurd v

-- ---- the masks

marked_literal : (b : ℕ) → b < 256 → is_marked (mask_of LiteralString) b ≡ literal_char b
unfolding literal_char
marked_literal b h = classes_agree (is_marked (mask_of LiteralString)) literal_char 0 256 tt b (omega arith) h

marked_mll : (b : ℕ) → b < 256 → is_marked (mask_of MlLiteralString) b ≡ mll_plain b
unfolding mll_plain mll_char
marked_mll b h = classes_agree (is_marked (mask_of MlLiteralString)) mll_plain 0 256 tt b (omega arith) h

marked_basic : (v : Edition) (b : ℕ) → b < 256 → is_marked (mask_of (BasicString v)) b ≡ basic_unescaped b
unfolding basic_unescaped
marked_basic v b h = classes_agree (is_marked (mask_of (BasicString v))) basic_unescaped 0 256 tt b (omega arith) h

marked_mlb : (v : Edition) (b : ℕ) → b < 256 → is_marked (mask_of (MlBasicString v)) b ≡ mlb_plain b
unfolding mlb_plain mlb_unescaped
marked_mlb v b h = classes_agree (is_marked (mask_of (MlBasicString v))) mlb_plain 0 256 tt b (omega arith) h

marked_key : (b : ℕ) → b < 256 → is_marked (mask_of UnquotedKey) b ≡ unquoted_char b
unfolding unquoted_char
marked_key b h = classes_agree (is_marked (mask_of UnquotedKey)) unquoted_char 0 256 tt b (omega arith) h

pub marked_plain : (e : Encoding) (b : ℕ) → b < 256 → is_marked (mask_of e) b ≡ plain e b
marked_plain LiteralString = marked_literal
marked_plain MlLiteralString = marked_mll
marked_plain (BasicString v) = marked_basic v
marked_plain (MlBasicString v) = marked_mlb v
marked_plain UnquotedKey = marked_key

-- ---- a run, of which n bytes count at most

abbrev FrontRun : ℕ → ℕ → ℕ → Type 0
FrontRun n whole front = ((whole < n) × (front ≡ whole)) ⊎ ((n ≤ whole) × (front ≡ n))

pub front_run : (p : ℕ → Bool) (n : ℕ) (s : List ℕ) → FrontRun n (run p s) (run p (take n s))
unfolding run
front_run p zero s = inr (omega arith, refl)
front_run p (suc n) [] = inl (omega arith, refl)
front_run p (suc n) (b ∷ s) = go (p b) (front_run p n s)
  where
    go : (t : Bool) → FrontRun n (run p s) (run p (take n s))
        → FrontRun (suc n) (cond t (suc (run p s)) 0) (cond t (suc (run p (take n s))) 0)
    go true (inl f) = inl (omega arith, omega arith)
    go true (inr f) = inr (omega arith, omega arith)
    go false f = inl (omega arith, refl)
