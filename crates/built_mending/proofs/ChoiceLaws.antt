-- Which encoding a token of each kind is decoded by, and that the token's text has its opening mark.
-- Assumes nothing.
use Prim.Native.Nat.{ℕ, suc, ◌≤◌, ◌<◌}
use mathlib.Core.Path.{◌≡◌, refl, sym, ◌∙◌, ap}
use mathlib.Core.Bool.{Bool, true, false}
use mathlib.Core.List.{List, [], ◌∷◌}
use native.Mathlib.Omega.{arith}
use borrow.Author.Tests.{eq-eqb, lt-ltb}
use lib.Dec.{eqb}
use lib.ListN.{length, take, drop}
use Rattle.text_classes.specs.Runs.{triple}
use Rattle.text_classes.proofs.Conds.{cond_case}
use Rattle.text_classes.proofs.FirstLaws.{first_take}
use Rattle.text_refusals.specs.declared.Refusal.{Refusal}
use Rattle.text_refusals.specs.declared.Refusal.TheVariants.{NoKind}
use Rattle.lexer_token.specs.declared.TokenKind.{TokenKind}
use Rattle.lexer_token.specs.declared.TokenKind.TheVariants.{Dot, Equals, Comma, LeftSquareBracket, RightSquareBracket, LeftCurlyBracket, RightCurlyBracket, Whitespace, Comment, Newline, LiteralString, BasicString, MlLiteralString, MlBasicString, Atom, Eof}
use Rattle.lexer_token.specs.KindNumbers.{kind_number}
use Rattle.lexer_token.specs.Encodings.{kind_encoding, encoding_by, encoding_of}
use Rattle.lexer_token.proofs.KindLaws.{kind_back}
use Rattle.lexer_scans.specs.Extents.{ml_tail}
use Rattle.lexer.specs.Table.{kind_of, extent, token_len}
use Rattle.lexer.proofs.KindLaws.{by_kind}
use Rattle.decoder_rules.specs.declared.Edition.{Edition}
use Rattle.decoder_rules.specs.declared.Edition.TheVariants.{Toml10, Toml11}
use Rattle.decoder_rules.specs.declared.Encoding.{Encoding}
use Rattle.decoder_rules.specs.declared.Encoding.TheVariants.{LiteralString as LiteralText, BasicString as BasicText, MlLiteralString as MlLiteralText, MlBasicString as MlBasicText}
use Rattle.std.specs.Prelude.{Result, Ok, Err}
use Rattle.decoder_rules.specs.Encodings.{choice_in, unnamed, choice_by}
use Rattle.decoder_rules.specs.Marks.{line_ends, ml_start, ml_ends, ends_of}

-- ---- the encoding of a kind

-- it is found by the kind's own number
encoding_is : (k : TokenKind) (n : ℕ) (x : Result ℕ Refusal) → n ≡ kind_number k → x ≡ encoding_of n → x ≡ Ok (kind_encoding k)
unfolding encoding_of
encoding_is k n x by_number by_encoding = by_encoding ∙ ap encoding_of by_number ∙ ap encoding_by (kind_back k)

pub encoding_read : (k : TokenKind) (n m : ℕ) → n ≡ kind_number k → Ok m ≡ encoding_of n → m ≡ kind_encoding k
encoding_read k n m by_number by_encoding =
    let same : ◌≡◌ {A = Result ℕ Refusal} (Ok m) (Ok (kind_encoding k)) = encoding_is k n (Ok m) by_number by_encoding in cc

pub encoding_found : (k : TokenKind) (n : ℕ) (r : Refusal) → n ≡ kind_number k → Err r ≡ encoding_of n → ⊥
encoding_found k n r by_number by_encoding =
    let same : ◌≡◌ {A = Result ℕ Refusal} (Err r) (Ok (kind_encoding k)) = encoding_is k n (Err r) by_number by_encoding in
    let z : ◌≡◌ {A = ℕ} 0 1 = cc in
    omega arith

-- a token of the kind k is decoded by e
abbrev pub Reads : TokenKind → Encoding → Type 0
Reads LiteralString e = e ≡ LiteralText
Reads BasicString e = (v : Edition) × (e ≡ BasicText v)
Reads MlLiteralString e = e ≡ MlLiteralText
Reads MlBasicString e = (v : Edition) × (e ≡ MlBasicText v)
Reads Dot e = ⊥
Reads Equals e = ⊥
Reads Comma e = ⊥
Reads LeftSquareBracket e = ⊥
Reads RightSquareBracket e = ⊥
Reads LeftCurlyBracket e = ⊥
Reads RightCurlyBracket e = ⊥
Reads Whitespace e = ⊥
Reads Comment e = ⊥
Reads Newline e = ⊥
Reads Atom e = ⊥
Reads Eof e = ⊥

unknown : {r : Refusal} {e : Encoding} {P : Type 0} → ◌≡◌ {A = Result Encoding Refusal} (Err r) (Ok e) → P
unknown h = let z : ◌≡◌ {A = ℕ} 0 1 = cc in absurd (omega arith)

known : {x e : Encoding} → ◌≡◌ {A = Result Encoding Refusal} (Ok x) (Ok e) → e ≡ x
known h = cc

by_edition : (P : Result Encoding Refusal → Type 0) (edition n : ℕ) → P (choice_in Toml10 n) → P (choice_in Toml11 n)
    → P (unnamed edition (choice_in Toml10 n)) → P (choice_by edition n)
unfolding choice_by
by_edition P edition n ten eleven neither =
    cond_case P (eqb edition 10) (λ _. ten) (λ _. cond_case P (eqb edition 11) (λ _. eleven) (λ _. neither))

module _ (edition : ℕ) where
  -- a kind that is no string
  pub none_is : choice_by edition 0 ≡ Err (NoKind 0)
  unfolding choice_in
  none_is = by_edition (λ c. c ≡ Err (NoKind 0)) edition 0 refl refl refl

  no_string : {e : Encoding} → choice_by edition 0 ≡ Ok e → ⊥
  no_string h = unknown (sym none_is ∙ h)

  pub reads_of : (k : TokenKind) (e : Encoding) → choice_by edition (kind_encoding k) ≡ Ok e → Reads k e
  unfolding choice_in
  reads_of LiteralString e h = by_edition (λ c. c ≡ Ok e → e ≡ LiteralText) edition 39 known known unknown h
  reads_of BasicString e h =
      by_edition (λ c. c ≡ Ok e → (v : Edition) × (e ≡ BasicText v)) edition 34
      (λ x. (Toml10, known x)) (λ x. (Toml11, known x)) unknown h
  reads_of MlLiteralString e h = by_edition (λ c. c ≡ Ok e → e ≡ MlLiteralText) edition 1 known known unknown h
  reads_of MlBasicString e h =
      by_edition (λ c. c ≡ Ok e → (v : Edition) × (e ≡ MlBasicText v)) edition 2
      (λ x. (Toml10, known x)) (λ x. (Toml11, known x)) unknown h
  reads_of Dot e h = no_string h
  reads_of Equals e h = no_string h
  reads_of Comma e h = no_string h
  reads_of LeftSquareBracket e h = no_string h
  reads_of RightSquareBracket e h = no_string h
  reads_of LeftCurlyBracket e h = no_string h
  reads_of RightCurlyBracket e h = no_string h
  reads_of Whitespace e h = no_string h
  reads_of Comment e h = no_string h
  reads_of Newline e h = no_string h
  reads_of Atom e h = no_string h
  reads_of Eof e h = no_string h

-- ---- the text of a token has its opening mark

-- the opening mark is there, and the body starts after it
abbrev pub Opens : Encoding → List ℕ → Type 0
Opens e t = ((ends_of e t).opened ≡ true) × (1 ≤ (ends_of e t).start)

line_opens : (q : ℕ) (t : List ℕ) → ((line_ends q (q ∷ t)).opened ≡ true) × (1 ≤ (line_ends q (q ∷ t)).start)
unfolding line_ends
line_opens q t = rw (lt-ltb 0 (suc (length t)) (omega arith), eq-eqb q q refl) (refl, omega arith)

-- three marks at the front stand in a part that has three bytes
triple_part : (q n : ℕ) (s : List ℕ) → triple q s ≡ true → triple q (take (suc (suc (suc n))) s) ≡ true
unfolding triple
triple_part q n s h =
    let mark : ℕ → Bool = λ b. eqb b q in
    let k = suc (suc (suc n)) in
    rw (first_take mark s k 0 (omega arith), first_take mark s k 1 (omega arith), first_take mark s k 2 (omega arith)) h

ml_opens : (trims : Bool) (q : ℕ) (t : List ℕ) → triple q t ≡ true
    → ((ml_ends trims q t).opened ≡ true) × (1 ≤ (ml_ends trims q t).start)
unfolding ml_ends ml_start
ml_opens trims q t h = (h, rw h (omega arith))

pub token_opens : (s : List ℕ) → 0 < length s → (e : Encoding) → Reads (kind_of s) e → Opens e (take (token_len s) s)
unfolding token_len kind_of extent
token_opens [] h e = absurd (omega arith)
token_opens (b ∷ r) h e =
    by_kind (λ (k : TokenKind). Reads k e → Opens e (take (extent k (b ∷ r)) (b ∷ r))) b (triple b (b ∷ r))
    (λ _ x. absurd x) (λ _ x. absurd x) (λ _ x. absurd x) (λ _ x. absurd x) (λ _ x. absurd x) (λ _ x. absurd x)
    (λ _ x. absurd x) (λ _ x. absurd x) (λ _ x. absurd x) (λ _ x. absurd x)
    (λ q x. rw (x, q) (line_opens 0x27 _)) (λ q x. rw (x.1, q) (line_opens 0x22 _))
    (λ q t x. rw x (ml_opens true 0x27 _ (triple_part 0x27 (ml_tail 0x27 false (drop 3 (b ∷ r))) (b ∷ r) (sym (ap (λ (x : ℕ). triple x (b ∷ r)) q) ∙ t))))
    (λ q t x. rw x.1 (ml_opens false 0x22 _ (triple_part 0x22 (ml_tail 0x22 false (drop 3 (b ∷ r))) (b ∷ r) (sym (ap (λ (x : ℕ). triple x (b ∷ r)) q) ∙ t))))
    (λ x. absurd x)
