-- An escape: the piece that it is, what it reads, and the grammar's escape-seq-char.
use Prim.Native.Nat.{ℕ, zero, suc, ◌+◌, ◌*◌, ◌≤◌, ◌<◌}
use mathlib.Core.Path.{◌≡◌, refl, sym, ◌∙◌, ap, subst}
use mathlib.Core.Logic.{inl}
use mathlib.Core.Bool.{Bool, true, false, cond}
use mathlib.Core.List.{List, [], ◌∷◌, ◌++◌}
use native.Mathlib.Omega.{arith}
use lib.ListN.{length, take, drop, take-append-drop}
use Rattle.text_classes.specs.Classes.{hexdig}
use Rattle.text_classes.specs.Runs.{run}
use Rattle.text_classes.proofs.Conds.{by_lt, cond_case, by_eq}
use Rattle.text_scalars.specs.Utf8.{Scalar, encode_scalar, All}
use Rattle.text_scalars.specs.Utf8Read.{is_scalar}
use Rattle.text_scalars.proofs.EncodeLaws.{scalar_true, true_scalar}
use Rattle.decoder_rules.specs.declared.Edition.{Edition}
use Rattle.decoder_rules.specs.declared.Edition.TheVariants.{Toml10, Toml11}
use Rattle.decoder_rules.specs.declared.Letter.{Letter}
use Rattle.decoder_rules.specs.declared.Letter.TheVariants.{Stands, Asks, Neither}
use Rattle.decoder_rules.specs.declared.Piece.{Piece}
use Rattle.std.specs.Prelude.{None}
use Rattle.decoder_rules.specs.Pieces.{Pieces, char_piece}
use Rattle.decoder_rules.specs.Escapes.{new_letter, letter_of, hex_from, hex_value, hex_piece, escape_by, escape_piece}
use Rattle.decoder_rules.proofs.PieceLaws.{wrong≢none}
use Rattle.decoder_rules.proofs.EscapeLaws.{hex_char, escape_hex, escape_simple}
use Rattle.theorems_grammar.specs.Grammar.{HexDig, HexDigits, stop, more, EscapeSeqChar, x22, x5C, x62, x66, x6E, x72, x74, x75, x55, x65, x78}
use Rattle.theorems_grammar.specs.Scalars.{Names}
use Rattle.theorems_grammar.proofs.ListLaws.{all_weaken}
use Rattle.theorems_grammar.proofs.Encoded.{AllAscii}
use Rattle.theorems_grammar.proofs.Reading.{IfClean, Reads, reads_for}
use Rattle.theorems_grammar.proofs.ClassLaws.{digit_is, digit_at}

-- ---- digits

digits_run : {n a v : ℕ} {t : List ℕ} → HexDigits n a t v → (s : List ℕ) → n ≤ run hexdig (t ++ s)
unfolding run
digits_run stop s = omega arith
digits_run (more first rest) s = rw (digit_at first).0 (omega (arith, digits_run rest s))

digits_taken : {n a v : ℕ} {t : List ℕ} → HexDigits n a t v → (s : List ℕ) → take n (t ++ s) ≡ t
digits_taken stop s = refl
digits_taken (more {c = c} first rest) s = ap (c ∷◌) (digits_taken rest s)

digits_value : {n a v : ℕ} {t : List ℕ} → HexDigits n a t v → v ≡ hex_from a t
unfolding hex_from
digits_value stop = refl
digits_value (more first rest) = rw (digit_at first).1 (digits_value rest)

pub digits_long : {n a v : ℕ} {t : List ℕ} → HexDigits n a t v → length t ≡ n
digits_long stop = refl
digits_long (more first rest) = ap suc (digits_long rest)

digits_of : (n a : ℕ) (s : List ℕ) → n ≤ run hexdig s → HexDigits n a (take n s) (hex_from a (take n s))
unfolding run hex_from
digits_of zero a s h = stop
digits_of (suc n) a [] h = absurd (omega arith)
digits_of (suc n) a (b ∷ s) enough = by_test (hexdig b) refl enough (digits_of n (a * 16 + hex_value b) s)
  where
    by_test : (test : Bool) → hexdig b ≡ test → suc n ≤ cond test (suc (run hexdig s)) 0
        → (n ≤ run hexdig s → HexDigits n (a * 16 + hex_value b) (take n s) (hex_from (a * 16 + hex_value b) (take n s)))
        → HexDigits (suc n) a (b ∷ take n s) (hex_from (a * 16 + hex_value b) (take n s))
    by_test true is more_left rest-digits = more (digit_is b is) (rest-digits (omega arith))
    by_test false is more_left rest-digits = absurd (omega arith)

-- what two digits name is a scalar value
pub digit_small : {c d : ℕ} → HexDig c d → d < 16
digit_small {c} {d} (HexDig.digit e h) = omega arith
digit_small {c} {d} (HexDig.upper e h k) = omega arith
digit_small {c} {d} (HexDig.lower e h k) = omega arith

-- no more digits: the text ends, and the number is the one before them
pub none_left : {a v : ℕ} {t : List ℕ} → HexDigits 0 a t v → (t ≡ []) × (v ≡ a)
none_left stop = (refl, refl)

pub two_scalar : {t : List ℕ} {v : ℕ} → HexDigits 2 0 t v → Scalar v
two_scalar (more {d = d} first (more {d = e} second rest)) =
    inl (omega (arith, digit_small first, digit_small second, (none_left rest).1))

-- ---- the shape of an escape: a visible byte, and then hex digits

-- an ASCII byte that is no quote mark, no backslash and no LF: it neither closes nor hides
abbrev pub Harmless : ℕ → Type 0
Harmless c = (0x30 ≤ c) × (c < 0x80) × (c ≡ 0x5C → ⊥)

pub record Shape (t : List ℕ) : Type 0 where
  pub letter : ℕ
  pub digits : List ℕ
  pub is : t ≡ letter ∷ digits
  pub visible : 0x22 ≤ letter
  pub low : letter < 0x80
  pub each : All Harmless digits

digits_harmless : {n a v : ℕ} {t : List ℕ} → HexDigits n a t v → All Harmless t
digits_harmless stop = tt
digits_harmless (more first rest) = (digit_harmless first, digits_harmless rest)
  where
    digit_harmless : {c d : ℕ} → HexDig c d → Harmless c
    digit_harmless {c} {d} (HexDig.digit code least) = (omega arith, omega arith, λ is-slash. omega arith)
    digit_harmless {c} {d} (HexDig.upper code least most) = (omega arith, omega arith, λ is-slash. omega arith)
    digit_harmless {c} {d} (HexDig.lower code least most) = (omega arith, omega arith, λ is-slash. omega arith)

one_shape : (b : ℕ) → 0x22 ≤ b → b < 0x80 → Shape (b ∷ [])
one_shape b least most = record { letter = b; digits = []; is = refl; visible = least; low = most; each = tt }

digits_shape : (b : ℕ) → 0x22 ≤ b → b < 0x80 → {n a v : ℕ} {t : List ℕ} → HexDigits n a t v → Shape (b ∷ t)
digits_shape b least most {t = t} digits =
    record { letter = b; digits = t; is = refl; visible = least; low = most; each = digits_harmless digits }

pub shape : {ed : Edition} {t : List ℕ} {v : ℕ} → EscapeSeqChar ed t v → Shape t
shape x22 = one_shape 0x22 (omega arith) (omega arith)
shape x5C = one_shape 0x5C (omega arith) (omega arith)
shape x62 = one_shape 0x62 (omega arith) (omega arith)
shape x66 = one_shape 0x66 (omega arith) (omega arith)
shape x6E = one_shape 0x6E (omega arith) (omega arith)
shape x72 = one_shape 0x72 (omega arith) (omega arith)
shape x74 = one_shape 0x74 (omega arith) (omega arith)
shape (x75 digits) = digits_shape 0x75 (omega arith) (omega arith) digits
shape (x55 digits) = digits_shape 0x55 (omega arith) (omega arith) digits
shape x65 = one_shape 0x65 (omega arith) (omega arith)
shape (x78 digits) = digits_shape 0x78 (omega arith) (omega arith) digits

pub escape_ascii : {ed : Edition} {t : List ℕ} {v : ℕ} → EscapeSeqChar ed t v → AllAscii t
escape_ascii char =
    let form = shape char in
    subst AllAscii (sym form.is) (form.low, all_weaken (λ c harmless. harmless.1) form.digits form.each)

-- ---- an escape is one piece that gives its character

simple_at : (ed : Edition) (b c : ℕ) → letter_of ed b ≡ Stands c → (at : ℕ) (s : List ℕ)
    → escape_piece ed at (b ∷ s) ≡ char_piece 2 c
simple_at ed b c letter at s = sym (escape_simple ed at (b ∷ s) c letter)

hex_at : (ed : Edition) (b n v : ℕ) (t : List ℕ) → letter_of ed b ≡ Asks n → HexDigits n 0 t v → Scalar v
    → (at : ℕ) (s : List ℕ) → escape_piece ed at (b ∷ (t ++ s)) ≡ char_piece (suc (length (b ∷ t))) v
hex_at ed b n v t letter digits scalar at s =
    let value : v ≡ hex_from 0 (take n (t ++ s)) = digits_value digits ∙ ap (hex_from 0) (sym (digits_taken digits s)) in
    sym (escape_hex ed at (b ∷ (t ++ s)) n letter)
    ∙ (sym (hex_char n at (t ++ s) v (digits_run digits s) value (scalar_true v scalar))
    ∙ ap (λ (i : ℕ). char_piece i v) (omega (arith, digits_long digits)))

pub escape_at : {ed : Edition} {t : List ℕ} {v : ℕ} (e : EscapeSeqChar ed t v) → Names e → (at : ℕ) (s : List ℕ)
    → escape_piece ed at (t ++ s) ≡ char_piece (suc (length t)) v
unfolding letter_of
escape_at {ed} x22 h = simple_at ed 0x22 0x22 refl
escape_at {ed} x5C h = simple_at ed 0x5C 0x5C refl
escape_at {ed} x62 h = simple_at ed 0x62 0x08 refl
escape_at {ed} x66 h = simple_at ed 0x66 0x0C refl
escape_at {ed} x6E h = simple_at ed 0x6E 0x0A refl
escape_at {ed} x72 h = simple_at ed 0x72 0x0D refl
escape_at {ed} x74 h = simple_at ed 0x74 0x09 refl
escape_at {ed} (x75 {t = t} {v = v} digits) names = hex_at ed 0x75 4 v t refl digits names
escape_at {ed} (x55 {t = t} {v = v} digits) names = hex_at ed 0x55 8 v t refl digits names
escape_at x65 h = simple_at Toml11 0x65 0x1B refl
escape_at (x78 {t = t} {v = v} digits) names = hex_at Toml11 0x78 2 v t refl digits (two_scalar digits)

-- so an escape is read, where the piece of a backslash is the piece of what follows it
pub escape_reads : (pieces : Pieces) {ed : Edition} {t : List ℕ} {v : ℕ} (char : EscapeSeqChar ed t v) → Names char
    → (at : ℕ) (s : List ℕ)
    → pieces false at (0x5C ∷ (t ++ s)) ≡ escape_piece ed at (t ++ s)
    → Reads pieces false at ((0x5C ∷ t) ++ s) (encode_scalar v) false s
escape_reads pieces {t = t} {v = v} char names at s slash =
    reads_for pieces false at (0x5C ∷ t) s v (slash ∙ escape_at char names at s) (omega arith)

-- ---- where an escape is read without error, the grammar derives it

pub record EscapedAt (ed : Edition) (s : List ℕ) : Type 0 where
  pub text : List ℕ
  pub rest : List ℕ
  pub value : ℕ
  pub split : s ≡ text ++ rest
  pub char : EscapeSeqChar ed text value
  pub names : Names char

-- the grammar's escape of the text t, with the value v
abbrev Named : Edition → List ℕ → ℕ → Type 0
Named ed t v = (e : EscapeSeqChar ed t v) × Names e

-- the grammar derives what the letter b after a backslash stands or asks for
unfoldable Right : Edition → ℕ → Letter → Type 0
Right ed b (Stands v) = Named ed (b ∷ []) v
Right ed b (Asks n) = (t : List ℕ) (v : ℕ) → HexDigits n 0 t v → Scalar v → Named ed (b ∷ t) v
Right ed b Neither = Unit {0}

-- b is the letter k of the table
right_stands : (ed : Edition) (k v : ℕ) → Named ed (k ∷ []) v → (b : ℕ) → b ≡ k → Right ed b (Stands v)
unfolding Right
right_stands ed k v named b same = subst (λ (c : ℕ). Named ed (c ∷ []) v) (sym same) named

right_asks : (ed : Edition) (k n : ℕ) → ((t : List ℕ) (v : ℕ) → HexDigits n 0 t v → Scalar v → Named ed (k ∷ t) v)
    → (b : ℕ) → b ≡ k → Right ed b (Asks n)
unfolding Right
right_asks ed k n named b same t v digits scalar = subst (λ (c : ℕ). Named ed (c ∷ t) v) (sym same) (named t v digits scalar)

right_neither : (ed : Edition) (b : ℕ) → Right ed b Neither
unfolding Right
right_neither ed b = tt

new_right : (ed : Edition) (b : ℕ) → Right ed b (new_letter ed b)
new_right Toml10 b = right_neither Toml10 b
new_right Toml11 b =
    by_eq (Right Toml11 b) b 0x65 (right_stands Toml11 0x65 0x1B (x65, tt) b)
    λ _. by_eq (Right Toml11 b) b 0x78 (right_asks Toml11 0x78 2 (λ t v digits scalar. (x78 digits, tt)) b)
    (λ _. right_neither Toml11 b)

letter_right : (ed : Edition) (b : ℕ) → Right ed b (letter_of ed b)
unfolding letter_of
letter_right ed b =
    by_eq (Right ed b) b 0x22 (right_stands ed 0x22 0x22 (x22, tt) b)
    λ _. by_eq (Right ed b) b 0x5C (right_stands ed 0x5C 0x5C (x5C, tt) b)
    λ _. by_eq (Right ed b) b 0x62 (right_stands ed 0x62 0x08 (x62, tt) b)
    λ _. by_eq (Right ed b) b 0x66 (right_stands ed 0x66 0x0C (x66, tt) b)
    λ _. by_eq (Right ed b) b 0x6E (right_stands ed 0x6E 0x0A (x6E, tt) b)
    λ _. by_eq (Right ed b) b 0x72 (right_stands ed 0x72 0x0D (x72, tt) b)
    λ _. by_eq (Right ed b) b 0x74 (right_stands ed 0x74 0x09 (x74, tt) b)
    λ _. by_eq (Right ed b) b 0x75 (right_asks ed 0x75 4 (λ t v digits scalar. (x75 digits, scalar)) b)
    λ _. by_eq (Right ed b) b 0x55 (right_asks ed 0x55 8 (λ t v digits scalar. (x55 digits, scalar)) b) (λ _. new_right ed b)

hex_clean : (n at : ℕ) (s : List ℕ) → (hex_piece n at s).verdict ≡ None → (n ≤ run hexdig s) × Scalar (hex_from 0 (take n s))
unfolding hex_piece
hex_clean n at s =
    let v = hex_from 0 (take n s) in
    let Claim : Piece → Type 0 = IfClean ((n ≤ run hexdig s) × Scalar v) in
    by_lt Claim (run hexdig s) n (λ too_few clean. absurd (wrong≢none clean))
    λ enough. cond_case Claim (is_scalar v) (λ scalar clean. (enough, true_scalar _ scalar))
    (λ not_scalar clean. absurd (wrong≢none clean))

hex_front : (ed : Edition) (b n at : ℕ) (s : List ℕ) → Right ed b (Asks n) → (hex_piece n at s).verdict ≡ None
    → EscapedAt ed (b ∷ s)
unfolding Right
hex_front ed b n at s named clean =
    let digits = hex_clean n at s clean in
    let escape = named (take n s) (hex_from 0 (take n s)) (digits_of n 0 s digits.0) digits.1 in
    record {
      text = b ∷ take n s;
      rest = drop n s;
      value = hex_from 0 (take n s);
      split = ap (b ∷◌) (sym (take-append-drop n s));
      char = escape.0;
      names = escape.1;
    }

simple_front : (ed : Edition) (b v : ℕ) (s : List ℕ) → Right ed b (Stands v) → EscapedAt ed (b ∷ s)
unfolding Right
simple_front ed b v s escape = record { text = b ∷ []; rest = s; value = v; split = refl; char = escape.0; names = escape.1 }

pub escape_inv : (ed : Edition) (at : ℕ) (s : List ℕ) → (escape_piece ed at s).verdict ≡ None → EscapedAt ed s
unfolding escape_piece
escape_inv ed at [] = λ clean. absurd (wrong≢none clean)
escape_inv ed at (b ∷ s) = by_letter (letter_of ed b) (letter_right ed b)
  where
    by_letter : (letter : Letter) → Right ed b letter → (escape_by letter at s).verdict ≡ None → EscapedAt ed (b ∷ s)
    by_letter (Stands v) right clean = simple_front ed b v s right
    by_letter (Asks n) right clean = hex_front ed b n at s right clean
    by_letter Neither right clean = absurd (wrong≢none clean)
