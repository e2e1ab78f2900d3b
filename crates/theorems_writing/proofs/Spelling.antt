-- The spelling of one character: TOML derives it, and it leads every other spelling that TOML 1.0.0 derives.
use Prim.Native.Nat.{ℕ, ◌+◌, ◌*◌, ◌/◌, ◌%◌, ◌≤◌, ◌<◌}
use mathlib.Core.Path.{◌≡◌, refl, ap, subst}
use mathlib.Core.Bool.{true, false}
use mathlib.Core.List.{List, [], ◌∷◌, append-nil}
use native.Mathlib.Omega.{arith}
use lib.ListN.{length}
use Rattle.text_classes.specs.Classes.{basic_unescaped}
use Rattle.text_classes.proofs.Conds.{cond_case, by_lt, by_eq, not_both}
use Rattle.text_scalars.specs.Utf8.{Scalar, encode_scalar, encodes}
use Rattle.text_scalars.proofs.EncodeLaws.{encode_length}
use Rattle.decoder_rules.specs.declared.Edition.{Edition}
use Rattle.decoder_rules.specs.declared.Edition.TheVariants.{Toml10, Toml11}
use Rattle.decoder_rules.proofs.AsciiLaws.{basic_high}
use Rattle.theorems_grammar.specs.Grammar.{HexDig, HexDigits, stop, more, EscapeSeqChar, x22, x5C, x62, x66, x6E, x72, x74, x75, x55, x65, x78, escaped, BasicChar}
use Rattle.theorems_grammar.proofs.ClassLaws.{basic_at, basic_is}
use Rattle.theorems_grammar.proofs.Encoded.{ascii, beyond, side, AllAscii, ascii_whole}
use Rattle.theorems_grammar.proofs.Escapes.{digits_long, digit_small, none_left, escape_ascii}
use Rattle.std.specs.Prelude.{Option, None}
use Rattle.built_writing.specs.Writing.{hex_digit, spelling_of, spelling, spell}
use Rattle.theorems_writing.specs.Shortest.{NotAfter, end, same}
use Rattle.theorems_writing.proofs.Order.{not_after_cons, Leads, shorter, level, leads_self}

-- ---- the three shapes of a spelling

pub data Spelled (c : ℕ) : List ℕ → Type 0 where
  plainly : basic_unescaped c ≡ true → Spelled c (c ∷ [])
  shortly : {x : ℕ} → ((ed : Edition) → EscapeSeqChar ed (x ∷ []) c) → x < 0x80 → c < 0x80 → Spelled c (0x5C ∷ (x ∷ []))
  by_code : c < 0x80 → Spelled c (spelling None c)

plain_high : (c : ℕ) → basic_unescaped c ≡ false → c < 0x80
plain_high c e = elim (side c) [ ascii h ↦ h | beyond h ↦ not_both (basic_high c h) e ]

pub spelled : (c : ℕ) → Spelled c (spell c)
unfolding spell spelling_of
spelled c = cond_case (Spelled c) (basic_unescaped c) plainly λ n.
    let P : Option ℕ → Type 0 = λ r. Spelled c (spelling r c) in
    by_eq P c 0x22 (λ e. rw e (shortly (λ ed. x22) (omega arith) (omega arith)))
    λ _. by_eq P c 0x5C (λ e. rw e (shortly (λ ed. x5C) (omega arith) (omega arith)))
    λ _. by_eq P c 0x08 (λ e. rw e (shortly (λ ed. x62) (omega arith) (omega arith)))
    λ _. by_eq P c 0x0C (λ e. rw e (shortly (λ ed. x66) (omega arith) (omega arith)))
    λ _. by_eq P c 0x0A (λ e. rw e (shortly (λ ed. x6E) (omega arith) (omega arith)))
    λ _. by_eq P c 0x0D (λ e. rw e (shortly (λ ed. x72) (omega arith) (omega arith)))
    λ _. by_code (plain_high c n)

-- ---- it is derived

hex_digit_lem : (d : ℕ) → d < 16 → HexDig (hex_digit d) d
hex_digit_lem d h = by_lt (λ (x : ℕ). HexDig x d) d 10 (λ l. HexDig.digit refl l) (λ l. HexDig.upper refl l h)

coded_digits : (c : ℕ) → c < 0x80 → HexDigits 4 0 (0x30 ∷ (0x30 ∷ (hex_digit (c / 16) ∷ (hex_digit (c % 16) ∷ [])))) c
coded_digits c h =
    let value : (((0 * 16 + 0) * 16 + 0) * 16 + c / 16) * 16 + c % 16 ≡ c = omega arith in
    subst (HexDigits 4 0 (0x30 ∷ (0x30 ∷ (hex_digit (c / 16) ∷ (hex_digit (c % 16) ∷ []))))) value
    (more (hex_digit_lem 0 (omega arith)) (more (hex_digit_lem 0 (omega arith))
    (more (hex_digit_lem (c / 16) (omega arith)) (more (hex_digit_lem (c % 16) (omega arith)) stop))))

pub spelled_derived : {ed : Edition} {c : ℕ} {w : List ℕ} → Scalar c → Spelled c w → BasicChar ed w c
spelled_derived {c = c} s (plainly h) = BasicChar.unescaped (basic_is c s h)
spelled_derived {ed} s (shortly e h k) = BasicChar.escaped_char (escaped (e ed))
spelled_derived {c = c} s (by_code h) = BasicChar.escaped_char (escaped (x75 (coded_digits c h)))

-- ---- its bytes

coded_ascii : (c : ℕ) → c < 0x80 → AllAscii (spelling None c)
coded_ascii c h =
    let digits : AllAscii (0x75 ∷ (0x30 ∷ (0x30 ∷ (hex_digit (c / 16) ∷ (hex_digit (c % 16) ∷ []))))) =
    escape_ascii {ed = Toml10} (x75 (coded_digits c h)) in
    (omega arith, digits)

-- a character below 80 is spelt in ASCII
pub spelled_ascii : {c : ℕ} {w : List ℕ} → c < 0x80 → Spelled c w → AllAscii w
spelled_ascii h (plainly e) = (h, tt)
spelled_ascii h (shortly e l k) = (omega arith, (l, tt))
spelled_ascii {c} h (by_code k) = coded_ascii c k

pub one_char : (c : ℕ) → encodes (c ∷ []) ≡ encode_scalar c
one_char c = append-nil (encode_scalar c)

spelled_six : {c : ℕ} {w : List ℕ} → Spelled c w → length (encodes w) ≤ 6
spelled_six {c} (plainly e) = omega (arith, ap length (one_char c), encode_length c)
spelled_six {c} {w} (shortly e l k) = omega (arith, ap length (ascii_whole w (omega arith, (l, tt))))
spelled_six {c} {w} (by_code k) = omega (arith, ap length (ascii_whole w (coded_ascii c k)))

-- ---- no other leads it

-- the capital is the smallest of the digits with a value
digit_least : {c d : ℕ} → HexDig c d → hex_digit d ≤ c
digit_least {c} {d} (HexDig.digit e h) = by_lt (λ (x : ℕ). x ≤ c) d 10 (λ l. omega arith) (λ l. omega arith)
digit_least {c} {d} (HexDig.upper e h k) = by_lt (λ (x : ℕ). x ≤ c) d 10 (λ l. omega arith) (λ l. omega arith)
digit_least {c} {d} (HexDig.lower e h k) = by_lt (λ (x : ℕ). x ≤ c) d 10 (λ l. omega arith) (λ l. omega arith)

digit_at : {c d : ℕ} → HexDig c d → (n : ℕ) → n ≡ d → hex_digit n ≤ c
digit_at h n e = rw e (digit_least h)

digits_least : {t : List ℕ} {v : ℕ} → HexDigits 4 0 t v → v < 0x80
    → NotAfter (0x30 ∷ (0x30 ∷ (hex_digit (v / 16) ∷ (hex_digit (v % 16) ∷ [])))) t
digits_least (more {d = a} x (more {d = b} y (more {d = c} z (more {d = d} w rest)))) h =
    let left = none_left rest in
    let v = (((0 * 16 + a) * 16 + b) * 16 + c) * 16 + d in
    rw (left.1, left.0)
    (not_after_cons (digit_at x 0 (omega arith))
    (not_after_cons (digit_at y 0 (omega arith))
    (not_after_cons (digit_at z (v / 16) (omega (arith, digit_small w)))
    (not_after_cons (digit_at w (v % 16) (omega (arith, digit_small w))) end))))

code_least : {c : ℕ} {w t : List ℕ} → Spelled c w → HexDigits 4 0 t c → Leads (encodes w) (0x5C ∷ (0x75 ∷ t))
code_least {c} (plainly e) d = shorter (omega (arith, ap length (one_char c), encode_length c, digits_long d))
code_least {w = w} (shortly e l k) d = shorter (omega (arith, ap length (ascii_whole w (omega arith, (l, tt))), digits_long d))
code_least {c} {w} (by_code h) d =
    rw (ascii_whole w (coded_ascii c h)) (level (omega (arith, digits_long d)) (same (same (digits_least d h))))

escape_bytes : {ed : Edition} {t : List ℕ} {c : ℕ} → EscapeSeqChar ed t c → encodes (0x5C ∷ t) ≡ 0x5C ∷ t
escape_bytes {t = t} e = ascii_whole (0x5C ∷ t) (omega arith, escape_ascii e)

other_edition : Toml11 ≡ Toml10 → ⊥
other_edition e = let z : ◌≡◌ {A = ℕ} 0 1 = cc in omega arith

escape_least : {ed : Edition} {t : List ℕ} {c : ℕ} → EscapeSeqChar ed t c → ed ≡ Toml10
    → Leads (encodes (spell c)) (encodes (0x5C ∷ t))
unfolding spell spelling_of basic_unescaped
escape_least x22 e = leads_self (encodes (0x5C ∷ (0x22 ∷ [])))
escape_least x5C e = leads_self (encodes (0x5C ∷ (0x5C ∷ [])))
escape_least x62 e = leads_self (encodes (0x5C ∷ (0x62 ∷ [])))
escape_least x66 e = leads_self (encodes (0x5C ∷ (0x66 ∷ [])))
escape_least x6E e = leads_self (encodes (0x5C ∷ (0x6E ∷ [])))
escape_least x72 e = leads_self (encodes (0x5C ∷ (0x72 ∷ [])))
escape_least x74 e = rw (escape_bytes {ed = Toml10} x74, ascii_whole (0x09 ∷ []) (omega arith, tt)) (shorter (omega arith))
escape_least (x75 {v = c} d) e = rw (escape_bytes {ed = Toml10} (x75 d)) (code_least (spelled c) d)
escape_least (x55 {v = c} d) e =
    rw (escape_bytes {ed = Toml10} (x55 d)) (shorter (omega (arith, spelled_six (spelled c), digits_long d)))
escape_least x65 e = absurd (other_edition e)
escape_least (x78 d) e = absurd (other_edition e)

pub spell_least : {t : List ℕ} {c : ℕ} → BasicChar Toml10 t c → Leads (encodes (spell c)) (encodes t)
unfolding spell
spell_least {c = c} (BasicChar.unescaped u) = rw (basic_at u) (leads_self (encodes (c ∷ [])))
spell_least (BasicChar.escaped_char (escaped e)) = escape_least e refl
