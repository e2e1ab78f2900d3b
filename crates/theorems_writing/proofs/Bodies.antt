-- A whole value: what is spelt is derived, and leads every other basic string; and a literal string has the value as it is.
-- Bytes and code points are spelt alike.
use Prim.Native.Nat.{ℕ, suc, ◌≤◌}
use mathlib.Core.Path.{◌≡◌, refl, sym, ◌∙◌, ap}
use mathlib.Core.Bool.{Bool, true, false, cond}
use mathlib.Core.List.{List, [], ◌∷◌, ◌++◌, append_assoc, append-nil}
use native.Mathlib.Omega.{arith}
use lib.ListN.{length, length-append}
use Rattle.text_classes.specs.Classes.{basic_unescaped, literal_char}
use Rattle.text_classes.specs.Runs.{run}
use Rattle.text_classes.proofs.Conds.{cond_case}
use Rattle.text_scalars.specs.Utf8.{Scalar, All, encode_scalar, encodes}
use Rattle.text_scalars.proofs.EncodeLaws.{encode_1}
use Rattle.text_scalars.proofs.ReadLaws.{encodes_append}
use Rattle.text_scalars.proofs.CutLaws.{all_parts}
use Rattle.decoder_rules.specs.declared.Edition.{Edition}
use Rattle.decoder_rules.specs.declared.Edition.TheVariants.{Toml10}
use Rattle.decoder_rules.proofs.AsciiLaws.{basic_high, literal_high}
use Rattle.theorems_grammar.specs.Grammar.{BasicChars, BasicString, basic_string, LiteralChars, LiteralString, literal_string}
use Rattle.theorems_grammar.proofs.ClassLaws.{literal_at, literal_is}
use Rattle.theorems_grammar.proofs.Encoded.{Side, ascii, beyond, side, ascii_whole, char_bytes, chars_bytes}
use Rattle.theorems_grammar.proofs.LineMarks.{marked, encodes_marked}
use Rattle.std.specs.Prelude.{Option, Some, None}
use Rattle.built_writing.specs.Writing.{spelling_of, spelling, spell, spelt, literal_text, basic_text}
use Rattle.theorems_writing.proofs.Order.{Leads, leads_self, leads_join}
use Rattle.theorems_writing.proofs.Spelling.{spelled, spelled_derived, spelled_ascii, one_char, spell_least}

-- ---- bytes and code points

spell_high : (b : ℕ) → 0x80 ≤ b → spell b ≡ b ∷ []
unfolding spell
spell_high b h = rw (basic_high b h)

spelt_append : (s t : List ℕ) → spelt (s ++ t) ≡ spelt s ++ spelt t
unfolding spelt
spelt_append [] t = refl
spelt_append (b ∷ s) t = ap (λ (l : List ℕ). spell b ++ l) (spelt_append s t) ∙ sym (append_assoc (spell b) (spelt s) (spelt t))

spelt_same : (s : List ℕ) → All (λ b. spell b ≡ b ∷ []) s → spelt s ≡ s
unfolding spelt
spelt_same [] h = refl
spelt_same (b ∷ s) h = rw h.0 (ap (b ∷◌) (spelt_same s h.1))

spelt_one : (c : ℕ) → spelt (c ∷ []) ≡ spell c
unfolding spelt
spelt_one c = append-nil (spell c)

spelt_char : (c : ℕ) → spelt (encode_scalar c) ≡ encodes (spell c)
spelt_char c = elim (side c) [
  | ascii h ↦ ap spelt (encode_1 c h) ∙ spelt_one c ∙ sym (ascii_whole (spell c) (spelled_ascii h (spelled c)))
  | beyond h ↦
      spelt_same (encode_scalar c) (char_bytes spell_high c (spell_high c h)) ∙ sym (one_char c)
      ∙ sym (ap encodes (spell_high c h))
]

spelt_bytes : (v : List ℕ) → spelt (encodes v) ≡ encodes (spelt v)
unfolding spelt
spelt_bytes [] = refl
spelt_bytes (c ∷ v) =
    spelt_append (encode_scalar c) (encodes v) ∙ ap (λ (l : List ℕ). l ++ spelt (encodes v)) (spelt_char c)
    ∙ ap (λ (l : List ℕ). encodes (spell c) ++ l) (spelt_bytes v) ∙ sym (encodes_append (spell c) (spelt v))

-- what holds of all bytes of code points, and of all beyond ASCII, holds of the code points
bytes_chars : {P : ℕ → Type 0} → ((b : ℕ) → 0x80 ≤ b → P b) → (v : List ℕ) → All P (encodes v) → All P v
bytes_chars high [] h = tt
bytes_chars {P} high (c ∷ v) h =
    let parts = all_parts P (encode_scalar c) (encodes v) h in
    (char (side c) parts.0, bytes_chars high v parts.1)
  where
    char : Side c → All P (encode_scalar c) → P c
    char (ascii l) a = (rw (encode_1 c l) at a).0
    char (beyond l) a = high c l

-- ---- basic strings

pub spelt_derived : (ed : Edition) (v : List ℕ) → All Scalar v → BasicChars ed (spelt v) v
unfolding spelt
spelt_derived ed [] h = BasicChars.stop
spelt_derived ed (c ∷ v) h = BasicChars.more (spelled_derived h.0 (spelled c)) (spelt_derived ed v h.1)

spelt_least : {t v : List ℕ} → BasicChars Toml10 t v → Leads (encodes (spelt v)) (encodes t)
unfolding spelt
spelt_least BasicChars.stop = leads_self []
spelt_least (BasicChars.more {t} {r} {vs} {v} c d) =
    rw (encodes_append (spell v) (spelt vs), encodes_append t r) (leads_join (spell_least c) (spelt_least d))

pub basic_bytes : (v : List ℕ) → encodes (marked 0x22 (spelt v)) ≡ basic_text (encodes v)
basic_bytes v = encodes_marked 0x22 (omega arith) (spelt v) ∙ ap (marked 0x22) (sym (spelt_bytes v))

-- it leads every basic string with that value
pub basic_leads : {t v : List ℕ} → BasicString Toml10 t v → Leads (basic_text (encodes v)) (encodes t)
basic_leads {v = v} (basic_string {t} d) =
    rw (encodes_marked 0x22 (omega arith) t, spelt_bytes v)
    (leads_join (leads_self (0x22 ∷ [])) (leads_join (spelt_least d) (leads_self (0x22 ∷ []))))

spelling_some : (r : Option ℕ) (b : ℕ) → 1 ≤ length (spelling r b)
spelling_some (Some x) b = omega arith
spelling_some None b = omega arith

spell_some : (b : ℕ) → 1 ≤ length (spell b)
unfolding spell
spell_some b =
    cond_case (λ (w : List ℕ). 1 ≤ length w) (basic_unescaped b) (λ e. omega arith) (λ e. spelling_some (spelling_of b) b)

-- and is no shorter than the literal one
pub spelt_long : (s : List ℕ) → length s ≤ length (spelt s)
unfolding spelt
spelt_long [] = omega arith
spelt_long (b ∷ s) = omega (arith, length-append (spell b) (spelt s), spell_some b, spelt_long s)

-- ---- literal strings

abbrev Literal : List ℕ → Type 0
Literal s = All (λ b. literal_char b ≡ true) s

run_all : (s : List ℕ) → run literal_char s ≡ length s → Literal s
unfolding run
run_all [] e = tt
run_all (b ∷ s) e = go (literal_char b) refl e (run_all s)
  where
    go : (t : Bool) → literal_char b ≡ t → cond t (suc (run literal_char s)) 0 ≡ suc (length s)
        → (run literal_char s ≡ length s → Literal s) → (literal_char b ≡ true) × Literal s
    go true f e more = (f, more (omega arith))
    go false f e more = absurd (omega arith)

all_run : (s : List ℕ) → Literal s → run literal_char s ≡ length s
unfolding run
all_run [] h = refl
all_run (b ∷ s) h = rw h.0 (ap suc (all_run s h.1))

literal_chars : (v : List ℕ) → All Scalar v → Literal v → LiteralChars v
literal_chars [] s h = LiteralChars.stop
literal_chars (c ∷ v) s h = LiteralChars.more (literal_is c s.0 h.0) (literal_chars v s.1 h.1)

chars_literal : {v : List ℕ} → LiteralChars v → Literal v
chars_literal LiteralChars.stop = tt
chars_literal (LiteralChars.more c r) = (literal_at c, chars_literal r)

pub literal_derived : (v : List ℕ) → All Scalar v → run literal_char (encodes v) ≡ length (encodes v)
    → LiteralString (marked 0x27 v) v
literal_derived v s e = literal_string (literal_chars v s (bytes_chars literal_high v (run_all (encodes v) e)))

pub literal_bytes : (v : List ℕ) → encodes (marked 0x27 v) ≡ literal_text (encodes v)
literal_bytes v = encodes_marked 0x27 (omega arith) v

-- a literal string is that one, and has bytes that may stand in it
pub literal_shape : {t v : List ℕ} → LiteralString t v
    → (encodes t ≡ literal_text (encodes v)) × (run literal_char (encodes v) ≡ length (encodes v))
literal_shape (literal_string {s} r) = (literal_bytes s, all_run (encodes s) (chars_bytes literal_high s (chars_literal r)))
