-- RULE. The byte sets of the lexer and the decoders, each with the line of TOML 1.0.0's ABNF that it follows, if any.
-- A set of bytes stands for a set of characters: every byte of a character beyond ASCII is 80 to FF.
use Rattle.std.specs.Prelude.{ℕ}
use mathlib.Core.{Bool.Bool, Bool.◌&&◌, Bool.◌||◌}
use lib.{Dec.leb, Dec.eqb}

-- b is one of a to e, both included
abbrev pub among : ℕ → ℕ → ℕ → Bool
among a e b = leb a b && leb b e

-- wschar =  %x20  ; Space
-- wschar =/ %x09  ; Horizontal tab
unfoldable pub wschar : ℕ → Bool
wschar b = eqb b 0x20 || eqb b 0x09

-- what ends an Atom: one of . = , [ ] { } space tab # CR LF (the lexer's own: no line of the ABNF)
unfoldable pub token_start : ℕ → Bool
token_start b =
    eqb b 0x2E || (eqb b 0x3D || (eqb b 0x2C || (eqb b 0x5B || (eqb b 0x5D || (eqb b 0x7B || (eqb b 0x7D
    || (eqb b 0x20 || (eqb b 0x09 || (eqb b 0x23 || (eqb b 0x0D || eqb b 0x0A))))))))))

-- non-ascii = %x80-D7FF / %xE000-10FFFF
abbrev pub non_ascii : ℕ → Bool
non_ascii b = leb 0x80 b

-- literal-char = %x09 / %x20-26 / %x28-7E / non-ascii
unfoldable pub literal_char : ℕ → Bool
literal_char b = eqb b 0x09 || (among 0x20 0x26 b || (among 0x28 0x7E b || non_ascii b))

-- mll-char = %x09 / %x20-26 / %x28-7E / non-ascii
unfoldable pub mll_char : ℕ → Bool
mll_char b = eqb b 0x09 || (among 0x20 0x26 b || (among 0x28 0x7E b || non_ascii b))

-- basic-unescaped = wschar / %x21 / %x23-5B / %x5D-7E / non-ascii
unfoldable pub basic_unescaped : ℕ → Bool
basic_unescaped b =
    (eqb b 0x20 || eqb b 0x09) || (eqb b 0x21 || (among 0x23 0x5B b || (among 0x5D 0x7E b || non_ascii b)))

-- mlb-unescaped = wschar / %x21 / %x23-5B / %x5D-7E / non-ascii
unfoldable pub mlb_unescaped : ℕ → Bool
mlb_unescaped b =
    (eqb b 0x20 || eqb b 0x09) || (eqb b 0x21 || (among 0x23 0x5B b || (among 0x5D 0x7E b || non_ascii b)))

-- DIGIT = %x30-39 ; 0-9
unfoldable pub digit : ℕ → Bool
digit b = among 0x30 0x39 b

-- HEXDIG = DIGIT / "A" / "B" / "C" / "D" / "E" / "F", in either case: a quoted letter of ABNF stands for both
unfoldable pub hexdig : ℕ → Bool
hexdig b = among 0x30 0x39 b || (among 0x41 0x46 b || among 0x61 0x66 b)

-- unquoted-key = 1*( ALPHA / DIGIT / %x2D / %x5F ) ; A-Z / a-z / 0-9 / - / _
-- ALPHA = %x41-5A / %x61-7A ; A-Z / a-z
unfoldable pub unquoted_char : ℕ → Bool
unquoted_char b =
    (among 0x41 0x5A b || among 0x61 0x7A b) || (among 0x30 0x39 b || (eqb b 0x2D || eqb b 0x5F))

-- 80 to BF: a byte inside a character
unfoldable pub continuation : ℕ → Bool
continuation b = among 0x80 0xBF b
