-- RULE. The tokens of a document.
use Rattle.std.specs.Prelude.{ℕ, zero, suc, pred, ◌+◌}
use mathlib.Core.{Bool.Bool, Bool.cond, Bool.◌&&◌, List.List, List.[], List.◌∷◌}
use lib.{ListN.take, ListN.drop}
use Rattle.text_classes.specs.{Runs.stands}
use Rattle.lexer_token.specs.declared.{TokenKind.TheVariants.Eof, Token.Token}
use Rattle.lexer_token.specs.{Records.token_of}
use Rattle.lexer.specs.{Lines.line_feeds, Lines.line_behind, Table.kind_of, Table.token_len}
use Rattle.lexer.specs.declared.{Found.Found}

-- the token at the front of the bytes s, which stand from the place `at` on; `line` is the line of its first byte. Where there are
-- no bytes it is Eof
abbrev pub token_at : ℕ → ℕ → List ℕ → Token
token_at at line s = token_of (kind_of s) at (at + token_len s) line

-- the token at the end
abbrev pub eof_at : ℕ → ℕ → Token
eof_at at line = token_of Eof at at line

-- the line after that token, counted on by the LFs in it
abbrev pub line_after : ℕ → List ℕ → ℕ
line_after line s = line + line_feeds (take (token_len s) s)

-- what an engine says of that token: its kind, its end and the LFs in it. Of no bytes: Eof, which ends where it begins and holds none
abbrev pub found_at : ℕ → List ℕ → Found
found_at at s = record { kind = kind_of s; end = at + token_len s; feeds = line_feeds (take (token_len s) s) }

-- tokens without gap to the end, then one Eof; `skip` counts the bytes of a token that are still to be passed, and each LF
-- that is passed is a line more. `Tokens-none` and `tokens_cons` in proofs/TokenLaws.antt say it without the counter
unfoldable pub walk : ℕ → ℕ → ℕ → List ℕ → List Token
walk at line skip [] = eof_at at line ∷ []
walk at line zero (b ∷ s) = token_at at line (b ∷ s) ∷ walk (at + 1) (line_behind line b) (pred (token_len (b ∷ s))) s
walk at line (suc k) (b ∷ s) = walk (at + 1) (line_behind line b) k s

-- the tokens of the bytes s, with `at` and `line` as above
unfoldable pub tokens_from : ℕ → ℕ → List ℕ → List Token
tokens_from at line s = walk at line 0 s

-- a byte order mark stands at the front: EF BB BF
abbrev pub has_bom : List ℕ → Bool
has_bom s = stands 0xEF s && (stands 0xBB (drop 1 s) && stands 0xBF (drop 2 s))

-- where lexing starts: after a byte order mark, else at byte 0
unfoldable pub start_of : List ℕ → ℕ
start_of s = cond (has_bom s) 3 0

-- the tokens of a document, from line 1 on: each bears the line of its first byte, as `token_line` proves in crate `theorems_tokens`
unfoldable pub tokens_of : List ℕ → List Token
tokens_of s = tokens_from (start_of s) 1 (drop (start_of s) s)
