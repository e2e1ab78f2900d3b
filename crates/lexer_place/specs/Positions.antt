-- RULE. The line and column of an offset; what a line is stands in crate `lexer`, whose tokens bear it too.
use Rattle.std.specs.Prelude.{ℕ, ◌+◌, ◌-◌, Result, Ok, Err}
use mathlib.Core.{Bool.cond, List.List, List.[], List.◌∷◌}
use lib.{ListN.length, ListN.take, ListN.drop, Dec.ltb, Dec.eqb}
use Rattle.text_classes.specs.{Classes.continuation}
use Rattle.text_refusals.specs.{Refusals.limit}
use Rattle.text_scalars.specs.{Utf8.encode_scalar}
use Rattle.text_refusals.specs.declared.{Refusal.Refusal, Refusal.TheVariants.TooLong, Refusal.TheVariants.OutOfPlace}
use Rattle.lexer.specs.{Lines.line_of, Tokens.start_of}
use Rattle.lexer_place.specs.declared.{Position.Position}

-- the column after some bytes, where c is the column before them: an LF sets it to 1, a byte inside a character, 80 to BF,
-- adds nothing, and any other byte, with which a character begins, adds one
unfoldable pub column_behind : ℕ → List ℕ → ℕ
column_behind c [] = c
column_behind c (b ∷ s) = column_behind (cond (eqb b 0x0A) 1 (cond (continuation b) c (c + 1))) s

-- the column of `offset` is 1 plus the characters that begin before it on its line; a byte order mark at byte 0 is not counted
abbrev pub column_of : List ℕ → ℕ → ℕ
column_of doc offset = column_behind 1 (drop (start_of doc) (take offset doc))

-- the position: refusal 2, then 6 with the document's length for an offset beyond it
unfoldable pub position_answer : List ℕ → ℕ → Result Position Refusal
position_answer doc offset =
    cond (ltb limit (length doc)) (Err TooLong)
    (cond (ltb (length doc) offset) (Err (OutOfPlace (length doc)))
    (Ok (record { line = line_of doc offset; column = column_of doc offset })))

-- What a column says of a document that is UTF-8: it counts scalar values. `column_means` in proofs/ColumnLaws.antt proves it,
-- over what follows.

-- of scalar values whose encodings are joined, those whose encodings begin before the offset n
unfoldable pub begun : ℕ → List ℕ → List ℕ
begun n [] = []
begun n (c ∷ cs) = cond (ltb 0 n) (c ∷ begun (n - length (encode_scalar c)) cs) []

-- scalar values without a byte order mark, U+FEFF, at the front
abbrev pub unmarked : List ℕ → List ℕ
unmarked [] = []
unmarked (c ∷ cs) = cond (eqb c 0xFEFF) cs (c ∷ cs)

-- how many scalar values stand after the last LF, where n stand before them on the first line
unfoldable pub on_line : ℕ → List ℕ → ℕ
on_line n [] = n
on_line n (c ∷ cs) = on_line (cond (eqb c 0x0A) 0 (n + 1)) cs
