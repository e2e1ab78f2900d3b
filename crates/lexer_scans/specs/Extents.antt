-- RULE. How far each kind of token reaches, on the list of bytes from a place on, for all bytes: first which bytes end it, close
-- it, and hide the byte after them.
use Rattle.std.specs.Prelude.{ℕ, suc, ◌+◌}
use mathlib.Core.{Bool.Bool, Bool.not, Bool.cond, Bool.◌&&◌, Bool.◌||◌, List.List, List.[], List.◌∷◌}
use lib.{ListN.drop, Dec.eqb}
use Rattle.text_classes.specs.{Classes.token_start, Runs.stands, Runs.triple}

-- CR or LF
abbrev pub eol : ℕ → Bool
eol b = eqb b 0x0D || eqb b 0x0A

-- goes on with a comment
abbrev pub in_comment : ℕ → Bool
in_comment b = not (eol b)

-- goes on with an atom
abbrev pub in_atom : ℕ → Bool
in_atom b = not (token_start b)

-- In a string with the quote mark q, at a byte that is hidden or not: does b hide the next byte? In the basic kinds a
-- backslash does. So said, it hides any byte; that only a backslash or the mark matters is proved, as `line_hidden_other`
-- and `ml_hidden_other` in proofs/TailLaws.antt.
abbrev pub hides : ℕ → Bool → ℕ → Bool
hides q h b = not h && (eqb q 0x22 && eqb b 0x5C)

-- does b, hidden or not, close a string on one line with the quote mark q?
abbrev pub closes : ℕ → Bool → ℕ → Bool
closes q h b = not h && eqb b q

-- after the opening mark q of a string on one line: through the first q that is not hidden, else up to the next LF,
-- whichever is first, else to the end; h says whether the first byte is hidden. A CR does not stop it
unfoldable pub line_tail : ℕ → Bool → List ℕ → ℕ
line_tail q h [] = 0
line_tail q h (b ∷ s) = cond (closes q h b) 1 (cond (eqb b 0x0A) 0 (suc (line_tail q (hides q h b) s)))

-- the marks q at the front, of which two count at most
unfoldable pub up_to_two : ℕ → List ℕ → ℕ
up_to_two q s = cond (stands q s) (cond (stands q (drop 1 s)) 2 1) 0

-- after the opening marks: through the next three marks that are not hidden, then up to two more; without them to the end
unfoldable pub ml_tail : ℕ → Bool → List ℕ → ℕ
ml_tail q h [] = 0
ml_tail q h (b ∷ s) =
    cond (not h && triple q (b ∷ s)) (3 + up_to_two q (drop 3 (b ∷ s))) (suc (ml_tail q (hides q h b) s))

-- after the first byte of a newline: the LF after a CR, if it is there; a CR alone is a newline too
unfoldable pub newline_tail : List ℕ → ℕ
newline_tail s = cond (stands 0x0D s && stands 0x0A (drop 1 s)) 1 0
