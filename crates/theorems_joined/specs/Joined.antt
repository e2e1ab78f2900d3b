-- STATEMENT. A document joined from a head and a tail: when its tokens are the head's without `Eof` and then the tail's, moved on;
-- that each of the three conditions is needed; and what follows for the call `lex`, for strings, for positions and for more
-- parts. Each is proved under the name that its comment gives: the law for two parts and more in proofs/Joined.antt, the pairs
-- that break it in proofs/Needed.antt, the others in proofs/Corollaries.antt.
-- The head's lines are its LFs: a CR alone is a Newline token, and ends no line.
use Rattle.std.specs.Prelude.{ℕ, ◌+◌, ◌-◌, ◌≤◌, ◌≡◌, ◌⊎◌, false, length, get_or, take, drop, Ok, Result}
use Rattle.std.proofs.Math.Option.{some}
use mathlib.Core.List.{List, [], ◌∷◌, ◌++◌, map, flatten, head?, get_last?, drop_last, Memᴰ}
use Rattle.text_refusals.specs.Refusals.{limit}
use Rattle.text_scalars.specs.Utf8.{Utf8}
use Rattle.lexer_token.specs.declared.TokenKind.{TokenKind}
use Rattle.lexer_token.specs.declared.TokenKind.TheVariants.{Newline}
use Rattle.lexer_token.specs.declared.Token.{Token}
use Rattle.lexer_token.specs.KindNumbers.{kind_number}
use Rattle.lexer_token.specs.Records.{token_of, text_of}
use Rattle.lexer.specs.Lines.{line_feeds, line_of}
use Rattle.lexer.specs.Tokens.{eof_at, has_bom, tokens_of}
use Rattle.lexer.specs.Whole.{token_count, lex_answer, lex_memory}
use Rattle.lexer_place.specs.Positions.{column_of, position_answer}
use Rattle.lexer_place.specs.Told.{position_line}
use Rattle.decoder_rules.specs.Encodings.{choice_by}
use Rattle.decoder_rules.specs.Decoding.{bytes_by, errors_by, decode_in}
use Rattle.decoder_rules.specs.declared.Decoded.{Decoded}
use Rattle.text_refusals.specs.declared.Refusal.{Refusal}

-- ---- the law

-- the kinds of the tokens before `Eof`, which is the last token
abbrev pub kinds_before : List Token → List TokenKind
kinds_before ts = map (λ (t : Token). t.kind) (drop_last ts)

-- the head's last token before `Eof` is a Newline
abbrev pub EndsInNewline : List ℕ → Type 0
EndsInNewline head = get_last? (kinds_before (tokens_of head)) ≡ some Newline

-- the tail has no byte order mark
abbrev pub Unmarked : List ℕ → Type 0
Unmarked tail = has_bom tail ≡ false

-- it is not the case that the head ends in CR and the tail begins with LF
abbrev pub NoCrLf : List ℕ → List ℕ → Type 0
NoCrLf head tail = get_last? head ≡ some 0x0D → head? tail ≡ some 0x0A → ⊥

-- the three conditions: the tail may follow the head
pub record Joins (head tail : List ℕ) : Type 0 where
  pub newline : EndsInNewline head
  pub unmarked : Unmarked tail
  pub no_crlf : NoCrLf head tail

-- a token moved on by some bytes and some lines
abbrev pub moved : ℕ → ℕ → Token → Token
moved bytes lines t = token_of t.kind (t.span.start + bytes) (t.span.end + bytes) (t.line + lines)

-- a token of the tail, moved on by the head's length and its lines
abbrev pub moved_by : List ℕ → Token → Token
moved_by head t = moved (length head) (line_feeds head) t

-- the head's tokens without its `Eof`, then the tail's, moved on
abbrev pub tokens_of_both : List ℕ → List ℕ → List Token
tokens_of_both head tail = drop_last (tokens_of head) ++ map (moved_by head) (tokens_of tail)

-- `joined`: these are the tokens of the joined document. The law holds of all bytes, UTF-8 or not, and of any length
abbrev pub Joined : Type 0
Joined = (head tail : List ℕ) → Joins head tail → tokens_of (head ++ tail) ≡ tokens_of_both head tail

-- `eof_last`: what `drop_last` leaves out is `Eof`
abbrev pub EofLast : Type 0
EofLast = (doc : List ℕ) → tokens_of doc ≡ drop_last (tokens_of doc) ++ (eof_at (length doc) (line_of doc (length doc)) ∷ [])

-- ---- each condition is needed

-- a pair that breaks the law, though both are UTF-8 and together within the limit
pub record Breaks (head tail : List ℕ) : Type 0 where
  pub head_utf8 : Utf8 head
  pub tail_utf8 : Utf8 tail
  pub within : length head + length tail ≤ limit
  pub breaks : tokens_of (head ++ tail) ≡ tokens_of_both head tail → ⊥

-- three apostrophes and an LF: the head ends in an LF, which stands in a string that is still open
abbrev pub open_string : List ℕ
open_string = 0x27 ∷ 0x27 ∷ 0x27 ∷ 0x0A ∷ []

-- the letter a, a CR, an LF, and a byte order mark
abbrev pub letter : List ℕ
letter = 0x61 ∷ []

abbrev pub cr : List ℕ
cr = 0x0D ∷ []

abbrev pub lf : List ℕ
lf = 0x0A ∷ []

abbrev pub mark : List ℕ
mark = 0xEF ∷ 0xBB ∷ 0xBF ∷ []

-- `newline_needed`: in the joined document the string goes on over the letter
abbrev pub NewlineNeeded : Type 0
NewlineNeeded = Breaks open_string letter × Unmarked letter × NoCrLf open_string letter

-- `unmarked_needed`: in the joined document the mark is an Atom
abbrev pub UnmarkedNeeded : Type 0
UnmarkedNeeded = Breaks lf mark × EndsInNewline lf × NoCrLf lf mark

-- `no_crlf_needed`: in the joined document CR LF is one Newline
abbrev pub NoCrLfNeeded : Type 0
NoCrLfNeeded = Breaks cr lf × EndsInNewline cr × Unmarked lf

-- ---- the call `lex`

-- a record of four numbers, moved on as its token is
abbrev pub moved_record : List ℕ → List ℕ → List ℕ
moved_record head r = get_or r 0 0 ∷ (get_or r 1 0 + length head) ∷ (get_or r 2 0 + length head) ∷ (get_or r 3 0 + line_feeds head) ∷ []

-- the tokens of both, `Eof` counted once
abbrev pub count_of_both : List ℕ → List ℕ → ℕ
count_of_both head tail = token_count head - 1 + token_count tail

-- what the calls answer and leave that lex the head, the tail and the joined document into records of their own
pub record LexedBoth (head tail : List ℕ) (headRecords tailRecords records : List (List ℕ)) : Type 0 where
  pub head_answer : lex_answer head (length headRecords) ≡ Ok (token_count head)
  pub tail_answer : lex_answer tail (length tailRecords) ≡ Ok (token_count tail)
  pub answer : lex_answer (head ++ tail) (length records) ≡ Ok (count_of_both head tail)
  -- the head's records but the last, then the tail's, moved on, and the old ones after them
  pub memory : lex_memory (head ++ tail) records
      ≡ take (token_count head - 1) (lex_memory head headRecords)
      ++ map (moved_record head) (take (token_count tail) (lex_memory tail tailRecords))
      ++ drop (count_of_both head tail) records

-- `count_of_both_lem`: so many records the joined document needs
abbrev pub CountOfBoth : Type 0
CountOfBoth = (head tail : List ℕ) → Joins head tail → token_count (head ++ tail) ≡ count_of_both head tail

-- `lexed_both`: the calls answer and leave this wherever the records suffice
abbrev pub Lexes : Type 0
Lexes =
    (head tail : List ℕ) → Utf8 head → Utf8 tail → length head + length tail ≤ limit → Joins head tail
    → (headRecords tailRecords records : List (List ℕ))
    → token_count head ≤ length headRecords → token_count tail ≤ length tailRecords → count_of_both head tail ≤ length records
    → LexedBoth head tail headRecords tailRecords records

-- ---- strings: what was reviewed in a part stands in the joined document

-- what `decode_in` makes of a token's text, and answers for an output of o bytes and e error records; what it leaves in lent
-- memory is made of these and of what the memory held. An edition is told by its number, and `decode` reads 10
abbrev pub bytes_in : ℕ → List ℕ → Token → List ℕ
bytes_in edition doc t = bytes_by (choice_by edition (kind_number t.kind)) (text_of doc t)

abbrev pub errors_in : ℕ → List ℕ → Token → List (List ℕ)
errors_in edition doc t = errors_by (choice_by edition (kind_number t.kind)) (text_of doc t)

abbrev pub answer_in : ℕ → List ℕ → Token → ℕ → ℕ → Result Decoded Refusal
answer_in edition doc t o e = decode_in (text_of doc t) edition (kind_number t.kind) o e

-- the token v of a document has the kind and the text that t has in a part of it, and decodes to the same in each edition
pub record ReadsAs (doc : List ℕ) (v : Token) (part : List ℕ) (t : Token) : Type 0 where
  pub kind : v.kind ≡ t.kind
  pub text : text_of doc v ≡ text_of part t
  pub bytes : (edition : ℕ) → bytes_in edition doc v ≡ bytes_in edition part t
  pub errors : (edition : ℕ) → errors_in edition doc v ≡ errors_in edition part t
  pub answer : (edition o e : ℕ) → answer_in edition doc v o e ≡ answer_in edition part t o e

-- each token of the head and of the tail reads in the joined document as it does alone
pub record Reviewed (head tail : List ℕ) : Type 0 where
  pub of_head : (t : Token) → Memᴰ t (drop_last (tokens_of head)) → ReadsAs (head ++ tail) t head t
  pub of_tail : (t : Token) → Memᴰ t (tokens_of tail) → ReadsAs (head ++ tail) (moved_by head t) tail t
  -- and the joined document has no other token
  pub no_other : (v : Token) → Memᴰ v (tokens_of (head ++ tail))
      → Memᴰ v (drop_last (tokens_of head)) ⊎ ((t : Token) × Memᴰ t (tokens_of tail) × (moved_by head t ≡ v))

-- `reviewed`: it is so wherever the tail may follow the head
abbrev pub Reviews : Type 0
Reviews = (head tail : List ℕ) → Joins head tail → Reviewed head tail

-- ---- positions

-- what `position_of` answers in the joined document
pub record Placed (head tail : List ℕ) : Type 0 where
  -- in the head: what it answers for the head alone
  pub in_head : (offset : ℕ) → offset ≤ length head → position_answer (head ++ tail) offset ≡ position_answer head offset
  -- in the tail: lines that are those of the tail alone plus the head's LFs
  pub in_tail : (offset : ℕ) → offset ≤ length tail
      → position_line (position_answer (head ++ tail) (length head + offset))
      ≡ position_line (position_answer tail offset) + line_feeds head
  -- and, where the head ends in LF, the columns of the tail alone; a CR alone ends no line, and columns count on after it
  pub columns : get_last? head ≡ some 0x0A → (offset : ℕ) → offset ≤ length tail
      → column_of (head ++ tail) (length head + offset) ≡ column_of tail offset

-- `placed`: it is so wherever the tail may follow the head, both together within the limit
abbrev pub Places : Type 0
Places = (head tail : List ℕ) → length head + length tail ≤ limit → Joins head tail → Placed head tail

-- ---- three parts, and any number of them

-- `joins_on`: where the second part may follow the first, and the third the second, both together may follow the first
abbrev pub JoinsOn : Type 0
JoinsOn = (first second third : List ℕ) → Joins first second → Joins second third → Joins first (second ++ third)

-- `joined_three`: the tokens of three parts, those of the third moved on by both before it
abbrev pub JoinedThree : Type 0
JoinedThree =
    (first second third : List ℕ) → Joins first second → Joins second third
    → tokens_of (first ++ second ++ third)
    ≡ drop_last (tokens_of first)
    ++ map (moved_by first) (drop_last (tokens_of second))
    ++ map (moved_by (first ++ second)) (tokens_of third)

-- each part may follow the one before it
abbrev pub JoinsAll : List ℕ → List (List ℕ) → Type 0
JoinsAll part [] = Unit
JoinsAll part (next ∷ parts) = Joins part next × JoinsAll next parts

-- the first part's tokens without its `Eof`, then those of the parts after it, moved on; the last part's with its `Eof`
abbrev pub tokens_of_parts : List ℕ → List (List ℕ) → List Token
tokens_of_parts part [] = tokens_of part
tokens_of_parts part (next ∷ parts) = drop_last (tokens_of part) ++ map (moved_by part) (tokens_of_parts next parts)

-- `joined_parts`: these are the tokens of all parts joined
abbrev pub JoinedParts : Type 0
JoinedParts = (part : List ℕ) (parts : List (List ℕ)) → JoinsAll part parts
    → tokens_of (part ++ flatten parts) ≡ tokens_of_parts part parts
