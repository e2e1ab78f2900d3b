-- RULE. Putting broken strings right: the text that a document becomes, the list of what was wrong, what the call answers, and
-- what it leaves in the lent memory. A string token that reports an error is replaced by a basic string of the bytes that it
-- decodes to; all other bytes of the document are kept. What is proved of the result stands in crate theorems_mending.
use Rattle.std.specs.Prelude.{ℕ, Some, None, Result, Ok, Err, ⊤}
use mathlib.Core.{Bool.Bool, Bool.true, Bool.false, Bool.cond, Bool.◌||◌, List.List, List.[], List.◌∷◌, List.◌++◌, List.map}
use lib.{Dec.ltb, Dec.eqb, ListN.length, ListN.take, ListN.drop}
use Rattle.text_refusals.specs.{Refusals.limit}
use Rattle.text.specs.{CheckMeans.check_of}
use Rattle.text_refusals.specs.declared.{Refusal.Refusal, Refusal.TheVariants.TooLong, Refusal.TheVariants.ShortOutput, Refusal.TheVariants.FewErrors, Refusal.TheVariants.NoEdition}
use Rattle.lexer_token.specs.{Encodings.kind_encoding, Records.text_of}
use Rattle.lexer_token.specs.declared.{TokenKind.TokenKind, Token.Token}
use Rattle.lexer.specs.{Tokens.start_of, Tokens.tokens_of}
use Rattle.decoder_rules.specs.{Encodings.choice_by, Decoding.bytes_by, Decoding.errors_by, Encodings.is_edition}
use Rattle.decoder_rules.specs.declared.{Encoding.Encoding}
use Rattle.built_writing.specs.{Writing.spelling}
use Rattle.built_mending.specs.declared.{Mended.Mended}

-- ---- a basic string of given bytes

-- a byte that a backslash stands before: `"` and the backslash itself
abbrev pub slashed : ℕ → Bool
slashed b = eqb b 0x22 || eqb b 0x5C

-- a byte that is written by its code: below 20, and 7F
abbrev pub coded : ℕ → Bool
coded b = ltb b 0x20 || eqb b 0x7F

-- how a byte is spelt: after a backslash; as \u00 and two hex digits, in capitals; else as it is
unfoldable pub respell : ℕ → List ℕ
respell b = cond (slashed b) (spelling (Some b) b) (cond (coded b) (spelling None b) (b ∷ []))

unfoldable pub respelt : List ℕ → List ℕ
respelt [] = []
respelt (b ∷ s) = respell b ++ respelt s

-- the string: the bytes so spelt, between quotation marks
abbrev pub replacement : List ℕ → List ℕ
replacement value = 0x22 ∷ (respelt value ++ (0x22 ∷ []))

-- ---- a token

-- a token without its place: its kind and its bytes
pub record Part : Type 0 where
  pub kind : TokenKind
  pub text : List ℕ

abbrev pub part_of : List ℕ → Token → Part
part_of doc t = record { kind = t.kind; text = text_of doc t }

-- how it is decoded in the edition that a number names: a kind that is no string has no encoding
abbrev pub read_as : ℕ → Part → Result Encoding Refusal
read_as edition p = choice_by edition (kind_encoding p.kind)

-- the errors that it reports, and the bytes that it decodes to; none where it is no string
abbrev pub reported : ℕ → Part → List (List ℕ)
reported edition p = errors_by (read_as edition p) p.text

abbrev pub decoded : ℕ → Part → List ℕ
decoded edition p = bytes_by (read_as edition p) p.text

-- there is an error
abbrev pub is_broken : List (List ℕ) → Bool
is_broken [] = false
is_broken (e ∷ errors) = true

-- a space, where the output's last byte so far is a quotation mark
abbrev pub gap : Bool → List ℕ
gap true = 0x20 ∷ []
gap false = []

-- what it becomes: itself, or its replacement; `quoted` says whether the output's last byte before it is a quotation mark
unfoldable pub becomes : ℕ → Bool → Part → List ℕ
becomes edition quoted p =
    cond (is_broken (reported edition p)) (gap quoted ++ replacement (decoded edition p)) p.text

-- whether the last byte is a quotation mark, after s is put behind what `quoted` is said of
unfoldable pub ends_quoted : Bool → List ℕ → Bool
ends_quoted quoted [] = quoted
ends_quoted quoted (b ∷ s) = ends_quoted (eqb b 0x22) s

-- ---- the document

-- what tokens become, one after the other
unfoldable pub mend : ℕ → Bool → List Part → List ℕ
mend edition quoted [] = []
mend edition quoted (p ∷ ps) =
    becomes edition quoted p ++ mend edition (ends_quoted quoted (becomes edition quoted p)) ps

-- a byte order mark, which ends in no quotation mark, if there is one, and what the tokens become
unfoldable pub mended : ℕ → List ℕ → List ℕ
mended edition doc = take (start_of doc) doc ++ mend edition false (map (part_of doc) (tokens_of doc))

-- an error's record: the old token's start and end, then the error's number, start and end, as `decode` has them
abbrev pub record_at : ℕ → ℕ → List ℕ → List ℕ
record_at start end e = start ∷ end ∷ e

-- the records of tokens, one for each error, in order
unfoldable pub list : ℕ → List ℕ → List Token → List (List ℕ)
list edition doc [] = []
list edition doc (t ∷ ts) =
    map (record_at t.span.start t.span.end) (reported edition (part_of doc t)) ++ list edition doc ts

abbrev pub listed : ℕ → List ℕ → List (List ℕ)
listed edition doc = list edition doc (tokens_of doc)

-- ---- the call

-- a text and records, for an output of o bytes and room for m records: refusal 2 where the text would pass the limit, then 4
-- and 5 with what is needed
unfoldable pub fit_both : List ℕ → List (List ℕ) → ℕ → ℕ → Result Mended Refusal
fit_both text records o m =
    cond (ltb limit (length text)) (Err TooLong)
    (cond (ltb o (length text)) (Err (ShortOutput (length text)))
    (cond (ltb m (length records)) (Err (FewErrors (length records)))
    (Ok (record { bytes = length text; records = length records }))))

-- refusals 2 and 1 are the check's, then comes 9
abbrev pub mended_by : Result ⊤ Refusal → List ℕ → ℕ → ℕ → ℕ → Result Mended Refusal
mended_by (Err r) doc edition o m = Err r
mended_by (Ok done) doc edition o m =
    cond (is_edition edition) (fit_both (mended edition doc) (listed edition doc) o m) (Err (NoEdition edition))

-- the answer for a document, the number of an edition, an output of o bytes and m records
unfoldable pub mend_in : List ℕ → ℕ → ℕ → ℕ → Result Mended Refusal
mend_in doc edition o m = mended_by (check_of doc) doc edition o m

-- lent memory that held `old` after that answer: what was to be written, from the front, and the rest untouched; all of it
-- untouched where the call refused
abbrev pub mended_after : {A : Type 0} → Result Mended Refusal → List A → List A → List A
mended_after (Ok w) new old = new ++ drop (length new) old
mended_after (Err r) new old = old
