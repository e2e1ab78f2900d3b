-- STATEMENT. Putting broken strings right, in full. Proved in proofs/MendedLaws.antt, `puts_right`.
--
-- For every document in UTF-8 and each edition of TOML, of the text that `put_right_in` writes: it is UTF-8; its tokens are
-- those of the document one by one, with the same kind and bytes where no error was reported, a basic string where one was, and
-- one Whitespace token more for each space that was put in, and nothing else; no string token of it reports an error; each
-- replacement decodes to the bytes that the old token gave; a document without a broken string is copied byte for byte; and put
-- right again, the result stays as it is. It has at most six bytes for each of the document, and no more records than that has
-- bytes. The same is said of what the call answers and leaves.
--
-- Why lexing does not run over a seam. A token depends on its own bytes and on the byte after them. Of a token that stays, that
-- byte changes only where the next token is replaced: from a quote mark to a quotation mark, or to a space where the token ends
-- in a quotation mark itself; none that a quote mark may follow goes on over either. A replacement ends at its own closing mark,
-- whatever follows, unless it is empty: then a third quotation mark would open another string. But a broken token that gives no
-- bytes is followed by none: it is not closed, and then an LF or the end follows; or it is a multi-line basic string, which takes
-- up to two marks more than the three that close it, so that where a mark still follows, two stand in its body and are given.
--
-- The names: `mended`, `listed`, `mend_in`, `mended_after`, `part_of`, `reported`, `decoded`, `replacement` (crate built_mending)
-- are the text, the records, the answer and the memory of the call, a token's kind and bytes, the errors and the bytes that it
-- decodes to, and a basic string of given bytes; `tokens_of` (lexer) is whole lexing.
use Rattle.std.specs.Prelude.{ℕ, ◌*◌, ◌≤◌, Ok}
use mathlib.Core.{Path.◌≡◌, Bool.Bool, Bool.true, Bool.false, Bool.cond, List.List, List.[], List.◌∷◌, List.◌++◌, List.map, List.Memᴰ}
use lib.{ListN.length, ListN.drop}
use Rattle.text_refusals.specs.{Refusals.limit}
use Rattle.text_scalars.specs.{Utf8.Utf8}
use Rattle.lexer_token.specs.declared.{Token.Token, TokenKind.TheVariants.Whitespace, TokenKind.TheVariants.BasicString}
use Rattle.lexer.specs.{Tokens.tokens_of}
use Rattle.decoder_rules.specs.{Encodings.edition_number}
use Rattle.decoder_rules.specs.declared.{Edition.Edition}
use Rattle.built_mending.specs.{Mending.Part, Mending.part_of, Mending.replacement, Mending.reported, Mending.decoded, Mending.is_broken, Mending.becomes, Mending.ends_quoted, Mending.mended, Mending.listed, Mending.mend_in, Mending.mended_after}

-- ---- the tokens of the result

-- the tokens of a document without their places, Eof among them
abbrev pub parts_of : List ℕ → List Part
parts_of doc = map (part_of doc) (tokens_of doc)

-- a basic string of given bytes, as a token
abbrev pub string_part : List ℕ → Part
string_part value = record { kind = BasicString; text = replacement value }

-- a space, as a token, where one was put in
abbrev pub gap_parts : Bool → List Part
gap_parts true = record { kind = Whitespace; text = 0x20 ∷ [] } ∷ []
gap_parts false = []

-- what one token is in the result
unfoldable pub parts_for : ℕ → Bool → Part → List Part
parts_for edition quoted p =
    cond (is_broken (reported edition p)) (gap_parts quoted ++ (string_part (decoded edition p) ∷ [])) (p ∷ [])

-- what tokens are in the result, one by one; `quoted` as in the rule: whether a quotation mark stands right before
unfoldable pub parts_after : ℕ → Bool → List Part → List Part
parts_after edition quoted [] = []
parts_after edition quoted (p ∷ ps) =
    parts_for edition quoted p ++ parts_after edition (ends_quoted quoted (becomes edition quoted p)) ps

-- no string token of a document reports an error
abbrev pub Whole : ℕ → List ℕ → Type 0
Whole edition doc = (t : Token) → Memᴰ t (tokens_of doc) → reported edition (part_of doc t) ≡ []

-- ---- what is said of a document, in the edition with a number

pub record PutsRight (n : ℕ) (doc : List ℕ) : Type 0 where
  -- the result is UTF-8
  pub utf8 : Utf8 (mended n doc)
  -- its tokens are those of the document one by one, and the spaces
  pub tokens : parts_of (mended n doc) ≡ parts_after n false (parts_of doc)
  -- none of its string tokens reports an error
  pub whole : Whole n (mended n doc)
  -- each replacement decodes to the bytes that the old token gave
  pub same_value : (t : Token) → Memᴰ t (tokens_of doc) → is_broken (reported n (part_of doc t)) ≡ true
      → decoded n (string_part (decoded n (part_of doc t))) ≡ decoded n (part_of doc t)
  -- a document without a broken string is copied byte for byte, and nothing is listed
  pub copied : Whole n doc → (mended n doc ≡ doc) × (listed n doc ≡ [])
  -- put right again, the result stays as it is
  pub again : (mended n (mended n doc) ≡ mended n doc) × (listed n (mended n doc) ≡ [])
  -- six bytes for each byte at the most, and one record
  pub most : length (mended n doc) ≤ 6 * length doc
  pub few : length (listed n doc) ≤ length doc
  -- the call answers and leaves just that wherever document, text and records fit
  pub answered : length doc ≤ limit → length (mended n doc) ≤ limit → (out : List ℕ) (recs : List (List ℕ))
      → length (mended n doc) ≤ length out → length (listed n doc) ≤ length recs
      → mend_in doc n (length out) (length recs) ≡ Ok (record { bytes = length (mended n doc); records = length (listed n doc) })
  -- and of its own result it then answers the same text, and no record
  pub answered_again : length (mended n doc) ≤ limit → (out : List ℕ) (recs : List (List ℕ)) → length (mended n doc) ≤ length out
      → mend_in (mended n doc) n (length out) (length recs) ≡ Ok (record { bytes = length (mended n doc); records = 0 })

abbrev pub AllRight : Type 0
AllRight = (ed : Edition) (doc : List ℕ) → Utf8 doc → PutsRight (edition_number ed) doc
