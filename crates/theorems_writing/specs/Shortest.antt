-- STATEMENT. Writing a value, in full, over the grammar of strings of TOML 1.0.0. Proved in proofs/ShortestLaws.antt,
-- `writes_shortest`.
--
-- For every value in UTF-8: the text that `write_value` writes is derived as a literal or basic string with that value; no
-- literal or basic string with that value is shorter; on a tie it is the literal one; and among equally short basic strings
-- none has a smaller byte at the first difference. There is one such text only. Where it is within the limit, then lexed
-- and decoded, in either edition of TOML, it gives the value back without an error.
--
-- The names: `written`, `write_answer`, `written_after` (crate built_writing) are the text of a value, and what `write_value`
-- promises to answer and to leave in the output; `TextDerived`, `answer_of`, `output_of` (crate theorems_grammar) are a text in
-- bytes that the grammar derives, and the same of the call `decode_in`; the others are those of Demand3.antt there.
use Rattle.std.specs.Prelude.{ℕ, ◌+◌, ◌≤◌, ◌<◌, Some, Ok, Err}
use mathlib.Core.{Path.◌≡◌, List.List, List.[], List.◌∷◌, List.◌++◌, List.Memᴰ}
use lib.{ListN.length, ListN.drop}
use Rattle.text_scalars.specs.{Utf8.encodes, Utf8.Utf8}
use Rattle.text_refusals.specs.{Refusals.limit}
use Rattle.text_refusals.specs.declared.Refusal.TheVariants.{ShortOutput}
use Rattle.decoder_rules.specs.declared.{Edition.Edition, Edition.TheVariants.Toml10}
use Rattle.decoder_rules.specs.{Decoding.bytes_of, Decoding.errors_of, Decoding.written as answered_with}
use Rattle.lexer_token.specs.{Records.token_of, declared.Token.Token}
use Rattle.lexer.specs.{Tokens.tokens_of, Tokens.eof_at, Lines.line_of, Steps.cursor_of, Steps.step_of}
use Rattle.lexer.specs.declared.{Cursor.Cursor}
use Rattle.theorems_grammar.specs.{Strings.StringKind, Strings.literal, Strings.basic, Strings.ml_literal, Strings.ml_basic, Strings.token_kind, Strings.encoding, Strings.mark, Strings.Apart, Demand3.TextDerived, Demand3.answer_of, Demand3.output_of}
use Rattle.built_writing.specs.{Writing.written, Writing.write_answer, Writing.written_after}

-- ---- texts, and which of them comes first

-- the two kinds that a value is written as
abbrev pub OneLine : StringKind → Type 0
OneLine literal = Unit {0}
OneLine basic = Unit {0}
OneLine ml_literal = ⊥
OneLine ml_basic = ⊥

-- TOML 1.0.0 derives the bytes t as a string of the kind k, and its value is `value`, in UTF-8
pub record Has (k : StringKind) (t value : List ℕ) : Type 0 where
  pub scalars : List ℕ
  pub derived : TextDerived Toml10 k t scalars
  pub bytes : encodes scalars ≡ value

-- of two texts of one length: t has no smaller byte than s at their first difference, if there is one
pub data NotAfter : List ℕ → List ℕ → Type 0 where
  end : NotAfter [] []
  smaller : {a b : ℕ} {s t : List ℕ} → a < b → NotAfter (a ∷ s) (b ∷ t)
  same : {a : ℕ} {s t : List ℕ} → NotAfter s t → NotAfter (a ∷ s) (a ∷ t)

-- the text is what is asked for
pub record Shortest (value text : List ℕ) : Type 0 where
  pub kind : StringKind
  pub one_line : OneLine kind
  pub has : Has kind text value
  -- no literal or basic string with that value is shorter
  pub shortest : (k : StringKind) → OneLine k → (t : List ℕ) → Has k t value → length text ≤ length t
  -- on a tie the literal one
  pub literal_first : (t : List ℕ) → Has literal t value → length t ≡ length text → kind ≡ literal
  -- among equally short basic strings none has a smaller byte at the first difference
  pub smallest : kind ≡ basic → (t : List ℕ) → Has basic t value → length t ≡ length text → NotAfter text t

-- ---- the way back

-- the text of the kind k, within the limit, is lexed and decoded to `value`
pub record ReadBack (k : StringKind) (value text : List ℕ) : Type 0 where
  -- as a whole document it is one token, and then the end
  pub document : tokens_of text ≡ token_of (token_kind k) 0 (length text) 1 ∷ (eof_at (length text) 1 ∷ [])
  -- in any document a step at its place gives that token, unless its own quote mark follows it; the line is the cursor's,
  -- which does not pass its place plus 1
  pub step : (doc : List ℕ) → length doc ≤ limit → (c : Cursor) → c.line ≤ c.place + 1
      → (rest : List ℕ) → drop c.place doc ≡ text ++ rest → Apart (mark k) rest
      → step_of doc c
      ≡ Ok (Some (
        token_of (token_kind k) c.place (c.place + length text) c.line,
        cursor_of (c.place + length text) c.line c.ended,
      ))
  -- and where whole lexing has a token r that starts there, r is that token
  pub token : (doc : List ℕ) (r : Token) → Memᴰ r (tokens_of doc)
      → (rest : List ℕ) → drop r.span.start doc ≡ text ++ rest → Apart (mark k) rest
      → r ≡ token_of (token_kind k) r.span.start (r.span.start + length text) (line_of doc r.span.start)
  -- decoded in either edition it has no error, and gives the value
  pub no_error : (ed : Edition) → errors_of (encoding ed k) text ≡ []
  pub value_back : (ed : Edition) → bytes_of (encoding ed k) text ≡ value
  -- and so it is answered by `decode_in`, given room for the value: its length and no error, and it stands in the output
  pub answered : (ed : Edition) (out : List ℕ) (e : ℕ) → length value ≤ length out
      → answer_of ed k text out e ≡ answered_with (length value) 0
  pub output : (ed : Edition) (out : List ℕ) (e : ℕ) → length value ≤ length out
      → output_of ed k text out e ≡ value ++ drop (length value) out

-- ---- the call

-- what holds of a value in UTF-8
pub record Writes (value : List ℕ) : Type 0 where
  pub best : Shortest value (written value)
  -- no other text is what is asked for
  pub one : (t : List ℕ) → Shortest value t → t ≡ written value
  pub back : length (written value) ≤ limit → ReadBack best.kind value (written value)
  -- a value within the limit is written, with the text's length as answer, wherever the text fits, past the limit too
  pub answered : length value ≤ limit → (out : List ℕ) → length (written value) ≤ length out
      → write_answer value (length out) ≡ Ok (length (written value))
  pub output : length value ≤ limit → (out : List ℕ) → length (written value) ≤ length out
      → written_after (write_answer value (length out)) (written value) out
      ≡ written value ++ drop (length (written value)) out
  -- and refused with that length wherever it does not
  pub refused : length value ≤ limit → (out : List ℕ) → length out < length (written value)
      → write_answer value (length out) ≡ Err (ShortOutput (length (written value)))

abbrev pub WritesShortest : Type 0
WritesShortest = (value : List ℕ) → Utf8 value → Writes value
