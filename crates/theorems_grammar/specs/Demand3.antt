-- STATEMENT. Demand 3 of the project's scope, in full, for each edition of TOML. In a sentence: a string token decodes without
-- error exactly when TOML's grammar derives it. Proved in proofs/Demand3Laws.antt, `demand_3`.
--
-- For every token of a string kind that lexing gives of a document in UTF-8 and within the limit: decoding its text has no
-- error exactly where the grammar derives the text with escapes that name scalar values; the decoded bytes are then the
-- encoding of the value that TOML gives it, which is one; and the same holds of what `decode` answers. Conversely, a derived
-- text that stands where a token starts, and that its own quote mark does not follow, is one token of its kind and length.
--
-- The names: `tokens_of`, `step_of` (lexer) are whole lexing and a step; `text_of doc r` (lexer_token) is the part of doc from
-- the start of the token r to its end; `errors_of`, `bytes_of` (decoder_rules) are the errors and the bytes of a decoded text;
-- `decode_in`, `after` (decoder_rules) are what `decode_in` promises to answer and to leave in lent memory; `encodes` (text)
-- is the UTF-8 of scalar values; `Derived`, `Means`, `Apart` (Strings.antt) are the grammar's side.
-- Newlines are not normalised: the grammar gives a newline in a multi-line string its own code points as its value
-- (Grammar.antt, `MlbContent.newline`; the value of an ml-literal-body is its text), and the bytes are that value's.
use Rattle.std.specs.Prelude.{ℕ, ◌+◌, ◌≤◌, ◌<◌, Some, Result, Ok}
use mathlib.Core.{Path.◌≡◌, Logic.◌↔◌, List.List, List.[], List.◌++◌, List.Memᴰ}
use lib.{ListN.length, ListN.drop}
use Rattle.text_scalars.specs.{Utf8.Scalar, Utf8.encodes, Utf8.All, Utf8.Utf8}
use Rattle.text_refusals.specs.{Refusals.limit, Told.told_number}
use Rattle.text_refusals.specs.declared.{Refusal.Refusal}
use Rattle.decoder_rules.specs.declared.{Edition.Edition, Decoded.Decoded}
use Rattle.decoder_rules.specs.{Encodings.choice_by, Encodings.edition_number, Decoding.bytes_of, Decoding.errors_of, Decoding.bytes_by, Decoding.written, Decoding.decode_in, Decoding.after}
use Rattle.lexer_token.specs.{KindNumbers.kind_number, Records.token_of, Records.text_of}
use Rattle.lexer_token.specs.declared.{Token.Token}
use Rattle.lexer.specs.{Tokens.tokens_of, Lines.line_feeds, Lines.line_of, Steps.cursor_of, Steps.start_answer, Steps.step_of}
use Rattle.lexer.specs.declared.{Cursor.Cursor}
use Rattle.theorems_grammar.specs.{Strings.StringKind, Strings.token_kind, Strings.encoding, Strings.mark, Strings.Apart, Strings.Derived, Strings.Means}

-- ---- texts, in bytes

-- the bytes t are UTF-8, and the edition's grammar derives their code points with the value v
pub record TextDerived (ed : Edition) (s : StringKind) (t v : List ℕ) : Type 0 where
  pub points : List ℕ
  pub scalar : All Scalar points
  pub text : encodes points ≡ t
  pub derives : Derived ed s points v

-- the same, by the prose rules too: the text t means v
pub record TextMeans (ed : Edition) (s : StringKind) (t v : List ℕ) : Type 0 where
  pub points : List ℕ
  pub scalar : All Scalar points
  pub text : encodes points ≡ t
  pub means : Means ed s points v

-- ---- the call `decode_in`, by the numbers of the edition and the kind, with an output that holds `out` and room for e errors

-- its answer
abbrev pub answer_of : Edition → StringKind → List ℕ → List ℕ → ℕ → Result Decoded Refusal
answer_of ed s t out e = decode_in t (edition_number ed) (kind_number (token_kind s)) (length out) e

-- what the output holds afterwards
abbrev pub output_of : Edition → StringKind → List ℕ → List ℕ → ℕ → List ℕ
output_of ed s t out e =
    after (answer_of ed s t out e) (bytes_by (choice_by (edition_number ed) (kind_number (token_kind s))) t) out

pub record Called (ed : Edition) (s : StringKind) (t out : List ℕ) (e : ℕ) : Type 0 where
  -- refusals 2, 1, 7 and 9 never occur
  pub within_limit : told_number (answer_of ed s t out e) ≡ 2 → ⊥
  pub valid : told_number (answer_of ed s t out e) ≡ 1 → ⊥
  pub known : told_number (answer_of ed s t out e) ≡ 7 → ⊥
  pub named : told_number (answer_of ed s t out e) ≡ 9 → ⊥
  -- 4 exactly where the output is too short
  pub short : (told_number (answer_of ed s t out e) ≡ 4) ↔ (length out < length (bytes_of (encoding ed s) t))
  -- 5 exactly where it is not, and the error records are too few
  pub few : (told_number (answer_of ed s t out e) ≡ 5)
      ↔ ((length (bytes_of (encoding ed s) t) ≤ length out) × (e < length (errors_of (encoding ed s) t)))
  -- else it is answered
  pub answered : (told_number (answer_of ed s t out e) ≡ 0)
      ↔ ((length (bytes_of (encoding ed s) t) ≤ length out) × (length (errors_of (encoding ed s) t) ≤ e))
  -- given room for the bytes, no error exactly where the text is derived
  pub no_error : length (bytes_of (encoding ed s) t) ≤ length out
      → (answer_of ed s t out e ≡ written (length (bytes_of (encoding ed s) t)) 0) ↔ ((v : List ℕ) × TextDerived ed s t v)
  -- n bytes and no error exactly where the text means a value whose encoding has n bytes and fits
  pub meaning : (n : ℕ) → (answer_of ed s t out e ≡ written n 0)
      ↔ ((v : List ℕ) × TextMeans ed s t v × (n ≡ length (encodes v)) × (length (encodes v) ≤ length out))
  -- the value's encoding then stands at the front of the output, and the rest of the output is kept
  pub output : (v : List ℕ) → TextMeans ed s t v → length (encodes v) ≤ length out
      → output_of ed s t out e ≡ encodes v ++ drop (length (encodes v)) out

-- ---- what is demanded of the text t of a token of the kind s

pub record Agrees (ed : Edition) (s : StringKind) (t : List ℕ) : Type 0 where
  -- the text is UTF-8: lexing has cut no character
  pub whole : Utf8 t
  -- no error exactly where the text is derived with escapes that name scalar values
  pub derived : (errors_of (encoding ed s) t ≡ []) ↔ ((v : List ℕ) × TextDerived ed s t v)
  -- and exactly where a derivation obeys the prose rules too: of the derivations of a text, if there are any, one does
  pub meant : (errors_of (encoding ed s) t ≡ []) ↔ ((v : List ℕ) × TextMeans ed s t v)
  -- the decoded bytes are then the encoding of its value
  pub value : (v : List ℕ) → TextMeans ed s t v → bytes_of (encoding ed s) t ≡ encodes v
  -- all derivations of the text that obey the prose rules have that one value
  pub one : (v w : List ℕ) → TextMeans ed s t v → TextMeans ed s t w → v ≡ w
  -- the same of what `decode_in` answers
  pub called : (out : List ℕ) (e : ℕ) → Called ed s t out e

-- ---- the cursors that steps reach from the start

pub data Reached (doc : List ℕ) : Cursor → Type 0 where
  start : {c : Cursor} → start_answer doc ≡ Ok c → Reached doc c
  next : {c d : Cursor} {r : Token} → Reached doc c → step_of doc c ≡ Ok (Some (r, d)) → Reached doc d

-- ---- the demand

pub record Demand3 (ed : Edition) : Type 0 where
  -- every string token of whole lexing, of a document that is UTF-8 and within the limit
  pub tokens : (doc : List ℕ) → Utf8 doc → length doc ≤ limit → (r : Token) → Memᴰ r (tokens_of doc)
      → (s : StringKind) → r.kind ≡ token_kind s → Agrees ed s (text_of doc r)
  -- every string token that a step from any cursor gives, where the document is UTF-8 from the cursor's place on
  pub steps : (doc : List ℕ) (c : Cursor) → Utf8 (drop c.place doc) → (r : Token) (d : Cursor) → step_of doc c ≡ Ok (Some (r, d))
      → (s : StringKind) → r.kind ≡ token_kind s → Agrees ed s (text_of doc r)
  -- steps from the start of a document in UTF-8 reach only cursors from whose place on it is UTF-8
  pub reached : (doc : List ℕ) → Utf8 doc → (c : Cursor) → Reached doc c → Utf8 (drop c.place doc)
  -- and they give tokens of whole lexing only
  pub listed : (doc : List ℕ) (c : Cursor) → Reached doc c → (r : Token) (d : Cursor) → step_of doc c ≡ Ok (Some (r, d))
      → Memᴰ r (tokens_of doc)
  -- where a derived text stands at a cursor's place, its own quote mark does not follow it, and the cursor's line is at most
  -- its place plus 1, a step gives that text as its token, on the cursor's line; the next cursor's line is that line plus the
  -- LFs of the text
  pub step_back : (doc : List ℕ) → length doc ≤ limit → (c : Cursor) → c.line ≤ c.place + 1
      → (s : StringKind) (cs v rest : List ℕ) → Derived ed s cs v → drop c.place doc ≡ encodes cs ++ rest → Apart (mark s) rest
      → step_of doc c
      ≡ Ok (Some (
        token_of (token_kind s) c.place (c.place + length (encodes cs)) c.line,
        cursor_of (c.place + length (encodes cs)) (c.line + line_feeds (encodes cs)) c.ended,
      ))
  -- and where a token r of whole lexing starts at a derived text, r is the token of that text
  pub token_back : (doc : List ℕ) (r : Token) → Memᴰ r (tokens_of doc)
      → (s : StringKind) (cs v rest : List ℕ) → Derived ed s cs v
      → drop r.span.start doc ≡ encodes cs ++ rest → Apart (mark s) rest
      → r ≡ token_of (token_kind s) r.span.start (r.span.start + length (encodes cs)) (line_of doc r.span.start)
