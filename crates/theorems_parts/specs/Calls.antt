-- STATEMENT. What the calls of crate `built_parts` come to over any number of parts, wherever the document was cut. Each is proved
-- under the name that its comment gives: what is said of any one call in proofs/Cases.antt, the others in proofs/Calling.antt; that
-- the functions promise these answers, and the records with them, in proofs/CallLaws.antt.
use Rattle.std.specs.Prelude.{ℕ, ◌+◌, ◌≤◌, ◌<◌, ◌≡◌, List, [], ◌++◌, length, Ok, Err}
use Rattle.text_refusals.specs.Refusals.{limit}
use Rattle.text_refusals.specs.declared.Refusal.{Refusal}
use Rattle.text_refusals.specs.declared.Refusal.TheVariants.{NotUtf8, TooLong, FewTokens, AfterEnd}
use Rattle.text_scalars.specs.Utf8.{Utf8}
use Rattle.text.specs.CheckMeans.{check_of}
use Rattle.text.specs.LengthTells.{Mendable}
use Rattle.lexer_token.specs.declared.Token.{Token}
use Rattle.lexer.specs.Tokens.{tokens_of}
use Rattle.built_lexing.specs.declared.states.Lexing.{Lexing}
use Rattle.built_parts.specs.declared.Parts.{Parts}
use Rattle.built_lexing.specs.States.{given_by, last_tokens}
use Rattle.built_parts.specs.Feeding.{no_parts, closed, fed, feed_of, close_of}
use Rattle.theorems_parts.specs.Decided.{FirstOf, Decided}

-- calls from the start on: the bytes of the parts that were answered, joined; the tokens that these gave; and the state. A part
-- refused with 3 leaves all of them as they were
pub data Calls : List ℕ → List Token → Parts → Type 0 where
  begun : Calls [] [] no_parts
  answered : {doc : List ℕ} {ts : List Token} {p : Parts} → Calls doc ts p → (s : List ℕ) (room n : ℕ) (q : Parts)
      → feed_of p s room ≡ fed (Ok n) q → Calls (doc ++ s) (ts ++ given_by p.lexing s) q
  refused : {doc : List ℕ} {ts : List Token} {p : Parts} → Calls doc ts p → (s : List ℕ) (room n : ℕ) (q : Parts)
      → feed_of p s room ≡ fed (Err (FewTokens n)) q → Calls doc ts q

-- `calls_decided`: what was given so far is what the joined bytes decide
abbrev pub CallsDecided : Type 0
CallsDecided = (doc : List ℕ) (ts : List Token) (p : Parts) → Calls doc ts p → Decided doc ts

-- `calls_first`: whatever becomes of the rest, UTF-8 or not, within the limit or not, these are the first tokens of the byte rule
abbrev pub CallsFirst : Type 0
CallsFirst = (doc : List ℕ) (ts : List Token) (p : Parts) → Calls doc ts p → (more : List ℕ) → FirstOf ts (tokens_of (doc ++ more))

-- an answered closing word: with its tokens all are those of whole lexing of the joined bytes, lines too, which are UTF-8 and
-- within the limit
pub record WholeLexing (doc : List ℕ) (ts : List Token) : Type 0 where
  pub tokens : ts ≡ tokens_of doc
  pub within : length doc ≤ limit
  pub valid : Utf8 doc

-- `calls_closed`
abbrev pub CallsClosed : Type 0
CallsClosed =
    (doc : List ℕ) (ts : List Token) (p : Parts) → Calls doc ts p → (room n : ℕ) (q : Parts) → close_of p room ≡ fed (Ok n) q
    → WholeLexing doc (ts ++ last_tokens p.lexing)

-- ---- refusals

-- `part_long`: a part is refused with 2 where the joined bytes pass the limit
abbrev pub PartLong : Type 0
PartLong =
    (doc : List ℕ) (ts : List Token) (p : Parts) → Calls doc ts p → (s : List ℕ) (room : ℕ) → limit < length (doc ++ s)
    → feed_of p s room ≡ fed (Err TooLong) (closed p)

-- refusal 1 with two numbers: no further bytes, the limit set aside, make the joined bytes UTF-8, and these are the numbers that the
-- UTF-8 check gives of every extension within the limit
pub record Beyond (doc : List ℕ) (valid len : ℕ) : Type 0 where
  pub unmendable : Mendable doc → ⊥
  pub numbers : (more : List ℕ) → length (doc ++ more) ≤ limit → check_of (doc ++ more) ≡ Err (NotUtf8 valid len)

-- `part_broken`: where nothing could mend the joined bytes a part is refused with 1
abbrev pub PartBroken : Type 0
PartBroken =
    (doc : List ℕ) (ts : List Token) (p : Parts) → Calls doc ts p → (s : List ℕ) (room : ℕ) → length (doc ++ s) ≤ limit
    → (Mendable (doc ++ s) → ⊥)
    → (valid : ℕ) × (len : ℕ) × (feed_of p s room ≡ fed (Err (NotUtf8 valid len)) (closed p)) × Beyond (doc ++ s) valid len

-- `part_refused`: and so it is wherever it is refused with 1
abbrev pub PartRefused : Type 0
PartRefused =
    (doc : List ℕ) (ts : List Token) (p : Parts) → Calls doc ts p → (s : List ℕ) (room valid len : ℕ) (q : Parts)
    → feed_of p s room ≡ fed (Err (NotUtf8 valid len)) q → Beyond (doc ++ s) valid len

-- `part_mendable`: where something could, it is not: it is answered, or refused with 3
abbrev pub PartMendable : Type 0
PartMendable =
    (doc : List ℕ) (ts : List Token) (p : Parts) → Calls doc ts p → (s : List ℕ) → length (doc ++ s) ≤ limit → Mendable (doc ++ s)
    → (q : Parts) × ((room : ℕ) → length (given_by p.lexing s) ≤ room → feed_of p s room ≡ fed (Ok (length (given_by p.lexing s))) q)
    × ((room : ℕ) → room < length (given_by p.lexing s) → feed_of p s room ≡ fed (Err (FewTokens (length (given_by p.lexing s)))) p)

-- `close_broken`: the closing word is refused with 1 where the joined bytes are not UTF-8, with their own numbers
abbrev pub CloseBroken : Type 0
CloseBroken =
    (doc : List ℕ) (ts : List Token) (p : Parts) → Calls doc ts p → (room : ℕ) → (Utf8 doc → ⊥)
    → (r : Refusal) × (close_of p room ≡ fed (Err r) (closed p)) × (check_of doc ≡ Err r)

-- `close_refused`: and so they are wherever it is refused with 1
abbrev pub CloseRefused : Type 0
CloseRefused =
    (doc : List ℕ) (ts : List Token) (p : Parts) → Calls doc ts p → (room valid len : ℕ) (q : Parts)
    → close_of p room ≡ fed (Err (NotUtf8 valid len)) q → (Utf8 doc → ⊥) × (check_of doc ≡ Err (NotUtf8 valid len))

-- `close_valid`: where they are, it is not: it is answered, or refused with 3
abbrev pub CloseValid : Type 0
CloseValid =
    (doc : List ℕ) (ts : List Token) (p : Parts) → Calls doc ts p → Utf8 doc
    → ((room : ℕ) → length (last_tokens p.lexing) ≤ room → close_of p room ≡ fed (Ok (length (last_tokens p.lexing))) (closed p))
    × ((room : ℕ) → room < length (last_tokens p.lexing) → close_of p room ≡ fed (Err (FewTokens (length (last_tokens p.lexing)))) p)

-- `after_end`: after refusal 2 or 1, or an answered closing word, every call is refused with 8, and the state stays
abbrev pub AfterEnds : Type 0
AfterEnds =
    (p : Parts) → ((s : List ℕ) (room : ℕ) → feed_of (closed p) s room ≡ fed (Err AfterEnd) (closed p))
    × ((room : ℕ) → close_of (closed p) room ≡ fed (Err AfterEnd) (closed p))

-- a call refused with 3 and n had fewer than n records and leaves the state as it was, so that the same call answers as if the refused
-- one had not been made: with n records or more it gives n tokens
pub record FewFed (p : Parts) (s : List ℕ) (room n : ℕ) (q : Parts) : Type 0 where
  pub same : q ≡ p
  pub less : room < n
  pub then : (more : ℕ) → n ≤ more → (r : Parts) × (feed_of p s more ≡ fed (Ok n) r)

pub record FewClosed (p : Parts) (room n : ℕ) (q : Parts) : Type 0 where
  pub same : q ≡ p
  pub less : room < n
  pub then : (more : ℕ) → n ≤ more → close_of p more ≡ fed (Ok n) (closed p)

-- `after_few`
abbrev pub AfterFew : Type 0
AfterFew =
    (p : Parts) → ((s : List ℕ) (room n : ℕ) (q : Parts) → feed_of p s room ≡ fed (Err (FewTokens n)) q → FewFed p s room n q)
    × ((room n : ℕ) (q : Parts) → close_of p room ≡ fed (Err (FewTokens n)) q → FewClosed p room n q)

-- `room_enough`: as many records as a part has bytes and one always suffice for it, and two for the closing word, from any state
abbrev pub RoomEnough : Type 0
RoomEnough = (l : Lexing) → ((s : List ℕ) → length (given_by l s) ≤ length s + 1) × (length (last_tokens l) ≤ 2)

-- `never_few`: so with as many no call is refused with 3
abbrev pub NeverFew : Type 0
NeverFew =
    (p : Parts) → ((s : List ℕ) (room n : ℕ) (q : Parts) → length s + 1 ≤ room → feed_of p s room ≡ fed (Err (FewTokens n)) q → ⊥)
    × ((room n : ℕ) (q : Parts) → 2 ≤ room → close_of p room ≡ fed (Err (FewTokens n)) q → ⊥)
