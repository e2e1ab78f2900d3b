-- RULE. One part after another, and the closing word: what each call answers, the state after it, and the records.
use Rattle.std.specs.Prelude.{ℕ, ◌+◌, Result, Ok, Err}
use mathlib.Core.{Bool.Bool, Bool.true, Bool.false, Bool.cond, Bool.◌||◌, List.List, List.◌++◌, List.map}
use lib.{ListN.length, ListN.drop, Dec.ltb}
use Rattle.text_refusals.specs.{Refusals.limit}
use Rattle.text_refusals.specs.declared.{Refusal.Refusal, Refusal.TheVariants.NotUtf8, Refusal.TheVariants.TooLong, Refusal.TheVariants.FewTokens, Refusal.TheVariants.AfterEnd}
use Rattle.lexer_token.specs.declared.{Token.Token}
use Rattle.lexer_token.specs.{Records.record_of}
use Rattle.built_characters.specs.declared.{Character.Character, Character.TheVariants.Whole, Character.TheVariants.Begun}
use Rattle.built_lexing.specs.declared.{states.Lexing.Lexing}
use Rattle.built_parts.specs.declared.{checks.Checked.Checked, checks.Faulty.Faulty, Parts.Parts, Fed.Fed}
use Rattle.built_lexing.specs.{States.unread, States.given_by, States.state_after, States.last_tokens, Filling.astray}
use Rattle.built_parts.specs.{Checking.checked}

abbrev pub parts_of : Lexing → Character → ℕ → Bool → Parts
parts_of l c valid ended = record { lexing = l; character = c; valid = valid; ended = ended }

-- before the first part
abbrev pub no_parts : Parts
no_parts = parts_of unread Whole 0 false

-- after refusal 2 or 1, or an answered closing word
abbrev pub closed : Parts → Parts
closed p = parts_of p.lexing p.character p.valid true

-- whether a state takes nothing more: it was closed, or its line passes its place plus 1, to which no parts lead
abbrev pub is_over : Parts → Bool
is_over p = p.ended || astray p.lexing

abbrev pub fed : Result ℕ Refusal → Parts → Fed
fed a p = record { answer = a; parts = p }

-- a call that gives n tokens and is lent `room` records: refusal 3 with n and the state as before, or the count and the state
-- after it
abbrev pub with_room : ℕ → ℕ → Parts → Parts → Fed
with_room n room old new = cond (ltb room n) (fed (Err (FewTokens n)) old) (fed (Ok n) new)

-- a part whose characters were gone over: refusal 1 with its two numbers where nothing could mend them
abbrev pub feed_checked : Result Checked Faulty → Parts → List ℕ → ℕ → Fed
feed_checked (Err b) p s room = fed (Err (NotUtf8 b.valid b.length)) (closed p)
feed_checked (Ok g) p s room =
    with_room (length (given_by p.lexing s)) room p (parts_of (state_after p.lexing s) g.character g.valid false)

-- the characters of a part, from a state on
abbrev pub checked_from : Parts → List ℕ → Result Checked Faulty
checked_from p s = checked p.character p.valid p.lexing.at s

-- a part: refusals 8, 2, 1, 3; else the count of its tokens
unfoldable pub feed_of : Parts → List ℕ → ℕ → Fed
feed_of p s room =
    cond (is_over p) (fed (Err AfterEnd) p)
    (cond (ltb limit (p.lexing.at + length s)) (fed (Err TooLong) (closed p))
    (feed_checked (checked_from p s) p s room))

-- the closing word inside a character is refused with 1: no sequence is at fault, the bytes end inside it
abbrev pub close_checked : Character → Parts → ℕ → Fed
close_checked (Begun left low high) p room = fed (Err (NotUtf8 p.valid 0)) (closed p)
close_checked Whole p room = with_room (length (last_tokens p.lexing)) room p (closed p)

-- the closing word: refusals 8, 2, 1, 3; else the count of the last tokens
unfoldable pub close_of : Parts → ℕ → Fed
close_of p room =
    cond (is_over p) (fed (Err AfterEnd) p)
    (cond (ltb limit p.lexing.at) (fed (Err TooLong) (closed p))
    (close_checked p.character p room))

-- the records afterwards: filled from the front, those after the last written kept; all kept where refused
abbrev pub stored : Result ℕ Refusal → List Token → List (List ℕ) → List (List ℕ)
stored (Ok n) ts old = map record_of ts ++ drop (length ts) old
stored (Err r) ts old = old

unfoldable pub feed_memory : Parts → List ℕ → List (List ℕ) → List (List ℕ)
feed_memory p s old = stored (feed_of p s (length old)).answer (given_by p.lexing s) old

unfoldable pub close_memory : Parts → List (List ℕ) → List (List ℕ)
close_memory p old = stored (close_of p (length old)).answer (last_tokens p.lexing) old
