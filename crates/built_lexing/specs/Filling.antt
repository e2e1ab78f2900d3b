-- RULE. The tokens of a part into lent records, and those of the end: what the functions answer, and the records afterwards.
use Rattle.std.specs.Prelude.{ℕ, ◌+◌, Result, Ok, Err}
use mathlib.Core.{Bool.Bool, Bool.cond, List.List, List.◌++◌, List.map}
use lib.{ListN.length, ListN.drop, Dec.ltb}
use Rattle.text_refusals.specs.{Refusals.limit}
use Rattle.text_refusals.specs.declared.{Refusal.Refusal, Refusal.TheVariants.FewTokens, Refusal.TheVariants.AfterEnd}
use Rattle.lexer_token.specs.declared.{Token.Token}
use Rattle.lexer_token.specs.{Records.record_of}
use Rattle.built_lexing.specs.declared.{states.Lexing.Lexing, PartLexed.PartLexed, NotLexed.NotLexed, NotLexed.TheVariants.Few, NotLexed.TheVariants.Over}
use Rattle.built_lexing.specs.{States.given_by, States.state_after, States.last_tokens}

-- the refusal of a call by which a part is not taken: 3 with the records needed, or 8
abbrev pub refusal_of : NotLexed → Refusal
refusal_of (Few n) = FewTokens n
refusal_of Over = AfterEnd

-- a state whose line passes its place plus 1: no bytes lead to it
abbrev pub astray : Lexing → Bool
astray l = ltb (l.at + 1) l.line

-- n tokens into `room` records, and the state after them
abbrev pub lexed_into : ℕ → ℕ → Lexing → Result PartLexed NotLexed
lexed_into n room next = cond (ltb room n) (Err (Few n)) (Ok (record { count = n; next = next }))

unfoldable pub lexed_part : Lexing → List ℕ → ℕ → Result PartLexed NotLexed
lexed_part l s room =
    cond (astray l) (Err Over)
    (cond (ltb limit (l.at + length s)) (Err Over) (lexed_into (length (given_by l s)) room (state_after l s)))

unfoldable pub lexed_end : Lexing → ℕ → Result PartLexed NotLexed
lexed_end l room = lexed_into (length (last_tokens l)) room l

-- the records afterwards: filled from the front, those after the last written kept; all kept where no token is put
abbrev pub placed : Result PartLexed NotLexed → List Token → List (List ℕ) → List (List ℕ)
placed (Ok p) ts old = map record_of ts ++ drop (length ts) old
placed (Err r) ts old = old

unfoldable pub part_memory : Lexing → List ℕ → List (List ℕ) → List (List ℕ)
part_memory l s old = placed (lexed_part l s (length old)) (given_by l s) old

unfoldable pub end_memory : Lexing → List (List ℕ) → List (List ℕ)
end_memory l old = placed (lexed_end l (length old)) (last_tokens l) old
