-- What the checkers of values promise to one another: where the text of a rule ends that begins at a place of a run of
-- kinds, or that none begins there; and how many brackets are open at the place. Not to be believed: no promise of a
-- public function cites it.
-- Assumes nothing.
use Rattle.std.specs.Prelude.{ℕ, ◌+◌, ◌≤◌, ◌<◌, Option, Some, None}
use mathlib.Core.{Path.◌≡◌, Bool.Bool, Bool.true, Bool.false, Bool.cond, Bool.◌&&◌, Bool.◌||◌, List.List, List.[], List.◌∷◌, List.◌++◌}
use lib.{ListN.length, ListN.drop, Dec.eqb}
use Rattle.text_classes.specs.Runs.{first_is, stands}
use Rattle.decoder_rules.specs.declared.{Edition.Edition, Edition.TheVariants.Toml10, Edition.TheVariants.Toml11}
use Rattle.lexer_token.specs.KindNumbers.{kind_number}
use Rattle.lexer_token.specs.declared.TokenKind.TheVariants.{Dot, Comma, Whitespace, Comment, Newline, LiteralString, BasicString, MlLiteralString, MlBasicString, Atom}
use Rattle.text_refusals.specs.Refusals.{depth}
use Rattle.built_values.specs.Depth.{is_opening, is_closing, count_if, Deep}
use Rattle.built_values.specs.declared.check.After.{After}
use Rattle.built_values.specs.declared.check.After.TheVariants.{Closed, Separated}
use Rattle.built_values.specs.declared.kinds.Run.{Run}
use Rattle.built_values.specs.declared.kinds.Run.TheVariants.{Blanks, Lines, Parts}

-- ---- kinds

abbrev pub is_string : ℕ → Bool
is_string k =
    eqb k (kind_number MlLiteralString)
    || (eqb k (kind_number MlBasicString) || (eqb k (kind_number BasicString) || eqb k (kind_number LiteralString)))

abbrev pub is_scalar_part : ℕ → Bool
is_scalar_part k = eqb k (kind_number Atom) || eqb k (kind_number Dot)

abbrev pub is_simple_key : ℕ → Bool
is_simple_key k = eqb k (kind_number Atom) || (eqb k (kind_number BasicString) || eqb k (kind_number LiteralString))

-- a kind k, before the kinds s, belongs to the run
abbrev pub in_run : Run → ℕ → List ℕ → Bool
in_run Blanks k s = eqb k (kind_number Whitespace)
in_run Lines k s =
    eqb k (kind_number Whitespace)
    || (eqb k (kind_number Newline) || eqb k (kind_number Comment) && stands (kind_number Newline) s)
in_run Parts k s = is_scalar_part k

-- what is left after the run
unfoldable pub past : Run → List ℕ → List ℕ
past run [] = []
past run (k ∷ s) = cond (in_run run k s) (past run s) (k ∷ s)

-- what may stand between the tokens of an inline table, and whether a comma may be the last of them
abbrev pub table_run : Edition → Run
table_run Toml10 = Blanks
table_run Toml11 = Lines

abbrev pub last_comma : Edition → Bool
last_comma Toml10 = false
last_comma Toml11 = true

-- ---- what a checker finds

-- s begins with a text of the rule G, and r is what is left of it
pub record Takes (G : List ℕ → Type 0) (s r : List ℕ) : Type 0 where
  pub text : List ℕ
  pub whole : s ≡ text ++ r
  pub derives : G text

-- from the place `at` up to `end` stands a text of the rule G; and every text of G there ends so, if what follows it is E
pub record Found (G E : List ℕ → Type 0) (ks : List ℕ) (at end : ℕ) : Type 0 where
  pub takes : Takes G (drop at ks) (drop end ks)
  pub only : (r : List ℕ) → E r → Takes G (drop at ks) r → r ≡ drop end ks
  pub after : at < end
  pub within : end ≤ length ks

abbrev pub Finds : (G E : List ℕ → Type 0) → List ℕ → ℕ → Option ℕ → Type 0
Finds G E ks at (Some end) = Found G E ks at end
Finds G E ks at None = (r : List ℕ) → E r → Takes G (drop at ks) r → ⊥

-- what follows a value: no part of a scalar, which else were longer
abbrev pub NoPart : List ℕ → Type 0
NoPart r = first_is is_scalar_part r ≡ false

-- what follows a key: blanks or not, no dot
abbrev pub NoDot : List ℕ → Type 0
NoDot r = stands (kind_number Dot) (past Blanks r) ≡ false

-- what follows a mark with the blanks around it
abbrev pub NoBlank : List ℕ → Type 0
NoBlank r = stands (kind_number Whitespace) r ≡ false

-- ---- what follows an item of an array or an inline table: its closing bracket, a comma, or neither

-- after the run stands a mark, and `end` is the place after it
pub record Marked (run : Run) (mark : ℕ) (ks : List ℕ) (at end : ℕ) : Type 0 where
  pub left : past run (drop at ks) ≡ mark ∷ drop end ks
  pub after : at < end
  pub within : end ≤ length ks

abbrev pub Follows : Run → ℕ → List ℕ → ℕ → Option After → Type 0
Follows run close ks at (Some (Closed end)) = Marked run close ks at end
Follows run close ks at (Some (Separated end)) = Marked run (kind_number Comma) ks at end
Follows run close ks at None =
    (stands close (past run (drop at ks)) ≡ false) × (stands (kind_number Comma) (past run (drop at ks)) ≡ false)

-- ---- depth

-- at a place of a run that is nowhere too deep so many brackets are open: those opened before it and not closed
pub record Inside (ks : List ℕ) (at level : ℕ) : Type 0 where
  pub within : at ≤ length ks
  pub opened : count_if is_opening ks + count_if is_closing (drop at ks)
      ≡ count_if is_closing ks + count_if is_opening (drop at ks) + level
  pub bounded : level ≤ depth
  pub shallow : Deep ks → ⊥
