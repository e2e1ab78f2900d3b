-- How far the token in progress still reaches over the bytes to come, and of what kind it then is, in the words of whole
-- lexing. The laws speak of it, and what the looks ahead of crate `built_ahead` promise. None of it is a rule: no promise of a
-- call cites it.
-- Assumes nothing.
use Rattle.std.specs.Prelude.{ℕ, suc, ◌≡◌, Bool, false, cond, ◌&&◌, List, [], ◌∷◌, drop}
use Rattle.text_classes.specs.Classes.{wschar}
use Rattle.text_classes.specs.Runs.{run, stands}
use Rattle.lexer_scans.specs.Extents.{in_comment, in_atom, line_tail, up_to_two, ml_tail}
use Rattle.lexer_token.specs.declared.TokenKind.{TokenKind}
use Rattle.lexer_token.specs.declared.TokenKind.TheVariants.{Whitespace, Comment, Newline, Atom, Eof}
use Rattle.built_bytes.specs.Turns.{mark_of, line_kind, ml_kind, turn_of}
use Rattle.built_bytes.specs.declared.Mode.{Mode}
use Rattle.built_bytes.specs.declared.Mode.TheVariants.{Start, Bom1, Bom2, Idle, Blanks, Remark, Word, Return, One, Two, Line, Ml, MlOne, MlTwo, Shut, ShutOne}
use Rattle.built_bytes.specs.declared.Turn.TheVariants.{More}

-- a token is in progress, and not what may become a byte order mark
abbrev pub Busy : Mode → Type 0
Busy Start = ⊥
Busy Bom1 = ⊥
Busy Bom2 = ⊥
Busy Idle = ⊥
Busy Blanks = Unit
Busy Remark = Unit
Busy Word = Unit
Busy Return = Unit
Busy (One q) = Unit
Busy (Two q) = Unit
Busy (Line q h) = Unit
Busy (Ml q h) = Unit
Busy (MlOne q) = Unit
Busy (MlTwo q) = Unit
Busy (Shut q) = Unit
Busy (ShutOne q) = Unit

-- two marks stand at the front
abbrev pub twice : ℕ → List ℕ → Bool
twice q s = stands q s && stands q (drop 1 s)

-- how many of the bytes to come belong to the token in progress; 0 where there is none
abbrev pub rest_len : Mode → List ℕ → ℕ
rest_len Start s = 0
rest_len Bom1 s = 0
rest_len Bom2 s = 0
rest_len Idle s = 0
rest_len Blanks s = run wschar s
rest_len Remark s = run in_comment s
rest_len Word s = run in_atom s
rest_len Return s = cond (stands 0x0A s) 1 0
rest_len (One q) s = cond (twice (mark_of q) s) (suc (suc (ml_tail (mark_of q) false (drop 2 s)))) (line_tail (mark_of q) false s)
rest_len (Two q) s = cond (stands (mark_of q) s) (suc (ml_tail (mark_of q) false (drop 1 s))) 0
rest_len (Line q h) s = line_tail (mark_of q) h s
rest_len (Ml q h) s = ml_tail (mark_of q) h s
rest_len (MlOne q) s = cond (twice (mark_of q) s) (suc (suc (up_to_two (mark_of q) (drop 2 s)))) (ml_tail (mark_of q) false s)
rest_len (MlTwo q) s = cond (stands (mark_of q) s) (suc (up_to_two (mark_of q) (drop 1 s))) (ml_tail (mark_of q) false s)
rest_len (Shut q) s = up_to_two (mark_of q) s
rest_len (ShutOne q) s = cond (stands (mark_of q) s) 1 0

-- its kind
abbrev pub rest_kind : Mode → List ℕ → TokenKind
rest_kind Start s = Eof
rest_kind Bom1 s = Atom
rest_kind Bom2 s = Atom
rest_kind Idle s = Eof
rest_kind Blanks s = Whitespace
rest_kind Remark s = Comment
rest_kind Word s = Atom
rest_kind Return s = Newline
rest_kind (One q) s = cond (twice (mark_of q) s) (ml_kind q) (line_kind q)
rest_kind (Two q) s = cond (stands (mark_of q) s) (ml_kind q) (line_kind q)
rest_kind (Line q h) s = line_kind q
rest_kind (Ml q h) s = ml_kind q
rest_kind (MlOne q) s = ml_kind q
rest_kind (MlTwo q) s = ml_kind q
rest_kind (Shut q) s = ml_kind q
rest_kind (ShutOne q) s = ml_kind q

-- bytes that belong to the token in progress one after the other, and lead from one mode to another
pub data Runs : Mode → List ℕ → Mode → Type 0 where
  stay : {m : Mode} → Runs m [] m
  on : {m n o : Mode} {b : ℕ} {s : List ℕ} → turn_of m b ≡ More n → Runs n s o → Runs m (b ∷ s) o
