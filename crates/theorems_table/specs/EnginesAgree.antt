-- STATEMENT. The two engines answer alike. One tests ranges (crates `lexer`, `decoder`), one looks each byte up in the table (crates
-- `table_lexer`, `table_decoder`). Call by call: whatever the promises of the two calls admit for the same arguments, the same lent
-- memory among them, is the same in the answer and in what the lent memory holds at the end. The promises are the functions' own:
-- what a caller learns of their `ensures`. Proved in proofs/AgreeLaws.antt.
-- Assumes nothing.
use Rattle.std.specs.Prelude.{◌≡◌}
use Rattle.text_classes.proofs.OneAnswer.{◌and◌}
use Rattle.lexer.proofs.lex.Reads as lex
use Rattle.lexer.proofs.Cursor.step.Reads as step
use Rattle.decoder.proofs.decode.Reads as decode
use Rattle.decoder.proofs.decode_in.Reads as decode_in
use Rattle.table_lexer.proofs.lex.Reads as table-lex
use Rattle.table_lexer.proofs.step.Reads as table_step
use Rattle.table_decoder.proofs.decode.Reads as table-decode
use Rattle.table_decoder.proofs.decode_in.Reads as table-decode-in

-- Two promises about lifetimes, arguments, a result, and what the parameters hold at exit: any outcome of the one and any of the
-- other are the same in what is looked at.
module _ {L : Type 0} {A R S : L → Type 0} (Ranges Table : (κs : L) → A κs → R κs → S κs → Type 0) where
  abbrev pub Agree : {B : L → Type 0} → ((κs : L) → R κs → S κs → B κs) → Type 0
  Agree look = (κs : L) (a : A κs) (x y : R κs) (s t : S κs) → Ranges κs a x s → Table κs a y t → look κs x s ≡ look κs y t

-- whole lexing: the answer, and the records
abbrev pub LexAgrees : Type 0
LexAgrees = Agree lex.Learnt table-lex.Learnt (λ κs r s. r and s.1.0.now)

-- a step: the answer
abbrev pub StepAgrees : Type 0
StepAgrees = Agree step.Learnt table_step.Learnt (λ κs r s. r)

-- decoding: the answer, the output and the error records
abbrev pub DecodeAgrees : Type 0
DecodeAgrees = Agree decode.Learnt table-decode.Learnt (λ κs r s. r and s.1.1.0.now and s.1.1.1.0.now)

-- the same in a named edition
abbrev pub DecodeInAgrees : Type 0
DecodeInAgrees = Agree decode_in.Learnt table-decode-in.Learnt (λ κs r s. r and s.1.1.1.0.now and s.1.1.1.1.0.now)
