-- RULE. Lexing byte by byte: what is in progress between two bytes, and what one byte more does to it. No place and no line
-- stands here: crate `built_lexing` counts them.
use Rattle.std.specs.Prelude.{ℕ, Option, Some, None}
use mathlib.Core.{Bool.Bool, Bool.true, Bool.false, Bool.cond}
use lib.{Dec.eqb}
use Rattle.text_classes.specs.{Classes.wschar}
use Rattle.lexer_scans.specs.{Extents.in_comment, Extents.in_atom, Extents.hides, Extents.closes}
use Rattle.lexer.specs.{Table.kind_by}
use Rattle.lexer_token.specs.declared.{TokenKind.TokenKind}
use Rattle.lexer_token.specs.declared.TokenKind.TheVariants.{Dot, Equals, Comma, LeftSquareBracket, RightSquareBracket, LeftCurlyBracket, RightCurlyBracket, Whitespace, Comment, Newline, LiteralString, BasicString, MlLiteralString, MlBasicString, Atom, Eof}
use Rattle.built_bytes.specs.declared.{Quote.Quote, Quote.TheVariants.Apostrophe, Quote.TheVariants.Quotation, Mode.Mode, Turn.Turn}
use Rattle.built_bytes.specs.declared.Mode.TheVariants.{Start, Bom1, Bom2, Idle, Blanks, Remark, Word, Return, One, Two, Line, Ml, MlOne, MlTwo, Shut, ShutOne}
use Rattle.built_bytes.specs.declared.Turn.TheVariants.{Opens, Single, More, Ends, Apart, Skipped}

-- the byte of a quote mark, and the kinds of the strings on one line and on several that it opens
abbrev pub mark_of : Quote → ℕ
mark_of Apostrophe = 0x27
mark_of Quotation = 0x22

abbrev pub line_kind : Quote → TokenKind
line_kind Apostrophe = LiteralString
line_kind Quotation = BasicString

abbrev pub ml_kind : Quote → TokenKind
ml_kind Apostrophe = MlLiteralString
ml_kind Quotation = MlBasicString

-- the first byte of a token, by the kind that it opens: a token of its own, or one that goes on. Three quote marks are told
-- from one by the bytes after the first
abbrev pub opening_by : TokenKind → ℕ → Turn
opening_by Dot b = Single Dot
opening_by Equals b = Single Equals
opening_by Comma b = Single Comma
opening_by LeftSquareBracket b = Single LeftSquareBracket
opening_by RightSquareBracket b = Single RightSquareBracket
opening_by LeftCurlyBracket b = Single LeftCurlyBracket
opening_by RightCurlyBracket b = Single RightCurlyBracket
opening_by Whitespace b = Opens Blanks
opening_by Comment b = Opens Remark
opening_by Newline b = cond (eqb b 0x0D) (Opens Return) (Single Newline)
opening_by LiteralString b = Opens (One Apostrophe)
opening_by BasicString b = Opens (One Quotation)
opening_by MlLiteralString b = Opens (One Apostrophe)
opening_by MlBasicString b = Opens (One Quotation)
opening_by Atom b = Opens Word
opening_by Eof b = Opens Word

unfoldable pub opening : ℕ → Turn
opening b = opening_by (kind_by b false) b

-- a run of bytes of one kind goes on with a byte, or ended before it
abbrev pub run_on : Bool → Mode → TokenKind → Turn
run_on goes m k = cond goes (More m) (Apart k)

-- a byte after the opening mark of a string on one line that does not close it: an LF ended it, any other goes on with it
abbrev pub in_line : Quote → Bool → ℕ → Turn
in_line q h b = cond (eqb b 0x0A) (Apart (line_kind q)) (More (Line q (hides (mark_of q) h b)))

-- a byte within a string on several lines that is no mark of its closing
abbrev pub in_ml : Quote → Bool → ℕ → Turn
in_ml q h b = More (Ml q (hides (mark_of q) h b))

-- one byte more, by what is in progress
unfoldable pub turn_of : Mode → ℕ → Turn
turn_of Start b = cond (eqb b 0xEF) (Opens Bom1) (opening b)
-- the bytes of a byte order mark are skipped where it is whole, and begin an Atom where it is not
turn_of Bom1 b = cond (eqb b 0xBB) (More Bom2) (run_on (in_atom b) Word Atom)
turn_of Bom2 b = cond (eqb b 0xBF) Skipped (run_on (in_atom b) Word Atom)
turn_of Idle b = opening b
turn_of Blanks b = run_on (wschar b) Blanks Whitespace
turn_of Remark b = run_on (in_comment b) Remark Comment
turn_of Word b = run_on (in_atom b) Word Atom
turn_of Return b = cond (eqb b 0x0A) (Ends Newline) (Apart Newline)
-- two marks are an empty string, unless a third one follows
turn_of (One q) b = cond (eqb b (mark_of q)) (More (Two q)) (in_line q false b)
turn_of (Two q) b = cond (eqb b (mark_of q)) (More (Ml q false)) (Apart (line_kind q))
turn_of (Line q h) b = cond (closes (mark_of q) h b) (Ends (line_kind q)) (in_line q h b)
-- three marks close a string on several lines, and up to two more belong to it
turn_of (Ml q h) b = cond (closes (mark_of q) h b) (More (MlOne q)) (in_ml q h b)
turn_of (MlOne q) b = cond (eqb b (mark_of q)) (More (MlTwo q)) (in_ml q false b)
turn_of (MlTwo q) b = cond (eqb b (mark_of q)) (More (Shut q)) (in_ml q false b)
turn_of (Shut q) b = cond (eqb b (mark_of q)) (More (ShutOne q)) (Apart (ml_kind q))
turn_of (ShutOne q) b = cond (eqb b (mark_of q)) (Ends (ml_kind q)) (Apart (ml_kind q))

-- the kind of the token in progress, were the document to end here; at the start and between two tokens there is none
unfoldable pub pending_of : Mode → Option TokenKind
pending_of Start = None
pending_of Bom1 = Some Atom
pending_of Bom2 = Some Atom
pending_of Idle = None
pending_of Blanks = Some Whitespace
pending_of Remark = Some Comment
pending_of Word = Some Atom
pending_of Return = Some Newline
pending_of (One q) = Some (line_kind q)
pending_of (Two q) = Some (line_kind q)
pending_of (Line q h) = Some (line_kind q)
pending_of (Ml q h) = Some (ml_kind q)
pending_of (MlOne q) = Some (ml_kind q)
pending_of (MlTwo q) = Some (ml_kind q)
pending_of (Shut q) = Some (ml_kind q)
pending_of (ShutOne q) = Some (ml_kind q)
