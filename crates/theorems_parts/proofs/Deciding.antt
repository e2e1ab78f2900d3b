-- The tokens given are the decided ones: they are the same for all further bytes, and the next token could still be another one.
use Prim.Native.Nat.{ℕ, ◌+◌}
use mathlib.Core.Path.{◌≡◌, refl, sym, ap, ◌∙◌}
use mathlib.Core.Bool.{Bool, true, false}
use mathlib.Core.List.{List, [], ◌∷◌, ◌++◌}
use native.Mathlib.Omega.{arith}
use native.Mathlib.Nat.{add-zero}
use lib.ListN.{take, drop}
use Rattle.text_classes.specs.Classes.{wschar, token_start}
use Rattle.text_classes.specs.Runs.{run, triple}
use Rattle.lexer_scans.specs.Extents.{line_tail, ml_tail, up_to_two}
use Rattle.lexer_token.specs.declared.TokenKind.{TokenKind}
use Rattle.lexer_token.specs.declared.TokenKind.TheVariants.{Equals, Eof}
use Rattle.lexer_token.specs.declared.Token.{Token}
use Rattle.lexer.specs.Lines.{line_feeds}
use Rattle.lexer.specs.Table.{kind_by, kind_of, token_len}
use Rattle.lexer.specs.Tokens.{token_at, eof_at, line_after, tokens_from, start_of}
use Rattle.lexer.proofs.TokenLaws.{tokens_cons, tokens_none}
use Rattle.built_bytes.specs.declared.Quote.{Quote}
use Rattle.built_bytes.specs.declared.Quote.TheVariants.{Apostrophe, Quotation}
use Rattle.built_bytes.specs.declared.Mode.{Mode}
use Rattle.built_bytes.specs.declared.Mode.TheVariants.{Start, Bom1, Bom2, Idle, Blanks, Remark, Word, Return, One, Two, Line, Ml, MlOne, MlTwo, Shut, ShutOne}
use Rattle.built_bytes.specs.Turns.{mark_of}
use Rattle.built_bytes.specs.Rests.{rest_len, rest_kind}
use Rattle.built_lexing.specs.declared.states.Lexing.{Lexing}
use Rattle.built_lexing.specs.States.{unread, token_from, given_by, state_after}
use Rattle.theorems_parts.specs.Decided.{FirstOf, GivenDecided}
use Rattle.theorems_parts.proofs.Meaning.{goes_on, in_progress, means, to_come, tokens_parts}

-- two lists of tokens whose first ones differ
record Forks (u v : List Token) : Type 0 where
  a : Token
  b : Token
  x : List Token
  y : List Token
  left : u ≡ a ∷ x
  right : v ≡ b ∷ y
  apart : a ≡ b → ⊥

-- tokens that end at two places
fork_end : (k j : TokenKind) (l : Lexing) (s t : List ℕ) → Forks (goes_on k 0 l s) (goes_on j 1 l t)
fork_end k j l s t = record {
  a = token_from k l (l.at + 0);
  b = token_from j l (l.at + 1);
  x = tokens_from (l.at + 0) (l.line + line_feeds (take 0 s)) (drop 0 s);
  y = tokens_from (l.at + 1) (l.line + line_feeds (take 1 t)) (drop 1 t);
  left = refl;
  right = refl;
  apart = λ e. omega (arith, ap (λ (r : Token). r.span.end) e);
}

-- the end, or an equals sign
fork_idle : (at line : ℕ) → Forks (tokens_from at line []) (tokens_from at line (61 ∷ []))
unfolding token_len kind_of kind_by
fork_idle at line = record {
  a = eof_at at line;
  b = token_at at line (61 ∷ []);
  x = [];
  y = tokens_from (at + token_len (61 ∷ [])) (line_after line (61 ∷ [])) (drop (token_len (61 ∷ [])) (61 ∷ []));
  left = tokens_none at line;
  right = tokens_cons at line (61 ∷ []) (omega arith);
  apart = λ e.
      let kinds : Eof ≡ Equals = ap (λ (r : Token). r.kind) e in
      let z : ◌≡◌ {A = ℕ} 0 1 = cc in
      omega arith;
}

-- a byte after which the next token is another than where the document ends
abbrev swerve : Mode → ℕ
swerve Start = 61
swerve Bom1 = 65
swerve Bom2 = 65
swerve Idle = 61
swerve Blanks = 32
swerve Remark = 65
swerve Word = 65
swerve Return = 10
swerve (One q) = 65
swerve (Two q) = mark_of q
swerve (Line q h) = 65
swerve (Ml q h) = 65
swerve (MlOne q) = 65
swerve (MlTwo q) = 65
swerve (Shut q) = mark_of q
swerve (ShutOne q) = mark_of q

abbrev Fork : Mode → Lexing → Type 0
Fork m l = Forks (means m l []) (means m l (swerve m ∷ []))

fork_by : (m : Mode) (w : ℕ) (l : Lexing) → rest_len m [] ≡ 0 → rest_len m (w ∷ []) ≡ 1 → Forks (in_progress m l []) (in_progress m l (w ∷ []))
fork_by m w l e f = rw (e, f) (fork_end (rest_kind m []) (rest_kind m (w ∷ [])) l [] (w ∷ []))

quote_forks : (q : Quote) (h : Bool) (l : Lexing)
    → Fork (One q) l × Fork (Two q) l × Fork (Line q h) l × Fork (Ml q h) l × Fork (MlOne q) l × Fork (MlTwo q) l × Fork (Shut q) l × Fork (ShutOne q) l
unfolding line_tail ml_tail up_to_two triple
quote_forks Apostrophe true l = (
  fork_by (One Apostrophe) 65 l refl refl,
  fork_by (Two Apostrophe) 39 l refl refl,
  fork_by (Line Apostrophe true) 65 l refl refl,
  fork_by (Ml Apostrophe true) 65 l refl refl,
  fork_by (MlOne Apostrophe) 65 l refl refl,
  fork_by (MlTwo Apostrophe) 65 l refl refl,
  fork_by (Shut Apostrophe) 39 l refl refl,
  fork_by (ShutOne Apostrophe) 39 l refl refl,
)
quote_forks Apostrophe false l = (
  fork_by (One Apostrophe) 65 l refl refl,
  fork_by (Two Apostrophe) 39 l refl refl,
  fork_by (Line Apostrophe false) 65 l refl refl,
  fork_by (Ml Apostrophe false) 65 l refl refl,
  fork_by (MlOne Apostrophe) 65 l refl refl,
  fork_by (MlTwo Apostrophe) 65 l refl refl,
  fork_by (Shut Apostrophe) 39 l refl refl,
  fork_by (ShutOne Apostrophe) 39 l refl refl,
)
quote_forks Quotation true l = (
  fork_by (One Quotation) 65 l refl refl,
  fork_by (Two Quotation) 34 l refl refl,
  fork_by (Line Quotation true) 65 l refl refl,
  fork_by (Ml Quotation true) 65 l refl refl,
  fork_by (MlOne Quotation) 65 l refl refl,
  fork_by (MlTwo Quotation) 65 l refl refl,
  fork_by (Shut Quotation) 34 l refl refl,
  fork_by (ShutOne Quotation) 34 l refl refl,
)
quote_forks Quotation false l = (
  fork_by (One Quotation) 65 l refl refl,
  fork_by (Two Quotation) 34 l refl refl,
  fork_by (Line Quotation false) 65 l refl refl,
  fork_by (Ml Quotation false) 65 l refl refl,
  fork_by (MlOne Quotation) 65 l refl refl,
  fork_by (MlTwo Quotation) 65 l refl refl,
  fork_by (Shut Quotation) 34 l refl refl,
  fork_by (ShutOne Quotation) 34 l refl refl,
)

fork_start : (l : Lexing) → Fork Start l
unfolding start_of
fork_start l = rw add-zero (fork_idle l.at l.line)

fork : (m : Mode) (l : Lexing) → Fork m l
unfolding run wschar token_start
fork Start l = fork_start l
fork Bom1 l = fork_by Word 65 l refl refl
fork Bom2 l = fork_by Word 65 l refl refl
fork Idle l = fork_idle l.at l.line
fork Blanks l = fork_by Blanks 32 l refl refl
fork Remark l = fork_by Remark 65 l refl refl
fork Word l = fork_by Word 65 l refl refl
fork Return l = fork_by Return 10 l refl refl
fork (One q) l = (quote_forks q false l).0
fork (Two q) l = (quote_forks q false l).1
fork (Line q h) l = (quote_forks q h l).2
fork (Ml q h) l = (quote_forks q h l).3
fork (MlOne q) l = (quote_forks q false l).4
fork (MlTwo q) l = (quote_forks q false l).5
fork (Shut q) l = (quote_forks q false l).6
fork (ShutOne q) l = (quote_forks q false l).7

-- a list with which two lists begin that fork after g is no longer than g
begins_fork : (g us r t : List Token) (a b : Token) (x y : List Token) → us ++ r ≡ g ++ (a ∷ x) → us ++ t ≡ g ++ (b ∷ y)
    → (a ≡ b → ⊥) → FirstOf us g
begins_fork g [] r t a b x y p q n = (g, refl)
begins_fork [] (c ∷ us) r t a b x y p q n = absurd (n cc)
begins_fork (d ∷ g) (c ∷ us) r t a b x y p q n =
    let i = begins_fork g us r t a b x y (cc) (cc) n in
    let e : c ≡ d = cc in
    (i.0, rw (e, i.1))

pub given_decided : GivenDecided
given_decided p = record {
  common = λ more. (to_come (state_after unread p) more, tokens_parts p more);
  longest = λ us c.
      let l = state_after unread p in
      let w = swerve l.mode ∷ [] in
      let f = fork l.mode l in
      begins_fork (given_by unread p) us (c []).0 (c w).0 f.a f.b f.x f.y
      ((c []).1 ∙ sym (tokens_parts p []) ∙ ap (λ (z : List Token). given_by unread p ++ z) f.left)
      ((c w).1 ∙ sym (tokens_parts p w) ∙ ap (λ (z : List Token). given_by unread p ++ z) f.right)
      f.apart;
}
