-- A literal or basic string within the limit is read back: it is one token, by the grammar's demand it is decoded without an
-- error to its value, and it holds no LF.
use Prim.Native.Nat.{ℕ, ◌≤◌, ◌<◌}
use mathlib.Core.Path.{◌≡◌, refl, sym, ◌∙◌, ap, subst}
use mathlib.Core.Bool.{false}
use mathlib.Core.List.{List, [], ◌∷◌, ◌++◌, append-nil, Memᴰ}
use native.Mathlib.Nat.{zero-add, add-zero, sub-zero}
use native.Mathlib.Omega.{arith}
use lib.ListN.{length, take, drop_of_length-le}
use lib.Seq.{take_all}
use Rattle.text_scalars.specs.Utf8.{Scalar, All, encodes}
use Rattle.text_refusals.specs.Refusals.{limit}
use Rattle.decoder_rules.specs.declared.Edition.{Edition}
use Rattle.decoder_rules.specs.declared.Edition.TheVariants.{Toml10}
use Rattle.lexer_token.specs.declared.Token.{Token}
use Rattle.lexer_token.specs.declared.TokenKind.TheVariants.{Eof}
use Rattle.lexer_token.specs.KindNumbers.{kind_number}
use Rattle.lexer_token.specs.Records.{token_of, text_of}
use Rattle.lexer.specs.Lines.{line_feeds}
use Rattle.lexer.specs.Table.{kind_of, token_len}
use Rattle.lexer.specs.Tokens.{has_bom, start_of, tokens_of, eof_at}
use Rattle.lexer.proofs.LineLaws.{holds_lf, token_no_lf}
use Rattle.lexer.proofs.TokenLaws.{tokens_none, tokens_cons}
use Rattle.theorems_grammar.specs.Strings.{StringKind, literal, basic, ml_literal, ml_basic, token_kind, Derived, Means}
use Rattle.theorems_grammar.specs.Demand3.{TextDerived, TextMeans, Agrees}
use Rattle.theorems_grammar.proofs.ScalarTexts.{derived_scalar}
use Rattle.theorems_grammar.proofs.Lexing.{derived_token}
use Rattle.theorems_grammar.proofs.Demand3Laws.{demand_3}
use Rattle.theorems_writing.specs.Shortest.{OneLine, ReadBack}

-- ---- the kinds on one line: no LF, and no prose rule

no_lf : (k : StringKind) → OneLine k → holds_lf (token_kind k) ≡ false
no_lf literal h = refl
no_lf basic h = refl
no_lf ml_literal h = absurd h
no_lf ml_basic h = absurd h

means : (ed : Edition) (k : StringKind) → OneLine k → (cs v : List ℕ) → Derived ed k cs v → Means ed k cs v
means ed literal h cs v d = d
means ed basic h cs v d = d
means ed ml_literal h cs v d = absurd h
means ed ml_basic h cs v d = absurd h

no_end : (k : StringKind) → OneLine k → Eof ≡ token_kind k → ⊥
no_end literal h e = let z : ◌≡◌ {A = ℕ} 4 39 = ap kind_number e in omega arith
no_end basic h e = let z : ◌≡◌ {A = ℕ} 4 34 = ap kind_number e in omega arith
no_end ml_literal h e = h
no_end ml_basic h e = h

-- ---- a text t that is derived in each edition, and begins with no byte order mark

module _ (k : StringKind) (line : OneLine k) (cs v t : List ℕ) (d : (ed : Edition) → Derived ed k cs v) (is : encodes cs ≡ t)
    (unmarked : has_bom t ≡ false) (small : length t ≤ limit) where
  scalar : All Scalar cs
  scalar = derived_scalar Toml10 k cs v (d Toml10)

  kind_is : kind_of t ≡ token_kind k
  kind_is = ap kind_of (sym is ∙ sym (append-nil (encodes cs))) ∙ (derived_token Toml10 k cs v [] (d Toml10) refl).0

  long_is : token_len t ≡ length t
  long_is =
      ap token_len (sym is ∙ sym (append-nil (encodes cs))) ∙ (derived_token Toml10 k cs v [] (d Toml10) refl).1 ∙ ap length is

  feeds : line_feeds t ≡ 0
  feeds =
      let none = token_no_lf t (ap holds_lf kind_is ∙ no_lf k line) in
      sym (ap line_feeds (ap (λ (n : ℕ). take n t) long_is ∙ take_all (length t) t (omega arith))) ∙ none

  abbrev first : Token
  first = token_of (token_kind k) 0 (length t) 1

  -- no token is lexed from no bytes but Eof
  some : (t₁ : List ℕ) → kind_of t₁ ≡ token_kind k → 0 < length t₁
  unfolding kind_of
  some [] e = absurd (no_end k line e)
  some (b ∷ s) e = omega arith

  tokens : tokens_of t ≡ first ∷ (eof_at (length t) 1 ∷ [])
  unfolding tokens_of start_of
  tokens =
      let all : length t ≤ length t = omega arith in
      rw unmarked
      (tokens_cons 0 1 t (some t kind_is)
      ∙ rw (kind_is, long_is, zero-add, take_all (length t) t, feeds, drop_of_length-le t all, tokens_none))

  -- its text, as a token's, is all of it
  text_is : text_of t first ≡ t
  text_is = rw sub-zero (take_all (length t) t (omega arith))

  agrees : (ed : Edition) → Agrees ed k t
  agrees ed =
      let listed : Memᴰ first (tokens_of t) = subst (Memᴰ first) (sym tokens) (mathlib.Core.List.Memᴰ.head refl) in
      subst (Agrees ed k) text_is ((demand_3 ed).tokens t (cs, scalar, is) small first listed k refl)

  derived_text : (ed : Edition) → TextDerived ed k t v
  derived_text ed = record { points = cs; scalar = scalar; text = is; derives = d ed }

  means_text : (ed : Edition) → TextMeans ed k t v
  means_text ed = record { points = cs; scalar = scalar; text = is; means = means ed k line cs v (d ed) }

  pub read_back : ReadBack k (encodes v) t
  read_back =
      record {
        document = tokens;
        step = λ doc l c o rest e a.
            (demand_3 Toml10).step_back doc l c o k cs v rest (d Toml10) (e ∙ ap (λ (x : List ℕ). x ++ rest) (sym is)) a
            ∙ rw (is, feeds, add-zero);
        token = λ doc r m rest e a.
            (demand_3 Toml10).token_back doc r m k cs v rest (d Toml10) (e ∙ ap (λ (x : List ℕ). x ++ rest) (sym is)) a
            ∙ rw is;
        no_error = λ ed. (agrees ed).derived.1 (v, derived_text ed);
        value_back = λ ed. (agrees ed).value v (means_text ed);
        answered = λ ed out e h. (((agrees ed).called out e).meaning (length (encodes v))).1 (v, means_text ed, refl, h);
        output = λ ed out e h. ((agrees ed).called out e).output v (means_text ed) h;
      }
