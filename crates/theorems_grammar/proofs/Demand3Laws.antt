-- Demand 3 holds: of a text by the laws of its kind, and of tokens and steps because each gives the token at its place.
use Prim.Native.Nat.{ℕ, ◌+◌, ◌-◌, ◌≤◌, ◌<◌}
use mathlib.Core.Path.{◌≡◌, sym, ◌∙◌, ap, subst}
use mathlib.Core.Logic.{◌↔◌}
use mathlib.Core.List.{List, [], ◌++◌}
use native.Mathlib.Decide.{dec_lt}
use native.Mathlib.Omega.{arith}
use lib.ListN.{length, take, drop, length-drop, take-append-drop, drop_of_length-le}
use lib.Seq.{length-take-le, take-append_seam}
use Rattle.text_scalars.specs.Utf8.{Scalar, encodes, All, Utf8}
use Rattle.text_refusals.specs.Refusals.{limit}
use Rattle.text_scalars.proofs.ReadLaws.{same_scalars}
use Rattle.decoder_rules.specs.declared.Encoding.{Encoding}
use Rattle.decoder_rules.specs.Decoding.{bytes_of, errors_of}
use Rattle.lexer_token.specs.declared.TokenKind.{TokenKind}
use Rattle.lexer_token.specs.declared.TokenKind.TheVariants.{Eof}
use Rattle.lexer_token.specs.declared.Token.{Token}
use Rattle.lexer_token.specs.KindNumbers.{kind_number}
use Rattle.lexer_token.specs.Records.{token_of, text_of}
use Rattle.lexer.specs.Table.{kind_of, extent, token_len}
use Rattle.lexer.specs.Lines.{line_feeds, line_of}
use Rattle.lexer.specs.Tokens.{token_at}
use Rattle.lexer.proofs.TokenLaws.{token_fits}
use Rattle.theorems_tokens.proofs.Lexing.{token_cut, by_rule}
use Rattle.decoder_rules.specs.declared.Edition.{Edition}
use Rattle.theorems_grammar.specs.Strings.{StringKind, literal, basic, ml_literal, ml_basic, token_kind, encoding, mark, Apart, Derived, Means}
use Rattle.theorems_grammar.specs.Demand3.{TextDerived, TextMeans, Agrees, Demand3}
use Rattle.theorems_grammar.proofs.LiteralStrings.{literal_sound, literal_complete}
use Rattle.theorems_grammar.proofs.BasicStrings.{basic_sound, basic_complete}
use Rattle.theorems_grammar.proofs.MlLiteralStrings.{ml_literal_sound, ml_literal_complete}
use Rattle.theorems_grammar.proofs.MlBasicStrings.{ml_basic_sound, ml_basic_complete}
use Rattle.theorems_grammar.proofs.NameLaws.{basic_names, ml_basic_names}
use Rattle.theorems_grammar.proofs.Values.{value_scalars, basic_value, ml_basic_value}
use Rattle.theorems_grammar.proofs.Lexing.{IsToken, derived_token}
use Rattle.theorems_grammar.proofs.TokenFacts.{listed_is, step_gave, step_there, reached_cut, reached_listed}
use Rattle.theorems_grammar.proofs.CallLaws.{called_is}

-- in one edition of TOML
module _ (ed : Edition) where
  -- ---- the four kinds together

  means_derives : (s : StringKind) (cs v : List ℕ) → Means ed s cs v → Derived ed s cs v
  means_derives literal cs v d = d
  means_derives basic cs v d = d
  means_derives ml_literal cs v (d, o) = d
  means_derives ml_basic cs v (d, o, h) = (d, h)

  complete : (s : StringKind) (cs v : List ℕ) → Derived ed s cs v → errors_of (encoding ed s) (encodes cs) ≡ []
  complete literal cs v d = (literal_complete d).0
  complete basic cs v (d, h) = (basic_complete ed d (basic_names d h)).0
  complete ml_literal cs v d = (ml_literal_complete d).0
  complete ml_basic cs v (d, h) = (ml_basic_complete ed d (ml_basic_names d h)).0

  bytes : (s : StringKind) (cs v : List ℕ) → Means ed s cs v → bytes_of (encoding ed s) (encodes cs) ≡ encodes v
  bytes literal cs v d = (literal_complete d).1
  bytes basic cs v (d, h) = (basic_complete ed d (basic_names d h)).1
  bytes ml_literal cs v (d, o) = (ml_literal_complete d).1 o
  bytes ml_basic cs v (d, o, h) = (ml_basic_complete ed d (ml_basic_names d h)).1 o

  long_of : (k : TokenKind) (t rest : List ℕ) → IsToken k t rest → extent k (t ++ rest) ≡ length t
  unfolding token_len
  long_of k t rest (kind, long) = ap (λ (x : TokenKind). extent x (t ++ rest)) (sym kind) ∙ long

  sound : (s : StringKind) (cs rest : List ℕ) → All Scalar cs → IsToken (token_kind s) (encodes cs) rest
      → errors_of (encoding ed s) (encodes cs) ≡ []
      → (v : List ℕ) × Means ed s cs v
  unfolding extent
  sound literal cs rest scalars token clean-text = literal_sound cs scalars clean-text
  sound basic cs rest scalars token clean-text =
      let derived = basic_sound ed cs scalars clean-text in
      (derived.0, (derived.1, basic_value ed derived.1 derived.2))
  sound ml_literal cs rest scalars token clean-text =
      let derived = ml_literal_sound cs rest scalars (long_of (token_kind ml_literal) (encodes cs) rest token) clean-text in
      (derived.0, (derived.1, derived.2))
  sound ml_basic cs rest scalars token clean-text =
      let derived = ml_basic_sound ed cs rest scalars (long_of (token_kind ml_basic) (encodes cs) rest token) clean-text in
      (derived.0, (derived.1, derived.3, ml_basic_value ed derived.1 derived.2))

  -- ---- a token's text

  module _ (s : StringKind) (t rest : List ℕ) (utf8 : Utf8 t) (token : IsToken (token_kind s) t rest) where
    abbrev kind : Encoding
    kind = encoding ed s

    means_of : errors_of kind t ≡ [] → (v : List ℕ) × TextMeans ed s t v
    means_of clean-text = by_points utf8.0 utf8.1 utf8.2
      where
        by_points : (cs : List ℕ) → All Scalar cs → encodes cs ≡ t → (v : List ℕ) × TextMeans ed s t v
        by_points cs scalars text =
            let meaning =
            sound s cs rest scalars (subst (λ y. IsToken (token_kind s) y rest) (sym text) token)
            (ap (errors_of kind) text ∙ clean-text) in
            (meaning.0, record { points = cs; scalar = scalars; text = text; means = meaning.1 })

    derives : (v : List ℕ) → TextMeans ed s t v → TextDerived ed s t v
    derives v meaning =
        let derivation = means_derives s meaning.points v meaning.means in
        record { points = meaning.points; scalar = meaning.scalar; text = meaning.text; derives = derivation }

    clean : (v : List ℕ) → TextDerived ed s t v → errors_of kind t ≡ []
    clean v d = sym (ap (errors_of kind) d.text) ∙ complete s d.points v d.derives

    value_of : (v : List ℕ) → TextMeans ed s t v → bytes_of kind t ≡ encodes v
    value_of v meaning = sym (ap (bytes_of kind) meaning.text) ∙ bytes s meaning.points v meaning.means

    scalar_value : (v : List ℕ) → TextMeans ed s t v → All Scalar v
    scalar_value v meaning =
        value_scalars ed s meaning.points v (means_derives s meaning.points v meaning.means) meaning.scalar

    derived_iff : (errors_of kind t ≡ []) ↔ ((v : List ℕ) × TextDerived ed s t v)
    derived_iff = (
      λ clean-text. let meaning = means_of clean-text in (meaning.0, derives meaning.0 meaning.1),
      λ text. clean text.0 text.1,
    )

    means_iff : (errors_of kind t ≡ []) ↔ ((v : List ℕ) × TextMeans ed s t v)
    means_iff = (means_of, λ m. clean m.0 (derives m.0 m.1))

    agrees : length t ≤ limit → Agrees ed s t
    agrees small =
        record {
          whole = utf8;
          derived = derived_iff;
          meant = means_iff;
          value = value_of;
          one = λ v w first second.
              same_scalars v w (scalar_value v first) (scalar_value w second) (sym (value_of v first) ∙ value_of w second);
          called = called_is ed s t utf8 small derived_iff means_iff value_of;
        }

  -- the token at a place
  place_agrees : (doc : List ℕ) (at line : ℕ) → Utf8 (drop at doc) → length doc ≤ limit
      → (s : StringKind) → kind_of (drop at doc) ≡ token_kind s → Agrees ed s (text_of doc (token_at at line (drop at doc)))
  place_agrees doc at line utf8 few s kind =
      let left : List ℕ = drop at doc in
      let n = token_len left in
      let parts : take n left ++ drop n left ≡ left = take-append-drop n left in
      let taken : length (take n left) ≡ n = length-take-le n left (token_fits left) in
      let token : IsToken (token_kind s) (take n left) (drop n left) = (ap kind_of parts ∙ kind, ap token_len parts ∙ sym taken) in
      let same : n ≡ at + n - at = omega arith in
      subst (λ (i : ℕ). Agrees ed s (take i left)) same
      (agrees s (take n left) (drop n left) (token_cut left utf8).0 token (omega (arith, token_fits left, length-drop at doc)))

  -- ---- derived texts at a place

  end_kind : (doc : List ℕ) (at : ℕ) → length doc ≤ at → kind_of (drop at doc) ≡ Eof
  unfolding kind_of
  end_kind doc at l = rw (drop_of_length-le doc {i = at} l)

  eof_no_string : (s : StringKind) → Eof ≡ token_kind s → ⊥
  eof_no_string literal same = let numbers : ◌≡◌ {A = ℕ} 4 39 = ap kind_number same in omega arith
  eof_no_string basic same = let numbers : ◌≡◌ {A = ℕ} 4 34 = ap kind_number same in omega arith
  eof_no_string ml_literal same = let numbers : ◌≡◌ {A = ℕ} 4 1 = ap kind_number same in omega arith
  eof_no_string ml_basic same = let numbers : ◌≡◌ {A = ℕ} 4 2 = ap kind_number same in omega arith

  module _ (doc : List ℕ) (at : ℕ) (s : StringKind) (cs v rest : List ℕ)
      (derived : Derived ed s cs v) (text : drop at doc ≡ encodes cs ++ rest) (apart : Apart (mark s) rest) where
    kind_there : kind_of (drop at doc) ≡ token_kind s
    kind_there = ap kind_of text ∙ (derived_token ed s cs v rest derived apart).0

    long_there : token_len (drop at doc) ≡ length (encodes cs)
    long_there = ap token_len text ∙ (derived_token ed s cs v rest derived apart).1

    token_there : (line : ℕ) → token_at at line (drop at doc) ≡ token_of (token_kind s) at (at + length (encodes cs)) line
    token_there line = rw (kind_there, long_there)

    -- the LFs of the token are those of the text
    lines_there : line_feeds (take (token_len (drop at doc)) (drop at doc)) ≡ line_feeds (encodes cs)
    lines_there =
        let n = length (encodes cs) in
        ap line_feeds (ap (λ (i : ℕ). take i (drop at doc)) long_there ∙ ap (take n) text ∙ take-append_seam (encodes cs) rest)

    before_end : at < length doc
    before_end = elim (dec_lt at (length doc)) [
      | yes l ↦ l
      | no l ↦ absurd (eof_no_string s (sym (end_kind doc at (omega arith)) ∙ kind_there))
    ]

  -- ---- the demand

  pub demand_3 : Demand3 ed
  demand_3 =
      record {
        tokens = λ doc utf8 few r listed s is.
            let facts = by_rule doc r listed in
            subst (λ (token : Token). Agrees ed s (text_of doc token)) (sym (listed_is doc r listed))
            (place_agrees doc r.span.start (line_of doc r.span.start) (facts.whole utf8) few s (sym facts.kind ∙ is));
        steps = λ doc c utf8 r d gives s is.
            let facts = step_gave doc c r d gives in
            let kind : kind_of (drop c.place doc) ≡ token_kind s = ap (λ (token : Token). token.kind) (sym facts.is) ∙ is in
            subst (λ (token : Token). Agrees ed s (text_of doc token)) (sym facts.is)
            (place_agrees doc c.place c.line utf8 facts.few s kind);
        reached = reached_cut;
        listed = reached_listed;
        step_back = λ doc few c near s cs v rest derived text apart.
            step_there doc few c near (before_end doc c.place s cs v rest derived text apart)
            ∙ rw (
              token_there doc c.place s cs v rest derived text apart c.line,
              lines_there doc c.place s cs v rest derived text apart,
              long_there doc c.place s cs v rest derived text apart,
            );
        token_back = λ doc r listed s cs v rest derived text apart.
            listed_is doc r listed
            ∙ token_there doc r.span.start s cs v rest derived text apart (line_of doc r.span.start);
      }
