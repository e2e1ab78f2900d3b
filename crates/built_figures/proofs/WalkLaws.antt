-- A document, from token to token: each step gives the next token of whole lexing, until all are given; what the tokens add, one
-- after the other, makes the document's figures; and these fit into 64 bits.
-- Assumes nothing.
use Prim.Native.Nat.{ℕ, zero, suc, ◌+◌, ◌-◌, ◌*◌, ◌≤◌, ◌<◌}
use mathlib.Core.Path.{◌≡◌, refl, sym, ap, ◌∙◌}
use mathlib.Core.Bool.{Bool, true, false, cond, false≢true}
use mathlib.Core.List.{List, [], ◌∷◌}
use native.Mathlib.Decide.{dec_lt}
use native.Mathlib.Omega.{arith}
use lib.ListN.{length, get_or, drop, length-append, length-map, length-take}
use Rattle.text_refusals.specs.Refusals.{limit}
use Rattle.lexer_token.specs.declared.Token.{Token}
use Rattle.lexer_token.specs.KindNumbers.{kind_number}
use Rattle.lexer_token.specs.Encodings.{kind_encoding, encoding_by, encoding_of}
use Rattle.lexer_token.specs.Records.{text_of}
use Rattle.lexer_token.specs.declared.TokenKind.{TokenKind}
use Rattle.lexer_token.proofs.KindLaws.{kind_back}
use Rattle.lexer.specs.declared.Cursor.{Cursor}
use Rattle.std.specs.Prelude.{Result, Ok, Err, Some, None}
use Rattle.lexer.specs.Tokens.{token_at, eof_at, line_after, start_of, tokens_of}
use Rattle.lexer.specs.Steps.{Step, cursor_of, step_of}
use Rattle.lexer.proofs.TokenLaws.{end_at, tokens_on, tokens_step, tokens_end, token_fits_at, token_long_at, line_fits_at, start_fits, tokens_count}
use Rattle.theorems_tokens.proofs.Lexing.{step_token, step_eof, step_end}
use Rattle.text_refusals.specs.declared.Refusal.{Refusal}
use Rattle.decoder_rules.specs.declared.Encoding.{Encoding}
use Rattle.decoder_rules.specs.Encodings.{choice_by}
use Rattle.decoder_rules.specs.Decoding.{errors_of, errors_by}
use Rattle.decoder_rules.proofs.Bounds.{errors_few}
use Rattle.built_figures.specs.Figures.{most, figures_for, token_error_numbers, kinds_among, errors_among, figures_among, added}
use Rattle.built_figures.specs.Counting.{Fit, Room, zeros, token_figures, error_figures}
use Rattle.built_figures.proofs.AddLaws.{added_comm, added_zeros, added_assoc}
use Rattle.built_figures.proofs.FigureLaws.{figures_joined, figures_long, figures_most, none_added, room_first, room_rest}

-- ---- steps

module _ (doc : List ℕ) where
  -- a cursor that steps reach from the start
  pub record Reached (c : Cursor) : Type 0 where
    pub within : c.place ≤ length doc
    pub low : c.line ≤ c.place + 1
    pub over : c.ended ≡ true → c.place ≡ length doc

  -- the tokens that are still to be given at it, and how many steps that takes at the most
  abbrev pub tokens_left : Cursor → List Token
  tokens_left c = cond c.ended [] (tokens_on doc c.place c.line)

  abbrev pub steps_left : Cursor → ℕ
  steps_left c = cond c.ended 0 (suc (length doc - c.place))

  -- what a step says that gives the token t and the cursor n
  pub record Given (c : Cursor) (t : Token) (n : Cursor) : Type 0 where
    pub left : tokens_left c ≡ t ∷ tokens_left n
    pub reached : Reached n
    pub fewer : steps_left n < steps_left c
    pub runs : t.span.start ≤ t.span.end
    pub inside : t.span.end ≤ length doc

  abbrev pub Told : Cursor → Step → Type 0
  Told c (Ok (Some (t, n))) = Given c t n
  Told c (Ok None) = tokens_left c ≡ []
  Told c (Err r) = ⊥

module _ (doc : List ℕ) (l : length doc ≤ limit) where
  at_end : (line : ℕ) → line ≤ length doc + 1 → (at : ℕ) → at ≡ length doc
      → Told doc (cursor_of at line true) (step_of doc (cursor_of at line true))
  at_end line low at end = rw (end, step_end doc l line low) refl

  at_eof : (line : ℕ) → line ≤ length doc + 1 → (at : ℕ) → at ≡ length doc
      → Told doc (cursor_of at line false) (step_of doc (cursor_of at line false))
  at_eof line low at end =
      rw (end, step_eof doc l line low)
      (record {
        left = tokens_end doc (length doc) line (omega arith);
        reached = record { within = omega arith; low = low; over = λ e. refl };
        fewer = omega arith;
        runs = omega arith;
        inside = omega arith;
      })

  at_token : (at line : ℕ) → line ≤ at + 1 → at < length doc
      → Told doc (cursor_of at line false) (step_of doc (cursor_of at line false))
  at_token at line low h =
      let fits = token_fits_at doc at (omega arith) in
      rw (step_token doc l at line h low)
      (record {
        left = tokens_step doc at line h;
        reached = record { within = fits; low = line_fits_at doc at line low; over = λ e. absurd (false≢true e) };
        fewer = omega (arith, token_long_at doc at h);
        runs = omega arith;
        inside = fits;
      })

  told_by : (at line : ℕ) (ended : Bool) → Reached doc (cursor_of at line ended)
      → Told doc (cursor_of at line ended) (step_of doc (cursor_of at line ended))
  told_by at line true r = at_end line (omega (arith, r.low, r.within)) at (r.over refl)
  told_by at line false r =
      elim (dec_lt at (length doc)) [
        | yes h ↦ at_token at line r.low h
        | no h ↦ at_eof line (omega (arith, r.low, r.within)) at (omega (arith, r.within))
      ]

  -- what a step says, by its answer
  pub told : (c : Cursor) → Reached doc c → (s : Step) → step_of doc c ≡ s → Told doc c s
  told c r s is = rw is at (told_by c.place c.line c.ended r)

-- ---- what the tokens add

figures_step : (doc : List ℕ) (t : Token) (ts : List Token)
    → figures_among doc (t ∷ ts) ≡ added (token_figures doc t) (figures_among doc ts)
unfolding errors_among
figures_step doc t ts = figures_joined (kind_number t.kind ∷ []) (kinds_among ts) (token_error_numbers doc t) (errors_among doc ts)

figures_end : (doc : List ℕ) → figures_among doc [] ≡ figures_for [] []
unfolding errors_among
figures_end doc = refl

-- ---- they fit

by_few : (c : Result Encoding Refusal) (t : List ℕ) → length (errors_by c t) ≤ length t + 2
by_few (Ok e) t = errors_few e t
by_few (Err r) t = omega arith

token_few : (doc : List ℕ) (t : Token) → length (token_error_numbers doc t) ≤ t.span.end - t.span.start + 2
token_few doc t =
    let choice = choice_by 10 (kind_encoding t.kind) in
    let text = text_of doc t in
    let size : length text ≤ t.span.end - t.span.start = rw length-take (omega arith) in
    omega (arith, length-map (errors_by choice text) (λ (r : List ℕ). get_or r 0 0), by_few choice text)

errors_end : (doc : List ℕ) (at line : ℕ) → length doc ≤ at → length (errors_among doc (tokens_on doc at line)) ≤ 2
unfolding errors_among
errors_end doc at line h =
    rw (tokens_end doc at line h, length-append) (omega (arith, token_few doc (eof_at at line)))

errors_on : (doc : List ℕ) (at line : ℕ) → at < length doc
    → length (errors_among doc (tokens_on doc (end_at doc at) (line_after line (drop at doc)))) ≤ 3 * (length doc - end_at doc at) + 2
    → length (errors_among doc (tokens_on doc at line)) ≤ 3 * (length doc - at) + 2
unfolding errors_among
errors_on doc at line h rest =
    rw (tokens_step doc at line h, length-append)
    (omega (
      arith,
      rest,
      token_few doc (token_at at line (drop at doc)),
      token_long_at doc at h,
      token_fits_at doc at (omega arith),
    ))

errors_within : (n : ℕ) (doc : List ℕ) (at line : ℕ) → length doc ≤ at + n
    → length (errors_among doc (tokens_on doc at line)) ≤ 3 * (length doc - at) + 2
errors_within zero doc at line m = omega (arith, errors_end doc at line (omega arith))
errors_within (suc n) doc at line m =
    elim (dec_lt at (length doc)) [
      | yes h ↦
          errors_on doc at line h
          (errors_within n doc (end_at doc at) (line_after line (drop at doc)) (omega (arith, token_long_at doc at h)))
      | no h ↦ omega (arith, errors_end doc at line (omega arith))
    ]

pub figures_fit : (doc : List ℕ) → length doc ≤ most → Fit (figures_among doc (tokens_of doc))
unfolding tokens_of
figures_fit doc l i =
    let ts = tokens_of doc in
    let errors = errors_within (length doc) doc (start_of doc) 1 (omega arith) in
    omega (arith, figures_most (kinds_among ts) (errors_among doc ts) i, length-map ts (λ (t : Token). kind_number t.kind), tokens_count doc, errors)

-- ---- a token that is counted

-- its encoding, by the number that the code asks for
pub encoding_is : (k : TokenKind) (n : ℕ) (x : Result ℕ Refusal) → n ≡ kind_number k → x ≡ encoding_of n → x ≡ Ok (kind_encoding k)
unfolding encoding_of
encoding_is k n x by_number by_encoding = by_encoding ∙ ap encoding_of by_number ∙ ap encoding_by (kind_back k)

pub err_not_ok : {A : Type 0} {r : Refusal} {a : A} → ◌≡◌ {A = Result A Refusal} (Err r) (Ok a) → ⊥
err_not_ok e = let z : ◌≡◌ {A = ℕ} 0 1 = cc in omega arith

pub read_is : (k : TokenKind) (n m : ℕ) (c : Result Encoding Refusal) → n ≡ kind_number k → Ok m ≡ encoding_of n → c ≡ choice_by 10 m
    → choice_by 10 (kind_encoding k) ≡ c
read_is k n m c by_number by_encoding by_choice =
    let same : ◌≡◌ {A = Result ℕ Refusal} (Ok m) (Ok (kind_encoding k)) = encoding_is k n (Ok m) by_number by_encoding in
    let read : m ≡ kind_encoding k = cc in
    sym (by_choice ∙ ap (choice_by 10) read)

module _ (doc : List ℕ) (t : Token) (counts : List ℕ) (room : Room counts (token_figures doc t)) where
  abbrev kind : List ℕ
  kind = figures_for (kind_number t.kind ∷ []) []

  two : token_figures doc t ≡ added kind (figures_for [] (token_error_numbers doc t))
  two = figures_joined (kind_number t.kind ∷ []) [] [] (token_error_numbers doc t)

  split : Room counts (added kind (figures_for [] (token_error_numbers doc t)))
  split = rw two at room

  joined : added (added counts kind) (figures_for [] (token_error_numbers doc t)) ≡ added counts (token_figures doc t)
  joined = added_assoc counts kind (figures_for [] (token_error_numbers doc t)) ∙ ap (λ (r : List ℕ). added counts r) (sym two)

  pub kind_room : Room counts kind
  kind_room = room_first counts kind (figures_for [] (token_error_numbers doc t)) (figures_long (kind_number t.kind ∷ []) []) split

  rest : Room (added counts kind) (figures_for [] (token_error_numbers doc t))
  rest = room_rest counts kind (figures_for [] (token_error_numbers doc t)) (figures_long (kind_number t.kind ∷ []) []) split

  errors_are : (c : Result Encoding Refusal) → choice_by 10 (kind_encoding t.kind) ≡ c
      → figures_for [] (token_error_numbers doc t) ≡ error_figures (errors_by c (text_of doc t))
  errors_are c is = ap (λ (x : Result Encoding Refusal). error_figures (errors_by x (text_of doc t))) is

  module _ (e : Encoding) (is : choice_by 10 (kind_encoding t.kind) ≡ Ok e) where
    pub string_room : Room (added counts kind) (error_figures (errors_of e (text_of doc t)))
    string_room = rw (errors_are (Ok e) is) at rest

    pub string_added : added (added counts kind) (error_figures (errors_of e (text_of doc t))) ≡ added counts (token_figures doc t)
    string_added = rw (errors_are (Ok e) is) at joined

  pub other_added : (r : Refusal) → choice_by 10 (kind_encoding t.kind) ≡ Err r → added counts kind ≡ added counts (token_figures doc t)
  other_added r is = sym (none_added (added counts kind) rest.long) ∙ rw (errors_are (Err r) is) at joined

-- ---- a document that is walked: the counts, with what is still to come, make the whole

pub record CountedFrom (doc counts : List ℕ) (c : Cursor) : Type 0 where
  pub reached : Reached doc c
  pub room : Room counts (figures_among doc (tokens_left doc c))
  pub whole : added counts (figures_among doc (tokens_left doc c)) ≡ figures_among doc (tokens_of doc)

pub walk_start : (doc counts : List ℕ) (at : ℕ) → length doc ≤ most → counts ≡ zeros → at ≡ start_of doc
    → CountedFrom doc counts (cursor_of at 1 false)
unfolding tokens_of
walk_start doc counts at l none is =
    let all = figures_among doc (tokens_of doc) in
    let whole : added zeros all ≡ all = added_comm zeros all ∙ rw (figures_long (kinds_among (tokens_of doc)) _) at (added_zeros all) in
    rw (none, is)
    (record {
      reached = record { within = start_fits doc; low = omega arith; over = λ e. absurd (false≢true e) };
      room = record { long = refl; fits = λ i. rw whole (figures_fit doc l i) };
      whole = whole;
    })

module _ {doc counts : List ℕ} {c : Cursor} (so : CountedFrom doc counts c) where
  module _ {t : Token} {n : Cursor} (step : Given doc c t n) where
    next_is : figures_among doc (tokens_left doc c) ≡ added (token_figures doc t) (figures_among doc (tokens_left doc n))
    next_is = ap (figures_among doc) step.left ∙ figures_step doc t (tokens_left doc n)

    next_split : Room counts (added (token_figures doc t) (figures_among doc (tokens_left doc n)))
    next_split = rw next_is at so.room

    pub walk_room : Room counts (token_figures doc t)
    walk_room = room_first counts (token_figures doc t) (figures_among doc (tokens_left doc n)) (figures_long (kind_number t.kind ∷ []) _) next_split

    pub walk_on : (new : List ℕ) → new ≡ added counts (token_figures doc t) → CountedFrom doc new n
    walk_on new is =
        let rest = figures_among doc (tokens_left doc n) in
        rw is
        (record {
          reached = step.reached;
          room = room_rest counts (token_figures doc t) rest (figures_long (kind_number t.kind ∷ []) _) next_split;
          whole =
              added_assoc counts (token_figures doc t) rest ∙ ap (λ (r : List ℕ). added counts r) (sym next_is) ∙ so.whole;
        })

  pub walk_end : tokens_left doc c ≡ [] → counts ≡ figures_among doc (tokens_of doc)
  walk_end none =
      sym (none_added counts so.room.long)
      ∙ ap (λ (r : List ℕ). added counts r) (sym (ap (figures_among doc) none ∙ figures_end doc)) ∙ so.whole
