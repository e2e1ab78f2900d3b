-- From token to token: what the token at a place says of the answer, and where the walk starts and ends.
-- Assumes nothing.
use Prim.Native.Nat.{ℕ, ◌+◌, ◌-◌, ◌≤◌, ◌<◌}
use mathlib.Core.Path.{◌≡◌, refl, sym, ap, ◌∙◌}
use mathlib.Core.Bool.{Bool, true, false, cond}
use mathlib.Core.Logic.{inr}
use mathlib.Core.List.{List, [], ◌∷◌}
use native.Mathlib.Omega.{arith}
use Rattle.std.specs.Prelude.{Option, Some, None, Result, Ok}
use lib.Dec.{eqb}
use lib.ListN.{length, get_or, take, drop}
use lib.Seq.{drop-drop}
use Rattle.text_classes.proofs.Conds.{cond_case}
use Rattle.text_scalars.specs.Utf8.{Utf8, encode_scalar}
use Rattle.text_scalars.proofs.CutLaws.{scalar_utf8}
use Rattle.lexer_token.specs.Encodings.{kind_encoding}
use Rattle.lexer_token.specs.Records.{token_of, text_of}
use Rattle.lexer_token.specs.declared.Token.{Token}
use Rattle.lexer.specs.Lines.{line_feeds, line_of}
use Rattle.lexer.specs.Table.{kind_of, token_len}
use Rattle.lexer.specs.Tokens.{token_at, line_after, tokens_from, has_bom, start_of, tokens_of}
use Rattle.lexer.proofs.LineLaws.{feeds_split, mark_bytes, start_no_lf}
use Rattle.lexer.proofs.TokenLaws.{tokens_step, tokens_end, token_fits_at, start_fits}
use Rattle.decoder_rules.specs.Encodings.{choice_in, choice_by, edition_number}
use Rattle.decoder_rules.specs.Decoding.{errors_of, errors_by}
use Rattle.decoder_rules.specs.Pieces.{error_number, notes_of}
use Rattle.decoder_rules.specs.declared.Wrong.{Wrong}
use Rattle.decoder_rules.specs.declared.Edition.{Edition}
use Rattle.decoder_rules.specs.declared.Edition.TheVariants.{Toml10, Toml11}
use Rattle.decoder_rules.specs.declared.Encoding.{Encoding}
use Rattle.text_refusals.specs.declared.Refusal.{Refusal}
use Rattle.decoder_rules.proofs.AsciiLaws.{nil_utf8, front_add}
use Rattle.built_broken.specs.Broken.{BrokenFound, is_utf8, recorded_error, broken_by, not_utf8, first_among}
use Rattle.built_broken.specs.Walk.{first_from, front_text, kind_behind, AskedOf}
use Rattle.built_broken.specs.declared.FirstError.{FirstError}
use Rattle.built_broken.specs.declared.look.Asks.{Asks}
use Rattle.built_broken.specs.declared.look.Asks.TheVariants.{Nothing, Characters, Decoding}
use Rattle.built_broken.proofs.ReadableLaws.{readable, is_read}
use Rattle.built_broken.proofs.ErrorLaws.{first_none, first_some}

-- ---- the errors of a token, by its kind

-- a token that is no string has none
pub no_errors : (edition : ℕ) (t : List ℕ) → errors_by (choice_by edition 0) t ≡ []
unfolding choice_by choice_in
no_errors edition t =
    let P : Result Encoding Refusal → Type 0 = λ c. errors_by c t ≡ [] in
    cond_case P (eqb edition 10) (λ _. refl) (λ _. cond_case P (eqb edition 11) (λ _. refl) (λ _. refl))

pub other_errors : (edition kind : ℕ) (t : List ℕ) → kind ≡ 0 → errors_by (choice_by edition kind) t ≡ []
other_errors edition kind t e = rw e (no_errors edition t)

named : (v : Edition) (kind : ℕ) → choice_by (edition_number v) kind ≡ choice_in v kind
unfolding choice_by
named Toml10 kind = refl
named Toml11 kind = refl

pub string_errors : (v : Edition) (kind : ℕ) (e : Encoding) (t : List ℕ) → choice_in v kind ≡ Ok e
    → errors_by (choice_by (edition_number v) kind) t ≡ errors_of e t
string_errors v kind e t known = rw (named v kind, known)

-- ---- one token

module _ (doc : List ℕ) (edition at : ℕ) (h : at < length doc) where
  abbrev s : List ℕ
  s = drop at doc

  abbrev pub errors_at : List (List ℕ)
  errors_at = errors_by (choice_by edition (kind_encoding (kind_of (drop at doc)))) (front_text (drop at doc))

  abbrev pub token_there : Token
  token_there = token_at at (line_of doc at) (drop at doc)

  -- the line after it is that of its end
  line_on : line_after (line_of doc at) s ≡ line_of doc (at + token_len s)
  line_on =
      let n = token_len s in
      omega (arith, feeds_split at doc, feeds_split n s, feeds_split (at + n) doc, ap line_feeds (drop-drop n at doc))

  -- the tokens from a place on are the one there and those after it, and its text is the front of what is left
  pub tokens_turn : tokens_from at (line_of doc at) (drop at doc)
      ≡ token_there ∷ tokens_from (at + token_len (drop at doc)) (line_of doc (at + token_len (drop at doc))) (drop (at + token_len (drop at doc)) doc)
  tokens_turn = tokens_step doc at (line_of doc at) h ∙ rw line_on

  pub text_there : text_of doc token_there ≡ front_text (drop at doc)
  text_there = let size : at + token_len s - at ≡ token_len s = omega arith in ap (λ (k : ℕ). take k s) size

  turn : first_from doc edition at
      ≡ cond (is_utf8 (front_text s)) (broken_by token_there errors_at (first_from doc edition (at + token_len s))) (not_utf8 doc)
  unfolding first_among
  turn = ap (first_among doc edition) tokens_turn ∙ rw text_there

  pub turn_sound : is_utf8 (front_text (drop at doc)) ≡ true → errors_at ≡ []
      → first_from doc edition at ≡ first_from doc edition (at + token_len (drop at doc))
  turn_sound u e = turn ∙ rw (u, e)

  pub turn_broken : is_utf8 (front_text (drop at doc)) ≡ true → (e : List ℕ) (es : List (List ℕ)) → errors_at ≡ e ∷ es
      → first_from doc edition at ≡ Ok (Some (token_there, recorded_error e))
  turn_broken u e es f = turn ∙ rw (u, f)

  pub turn_refused : is_utf8 (front_text (drop at doc)) ≡ false → first_from doc edition at ≡ not_utf8 doc
  turn_refused u = turn ∙ rw u

  pub front_on : Utf8 (take at doc) → Utf8 (front_text (drop at doc)) → Utf8 (take (at + token_len (drop at doc)) doc)
  front_on = front_add at (token_len s) doc

-- ---- by what is asked of it

-- whether it is UTF-8 is told as it is asked for
pub read_as : (v : Edition) (s : List ℕ) (a : Asks) (r : Bool) → AskedOf v s a → (a ≡ Nothing → r ≡ true)
    → ((a ≡ Nothing → ⊥) → r ≡ is_utf8 (front_text s)) → is_utf8 (front_text s) ≡ r
read_as v s Nothing r asked sure told = asked.0 ∙ sym (sure refl)
read_as v s Characters r asked sure told = sym (told (λ e. absurd (let z : ◌≡◌ {A = ℕ} 0 1 = cc in omega arith)))
read_as v s (Decoding e) r asked sure told = sym (told (λ e. absurd (let z : ◌≡◌ {A = ℕ} 0 1 = cc in omega arith)))

-- what holds at a place of the walk, where the answer is r
pub record Walking (doc : List ℕ) (edition : ℕ) (r : BrokenFound) (at : ℕ) : Type 0 where
  pub within : at ≤ length doc
  pub front : Utf8 (take at doc)
  pub same : first_from doc edition at ≡ r

module _ (v : Edition) (doc : List ℕ) (at : ℕ) (h : at < length doc) (r : BrokenFound) (w : Walking doc (edition_number v) r at)
    (readable-here : is_utf8 (front_text (drop at doc)) ≡ true) (end : ℕ) (is : end ≡ at + token_len (drop at doc)) where
  -- a token without errors is passed
  pub walk_on : errors_at doc (edition_number v) at h ≡ [] → Walking doc (edition_number v) r end
  walk_on none =
      rw is record {
        within = token_fits_at doc at w.within;
        front = front_on doc (edition_number v) at h w.front (is_read _ readable-here);
        same = sym (turn_sound doc (edition_number v) at h readable-here none) ∙ w.same;
      }

  walk_sound : errors_by (choice_in v (kind_encoding (kind_of (drop at doc)))) (front_text (drop at doc)) ≡ [] → Walking doc (edition_number v) r end
  walk_sound none = walk_on (rw (named v _) none)

  walk_other : kind_encoding (kind_of (drop at doc)) ≡ 0 → Walking doc (edition_number v) r end
  walk_other none = walk_on (other_errors (edition_number v) _ (front_text (drop at doc)) none)

  -- one that is not decoded
  pub walk_undecoded : (a : Asks) → AskedOf v (drop at doc) a → ((e : Encoding) → a ≡ Decoding e → ⊥) → Walking doc (edition_number v) r end
  walk_undecoded Nothing asked none = walk_sound asked.1
  walk_undecoded Characters asked none = walk_other asked
  walk_undecoded (Decoding e) asked none = absurd (none e refl)

  -- a string, by the first error of its text t
  module _ (e : Encoding) (asked : AskedOf v (drop at doc) (Decoding e)) (t : List ℕ) (text : t ≡ front_text (drop at doc))
      (found : Option Wrong) (first : notes_of found ≡ take 1 (errors_of e t)) where
    errors_are : errors_at doc (edition_number v) at h ≡ errors_of e t
    errors_are = rw text (string_errors v _ e (front_text (drop at doc)) asked.1)

    pub walk_clean : found ≡ None → Walking doc (edition_number v) r end
    walk_clean clean = walk_on (errors_are ∙ first_none _ (sym first ∙ ap notes_of clean))

    pub walk_broken : (x : Wrong) → found ≡ Some x → (token : Token) → token ≡ token_of (kind_behind e) at end (line_of doc at)
        → (y : FirstError) → y ≡ recorded_error (error_number x.error ∷ x.start ∷ x.end ∷ []) → Ok (Some (token, y)) ≡ r
    walk_broken x wrong token made y noted =
        let some = first_some (errors_of e t) (error_number x.error ∷ x.start ∷ x.end ∷ []) (sym first ∙ ap notes_of wrong) in
        let broken = turn_broken doc (edition_number v) at h readable-here _ some.0 (errors_are ∙ some.1) in
        rw (made, noted, is, ← asked.0) (sym broken ∙ w.same)

-- ---- the start and the end

mark_utf8 : (s : List ℕ) → get_or s 0 0 ≡ 0xEF → get_or s 1 0 ≡ 0xBB → get_or s 2 0 ≡ 0xBF → Utf8 (take 3 s)
unfolding encode_scalar
mark_utf8 [] x y z = absurd (omega arith)
mark_utf8 (a ∷ []) x y z = absurd (omega arith)
mark_utf8 (a ∷ b ∷ []) x y z = absurd (omega arith)
mark_utf8 (a ∷ b ∷ c ∷ s) x y z = rw (x, y, z) (scalar_utf8 0xFEFF (inr (omega arith, omega arith)))

module _ (doc : List ℕ) where
  start_utf8 : Utf8 (take (start_of doc) doc)
  unfolding start_of
  start_utf8 =
      cond_case (λ (n : ℕ). Utf8 (take n doc)) (has_bom doc)
      (λ t. let m = mark_bytes doc t in mark_utf8 doc m.0 m.1 m.2) (λ t. nil_utf8)

  start_line : line_of doc (start_of doc) ≡ 1
  start_line = omega (arith, feeds_split (start_of doc) doc, start_no_lf doc)

  pub tokens_start : tokens_from (start_of doc) (line_of doc (start_of doc)) (drop (start_of doc) doc) ≡ tokens_of doc
  unfolding tokens_of
  tokens_start = ap (λ (line : ℕ). tokens_from (start_of doc) line (drop (start_of doc) doc)) start_line

  pub walk_start : (edition : ℕ) → Walking doc edition (first_among doc edition (tokens_of doc)) (start_of doc)
  walk_start edition = record { within = start_fits doc; front = start_utf8; same = ap (first_among doc edition) tokens_start }

  pub at_end : (edition at : ℕ) → length doc ≤ at → first_from doc edition at ≡ Ok None
  unfolding first_among
  at_end edition at h =
      let none : at - at ≡ 0 = omega arith in
      ap (first_among doc edition) (tokens_end doc at (line_of doc at) h)
      ∙ rw (none, readable [] nil_utf8, no_errors edition [])
