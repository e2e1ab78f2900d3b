-- What the token at a place asks for, by its first byte.
-- Assumes nothing.
use Prim.Native.Nat.{ℕ, suc, ◌+◌, ◌-◌, ◌≤◌, ◌<◌}
use mathlib.Core.Path.{◌≡◌, refl, sym, ap, ◌∙◌, subst}
use mathlib.Core.Bool.{true, false}
use mathlib.Core.Logic.{◌⊎◌, inl, inr, ⊎_elim}
use mathlib.Core.List.{List, [], ◌∷◌}
use native.Mathlib.Omega.{arith}
use lib.Dec.{eqb}
use lib.ListN.{length, get_or, take, drop, length-drop}
use lib.Seq.{get_or-drop, drop-drop}
use borrow.Author.Tests.{ne_eqb}
use Rattle.text_classes.specs.Classes.{wschar, token_start}
use Rattle.text_classes.specs.Runs.{run, stands}
use Rattle.text_classes.proofs.RunLaws.{SameEnd, run_le, run_step, same_end_reached}
use Rattle.text_scalars.specs.Utf8.{Utf8}
use Rattle.lexer_token.specs.Encodings.{kind_encoding}
use Rattle.lexer_token.specs.declared.TokenKind.{TokenKind}
use Rattle.lexer_token.specs.declared.TokenKind.TheVariants.{Dot, Equals, Comma, LeftSquareBracket, RightSquareBracket, LeftCurlyBracket, RightCurlyBracket, Whitespace, Comment, Newline, Atom}
use Rattle.lexer_scans.specs.Extents.{in_comment, in_atom, line_tail}
use Rattle.lexer_scans.proofs.MarkLaws.{newline_tail_at}
use Rattle.lexer.specs.Table.{kind_by, kind_of, extent, token_len}
use Rattle.lexer.proofs.KindLaws.{KindThere, NoneOf, kind_at, atom_by}
use Rattle.decoder_rules.specs.Encodings.{choice_in}
use Rattle.decoder_rules.specs.Decoding.{errors_by}
use Rattle.decoder_rules.specs.declared.Edition.{Edition}
use Rattle.decoder_rules.specs.declared.Encoding.{Encoding}
use Rattle.std.specs.Prelude.{Ok}
use Rattle.decoder_rules.proofs.AsciiLaws.{front_one, front_add, front_low, wschar_low}
use Rattle.lexer_comments.specs.Fronts.{Fronted}
use Rattle.built_fronts.specs.Fronts.{ascii_atom, encoding_in, mark_of, Sound}
use Rattle.built_fronts.specs.declared.Line.{Line}
use Rattle.lexer_comments.proofs.FrontLaws.{run_behind, end_low, along_cut}
use Rattle.text_characters.proofs.CharLaws.{along_ascii}
use Rattle.text_scalars.specs.Utf8Read.{Along}
use Rattle.built_broken.specs.Walk.{front_text, kind_behind, Looked}
use Rattle.built_broken.specs.declared.look.Asks.TheVariants.{Nothing, Characters, Decoding}
use Rattle.built_broken.specs.declared.look.Look.{Look}
use Rattle.built_broken.proofs.ReadableLaws.{readable}
use Rattle.built_broken.proofs.SoundLaws.{ascii_ends, ascii_low, line_long, line_utf8, line_errors}

-- a token that is no string has no errors
no_errors_in : (v : Edition) (kind : ℕ) (t : List ℕ) → kind ≡ 0 → errors_by (choice_in v kind) t ≡ []
unfolding choice_in
no_errors_in v kind t e = rw e

-- what begins no other kind goes on with an atom
in_atom_lem : (b : ℕ) → NoneOf b (34 ∷ 39 ∷ 10 ∷ 13 ∷ 35 ∷ 9 ∷ 32 ∷ 125 ∷ 123 ∷ 93 ∷ 91 ∷ 44 ∷ 61 ∷ 46 ∷ []) → in_atom b ≡ true
unfolding token_start
in_atom_lem b r =
    simp (
      ne_eqb b 10 r.0.0.1,
      ne_eqb b 13 r.0.0.0.1,
      ne_eqb b 35 r.0.0.0.0.1,
      ne_eqb b 9 r.0.0.0.0.0.1,
      ne_eqb b 32 r.0.0.0.0.0.0.1,
      ne_eqb b 125 r.0.0.0.0.0.0.0.1,
      ne_eqb b 123 r.0.0.0.0.0.0.0.0.1,
      ne_eqb b 93 r.0.0.0.0.0.0.0.0.0.1,
      ne_eqb b 91 r.0.0.0.0.0.0.0.0.0.0.1,
      ne_eqb b 44 r.0.0.0.0.0.0.0.0.0.0.0.1,
      ne_eqb b 61 r.0.0.0.0.0.0.0.0.0.0.0.0.1,
      ne_eqb b 46 r.0.0.0.0.0.0.0.0.0.0.0.0.0.1,
    )

module _ (doc : List ℕ) (at : ℕ) (h : at < length doc) where
  -- the token there has n bytes, and is no string
  pub record Other (n : ℕ) : Type 0 where
    pub size : token_len (drop at doc) ≡ n
    pub none : kind_encoding (kind_of (drop at doc)) ≡ 0

  sized : (k : TokenKind) → KindThere doc at k → token_len (drop at doc) ≡ extent k (drop at doc)
  unfolding token_len
  sized k there = ap (λ (x : TokenKind). extent x (drop at doc)) (kind_at doc at h ∙ there)

  other : (k : TokenKind) → KindThere doc at k → (n : ℕ) → extent k (drop at doc) ≡ n → kind_encoding k ≡ 0 → Other n
  other k there n e f = record { size = sized k there ∙ e; none = ap kind_encoding (kind_at doc at h ∙ there) ∙ f }

  -- ---- tokens that are no strings

  abbrev Byte : ℕ → Type 0
  Byte b = get_or doc at 0 ≡ b

  -- an LF and , . = [ ] { }
  abbrev OneByte : Type 0
  OneByte = Byte 10 ⊎ (Byte 44 ⊎ (Byte 46 ⊎ (Byte 61 ⊎ (Byte 91 ⊎ (Byte 93 ⊎ (Byte 123 ⊎ Byte 125))))))

  pub one_byte_lem : OneByte → Other 1 × (get_or doc at 0 < 0x80)
  unfolding kind_by wschar extent
  one_byte_lem =
      ⊎_elim (λ e. (other Newline (rw e) 1 (ap suc (newline_tail_at doc at ∙ rw e)) refl, omega arith))
      (⊎_elim (λ e. (other Comma (rw e) 1 refl refl, omega arith))
      (⊎_elim (λ e. (other Dot (rw e) 1 refl refl, omega arith))
      (⊎_elim (λ e. (other Equals (rw e) 1 refl refl, omega arith))
      (⊎_elim (λ e. (other LeftSquareBracket (rw e) 1 refl refl, omega arith))
      (⊎_elim (λ e. (other RightSquareBracket (rw e) 1 refl refl, omega arith))
      (⊎_elim (λ e. (other LeftCurlyBracket (rw e) 1 refl refl, omega arith))
      (λ e. (other RightCurlyBracket (rw e) 1 refl refl, omega arith))))))))

  pub blanks : Byte 9 ⊎ Byte 32 → Other (suc (run wschar (drop 1 (drop at doc)))) × (wschar (get_or doc at 0) ≡ true)
  unfolding kind_by wschar extent
  blanks =
      ⊎_elim (λ e. (other Whitespace (rw e) _ refl refl, rw e))
      (λ e. (other Whitespace (rw e) _ refl refl, rw e))

  -- a CR, with an LF after it or without
  pub cr_lf : Byte 13 → eqb (get_or doc (at + 1) 0) 10 ≡ true → Other 2
  unfolding kind_by wschar extent
  cr_lf e f = other Newline (rw e) 2 (ap suc (newline_tail_at doc at ∙ rw (e, f))) refl

  pub cr_alone : Byte 13 → eqb (get_or doc (at + 1) 0) 10 ≡ false → Other 1
  unfolding kind_by wschar extent
  cr_alone e f = other Newline (rw e) 1 (ap suc (newline_tail_at doc at ∙ rw (e, f))) refl

  pub comment : Byte 35 → Other (suc (run in_comment (drop 1 (drop at doc))))
  unfolding kind_by wschar extent
  comment e = other Comment (rw e) _ refl refl

  -- what begins no other kind
  pub atom : (OneByte → ⊥) → (Byte 9 ⊎ Byte 32 → ⊥) → (Byte 13 → ⊥) → (Byte 35 → ⊥) → (Byte 39 → ⊥) → (Byte 34 → ⊥)
      → (kind_of (drop at doc) ≡ Atom) × (in_atom (get_or doc at 0) ≡ true)
  atom one blank ret hash literal basic =
      let none : NoneOf (get_or doc at 0) (34 ∷ 39 ∷ 10 ∷ 13 ∷ 35 ∷ 9 ∷ 32 ∷ 125 ∷ 123 ∷ 93 ∷ 91 ∷ 44 ∷ 61 ∷ 46 ∷ []) = (
        (
          (
            (
              (
                (
                  (
                    (
                      (
                        (
                          (
                            (
                              (
                                (
                                  tt,
                                  (λ e. one (inr (inr (inl e)))),
                                ),
                                (λ e. one (inr (inr (inr (inl e))))),
                              ),
                              (λ e. one (inr (inl e))),
                            ),
                            (λ e. one (inr (inr (inr (inr (inl e)))))),
                          ),
                          (λ e. one (inr (inr (inr (inr (inr (inl e))))))),
                        ),
                        (λ e. one (inr (inr (inr (inr (inr (inr (inl e)))))))),
                      ),
                      (λ e. one (inr (inr (inr (inr (inr (inr (inr e)))))))),
                    ),
                    (λ e. blank (inr e)),
                  ),
                  (λ e. blank (inl e)),
                ),
                hash,
              ),
              ret,
            ),
            (λ e. one (inl e)),
          ),
          literal,
        ),
        basic,
      ) in
      (kind_at doc at h ∙ atom_by _ _ none, in_atom_lem _ none)

  pub atom_other : kind_of (drop at doc) ≡ Atom → Other (suc (run in_atom (drop 1 (drop at doc))))
  unfolding extent
  atom_other kind = other Atom (sym (kind_at doc at h) ∙ kind) _ refl refl

  -- ---- bytes that are surely UTF-8

  first : get_or (drop at doc) 0 0 ≡ get_or doc at 0
  first = let here : at + 0 ≡ at = omega arith in get_or-drop at doc 0 0 ∙ ap (λ (k : ℕ). get_or doc k 0) here

  some : 0 < length (drop at doc)
  some = omega (arith, length-drop at doc)

  pub one_front : get_or doc at 0 < 0x80 → Utf8 (take 1 (drop at doc))
  one_front low = front_one (drop at doc) some (omega (arith, first))

  pub two_front : get_or doc at 0 < 0x80 → 1 < length (drop at doc) → get_or doc (at + 1) 0 < 0x80 → Utf8 (take 2 (drop at doc))
  two_front low more next =
      let s = drop at doc in
      let second : get_or (drop 1 s) 0 0 < 0x80 = omega (arith, get_or-drop 1 s 0 0, get_or-drop at doc 1 0) in
      front_add 1 1 s (one_front low) (front_one (drop 1 s) (omega (arith, length-drop 1 s)) second)

  pub blank_front : wschar (get_or doc at 0) ≡ true → Utf8 (take (suc (run wschar (drop 1 (drop at doc)))) (drop at doc))
  blank_front e =
      let s = drop at doc in
      let all : run wschar (drop 0 s) ≡ suc (run wschar (drop 1 s)) = run_step wschar s 0 some (ap wschar first ∙ e) in
      front_low wschar wschar_low (suc (run wschar (drop 1 s))) s (omega (arith, all))

  -- a comment up to the place r at which it ends, up to which whole characters stand: how long it is, and that it is UTF-8
  pub comment_sized : (r : ℕ) → SameEnd (run in_comment) doc (at + 1) r → run in_comment (drop r doc) ≡ 0
      → r ≡ at + suc (run in_comment (drop 1 (drop at doc)))
  comment_sized r same ends = rw (drop-drop 1 at doc) (omega (arith, same_end_reached in_comment doc (at + 1) r ends same))

  pub comment_front : (r : ℕ) → Byte 35 → Fronted doc (at + 1) r → run in_comment (drop r doc) ≡ 0
      → Utf8 (take (suc (run in_comment (drop 1 (drop at doc)))) (drop at doc))
  comment_front r is to ends =
      let size = comment_sized r to.same ends in
      let one = along_ascii doc at at h (omega arith) (omega arith, omega arith, refl) in
      let all : Along doc at r = (omega (arith, to.along), omega (arith, to.along), omega (arith, one, to.along)) in
      let long : r - at ≡ suc (run in_comment (drop 1 (drop at doc))) = omega arith in
      rw long at (along_cut doc at r all (end_low doc r ends))

  pub rest_ends : (i e : ℕ) → e ≡ i + run in_comment (drop i doc) → run in_comment (drop e doc) ≡ 0
  rest_ends i e is = rw is (run_behind in_comment doc i)

  pub rest_same : (i e : ℕ) → Fronted doc (at + 1) i → e ≡ i + run in_comment (drop i doc) → SameEnd (run in_comment) doc (at + 1) e
  rest_same i e to is =
      let within : e ≤ length doc = omega (arith, run_le in_comment (drop i doc), length-drop i doc, to.along) in
      (within, omega (arith, rest_ends i e is, to.same))

  -- an atom whose ASCII ends at the place r, where ASCII stands or nothing: how long it is, and that it is UTF-8
  module _ (r : ℕ) (is : r ≡ at + run ascii_atom (drop at doc)) (low : get_or doc r 0 < 0x80) (begins : in_atom (get_or doc at 0) ≡ true) where
    atom_long : run ascii_atom (drop at doc) ≡ suc (run in_atom (drop 1 (drop at doc)))
    atom_long =
        let s = drop at doc in
        let end : get_or s (run ascii_atom s) 0 < 0x80 = rw (get_or-drop, ← is) low in
        let step : run in_atom (drop 0 s) ≡ suc (run in_atom (drop 1 s)) = run_step in_atom s 0 some (ap in_atom first ∙ begins) in
        sym (ascii_ends s end) ∙ step

    pub atom_sized : r ≡ at + suc (run in_atom (drop 1 (drop at doc)))
    atom_sized = is ∙ ap (λ (n : ℕ). at + n) atom_long

    pub atom_front : Utf8 (take (suc (run in_atom (drop 1 (drop at doc)))) (drop at doc))
    atom_front = front_low ascii_atom ascii_low (suc (run in_atom (drop 1 (drop at doc)))) (drop at doc) (omega (arith, atom_long))

  -- ---- what is asked, and where it ends

  module _ (v : Edition) (l : Look) where
    pub nothing : (n : ℕ) → Other n → Utf8 (take n (drop at doc)) → l.asks ≡ Nothing → l.end ≡ at + n → Looked v at (drop at doc) l
    nothing n o u a e =
        let size = sym o.size in
        record {
          asks = rw a (readable _ (subst (λ (k : ℕ). Utf8 (take k (drop at doc))) size u), no_errors_in v _ (front_text (drop at doc)) o.none);
          end = e ∙ ap (λ (k : ℕ). at + k) size;
        }

    pub characters : (n : ℕ) → Other n → l.asks ≡ Characters → l.end ≡ at + n → Looked v at (drop at doc) l
    characters n o a e = record { asks = rw a o.none; end = e ∙ ap (λ (k : ℕ). at + k) (sym o.size) }

    pub decoding : (e : Encoding) → KindThere doc at (kind_behind e) → choice_in v (kind_encoding (kind_behind e)) ≡ Ok e
        → l.asks ≡ Decoding e → l.end ≡ at + extent (kind_behind e) (drop at doc) → Looked v at (drop at doc) l
    decoding e there known a f =
        let kind = kind_at doc at h ∙ there in
        record {
          asks = rw a (kind, ap (λ (k : TokenKind). choice_in v (kind_encoding k)) kind ∙ known);
          end = f ∙ ap (λ (k : ℕ). at + k) (sym (sized (kind_behind e) there));
        }

    -- a string on one line, up to its closing mark at r
    pub sound : (line : Line) (r : ℕ) → KindThere doc at (kind_behind (encoding_in v line))
        → choice_in v (kind_encoding (kind_behind (encoding_in v line))) ≡ Ok (encoding_in v line)
        → extent (kind_behind (encoding_in v line)) (drop at doc) ≡ suc (line_tail (mark_of line) false (drop 1 (drop at doc)))
        → Byte (mark_of line) → Sound line doc (at + 1) r → stands (mark_of line) (drop r doc) ≡ true
        → l.asks ≡ Nothing → l.end ≡ r + 1 → Looked v at (drop at doc) l
    sound line r there known reach opens to closed a f =
        let e = encoding_in v line in
        let kind = kind_at doc at h ∙ there in
        let long = line_long line doc at r to closed in
        let size : token_len (drop at doc) ≡ r - at + 1 = sized (kind_behind e) there ∙ reach ∙ rw (drop-drop 1 at doc) (omega (arith, long, to.along)) in
        let text : front_text (drop at doc) ≡ take (r - at + 1) (drop at doc) = ap (λ (k : ℕ). take k (drop at doc)) size in
        let chosen : choice_in v (kind_encoding (kind_of (drop at doc))) ≡ Ok e = ap (λ (k : TokenKind). choice_in v (kind_encoding k)) kind ∙ known in
        record {
          asks = rw a (readable _ (rw text (line_utf8 line doc at r h opens to closed)), rw (chosen, text) (line_errors line doc at r h opens to closed v));
          end = f ∙ omega (arith, size, to.along);
        }
