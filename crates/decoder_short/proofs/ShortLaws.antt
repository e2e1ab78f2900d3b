-- A short basic string whose escapes are of one letter: what the loop that goes over it keeps, what the loop that writes it
-- keeps, and that it decodes to what is written, without an error, in either edition.
-- Assumes nothing.
use Rattle.std.specs.Prelude.{Option, Some, None, is_some, Ok}
use Prim.Native.Nat.{ℕ, zero, suc, ◌+◌, ◌-◌, ◌≤◌, ◌<◌}
use mathlib.Core.Path.{◌≡◌, refl, sym, ap, ◌∙◌}
use mathlib.Core.Logic.{inl, inr}
use mathlib.Core.Bool.{Bool, true, false, cond, ◌&&◌}
use mathlib.Core.List.{List, [], ◌∷◌, ◌++◌}
use native.Mathlib.Decide.{dec_lt}
use native.Mathlib.Nat.{add-zero, add-suc, suc-add}
use native.Mathlib.Numerals.{add-one}
use native.Mathlib.Omega.{arith}
use borrow.Author.Tests.{eq-eqb, ne_eqb, eqb-true, eqb-false, lt-ltb, ltb-true}
use lib.Dec.{eqb, ltb}
use lib.ListN.{length, take, drop, get_or, set, length-set}
use lib.Seq.{sets, drop-cons}
use Rattle.text_classes.specs.Classes.{basic_unescaped}
use Rattle.text_classes.specs.Runs.{run}
use Rattle.text_classes.proofs.Conds.{not_both, both_left, both_right}
use Rattle.text_refusals.specs.Refusals.{limit}
use Rattle.text_scalars.specs.Utf8.{encode_scalar}
use Rattle.text_scalars.specs.Utf8Read.{Along}
use Rattle.text_scalars.proofs.EncodeLaws.{encode_1}
use Rattle.text_scalars.proofs.ReadLaws.{valid_end}
use Rattle.text_characters.specs.Lead.{CharacterAt}
use Rattle.text_characters.proofs.CharLaws.{along_ascii, along_whole, wide_high}
use Rattle.text.proofs.AnswerLaws.{answer_valid}
use Rattle.decoder_rules.specs.declared.Edition.{Edition}
use Rattle.decoder_rules.specs.declared.Edition.TheVariants.{Toml10, Toml11}
use Rattle.decoder_rules.specs.declared.Letter.{Letter}
use Rattle.decoder_rules.specs.declared.Letter.TheVariants.{Stands, Asks, Neither}
use Rattle.decoder_rules.specs.declared.Encoding.{Encoding}
use Rattle.decoder_rules.specs.declared.Encoding.TheVariants.{BasicString}
use Rattle.decoder_rules.specs.declared.Ends.{Ends}
use Rattle.decoder_rules.specs.Encodings.{plain, choice_in, choice_by}
use Rattle.decoder_rules.specs.Pieces.{gives, notes_at, collect, char_piece}
use Rattle.decoder_rules.specs.Escapes.{new_letter, letter_of, escape_piece}
use Rattle.decoder_rules.specs.Bodies.{piece_of, basic_piece}
use Rattle.decoder_rules.specs.Marks.{ends_of}
use Rattle.decoder_rules.specs.Decoding.{bytes_of, errors_of}
use Rattle.decoder_rules.proofs.AsciiLaws.{basic_high}
use Rattle.decoder_rules.proofs.EscapeLaws.{escape_simple, stands_fit}
use Rattle.decoder_rules.proofs.PieceLaws.{collect_step, gives_char, notes_none}
use Rattle.decoder_rules.proofs.FrontLaws.{front_bytes, front_errors}
use Rattle.decoder_rules.proofs.MarkLaws.{line_both}
use Rattle.decoder_rules.proofs.DecodeLaws.{bytes_is, errors_is}
use Rattle.decoder_rules.proofs.PlainLaws.{Named, Decodes}
use Rattle.decoder_rules.proofs.StoreLaws.{Stored, front_long, overwritten}
use Rattle.decoder_pieces.proofs.EscapeAtLaws.{basic_escape}
use Rattle.decoder_short.specs.Letters.{letter_char, letter_byte, is_simple, simple_bytes, body_from, Short, Marked, SimpleTo, Written}

-- ---- letters

-- what a letter is for that has this character, else l
abbrev or_for : Letter → Option ℕ → Letter
or_for l None = l
or_for l (Some c) = Stands c

-- a letter that has a character stands for it in every edition
pub letter_stands : (v : Edition) (b c : ℕ) → letter_char b ≡ Some c → letter_of v b ≡ Stands c
unfolding letter_of letter_char
letter_stands v b c h =
    let rest = cond (eqb b 0x75) (Asks 4) (cond (eqb b 0x55) (Asks 8) (new_letter v b)) in
    go (eqb b 0x22) (eqb b 0x5C) (eqb b 0x62) (eqb b 0x66) (eqb b 0x6E) (eqb b 0x72) (eqb b 0x74) rest
    ∙ ap (or_for rest) h
  where
    chars : (p q r s t u w : Bool) → Option ℕ
    chars p q r s t u w =
        cond p (Some 0x22) (cond q (Some 0x5C) (cond r (Some 0x08) (cond s (Some 0x0C) (cond t (Some 0x0A)
        (cond u (Some 0x0D) (cond w (Some 0x09) None))))))

    table : (p q r s t u w : Bool) → Letter → Letter
    table p q r s t u w l =
        cond p (Stands 0x22) (cond q (Stands 0x5C) (cond r (Stands 0x08) (cond s (Stands 0x0C) (cond t (Stands 0x0A)
        (cond u (Stands 0x0D) (cond w (Stands 0x09) l))))))

    go : (p q r s t u w : Bool) (l : Letter) → table p q r s t u w l ≡ or_for l (chars p q r s t u w)
    go true q r s t u w l = refl
    go false true r s t u w l = refl
    go false false true s t u w l = refl
    go false false false true t u w l = refl
    go false false false false true u w l = refl
    go false false false false false true w l = refl
    go false false false false false false true l = refl
    go false false false false false false false l = refl

-- what is there has a value
known : (o : Option ℕ) → is_some o ≡ true → (c : ℕ) × (o ≡ Some c)
known (Some c) h = (c, refl)
known None h = not_both h refl

-- ---- a byte at the front

backslash_stops : basic_unescaped 0x5C ≡ false
unfolding basic_unescaped
backslash_stops = refl

-- one that stands for itself is no backslash
pub own_byte : (b : ℕ) → basic_unescaped b ≡ true → eqb b 0x5C ≡ false
own_byte b h = ne_eqb b 0x5C (λ e. not_both (rw e at h) backslash_stops)

module _ (b : ℕ) (s : List ℕ) where
  simple_own : basic_unescaped b ≡ true → is_simple false (b ∷ s) ≡ is_simple false s
  unfolding is_simple
  simple_own h = rw (own_byte b h, h)

  bytes_own : basic_unescaped b ≡ true → simple_bytes false (b ∷ s) ≡ b ∷ simple_bytes false s
  unfolding simple_bytes
  bytes_own h = rw (own_byte b h)

  simple_letter : (c : ℕ) → letter_char b ≡ Some c → is_simple false (0x5C ∷ b ∷ s) ≡ is_simple false s
  unfolding is_simple
  simple_letter c h = rw h

  bytes_letter : (c : ℕ) → letter_char b ≡ Some c → simple_bytes false (0x5C ∷ b ∷ s) ≡ c ∷ simple_bytes false s
  unfolding simple_bytes
  bytes_letter c h = rw h

-- ---- what the body decodes to

-- a byte that stands for itself notes nothing, by any decoder
pub own_errors : (e : Encoding) (at b : ℕ) (s : List ℕ) → plain e b ≡ true
    → collect (piece_of e) notes_at 0 false at (b ∷ s) ≡ collect (piece_of e) notes_at 0 false (suc at) s
unfolding run
own_errors e at b s h =
    let k = run (plain e) s in
    let all : suc k ≡ run (plain e) (b ∷ s) = rw h in
    let place : at + suc k ≡ suc at + k = omega arith in
    front_errors e (b ∷ s) at (suc k) all ∙ rw place (sym (front_errors e s (suc at) k refl))

module _ (v : Edition) where
  abbrev e : Encoding
  e = BasicString v

  -- a byte that stands for itself gives itself
  own_bytes : (at b : ℕ) (s : List ℕ) → basic_unescaped b ≡ true
      → collect (piece_of e) gives 0 false at (b ∷ s) ≡ b ∷ collect (piece_of e) gives 0 false (suc at) s
  unfolding run
  own_bytes at b s h =
      let k = run basic_unescaped s in
      let all : suc k ≡ run basic_unescaped (b ∷ s) = rw h in
      let place : at + suc k ≡ suc at + k = omega arith in
      front_bytes e (b ∷ s) at (suc k) all ∙ rw place (ap (λ (l : List ℕ). b ∷ l) (sym (front_bytes e s (suc at) k refl)))

  -- an escape of one letter is a piece of two bytes that gives one
  letter_piece : (at b c : ℕ) (s : List ℕ) → letter_char b ≡ Some c → piece_of e false at (0x5C ∷ b ∷ s) ≡ char_piece 2 c
  letter_piece at b c s h = sym (escape_simple v at (b ∷ s) c (letter_stands v b c h) ∙ basic_escape v at (0x5C ∷ b ∷ s) refl)

  letter_given : (b c : ℕ) (s : List ℕ) → letter_char b ≡ Some c → gives (char_piece 2 c) s ≡ c ∷ []
  letter_given b c s h =
      gives_char (char_piece 2 c) s c refl
      ∙ encode_1 c (stands_fit v (b ∷ []) c (letter_stands v b c h)).1

  letter_bytes : (at b c : ℕ) (s : List ℕ) → letter_char b ≡ Some c
      → collect (piece_of e) gives 0 false at (0x5C ∷ b ∷ s) ≡ c ∷ collect (piece_of e) gives 0 false (at + 2) s
  letter_bytes at b c s h =
      let p = letter_piece at b c s h in
      let some : 0 < (piece_of e false at (0x5C ∷ b ∷ s)).take = rw p (omega arith) in
      collect_step (piece_of e) gives false at (0x5C ∷ b ∷ s) (omega arith) some ∙ rw (p, letter_given b c (0x5C ∷ b ∷ s) h)

  pub letter_errors : (at b c : ℕ) (s : List ℕ) → letter_char b ≡ Some c
      → collect (piece_of e) notes_at 0 false at (0x5C ∷ b ∷ s) ≡ collect (piece_of e) notes_at 0 false (at + 2) s
  letter_errors at b c s h =
      let p = letter_piece at b c s h in
      let some : 0 < (piece_of e false at (0x5C ∷ b ∷ s)).take = rw p (omega arith) in
      collect_step (piece_of e) notes_at false at (0x5C ∷ b ∷ s) (omega arith) some
      ∙ rw (p, notes_none (char_piece 2 c) refl)

  -- so the body gives what was read off, and notes nothing
  abbrev Decoded : ℕ → List ℕ → Type 0
  Decoded at s = (collect (piece_of e) gives 0 false at s ≡ simple_bytes false s) × (collect (piece_of e) notes_at 0 false at s ≡ [])

  by_byte : (at b : ℕ) (s : List ℕ) → is_simple false (b ∷ s) ≡ true → eqb b 0x5C ≡ false
      → (is_simple false s ≡ true → Decoded (suc at) s) → Decoded at (b ∷ s)
  unfolding is_simple
  by_byte at b s h differs rest =
      let both : (basic_unescaped b && is_simple false s) ≡ true = rw differs at h in
      let own = both_left (basic_unescaped b) (is_simple false s) both in
      let d = rest (both_right (basic_unescaped b) (is_simple false s) both) in
      (own_bytes at b s own ∙ rw (bytes_own b s own, d.0), own_errors e at b s own ∙ d.1)

  by_letter : (at b c : ℕ) (s : List ℕ) → is_simple false (b ∷ c ∷ s) ≡ true → b ≡ 0x5C
      → (is_simple false s ≡ true → Decoded (at + 2) s) → Decoded at (b ∷ c ∷ s)
  unfolding is_simple
  by_letter at b c s h is rest =
      let both : (is_some (letter_char c) && is_simple false s) ≡ true = rw is at h in
      let char = known (letter_char c) (both_left (is_some (letter_char c)) (is_simple false s) both) in
      let d = rest (both_right (is_some (letter_char c)) (is_simple false s) both) in
      rw is (letter_bytes at c char.0 s char.1 ∙ rw (bytes_letter c s char.0 char.1, d.0), letter_errors at c char.0 s char.1 ∙ d.1)

  no_letter : (b : ℕ) → b ≡ 0x5C → is_simple false (b ∷ []) ≡ true → ⊥
  unfolding is_simple
  no_letter b is h = let z : false ≡ true = rw is at h in not_both refl (sym z)

  pub simple_decodes : (at : ℕ) (s : List ℕ) → is_simple false s ≡ true → Decoded at s
  unfolding simple_bytes
  simple_decodes at [] h = (refl, refl)
  simple_decodes at (b ∷ []) h = go (eqb b 0x5C) refl
    where
      go : (x : Bool) → eqb b 0x5C ≡ x → Decoded at (b ∷ [])
      go true f = absurd (no_letter b (eqb-true b 0x5C f) h)
      go false f = by_byte at b [] h f (λ _. (refl, refl))
  simple_decodes at (b ∷ c ∷ s) h = either (eqb b 0x5C) refl (simple_decodes (suc at) (c ∷ s)) (simple_decodes (at + 2) s)
    where
      either : (x : Bool) → eqb b 0x5C ≡ x → (is_simple false (c ∷ s) ≡ true → Decoded (suc at) (c ∷ s))
          → (is_simple false s ≡ true → Decoded (at + 2) s) → Decoded at (b ∷ c ∷ s)
      either true f one two = by_letter at b c s h (eqb-true b 0x5C f) two
      either false f one two = by_byte at b (c ∷ s) h f one

-- ---- and the text

chosen_basic : (edition kind : ℕ) → Named edition → kind ≡ 34 → (v : Edition) × (choice_by edition kind ≡ Ok (BasicString v))
unfolding choice_by choice_in
chosen_basic edition kind (inl e) k = (Toml10, simp (e, k))
chosen_basic edition kind (inr e) k = (Toml11, simp (e, k))

pub short_decodes : (t : List ℕ) (edition kind : ℕ) → Named edition → kind ≡ 34 → Short t
    → Decodes t edition kind (simple_bytes false (body_from t 1))
short_decodes t edition kind named k short =
    let chosen = chosen_basic edition kind named k in
    let v = chosen.0 in
    let d : Ends = record { opened = true; closed = true; start = 1; end = length t - 1 } in
    let ends : d ≡ ends_of (BasicString v) t = line_both 0x22 t short.two short.opens short.closes in
    let body = simple_decodes v 1 (body_from t 1) short.simple in
    record {
      valid = short.valid;
      encoding = BasicString v;
      chosen = chosen.1;
      bytes = bytes_is (BasicString v) t d ends ∙ body.0;
      errors = errors_is (BasicString v) t d ends _ refl ∙ body.1;
    }

-- ---- the bytes of the body, place by place

module _ (t : List ℕ) where
  from_cons : (i : ℕ) → i + 1 < length t → body_from t i ≡ get_or t i 0 ∷ body_from t (i + 1)
  from_cons i h =
      let size : length t - 1 - i ≡ suc (length t - 1 - (i + 1)) = omega arith in
      let here : i < length t = omega arith in
      rw (size, drop-cons t i 0 here, add-one)

  from_two : (i : ℕ) → i + 2 < length t → get_or t i 0 ≡ 0x5C → body_from t i ≡ 0x5C ∷ get_or t (i + 1) 0 ∷ body_from t (i + 2)
  from_two i h is =
      let place : i + 1 + 1 ≡ i + 2 = omega arith in
      let second : body_from t (i + 1) ≡ get_or t (i + 1) 0 ∷ body_from t (i + 2) = rw place at (from_cons (i + 1) (omega arith)) in
      from_cons i (omega arith) ∙ rw (is, second)

  from_end : (i : ℕ) → length t ≤ i + 1 → body_from t i ≡ []
  from_end i h = let size : length t - 1 - i ≡ 0 = omega arith in rw size

-- ---- going over it

mark_stops : basic_unescaped 0x22 ≡ false
unfolding basic_unescaped
mark_stops = refl

module _ (t : List ℕ) (marked : Marked t) where
  pub simple_start : SimpleTo t 1
  simple_start = record { along = (omega arith, omega (arith, marked.some), refl); within = marked.some; same = refl }

  -- a place whose byte is no mark lies before the last
  not_last : (i : ℕ) → i < length t → (get_or t i 0 ≡ 0x22 → ⊥) → i + 1 < length t
  not_last i h differ = go (dec_lt (i + 1) (length t))
    where
      go : Dec (i + 1 < length t) → i + 1 < length t
      go (yes l) = l
      go (no l) =
          let last : i ≡ length t - 1 = omega arith in
          absurd (differ (ap (λ (k : ℕ). get_or t k 0) last ∙ marked.closes))

  -- over a byte that stands for itself
  simple_on : (i : ℕ) → i + 1 < length t → basic_unescaped (get_or t i 0) ≡ true
      → is_simple false (body_from t i) ≡ is_simple false (body_from t (i + 1))
  simple_on i more own = rw (from_cons t i more) (simple_own (get_or t i 0) (body_from t (i + 1)) own)

  pub simple_ascii : {i : ℕ} → SimpleTo t i → get_or t i 0 < 0x80 → basic_unescaped (get_or t i 0) ≡ true → SimpleTo t (i + 1)
  simple_ascii {i} to low own =
      let more = not_last i to.within (λ e. not_both (rw e at own) mark_stops) in
      record {
        along = along_ascii t 1 i to.within low to.along;
        within = more;
        same = sym (simple_on i more own) ∙ to.same;
      }

  pub simple_escape : {i : ℕ} → SimpleTo t i → get_or t i 0 ≡ 0x5C → i + 2 < length t
      → (c : ℕ) → letter_char (get_or t (i + 1) 0) ≡ Some c → SimpleTo t (i + 2)
  simple_escape {i} to is more c letter =
      let place : i + 1 + 1 ≡ i + 2 = omega arith in
      let b = get_or t (i + 1) 0 in
      let low : b < 0x80 = (stands_fit Toml10 (b ∷ []) c (letter_stands Toml10 b c letter)).0.low in
      let one = along_ascii t 1 i to.within (omega arith) to.along in
      let here : is_simple false (body_from t i) ≡ is_simple false (body_from t (i + 2)) =
      rw (from_two t i more is) (simple_letter b (body_from t (i + 2)) c letter) in
      record { along = rw place at (along_ascii t 1 (i + 1) (omega arith) low one); within = more; same = sym here ∙ to.same }

  high_run : (n i : ℕ) → i + n < length t → ((k : ℕ) → k < n → 0x80 ≤ get_or t (i + k) 0)
      → is_simple false (body_from t (i + n)) ≡ is_simple false (body_from t i)
  high_run zero i h high = rw add-zero
  high_run (suc n) i h high =
      let place : i + suc n ≡ i + 1 + n = omega arith in
      let first : 0x80 ≤ get_or t i 0 = rw add-zero at (high 0 (omega arith)) in
      let rest = high_run n (i + 1) (omega arith) (λ k l.
      let next : i + suc k ≡ i + 1 + k = omega arith in
      rw next at (high (suc k) (omega arith))) in
      rw place (rest ∙ sym (simple_on i (omega arith) (basic_high (get_or t i 0) first)))

  pub simple_wide : {i n : ℕ} → SimpleTo t i → (i + n ≤ length t) × CharacterAt t i n → SimpleTo t (i + n)
  simple_wide {i} {n} to wide =
      record {
        along = along_whole t 1 i n fits char to.along;
        within = within;
        same = high_run n i within high ∙ to.same;
      }
    where
      fits : i + n ≤ length t
      fits = wide.0

      char : CharacterAt t i n
      char = wide.1

      some : 0 < n
      some = omega (arith, char.some)

      high : (k : ℕ) → k < n → 0x80 ≤ get_or t (i + k) 0
      high k h = wide_high t i n k char h

      within : i + n < length t
      within = omega (arith, not_last (i + (n - 1)) (omega (arith, fits)) (λ e. omega (arith, high (n - 1) (omega arith))))

none_simple : is_simple false [] ≡ true
unfolding is_simple
none_simple = refl

-- where the loop comes to the closing mark, the text is such
pub short_text : {r : ℕ} (t : List ℕ) → length t ≤ limit → 2 ≤ length t → get_or t 0 0 ≡ 0x22 → get_or t (length t - 1) 0 ≡ 0x22
    → r + 1 ≡ length t → SimpleTo t r → Short t
short_text {r} t few two opens closes all to =
    record {
      two = two;
      opens = opens;
      closes = closes;
      valid = answer_valid t few (omega (arith, end, valid_end t (r + 1) (omega arith)));
      simple = sym to.same ∙ rw (from_end t r (omega arith)) none_simple;
    }
  where
    first : Along t 0 1
    first = along_ascii t 0 0 (omega arith) (omega (arith, opens)) (omega arith, omega arith, refl)

    last : get_or t r 0 ≡ 0x22
    last = let place : r ≡ length t - 1 = omega arith in rw place closes

    end : Along t 0 (r + 1)
    end =
        along_ascii t 0 r to.within (omega (arith, last))
        (omega (arith, to.along), omega (arith, to.along), omega (arith, first, to.along))

-- ---- writing it

-- o bytes are written, and what is still to be stored, from place o on, is what the body from place i on stands for
pub record Spelling (t old : List ℕ) (i o : ℕ) (out : List ℕ) : Type 0 where
  pub long : length out ≡ length old
  pub behind : o < i
  pub within : i < length t
  pub simple : is_simple false (body_from t i) ≡ true
  pub size : o + length (simple_bytes false (body_from t i)) ≡ length (simple_bytes false (body_from t 1))
  pub rest : sets out o (simple_bytes false (body_from t i)) ≡ sets old 0 (simple_bytes false (body_from t 1))

-- what is known of the byte at the front
own_first : (b : ℕ) (s : List ℕ) → (b ≡ 0x5C → ⊥) → is_simple false (b ∷ s) ≡ true → (basic_unescaped b ≡ true) × (is_simple false s ≡ true)
unfolding is_simple
own_first b s differs h =
    let both : (basic_unescaped b && is_simple false s) ≡ true = rw (ne_eqb b 0x5C differs) at h in
    (both_left (basic_unescaped b) (is_simple false s) both, both_right (basic_unescaped b) (is_simple false s) both)

letter_first : (b : ℕ) (s : List ℕ) → is_simple false (0x5C ∷ b ∷ s) ≡ true → (is_some (letter_char b) ≡ true) × (is_simple false s ≡ true)
unfolding is_simple
letter_first b s h =
    (both_left (is_some (letter_char b)) (is_simple false s) h, both_right (is_some (letter_char b)) (is_simple false s) h)

letter_there : is_simple false (0x5C ∷ []) ≡ true → ⊥
unfolding is_simple
letter_there h = not_both refl (sym h)

no_bytes : simple_bytes false [] ≡ []
unfolding simple_bytes
no_bytes = refl

pub spelling_start : (t old : List ℕ) → Short t → Spelling t old 1 0 old
spelling_start t old short =
    record { long = refl; behind = omega arith; within = short.two; simple = short.simple; size = omega arith; rest = refl }

module _ {t old : List ℕ} {i o : ℕ} {out : List ℕ} (so : Spelling t old i o out) where
  -- c is stored, and j is the place from which the rest is spelled
  stored : (j c : ℕ) → o + 1 < j → j < length t → is_simple false (body_from t j) ≡ true
      → simple_bytes false (body_from t i) ≡ c ∷ simple_bytes false (body_from t j) → Spelling t old j (o + 1) (set out o c)
  stored j c behind within simple bytes =
      let step = rw bytes at so.rest in
      record {
        long = length-set out o c ∙ so.long;
        behind = behind;
        within = within;
        simple = simple;
        size = omega (arith, so.size, ap length bytes);
        rest = rw add-one step;
      }

  pub spelling_byte : i + 1 < length t → (get_or t i 0 ≡ 0x5C → ⊥) → Spelling t old (i + 1) (o + 1) (set out o (get_or t i 0))
  spelling_byte h differs =
      let b = get_or t i 0 in
      let cons = from_cons t i h in
      let first = own_first b (body_from t (i + 1)) differs (rw cons at so.simple) in
      stored (i + 1) b (omega (arith, so.behind)) h first.1 (rw cons (bytes_own b (body_from t (i + 1)) first.0))

  -- after a backslash stands a letter
  letter_next : i + 1 < length t → get_or t i 0 ≡ 0x5C → i + 2 < length t
  letter_next h is = elim (dec_lt (i + 2) (length t)) [
    | yes l ↦ l
    | no l ↦
        let alone : body_from t i ≡ 0x5C ∷ [] = from_cons t i h ∙ rw (is, from_end t (i + 1) (omega arith)) in
        absurd (letter_there (rw alone at so.simple))
  ]

  after_letter : i + 1 < length t → get_or t i 0 ≡ 0x5C
      → (is_some (letter_char (get_or t (i + 1) 0)) ≡ true) × (is_simple false (body_from t (i + 2)) ≡ true)
  after_letter h is =
      letter_first (get_or t (i + 1) 0) (body_from t (i + 2)) (rw (from_two t i (letter_next h is) is) at so.simple)

  -- which has a character
  pub letter_known : i + 1 < length t → get_or t i 0 ≡ 0x5C → is_some (letter_char (get_or t (i + 1) 0)) ≡ true
  letter_known h is = (after_letter h is).0

  pub spelling_letter : (c : ℕ) → i + 1 < length t → get_or t i 0 ≡ 0x5C → letter_char (get_or t (i + 1) 0) ≡ Some c
      → Spelling t old (i + 2) (o + 1) (set out o c)
  spelling_letter c h is char =
      let l = letter_next h is in
      let b = get_or t (i + 1) 0 in
      stored (i + 2) c (omega (arith, so.behind)) l (after_letter h is).1
      (rw (from_two t i l is) (bytes_letter b (body_from t (i + 2)) c char))

  pub spelling_end : length t ≤ i + 1 → Stored old 0 (simple_bytes false (body_from t 1)) o out
  spelling_end h =
      let end : simple_bytes false (body_from t i) ≡ [] = rw (from_end t i h) no_bytes in
      record { place = omega (arith, so.size, ap length end); holds = rw end at so.rest }

-- ---- what was written

-- what t decodes to
abbrev pub short_bytes : List ℕ → List ℕ
short_bytes t = simple_bytes false (body_from t 1)

pub short_written : {t old out : List ℕ} {n : ℕ} → Written t old out n
    → (length (short_bytes t) ≡ n) × (out ≡ short_bytes t ++ drop n old)
short_written w =
    let size = front_long w.stored in
    (sym size, rw (← size) at (overwritten w.stored (omega (arith, w.room))))
