-- A plain body decodes to itself: where all of it stands for itself, and the marks are there, its bytes are the body and
-- there is no error. So does a line that passes the check besides (`OwnLine`), and one of printable ASCII does pass it.
-- Assumes nothing.
use Prim.Native.Nat.{ℕ, suc, ◌+◌, ◌-◌, ◌/◌, ◌%◌, ◌^◌, ◌≤◌, ◌<◌}
use mathlib.Core.Path.{◌≡◌, refl, sym, ap, ◌∙◌, subst}
use mathlib.Core.Logic.{◌⊎◌, inl, inr, ⊎_elim}
use mathlib.Core.Bool.{Bool, true, false, cond}
use mathlib.Core.List.{List, [], ◌∷◌, ◌++◌, append-nil}
use Rattle.std.specs.Prelude.{min, Option, Some, None, MatchOption, Ok}
use native.Mathlib.Decide.{ℕ_discrete, dec_lt}
use native.Mathlib.Omega.{arith}
use lib.Dec.{eqb}
use lib.Bits.{bit_or, bit_xor, xor_self}
use lib.ListN.{length, take, drop, get_or, set, length-set, length-append, length-drop, drop_of_length-le, get_or-append}
use lib.Seq.{take_all, length-take-le, get_or-take, get_or-drop, get_or-set_same, get_or-set_other, get_or-append-add, ext_get_or}
use borrow.Author.Tests.{lt-ltb}
use Rattle.text_classes.specs.Classes.{literal_char, basic_unescaped}
use Rattle.text_classes.specs.Runs.{run}
use Rattle.text_classes.proofs.ByteTable.{rest_is}
use Rattle.text_classes.proofs.RunLaws.{run_first}
use Rattle.text_refusals.specs.Refusals.{limit}
use Rattle.text_scalars.specs.Utf8Read.{ascii}
use Rattle.text.specs.CheckMeans.{check_of}
use Rattle.text_scalars.proofs.FieldLaws.{bits_left, bits_right}
use Rattle.text.proofs.AnswerLaws.{answer_ascii}
use Rattle.decoder_rules.specs.declared.Edition.{Edition}
use Rattle.decoder_rules.specs.declared.Edition.TheVariants.{Toml10, Toml11}
use Rattle.decoder_rules.specs.declared.Encoding.{Encoding}
use Rattle.decoder_rules.specs.declared.Encoding.TheVariants.{LiteralString, BasicString, MlLiteralString, MlBasicString, UnquotedKey}
use Rattle.decoder_rules.specs.declared.Ends.{Ends}
use Rattle.decoder_rules.specs.Encodings.{plain, choice_in, choice_by}
use Rattle.decoder_rules.specs.Pieces.{gives, notes, notes_at, collect, copy_piece}
use Rattle.decoder_rules.specs.Bodies.{piece_of}
use Rattle.decoder_rules.specs.Marks.{line_ends, ends_of, body_of}
use Rattle.decoder_rules.specs.Decoding.{bytes_of, errors_of, bytes_by, errors_by, written, decode_in, after}
use Rattle.decoder_rules.proofs.PlaceForms.{literal_piece_is, ml_literal_piece_is, basic_piece_is, content_is, ml_basic_piece_is, key_piece_is}
use Rattle.decoder_rules.proofs.PieceLaws.{collect_step, notes_none}
use Rattle.decoder_rules.proofs.MarkLaws.{line_both}
use Rattle.decoder_rules.proofs.DecodeLaws.{bytes_is, errors_is, fitted_written, decode_valid}

-- ---- a body that is one run

-- where every byte passes the test, the run is the whole
pub run_all : (p : ℕ → Bool) (s : List ℕ) → ((k : ℕ) → k < length s → p (get_or s k 0) ≡ true) → run p s ≡ length s
unfolding run
run_all p [] f = refl
run_all p (b ∷ s) f = rw (f 0 (omega arith)) (ap suc (run_all p s (λ k h. f (suc k) (omega arith))))

-- a plain byte begins a piece that takes the whole run as it stands
pub plain_piece : (e : Encoding) (at : ℕ) (s : List ℕ) → plain e (get_or s 0 0) ≡ true → piece_of e false at s ≡ copy_piece (run (plain e) s)
plain_piece LiteralString at s h = rw (literal_piece_is, h)
plain_piece MlLiteralString at s h = rw (ml_literal_piece_is, h)
plain_piece (BasicString v) at s h = rw (basic_piece_is, h)
plain_piece (MlBasicString v) at s h = rw (ml_basic_piece_is, content_is, h)
plain_piece UnquotedKey at s h = rw (key_piece_is, h)

module _ (e : Encoding) (at : ℕ) (s : List ℕ) (all : run (plain e) s ≡ length s) where
  one_piece : 0 < length s → piece_of e false at s ≡ copy_piece (length s)
  one_piece h =
      plain_piece e at s (run_first (plain e) s h (length s) (sym all) h) ∙ ap copy_piece all

-- and a piece that takes all gives all
all_given : (s : List ℕ) → gives (copy_piece (length s)) s ≡ s
unfolding gives
all_given s = take_all (length s) s (omega arith)

module _ (e : Encoding) (at : ℕ) where
  pub plain_bytes : (s : List ℕ) → run (plain e) s ≡ length s → collect (piece_of e) gives 0 false at s ≡ s
  plain_bytes [] all = refl
  plain_bytes (b ∷ r) all =
      let s = b ∷ r in
      let p = one_piece e at s all (omega arith) in
      let none : drop (length s) s ≡ [] = drop_of_length-le s {i = length s} (omega arith) in
      let some : 0 < (piece_of e false at s).take = rw p (omega arith) in
      collect_step (piece_of e) gives false at s (omega arith) some
      ∙ rw (p, all_given s, none) (append-nil s)

  pub plain_errors : (s : List ℕ) → run (plain e) s ≡ length s → collect (piece_of e) notes_at 0 false at s ≡ []
  plain_errors [] all = refl
  plain_errors (b ∷ r) all =
      let s = b ∷ r in
      let p = one_piece e at s all (omega arith) in
      let none : drop (length s) s ≡ [] = drop_of_length-le s {i = length s} (omega arith) in
      let some : 0 < (piece_of e false at s).take = rw p (omega arith) in
      collect_step (piece_of e) notes_at false at s (omega arith) some
      ∙ rw (p, notes_none (copy_piece (length s)) refl, none)

-- the same of a text whose marks are there
module _ (e : Encoding) (t : List ℕ) (a z : ℕ) (ends : record { opened = true; closed = true; start = a; end = z } ≡ ends_of e t) where
  abbrev body : List ℕ
  body = take (z - a) (drop a t)

  pub plain_text : run (plain e) body ≡ length body → (bytes_of e t ≡ body) × (errors_of e t ≡ [])
  plain_text all =
      let d : Ends = record { opened = true; closed = true; start = a; end = z } in
      (bytes_is e t d ends ∙ plain_bytes e a body all, errors_is e t d ends _ refl ∙ plain_errors e a body all)

-- ---- a line that stands for itself

-- t has the mark q at both ends, passes the check, and every byte between them passes the test p
pub record OwnLine (q : ℕ) (p : ℕ → Bool) (t : List ℕ) : Type 0 where
  pub two : 2 ≤ length t
  pub opens : get_or t 0 0 ≡ q
  pub closes : get_or t (length t - 1) 0 ≡ q
  pub valid : Ok tt ≡ check_of t
  pub own : (k : ℕ) → 1 ≤ k → k < length t - 1 → p (get_or t k 0) ≡ true

-- the n bytes after the first
abbrev pub middle : ℕ → List ℕ → List ℕ
middle n t = take n (drop 1 t)

-- its bytes are its body, and it has no error
module _ (q : ℕ) (e : Encoding) (t : List ℕ) (line : OwnLine q (plain e) t) (ends : ends_of e t ≡ line_ends q t) where
  line_text : (n : ℕ) → n + 2 ≡ length t → (bytes_of e t ≡ middle n t) × (errors_of e t ≡ [])
  line_text n h =
      let both = line_both q t (omega (arith, line.two)) line.opens line.closes in
      let size : length t - 1 - 1 ≡ n = omega arith in
      let r = plain_text e t 1 (length t - 1) (both ∙ sym ends) (run_all (plain e) _ each) in
      (r.0 ∙ ap (λ (m : ℕ). middle m t) size, r.1)
    where
      each : (k : ℕ) → k < length (take (length t - 1 - 1) (drop 1 t)) → plain e (get_or (take (length t - 1 - 1) (drop 1 t)) k 0) ≡ true
      each k l =
          let long = length-take-le (length t - 1 - 1) (drop 1 t) (omega (arith, length-drop 1 t)) in
          rw (get_or-take (length t - 1 - 1) (drop 1 t) k 0 (omega arith), get_or-drop 1 t k 0)
          (line.own (1 + k) (omega arith) (omega (arith, line.two)))

-- ---- a line of printable ASCII is one

-- b is printable ASCII, and neither of two bytes
pub record Clear (q z b : ℕ) : Type 0 where
  pub low : 0x20 ≤ b
  pub high : b < 0x7F
  pub no_first : b ≡ q → ⊥
  pub no_second : b ≡ z → ⊥

-- and so is every byte of s from `from` to `to`
abbrev pub ClearIn : ℕ → ℕ → List ℕ → ℕ → ℕ → Type 0
ClearIn q z s from to = (k : ℕ) → from ≤ k → k < to → Clear q z (get_or s k 0)

-- the two bytes that a kind on a line leaves out of printable ASCII: its mark, twice or with the backslash
abbrev pub LineMarks : ℕ → ℕ → Type 0
LineMarks q z = ((q ≡ 0x27) × (z ≡ 0x27)) ⊎ ((q ≡ 0x22) × (z ≡ 0x5C))

-- and that kind, by the second; editions differ in no byte that stands for itself
unfoldable pub line_of : ℕ → Encoding
line_of z = cond (eqb z 0x5C) (BasicString Toml10) LiteralString

clear_literal : (b : ℕ) → Clear 0x27 0x27 b → literal_char b ≡ true
unfolding literal_char
clear_literal b c = sym (rest_is true literal_char (0x27 ∷ []) 32 95 tt b c.no_first c.low (omega (arith, c.high)))

clear_basic : (b : ℕ) → Clear 0x22 0x5C b → basic_unescaped b ≡ true
unfolding basic_unescaped
clear_basic b c =
    sym (rest_is true basic_unescaped (0x22 ∷ 0x5C ∷ []) 32 95 tt b (⊎_elim c.no_first c.no_second) c.low (omega (arith, c.high)))

pub clear_plain : {q z : ℕ} → LineMarks q z → (b : ℕ) → Clear q z b → plain (line_of z) b ≡ true
unfolding line_of
clear_plain (inl (e, f)) b c = rw f (clear_literal b (rw (e, f) at c))
clear_plain (inr (e, f)) b c = rw f (clear_basic b (rw (e, f) at c))

pub marks_low : {q z : ℕ} → LineMarks q z → q < 0x80
marks_low (inl (e, f)) = omega arith
marks_low (inr (e, f)) = omega arith

module _ {q z : ℕ} (marks : LineMarks q z) (t : List ℕ) (few : length t ≤ limit) (two : 2 ≤ length t) (opens : get_or t 0 0 ≡ q)
    (closes : get_or t (length t - 1) 0 ≡ q) (clear : ClearIn q z t 1 (length t - 1)) where
  line_ascii : (k : ℕ) → k < length t → ascii (get_or t k 0) ≡ true
  line_ascii k h = lt-ltb (get_or t k 0) 0x80 (small (ℕ_discrete k 0) (ℕ_discrete k (length t - 1)))
    where
      small : Dec (k ≡ 0) → Dec (k ≡ length t - 1) → get_or t k 0 < 0x80
      small (yes e) d = rw e (omega (arith, opens, marks_low marks))
      small (no n) (yes e) = rw e (omega (arith, closes, marks_low marks))
      small (no n) (no m) = omega (arith, (clear k (omega arith) (omega arith)).high)

  pub clear_line : OwnLine q (plain (line_of z)) t
  clear_line =
      record {
        two = two;
        opens = opens;
        closes = closes;
        valid = answer_ascii t few (run_all ascii t line_ascii);
        own = λ k l h. clear_plain marks (get_or t k 0) (clear k l h);
      }

-- ---- the lesser of two places

least : (a b r : ℕ) → r ≡ min a b → ((r ≡ a) × (a ≤ b)) ⊎ ((r ≡ b) × (b ≤ a))
least a b r e = elim (dec_lt b a) [ yes l ↦ inr (omega arith, omega arith) | no l ↦ inl (omega arith, omega arith) ]

-- ---- how a run of bytes is found clear

-- the bits that the code makes of a byte: the highest is off in all of them
pub clear_by : (q z b high low first second : ℕ) → b < 256 → high ≡ (b + 1) % 2 ^ 8 → (low + 0x20) % 2 ^ 8 ≡ b
    → (first + 1) % 2 ^ 8 ≡ bit_xor b q → (second + 1) % 2 ^ 8 ≡ bit_xor b z
    → bit_or (bit_or high low) (bit_or first second) < 0x80 → Clear q z b
clear_by q z b high low first second byte h l f s off =
    let left : bit_or high low < 0x80 = omega (arith, bits_left (bit_or high low) (bit_or first second)) in
    let right : bit_or first second < 0x80 = omega (arith, bits_right (bit_or high low) (bit_or first second)) in
    let h-off : high < 0x80 = omega (arith, bits_left high low) in
    let l-off : low < 0x80 = omega (arith, bits_right high low) in
    let f-off : first < 0x80 = omega (arith, bits_left first second) in
    let s-off : second < 0x80 = omega (arith, bits_right first second) in
    record {
      low = omega arith;
      high = omega arith;
      no_first = λ e. let x : bit_xor b q ≡ 0 = rw (← e) (xor_self b) in absurd (omega arith);
      no_second = λ e. let x : bit_xor b z ≡ 0 = rw (← e) (xor_self b) in absurd (omega arith);
    }

module _ (q z : ℕ) (s : List ℕ) where
  pub clear_none : (i : ℕ) → ClearIn q z s i (i + 0)
  clear_none i k l h = absurd (omega arith)

  pub clear_more : (i j : ℕ) → Clear q z (get_or s (i + j) 0) → ClearIn q z s i (i + j) → ClearIn q z s i (i + (j + 1))
  clear_more i j c all k l h = go (ℕ_discrete k (i + j))
    where
      go : Dec (k ≡ i + j) → Clear q z (get_or s k 0)
      go (yes e) = subst (λ (w : ℕ). Clear q z (get_or s w 0)) (sym e) c
      go (no n) = all k l (omega arith)

  -- the first, the middle one and the last of up to three
  pub clear_few : (n : ℕ) → n < 4 → Clear q z (get_or s 1 0) → Clear q z (get_or s (1 + n / 2) 0) → Clear q z (get_or s n 0)
      → ClearIn q z s 1 (n + 1)
  clear_few n few a b c k l h = go (ℕ_discrete k 1) (ℕ_discrete k n)
    where
      go : Dec (k ≡ 1) → Dec (k ≡ n) → Clear q z (get_or s k 0)
      go (yes e) d = subst (λ (w : ℕ). Clear q z (get_or s w 0)) (sym e) a
      go (no x) (yes e) = subst (λ (w : ℕ). Clear q z (get_or s w 0)) (sym e) c
      go (no x) (no y) = let e : k ≡ 1 + n / 2 = omega arith in subst (λ (w : ℕ). Clear q z (get_or s w 0)) (sym e) b

-- two parts of eight, from i and from i + 8 on, or as far back as the end asks: all that lies before i + 16
module _ (q z : ℕ) (s : List ℕ) (end last i a b : ℕ) (is : last + 8 ≡ end) (la : a ≡ min i last) (lb : b ≡ min (i + 8) last) where
  pub clear_pair : ClearIn q z s a (a + 8) → ClearIn q z s b (b + 8) → ((k : ℕ) → 1 ≤ k → k < i → k < end → Clear q z (get_or s k 0))
      → (k : ℕ) → 1 ≤ k → k < i + 16 → k < end → Clear q z (get_or s k 0)
  clear_pair first second passed k l h e = go (dec_lt k i) (dec_lt k (a + 8)) (least i last a la) (least (i + 8) last b lb)
    where
      go : Dec (k < i) → Dec (k < a + 8) → ((a ≡ i) × (i ≤ last)) ⊎ ((a ≡ last) × (last ≤ i))
          → ((b ≡ i + 8) × (i + 8 ≤ last)) ⊎ ((b ≡ last) × (last ≤ i + 8)) → Clear q z (get_or s k 0)
      go (yes x) d la lb = passed k l x e
      go (no x) (yes y) (inl f) lb = first k (omega arith) y
      go (no x) (yes y) (inr f) lb = first k (omega arith) y
      go (no x) (no y) (inl f) (inl g) = second k (omega arith) (omega arith)
      go (no x) (no y) (inl f) (inr g) = second k (omega arith) (omega arith)
      go (no x) (no y) (inr f) lb = absurd (omega arith)

-- ---- the call

-- a text of the kind, on a line, that stands for itself
abbrev pub Plain : ℕ → List ℕ → Type 0
Plain kind t = ((kind ≡ 39) × OwnLine 0x27 literal_char t) ⊎ ((kind ≡ 34) × OwnLine 0x22 basic_unescaped t)

-- a number that names an edition
abbrev pub Named : ℕ → Type 0
Named edition = (edition ≡ 10) ⊎ (edition ≡ 11)

-- what a plain text of the kind decodes to: its body
pub record Decodes (t : List ℕ) (edition kind : ℕ) (body : List ℕ) : Type 0 where
  pub valid : Ok tt ≡ check_of t
  pub encoding : Encoding
  pub chosen : choice_by edition kind ≡ Ok encoding
  pub bytes : bytes_of encoding t ≡ body
  pub errors : errors_of encoding t ≡ []

chosen_literal : (edition kind : ℕ) → Named edition → kind ≡ 39 → choice_by edition kind ≡ Ok LiteralString
unfolding choice_by choice_in
chosen_literal edition kind (inl e) k = simp (e, k)
chosen_literal edition kind (inr e) k = simp (e, k)

chosen_basic : (edition kind : ℕ) → Named edition → kind ≡ 34 → (v : Edition) × (choice_by edition kind ≡ Ok (BasicString v))
unfolding choice_by choice_in
chosen_basic edition kind (inl e) k = (Toml10, simp (e, k))
chosen_basic edition kind (inr e) k = (Toml11, simp (e, k))

module _ (t : List ℕ) (edition kind n : ℕ) (named : Named edition) (size : n + 2 ≡ length t) where
  pub plain_decodes : Plain kind t → Decodes t edition kind (middle n t)
  plain_decodes (inl (k, line)) =
      let r = line_text 0x27 LiteralString t line refl n size in
      record { valid = line.valid; encoding = LiteralString; chosen = chosen_literal edition kind named k; bytes = r.0; errors = r.1 }
  plain_decodes (inr (k, line)) =
      let c = chosen_basic edition kind named k in
      let r = line_text 0x22 (BasicString c.0) t line refl n size in
      record { valid = line.valid; encoding = BasicString c.0; chosen = c.1; bytes = r.0; errors = r.1 }

-- so the call answers, whatever the error records, where the output has room
module _ {t : List ℕ} {edition kind n : ℕ} {body : List ℕ} (size : length body ≡ n) (d : Decodes t edition kind body) where
  pub plain_answer : (o e : ℕ) → n ≤ o → written n 0 ≡ decode_in t edition kind o e
  plain_answer o e room =
      let k = d.encoding in
      let n-is : n ≡ length (bytes_of k t) = sym (ap length d.bytes ∙ size) in
      let m-is : 0 ≡ length (errors_of k t) = sym (ap length d.errors) in
      fitted_written (bytes_of k t) (errors_of k t) o e n 0 n-is m-is room (omega arith)
      ∙ rw d.chosen at (decode_valid t edition kind o e d.valid)

  pub plain_output : (out old : List ℕ) → out ≡ body ++ drop n old → out ≡ after (written n 0) (bytes_by (choice_by edition kind) t) old
  plain_output out old h = rw (d.chosen, d.bytes, size) h

  pub plain_records : (old : List (List ℕ)) → old ≡ after (written n 0) (errors_by (choice_by edition kind) t) old
  plain_records old = rw (d.chosen, d.errors)

pub middle_long : (n : ℕ) (t : List ℕ) → n + 2 ≡ length t → length (middle n t) ≡ n
middle_long n t size = length-take-le n (drop 1 t) (omega (arith, length-drop 1 t))

-- ---- what is copied of it

-- t is P, and its body, n bytes, is copied to the front of memory that held `old`, which has room
pub record BodyCopied (P : Type 0) (t old out : List ℕ) (n : ℕ) : Type 0 where
  pub is : P
  pub size : n + 2 ≡ length t
  pub room : n ≤ length old
  pub holds : out ≡ middle n t ++ drop n old

-- so many bytes; or none, and nothing is copied
abbrev pub Copied : Type 0 → List ℕ → List ℕ → Option ℕ → List ℕ → Type 0
Copied P t old r out = MatchOption r (out ≡ old) (BodyCopied P t old out)

pub copied_as : {P Q : Type 0} (t old out : List ℕ) (r : Option ℕ) → (P → Q) → Copied P t old r out → Copied Q t old r out
copied_as t old out None f h = h
copied_as t old out (Some n) f h = record { is = f h.is; size = h.size; room = h.room; holds = h.holds }

-- the m bytes from i on are those of t after its mark, and the others are as they were
pub record Part (t old : List ℕ) (i m : ℕ) (out : List ℕ) : Type 0 where
  pub long : length out ≡ length old
  pub before : (k : ℕ) → k < i → get_or out k 0 ≡ get_or old k 0
  pub within : (k : ℕ) → i ≤ k → k < i + m → get_or out k 0 ≡ get_or t (k + 1) 0
  pub behind : (k : ℕ) → i + m ≤ k → get_or out k 0 ≡ get_or old k 0

-- of the n bytes that are to be copied those before i are, and after the n nothing has changed
pub record Held (t old : List ℕ) (n i : ℕ) (out : List ℕ) : Type 0 where
  pub long : length out ≡ length old
  pub front : (k : ℕ) → k < i → k < n → get_or out k 0 ≡ get_or t (k + 1) 0
  pub rest : (k : ℕ) → n ≤ k → get_or out k 0 ≡ get_or old k 0

module _ (t old : List ℕ) (n : ℕ) where
  pub held_none : Held t old n 0 old
  held_none = record { long = refl; front = λ k h l. absurd (omega arith); rest = λ k h. refl }

  -- a part that begins no further on, and reaches to place j or to the end
  pub held_part : (i j a m : ℕ) (out next : List ℕ) → a ≤ i → a + m ≤ n → ((j ≤ a + m) ⊎ (n ≤ a + m))
      → Held t old n i out → Part t out a m next → Held t old n j next
  held_part i j a m out next l r c h p =
      record {
        long = p.long ∙ h.long;
        front = λ k x y. got k y (reach k x y c) (dec_lt k a);
        rest = λ k x. p.behind k (omega arith) ∙ h.rest k x;
      }
    where
      reach : (k : ℕ) → k < j → k < n → ((j ≤ a + m) ⊎ (n ≤ a + m)) → k < a + m
      reach k x y (inl z) = omega arith
      reach k x y (inr z) = omega arith

      got : (k : ℕ) → k < n → k < a + m → Dec (k < a) → get_or next k 0 ≡ get_or t (k + 1) 0
      got k y x (yes b) = p.before k b ∙ h.front k (omega arith) y
      got k y x (no b) = p.within k (omega arith) x

  -- two parts of eight, from i and from i + 8 on, or as far back as the end asks
  pub held_pair : (i last a b : ℕ) (out mid next : List ℕ) → last + 8 ≡ n → a ≡ min i last → b ≡ min (i + 8) last
      → Held t old n i out → Part t out a 8 mid → Part t mid b 8 next → Held t old n (i + 16) next
  held_pair i last a b out mid next e la lb h p q =
      second (least (i + 8) last b lb) (first (least i last a la))
    where
      first : ((a ≡ i) × (i ≤ last)) ⊎ ((a ≡ last) × (last ≤ i)) → Held t old n (i + 8) mid
      first (inl f) = held_part i (i + 8) a 8 out mid (omega arith) (omega arith) (inl (omega arith)) h p
      first (inr f) = held_part i (i + 8) a 8 out mid (omega arith) (omega arith) (inr (omega arith)) h p

      second : ((b ≡ i + 8) × (i + 8 ≤ last)) ⊎ ((b ≡ last) × (last ≤ i + 8)) → Held t old n (i + 8) mid → Held t old n (i + 16) next
      second (inl f) g = held_part (i + 8) (i + 16) b 8 mid next (omega arith) (omega arith) (inl (omega arith)) g q
      second (inr f) g = held_part (i + 8) (i + 16) b 8 mid next (omega arith) (omega arith) (inr (omega arith)) g q

  pub held_all : (i : ℕ) (out : List ℕ) → n ≤ i → n + 1 ≤ length t → n ≤ length old → Held t old n i out → out ≡ middle n t ++ drop n old
  held_all i out l s r h = ext_get_or 0 out (middle n t ++ drop n old) sizes (λ k x. each k (dec_lt k n))
    where
      front_long : length (take n (drop 1 t)) ≡ n
      front_long = length-take-le n (drop 1 t) (omega (arith, length-drop 1 t))

      sizes : length out ≡ length (middle n t ++ drop n old)
      sizes = omega (arith, h.long, length-append (middle n t) (drop n old), front_long, length-drop n old)

      each : (k : ℕ) → Dec (k < n) → get_or out k 0 ≡ get_or (middle n t ++ drop n old) k 0
      each k (yes x) =
          let same : 1 + k ≡ k + 1 = omega arith in
          h.front k (omega arith) x
          ∙ sym (get_or-append (middle n t) (drop n old) 0 k (omega (arith, front_long)) ∙ get_or-take n (drop 1 t) k 0 x
          ∙ get_or-drop 1 t k 0 ∙ ap (λ (j : ℕ). get_or t j 0) same)
      each k (no x) =
          let place : length (middle n t) + (k - n) ≡ k = omega (arith, front_long) in
          let back : n + (k - n) ≡ k = omega arith in
          h.rest k (omega arith)
          ∙ sym (ap (λ (j : ℕ). get_or (middle n t ++ drop n old) j 0) (sym place)
          ∙ get_or-append-add (middle n t) (drop n old) (k - n) 0 ∙ get_or-drop n old (k - n) 0 ∙ ap (λ (j : ℕ). get_or old j 0) back)
