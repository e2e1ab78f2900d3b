-- A text between two triple marks has the errors and the bytes of its body, which begins after the newline, if there is one,
-- that follows the opening.
use Prim.Native.Nat.{ℕ, suc, ◌+◌, ◌-◌, ◌≤◌, ◌<◌}
use mathlib.Core.Path.{◌≡◌, refl, sym, ◌∙◌, ap}
use mathlib.Core.Logic.{◌↔◌}
use mathlib.Core.Bool.{Bool, true, false, cond, ◌&&◌, ◌||◌}
use mathlib.Core.List.{List, [], ◌∷◌, ◌++◌, append_assoc}
use native.Mathlib.Omega.{arith}
use lib.ListN.{length, take, drop, get_or, length-append, take-append-drop, length-drop}
use lib.Seq.{take_at, drop_at, drop-drop}
use lib.Dec.{eqb, leb}
use borrow.Author.Tests.{eqb-true, ne_eqb, leb-true}
use Rattle.text_scalars.specs.Utf8.{Scalar, encodes, All}
use Rattle.text_scalars.proofs.EncodeLaws.{parts, encode_1}
use Rattle.text_scalars.proofs.ReadLaws.{encodes_append}
use Rattle.decoder_rules.specs.declared.Encoding.{Encoding}
use Rattle.decoder_rules.specs.declared.Ends.{Ends}
use Rattle.decoder_rules.specs.Encodings.{mark_error}
use Rattle.decoder_rules.specs.Pieces.{gives, notes_at, collect}
use Rattle.decoder_rules.specs.Bodies.{piece_of}
use Rattle.text_classes.specs.Runs.{stands, triple}
use Rattle.decoder_rules.specs.Marks.{newline_len, ml_start, ml_closed, ml_ends, ends_of, body_of}
use Rattle.decoder_rules.specs.Decoding.{bytes_of, errors_of}
use Rattle.text_classes.proofs.Conds.{both_left, both_right}
use Rattle.text_classes.proofs.TripleLaws.{triple_bytes, triple_fits}
use Rattle.decoder_rules.proofs.MarkLaws.{ml_is, start_open, closed_is, end_closed}
use Rattle.decoder_rules.proofs.DecodeLaws.{bytes_is, errors_is}
use Rattle.lexer_scans.specs.Extents.{ml_tail}
use Rattle.theorems_grammar.specs.Grammar.{Newline, x0A, x0D-0A, OptNewline, absent, present}
use Rattle.theorems_grammar.specs.Prose.{starts_newline, Trimmed}
use Rattle.decoder_rules.proofs.AnswerLaws.{nil}
use Rattle.theorems_grammar.proofs.Encoded.{side, ascii, beyond, first_is, AllAscii, encodes_ascii, between}
use Rattle.theorems_grammar.proofs.Reading.{ErrorFree, Reads, ReadsNewlines, reads_none}
use Rattle.theorems_grammar.proofs.LineMarks.{both_marks}
use Rattle.theorems_grammar.proofs.ClassLaws.{no_true}
use Rattle.theorems_grammar.proofs.Passing.{Mark, InMl, triple_yes, newline_in, pass_all, ml_pass}

-- ---- three marks at the front

abbrev pub delim : ℕ → List ℕ
delim q = q ∷ (q ∷ (q ∷ []))

triple_inv : (q : ℕ) (s : List ℕ) → triple q s ≡ true → (r : List ℕ) × (s ≡ q ∷ (q ∷ (q ∷ r)))
triple_inv q s opens =
    let marks = triple_bytes q s opens in
    by_length s (triple_fits q s opens) marks.0 marks.1 marks.2
  where
    by_length : (s : List ℕ) → 3 ≤ length s → get_or s 0 0 ≡ q → get_or s 1 0 ≡ q → get_or s 2 0 ≡ q
        → (r : List ℕ) × (s ≡ q ∷ (q ∷ (q ∷ r)))
    by_length [] long first second third = absurd (omega arith)
    by_length (a ∷ []) long first second third = absurd (omega arith)
    by_length (a ∷ (b ∷ [])) long first second third = absurd (omega arith)
    by_length (a ∷ (b ∷ (c ∷ r))) long first second third = (r, rw (first, second, third))

-- ---- the newline at the front of s, if there is one, and what follows it

pub record Split (s : List ℕ) : Type 0 where
  pub newline : List ℕ
  pub rest : List ℕ
  pub opt : OptNewline newline
  pub text : s ≡ newline ++ rest
  pub long : newline_len s ≡ length newline

newline_split : (s : List ℕ) → Split s
unfolding newline_len
newline_split [] = record { newline = []; rest = []; opt = absent; text = refl; long = refl }
newline_split (b ∷ s) = by_tests_lem (eqb b 10) (eqb b 13) refl refl s
  where
    by_tests_lem : (is-lf is-cr : Bool) → eqb b 10 ≡ is-lf → eqb b 13 ≡ is-cr → (s : List ℕ) → Split (b ∷ s)
    by_tests_lem true is-cr lf cr s =
        record { newline = 10 ∷ []; rest = s; opt = present x0A; text = rw (eqb-true b 10 lf); long = rw lf }
    by_tests_lem false false lf cr s = record { newline = []; rest = b ∷ s; opt = absent; text = refl; long = rw (lf, cr) }
    by_tests_lem false true lf cr [] = record { newline = []; rest = b ∷ []; opt = absent; text = refl; long = rw (lf, cr) }
    by_tests_lem false true lf cr (c ∷ s) = by_next (eqb c 10) refl
      where
        by_next : (is-next : Bool) → eqb c 10 ≡ is-next → Split (b ∷ (c ∷ s))
        by_next true next =
            record {
              newline = 13 ∷ (10 ∷ []);
              rest = s;
              opt = present x0D-0A;
              text = rw (eqb-true b 13 cr, eqb-true c 10 next);
              long = rw (lf, cr, next);
            }
        by_next false next = record { newline = []; rest = b ∷ (c ∷ s); opt = absent; text = refl; long = rw (lf, cr, next) }

pub newline_ascii : {n : List ℕ} → Newline n → AllAscii n
newline_ascii x0A = (omega arith, tt)
newline_ascii x0D-0A = (omega arith, (omega arith, tt))

option_ascii : {n : List ℕ} → OptNewline n → AllAscii n
option_ascii absent = tt
option_ascii (present l) = newline_ascii l

newline_long : {n : List ℕ} → Newline n → (s : List ℕ) → newline_len (n ++ s) ≡ length n
unfolding newline_len
newline_long x0A s = refl
newline_long x0D-0A s = refl

-- the prose rule's test fails exactly where the decoder's count is 0
starts_len : (s : List ℕ) → (starts_newline s ≡ false) ↔ (newline_len s ≡ 0)
unfolding starts_newline newline_len
starts_len [] = ((λ none. refl), λ none. refl)
starts_len (b ∷ []) = by_tests_lem (eqb b 10) (eqb b 13)
  where
    by_tests_lem : (is-lf is_newline : Bool) → (is-lf ≡ false) ↔ ◌≡◌ {A = ℕ} (cond is-lf 1 (cond (is_newline && false) 2 0)) 0
    by_tests_lem true is_newline = ((λ none. no_true (sym none)), λ none. absurd (omega arith))
    by_tests_lem false true = ((λ none. refl), λ none. refl)
    by_tests_lem false false = ((λ none. refl), λ none. refl)
starts_len (b ∷ (c ∷ s)) = by_tests_lem (eqb b 10) (eqb b 13 && eqb c 10)
  where
    by_tests_lem : (is-lf is_newline : Bool) → ((is-lf || is_newline) ≡ false) ↔ ◌≡◌ {A = ℕ} (cond is-lf 1 (cond is_newline 2 0)) 0
    by_tests_lem true is_newline = ((λ none. no_true (sym none)), λ none. absurd (omega arith))
    by_tests_lem false true = ((λ none. no_true (sym none)), λ none. absurd (omega arith))
    by_tests_lem false false = ((λ none. refl), λ none. refl)

-- the decoder's count is the same of code points, and of their bytes with a mark after them
module _ {q : ℕ} (m : Mark q) where
  head_is : (cs r : List ℕ) → stands 0x0A (encodes cs ++ (q ∷ r)) ≡ stands 0x0A cs
  head_is [] r = ne_eqb q 10 (λ e. omega arith)
  head_is (c ∷ cs) r = rw (parts c).whole (first_is c 10 (omega arith))

  pub count_same : (cs r : List ℕ) → newline_len (encodes cs ++ (q ∷ r)) ≡ newline_len cs
  unfolding newline_len
  count_same [] r = rw (ne_eqb q 10 (λ e. omega arith), ne_eqb q 13 (λ e. omega arith))
  count_same (c ∷ cs) r = elim (side c) [
    | ascii size ↦ rw (encode_1 c size, head_is cs r)
    | beyond size ↦
        let char = parts c in
        let high = char.more size in
        rw (
          char.whole,
          ne_eqb char.first 10 (λ e. omega arith),
          ne_eqb char.first 13 (λ e. omega arith),
          ne_eqb c 10 (λ e. omega arith),
          ne_eqb c 13 (λ e. omega arith),
        )
  ]

-- ---- the text

abbrev pub fenced : ℕ → List ℕ → List ℕ → List ℕ
fenced q n m = delim q ++ (n ++ (m ++ delim q))

fenced_long : (q : ℕ) (n m : List ℕ) → length (fenced q n m) ≡ (3 + length n) + length m + 3
fenced_long q n m = rw (length-append n (m ++ delim q), length-append m (delim q)) (omega arith)

pub encodes_fenced : {q : ℕ} → Mark q → {n : List ℕ} → OptNewline n → (s : List ℕ)
    → encodes (fenced q n s) ≡ fenced q n (encodes s)
encodes_fenced {q} m {n} opening s =
    let low : q < 0x80 = m.low in
    encodes_ascii (delim q ++ n) (s ++ delim q) (low, (low, (low, option_ascii opening)))
    ∙ ap (λ x. delim q ++ (n ++ x)) (encodes_append s (delim q) ∙ rw (encode_1 q low))

-- the ends of the text t, whose body starts at a
abbrev fenced_ends_at : ℕ → List ℕ → Ends
fenced_ends_at a t = record { opened = true; closed = true; start = a; end = length t - 3 }

module _ (trims : Bool) (q : ℕ) where
  ml_at : (n m : List ℕ) → newline_len (n ++ (m ++ delim q)) ≡ length n
      → fenced_ends_at (3 + length n) (fenced q n m) ≡ ml_ends trims q (fenced q n m)
  ml_at n m newline =
      let t = fenced q n m in
      let lengths = fenced_long q n m in
      let split : t ≡ (delim q ++ (n ++ m)) ++ delim q = ap (λ x. delim q ++ x) (sym (append_assoc n m (delim q))) in
      let end = length t - 3 in
      let last : drop end t ≡ delim q =
      ap (drop end) split ∙ drop_at (delim q ++ (n ++ m)) (delim q) end (omega (arith, length-append n m)) in
      let shut : triple q (drop end t) ≡ true = ap (triple q) last ∙ triple_yes q [] in
      ml_is trims q t true true (3 + length n) end (sym (triple_yes q (n ++ (m ++ delim q))))
      (ap (λ (i : ℕ). 3 + i) (sym newline) ∙ start_open t)
      (sym shut ∙ closed_is q (3 + length n) t (omega arith)) (end_closed q (3 + length n) t trims)

  -- the parts of a text that has both its marks
  record Fenced (t : List ℕ) : Type 0 where
    newline : List ℕ
    body : List ℕ
    opt : OptNewline newline
    text : t ≡ fenced q newline body
    long : newline_len (newline ++ (body ++ delim q)) ≡ length newline

  ml_inv : (t : List ℕ) → (ml_ends trims q t).opened ≡ true → (ml_ends trims q t).closed ≡ true → Fenced t
  unfolding ml_ends ml_start ml_closed
  ml_inv t opened closed =
      let front = triple_inv q t opened in
      by_front front.0 front.1 (rw opened at closed)
    where
      split_there : (s : List ℕ) → t ≡ q ∷ (q ∷ (q ∷ s)) → (line : Split s) → (3 + length line.newline) + 3 ≤ length t
          → (r : List ℕ) × (drop (length t - 3) t ≡ q ∷ (q ∷ (q ∷ r))) → Fenced t
      split_there s text line long (r, last) =
          let front : List ℕ = delim q ++ line.newline in
          let start = length line.rest - 3 in
          let whole : t ≡ front ++ line.rest = text ∙ ap (λ x. delim q ++ x) line.text in
          let lengths : length t ≡ length front + length line.rest = ap length whole ∙ length-append front line.rest in
          let last_of : drop (length t - 3) t ≡ drop start line.rest =
          ap (λ (i : ℕ). drop i t) (let place : length t - 3 ≡ length front + start = omega arith in place)
          ∙ (sym (drop-drop start (length front) t)
          ∙ ap (drop start) (ap (drop (length front)) whole ∙ drop_at front line.rest (length front) refl)) in
          let last_is : drop start line.rest ≡ q ∷ (q ∷ (q ∷ r)) = sym last_of ∙ last in
          let nothing : r ≡ [] = nil r (omega (arith, length-drop start line.rest, ap length last_is)) in
          let body = take start line.rest in
          let closing : drop start line.rest ≡ delim q = last_is ∙ ap (λ x. delim q ++ x) nothing in
          let rest_is : line.rest ≡ body ++ delim q =
          sym (take-append-drop start line.rest) ∙ ap (λ x. body ++ x) closing in
          let inner : s ≡ line.newline ++ (body ++ delim q) = line.text ∙ ap (λ x. line.newline ++ x) rest_is in
          record {
            newline = line.newline;
            body = body;
            opt = line.opt;
            text = text ∙ ap (λ x. delim q ++ x) inner;
            long = ap newline_len (sym inner) ∙ line.long;
          }

      -- the text is long enough for both triples and the newline
      roomy : Bool
      roomy = leb ((3 + newline_len (drop 3 t)) + 3) (length t)

      by_front : (s : List ℕ) → t ≡ q ∷ (q ∷ (q ∷ s)) → (roomy && triple q (drop (length t - 3) t)) ≡ true → Fenced t
      by_front s text closed =
          let line = newline_split s in
          let newline : newline_len (drop 3 t) ≡ length line.newline = ap (λ y. newline_len (drop 3 y)) text ∙ line.long in
          let long = leb-true ((3 + newline_len (drop 3 t)) + 3) (length t) (both_left roomy _ closed) in
          split_there s text line (omega arith) (triple_inv q (drop (length t - 3) t) (both_right roomy _ closed))

  fenced_body : (n m : List ℕ) → body_of (fenced_ends_at (3 + length n) (fenced q n m)) (fenced q n m) ≡ m
  fenced_body n m =
      let lengths = fenced_long q n m in
      let long = length (fenced q n m) - 3 - (3 + length n) in
      ap (take long) (drop_at (delim q ++ n) (m ++ delim q) (3 + length n) (omega arith)) ∙ take_at m (delim q) long (omega arith)

-- ---- from the decoder of a body to the decoder of a text

-- texts of the encoding e stand between triple marks q; `trims`: where the closing is missing, marks at the end are no body
pub record Fences (trims : Bool) (e : Encoding) (q : ℕ) : Type 0 where
  pub mark : Mark q
  pub ends : (t : List ℕ) → ends_of e t ≡ ml_ends trims q t

module _ {trims : Bool} {e : Encoding} {q : ℕ} (fences : Fences trims e q) where
  -- n is the whole newline at the front of n and b joined
  abbrev Whole : List ℕ → List ℕ → Type 0
  Whole n b = newline_len (n ++ b) ≡ length n

  whole_bytes : {n : List ℕ} → OptNewline n → (b : List ℕ) → newline_len (n ++ (encodes b ++ delim q)) ≡ newline_len (n ++ b)
  whole_bytes {n} opening b =
      let text : n ++ (encodes b ++ delim q) ≡ encodes (n ++ b) ++ delim q =
      sym (append_assoc n (encodes b) (delim q)) ∙ ap (λ x. x ++ delim q) (sym (encodes_ascii n b (option_ascii opening))) in
      ap newline_len text ∙ count_same fences.mark (n ++ b) (q ∷ (q ∷ []))

  fenced_ends : {n : List ℕ} → OptNewline n → (b : List ℕ) → Whole n b
      → fenced_ends_at (3 + length n) (fenced q n (encodes b)) ≡ ends_of e (fenced q n (encodes b))
  fenced_ends {n} opening b whole =
      ml_at trims q n (encodes b) (whole_bytes opening b ∙ whole) ∙ sym (fences.ends (fenced q n (encodes b)))

  errors_of_lem : {n : List ℕ} → OptNewline n → (b : List ℕ) → Whole n b
      → errors_of e (encodes (fenced q n b)) ≡ collect (piece_of e) notes_at 0 false (3 + length n) (encodes b)
  errors_of_lem {n} opening b whole =
      let t = fenced q n (encodes b) in
      ap (errors_of e) (encodes_fenced fences.mark opening b)
      ∙ (errors_is e t (fenced_ends_at (3 + length n) t) (fenced_ends opening b whole) (mark_error e) refl
      ∙ ap (collect (piece_of e) notes_at 0 false (3 + length n)) (fenced_body trims q n (encodes b)))

  bytes_of_lem : {n : List ℕ} → OptNewline n → (b : List ℕ) → Whole n b
      → bytes_of e (encodes (fenced q n b)) ≡ collect (piece_of e) gives 0 false (3 + length n) (encodes b)
  bytes_of_lem {n} opening b whole =
      let t = fenced q n (encodes b) in
      ap (bytes_of e) (encodes_fenced fences.mark opening b)
      ∙ (bytes_is e t (fenced_ends_at (3 + length n) t) (fenced_ends opening b whole)
      ∙ ap (collect (piece_of e) gives 0 false (3 + length n)) (fenced_body trims q n (encodes b)))

  trimmed_whole : {n : List ℕ} (o : OptNewline n) (b : List ℕ) → Trimmed o b → Whole n b
  trimmed_whole absent b trimmed = (starts_len b).0 trimmed
  trimmed_whole (present line) b trimmed = newline_long line b

  whole_trimmed : {n : List ℕ} (o : OptNewline n) (b : List ℕ) → Whole n b → Trimmed o b
  whole_trimmed absent b whole = (starts_len b).1 whole
  whole_trimmed (present line) b whole = tt

  -- the bytes are the body's, where the newline after the opening is dropped
  pub ml_bytes : {n : List ℕ} (opening : OptNewline n) (b : List ℕ) → Trimmed opening b
      → bytes_of e (encodes (fenced q n b)) ≡ collect (piece_of e) gives 0 false (3 + length n) (encodes b)
  ml_bytes opening b trimmed = bytes_of_lem opening b (trimmed_whole opening b trimmed)

  module _ (reads : ReadsNewlines (piece_of e)) where
    option_reads : {n : List ℕ} → OptNewline n → (at : ℕ) (s : List ℕ) → Reads (piece_of e) false at (n ++ s) n false s
    option_reads absent at s = reads_none (piece_of e) false at s
    option_reads {n} (present l) at s = reads n l at s

    -- where the derivation leaves the first newline to the body b, the errors are those of b all the same
    kept_errors : (b : List ℕ) → errors_of e (encodes (fenced q [] b)) ≡ collect (piece_of e) notes_at 0 false 3 (encodes b)
    kept_errors b =
        let line = newline_split b in
        let n = line.newline in
        let r = encodes line.rest in
        let text : fenced q [] b ≡ fenced q n line.rest =
        ap (λ x. delim q ++ x) (ap (λ x. x ++ delim q) line.text ∙ append_assoc n line.rest (delim q)) in
        let bytes : encodes b ≡ n ++ r = ap encodes line.text ∙ encodes_ascii n line.rest (option_ascii line.opt) in
        let reading = option_reads line.opt 3 r in
        let to : reading.to ≡ 3 + length n = omega (arith, reading.place, length-append n r) in
        ap (λ x. errors_of e (encodes x)) text
        ∙ (errors_of_lem line.opt line.rest (ap newline_len (sym line.text) ∙ line.long)
        ∙ (ap (λ (i : ℕ). collect (piece_of e) notes_at 0 false i r) (sym to)
        ∙ (sym reading.quiet ∙ ap (collect (piece_of e) notes_at 0 false 3) (sym bytes))))

    -- a text whose body is read without error has no error
    pub ml_no_error : {n : List ℕ} → OptNewline n → (b : List ℕ) → ((at : ℕ) → ErrorFree (piece_of e) false at (encodes b))
        → errors_of e (encodes (fenced q n b)) ≡ []
    ml_no_error {n} (present line) b clean = errors_of_lem (present line) b (newline_long line b) ∙ clean (3 + length n)
    ml_no_error absent b clean = kept_errors b ∙ clean 3

  -- a text without error has a body without error
  pub record MlText (cs : List ℕ) : Type 0 where
    pub newline : List ℕ
    pub body : List ℕ
    pub opt : OptNewline newline
    pub trimmed : Trimmed opt body
    pub text : cs ≡ fenced q newline body
    pub each : All Scalar body
    pub at : ℕ
    pub clean : ErrorFree (piece_of e) false at (encodes body)

  pub ml_text : (cs : List ℕ) → All Scalar cs → errors_of e (encodes cs) ≡ [] → MlText cs
  ml_text cs scalars clean =
      let marks = both_marks e (encodes cs) clean in
      let parts =
      ml_inv trims q (encodes cs) (rw (fences.ends (encodes cs)) at marks.0) (rw (fences.ends (encodes cs)) at marks.1) in
      let low : q < 0x80 = fences.mark.low in
      let before : AllAscii (delim q ++ parts.newline) = (low, (low, (low, option_ascii parts.opt))) in
      let inside =
      between (delim q ++ parts.newline) (delim q) cs parts.body before (low, (low, (low, tt))) scalars parts.text in
      let whole : Whole parts.newline inside.inner =
      sym (whole_bytes parts.opt inside.inner)
      ∙ (ap (λ x. newline_len (parts.newline ++ (x ++ delim q))) inside.bytes ∙ parts.long) in
      record {
        newline = parts.newline;
        body = inside.inner;
        opt = parts.opt;
        trimmed = whole_trimmed parts.opt inside.inner whole;
        text = inside.text;
        each = inside.each;
        at = 3 + length parts.newline;
        clean =
            sym (errors_of_lem parts.opt inside.inner whole) ∙ (ap (λ x. errors_of e (encodes x)) (sym inside.text) ∙ clean);
      }

-- ---- the lexer

-- the multi-line token at the front of t and `rest` joined is as long as t
abbrev pub MlToken : ℕ → List ℕ → List ℕ → Type 0
MlToken q t rest = suc (suc (suc (ml_tail q false (drop 3 (t ++ rest))))) ≡ length t

module _ {q : ℕ} (m : Mark q) where
  option_in : {n : List ℕ} → OptNewline n → All (InMl q) n
  option_in absent = tt
  option_in (present l) = newline_in m l

  module _ {n : List ℕ} (opening : OptNewline n) (b rest : List ℕ) where
    -- the body, the closing and the rest
    abbrev onward : List ℕ
    onward = encodes b ++ (delim q ++ rest)

    tail_of : ml_tail q false (drop 3 (encodes (fenced q n b) ++ rest)) ≡ length n + ml_tail q false onward
    tail_of =
        let text : (n ++ (encodes b ++ delim q)) ++ rest ≡ n ++ onward =
        append_assoc n (encodes b ++ delim q) rest ∙ ap (λ x. n ++ x) (append_assoc (encodes b) (delim q) rest) in
        ap (λ x. ml_tail q false (drop 3 (x ++ rest))) (encodes_fenced m opening b)
        ∙ (ap (ml_tail q false) text ∙ pass_all (ml_tail q false) (InMl q) (ml_pass m) n (option_in opening) onward)

    long_of : length (encodes (fenced q n b)) ≡ 3 + (length n + (length (encodes b) + 3))
    long_of =
        ap length (encodes_fenced m opening b)
        ∙ rw (length-append n (encodes b ++ delim q), length-append (encodes b) (delim q)) (omega arith)

    -- the token ends with the text exactly where the lexer goes through the body and the closing
    pub ml_lexed : MlToken q (encodes (fenced q n b)) rest ↔ (ml_tail q false onward ≡ length (encodes b) + 3)
    ml_lexed = ((λ token. omega (arith, tail_of, long_of)), λ token. omega (arith, tail_of, long_of))
