-- Multi-line literal strings: the decoder's pieces, the lexer's extent and the grammar.
use Prim.Native.Nat.{ℕ, ◌+◌, ◌≤◌, ◌<◌}
use mathlib.Core.Path.{◌≡◌, refl, sym, ◌∙◌, ap, subst}
use mathlib.Core.Logic.{◌⊎◌, inl, inr}
use mathlib.Core.Bool.{true, false}
use mathlib.Core.List.{List, [], ◌∷◌, ◌++◌, append_assoc, append-nil}
use native.Mathlib.Omega.{arith}
use lib.ListN.{length, get_or}
use lib.Dec.{eqb}
use borrow.Author.Tests.{eqb-true}
use Rattle.text_classes.specs.Classes.{mll_char}
use Rattle.text_classes.specs.Runs.{run}
use Rattle.text_classes.proofs.Conds.{cond_case, by_eq, or_left, or_inv}
use Rattle.text_scalars.specs.Utf8.{Scalar, encode_scalar, encodes, All}
use Rattle.text_scalars.proofs.EncodeLaws.{encode_1}
use Rattle.text_scalars.proofs.ReadLaws.{encodes_append}
use Rattle.decoder_rules.specs.declared.Encoding.TheVariants.{MlLiteralString as MlLiteralText}
use Rattle.decoder_rules.specs.Encodings.{mll_plain}
use Rattle.std.specs.Prelude.{None}
use Rattle.decoder_rules.specs.Pieces.{Pieces, copy_piece}
use Rattle.decoder_rules.specs.Bodies.{ml_literal_piece, piece_of}
use Rattle.decoder_rules.specs.Decoding.{bytes_of, errors_of}
use Rattle.decoder_rules.proofs.PieceLaws.{wrong≢none}
use Rattle.decoder_rules.proofs.PlaceForms.{ml_literal_piece_is}
use Rattle.decoder_rules.proofs.AsciiLaws.{literal_high}
use Rattle.theorems_grammar.specs.Grammar.{x0A, x0D-0A, MllChar, MllContent, character, newline, MllContents, MllContents1, some_content, MllQuotes, one, two, MllGroups, OptMllQuotes, MlLiteralBody, ml_literal_body, MlLiteralString, ml_literal_string}
use Rattle.theorems_tokens.proofs.ByLength.{by_length}
use Rattle.theorems_grammar.specs.Prose.{MlLiteralObeys}
use Rattle.theorems_grammar.specs.Strings.{Apart}
use Rattle.theorems_grammar.proofs.ListLaws.{first_splits}
use Rattle.theorems_grammar.proofs.Encoded.{side, ascii, beyond, ascii_whole, ascii_led}
use Rattle.theorems_grammar.proofs.Reading.{IfClean, CopiesRuns, ErrorFree, Reads, ReadsAs, ReadsChars, ReadsNewlines, reads_none, reads_then, reads_char, reads_plain, reads_copy, first_clean}
use Rattle.theorems_grammar.proofs.ClassLaws.{literal_at, literal_is, mll_literal, mll_same}
use Rattle.theorems_grammar.proofs.Passing.{apostrophes, Seen, seen0, literal_in, newline_in, Through, all_passed}
use Rattle.theorems_grammar.proofs.TripleMarks.{newline_ascii, Fences, ml_bytes, ml_no_error, ml_text, MlToken, ml_lexed}
use Rattle.theorems_grammar.proofs.MlRuns.{Flat, end, mark0, mark1, content, FlatOf, Passes, flat_through, Bodies, flat_body, RunIf, UpTo, mark_first, content_clean}

abbrev pieces : Pieces
pieces = piece_of MlLiteralText

fences : Fences true MlLiteralText 0x27
fences = record { mark = apostrophes; ends = λ t. refl }

-- ---- the pieces, on bytes

plain : CopiesRuns pieces mll_plain
unfolding ml_literal_piece run
plain at b s class = rw class

char_plain : {c : ℕ} → MllChar c → mll_plain c ≡ true
unfolding mll_plain
char_plain {c} class = or_left (mll_char c) _ (mll_same c ∙ literal_at (mll_literal.0 class))

plain_high : (b : ℕ) → 0x80 ≤ b → mll_plain b ≡ true
unfolding mll_plain
plain_high b high = or_left (mll_char b) _ (mll_same b ∙ literal_high b high)

lf_plain : mll_plain 0x0A ≡ true
unfolding mll_plain mll_char
lf_plain = refl

mark_plain : mll_plain 0x27 ≡ true
unfolding mll_plain mll_char
mark_plain = refl

-- a piece without error is of the class, or the CR of a CR LF
abbrev Good : ℕ → List ℕ → Type 0
Good b r = (mll_plain b ≡ true) ⊎ ((b ≡ 0x0D) × (s : List ℕ) × (r ≡ 0x0A ∷ s))

clean : (at b : ℕ) (r : List ℕ) → (pieces false at (b ∷ r)).verdict ≡ None → Good b r
clean at b r =
    rw ml_literal_piece_is
    (cond_case (IfClean (Good b r)) (mll_plain b) (λ test clean-piece. inl test)
    λ test. by_eq (IfClean (Good b r)) b 0x0D
    (λ is-cr. by_eq (IfClean (Good b r)) (get_or r 0 0) 0x0A
    (λ lf clean-piece. let split = first_splits r 0x0A (omega arith) lf in inr (is-cr, split.0, split.1))
    (λ lf clean-piece. absurd (wrong≢none clean-piece)))
    (λ is-cr clean-piece. absurd (wrong≢none clean-piece)))

char_reads : ReadsChars pieces mll_plain
char_reads = reads_char pieces mll_plain plain plain_high

cr_piece : (at : ℕ) (s : List ℕ) → pieces false at (0x0D ∷ (0x0A ∷ s)) ≡ copy_piece 1
unfolding ml_literal_piece mll_plain mll_char
cr_piece at s = refl

newline_reads : ReadsNewlines pieces
newline_reads n x0A at s = reads_plain pieces mll_plain plain at 0x0A s lf_plain
newline_reads n x0D-0A at s =
    let first = reads_copy pieces false at (0x0D ∷ []) (0x0A ∷ s) (cr_piece at s) (omega arith) in
    reads_then pieces first (reads_plain pieces mll_plain plain first.to 0x0A s lf_plain)

-- ---- contents: read as they are, and passed by the lexer

-- a content's value is its text
data Copied : List ℕ → List ℕ → List ℕ → Type 0 where
  copied : {t r : List ℕ} → MllContent t → Copied t t r

content_reads : {t w r : List ℕ} → Copied t w r → (at : ℕ) (s : List ℕ)
    → Reads pieces false at (encodes t ++ s) (encodes w) false s
content_reads (copied (character {c} class)) at s = rw (append-nil (encode_scalar c)) (char_reads c at s (char_plain class))
content_reads (copied (newline {t} line)) at s = rw (ascii_whole t (newline_ascii line)) (newline_reads t line at s)

content_passed : Passes 0x27 Copied
content_passed k t w r (copied (character class)) =
    all_passed apostrophes k t (omega arith) ((literal_in (mll_literal.0 class)).0, tt)
content_passed k t w r (copied (newline x0A)) = all_passed apostrophes k t (omega arith) (newline_in apostrophes x0A)
content_passed k t w r (copied (newline x0D-0A)) = all_passed apostrophes k t (omega arith) (newline_in apostrophes x0D-0A)

-- ---- from the grammar to a run

abbrev Run : Seen → List ℕ → List ℕ → Type 0
Run = Flat 0x27 Copied

contents_run : {t : List ℕ} → MllContents t → (f v : List ℕ) → Run seen0 f v → Run seen0 (t ++ f) (t ++ v)
contents_run MllContents.stop f v run = run
contents_run (MllContents.more {t} {r = more} c rest) f v r =
    rw (append_assoc t more f, append_assoc t more v) (content (copied c) (contents_run rest f v r))

contents1_run : {t : List ℕ} → MllContents1 t → (k : Seen) (f v : List ℕ) → Run seen0 f v → Run k (t ++ f) (t ++ v)
contents1_run (some_content {t} {r = more} c rest) k f v r =
    rw (append_assoc t more f, append_assoc t more v) (content (copied c) (contents_run rest f v r))

quotes_run : {q t v : List ℕ} → MllQuotes q → ((k : Seen) → Run k t v) → Run seen0 (q ++ t) (q ++ v)
quotes_run one run = mark0 (run Seen.seen1)
quotes_run two run = mark0 (mark1 (run Seen.seen2))

groups_run : {t : List ℕ} → MllGroups t → (f v : List ℕ) → Run seen0 f v → Run seen0 (t ++ f) (t ++ v)
groups_run MllGroups.stop f v run = run
groups_run (MllGroups.more {q} {t} {r = more} qs c gs) f v r =
    rw (append_assoc q (t ++ more) f, append_assoc t more f, append_assoc q (t ++ more) v, append_assoc t more v)
    (quotes_run qs (λ k. contents1_run c k (more ++ f) (more ++ v) (groups_run gs f v r)))

option_run : {q : List ℕ} → OptMllQuotes q → Run seen0 q q
option_run OptMllQuotes.absent = end
option_run (OptMllQuotes.present one) = mark0 end
option_run (OptMllQuotes.present two) = mark0 (mark1 end)

body_run : {b : List ℕ} → MlLiteralBody b → Run seen0 b b
body_run (ml_literal_body {a} {g} {q} cs gs o) = contents_run cs (g ++ q) (g ++ q) (groups_run gs q q (option_run o))

-- ---- from a run to the grammar: what may follow marks is nothing, or contents

data Cont : List ℕ → List ℕ → Type 0 where
  nothing : Cont [] []
  run_on : {t g q v : List ℕ} → MllContents1 t → MllGroups g → OptMllQuotes q → Cont (t ++ (g ++ q)) v

quotes_body : {p t v : List ℕ} → MllQuotes p → Cont t v → MlLiteralBody (p ++ t)
quotes_body {p} quotes nothing = rw (append-nil p) (ml_literal_body MllContents.stop MllGroups.stop (OptMllQuotes.present quotes))
quotes_body {p} quotes (run_on {t} {g} {q} c gs o) =
    rw (← append_assoc t g q, ← append_assoc p (t ++ g) q) (ml_literal_body MllContents.stop (MllGroups.more quotes c gs) o)

content_cont : (t w r v : List ℕ) → Copied t w r → MlLiteralBody r → Cont (t ++ r) (w ++ v)
content_cont t w r v (copied c) (ml_literal_body {a} {g} {q} cs gs o) =
    rw (← append_assoc t a (g ++ q)) (run_on {v = t ++ v} (some_content c cs) gs o)

content_body : (t w r v : List ℕ) → Copied t w r → MlLiteralBody r → MlLiteralBody (t ++ r)
content_body t w r v (copied c) (ml_literal_body {a} {g} {q} cs gs o) =
    rw (← append_assoc t a (g ++ q)) (ml_literal_body (MllContents.more c cs) gs o)

bodies : Bodies 0x27 Copied (λ t v. MlLiteralBody t) Cont
bodies =
    record {
      no_body = ml_literal_body MllContents.stop MllGroups.stop OptMllQuotes.absent;
      no_cont = nothing;
      one_mark = λ t v c. quotes_body one c;
      two_marks = λ t v c. quotes_body two c;
      put_body = content_body;
      put_cont = content_cont;
    }

run_body : {t : List ℕ} → FlatOf 0x27 Copied seen0 t → MlLiteralBody t
run_body (v, run) = flat_body 0x27 Copied (λ t v. MlLiteralBody t) Cont bodies run

-- ---- from the decoder to a run

module _ (rest : List ℕ) where
  module _ (n : ℕ) (shorter : UpTo pieces 0x27 Copied rest n) (c : ℕ) (cs : List ℕ) (few : length cs ≤ n)
      (scalars : All Scalar (c ∷ cs))
      (k : Seen) (at : ℕ) (clean-text : ErrorFree pieces false at (encodes (c ∷ cs)))
      (through : Through 0x27 rest k (c ∷ cs)) where
    -- the content t comes first
    content_front : (t ds : List ℕ) → MllContent t → c ∷ cs ≡ t ++ ds → 0 < length t → FlatOf 0x27 Copied k (c ∷ cs)
    content_front t ds first split some =
        content_clean pieces 0x27 Copied rest n shorter (c ∷ cs) t t ds k at (copied first)
        (content_reads {r = ds} (copied first) at (encodes ds))
        (content_passed k t t ds (copied first)) split some (omega arith) scalars clean-text through

    mark_front : c ≡ 0x27 → FlatOf 0x27 Copied k (c ∷ cs)
    mark_front is_mark =
        let reading = char_reads c at (encodes cs) (ap mll_plain is_mark ∙ mark_plain) in
        mark_first pieces 0x27 Copied rest apostrophes c cs is_mark (shorter cs few) scalars.1 k at reading clean-text through

    plain_clean : mll_plain c ≡ true → FlatOf 0x27 Copied k (c ∷ cs)
    unfolding mll_plain
    plain_clean plain =
        or_inv (mll_char c) _ plain
        (λ test.
        let char = mll_literal.1 (literal_is c scalars.0 (sym (mll_same c) ∙ test)) in
        content_front (c ∷ []) cs (character char) refl (omega arith))
        (λ test. or_inv (eqb c 0x27) (eqb c 0x0A) test (λ char. mark_front (eqb-true c 0x27 char))
        (λ char. content_front (0x0A ∷ []) cs (newline x0A) (ap (λ y. y ∷ cs) (eqb-true c 0x0A char)) (omega arith)))

    ascii_clean : c < 0x80 → FlatOf 0x27 Copied k (c ∷ cs)
    ascii_clean size =
        let clean-bytes : ErrorFree pieces false at (c ∷ encodes cs) = rw (encode_1 c size) at clean-text in
        elim (clean at c (encodes cs) (first_clean pieces false at c (encodes cs) clean-bytes)) [
          | inl plain ↦ plain_clean plain
          | inr crlf ↦
              let led = ascii_led (0x0A ∷ []) cs crlf.1 (omega arith, tt) crlf.2 in
              let text : c ∷ cs ≡ 0x0D ∷ (0x0A ∷ led.rest) = ap (λ y. y ∷ cs) crlf.0 ∙ ap (0x0D ∷◌) led.text in
              content_front (0x0D ∷ (0x0A ∷ [])) led.rest (newline x0D-0A) text (omega arith)
        ]

    some_clean : FlatOf 0x27 Copied k (c ∷ cs)
    some_clean = elim (side c) [ ascii size ↦ ascii_clean size | beyond size ↦ plain_clean (plain_high c size) ]

  chars_clean : (cs : List ℕ) → RunIf pieces 0x27 Copied rest cs
  chars_clean cs =
      by_length (RunIf pieces 0x27 Copied rest) (λ scalars k at clean-text through. ([], end)) some_clean (length cs) cs
      (omega arith)

-- ---- the text

run_reads : {k : Seen} {t v : List ℕ} → Run k t v → ReadsAs pieces t v
run_reads end at = reads_none pieces false at []
run_reads (mark0 {t} run) at =
    let first = char_reads 0x27 at (encodes t) mark_plain in
    reads_then pieces first (run_reads run first.to)
run_reads (mark1 {t} run) at =
    let first = char_reads 0x27 at (encodes t) mark_plain in
    reads_then pieces first (run_reads run first.to)
run_reads (content {t = t} {r} {w} {v} c run) at =
    let first = content_reads c at (encodes r) in
    rw (encodes_append t r, encodes_append w v) (reads_then pieces first (run_reads run first.to))

-- a derived text has no error, and its bytes are its value's
pub ml_literal_complete : {cs v : List ℕ} (body : MlLiteralString cs v)
    → (errors_of MlLiteralText (encodes cs) ≡ []) × (MlLiteralObeys body → bytes_of MlLiteralText (encodes cs) ≡ encodes v)
ml_literal_complete (ml_literal_string {n} {b} opening body) =
    let reads = run_reads (body_run body) in (
      ml_no_error fences newline_reads opening b (λ at. (reads at).quiet),
      λ trimmed. ml_bytes fences opening b trimmed ∙ ((reads (3 + length n)).bytes ∙ append-nil (encodes b)),
    )

-- a token without error is derived
abbrev Meant : List ℕ → Type 0
Meant cs = (v : List ℕ) × (d : MlLiteralString cs v) × MlLiteralObeys d

pub ml_literal_sound : (cs rest : List ℕ) → All Scalar cs → MlToken 0x27 (encodes cs) rest
    → errors_of MlLiteralText (encodes cs) ≡ [] → Meant cs
ml_literal_sound cs rest scalars token clean-text =
    let parts = ml_text fences cs scalars clean-text in
    let through =
    (ml_lexed apostrophes parts.opt parts.body rest).0 (subst (λ y. MlToken 0x27 (encodes y) rest) parts.text token) in
    let run = chars_clean rest parts.body parts.each seen0 parts.at parts.clean (omega arith) in
    subst Meant (sym parts.text) (parts.body, ml_literal_string parts.opt (run_body run), parts.trimmed)

-- a derived text is one token
pub ml_literal_lexed : {cs v : List ℕ} → MlLiteralString cs v → (rest : List ℕ) → Apart 0x27 rest → MlToken 0x27 (encodes cs) rest
ml_literal_lexed (ml_literal_string {n} {b} opening body) rest apart =
    (ml_lexed apostrophes opening b rest).1
    (let through = flat_through apostrophes content_passed (body_run body) rest apart in omega arith)
