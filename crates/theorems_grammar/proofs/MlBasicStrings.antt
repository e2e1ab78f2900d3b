-- Multi-line basic strings: the decoder's pieces, the lexer's extent and the grammar. A derivation that keeps blanks after
-- a line-ending backslash is read without error too, though not to its value: so reading without error is proved both within
-- such an escape and outside it.
use Prim.Native.Nat.{ℕ, suc, ◌+◌, ◌≤◌, ◌<◌}
use mathlib.Core.Path.{◌≡◌, refl, sym, ◌∙◌, ap, subst}
use mathlib.Core.Logic.{◌⊎◌, inl, inr}
use mathlib.Core.Bool.{Bool, true, false, ◌||◌}
use mathlib.Core.List.{List, [], ◌∷◌, ◌++◌, append_assoc, append-nil}
use native.Mathlib.Omega.{arith}
use lib.ListN.{length, length-append}
use lib.Dec.{eqb}
use borrow.Author.Tests.{eqb-true}
use Rattle.text_classes.specs.Classes.{wschar, mlb_unescaped}
use Rattle.text_scalars.specs.Utf8.{Scalar, encode_scalar, encodes, All}
use Rattle.text_scalars.proofs.EncodeLaws.{encode_1}
use Rattle.text_scalars.proofs.ReadLaws.{encodes_append}
use Rattle.text_scalars.proofs.CutLaws.{all_append, all_parts}
use Rattle.decoder_rules.specs.declared.Edition.{Edition}
use Rattle.decoder_rules.specs.declared.Encoding.TheVariants.{MlBasicString as MlBasicText}
use Rattle.decoder_rules.specs.Encodings.{mlb_plain}
use Rattle.decoder_rules.specs.Pieces.{gives, notes_at, collect}
use Rattle.decoder_rules.specs.Bodies.{skips}
use Rattle.decoder_rules.specs.Decoding.{bytes_of, errors_of}
use Rattle.decoder_rules.proofs.AsciiLaws.{mlb_high}
use Rattle.lexer_scans.specs.Extents.{ml_tail}
use Rattle.theorems_tokens.proofs.ByLength.{by_length}
use Rattle.theorems_grammar.specs.Grammar.{Wschar, x20, x09, Newline, x0A, x0D-0A, OptNewline, EscapeSeqChar, escaped, Ws, MlbUnescaped, MlbChar, unescaped, escaped_char, WscharNewline, WscharNewlines, mlb_escaped_nl, MlbContent, mlb_char, newline, escaped_nl, MlBasicString, ml_basic_string}
use Rattle.theorems_grammar.specs.Scalars.{ContentNames, MlBasicNames}
use Rattle.theorems_grammar.specs.Prose.{starts_newline, starts_blank, Trimmed, Drops, MlBasicObeys}
use Rattle.theorems_grammar.specs.Strings.{Apart}
use Rattle.theorems_grammar.proofs.ListLaws.{all_weaken}
use Rattle.theorems_grammar.proofs.Encoded.{side, ascii, beyond, AllAscii, ascii_whole, ascii_led}
use Rattle.theorems_grammar.proofs.Reading.{ErrorFree, Reads, reads_none, reads_then, first_clean}
use Rattle.text_classes.proofs.Conds.{or_inv}
use Rattle.theorems_grammar.proofs.ClassLaws.{no_true, basic_is, mlb_basic, mlb_same, non_ascii_high}
use Rattle.theorems_grammar.proofs.Escapes.{shape, escape_ascii, escape_reads}
use Rattle.theorems_grammar.proofs.Passing.{quotation, Seen, seen0, InMl, in_ml, newline_in, basic_in, digit_in, Passed, Through, pass_all, ml_pass, marks_pass, ml_hidden, all_passed, through_rest}
use Rattle.theorems_grammar.proofs.TripleMarks.{fenced, newline_ascii, Fences, ml_bytes, ml_no_error, ml_text, MlToken, ml_lexed}
use Rattle.theorems_grammar.proofs.MlRuns.{end, mark0, mark1, content, FlatOf, put, Passes, flat_through, RunIf, UpTo, mark_first, left_clean, left_small, content_clean}
use Rattle.theorems_grammar.proofs.MlBasicPieces.{pieces, char_plain, mark_plain, char_reads, newline_reads, visible_out, escape_piece_lem, line_reads, skip_some, skip_reads, out_reads, char_out, Ended, Content, is_plain, is_crlf, is_escape, is_ended, content_inv, Skipped, is_out, is_one, is_two, skip_inv}
use Rattle.theorems_grammar.proofs.MlBasicRuns.{Kept, kept, Run, body_run, MeantBody, meant, run_body}

-- ---- blanks and newlines

abbrev Space : ℕ → Type 0
Space c = c < 0x21

wschar_space : {c : ℕ} → Wschar c → Space c
wschar_space x20 = omega arith
wschar_space x09 = omega arith

newline_space : {n : List ℕ} → Newline n → All Space n
newline_space x0A = (omega arith, tt)
newline_space x0D-0A = (omega arith, (omega arith, tt))

ws_space : {w : List ℕ} → Ws w → All Space w
ws_space Ws.stop = tt
ws_space (Ws.more x w) = (wschar_space x, ws_space w)

skip_space : {t : List ℕ} → WscharNewline t → All Space t
skip_space (WscharNewline.wschar w) = (wschar_space w, tt)
skip_space (WscharNewline.newline n) = newline_space n

skips_space : {t : List ℕ} → WscharNewlines t → All Space t
skips_space WscharNewlines.stop = tt
skips_space (WscharNewlines.more {t} {r} w ws) = all_append Space t r (skip_space w) (skips_space ws)

line_space : {w n : List ℕ} → Ws w → Newline n → All Space (w ++ n)
line_space {w} {n} blanks line = all_append Space w n (ws_space blanks) (newline_space line)

escaped_space : {w n r : List ℕ} → Ws w → Newline n → WscharNewlines r → All Space (w ++ (n ++ r))
escaped_space {w} {n} {r} blanks line skipped =
    all_append Space w (n ++ r) (ws_space blanks) (all_append Space n r (newline_space line) (skips_space skipped))

space_ascii : (t : List ℕ) → All Space t → AllAscii t
space_ascii t spaces = all_weaken (λ c space. let low : c < 0x80 = omega arith in low) t spaces

ascii_text : (t s : List ℕ) → AllAscii t → encodes t ++ s ≡ t ++ s
ascii_text t s h = ap (λ x. x ++ s) (ascii_whole t h)

slash_text : (t s : List ℕ) → AllAscii t → encodes (0x5C ∷ t) ++ s ≡ (0x5C ∷ t) ++ s
slash_text t s h = ascii_text (0x5C ∷ t) s (omega arith, h)

-- in one edition of TOML
module _ (ed : Edition) where
  fences : Fences false (MlBasicText ed) 0x22
  fences = record { mark = quotation; ends = λ t. refl }

  -- ---- from the grammar: what a content reads

  -- whether what follows is within a line-ending escape
  after : {t w : List ℕ} → MlbContent ed t w → Bool
  after (mlb_char c) = false
  after (newline n) = false
  after (escaped_nl e) = true

  skips_read : {r : List ℕ} → WscharNewlines r → (at : ℕ) (s : List ℕ) → Reads (pieces ed) true at (r ++ s) [] true s
  skips_read WscharNewlines.stop at s = reads_none (pieces ed) true at s
  skips_read (WscharNewlines.more {t} {r} skip others) at s =
      let first = skip_reads ed skip at (r ++ s) in
      rw (append_assoc t r s) (reads_then (pieces ed) first (skips_read others first.to s))

  escaped_reads : {w n r : List ℕ} → Ws w → Newline n → WscharNewlines r → (at : ℕ) (s : List ℕ)
      → Reads (pieces ed) false at ((0x5C ∷ (w ++ (n ++ r))) ++ s) [] true s
  escaped_reads {w} {n} {r} blanks line skipped at s =
      let first = line_reads ed blanks line at (r ++ s) in
      rw (← append_assoc w n r, append_assoc (w ++ n) r s) (reads_then (pieces ed) first (skips_read skipped first.to s))

  -- outside a line-ending escape
  content_reads : {t w : List ℕ} (c : MlbContent ed t w) → ContentNames c → (at : ℕ) (s : List ℕ)
      → Reads (pieces ed) false at (encodes t ++ s) (encodes w) (after c) s
  unfolding after
  content_reads (mlb_char (unescaped {c} class)) names at s =
      rw (append-nil (encode_scalar c)) (char_reads ed c at s (char_plain class))
  content_reads (mlb_char (escaped_char (escaped {t} {v} char))) names at s =
      rw (slash_text t s (escape_ascii char), append-nil (encode_scalar v))
      (escape_reads (pieces ed) char names at s (escape_piece_lem ed char at s))
  content_reads (newline {t} line) names at s = rw (ascii_whole t (newline_ascii line)) (newline_reads ed t line at s)
  content_reads (escaped_nl (mlb_escaped_nl {w} {n} {r} blanks line skipped)) names at s =
      rw (slash_text (w ++ (n ++ r)) s (space_ascii (w ++ (n ++ r)) (escaped_space blanks line skipped)))
      (escaped_reads blanks line skipped at s)

  -- within a line-ending escape a content is dropped, or ends the escape
  data Meets (t : List ℕ) (at : ℕ) (s : List ℕ) : Type 0 where
    dropped : Reads (pieces ed) true at (encodes t ++ s) [] true s → ((r : List ℕ) → starts_blank (t ++ r) ≡ true) → Meets t at s
    leaves : Reads (pieces ed) true at (encodes t ++ s) [] false (encodes t ++ s) → Meets t at s

  unescaped_skips : {c : ℕ} → MlbUnescaped c → Wschar c ⊎ (skips c ≡ false)
  unescaped_skips (MlbUnescaped.wschar blank) = inl blank
  unescaped_skips MlbUnescaped.x21 = inr (visible_out 0x21 (omega arith))
  unescaped_skips {c} (MlbUnescaped.x23-5B least most) = inr (visible_out c (omega arith))
  unescaped_skips {c} (MlbUnescaped.x5D-7E least most) = inr (visible_out c (omega arith))
  unescaped_skips {c} (MlbUnescaped.non_ascii class) = inr (visible_out c (omega (arith, non_ascii_high class)))

  wschar_blank : {c : ℕ} → Wschar c → (s : List ℕ) → starts_blank (c ∷ s) ≡ true
  unfolding starts_blank
  wschar_blank x20 s = refl
  wschar_blank x09 s = refl

  newline_blank : {n : List ℕ} → Newline n → (r : List ℕ) → starts_blank (n ++ r) ≡ true
  unfolding starts_blank starts_newline
  newline_blank x0A [] = refl
  newline_blank x0A (c ∷ r) = refl
  newline_blank x0D-0A r = refl

  slash_out : (t : List ℕ) → AllAscii t → (at : ℕ) (s : List ℕ) → Meets (0x5C ∷ t) at s
  slash_out t all_IsAscii at s =
      leaves (rw (slash_text t s all_IsAscii) (out_reads ed at 0x5C (t ++ s) (visible_out 0x5C (omega arith))))

  meets : {t w : List ℕ} → MlbContent ed t w → (at : ℕ) (s : List ℕ) → Meets t at s
  meets (mlb_char (unescaped {c} class)) at s = elim (unescaped_skips class) [
    | inl blank ↦ dropped (rw (ascii_whole (c ∷ []) (omega (arith, wschar_space blank), tt))
        (skip_reads ed (WscharNewline.wschar blank) at s)) (wschar_blank blank)
    | inr visible ↦ leaves (rw (append-nil (encode_scalar c)) (char_out ed c at s visible))
  ]
  meets (mlb_char (escaped_char (escaped {t} char))) at s = slash_out t (escape_ascii char) at s
  meets (newline {t} line) at s =
      dropped (rw (ascii_whole t (newline_ascii line)) (skip_reads ed (WscharNewline.newline line) at s)) (newline_blank line)
  meets (escaped_nl (mlb_escaped_nl {w} {n} {r} blanks line skipped)) at s =
      slash_out (w ++ (n ++ r)) (space_ascii (w ++ (n ++ r)) (escaped_space blanks line skipped)) at s

  -- ---- a run is read without error, within a line-ending escape and outside it

  abbrev Quiet : Bool → List ℕ → Type 0
  Quiet d cs = (at : ℕ) → ErrorFree (pieces ed) d at (encodes cs)

  quiet_after : {t w : List ℕ} (c : MlbContent ed t w) (r : List ℕ) → Quiet false r × Quiet true r → Quiet (after c) r
  unfolding after
  quiet_after (mlb_char c) r both = both.0
  quiet_after (newline n) r both = both.0
  quiet_after (escaped_nl e) r both = both.1

  content_quiet : {t w : List ℕ} (c : MlbContent ed t w) → ContentNames c → (r : List ℕ) → Quiet false r × Quiet true r
      → Quiet false (t ++ r) × Quiet true (t ++ r)
  content_quiet {t} {w} c names r both = (outside, within)
    where
      outside : Quiet false (t ++ r)
      outside at =
          rw (encodes_append t r)
          (let reading = content_reads c names at (encodes r) in reading.quiet ∙ quiet_after c r both reading.to)

      within : Quiet true (t ++ r)
      within at = rw (encodes_append t r) (by_meeting (meets c at (encodes r)))
        where
          by_meeting : Meets t at (encodes r) → ErrorFree (pieces ed) true at (encodes t ++ encodes r)
          by_meeting (dropped reading blank) = reading.quiet ∙ both.1 reading.to
          by_meeting (leaves reading) =
              reading.quiet
              ∙ (let again = content_reads c names reading.to (encodes r) in again.quiet ∙ quiet_after c r both again.to)

  mark_out : (at : ℕ) (s : List ℕ) → Reads (pieces ed) true at (encode_scalar 0x22 ++ s) [] false (encode_scalar 0x22 ++ s)
  mark_out at s = char_out ed 0x22 at s (visible_out 0x22 (omega arith))

  mark_quiet : (r : List ℕ) → Quiet false r × Quiet true r → Quiet false (0x22 ∷ r) × Quiet true (0x22 ∷ r)
  mark_quiet r both = (outside, λ at. let reading = mark_out at (encodes r) in reading.quiet ∙ outside reading.to)
    where
      outside : Quiet false (0x22 ∷ r)
      outside at = let reading = char_reads ed 0x22 at (encodes r) mark_plain in reading.quiet ∙ both.0 reading.to

  run_quiet : {s : Bool} {k : Seen} {t v : List ℕ} → Run ed s k t v → Quiet false t × Quiet true t
  run_quiet end = ((λ at. refl), λ at. refl)
  run_quiet (mark0 {t} run) = mark_quiet t (run_quiet run)
  run_quiet (mark1 {t} run) = mark_quiet t (run_quiet run)
  run_quiet (content {r = r} (kept c names drops) run) = content_quiet c names r (run_quiet run)

  -- ---- the bytes of a strict run

  abbrev Bytes : List ℕ → List ℕ → Type 0
  Bytes cs v = (at : ℕ) → collect (pieces ed) gives 0 false at (encodes cs) ≡ encodes v

  -- where no blank follows, a line-ending escape ends
  abbrev EndsAt : List ℕ → ℕ → Type 0
  EndsAt t at = (to : ℕ) × (collect (pieces ed) gives 0 true at (encodes t) ≡ collect (pieces ed) gives 0 false to (encodes t))

  run_out : {s : Bool} {k : Seen} {t v : List ℕ} → Run ed s k t v → starts_blank t ≡ false → (at : ℕ) → EndsAt t at
  run_out end unblank at = (at, refl)
  run_out (mark0 {t} r) unblank at = let reading = mark_out at (encodes t) in (reading.to, reading.bytes)
  run_out (mark1 {t} r) unblank at = let reading = mark_out at (encodes t) in (reading.to, reading.bytes)
  run_out (content {t = t} {r} (kept c names drops) run) unblank at = by_meeting (meets c at (encodes r))
    where
      by_meeting : Meets t at (encodes r) → EndsAt (t ++ r) at
      by_meeting (leaves reading) = rw (encodes_append t r) (reading.to, reading.bytes)
      by_meeting (dropped reading blank) = no_true (sym unblank ∙ blank r)

  content_gives : {s : Bool} {t w r v : List ℕ} (c : MlbContent ed t w) → ContentNames c → Run ed s seen0 r v → Drops c r
      → Bytes r v
      → (at : ℕ) → collect (pieces ed) gives 0 false at (encodes t ++ encodes r) ≡ encodes w ++ encodes v
  unfolding after
  content_gives {w = w} {r} (mlb_char c) names run drops rest at =
      let reading = content_reads (mlb_char c) names at (encodes r) in
      reading.bytes ∙ ap (λ x. encodes w ++ x) (rest reading.to)
  content_gives {w = w} {r} (newline line) names run drops rest at =
      let reading = content_reads (newline line) names at (encodes r) in
      reading.bytes ∙ ap (λ x. encodes w ++ x) (rest reading.to)
  content_gives {w = w} {r} (escaped_nl e) names run drops rest at =
      let reading = content_reads (escaped_nl e) names at (encodes r) in
      let ended = run_out run drops reading.to in
      reading.bytes ∙ (ended.1 ∙ rest ended.0)

  mark_bytes : (t v : List ℕ) → Bytes t v → Bytes (0x22 ∷ t) (0x22 ∷ v)
  mark_bytes t v rest at =
      let reading = char_reads ed 0x22 at (encodes t) mark_plain in
      reading.bytes ∙ ap (λ x. encode_scalar 0x22 ++ x) (rest reading.to)

  run_bytes : {k : Seen} {t v : List ℕ} → Run ed true k t v → Bytes t v
  run_bytes end = λ at. refl
  run_bytes (mark0 {t} {v} run) = mark_bytes t v (run_bytes run)
  run_bytes (mark1 {t} {v} run) = mark_bytes t v (run_bytes run)
  run_bytes (content {t = t} {r} {w} {v} (kept c names drops) run) =
      λ at. rw (encodes_append t r, encodes_append w v) (content_gives c names run (drops refl) (run_bytes run) at)

  -- ---- the lexer on contents

  space_in : (t : List ℕ) → All Space t → All (InMl 0x22) t
  space_in t spaces = all_weaken (λ c space. in_ml 0x22 c (λ e. omega arith) (λ e. omega arith)) t spaces

  -- a backslash, a byte that it may hide, and then bytes that neither close nor hide
  slash_passed : (k : Seen) (b : ℕ) (t : List ℕ) → AllAscii (b ∷ t) → All (InMl 0x22) t → Passed 0x22 k (0x5C ∷ (b ∷ t))
  slash_passed k b t low inside s =
      let marks = marks_pass quotation k 0x5C (b ∷ (t ++ s)) (λ same. omega arith) in
      let hidden = ml_hidden b (t ++ s) in
      let others = pass_all (ml_tail 0x22 false) (InMl 0x22) (ml_pass quotation) t inside s in
      rw (ascii_whole (0x5C ∷ (b ∷ t)) (omega arith, low)) (omega arith)

  escape_passed : {t : List ℕ} {v : ℕ} (k : Seen) → EscapeSeqChar ed t v → Passed 0x22 k (0x5C ∷ t)
  escape_passed {t} k char =
      let form = shape char in
      subst (λ x. Passed 0x22 k (0x5C ∷ x)) (sym form.is)
      (slash_passed k form.letter form.digits (subst AllAscii form.is (escape_ascii char))
      (all_weaken (λ c harmless. (digit_in c harmless).0) form.digits form.each))

  spaces_passed : (k : Seen) (t : List ℕ) → 0 < length t → All Space t → Passed 0x22 k (0x5C ∷ t)
  spaces_passed k [] some spaces = absurd (omega arith)
  spaces_passed k (b ∷ t) some spaces = slash_passed k b t (space_ascii (b ∷ t) spaces) (space_in t spaces.1)

  newline_some : {n : List ℕ} → Newline n → 0 < length n
  newline_some x0A = omega arith
  newline_some x0D-0A = omega arith

  line_passed : (k : Seen) {w n : List ℕ} → Ws w → Newline n → (r : List ℕ) → All Space r → Passed 0x22 k (0x5C ∷ (w ++ (n ++ r)))
  line_passed k {w} {n} blanks line r spaces =
      spaces_passed k (w ++ (n ++ r)) (omega (arith, newline_some line, length-append w (n ++ r), length-append n r))
      (all_append Space w (n ++ r) (ws_space blanks) (all_append Space n r (newline_space line) spaces))

  some_passed : (k : Seen) (t : List ℕ) → 0 < length t → All (InMl 0x22) t → Passed 0x22 k t
  some_passed = all_passed quotation

  content_passed : {t w : List ℕ} (k : Seen) → MlbContent ed t w → Passed 0x22 k t
  content_passed k (mlb_char (unescaped {c} class)) =
      some_passed k (c ∷ []) (omega arith) ((basic_in (mlb_basic.0 class)).0, tt)
  content_passed k (mlb_char (escaped_char (escaped char))) = escape_passed k char
  content_passed k (newline {t} line) = some_passed k t (newline_some line) (newline_in quotation line)
  content_passed k (escaped_nl (mlb_escaped_nl {w} {n} {r} blanks line skipped)) =
      line_passed k blanks line r (skips_space skipped)

  kept_passed : (s : Bool) → Passes 0x22 (Kept ed s)
  kept_passed s k t w r (kept c names drops) = content_passed k c

  -- ---- from the decoder to a run

  abbrev Strict : Seen → List ℕ → Type 0
  Strict = FlatOf 0x22 (Kept ed true)

  -- what a line-ending escape drops of m, and what it leaves
  record Trim (m : List ℕ) : Type 0 where
    cut : List ℕ
    rest : List ℕ
    value : List ℕ
    split : m ≡ cut ++ rest
    blanks : WscharNewlines cut
    unblank : starts_blank rest ≡ false
    left : Run ed true seen0 rest value

  trim_more : {t : List ℕ} → WscharNewline t → (m : List ℕ) → Trim m → Trim (t ++ m)
  trim_more {t} blank m trim =
      record {
        cut = t ++ trim.cut;
        rest = trim.rest;
        value = trim.value;
        split = ap (λ y. t ++ y) trim.split ∙ sym (append_assoc t trim.cut trim.rest);
        blanks = WscharNewlines.more blank trim.blanks;
        unblank = trim.unblank;
        left = trim.left;
      }

  put_ended : {w n : List ℕ} → Ws w → Newline n → (k : Seen) (m : List ℕ) → Trim m → Strict k ((0x5C ∷ (w ++ n)) ++ m)
  put_ended {w} {n} blanks line k m trim =
      let t : List ℕ = 0x5C ∷ (w ++ (n ++ trim.cut)) in
      let text : (0x5C ∷ (w ++ n)) ++ m ≡ t ++ trim.rest =
      ap (λ tail. (0x5C ∷ (w ++ n)) ++ tail) trim.split
      ∙ ap (0x5C ∷◌)
      (sym (append_assoc (w ++ n) trim.cut trim.rest) ∙ ap (λ text. text ++ trim.rest) (append_assoc w n trim.cut)) in
      subst (Strict k) (sym text) (put 0x22 (Kept ed true) k t [] trim.rest
      (kept (escaped_nl (mlb_escaped_nl blanks line trim.blanks)) tt (λ strict. trim.unblank)) (trim.value, trim.left))

  not_blank : (c : ℕ) (s : List ℕ) → skips c ≡ false → starts_blank (c ∷ s) ≡ false
  unfolding skips wschar starts_blank starts_newline
  not_blank c s out = by_tests_lem (eqb c 0x20) (eqb c 0x09) (eqb c 0x0A) (eqb c 0x0D) refl refl refl refl out
    where
      line : (s : List ℕ) → eqb c 0x0A ≡ false → eqb c 0x0D ≡ false → starts_newline (c ∷ s) ≡ false
      line [] lf cr = lf
      line (d ∷ s) lf cr = rw (lf, cr)

      by_tests_lem : (is-space is-tab is-lf is-cr : Bool) → eqb c 0x20 ≡ is-space → eqb c 0x09 ≡ is-tab → eqb c 0x0A ≡ is-lf
          → eqb c 0x0D ≡ is-cr → ((is-space || is-tab) || (is-lf || is-cr)) ≡ false
          → ((eqb c 0x20 || eqb c 0x09) || starts_newline (c ∷ s)) ≡ false
      by_tests_lem true is-tab is-lf is-cr space tab lf cr none = no_true (sym none)
      by_tests_lem false true is-lf is-cr space tab lf cr none = no_true (sym none)
      by_tests_lem false false true is-cr space tab lf cr none = no_true (sym none)
      by_tests_lem false false false true space tab lf cr none = no_true (sym none)
      by_tests_lem false false false false space tab lf cr none = rw (space, tab, line s lf cr)

  module _ (rest : List ℕ) where
    -- the claim of `chars_clean` for every text of at most n code points
    abbrev ShorterRuns : ℕ → Type 0
    ShorterRuns = UpTo (pieces ed) 0x22 (Kept ed true) rest

    -- what is read without error within a line-ending escape is what the escape drops, and then a run
    abbrev TrimIf : ℕ → List ℕ → Type 0
    TrimIf n m =
        length m ≤ n → All Scalar m → (at : ℕ) → ErrorFree (pieces ed) true at (encodes m) → Through 0x22 rest seen0 m → Trim m

    module _ (n : ℕ) (shorter : ShorterRuns n) (j : ℕ) (trims : (m : List ℕ) → length m ≤ j → TrimIf n m) (c : ℕ) (cs : List ℕ)
        (below : length cs ≤ j)
        (few : length (c ∷ cs) ≤ n) (scalars : All Scalar (c ∷ cs)) (at : ℕ)
        (clean : ErrorFree (pieces ed) true at (encodes (c ∷ cs)))
        (through : Through 0x22 rest seen0 (c ∷ cs)) where
      out_trim : skips c ≡ false → Trim (c ∷ cs)
      out_trim visible =
          let reading = char_out ed c at (encodes cs) visible in
          let run = shorter (c ∷ cs) few scalars seen0 reading.to (sym reading.quiet ∙ clean) through in
          record {
            cut = [];
            rest = c ∷ cs;
            value = run.0;
            split = refl;
            blanks = WscharNewlines.stop;
            unblank = not_blank c cs visible;
            left = run.1;
          }

      skip_trim : (t ds : List ℕ) → WscharNewline t → c ∷ cs ≡ t ++ ds → Trim (c ∷ cs)
      skip_trim t ds blank split =
          let reading = skip_reads ed blank at (encodes ds) in
          let spaces = skip_space blank in
          let bytes : encodes (c ∷ cs) ≡ t ++ encodes ds =
          ap encodes split ∙ (encodes_append t ds ∙ ascii_text t (encodes ds) (space_ascii t spaces)) in
          let clean-left = sym reading.quiet ∙ (ap (collect (pieces ed) notes_at 0 true at) (sym bytes) ∙ clean) in
          let scalars-left : All Scalar ds = (all_parts Scalar t ds (subst (All Scalar) split scalars)).1 in
          let some = skip_some blank in
          let through-left =
          through_rest 0x22 rest seen0 t ds (some_passed seen0 t some (space_in t spaces))
          (subst (Through 0x22 rest seen0) split through) in
          let lengths : suc (length cs) ≡ length t + length ds = ap length split ∙ length-append t ds in
          subst Trim (sym split)
          (trim_more blank ds (trims ds (omega arith) (omega arith) scalars-left reading.to clean-left through-left))

      pick_trim : Skipped c (encodes cs) → Trim (c ∷ cs)
      pick_trim (is_out visible) = out_trim visible
      pick_trim (is_one blank) = skip_trim (c ∷ []) cs blank refl
      pick_trim (is_two s cr lf) =
          let led = ascii_led (0x0A ∷ []) cs s (omega arith, tt) lf in
          skip_trim (0x0D ∷ (0x0A ∷ [])) led.rest (WscharNewline.newline x0D-0A)
          (ap (λ d. d ∷ cs) cr ∙ ap (0x0D ∷◌) led.text)

      some_trim : Trim (c ∷ cs)
      some_trim = elim (side c) [
        | beyond size ↦ out_trim (visible_out c (omega arith))
        | ascii size ↦
            let bytes-clean : ErrorFree (pieces ed) true at (c ∷ encodes cs) = rw (encode_1 c size) at clean in
            pick_trim (skip_inv ed at c (encodes cs) (first_clean (pieces ed) true at c (encodes cs) bytes-clean))
      ]

    no_trim : Trim []
    unfolding starts_blank
    no_trim = record { cut = []; rest = []; value = []; split = refl; blanks = WscharNewlines.stop; unblank = refl; left = end }

    trim_clean : (n : ℕ) → ShorterRuns n → (m : List ℕ) → TrimIf n m
    trim_clean n shorter m =
        by_length (TrimIf n) (λ few scalars at clean through. no_trim) (some_trim n shorter) (length m) m (omega arith)

    module _ (n : ℕ) (shorter : ShorterRuns n) (c : ℕ) (cs : List ℕ) (few : length cs ≤ n) (scalars : All Scalar (c ∷ cs))
        (k : Seen) (at : ℕ)
        (clean : ErrorFree (pieces ed) false at (encodes (c ∷ cs))) (through : Through 0x22 rest k (c ∷ cs)) where
      -- a content comes first that is no line-ending backslash
      content_front : (t w ds : List ℕ) (first : MlbContent ed t w) → ContentNames first → Drops first ds → after first ≡ false
          → 0 < length t
          → c ∷ cs ≡ t ++ ds → Strict k (c ∷ cs)
      content_front t w ds first names drops outside some split =
          let s = encodes ds in
          let reading =
          subst (λ y. Reads (pieces ed) false at (encodes t ++ s) (encodes w) y s) outside (content_reads first names at s) in
          content_clean (pieces ed) 0x22 (Kept ed true) rest n shorter (c ∷ cs) t w ds k at
          (kept first names (λ strict. drops)) reading
          (content_passed k first) split some (omega arith) scalars clean through

      mark_front : c ≡ 0x22 → Strict k (c ∷ cs)
      mark_front is_mark =
          let reading = char_reads ed c at (encodes cs) (ap mlb_plain is_mark ∙ mark_plain) in
          mark_first (pieces ed) 0x22 (Kept ed true) rest quotation c cs is_mark (shorter cs few) scalars.1 k at
          reading clean through

      plain_clean : mlb_plain c ≡ true → Strict k (c ∷ cs)
      unfolding mlb_plain after
      plain_clean plain =
          or_inv (mlb_unescaped c) _ plain
          (λ test.
          let char = MlbChar.unescaped (mlb_basic.1 (basic_is c scalars.0 (sym (mlb_same c) ∙ test))) in
          content_front (c ∷ []) (c ∷ []) cs (mlb_char char) tt tt refl (omega arith) refl)
          (λ test. or_inv (eqb c 0x22) (eqb c 0x0A) test (λ same. mark_front (eqb-true c 0x22 same))
          (λ same.
          let lf : List ℕ = 0x0A ∷ [] in
          content_front lf lf cs (newline x0A) tt tt refl (omega arith) (ap (λ y. y ∷ cs) (eqb-true c 0x0A same))))

      ended_clean : c ≡ 0x5C → (ending : Ended (encodes cs)) → Strict k (c ∷ cs)
      ended_clean is-slash ending =
          let line : List ℕ = ending.blanks ++ ending.line in
          let t : List ℕ = 0x5C ∷ line in
          let spaces : All Space line = line_space ending.are_blanks ending.is_newline in
          let led =
          ascii_led line cs ending.rest (space_ascii line spaces)
          (ending.split ∙ sym (append_assoc ending.blanks ending.line ending.rest)) in
          let ds = led.rest in
          let split : c ∷ cs ≡ t ++ ds = ap (λ d. d ∷ cs) is-slash ∙ ap (0x5C ∷◌) led.text in
          let reading : Reads (pieces ed) false at (encodes t ++ encodes ds) [] true (encodes ds) =
          subst (λ text. Reads (pieces ed) false at text [] true (encodes ds))
          (sym (slash_text line (encodes ds) (space_ascii line spaces)))
          (line_reads ed ending.are_blanks ending.is_newline at (encodes ds)) in
          let clean-left = left_clean (pieces ed) 0x22 (Kept ed true) rest (c ∷ cs) t ds [] true at reading split clean in
          let small = left_small (pieces ed) 0x22 (Kept ed true) rest n (c ∷ cs) t ds split (omega arith) (omega arith) scalars in
          let passed : Passed 0x22 k t =
          subst (λ line. Passed 0x22 k (0x5C ∷ (ending.blanks ++ line))) (append-nil ending.line)
          (line_passed k ending.are_blanks ending.is_newline [] tt) in
          let through-left = through_rest 0x22 rest k t ds passed (subst (Through 0x22 rest k) split through) in
          subst (Strict k) (sym split)
          (put_ended ending.are_blanks ending.is_newline k ds
          (trim_clean n shorter ds small.0 small.1 reading.to clean-left through-left))

      pick_clean : Content ed c (encodes cs) → Strict k (c ∷ cs)
      unfolding after
      pick_clean (is_plain plain) = plain_clean plain
      pick_clean (is_crlf s is-cr lf) =
          let led = ascii_led (0x0A ∷ []) cs s (omega arith, tt) lf in
          let t : List ℕ = 0x0D ∷ (0x0A ∷ []) in
          content_front t t led.rest (newline x0D-0A) tt tt refl (omega arith)
          (ap (λ d. d ∷ cs) is-cr ∙ ap (0x0D ∷◌) led.text)
      pick_clean (is_escape is-slash escape) =
          let led = ascii_led escape.text cs escape.rest (escape_ascii escape.char) escape.split in
          let text : c ∷ cs ≡ (0x5C ∷ escape.text) ++ led.rest = ap (λ d. d ∷ cs) is-slash ∙ ap (0x5C ∷◌) led.text in
          let char = mlb_char (escaped_char (escaped escape.char)) in
          content_front (0x5C ∷ escape.text) (escape.value ∷ []) led.rest char escape.names tt refl (omega arith) text
      pick_clean (is_ended is-slash ending) = ended_clean is-slash ending

      some_clean : Strict k (c ∷ cs)
      some_clean = elim (side c) [
        | beyond size ↦ plain_clean (mlb_high c size)
        | ascii size ↦
            let bytes-clean : ErrorFree (pieces ed) false at (c ∷ encodes cs) = rw (encode_1 c size) at clean in
            pick_clean (content_inv ed at c (encodes cs) (first_clean (pieces ed) false at c (encodes cs) bytes-clean))
      ]

    chars_clean : (cs : List ℕ) → RunIf (pieces ed) 0x22 (Kept ed true) rest cs
    chars_clean cs =
        by_length (RunIf (pieces ed) 0x22 (Kept ed true) rest) (λ scalars k at clean through. ([], end)) some_clean
        (length cs) cs (omega arith)

  -- ---- the text

  -- a derived text has no error, and its bytes are its value's
  pub ml_basic_complete : {cs v : List ℕ} (body : MlBasicString ed cs v) → MlBasicNames body
      → (errors_of (MlBasicText ed) (encodes cs) ≡ []) × (MlBasicObeys body → bytes_of (MlBasicText ed) (encodes cs) ≡ encodes v)
  ml_basic_complete (ml_basic_string {n} {b} {v} opening body) names = (
    ml_no_error fences (newline_reads ed) opening b (run_quiet (body_run ed false body names (λ strict. no_true strict))).0,
    λ obeys. ml_bytes fences opening b obeys.0 ∙ run_bytes (body_run ed true body names (λ strict. obeys.1)) (3 + length n),
  )

  abbrev Meant : List ℕ → Type 0
  Meant cs = (v : List ℕ) × (d : MlBasicString ed cs v) × MlBasicNames d × MlBasicObeys d

  put_text : {n : List ℕ} (opening : OptNewline n) (b : List ℕ) → Trimmed opening b → Strict seen0 b → Meant (fenced 0x22 n b)
  put_text {n} opening b trimmed (v, run) = by_body (run_body ed run)
    where
      by_body : MeantBody ed b v → Meant (fenced 0x22 n b)
      by_body (meant body names drops) = (v, ml_basic_string opening body, names, (trimmed, drops))

  -- a token without error is derived
  pub ml_basic_sound : (cs rest : List ℕ) → All Scalar cs → MlToken 0x22 (encodes cs) rest
      → errors_of (MlBasicText ed) (encodes cs) ≡ [] → Meant cs
  ml_basic_sound cs rest scalars token clean =
      let parts = ml_text fences cs scalars clean in
      let through =
      (ml_lexed quotation parts.opt parts.body rest).0 (subst (λ y. MlToken 0x22 (encodes y) rest) parts.text token) in
      let run = chars_clean rest parts.body parts.each seen0 parts.at parts.clean (omega arith) in
      subst Meant (sym parts.text) (put_text parts.opt parts.body parts.trimmed run)

  -- a derived text is one token
  pub ml_basic_lexed : {cs v : List ℕ} (body : MlBasicString ed cs v) → MlBasicNames body → (rest : List ℕ) → Apart 0x22 rest
      → MlToken 0x22 (encodes cs) rest
  ml_basic_lexed (ml_basic_string {n} {b} opening body) names rest apart =
      let through =
      flat_through quotation (kept_passed false) (body_run ed false body names (λ strict. no_true strict)) rest apart in
      (ml_lexed quotation opening b rest).1 (omega arith)
