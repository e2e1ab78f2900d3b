-- The theorem of specs/Mended.antt: the result is lexed from where the document is, seam by seam as it should be (Mends.antt); a
-- replacement is UTF-8 and decodes to its value (Respelt.antt); and what has no broken string is left as it is.
use Prim.Native.Nat.{ℕ, suc, ◌+◌, ◌*◌, ◌≤◌, ◌<◌}
use mathlib.Core.Path.{◌≡◌, refl, sym, ◌∙◌, ap, subst}
use mathlib.Core.Logic.{◌⊎◌, inl, inr, ⊎_elim}
use mathlib.Core.Bool.{Bool, true, false, ◌&&◌}
use mathlib.Core.List.Memᴰ
use mathlib.Core.List.{List, [], ◌∷◌, ◌++◌, map, Memᴰ}
use native.Mathlib.Omega.{arith}
use borrow.Author.Tests.{eqb-true, le-ltb}
use lib.Dec.{eqb}
use lib.ListN.{length, take, drop, length-append, take-append-drop}
use lib.Seq.{take-append_seam, drop-append_seam, drop_at, length-take-le}
use Rattle.text_classes.specs.Classes.{wschar, token_start}
use Rattle.text_classes.specs.Runs.{run, triple}
use Rattle.text_classes.proofs.Conds.{not_both, both_left, both_right, cond_case}
use Rattle.text_refusals.specs.Refusals.{limit}
use Rattle.text_scalars.specs.Utf8.{encode_scalar, Utf8}
use Rattle.text_scalars.proofs.ReadLaws.{utf8_iff}
use Rattle.text_scalars.proofs.CutLaws.{scalar_utf8, one_utf8, utf8_append}
use Rattle.text.proofs.AnswerLaws.{answer_valid}
use Rattle.lexer_token.specs.declared.TokenKind.{TokenKind}
use Rattle.lexer_token.specs.declared.TokenKind.TheVariants.{Eof}
use Rattle.lexer_token.specs.declared.Token.{Token}
use Rattle.lexer.specs.Table.{kind_by, kind_of, extent, token_len}
use Rattle.lexer.specs.Tokens.{has_bom, start_of, tokens_of}
use Rattle.lexer.proofs.TokenLaws.{start_fits}
use Rattle.decoder_rules.specs.declared.Edition.{Edition}
use Rattle.decoder_rules.specs.declared.Edition.TheVariants.{Toml10, Toml11}
use Rattle.decoder_rules.specs.declared.Encoding.{Encoding}
use Rattle.decoder_rules.specs.declared.Encoding.TheVariants.{BasicString as BasicText}
use Rattle.std.specs.Prelude.{Result, Ok, Err}
use Rattle.text_refusals.specs.declared.Refusal.{Refusal}
use Rattle.decoder_rules.specs.Encodings.{edition_number, choice_in, choice_by, is_edition}
use Rattle.decoder_rules.specs.Decoding.{bytes_by, errors_by}
use Rattle.decoder_rules.proofs.Utf8Laws.{decoded_utf8}
use Rattle.theorems_tokens.proofs.Lexing.{token_cut, start_cut, uncut}
use Rattle.theorems_grammar.proofs.Lexing.{IsToken}
use Rattle.built_mending.specs.Mending.{replacement, Part, part_of, read_as, reported, decoded, is_broken, gap, ends_quoted, mend, mended, record_at, list, listed, fit_both, mend_in}
use Rattle.built_mending.proofs.BoundLaws.{mended_most, listed_few}
use Rattle.built_mending.proofs.ChoiceLaws.{none_is}
use Rattle.built_mending.proofs.AnswerLaws.{answer_mended}
use Rattle.theorems_mending.specs.Mended.{parts_of, string_part, gap_parts, parts_after, Whole, PutsRight, AllRight}
use Rattle.theorems_mending.proofs.Lexed.{part_by, Lexed, ended, token, lexed_of, lexed_is}
use Rattle.theorems_mending.proofs.Seams.{eof_mends, meets, kept}
use Rattle.theorems_mending.proofs.Mends.{mend_kept, parts_kept, mend_replaced, parts_replaced, eof_parts, seams}
use Rattle.theorems_mending.proofs.Respelt.{string_decodes, string_utf8}

unbroken : (errors : List (List ℕ)) → is_broken errors ≡ false → errors ≡ []
unbroken [] h = refl
unbroken (e ∷ errors) h = not_both refl h

-- ---- where the result is lexed from

-- a byte order mark at the front is part of one token of three bytes or more
bom_long : (s : List ℕ) → has_bom s ≡ true → 3 ≤ token_len s
unfolding token_len kind_of kind_by wschar token_start extent run triple
bom_long [] h = not_both h refl
bom_long (a ∷ []) h = not_both (both_right (eqb a 0xEF) _ h) refl
bom_long (a ∷ b ∷ []) h = not_both (both_right (eqb b 0xBB) _ (both_right (eqb a 0xEF) _ h)) refl
bom_long (a ∷ b ∷ c ∷ s) h =
    let first = eqb-true a 0xEF (both_left (eqb a 0xEF) _ h) in
    let others = both_right (eqb a 0xEF) _ h in
    let second = eqb-true b 0xBB (both_left (eqb b 0xBB) _ others) in
    let third = eqb-true c 0xBF (both_right (eqb b 0xBB) _ others) in
    rw (first, second, third) (omega arith)

-- three bytes tell whether there is one
bom_local : (x y z : List ℕ) → 3 ≤ length x → has_bom (x ++ y) ≡ has_bom (x ++ z)
bom_local [] y z h = absurd (omega arith)
bom_local (a ∷ []) y z h = absurd (omega arith)
bom_local (a ∷ b ∷ []) y z h = absurd (omega arith)
bom_local (a ∷ b ∷ c ∷ x) y z h = refl

bom_kept : (doc m : List ℕ) → has_bom doc ≡ true → has_bom (take 3 doc ++ m) ≡ true
bom_kept [] m h = not_both h refl
bom_kept (a ∷ []) m h = not_both (both_right (eqb a 0xEF) _ h) refl
bom_kept (a ∷ b ∷ []) m h = not_both (both_right (eqb b 0xBB) _ (both_right (eqb a 0xEF) _ h)) refl
bom_kept (a ∷ b ∷ c ∷ s) m h = h

bom_bytes : (doc : List ℕ) → has_bom doc ≡ true → take 3 doc ≡ encode_scalar 0xFEFF
unfolding encode_scalar
bom_bytes [] h = not_both h refl
bom_bytes (a ∷ []) h = not_both (both_right (eqb a 0xEF) _ h) refl
bom_bytes (a ∷ b ∷ []) h = not_both (both_right (eqb b 0xBB) _ (both_right (eqb a 0xEF) _ h)) refl
bom_bytes (a ∷ b ∷ c ∷ s) h =
    let first = eqb-true a 0xEF (both_left (eqb a 0xEF) _ h) in
    let others = both_right (eqb a 0xEF) _ h in
    let second = eqb-true b 0xBB (both_left (eqb b 0xBB) _ others) in
    let third = eqb-true c 0xBF (both_right (eqb b 0xBB) _ others) in
    rw (first, second, third) refl

module _ (edition : ℕ) where
  -- what a document without one becomes has none: a token of three bytes or more would have it already
  no_bom : {s : List ℕ} {parts : List Part} → Lexed s parts → has_bom s ≡ false → has_bom (mend edition false parts) ≡ false
  no_bom ended h = rw (eof_mends edition false) refl
  no_bom (token {k} {text} {rest} {parts} some is more) h = go (is_broken (reported edition (part_by k text))) refl
    where
      by_mark : (after : List ℕ) (u : Bool) → has_bom (text ++ after) ≡ u → IsToken k text after → u ≡ false
      by_mark after false e t = refl
      by_mark after true e t =
          let long = bom_long (text ++ after) e in
          not_both e (bom_local text after rest (omega (arith, t.1)) ∙ h)

      go : (u : Bool) → is_broken (reported edition (part_by k text)) ≡ u → has_bom (mend edition false (part_by k text ∷ parts)) ≡ false
      go false e =
          let ends = ends_quoted false text in
          let after = mend edition ends parts in
          let t = kept k text rest after false some is (meets edition more ends) in
          rw (mend_kept edition false (part_by k text) parts e) (by_mark after (has_bom (text ++ after)) refl t)
      go true e = rw (mend_replaced edition false (part_by k text) parts e) refl

  module _ (doc : List ℕ) where
    abbrev text : List ℕ
    text = mend edition false (parts_of doc)

    all_lexed : Lexed (drop (start_of doc) doc) (parts_of doc)
    unfolding tokens_of
    all_lexed = lexed_of doc (start_of doc) 1

    same_start : start_of (mended edition doc) ≡ start_of doc
    unfolding start_of mended
    same_start = go (has_bom doc) refl
      where
        go : (u : Bool) → has_bom doc ≡ u → start_of (mended edition doc) ≡ start_of doc
        go true e = rw (e, bom_kept doc (mend edition false (parts_of doc)) e) refl
        go false e =
            let start : start_of doc ≡ 0 = rw e refl in
            let from : Lexed doc (parts_of doc) = subst (λ (n : ℕ). Lexed (drop n doc) (parts_of doc)) start all_lexed in
            let none : has_bom (mend edition false (parts_of doc)) ≡ false = no_bom from e in
            rw (e, none) refl

    -- after the start stands what the tokens become
    after_start : drop (start_of (mended edition doc)) (mended edition doc) ≡ text
    unfolding mended
    after_start =
        rw same_start (drop_at (take (start_of doc) doc) text (start_of doc) (length-take-le (start_of doc) doc (start_fits doc)))

    tokens_are : parts_of (mended edition doc) ≡ parts_after edition false (parts_of doc)
    unfolding tokens_of
    tokens_are = lexed_is (seams edition all_lexed false) (mended edition doc) (start_of (mended edition doc)) 1 after_start

-- ---- UTF-8

cut_token : (k : TokenKind) (text rest : List ℕ) → IsToken k text rest → Utf8 (text ++ rest) → Utf8 text × Utf8 rest
cut_token k text rest is u =
    let parts = token_cut (text ++ rest) u in
    let front : take (token_len (text ++ rest)) (text ++ rest) ≡ text = ap (λ (n : ℕ). take n (text ++ rest)) is.1 ∙ take-append_seam text rest in
    let back : drop (token_len (text ++ rest)) (text ++ rest) ≡ rest = ap (λ (n : ℕ). drop n (text ++ rest)) is.1 ∙ drop-append_seam text rest in
    (subst Utf8 front parts.0, subst Utf8 back parts.1)

choice_utf8 : (choice : Result Encoding Refusal) (t : List ℕ) → Utf8 t → Utf8 (bytes_by choice t)
choice_utf8 (Ok e) t u = decoded_utf8 e t u
choice_utf8 (Err r) t u = ([], tt, refl)

gap_utf8 : (quoted : Bool) → Utf8 (gap quoted)
gap_utf8 true = one_utf8 0x20 (omega arith)
gap_utf8 false = ([], tt, refl)

mend_utf8 : (edition : ℕ) {s : List ℕ} {parts : List Part} → Lexed s parts → Utf8 s → (quoted : Bool) → Utf8 (mend edition quoted parts)
mend_utf8 edition ended u quoted = rw (eof_mends edition quoted) u
mend_utf8 edition (token {k} {text} {rest} {parts} some is more) u quoted =
    go (is_broken (reported edition (part_by k text))) refl (cut_token k text rest is u) (λ w q. mend_utf8 edition more w q)
  where
    go : (b : Bool) → is_broken (reported edition (part_by k text)) ≡ b → Utf8 text × Utf8 rest
        → (Utf8 rest → (q : Bool) → Utf8 (mend edition q parts)) → Utf8 (mend edition quoted (part_by k text ∷ parts))
    go false e w on =
        rw (mend_kept edition quoted (part_by k text) parts e)
        (utf8_append text (mend edition (ends_quoted quoted text) parts) w.0 (on w.1 (ends_quoted quoted text)))
    go true e w on =
        let value = decoded edition (part_by k text) in
        let string = string_utf8 value (choice_utf8 (read_as edition (part_by k text)) text w.0) in
        let after = mend edition true parts in
        rw (mend_replaced edition quoted (part_by k text) parts e)
        (utf8_append (gap quoted) (replacement value ++ after) (gap_utf8 quoted)
        (utf8_append (replacement value) after string (on w.1 true)))

start_utf8 : (doc : List ℕ) → Utf8 (take (start_of doc) doc)
unfolding start_of
start_utf8 doc =
    cond_case (λ (n : ℕ). Utf8 (take n doc)) (has_bom doc)
    (λ e. rw (bom_bytes doc e) (scalar_utf8 0xFEFF (inr (omega arith, omega arith)))) (λ e. ([], tt, refl))

-- ---- no string of the result is broken

known_basic : (ed : Edition) → choice_by (edition_number ed) 34 ≡ Ok (BasicText ed)
unfolding choice_by choice_in
known_basic Toml10 = refl
known_basic Toml11 = refl

named : (ed : Edition) → is_edition (edition_number ed) ≡ true
named Toml10 = refl
named Toml11 = refl

module _ (ed : Edition) where
  abbrev n : ℕ
  n = edition_number ed

  string_quiet : (value : List ℕ) → Utf8 value → reported n (string_part value) ≡ []
  string_quiet value u = ap (λ (c : Result Encoding Refusal). errors_by c (replacement value)) (known_basic ed) ∙ (string_decodes ed value u).0

  string_value : (value : List ℕ) → Utf8 value → decoded n (string_part value) ≡ value
  string_value value u = ap (λ (c : Result Encoding Refusal). bytes_by c (replacement value)) (known_basic ed) ∙ (string_decodes ed value u).1

  -- all of some parts report nothing
  abbrev Quiet : List Part → Type 0
  Quiet ps = (p : Part) → Memᴰ p ps → reported n p ≡ []

  quiet_none : Quiet []
  quiet_none p m = absurd (Memᴰ.not-nil m)

  quiet_cons : (q : Part) (ps : List Part) → reported n q ≡ [] → Quiet ps → Quiet (q ∷ ps)
  quiet_cons q ps h on p m = ⊎_elim (λ e. ap (reported n) e ∙ h) (on p) (Memᴰ.cases_cons m)

  quiet_gap : (quoted : Bool) (ps : List Part) → Quiet ps → Quiet (gap_parts quoted ++ ps)
  quiet_gap true ps on = quiet_cons _ ps (rw (none_is n)) on
  quiet_gap false ps on = on

  parts_quiet : {s : List ℕ} {parts : List Part} → Lexed s parts → Utf8 s → (quoted : Bool) → Quiet (parts_after n quoted parts)
  parts_quiet ended u quoted = rw (eof_parts n quoted) (quiet_cons (part_by Eof []) [] (rw (none_is n)) quiet_none)
  parts_quiet (token {k} {text} {rest} {parts} some is more) u quoted =
      go (is_broken (reported n (part_by k text))) refl (cut_token k text rest is u) (λ w q. parts_quiet more w q)
    where
      go : (b : Bool) → is_broken (reported n (part_by k text)) ≡ b → Utf8 text × Utf8 rest
          → (Utf8 rest → (q : Bool) → Quiet (parts_after n q parts)) → Quiet (parts_after n quoted (part_by k text ∷ parts))
      go false e w on =
          rw (parts_kept n quoted (part_by k text) parts e)
          (quiet_cons (part_by k text) _ (unbroken (reported n (part_by k text)) e) (on w.1 (ends_quoted quoted text)))
      go true e w on =
          let value = decoded n (part_by k text) in
          let quiet = string_quiet value (choice_utf8 (read_as n (part_by k text)) text w.0) in
          rw (parts_replaced n quoted (part_by k text) parts e)
          (quiet_gap quoted _ (quiet_cons (string_part value) (parts_after n true parts) quiet (on w.1 true)))

  -- ---- what has no broken string is left as it is

  mend_whole : {s : List ℕ} {parts : List Part} → Lexed s parts → Quiet parts → (quoted : Bool) → mend n quoted parts ≡ s
  mend_whole ended all quoted = eof_mends n quoted
  mend_whole (token {k} {text} {rest} {parts} some is more) all quoted =
      let none : is_broken (reported n (part_by k text)) ≡ false = ap is_broken (all (part_by k text) (Memᴰ.head refl)) in
      mend_kept n quoted (part_by k text) parts none
      ∙ ap (λ (x : List ℕ). text ++ x) (mend_whole more (λ p m. all p (Memᴰ.tail m)) (ends_quoted quoted text))

  list_whole : (doc : List ℕ) (ts : List Token) → ((t : Token) → Memᴰ t ts → reported n (part_of doc t) ≡ []) → list n doc ts ≡ []
  unfolding list
  list_whole doc [] all = refl
  list_whole doc (t ∷ ts) all =
      rw (all t (Memᴰ.head refl)) (list_whole doc ts (λ u m. all u (Memᴰ.tail m)))

  copied : (doc : List ℕ) → Whole n doc → (mended n doc ≡ doc) × (listed n doc ≡ [])
  unfolding mended
  copied doc whole =
      let each : Quiet (parts_of doc) = λ p m.
      let of = Memᴰ.of_map (part_of doc) (tokens_of doc) m in
      sym (ap (reported n) of.2) ∙ whole of.0 of.1 in
      let same = mend_whole (all_lexed n doc) each false in
      (ap (λ (x : List ℕ). take (start_of doc) doc ++ x) same ∙ take-append-drop (start_of doc) doc, list_whole doc (tokens_of doc) whole)

  -- ---- the call

  answered : (doc : List ℕ) → Utf8 doc → length doc ≤ limit → (text : List ℕ) (records : List (List ℕ)) → mended n doc ≡ text
      → listed n doc ≡ records → length text ≤ limit → (o m : ℕ) → length text ≤ o → length records ≤ m
      → mend_in doc n o m ≡ Ok (record { bytes = length text; records = length records })
  unfolding fit_both
  answered doc u small text records is are within o m fits enough =
      let valid = answer_valid doc small ((utf8_iff doc).1 u) in
      sym (answer_mended doc n o m valid (named ed))
      ∙ rw (is, are, le-ltb limit (length text) within, le-ltb o (length text) fits, le-ltb m (length records) enough)

  -- ---- the theorem

  module _ (doc : List ℕ) (u : Utf8 doc) where
    result_utf8 : Utf8 (mended n doc)
    unfolding mended
    result_utf8 =
        utf8_append (take (start_of doc) doc) (mend n false (parts_of doc)) (start_utf8 doc)
        (mend_utf8 n (all_lexed n doc) (start_cut doc u) false)

    result_whole : Whole n (mended n doc)
    result_whole t m =
        parts_quiet (all_lexed n doc) (start_cut doc u) false (part_of (mended n doc) t)
        (subst (Memᴰ (part_of (mended n doc) t)) (tokens_are n doc) (Memᴰ.map (part_of (mended n doc)) m))

    right : PutsRight n doc
    right =
        let again = copied (mended n doc) result_whole in
        record {
          utf8 = result_utf8;
          tokens = tokens_are n doc;
          whole = result_whole;
          same_value = λ t m broken.
              string_value (decoded n (part_of doc t)) (choice_utf8 (read_as n (part_of doc t)) (part_of doc t).text (uncut doc u t m));
          copied = copied doc;
          again = again;
          most = mended_most n doc;
          few = listed_few n doc;
          answered = λ small within out recs fits enough.
              answered doc u small (mended n doc) (listed n doc) refl refl within (length out) (length recs) fits enough;
          answered_again = λ within out recs fits.
              answered (mended n doc) result_utf8 within (mended n doc) [] again.0 again.1 within (length out) (length recs) fits (omega arith);
        }

pub puts_right : AllRight
puts_right ed doc u = right ed doc u
