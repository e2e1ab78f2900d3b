-- What the tokens of a document become is lexed, token by token, as it should be: no seam joins or cuts anything (Seams.antt), and
-- after an empty replacement no quotation mark follows (Given.antt).
use Prim.Native.Nat.{ℕ, zero, suc, ◌+◌, ◌-◌, ◌*◌, ◌≤◌, ◌<◌}
use mathlib.Core.Path.{◌≡◌, refl, sym, ◌∙◌, ap, subst}
use mathlib.Core.Logic.{◌⊎◌, inl, inr, ⊎_elim}
use mathlib.Core.Bool.{Bool, true, false, cond, ◌&&◌}
use mathlib.Core.List.{List, [], ◌∷◌, ◌++◌, map, append_assoc, append-nil, Memᴰ}
use native.Mathlib.Omega.{arith}
use borrow.Author.Tests.{eqb-true}
use lib.Dec.{eqb}
use lib.ListN.{length, take, drop, length-append, take-append-drop}
use lib.Seq.{drop-append_seam, length-take-le}
use Rattle.text_classes.specs.Runs.{stands, triple}
use Rattle.text_classes.proofs.Conds.{cond_case, not_both}
use Rattle.lexer_token.specs.declared.TokenKind.{TokenKind}
use Rattle.lexer_token.specs.declared.TokenKind.TheVariants.{Whitespace, BasicString, Eof}
use Rattle.lexer.specs.Tokens.{has_bom, start_of, tokens_of}
use Rattle.decoder_rules.specs.declared.Encoding.{Encoding}
use Rattle.std.specs.Prelude.{Ok}
use Rattle.decoder_rules.specs.Decoding.{bytes_of, errors_of, bytes_by, errors_by}
use Rattle.theorems_grammar.proofs.Lexing.{IsToken}
use Rattle.built_mending.specs.Mending.{replacement, Part, part_of, read_as, reported, decoded, is_broken, gap, becomes, ends_quoted, mend, mended}
use Rattle.built_mending.proofs.ChoiceLaws.{none_is, reads_of}
use Rattle.built_mending.proofs.TokenLaws.{ends_replaced}
use Rattle.theorems_mending.specs.Mended.{parts_of, string_part, gap_parts, parts_for, parts_after}
use Rattle.theorems_mending.proofs.Lexed.{part_by, Lexed, ended, token, lexed_of, lexed_is}
use Rattle.theorems_mending.proofs.Seams.{broken_known, eof_mends, Meets, same, changed, meets, kept, replaced, spaced}
use Rattle.theorems_mending.proofs.Given.{gives_some}

-- ---- one byte at the front

stands_first : (q : ℕ) (s t : List ℕ) → take 1 s ≡ take 1 t → stands q t ≡ stands q s
stands_first q [] [] e = refl
stands_first q [] (c ∷ t) e = absurd (omega (arith, ap length e))
stands_first q (b ∷ s) [] e = absurd (omega (arith, ap length e))
stands_first q (b ∷ s) (c ∷ t) e = let same_byte : b ≡ c = cc in ap (λ (x : ℕ). eqb x q) (sym same_byte)

begins : (q : ℕ) (s : List ℕ) → stands q s ≡ true → (r : List ℕ) × (s ≡ q ∷ r)
begins q [] h = not_both h refl
begins q (b ∷ s) h = (s, ap (λ (x : ℕ). x ∷ s) (eqb-true b q h))

module _ (edition : ℕ) where
  -- ---- what the tokens become is lexed as it should be

  -- a broken token that gives nothing is followed by no quotation mark
  apart_before : (k : TokenKind) (text rest : List ℕ) → 0 < length text → IsToken k text rest
      → is_broken (reported edition (part_by k text)) ≡ true → decoded edition (part_by k text) ≡ [] → stands 0x22 rest ≡ false
  apart_before k text rest some is broken none = go (stands 0x22 rest) refl
    where
      go : (u : Bool) → stands 0x22 rest ≡ u → u ≡ false
      go false e = refl
      go true e =
          let known = broken_known (read_as edition (part_by k text)) text broken in
          let mark = begins 0x22 rest e in
          let follows : IsToken k text (0x22 ∷ mark.0) = subst (IsToken k text) mark.1 is in
          let error : is_broken (errors_of known.0 text) ≡ true = rw known.1 at broken in
          let nothing : bytes_of known.0 text ≡ [] = rw known.1 at none in
          absurd (gives_some known.0 k text mark.0 some follows (reads_of edition k known.0 known.1) error nothing)

  -- and so none follows its replacement
  apart_after : (k : TokenKind) (text rest after : List ℕ) → 0 < length text → IsToken k text rest
      → is_broken (reported edition (part_by k text)) ≡ true → Meets true rest after
      → decoded edition (part_by k text) ≡ [] → stands 0x22 after ≡ false
  apart_after k text rest after some is broken (changed here quote there which) none = rw (there, which)
  apart_after k text rest after some is broken (same e) none =
      stands_first 0x22 rest after e ∙ apart_before k text rest some is broken none

  pub mend_kept : (quoted : Bool) (p : Part) (ps : List Part) → is_broken (reported edition p) ≡ false
      → mend edition quoted (p ∷ ps) ≡ p.text ++ mend edition (ends_quoted quoted p.text) ps
  unfolding mend becomes
  mend_kept quoted p ps h = rw h

  pub parts_kept : (quoted : Bool) (p : Part) (ps : List Part) → is_broken (reported edition p) ≡ false
      → parts_after edition quoted (p ∷ ps) ≡ p ∷ parts_after edition (ends_quoted quoted p.text) ps
  unfolding parts_after parts_for becomes
  parts_kept quoted p ps h = rw h

  pub mend_replaced : (quoted : Bool) (p : Part) (ps : List Part) → is_broken (reported edition p) ≡ true
      → mend edition quoted (p ∷ ps) ≡ gap quoted ++ (replacement (decoded edition p) ++ mend edition true ps)
  unfolding mend becomes
  mend_replaced quoted p ps h =
      rw (h, ends_replaced quoted (gap quoted) (decoded edition p))
      (append_assoc (gap quoted) (replacement (decoded edition p)) (mend edition true ps))

  pub parts_replaced : (quoted : Bool) (p : Part) (ps : List Part) → is_broken (reported edition p) ≡ true
      → parts_after edition quoted (p ∷ ps) ≡ gap_parts quoted ++ (string_part (decoded edition p) ∷ parts_after edition true ps)
  unfolding parts_after parts_for becomes
  parts_replaced quoted p ps h =
      rw (h, ends_replaced quoted (gap quoted) (decoded edition p))
      (append_assoc (gap_parts quoted) (string_part (decoded edition p) ∷ []) (parts_after edition true ps))

  pub eof_parts : (quoted : Bool) → parts_after edition quoted (part_by Eof [] ∷ []) ≡ part_by Eof [] ∷ []
  unfolding parts_after parts_for
  eof_parts quoted = rw (none_is edition)

  -- a space that was put in is a token of its own
  with_gap : (quoted : Bool) (value after : List ℕ) (ps : List Part) → Lexed (replacement value ++ after) ps
      → Lexed (gap quoted ++ (replacement value ++ after)) (gap_parts quoted ++ ps)
  with_gap true value after ps l =
      let space : List ℕ = 0x20 ∷ [] in
      let some : 0 < length space = omega arith in
      token {text = 0x20 ∷ []} {rest = replacement value ++ after} some (spaced value after) l
  with_gap false value after ps l = l

  one_token : (k : TokenKind) (text rest : List ℕ) (parts : List Part) → 0 < length text → IsToken k text rest → Lexed rest parts
      → ((quoted : Bool) → Lexed (mend edition quoted parts) (parts_after edition quoted parts)) → (quoted : Bool)
      → Lexed (mend edition quoted (part_by k text ∷ parts)) (parts_after edition quoted (part_by k text ∷ parts))
  one_token k text rest parts some is more on quoted = go (is_broken (reported edition (part_by k text))) refl
    where
      go : (u : Bool) → is_broken (reported edition (part_by k text)) ≡ u
          → Lexed (mend edition quoted (part_by k text ∷ parts)) (parts_after edition quoted (part_by k text ∷ parts))
      go false e =
          let ends = ends_quoted quoted text in
          let after = mend edition ends parts in
          rw (mend_kept quoted (part_by k text) parts e, parts_kept quoted (part_by k text) parts e)
          (token some (kept k text rest after quoted some is (meets edition more ends)) (on ends))
      go true e =
          let value = decoded edition (part_by k text) in
          let after = mend edition true parts in
          let apart = apart_after k text rest after some is e (meets edition more true) in
          let long : 0 < length (replacement value) = omega arith in
          rw (mend_replaced quoted (part_by k text) parts e, parts_replaced quoted (part_by k text) parts e)
          (with_gap quoted value after _ (token long (replaced value after apart) (on true)))

  pub seams : {s : List ℕ} {parts : List Part} → Lexed s parts → (quoted : Bool)
      → Lexed (mend edition quoted parts) (parts_after edition quoted parts)
  seams ended quoted = rw (eof_mends edition quoted, eof_parts quoted) ended
  seams (token {k} {text} {rest} {parts} some is more) quoted =
      one_token k text rest parts some is more (λ q. seams more q) quoted
