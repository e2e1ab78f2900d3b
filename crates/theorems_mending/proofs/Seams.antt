-- Why lexing does not run over a seam: the byte after a token that stays, and after a replacement.
use Prim.Native.Nat.{ℕ, suc, ◌+◌, ◌/◌, ◌%◌, ◌≤◌, ◌<◌}
use mathlib.Core.Path.{◌≡◌, refl, sym, ◌∙◌, ap, subst}
use mathlib.Core.Logic.{◌⊎◌, inl, inr, ⊎_elim}
use mathlib.Core.Bool.{Bool, true, false, cond}
use mathlib.Core.List.{List, [], ◌∷◌, ◌++◌, append_assoc}
use native.Mathlib.Numerals.{add-one}
use native.Mathlib.Omega.{arith}
use borrow.Author.Tests.{eq-eqb, eqb-true, ltb-true, lt-ltb}
use lib.Dec.{eqb, ltb}
use lib.ListN.{length, take, drop, length-append}
use lib.Seq.{take-append-add}
use Rattle.text_classes.specs.Classes.{wschar}
use Rattle.text_classes.specs.Runs.{run, stands, triple}
use Rattle.text_classes.proofs.Conds.{cond_case, not_both, by_lt, or_inv, or_left, or_right}
use Rattle.lexer_token.specs.declared.TokenKind.{TokenKind}
use Rattle.lexer_token.specs.declared.TokenKind.TheVariants.{Whitespace, BasicString, Eof}
use Rattle.lexer_scans.specs.Extents.{line_tail}
use Rattle.lexer.specs.Table.{kind_by, kind_of, extent, token_len}
use Rattle.lexer.proofs.KindLaws.{by_kind}
use Rattle.decoder_rules.specs.declared.Encoding.{Encoding}
use Rattle.std.specs.Prelude.{Result, Ok, Err}
use Rattle.text_refusals.specs.declared.Refusal.{Refusal}
use Rattle.decoder_rules.specs.Decoding.{errors_by}
use Rattle.text_scalars.specs.Utf8.{All}
use Rattle.theorems_tokens.proofs.LocalLaws.{token_local}
use Rattle.theorems_grammar.proofs.Lexing.{IsToken}
use Rattle.theorems_grammar.proofs.Passing.{InLine, in_ml, line_pass, line_hidden, line_close, pass_all, triple_no, triple_two}
use Rattle.built_writing.specs.Writing.{hex_digit, spelling}
use Rattle.built_mending.specs.Mending.{slashed, coded, respell, respelt, replacement, Part, read_as, reported, decoded, is_broken, gap, becomes, ends_quoted, mend}
use Rattle.built_mending.proofs.ChoiceLaws.{none_is, Reads, reads_of}
use Rattle.built_mending.proofs.SpellLaws.{slashed_is, coded_is, own_is}
use Rattle.theorems_mending.proofs.Lexed.{part_by, Lexed, ended, token}
use Rattle.theorems_mending.proofs.Followed.{Quote, Instead, followed}

-- ---- a token that is broken is a string, and begins with a quote mark

pub broken_known : (choice : Result Encoding Refusal) (t : List ℕ) → is_broken (errors_by choice t) ≡ true → (e : Encoding) × (choice ≡ Ok e)
broken_known (Ok e) t h = (e, refl)
broken_known (Err r) t h = not_both h refl

begins_quoted : (f : ℕ) (s : List ℕ) (k : TokenKind) (e : Encoding) → kind_of (f ∷ s) ≡ k → Reads k e → Quote f
unfolding kind_of
begins_quoted f s k e kind reads =
    by_kind (λ (j : TokenKind). Reads j e → Quote f) f (triple f (f ∷ s))
    (λ _ x. absurd x) (λ _ x. absurd x) (λ _ x. absurd x) (λ _ x. absurd x) (λ _ x. absurd x) (λ _ x. absurd x)
    (λ _ x. absurd x) (λ _ x. absurd x) (λ _ x. absurd x) (λ _ x. absurd x)
    (λ q x. inl q) (λ q x. inr q) (λ q t x. inl q) (λ q t x. inr q) (λ x. absurd x)
    (subst (λ (j : TokenKind). Reads j e) (sym kind) reads)

-- ---- the byte after a token: as it was, or another in the place of a quote mark

pub data Meets (quoted : Bool) (rest after : List ℕ) : Type 0 where
  same : take 1 rest ≡ take 1 after → Meets quoted rest after
  changed : {b c : ℕ} {r t : List ℕ} → rest ≡ b ∷ r → Quote b → after ≡ c ∷ t → c ≡ cond quoted 0x20 0x22 → Meets quoted rest after

module _ (edition : ℕ) where
  pub eof_mends : (quoted : Bool) → mend edition quoted (part_by Eof [] ∷ []) ≡ []
  unfolding mend becomes
  eof_mends quoted = rw (none_is edition)

  -- what the first of some tokens becomes begins as it does, or in another way in the place of a quote mark
  becomes_first : (k : TokenKind) (f : ℕ) (x rest : List ℕ) → kind_of (f ∷ (x ++ rest)) ≡ k → (quoted : Bool) (on : List ℕ)
      → Meets quoted (f ∷ (x ++ rest)) (becomes edition quoted (part_by k (f ∷ x)) ++ on)
  unfolding becomes
  becomes_first k f x rest kind quoted on =
      cond_case (λ (w : List ℕ). Meets quoted (f ∷ (x ++ rest)) (w ++ on)) (is_broken (reported edition (part_by k (f ∷ x))))
      (λ broken.
      let e = broken_known (read_as edition (part_by k (f ∷ x))) (f ∷ x) broken in
      first quoted (begins_quoted f (x ++ rest) k e.0 kind (reads_of edition k e.0 e.1)))
      (λ whole. same refl)
    where
      first : (q : Bool) → Quote f → Meets q (f ∷ (x ++ rest)) ((gap q ++ replacement (decoded edition (part_by k (f ∷ x)))) ++ on)
      first true quote = changed refl quote refl refl
      first false quote = changed refl quote refl refl

  meets_token : (k : TokenKind) (text rest : List ℕ) (parts : List Part) → 0 < length text → IsToken k text rest → (quoted : Bool)
      → Meets quoted (text ++ rest) (mend edition quoted (part_by k text ∷ parts))
  unfolding mend
  meets_token k [] rest parts some is quoted = absurd (omega arith)
  meets_token k (f ∷ x) rest parts some is quoted = becomes_first k f x rest is.0 quoted _

  pub meets : {rest : List ℕ} {parts : List Part} → Lexed rest parts → (quoted : Bool) → Meets quoted rest (mend edition quoted parts)
  meets ended quoted = same (sym (ap (take 1) (eof_mends quoted)))
  meets (token {k} {text} {rest} {parts} some is more) quoted = meets_token k text rest parts some is quoted

-- ---- a token that stays

-- the bytes of a token and the byte after them
one_after : (x y z : List ℕ) → take 1 y ≡ take 1 z → take (suc (length x)) (x ++ y) ≡ take (suc (length x)) (x ++ z)
one_after x y z e =
    rw (← add-one (length x), take-append-add x y 1, take-append-add x z 1, e)

pub kept : (k : TokenKind) (text rest after : List ℕ) (quoted : Bool) → 0 < length text → IsToken k text rest
    → Meets (ends_quoted quoted text) rest after → IsToken k text after
unfolding ends_quoted
kept k [] rest after quoted some is m = absurd (omega arith)
kept k (f ∷ x) rest after quoted some is (same e) =
    let agree : take (suc (token_len (f ∷ (x ++ rest)))) (f ∷ (x ++ rest)) ≡ take (suc (token_len (f ∷ (x ++ rest)))) (f ∷ (x ++ after)) =
    rw is.1 (one_after (f ∷ x) rest after e) in
    let local = token_local (f ∷ (x ++ rest)) (f ∷ (x ++ after)) agree in
    (local.0 ∙ is.0, local.1 ∙ is.1)
kept k (f ∷ x) rest after quoted some is (changed {b} {c} {r} {t} here quote there which) =
    let instead : Instead (ends_quoted (eqb f 0x22) x) c = instead_of (ends_quoted (eqb f 0x22) x) which in
    rw there (followed f x b c r t quote instead k (rw here at is))
  where
    instead_of : (z : Bool) → c ≡ cond z 0x20 0x22 → Instead z c
    instead_of true e = inr (e, refl)
    instead_of false e = inl (e, refl)

-- ---- a replacement

in_line : (b : ℕ) → (b ≡ 0x22 → ⊥) → (b ≡ 0x5C → ⊥) → (b ≡ 0x0A → ⊥) → InLine 0x22 b
in_line b mark slash lf = (in_ml 0x22 b mark slash, lf)

hex_in : (d : ℕ) → d < 16 → InLine 0x22 (hex_digit d)
hex_in d h =
    by_lt (InLine 0x22) d 10
    (λ l. in_line (0x30 + d) (λ e. omega arith) (λ e. omega arith) (λ e. omega arith))
    (λ l. in_line (0x37 + d) (λ e. omega arith) (λ e. omega arith) (λ e. omega arith))

-- what is spelt of a byte begins with no quotation mark, and is passed over
pub record Passes (b : ℕ) : Type 0 where
  pub first : ℕ
  pub others : List ℕ
  pub is : respell b ≡ first ∷ others
  pub apart : first ≡ 0x22 → ⊥
  pub passes : (s : List ℕ) → line_tail 0x22 false (respell b ++ s) ≡ length (respell b) + line_tail 0x22 false s

slash_passes : (b : ℕ) → slashed b ≡ true → Passes b
slash_passes b h =
    let is = slashed_is b h in
    let visible : b ≡ 0x0A → ⊥ = λ e. or_inv (eqb b 0x22) (eqb b 0x5C) h
    (λ f. omega (arith, eqb-true b 0x22 f)) (λ f. omega (arith, eqb-true b 0x5C f)) in
    record {
      first = 0x5C;
      others = b ∷ [];
      is = is;
      apart = λ e. omega arith;
      passes = λ s. rw is (omega (arith, line_hidden b s visible));
    }

code_passes : (b : ℕ) → slashed b ≡ false → coded b ≡ true → Passes b
code_passes b n h =
    let is = coded_is b n h in
    let low : b < 0x80 = or_inv (ltb b 0x20) (eqb b 0x7F) h
    (λ f. omega (arith, ltb-true b 0x20 f)) (λ f. omega (arith, eqb-true b 0x7F f)) in
    let digits : List ℕ = 0x30 ∷ (0x30 ∷ (hex_digit (b / 16) ∷ (hex_digit (b % 16) ∷ []))) in
    let zero = hex_in 0 (omega arith) in
    let all : All (InLine 0x22) digits = (zero, (zero, (hex_in (b / 16) (omega arith), (hex_in (b % 16) (omega arith), tt)))) in
    record {
      first = 0x5C;
      others = 0x75 ∷ digits;
      is = is;
      apart = λ e. omega arith;
      passes = λ s.
          let hidden = line_hidden 0x75 (digits ++ s) (λ e. omega arith) in
          let passed = pass_all (line_tail 0x22 false) (InLine 0x22) (line_pass 0x22) digits all s in
          rw is (omega (arith, hidden, passed));
    }

own_passes : (b : ℕ) → slashed b ≡ false → coded b ≡ false → Passes b
own_passes b n h =
    let is = own_is b n h in
    let no_mark : b ≡ 0x22 → ⊥ = λ e. not_both (or_left (eqb b 0x22) (eqb b 0x5C) (eq-eqb b 0x22 e)) n in
    let no_slash : b ≡ 0x5C → ⊥ = λ e. not_both (or_right (eqb b 0x22) (eqb b 0x5C) (eq-eqb b 0x5C e)) n in
    let no_lf : b ≡ 0x0A → ⊥ = λ e. not_both (or_left (ltb b 0x20) (eqb b 0x7F) (lt-ltb b 0x20 (omega arith))) h in
    record {
      first = b;
      others = [];
      is = is;
      apart = no_mark;
      passes = λ s. rw is (omega (arith, line_pass 0x22 b (in_line b no_mark no_slash no_lf) s));
    }

spelt_passes : (b : ℕ) → Passes b
spelt_passes b = go (slashed b) (coded b) refl refl
  where
    go : (u w : Bool) → slashed b ≡ u → coded b ≡ w → Passes b
    go true w e f = slash_passes b e
    go false true e f = code_passes b e f
    go false false e f = own_passes b e f

replacement_tail : (value s : List ℕ) → line_tail 0x22 false (respelt value ++ (0x22 ∷ s)) ≡ suc (length (respelt value))
unfolding respelt
replacement_tail [] s = line_close 0x22 s
replacement_tail (b ∷ value) s =
    rw (append_assoc (respell b) (respelt value) (0x22 ∷ s), length-append (respell b) (respelt value))
    (omega (arith, (spelt_passes b).passes (respelt value ++ (0x22 ∷ s)), replacement_tail value s))

replacement_single : (value after : List ℕ) → (value ≡ [] → stands 0x22 after ≡ false)
    → triple 0x22 (0x22 ∷ (respelt value ++ (0x22 ∷ after))) ≡ false
unfolding respelt
replacement_single [] after apart = triple_two 0x22 after (apart refl)
replacement_single (b ∷ value) after apart =
    let p = spelt_passes b in
    rw p.is (triple_no 0x22 p.first _ p.apart)

-- it ends at its closing mark, unless it is empty and a quotation mark follows
pub replaced : (value after : List ℕ) → (value ≡ [] → stands 0x22 after ≡ false) → IsToken BasicString (replacement value) after
unfolding token_len kind_of kind_by extent wschar
replaced value after apart =
    let text : (respelt value ++ (0x22 ∷ [])) ++ after ≡ respelt value ++ (0x22 ∷ after) = append_assoc (respelt value) (0x22 ∷ []) after in
    let single = replacement_single value after apart in
    let long : length (respelt value ++ (0x22 ∷ [])) ≡ suc (length (respelt value)) = omega (arith, length-append (respelt value) (0x22 ∷ [])) in
    rw (text, single) (refl, ap suc (replacement_tail value after ∙ sym long))

-- a space before it is a token of its own
pub spaced : (value after : List ℕ) → IsToken Whitespace (0x20 ∷ []) (replacement value ++ after)
unfolding token_len kind_of kind_by extent wschar run
spaced value after = (refl, refl)
