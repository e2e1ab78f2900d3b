-- A step to the next token; what the tokens from a place on become and report, token by token; and the two loops over them.
-- Assumes nothing.
use Prim.Native.Nat.{ℕ, suc, ◌+◌, ◌-◌, ◌≤◌, ◌<◌}
use mathlib.Core.Path.{◌≡◌, refl, ◌∙◌, ap, subst}
use mathlib.Core.Bool.{Bool, true, false}
use mathlib.Core.List.{List, [], ◌∷◌, ◌++◌, map}
use native.Mathlib.Omega.{arith}
use borrow.Author.Tests.{le-ltb, ne_eqb}
use lib.Dec.{eqb}
use lib.ListN.{length, drop, get_or, length-drop}
use lib.Seq.{take-add, drop-drop, get_or-take, get_or-drop, length-take-le}
use Rattle.text_refusals.specs.Refusals.{limit}
use Rattle.text_refusals.specs.declared.Refusal.{Refusal}
use Rattle.lexer_token.specs.declared.Token.{Token}
use Rattle.lexer.specs.Table.{token_len}
use Rattle.lexer.specs.Tokens.{token_at, line_after}
use Rattle.lexer.specs.Steps.{cursor_of, step_of}
use Rattle.lexer.specs.declared.Cursor.{Cursor}
use Rattle.std.specs.Prelude.{Result, Ok, Err, Option, Some, None}
use Rattle.lexer.proofs.TokenLaws.{tokens_step, tokens_end}
use Rattle.decoder_rules.specs.declared.Encoding.{Encoding}
use Rattle.decoder_rules.specs.Decoding.{bytes_of, errors_of, errors_by}
use Rattle.text_classes.proofs.Conds.{not_both}
use Rattle.built_mending.specs.Mending.{respelt, replacement, Part, part_of, reported, is_broken, gap, becomes, ends_quoted, mend, record_at, list}
use Rattle.built_mending.specs.Passes.{Finds, between, tokens_at, parts_at}
use Rattle.built_mending.proofs.ChoiceLaws.{none_is}

-- ---- a part of the document

pub part_long : (doc : List ℕ) (from to : ℕ) → from ≤ to → to ≤ length doc → length (between doc from to) ≡ to - from
part_long doc from to h l = length-take-le (to - from) (drop from doc) (omega (arith, length-drop from doc))

-- ---- a step before the end, of a document within the limit

module _ (doc : List ℕ) (small : length doc ≤ limit) (at line : ℕ) (h : at < length doc) (low : line ≤ at + 1) where
  step_is : step_of doc (cursor_of at line false)
      ≡ Ok (Some (token_at at line (drop at doc), cursor_of (at + token_len (drop at doc)) (line_after line (drop at doc)) false))
  unfolding step_of
  step_is =
      let within : at ≤ length doc = omega arith in
      rw (le-ltb limit (length doc) small, le-ltb (length doc) at within, le-ltb (at + 1) line low, ne_eqb at (length doc) (λ e. omega arith))

  pub step_gives : (t : Token) (c : Cursor) → step_of doc (cursor_of at line false) ≡ Ok (Some (t, c))
      → (t ≡ token_at at line (drop at doc)) × (c.line ≡ line_after line (drop at doc))
  step_gives t c e =
      let is = step_is in
      let next = cursor_of (at + token_len (drop at doc)) (line_after line (drop at doc)) false in
      let both : ◌≡◌ {A = Token × Cursor} (t, c) (token_at at line (drop at doc), next) = cc in
      (ap (λ (x : Token × Cursor). x.0) both, ap (λ (x : Token × Cursor). x.1.line) both)

  pub not_end : step_of doc (cursor_of at line false) ≡ Ok None → ⊥
  not_end e = let is = step_is in let z : ◌≡◌ {A = ℕ} 0 1 = cc in omega arith

  pub not_refused : (r : Refusal) → step_of doc (cursor_of at line false) ≡ Err r → ⊥
  not_refused r e = let is = step_is in let z : ◌≡◌ {A = ℕ} 0 1 = cc in omega arith

-- ---- the tokens from a place on

module _ (doc : List ℕ) (at line : ℕ) where
  abbrev pub token_here : Token
  token_here = token_at at line (drop at doc)

  abbrev pub part_here : Part
  part_here = part_of doc token_here

  abbrev pub end_here : ℕ
  end_here = at + token_len (drop at doc)

  abbrev pub line_there : ℕ
  line_there = line_after line (drop at doc)

  module _ (edition : ℕ) where
    -- before the end: what the first becomes, and then what the others do
    pub mend_step : (quoted : Bool) → at < length doc
        → mend edition quoted (parts_at doc at line)
        ≡ becomes edition quoted part_here
        ++ mend edition (ends_quoted quoted (becomes edition quoted part_here)) (parts_at doc end_here line_there)
    unfolding mend
    mend_step quoted h = rw (tokens_step doc at line h)

    pub list_step : at < length doc
        → list edition doc (tokens_at doc at line)
        ≡ map (record_at at end_here) (reported edition part_here) ++ list edition doc (tokens_at doc end_here line_there)
    unfolding list
    list_step h = rw (tokens_step doc at line h)

    -- at the end: Eof, which has no bytes and is no string
    pub mend_end : (quoted : Bool) → length doc ≤ at → mend edition quoted (parts_at doc at line) ≡ []
    unfolding mend becomes
    mend_end quoted h =
        let none : at - at ≡ 0 = omega arith in
        rw (tokens_end doc at line h, none_is edition, none)

    pub list_end : length doc ≤ at → list edition doc (tokens_at doc at line) ≡ []
    unfolding list
    list_end h = rw (tokens_end doc at line h, none_is edition)

-- ---- what a token becomes, by what is found of it

unbroken : (errors : List (List ℕ)) → is_broken errors ≡ false → errors ≡ []
unbroken [] h = refl
unbroken (e ∷ errors) h = not_both refl h

module _ (edition : ℕ) (p : Part) where
  module _ (e : Encoding) (found : Finds edition p (Some e)) where
    pub broken_reports : reported edition p ≡ errors_of e p.text
    broken_reports = ap (λ (c : Result Encoding Refusal). errors_by c p.text) found.0

    pub broken_becomes : (quoted : Bool) → becomes edition quoted p ≡ gap quoted ++ replacement (bytes_of e p.text)
    unfolding becomes
    broken_becomes quoted = rw (found.0, found.1)

  module _ (found : Finds edition p None) where
    pub whole_reports : reported edition p ≡ []
    whole_reports = unbroken (reported edition p) found

    pub whole_becomes : (quoted : Bool) → becomes edition quoted p ≡ p.text
    unfolding becomes
    whole_becomes quoted = rw found

-- what is found of a token that is the one at a place
pub found_here : (edition : ℕ) (doc : List ℕ) (at line : ℕ) (t : Token) (r x : Option Encoding) → t ≡ token_here doc at line → r ≡ x
    → Finds edition (part_of doc t) r → Finds edition (part_here doc at line) x
found_here edition doc at line t r x is same found =
    subst (Finds edition (part_here doc at line)) same
    (subst (λ (u : Token). Finds edition (part_of doc u) r) is found)

-- ---- whether bytes end in a quotation mark

pub ends_append : (quoted : Bool) (a b : List ℕ) → ends_quoted quoted (a ++ b) ≡ ends_quoted (ends_quoted quoted a) b
unfolding ends_quoted
ends_append quoted [] b = refl
ends_append quoted (x ∷ a) b = ends_append (eqb x 0x22) a b

ends_mark : (quoted : Bool) (s : List ℕ) → ends_quoted quoted (s ++ (0x22 ∷ [])) ≡ true
unfolding ends_quoted
ends_mark quoted [] = refl
ends_mark quoted (b ∷ s) = ends_mark (eqb b 0x22) s

pub ends_replaced : (quoted : Bool) (a value : List ℕ) → ends_quoted quoted (a ++ replacement value) ≡ true
ends_replaced quoted a value =
    ends_append quoted a (replacement value) ∙ ends_mark (ends_quoted quoted a) (0x22 ∷ respelt value)

ends_last : (quoted : Bool) (s : List ℕ) → 0 < length s → ends_quoted quoted s ≡ eqb (get_or s (length s - 1) 0) 0x22
unfolding ends_quoted
ends_last quoted [] h = absurd (omega arith)
ends_last quoted (b ∷ []) h = refl
ends_last quoted (b ∷ c ∷ s) h =
    let here : length (b ∷ c ∷ s) - 1 ≡ suc (length s) = omega arith in
    let there : length (c ∷ s) - 1 ≡ length s = omega arith in
    ends_last (eqb b 0x22) (c ∷ s) (omega arith) ∙ rw (here, there)

-- the bytes of the document from one place to another, which is after it
pub part_ends : (quoted : Bool) (doc : List ℕ) (from to : ℕ) → from < to → to ≤ length doc
    → ends_quoted quoted (between doc from to) ≡ eqb (get_or doc (to - 1) 0) 0x22
part_ends quoted doc from to h l =
    let long = part_long doc from to (omega arith) l in
    let inside : to - from - 1 < to - from = omega arith in
    let place : from + (to - from - 1) ≡ to - 1 = omega arith in
    ends_last quoted (between doc from to) (omega arith)
    ∙ rw (long, get_or-take (to - from) (drop from doc) (to - from - 1) 0 inside, get_or-drop from doc (to - from - 1) 0, place)

pub part_join : (doc : List ℕ) (from mid to : ℕ) → from ≤ mid → mid ≤ to
    → between doc from mid ++ between doc mid to ≡ between doc from to
part_join doc from mid to h l =
    let size : to - from ≡ (mid - from) + (to - mid) = omega arith in
    let place : from + (mid - from) ≡ mid = omega arith in
    rw (size, take-add (mid - from) (to - mid) (drop from doc), drop-drop (mid - from) from doc, place)

pub part_none : (doc : List ℕ) (at : ℕ) → between doc at at ≡ []
part_none doc at = let none : at - at ≡ 0 = omega arith in rw none
