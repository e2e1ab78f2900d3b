-- How far the answer reads: to the byte after the first token that is broken or refused.
use Prim.Native.Nat.{ℕ, zero, suc, ◌+◌, ◌-◌, ◌≤◌, ◌<◌}
use mathlib.Core.Path.{◌≡◌, refl, sym, ap, ◌∙◌, subst}
use mathlib.Core.Bool.{Bool, true, false, cond}
use mathlib.Core.List.{List, [], ◌∷◌}
use native.Mathlib.Omega.{arith}
use Rattle.std.specs.Prelude.{Some, Ok, Err}
use native.Mathlib.Decide.{dec_lt}
use lib.ListN.{length, take, drop, length-take}
use lib.Seq.{take-take, take-add, drop_at, length-take-le}
use Rattle.text_refusals.specs.declared.Refusal.TheVariants.{NotUtf8}
use Rattle.text_scalars.specs.Utf8.{Utf8}
use Rattle.text_scalars.specs.Utf8Read.{valid_prefix}
use Rattle.text_characters.specs.Lead.{fault_len}
use Rattle.lexer_token.specs.declared.Token.{Token}
use Rattle.lexer.specs.Lines.{line_feeds, line_of}
use Rattle.lexer.specs.Table.{kind_of, token_len}
use Rattle.lexer.specs.Tokens.{tokens_from}
use Rattle.lexer.proofs.TokenLaws.{token_fits, token_fits_at, token_long_at, tokens_end}
use Rattle.decoder_rules.proofs.AsciiLaws.{nil_utf8}
use Rattle.theorems_tokens.specs.Cuts.{Clean}
use Rattle.theorems_tokens.proofs.CutLaws.{token_clean}
use Rattle.theorems_tokens.proofs.LocalLaws.{token_local}
use Rattle.built_broken.specs.Broken.{is_utf8, recorded_error, not_utf8}
use Rattle.built_broken.specs.Told.{unbroken}
use Rattle.built_broken.specs.Walk.{first_from, front_text}
use Rattle.built_broken.proofs.ReadableLaws.{readable, is_read, unread}
use Rattle.built_broken.proofs.FaultLaws.{whole_valid, whole_fault}
use Rattle.built_broken.proofs.TurnLaws.{no_errors, errors_at, token_there, tokens_turn, text_there, turn_sound, turn_broken, turn_refused, front_on}
use Rattle.theorems_broken.specs.Theorems.{reach_among}

-- the place where the answer's token ends, by the tokens from the place `at` on
abbrev pub reach_from : List ℕ → ℕ → ℕ → ℕ
reach_from doc edition at = reach_among doc edition (tokens_from at (line_of doc at) (drop at doc))

reach_turn : (doc : List ℕ) (edition at : ℕ) (h : at < length doc) → let n = at + token_len (drop at doc) in
    reach_from doc edition at ≡ cond (is_utf8 (front_text (drop at doc))) (unbroken (errors_at doc edition at h) (reach_from doc edition n) n) n
unfolding reach_among
reach_turn doc edition at h = ap (reach_among doc edition) (tokens_turn doc edition at h) ∙ rw (text_there doc edition at h)

reach_end : (doc : List ℕ) (edition at : ℕ) → length doc ≤ at → reach_from doc edition at ≡ length doc
unfolding reach_among
reach_end doc edition at h =
    let none : at - at ≡ 0 = omega arith in
    ap (reach_among doc edition) (tokens_end doc at (line_of doc at) h) ∙ rw (none, readable [] nil_utf8, no_errors edition [])

-- it is not before that place
pub reach_on : (fuel : ℕ) (doc : List ℕ) (edition at : ℕ) → length doc ≤ at + fuel → at ≤ length doc → at ≤ reach_from doc edition at
reach_on zero doc edition at most l = omega (arith, reach_end doc edition at (omega arith))
reach_on (suc fuel) doc edition at most l =
    elim (dec_lt at (length doc)) [
      | no h ↦ omega (arith, reach_end doc edition at (omega arith))
      | yes h ↦
          let n = at + token_len (drop at doc) in
          let long = token_long_at doc at h in
          let rest = reach_on fuel doc edition n (omega arith) (token_fits_at doc at l) in
          rw (reach_turn doc edition at h) (go n rest (omega arith) (is_utf8 (front_text (drop at doc))) (errors_at doc edition at h))
    ]
  where
    go : (n : ℕ) → n ≤ reach_from doc edition n → at ≤ n → (u : Bool) (errors : List (List ℕ))
        → at ≤ cond u (unbroken errors (reach_from doc edition n) n) n
    go n rest more true [] = omega arith
    go n rest more true (e ∷ es) = more
    go n rest more false errors = more

-- nor before the end of the token there
pub reach_token : (doc : List ℕ) (edition at : ℕ) → at < length doc → at + token_len (drop at doc) ≤ reach_from doc edition at
reach_token doc edition at h =
    let n = at + token_len (drop at doc) in
    let rest = reach_on (length doc) doc edition n (omega arith) (token_fits_at doc at (omega arith)) in
    rw (reach_turn doc edition at h) (go n rest (is_utf8 (front_text (drop at doc))) (errors_at doc edition at h))
  where
    go : (n : ℕ) → n ≤ reach_from doc edition n → (u : Bool) (errors : List (List ℕ))
        → n ≤ cond u (unbroken errors (reach_from doc edition n) n) n
    go n rest true [] = rest
    go n rest true (e ∷ es) = omega arith
    go n rest false errors = omega arith

-- ---- two documents that are the same up to the byte after the place n, which lies within the first

module _ (doc other : List ℕ) (n : ℕ) (agree : take (suc n) doc ≡ take (suc n) other) (inside : n < length doc) where
  take_same : (m : ℕ) → m ≤ suc n → take m doc ≡ take m other
  take_same m h = sym (take-take m (suc n) doc h) ∙ ap (take m) agree ∙ take-take m (suc n) other h

  pub inside_other : n < length other
  inside_other = omega (arith, ap length agree, length-take (suc n) doc, length-take (suc n) other)

  part : (l : List ℕ) (at m : ℕ) → at ≤ length l → drop at (take (at + m) l) ≡ take m (drop at l)
  part l at m h = ap (drop at) (take-add at m l) ∙ drop_at (take at l) (take m (drop at l)) at (length-take-le at l h)

  -- so what follows a place is the same, as far
  agree_at : (at k : ℕ) → at + k ≤ n → take (suc k) (drop at doc) ≡ take (suc k) (drop at other)
  agree_at at k h =
      let there = inside_other in
      sym (part doc at (suc k) (omega arith)) ∙ ap (drop at) (take_same (at + suc k) (omega arith)) ∙ part other at (suc k) (omega arith)

  line_same : (at : ℕ) → at ≤ n → line_of other at ≡ line_of doc at
  line_same at h = ap (λ (x : List ℕ). 1 + line_feeds x) (sym (take_same at (omega arith)))

  -- the token at a place, where it ends by n
  module _ (edition at : ℕ) (h : at < length doc) (near : at + token_len (drop at doc) ≤ n) where
    abbrev k : ℕ
    k = token_len (drop at doc)

    there : at < length other
    there = omega (arith, inside_other, token_long_at doc at h)

    same_token : (kind_of (drop at other) ≡ kind_of (drop at doc)) × (token_len (drop at other) ≡ token_len (drop at doc))
    same_token = token_local (drop at doc) (drop at other) (agree_at at k near)

    same_text : front_text (drop at other) ≡ front_text (drop at doc)
    same_text =
        ap (λ (m : ℕ). take m (drop at other)) same_token.1
        ∙ sym (take-take k (suc k) (drop at other) (omega arith))
        ∙ ap (take k) (sym (agree_at at k near))
        ∙ take-take k (suc k) (drop at doc) (omega arith)

    same_errors : errors_at other edition at there ≡ errors_at doc edition at h
    same_errors = rw (same_token.0, same_text)

    same_there : token_there other edition at there ≡ token_there doc edition at h
    same_there = rw (same_token.0, same_token.1, line_same at (omega arith))

    -- the whole documents' numbers, where it is the first that is not UTF-8
    same_refusal : Utf8 (take at doc) → is_utf8 (front_text (drop at doc)) ≡ false → not_utf8 other ≡ not_utf8 doc
    same_refusal front bad =
        let broken = unread (front_text (drop at doc)) bad in
        let size = same_token.1 in
        let part_is : take (suc k) (drop at other) ≡ take (suc k) (drop at doc) = sym (agree_at at k near) in
        let front-other : Utf8 (take at other) = subst Utf8 (take_same at (omega arith)) front in
        let clean-other = subst (λ (m : ℕ). Clean (drop at other) m) size (token_clean (drop at other)) in
        let fits-other : k ≤ length (drop at other) = omega (arith, token_fits (drop at other)) in
        let broken-other : Utf8 (take k (drop at other)) → ⊥ = λ u. broken (subst Utf8 (ap (λ (m : ℕ). take m (drop at other)) (sym size) ∙ same_text) u) in
        let v = whole_valid doc at k (omega arith) front (token_clean (drop at doc)) (token_fits (drop at doc)) broken in
        let w = whole_valid other at k (omega (arith, there)) front-other clean-other fits-other broken-other in
        let f = whole_fault doc at k (omega arith) front (token_clean (drop at doc)) (token_fits (drop at doc)) broken in
        let g = whole_fault other at k (omega (arith, there)) front-other clean-other fits-other broken-other in
        let valid : valid_prefix other ≡ valid_prefix doc = w ∙ ap (λ (x : List ℕ). at + valid_prefix x) part_is ∙ sym v in
        let fault : fault_len (drop (valid_prefix other) other) ≡ fault_len (drop (valid_prefix doc) doc) =
        g ∙ ap (λ (x : List ℕ). fault_len (drop (valid_prefix x) x)) part_is ∙ sym f in
        ap (λ (x : ℕ). Err (NotUtf8 x (fault_len (drop (valid_prefix other) other)))) valid
        ∙ ap (λ (x : ℕ). Err (NotUtf8 (valid_prefix doc) x)) fault

  pub same_from : (fuel edition at : ℕ) → length doc ≤ at + fuel → at ≤ length doc → Utf8 (take at doc) → reach_from doc edition at ≤ n
      → first_from other edition at ≡ first_from doc edition at
  same_from zero edition at most l front near = absurd (omega (arith, reach_end doc edition at (omega arith)))
  same_from (suc fuel) edition at most l front near =
      elim (dec_lt at (length doc)) [
        | no h ↦ absurd (omega (arith, reach_end doc edition at (omega arith)))
        | yes h ↦
            same_turn edition at h l front (is_utf8 (front_text (drop at doc))) (errors_at doc edition at h) refl refl
            (rw (reach_turn doc edition at h) at near)
            (same_from fuel edition (at + token_len (drop at doc)) (omega (arith, token_long_at doc at h)) (token_fits_at doc at l))
      ]
    where
      same_turn : (edition at : ℕ) (h : at < length doc) → at ≤ length doc → Utf8 (take at doc) → (u : Bool) (errors : List (List ℕ))
          → is_utf8 (front_text (drop at doc)) ≡ u → errors_at doc edition at h ≡ errors → let m = at + token_len (drop at doc) in
          cond u (unbroken errors (reach_from doc edition m) m) m ≤ n
          → (Utf8 (take m doc) → reach_from doc edition m ≤ n → first_from other edition m ≡ first_from doc edition m)
          → first_from other edition at ≡ first_from doc edition at
      same_turn edition at h l front true [] is none near rest =
          let m = at + token_len (drop at doc) in
          let by : m ≤ n = omega (arith, reach_on (length doc) doc edition m (omega arith) (token_fits_at doc at l)) in
          let read = ap is_utf8 (same_text edition at h by) ∙ is in
          turn_sound other edition at (there edition at h by) read (same_errors edition at h by ∙ none)
          ∙ ap (λ (x : ℕ). first_from other edition (at + x)) (same_token edition at h by).1
          ∙ rest (front_on doc edition at h front (is_read _ is)) near
          ∙ sym (turn_sound doc edition at h is none)
      same_turn edition at h l front true (e ∷ es) is some near rest =
          turn_broken other edition at (there edition at h near) (ap is_utf8 (same_text edition at h near) ∙ is) e es (same_errors edition at h near ∙ some)
          ∙ ap (λ (t : Token). Ok (Some (t, recorded_error e))) (same_there edition at h near)
          ∙ sym (turn_broken doc edition at h is e es some)
      same_turn edition at h l front false errors is none near rest =
          turn_refused other edition at (there edition at h near) (ap is_utf8 (same_text edition at h near) ∙ is)
          ∙ same_refusal edition at h near front is
          ∙ sym (turn_refused doc edition at h is)
