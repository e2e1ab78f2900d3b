-- What a part and the end come to, case by case, with the records that are left; and the tests of the limit and of the line.
-- Assumes nothing.
use Prim.Native.Nat.{ℕ, ◌+◌, ◌-◌, ◌≤◌, ◌<◌}
use mathlib.Core.Path.{◌≡◌, refl, sym, ap, ◌∙◌}
use mathlib.Core.Bool.{Bool, true, false}
use mathlib.Core.List.{List, [], ◌∷◌, ◌++◌, map}
use native.Mathlib.Omega.{arith}
use Rattle.std.specs.Prelude.{Result, Ok, Err}
use lib.ListN.{length, drop, length-append}
use lib.Seq.{sets, sets-eq}
use lib.Dec.{ltb}
use borrow.Author.Tests.{lt-ltb, le-ltb, ltb-true, ltb-false}
use Rattle.text_refusals.specs.Refusals.{limit}
use Rattle.lexer_token.specs.declared.Token.{Token}
use Rattle.lexer_token.specs.Records.{record_of}
use Rattle.lexer.specs.Tokens.{eof_at}
use Rattle.built_bytes.specs.Turns.{pending_of}
use Rattle.built_lexing.specs.declared.states.Lexing.{Lexing}
use Rattle.built_lexing.specs.declared.PartLexed.{PartLexed}
use Rattle.built_lexing.specs.declared.NotLexed.{NotLexed}
use Rattle.built_lexing.specs.declared.NotLexed.TheVariants.{Few, Over}
use Rattle.built_lexing.specs.States.{tokens_in, given_by, state_after, pending_token, last_tokens}
use Rattle.built_lexing.specs.Filling.{astray, lexed_part, lexed_end, placed, part_memory, end_memory}
use Rattle.built_lexing.proofs.PartLaws.{records_length, stores_join}

-- stores from the front on
over_front : (ts : List Token) (old new : List (List ℕ)) → length ts ≤ length old → new ≡ sets old 0 (map record_of ts)
    → new ≡ map record_of ts ++ drop (length ts) old
over_front ts old new h w =
    let size = records_length ts in
    let front : sets old 0 (map record_of ts) ≡ map record_of ts ++ drop (0 + length (map record_of ts)) old =
    sets-eq (map record_of ts) old 0 (omega arith) in
    let n : 0 + length (map record_of ts) ≡ length ts = omega arith in
    w ∙ front ∙ ap (λ (k : ℕ). map record_of ts ++ drop k old) n

-- ---- a part

module _ (l : Lexing) (s : List ℕ) (old : List (List ℕ)) where
  abbrev needs : ℕ
  needs = length (given_by l s)

  -- an answer, with the records that it leaves
  abbrev Lexes : Result PartLexed NotLexed → List (List ℕ) → Type 0
  Lexes x new = record { answer : x ≡ lexed_part l s (length old); memory : new ≡ part_memory l s old }

  lexes_as : (x : Result PartLexed NotLexed) (new : List (List ℕ)) → lexed_part l s (length old) ≡ x → new ≡ placed x (given_by l s) old → Lexes x new
  unfolding part_memory
  lexes_as x new e w = record { answer = sym e; memory = rw e w }

  pub part_astray : astray l ≡ true → Lexes (Err Over) old
  unfolding lexed_part
  part_astray t = lexes_as (Err Over) old (rw t) refl

  module _ (straight : astray l ≡ false) where
    pub part_long : ltb limit (l.at + length s) ≡ true → Lexes (Err Over) old
    unfolding lexed_part
    part_long t = lexes_as (Err Over) old (rw (straight, t)) refl

    module _ (fits : ltb limit (l.at + length s) ≡ false) where
      pub part_few : (r : NotLexed) → (length old < needs) × (r ≡ Few needs) → Lexes (Err r) old
      unfolding lexed_part
      part_few r w =
          let few : length old < needs = w.0 in
          lexes_as (Err r) old (rw (straight, fits, lt-ltb (length old) needs few, w.1)) refl

      pub part_put : (p : PartLexed) (new : List (List ℕ)) → p.count ≡ needs → p.next ≡ state_after l s → needs ≤ length old
          → new ≡ sets old 0 (map record_of (given_by l s)) → Lexes (Ok p) new
      unfolding lexed_part
      part_put p new is after h w =
          lexes_as (Ok p) new (rw (straight, fits, le-ltb (length old) needs h, ← is, ← after)) (over_front (given_by l s) old new h w)

-- ---- the end

last_count : (l : Lexing) → length (last_tokens l) ≡ length (tokens_in (pending_token (pending_of l.mode) l)) + 1
unfolding last_tokens
last_count l = length-append (tokens_in (pending_token (pending_of l.mode) l)) (eof_at l.at l.line ∷ [])

module _ (l : Lexing) (old : List (List ℕ)) where
  abbrev waiting : ℕ
  waiting = length (tokens_in (pending_token (pending_of l.mode) l))

  abbrev Ends : Result PartLexed NotLexed → List (List ℕ) → Type 0
  Ends x new = record { answer : x ≡ lexed_end l (length old); memory : new ≡ end_memory l old }

  ends_as : (x : Result PartLexed NotLexed) (new : List (List ℕ)) → lexed_end l (length old) ≡ x → new ≡ placed x (last_tokens l) old → Ends x new
  unfolding end_memory
  ends_as x new e w = record { answer = sym e; memory = rw e w }

  pub end_few : (n : ℕ) → n ≡ waiting + 1 → length old < n → Ends (Err (Few n)) old
  unfolding lexed_end
  end_few n is h = ends_as (Err (Few n)) old (rw (last_count l, ← is, lt-ltb (length old) n h)) refl

  pub end_put : waiting + 1 ≤ length old → (k m : ℕ) (then new : List (List ℕ)) → k ≡ waiting → m ≡ k + 1
      → then ≡ sets old 0 (map record_of (tokens_in (pending_token (pending_of l.mode) l)))
      → new ≡ sets then k (map record_of (eof_at l.at l.line ∷ [])) → Ends (Ok (record { count = m; next = l })) new
  unfolding lexed_end last_tokens
  end_put h k m then new is a b w =
      let ts = tokens_in (pending_token (pending_of l.mode) l) in
      let all : new ≡ sets old 0 (map record_of (last_tokens l)) =
      w ∙ stores_join old then 0 k ts (eof_at l.at l.line ∷ []) (omega (arith, is)) b in
      let count : m ≡ waiting + 1 = omega arith in
      ends_as (Ok (record { count = m; next = l })) new (rw (last_count l, le-ltb (length old) (waiting + 1) h, count))
      (over_front (last_tokens l) old new (omega (arith, last_count l)) all)

-- ---- the limit, and the line of a state

pub limit_passed : (at n : ℕ) → n ≤ 16777216 → ltb (16777216 - n) at ≡ ltb 16777216 (at + n)
limit_passed at n h = go (ltb (16777216 - n) at) refl
  where
    go : (x : Bool) → ltb (16777216 - n) at ≡ x → x ≡ ltb 16777216 (at + n)
    go true e = sym (lt-ltb 16777216 (at + n) (omega (arith, ltb-true (16777216 - n) at e)))
    go false e = sym (le-ltb 16777216 (at + n) (omega (arith, ltb-false (16777216 - n) at e)))

pub line_passes : (at line : ℕ) → 1 ≤ line → ltb at (line - 1) ≡ ltb (at + 1) line
line_passes at line h = go (ltb at (line - 1)) refl
  where
    go : (x : Bool) → ltb at (line - 1) ≡ x → x ≡ ltb (at + 1) line
    go true e = sym (lt-ltb (at + 1) line (omega (arith, ltb-true at (line - 1) e)))
    go false e = sym (le-ltb (at + 1) line (omega (arith, ltb-false at (line - 1) e)))

-- a state that is not astray has a line that does not pass its place plus 1, and a part that fits stays within the limit
pub straight_line : (l : Lexing) (x : Bool) → x ≡ astray l → x ≡ false → l.line ≤ l.at + 1
straight_line l x e f = ltb-false (l.at + 1) l.line (sym e ∙ f)

pub part_fits : (at n : ℕ) (x : Bool) → x ≡ ltb 16777216 (at + n) → x ≡ false → at + n ≤ 16777216
part_fits at n x e f = ltb-false 16777216 (at + n) (sym e ∙ f)
