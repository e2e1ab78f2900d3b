-- The calls over any number of parts: a state that parts led to knows the joined bytes as far as it needs them.
use Prim.Native.Nat.{ℕ, ◌+◌, ◌≤◌, ◌<◌}
use mathlib.Core.Path.{◌≡◌, refl, sym, ap, ◌∙◌, subst}
use mathlib.Core.Bool.{false}
use mathlib.Core.List.{List, [], ◌∷◌, ◌++◌, append-nil}
use native.Mathlib.Omega.{arith}
use Rattle.std.specs.Prelude.{Result, Ok, Err}
use native.Mathlib.Decide.{dec_lt}
use native.Mathlib.Nat.{zero-add}
use borrow.Author.Tests.{lt-ltb, le-ltb, ne_eqb}
use lib.ListN.{length, drop, length-append}
use lib.Seq.{drop_at}
use lib.Dec.{ltb}
use Rattle.text_refusals.specs.Refusals.{limit}
use Rattle.text_refusals.specs.declared.Refusal.{Refusal}
use Rattle.text_refusals.specs.declared.Refusal.TheVariants.{NotUtf8, TooLong, FewTokens}
use Rattle.text_scalars.specs.Utf8.{Utf8}
use Rattle.text_scalars.specs.Utf8Read.{valid_prefix}
use Rattle.text_scalars.proofs.ReadLaws.{valid_le, utf8_iff}
use Rattle.text_characters.specs.Lead.{fault_len}
use Rattle.text.specs.CheckMeans.{check_of}
use Rattle.text.specs.LengthTells.{Mendable}
use Rattle.text.proofs.MendLaws.{answer_tells}
use Rattle.lexer_token.specs.declared.Token.{Token}
use Rattle.built_characters.specs.declared.Character.{Character}
use Rattle.built_characters.specs.declared.Character.TheVariants.{Whole, Begun}
use Rattle.built_lexing.specs.declared.states.Lexing.{Lexing}
use Rattle.built_parts.specs.declared.checks.Checked.{Checked}
use Rattle.built_parts.specs.declared.checks.Faulty.{Faulty as Fault}
use Rattle.built_parts.specs.declared.Parts.{Parts}
use Rattle.built_lexing.specs.States.{unread, moved, given_by, state_after, last_tokens}
use Rattle.built_parts.specs.Checking.{good as Good, bad as Bad, checked}
use Rattle.built_parts.specs.Feeding.{parts_of, no_parts, closed, is_over, fed, checked_from, feed_of, close_of}
use Rattle.built_lexing.proofs.StepLaws.{moved_at, moved_low}
use Rattle.built_parts.proofs.CharacterLaws.{read_fault, read_some, read_all}
use Rattle.built_parts.proofs.PassLaws.{Walking, Faulty, CheckTold, told, walking_prefix, checked_join}
use Rattle.theorems_parts.specs.Decided.{Decided}
use Rattle.theorems_parts.specs.Calls.{Calls, begun, answered, refused, CallsDecided, CallsFirst, WholeLexing, CallsClosed, PartLong, Beyond, PartBroken, PartRefused, PartMendable, CloseBroken, CloseRefused, CloseValid}
use Rattle.theorems_parts.proofs.Meaning.{state_join, given_join, tokens_closed}
use Rattle.theorems_parts.proofs.Deciding.{given_decided}
use Rattle.theorems_parts.proofs.Cases.{clash, answer_of, parts_of_lem, feed_long, feed_bad, feed_few, feed_given, close_begun, close_few, close_whole, after_few}

-- ---- places and lines of a state

state_at : (l : Lexing) (s : List ℕ) → (state_after l s).at ≡ l.at + length s
unfolding state_after
state_at l [] = omega arith
state_at l (b ∷ s) = state_at (moved l b).next s ∙ omega (arith, moved_at l b)

state_low : (l : Lexing) (s : List ℕ) → l.line ≤ l.at + 1 → (state_after l s).line ≤ (state_after l s).at + 1
unfolding state_after
state_low l [] h = h
state_low l (b ∷ s) h = state_low (moved l b).next s (moved_low l b h)

-- ---- what a state that parts led to knows

-- it went on so far, is the state after the joined bytes, and knows their characters
record Reached (doc : List ℕ) (p : Parts) : Type 0 where
  going : p.ended ≡ false
  within : length doc ≤ limit
  lexed : p.lexing ≡ state_after unread doc
  sound : checked Whole 0 0 doc ≡ Good p.character p.valid

reached_start : Reached [] no_parts
unfolding state_after checked
reached_start = record { going = refl; within = omega arith; lexed = refl; sound = refl }

module _ (doc : List ℕ) (p : Parts) (r : Reached doc p) where
  place : p.lexing.at ≡ length doc
  place = ap (λ (l : Lexing). l.at) r.lexed ∙ state_at unread doc ∙ zero-add (length doc)

  goes_on_lem : is_over p ≡ false
  goes_on_lem =
      let low : p.lexing.line ≤ p.lexing.at + 1 = rw r.lexed (state_low unread doc (omega arith)) in
      rw (r.going, le-ltb (p.lexing.at + 1) p.lexing.line low)

  check_on : (s : List ℕ) → checked Whole 0 0 (doc ++ s) ≡ checked_from p s
  check_on s = checked_join Whole 0 0 doc s ∙ rw (r.sound, zero-add (length doc), place)

  long_of : (s : List ℕ) → length (doc ++ s) ≡ p.lexing.at + length s
  long_of s = length-append doc s ∙ rw place

  reach_long : (s : List ℕ) (room : ℕ) → limit < length (doc ++ s) → feed_of p s room ≡ fed (Err TooLong) (closed p)
  reach_long s room h = feed_long p s room goes_on_lem (lt-ltb limit (p.lexing.at + length s) (omega (arith, long_of s)))

  module _ (s : List ℕ) (fits : length (doc ++ s) ≤ limit) where
    short : ltb limit (p.lexing.at + length s) ≡ false
    short = le-ltb limit (p.lexing.at + length s) (omega (arith, long_of s))

    reach_bad : (v n room : ℕ) → checked Whole 0 0 (doc ++ s) ≡ Bad v n → feed_of p s room ≡ fed (Err (NotUtf8 v n)) (closed p)
    reach_bad v n room e = feed_bad p s room goes_on_lem short v n (sym (check_on s) ∙ e)

    -- the state after a part that is taken
    abbrev after : Character → ℕ → Parts
    after c v = parts_of (state_after p.lexing s) c v false

    reach_given : (c : Character) (v room : ℕ) → checked Whole 0 0 (doc ++ s) ≡ Good c v → length (given_by p.lexing s) ≤ room
        → feed_of p s room ≡ fed (Ok (length (given_by p.lexing s))) (after c v)
    reach_given c v room e h = feed_given p s room goes_on_lem short c v (sym (check_on s) ∙ e) h

    reach_few : (c : Character) (v room : ℕ) → checked Whole 0 0 (doc ++ s) ≡ Good c v → room < length (given_by p.lexing s)
        → feed_of p s room ≡ fed (Err (FewTokens (length (given_by p.lexing s)))) p
    reach_few c v room e h = feed_few p s room goes_on_lem short c v (sym (check_on s) ∙ e) h

    reached_after : (c : Character) (v : ℕ) → checked Whole 0 0 (doc ++ s) ≡ Good c v → Reached (doc ++ s) (after c v)
    reached_after c v e = record {
      going = refl;
      within = fits;
      lexed = ap (λ (l : Lexing). state_after l s) r.lexed ∙ sym (state_join unread doc s);
      sound = e;
    }

-- ---- a fault, and its numbers

broken_by : (s : List ℕ) (v n : ℕ) → length s ≤ limit → valid_prefix s ≡ v → v < length s → fault_len (drop v s) ≡ n
    → check_of s ≡ Err (NotUtf8 v n)
unfolding check_of
broken_by s v n fits e h f =
    let d : valid_prefix s ≡ length s → ⊥ = λ g. omega arith in
    rw (le-ltb limit (length s) fits, ne_eqb (valid_prefix s) (length s) d, e, f)

faulty_beyond : (doc : List ℕ) (v n : ℕ) → length doc ≤ limit → Faulty 0 doc v n → Beyond doc v n
faulty_beyond doc v n fits h =
    let is : v ≡ h.k = h.is ∙ zero-add h.k in
    record {
      unmendable = λ (more, w). omega (arith, h.longest more, (utf8_iff (doc ++ more)).1 w, h.within, length-append doc more);
      numbers = λ more l.
          rw is (broken_by (doc ++ more) h.k n l (h.longest more) (omega (arith, h.within, length-append doc more)) (h.fault more));
    }

-- bytes whose characters are sound can be mended
sound_mendable : (doc : List ℕ) (c : Character) (v : ℕ) → length doc ≤ limit → Walking 0 doc c v → Mendable doc
sound_mendable doc c v fits i =
    elim (dec_lt (valid_prefix doc) (length doc)) [
      | no h ↦ ([], subst (λ (x : List ℕ). Utf8 x) (sym (append-nil doc)) ((utf8_iff doc).0 (omega (arith, valid_le doc))))
      | yes h ↦
          let n = walking_prefix 0 doc c v i in
          let size : length doc ≡ length i.u + length i.r = ap length (sym i.split) ∙ length-append i.u i.r in
          let left : drop (valid_prefix doc) doc ≡ i.r = rw n (ap (drop (length i.u)) (sym i.split) ∙ drop_at i.u i.r (length i.u) refl) in
          let none : fault_len (drop (valid_prefix doc) doc) ≡ 0 = ap fault_len left ∙ read_fault i.r c i.reads (omega arith) in
          (answer_tells doc (valid_prefix doc) 0 (sym (broken_by doc (valid_prefix doc) 0 fits refl h none))).1.0 refl
    ]

whole_valid : (doc : List ℕ) (v : ℕ) → Walking 0 doc Whole v → Utf8 doc
whole_valid doc v i =
    let none = read_all i.r i.reads in
    subst (λ (x : List ℕ). Utf8 x) (sym (append-nil i.u) ∙ ap (λ (x : List ℕ). i.u ++ x) (sym none) ∙ i.split) i.chars

begun_invalid : (doc : List ℕ) (left low high v : ℕ) → length doc ≤ limit → Walking 0 doc (Begun left low high) v
    → (check_of doc ≡ Err (NotUtf8 v 0)) × (Utf8 doc → ⊥)
begun_invalid doc left low high v fits i =
    let n = walking_prefix 0 doc (Begun left low high) v i in
    let more = read_some i.r left low high i.reads in
    let size : length doc ≡ length i.u + length i.r = ap length (sym i.split) ∙ length-append i.u i.r in
    let at : v ≡ length i.u = i.place ∙ zero-add (length i.u) in
    let rest : drop v doc ≡ i.r = rw at (ap (drop (length i.u)) (sym i.split) ∙ drop_at i.u i.r (length i.u) refl) in (
      broken_by doc v 0 fits (n ∙ sym at) (omega arith) (ap fault_len rest ∙ read_fault i.r (Begun left low high) i.reads more),
      λ w. omega (arith, n, (utf8_iff doc).1 w),
    )

-- what the characters of some bytes come to
told_of : (doc : List ℕ) (x : Result Checked Fault) → checked Whole 0 0 doc ≡ x → CheckTold 0 doc x
told_of doc x e = subst (CheckTold 0 doc) e (told 0 0 doc)

-- ---- the calls

not_refused : {P : Type 0} {n : ℕ} {r : Refusal} → ◌≡◌ {A = Result ℕ Refusal} (Ok n) (Err r) → P
not_refused e = clash cc

module _ (doc : List ℕ) (p : Parts) (r : Reached doc p) (s : List ℕ) (room n : ℕ) (q : Parts) where
  -- an answered part is taken
  reach_answered : feed_of p s room ≡ fed (Ok n) q → Reached (doc ++ s) q
  reach_answered e =
      elim (dec_lt limit (length (doc ++ s))) [
        | yes h ↦ not_refused (answer_of (sym e ∙ reach_long doc p r s room h))
        | no h ↦ go (omega arith) (checked Whole 0 0 (doc ++ s)) refl
      ]
    where
      go : length (doc ++ s) ≤ limit → (x : Result Checked Fault) → checked Whole 0 0 (doc ++ s) ≡ x → Reached (doc ++ s) q
      go fits (Err f) c = not_refused (answer_of (sym e ∙ reach_bad doc p r s fits f.valid f.length room c))
      go fits (Ok x) g =
          let c = x.character in
          let v = x.valid in
          elim (dec_lt room (length (given_by p.lexing s))) [
            | yes k ↦ not_refused (answer_of (sym e ∙ reach_few doc p r s fits c v room g k))
            | no k ↦ subst (Reached (doc ++ s)) (parts_of_lem (sym (reach_given doc p r s fits c v room g (omega arith)) ∙ e)) (reached_after doc p r s fits c v g)
          ]

reached : {doc : List ℕ} {ts : List Token} {p : Parts} → Calls doc ts p → Reached doc p × (ts ≡ given_by unread doc)
unfolding given_by
reached begun = (reached_start, refl)
reached (answered {doc} {ts} {p} c s room n q e) =
    let i = reached c in (
      reach_answered doc p i.0 s room n q e,
      ap (λ (x : List Token). x ++ given_by p.lexing s) i.1
          ∙ ap (λ (l : Lexing). given_by unread doc ++ given_by l s) i.0.lexed ∙ sym (given_join unread doc s),
    )
reached (refused {doc} {ts} {p} c s room n q e) =
    let i = reached c in
    (subst (Reached doc) (sym ((after_few p).0 s room n q e).same) i.0, i.1)

pub calls_decided : CallsDecided
calls_decided doc ts p c = subst (Decided doc) (sym (reached c).1) (given_decided doc)

pub calls_first : CallsFirst
calls_first doc ts p c more = (calls_decided doc ts p c).common more

module _ (doc : List ℕ) (p : Parts) (r : Reached doc p) where
  at_fits : ltb limit p.lexing.at ≡ false
  at_fits = le-ltb limit p.lexing.at (omega (arith, place doc p r, r.within))

  reach_begun : (left low high room : ℕ) → p.character ≡ Begun left low high → close_of p room ≡ fed (Err (NotUtf8 p.valid 0)) (closed p)
  reach_begun left low high room e = close_begun p room (goes_on_lem doc p r) at_fits left low high e

  walking : (d : Character) → p.character ≡ d → Walking 0 doc d p.valid
  walking d e = subst (λ (x : Character). Walking 0 doc x p.valid) e (told_of doc (Good p.character p.valid) r.sound)

pub calls_closed : CallsClosed
calls_closed doc ts p c room n q e = go p.character refl (reached c)
  where
    go : (d : Character) → p.character ≡ d → Reached doc p × (ts ≡ given_by unread doc) → WholeLexing doc (ts ++ last_tokens p.lexing)
    go (Begun left low high) f (r, t) = not_refused (answer_of (sym e ∙ reach_begun doc p r left low high room f))
    go Whole f (r, t) = record {
      tokens = ap (λ (x : List Token). x ++ last_tokens p.lexing) t
          ∙ ap (λ (l : Lexing). given_by unread doc ++ last_tokens l) r.lexed ∙ tokens_closed doc;
      within = r.within;
      valid = whole_valid doc p.valid (walking doc p r Whole f);
    }

-- ---- refusals

pub part_long : PartLong
part_long doc ts p c s room h = reach_long doc p (reached c).0 s room h

pub part_broken : PartBroken
part_broken doc ts p c s room fits n = go (checked Whole 0 0 (doc ++ s)) refl (reached c).0
  where
    go : (x : Result Checked Fault) → checked Whole 0 0 (doc ++ s) ≡ x → Reached doc p
        → (valid : ℕ) × (len : ℕ) × (feed_of p s room ≡ fed (Err (NotUtf8 valid len)) (closed p)) × Beyond (doc ++ s) valid len
    go (Err f) e r = (
      f.valid,
      f.length,
      reach_bad doc p r s fits f.valid f.length room e,
      faulty_beyond (doc ++ s) f.valid f.length fits (told_of (doc ++ s) (Err f) e),
    )
    go (Ok g) e r = absurd (n (sound_mendable (doc ++ s) g.character g.valid fits (told_of (doc ++ s) (Ok g) e)))

pub part_refused : PartRefused
part_refused doc ts p c s room v n q e =
    elim (dec_lt limit (length (doc ++ s))) [
      | yes h ↦ let w : ◌≡◌ {A = Result ℕ Refusal} (Err TooLong) (Err (NotUtf8 v n)) = answer_of (sym (reach_long doc p (reached c).0 s room h) ∙ e) in clash cc
      | no h ↦ go (omega arith) (checked Whole 0 0 (doc ++ s)) refl (reached c).0
    ]
  where
    go : length (doc ++ s) ≤ limit → (x : Result Checked Fault) → checked Whole 0 0 (doc ++ s) ≡ x → Reached doc p → Beyond (doc ++ s) v n
    go fits (Err f) d r =
        let w = f.valid in
        let k = f.length in
        let same : ◌≡◌ {A = Result ℕ Refusal} (Err (NotUtf8 w k)) (Err (NotUtf8 v n)) = answer_of (sym (reach_bad doc p r s fits w k room d) ∙ e) in
        let v-is : w ≡ v = cc in
        let n-is : k ≡ n = cc in
        rw (← v-is, ← n-is) (faulty_beyond (doc ++ s) w k fits (told_of (doc ++ s) (Err f) d))
    go fits (Ok x) g r =
        let d = x.character in
        let w = x.valid in
        elim (dec_lt room (length (given_by p.lexing s))) [
          | yes k ↦
              let f : ◌≡◌ {A = Result ℕ Refusal} (Err (FewTokens (length (given_by p.lexing s)))) (Err (NotUtf8 v n)) =
              answer_of (sym (reach_few doc p r s fits d w room g k) ∙ e) in
              clash cc
          | no k ↦ not_refused (answer_of (sym (reach_given doc p r s fits d w room g (omega arith)) ∙ e))
        ]

pub part_mendable : PartMendable
part_mendable doc ts p c s fits m = go (checked Whole 0 0 (doc ++ s)) refl (reached c).0
  where
    go : (x : Result Checked Fault) → checked Whole 0 0 (doc ++ s) ≡ x → Reached doc p
        → (q : Parts) × ((room : ℕ) → length (given_by p.lexing s) ≤ room → feed_of p s room ≡ fed (Ok (length (given_by p.lexing s))) q)
        × ((room : ℕ) → room < length (given_by p.lexing s) → feed_of p s room ≡ fed (Err (FewTokens (length (given_by p.lexing s)))) p)
    go (Err f) e r = absurd ((faulty_beyond (doc ++ s) f.valid f.length fits (told_of (doc ++ s) (Err f) e)).unmendable m)
    go (Ok g) e r = (
      after doc p r s fits g.character g.valid,
      λ room h. reach_given doc p r s fits g.character g.valid room e h,
      λ room h. reach_few doc p r s fits g.character g.valid room e h,
    )

pub close_broken : CloseBroken
close_broken doc ts p c room n = go p.character refl (reached c).0
  where
    go : (d : Character) → p.character ≡ d → Reached doc p
        → (r : Refusal) × (close_of p room ≡ fed (Err r) (closed p)) × (check_of doc ≡ Err r)
    go (Begun left low high) e r = (
      NotUtf8 p.valid 0,
      reach_begun doc p r left low high room e,
      (begun_invalid doc left low high p.valid r.within (walking doc p r (Begun left low high) e)).0,
    )
    go Whole e r = absurd (n (whole_valid doc p.valid (walking doc p r Whole e)))

pub close_refused : CloseRefused
close_refused doc ts p c room v n q e = go p.character refl (reached c).0
  where
    go : (d : Character) → p.character ≡ d → Reached doc p → (Utf8 doc → ⊥) × (check_of doc ≡ Err (NotUtf8 v n))
    go (Begun left low high) f r =
        let same : ◌≡◌ {A = Result ℕ Refusal} (Err (NotUtf8 p.valid 0)) (Err (NotUtf8 v n)) = answer_of (sym (reach_begun doc p r left low high room f) ∙ e) in
        let v-is : p.valid ≡ v = cc in
        let n-is : 0 ≡ n = cc in
        let i = begun_invalid doc left low high p.valid r.within (walking doc p r (Begun left low high) f) in
        (i.1, rw (← v-is, ← n-is) i.0)
    go Whole f r =
        elim (dec_lt room (length (last_tokens p.lexing))) [
          | yes k ↦
              let w : ◌≡◌ {A = Result ℕ Refusal} (Err (FewTokens (length (last_tokens p.lexing)))) (Err (NotUtf8 v n)) =
              answer_of (sym (close_few p room (goes_on_lem doc p r) (at_fits doc p r) f k) ∙ e) in
              clash cc
          | no k ↦ not_refused (answer_of (sym (close_whole p room (goes_on_lem doc p r) (at_fits doc p r) f (omega arith)) ∙ e))
        ]

pub close_valid : CloseValid
close_valid doc ts p c w = go p.character refl (reached c).0
  where
    go : (d : Character) → p.character ≡ d → Reached doc p
        → ((room : ℕ) → length (last_tokens p.lexing) ≤ room → close_of p room ≡ fed (Ok (length (last_tokens p.lexing))) (closed p))
        × ((room : ℕ) → room < length (last_tokens p.lexing) → close_of p room ≡ fed (Err (FewTokens (length (last_tokens p.lexing)))) p)
    go (Begun left low high) e r =
        absurd ((begun_invalid doc left low high p.valid r.within (walking doc p r (Begun left low high) e)).1 w)
    go Whole e r = (
      λ room h. close_whole p room (goes_on_lem doc p r) (at_fits doc p r) e h,
      λ room h. close_few p room (goes_on_lem doc p r) (at_fits doc p r) e h,
    )
