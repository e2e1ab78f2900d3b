-- Brackets counted: what a rule derives closes as many as it opens; and how many are open at a place.
-- Assumes nothing.
use Prim.Native.Nat.{ℕ, ◌+◌, ◌≤◌}
use mathlib.Core.Path.{◌≡◌, refl, sym, ap, ◌∙◌}
use mathlib.Core.Bool.{Bool, true, false}
use mathlib.Core.List.{List, [], ◌∷◌, ◌++◌, append_assoc}
use native.Mathlib.Decide.{dec_lt}
use native.Mathlib.Omega.{arith}
use lib.ListN.{length, take, drop, take-append-drop}
use Rattle.decoder_rules.specs.declared.Edition.{Edition}
use Rattle.built_values.specs.Values.{Ws, WsCommentNewline, SimpleKey, Spaced, DotKeys, Key, StringToken, ScalarPart, ScalarRun, Val, Keyval, Array, ArrayValues, InlineTable, Keyvals}
use Rattle.text_refusals.specs.Refusals.{depth}
use Rattle.built_values.specs.Depth.{is_opening, is_closing, count_if, Deep}
use Rattle.built_values.specs.Checkers.{Takes, Inside}

pub count_append : (p : ℕ → Bool) (s t : List ℕ) → count_if p (s ++ t) ≡ count_if p s + count_if p t
unfolding count_if
count_append p [] t = omega arith
count_append p (k ∷ s) t = omega (arith, count_append p s t)

-- as many closing brackets as opening ones
pub record Even (s : List ℕ) : Type 0 where
  pub same : count_if is_opening s ≡ count_if is_closing s

even_append : {s t : List ℕ} → Even s → Even t → Even (s ++ t)
even_append {s} {t} a b =
    record { same = omega (arith, count_append is_opening s t, count_append is_closing s t, a.same, b.same) }

-- one kind more that is no bracket
abbrev Plain : ℕ → Type 0
Plain k = (is_opening k ≡ false) × (is_closing k ≡ false)

even_cons : (k : ℕ) {s : List ℕ} → Plain k → Even s → Even (k ∷ s)
unfolding count_if
even_cons k (a, b) e = record { same = rw (a, b) (omega (arith, e.same)) }

even_nil : Even []
unfolding count_if
even_nil = record { same = refl }

-- ---- blanks, keys and scalars have none

even_ws : {t : List ℕ} → Ws t → Even t
even_ws Ws.stop = even_nil
even_ws (Ws.more d) = even_cons 32 (refl, refl) (even_ws d)

even_lines : {t : List ℕ} → WsCommentNewline t → Even t
even_lines WsCommentNewline.stop = even_nil
even_lines (WsCommentNewline.blank d) = even_cons 32 (refl, refl) (even_lines d)
even_lines (WsCommentNewline.line d) = even_cons 10 (refl, refl) (even_lines d)
even_lines (WsCommentNewline.remark d) = even_cons 35 (refl, refl) (even_cons 10 (refl, refl) (even_lines d))

plain_simple : {k : ℕ} → SimpleKey k → Plain k
plain_simple SimpleKey.unquoted = (refl, refl)
plain_simple SimpleKey.basic = (refl, refl)
plain_simple SimpleKey.literal = (refl, refl)

plain_string : {k : ℕ} → StringToken k → Plain k
plain_string StringToken.ml_basic = (refl, refl)
plain_string StringToken.basic = (refl, refl)
plain_string StringToken.ml_literal = (refl, refl)
plain_string StringToken.literal = (refl, refl)

plain_part : {k : ℕ} → ScalarPart k → Plain k
plain_part ScalarPart.atom = (refl, refl)
plain_part ScalarPart.dot = (refl, refl)

pub even_spaced : {q : ℕ} {t : List ℕ} → Plain q → Spaced q t → Even t
even_spaced {q} p (Spaced.spaced a b) = even_append (even_ws a) (even_cons q p (even_ws b))

even_dots : {t : List ℕ} → DotKeys t → Even t
even_dots (DotKeys.one {k} d e) = even_append (even_spaced (refl, refl) d) (even_cons k (plain_simple e) even_nil)
even_dots (DotKeys.more {k} d e f) = even_append (even_spaced (refl, refl) d) (even_cons k (plain_simple e) (even_dots f))

pub even_key : {t : List ℕ} → Key t → Even t
even_key (Key.simple_key {k} d) = even_cons k (plain_simple d) even_nil
even_key (Key.dotted_key {k} d e) = even_cons k (plain_simple d) (even_dots e)

even_scalar : {t : List ℕ} → ScalarRun t → Even t
even_scalar (ScalarRun.one {k} p) = even_cons k (plain_part p) even_nil
even_scalar (ScalarRun.more {k} p d) = even_cons k (plain_part p) (even_scalar d)

-- ---- a value closes what it opens

-- brackets around
even_square : {t : List ℕ} → Even t → Even (91 ∷ (t ++ (93 ∷ [])))
unfolding count_if
even_square {t} e =
    record { same = omega (arith, count_append is_opening t (93 ∷ []), count_append is_closing t (93 ∷ []), e.same) }

even_curly : {t : List ℕ} → Even t → Even (123 ∷ (t ++ (125 ∷ [])))
unfolding count_if
even_curly {t} e =
    record { same = omega (arith, count_append is_opening t (125 ∷ []), count_append is_closing t (125 ∷ []), e.same) }

-- a text is as even as the parts that it is put together of
even_is : {s t : List ℕ} → s ≡ t → Even t → Even s
even_is e d = rw e d

even_between : {a t b : List ℕ} → WsCommentNewline a → Even t → WsCommentNewline b → Even (a ++ (t ++ b))
even_between a d b = even_append (even_lines a) (even_append d (even_lines b))

-- the same, with a comma and more after it
even_more : {a t b r : List ℕ} → WsCommentNewline a → Even t → WsCommentNewline b → Even r → Even (a ++ (t ++ (b ++ (44 ∷ r))))
even_more a d b r =
    even_append (even_lines a) (even_append d (even_append (even_lines b) (even_cons 44 (refl, refl) r)))

module _ {v : Edition} where
  mutual
    pub even_val : {s : List ℕ} → Val v s → Even s
    even_val (Val.string {k} d) = even_cons k (plain_string d) even_nil
    even_val (Val.scalar d) = even_scalar d
    even_val (Val.array d) = even_array d
    even_val (Val.inline_table d) = even_table d

    pub even_keyval : {s : List ℕ} → Keyval v s → Even s
    even_keyval (Keyval.keyval e k p d) =
        even_is e (even_append (even_key k) (even_append (even_spaced (refl, refl) p) (even_val d)))

    even_array : {s : List ℕ} → Array v s → Even s
    even_array (Array.empty e w) = even_is e (even_square (even_lines w))
    even_array (Array.full {t = t} {w = w} e d f) =
        even_is (e ∙ ap (λ (x : List ℕ). 91 ∷ x) (sym (append_assoc t w (93 ∷ []))))
        (even_square (even_append (even_values d) (even_lines f)))

    even_values : {s : List ℕ} → ArrayValues v s → Even s
    even_values (ArrayValues.more e a d b r) = even_is e (even_more a (even_val d) b (even_values r))
    even_values (ArrayValues.last e a d b) = even_is e (even_between a (even_val d) b)
    even_values (ArrayValues.last_sep e a d b) = even_is e (even_more a (even_val d) b even_nil)

    even_table : {s : List ℕ} → InlineTable v s → Even s
    even_table (InlineTable.empty_10 {a = a} {b = b} e n c d) =
        even_is (e ∙ ap (λ (x : List ℕ). 123 ∷ x) (sym (append_assoc a b (125 ∷ []))))
        (even_curly (even_append (even_ws c) (even_ws d)))
    even_table (InlineTable.full_10 {a = a} {t = t} {b = b} e n c d f) =
        let whole : a ++ (t ++ (b ++ (125 ∷ []))) ≡ (a ++ (t ++ b)) ++ (125 ∷ []) = simp append_assoc in
        even_is (e ∙ ap (λ (x : List ℕ). 123 ∷ x) whole)
        (even_curly (even_append (even_ws c) (even_append (even_keyvals d) (even_ws f))))
    even_table (InlineTable.empty_11 e n w) = even_is e (even_curly (even_lines w))
    even_table (InlineTable.full_11 {t = t} {w = w} e n d f) =
        even_is (e ∙ ap (λ (x : List ℕ). 123 ∷ x) (sym (append_assoc t w (125 ∷ []))))
        (even_curly (even_append (even_keyvals d) (even_lines f)))

    even_keyvals : {s : List ℕ} → Keyvals v s → Even s
    even_keyvals (Keyvals.last_10 n d) = even_keyval d
    even_keyvals (Keyvals.more_10 e n d p r) =
        even_is e (even_append (even_keyval d) (even_append (even_spaced (refl, refl) p) (even_keyvals r)))
    even_keyvals (Keyvals.more_11 e n a d b r) = even_is e (even_more a (even_keyval d) b (even_keyvals r))
    even_keyvals (Keyvals.last_11 e n a d b) = even_is e (even_between a (even_keyval d) b)
    even_keyvals (Keyvals.last_sep_11 e n a d b) = even_is e (even_more a (even_keyval d) b even_nil)

-- ---- how many brackets are open at a place

-- that many first kinds have the brackets that the rest lacks
count_split : (p : ℕ → Bool) (n : ℕ) (s : List ℕ) → count_if p (take n s) + count_if p (drop n s) ≡ count_if p s
count_split p n s = sym (count_append p (take n s) (drop n s)) ∙ ap (count_if p) (take-append-drop n s)

-- no more than 64, where no first part is too deep
few_open : (ks : List ℕ) (at level : ℕ)
    → count_if is_opening ks + count_if is_closing (drop at ks) ≡ count_if is_closing ks + count_if is_opening (drop at ks) + level
    → (Deep ks → ⊥) → level ≤ depth
few_open ks at level e calm =
    elim (dec_lt depth level) [
      | yes h ↦ absurd (calm (at, omega (arith, count_split is_opening at ks, count_split is_closing at ks)))
      | no h ↦ omega arith
    ]

pub inside_start : (ks : List ℕ) → (Deep ks → ⊥) → Inside ks 0 0
inside_start ks calm = record { within = omega arith; opened = omega arith; bounded = omega arith; shallow = calm }

-- a place to which the brackets between are even
pub inside_moved : (ks : List ℕ) (at to level : ℕ) → Inside ks at level
    → count_if is_opening (drop at ks) + count_if is_closing (drop to ks)
    ≡ count_if is_closing (drop at ks) + count_if is_opening (drop to ks)
    → to ≤ length ks → Inside ks to level
inside_moved ks at to level i e h =
    record { within = h; opened = omega (arith, i.opened); bounded = i.bounded; shallow = i.shallow }

pub inside_after : {G : List ℕ → Type 0} → ((t : List ℕ) → G t → Even t) → (ks : List ℕ) (at to level : ℕ) → Inside ks at level
    → Takes G (drop at ks) (drop to ks) → to ≤ length ks → Inside ks to level
inside_after even ks at to level i d h =
    let opens = ap (count_if is_opening) d.whole ∙ count_append is_opening d.text (drop to ks) in
    let closes = ap (count_if is_closing) d.whole ∙ count_append is_closing d.text (drop to ks) in
    inside_moved ks at to level i (omega (arith, opens, closes, (even d.text d.derives).same)) h

-- behind an opening bracket one more is open
pub inside_deeper : (q : ℕ) → is_opening q ≡ true → is_closing q ≡ false → (ks : List ℕ) (at level : ℕ) → Inside ks at level
    → at + 1 ≤ length ks → drop at ks ≡ q ∷ drop (at + 1) ks → Inside ks (at + 1) (level + 1)
unfolding count_if
inside_deeper q o n ks at level i h e =
    let opens : count_if is_opening (drop at ks) ≡ 1 + count_if is_opening (drop (at + 1) ks) = rw (e, o) refl in
    let closes : count_if is_closing (drop at ks) ≡ count_if is_closing (drop (at + 1) ks) = rw (e, n) (omega arith) in
    let now-open : count_if is_opening ks + count_if is_closing (drop (at + 1) ks)
    ≡ count_if is_closing ks + count_if is_opening (drop (at + 1) ks) + (level + 1) = omega (arith, opens, closes, i.opened) in
    let few = few_open ks (at + 1) (level + 1) now-open i.shallow in
    record { within = h; opened = now-open; bounded = few; shallow = i.shallow }
