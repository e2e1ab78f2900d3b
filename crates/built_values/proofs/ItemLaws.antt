-- Arrays and inline tables are what their loops read: the rules and the form of TailLaws.antt say the same, both ways.
-- Assumes nothing.
use Prim.Native.Nat.{ℕ}
use mathlib.Core.Path.{◌≡◌, refl, sym, ap, subst, ◌∙◌}
use mathlib.Core.Bool.{Bool, true, false}
use mathlib.Core.Logic.{◌⊎◌, inl, inr}
use mathlib.Core.List.{List, [], ◌∷◌, ◌++◌, append_assoc}
use native.Mathlib.Omega.{arith}
use Rattle.text_classes.proofs.Conds.{not_both}
use Rattle.decoder_rules.specs.declared.Edition.{Edition}
use Rattle.decoder_rules.specs.declared.Edition.TheVariants.{Toml10, Toml11}
use Rattle.built_values.specs.Values.{Ws, WsCommentNewline, Spaced, Val, Keyval, Array, ArrayValues, InlineTable, Keyvals}
use Rattle.built_values.specs.Checkers.{in_run, past, table_run, last_comma, Takes}
use Rattle.built_values.specs.declared.kinds.Run.TheVariants.{Blanks, Lines}
use Rattle.built_values.proofs.KindLaws.{tails}
use Rattle.built_values.proofs.RunLaws.{past_none, ws_past, lines_past, past_ws, past_lines}
use Rattle.built_values.proofs.ValLaws.{stays, val_begun, way_no_line, lines_blanks, keyval_begun, key_no_line}
use Rattle.built_values.proofs.TailLaws.{Tail}

-- ---- a run, an item or a mark at the front of what is left

val_stays : {v : Edition} {t : List ℕ} → Val v t → (r : List ℕ) → past Lines (t ++ r) ≡ t ++ r
val_stays {v} d r = stays (λ t d. val_begun d) Lines (λ k t s w. way_no_line v k t s w) d r

keyval_stays : {v : Edition} {t : List ℕ} → Keyval v t → (r : List ℕ) → past Lines (t ++ r) ≡ t ++ r
keyval_stays {v} d r = stays (λ t d. keyval_begun {v = v} d) Lines key_no_line d r

keyval_stays_10 : {v : Edition} {t : List ℕ} → Keyval v t → (r : List ℕ) → past Blanks (t ++ r) ≡ t ++ r
keyval_stays_10 {v} d r =
    stays (λ t d. keyval_begun {v = v} d) Blanks (λ k t s w. lines_blanks k s (key_no_line k t s w)) d r

lines_mark : (q : ℕ) → ((s : List ℕ) → in_run Lines q s ≡ false) → {b : List ℕ} → WsCommentNewline b → (z : List ℕ)
    → past Lines (b ++ (q ∷ z)) ≡ q ∷ z
lines_mark q n d z = lines_past d (q ∷ z) ∙ past_none Lines q z (n z)

ws_mark : (q : ℕ) → ((s : List ℕ) → in_run Blanks q s ≡ false) → {b : List ℕ} → Ws b → (z : List ℕ)
    → past Blanks (b ++ (q ∷ z)) ≡ q ∷ z
ws_mark q n d z = ws_past d (q ∷ z) ∙ past_none Blanks q z (n z)

val_item : {v : Edition} {a t : List ℕ} → WsCommentNewline a → Val v t → (z : List ℕ)
    → Takes (Val v) (past Lines (a ++ (t ++ z))) z
val_item {t = t} c d z = record { text = t; whole = lines_past c (t ++ z) ∙ val_stays d z; derives = d }

keyval_item : {v : Edition} {a t : List ℕ} → WsCommentNewline a → Keyval v t → (z : List ℕ)
    → Takes (Keyval v) (past Lines (a ++ (t ++ z))) z
keyval_item {t = t} c d z = record { text = t; whole = lines_past c (t ++ z) ∙ keyval_stays d z; derives = d }

keyval_item_10 : {v : Edition} {a t : List ℕ} → Ws a → Keyval v t → (z : List ℕ)
    → Takes (Keyval v) (past Blanks (a ++ (t ++ z))) z
keyval_item_10 {t = t} c d z = record { text = t; whole = ws_past c (t ++ z) ∙ keyval_stays_10 d z; derives = d }

-- ---- from the rules to the loops

abbrev pub ArrayTail : Edition → Bool → List ℕ → List ℕ → Type 0
ArrayTail v = Tail (Takes (Val v)) Lines 93 true

abbrev pub TableTail : Edition → Bool → List ℕ → List ℕ → Type 0
TableTail v = Tail (Takes (Keyval v)) (table_run v) 125 (last_comma v)

-- the values, the run w and the bracket, before r
values_tail : {v : Edition} {s : List ℕ} → ArrayValues v s → {w : List ℕ} → WsCommentNewline w → (r : List ℕ)
    → ArrayTail v true (s ++ (w ++ (93 ∷ r))) r
values_tail (ArrayValues.more {b = b} {r = x} n c d e f) {w} g r =
    let rest = x ++ (w ++ (93 ∷ r)) in
    rw n (simp append_assoc
    (Tail.more (val_item c d (b ++ (44 ∷ rest))) (lines_mark 44 (λ s. refl) e rest) (values_tail f g r)))
values_tail (ArrayValues.last {b = b} n c d e) {w} g r =
    rw n (simp append_assoc
    (Tail.last (val_item c d (b ++ (w ++ (93 ∷ r)))) (lines_past e (w ++ (93 ∷ r)) ∙ lines_mark 93 (λ s. refl) g r)))
values_tail (ArrayValues.last_sep {b = b} n c d e) {w} g r =
    let rest = w ++ (93 ∷ r) in
    rw n (simp append_assoc
    (Tail.more (val_item c d (b ++ (44 ∷ rest))) (lines_mark 44 (λ s. refl) e rest)
    (Tail.shut refl (lines_mark 93 (λ s. refl) g r))))

-- what is left after the opening bracket, where the whole is told
after_opening : {q : ℕ} {s t u x : List ℕ} (r : List ℕ) → s ≡ q ∷ t → s ++ r ≡ q ∷ u → t ++ r ≡ x → x ≡ u
after_opening r e f g = sym g ∙ tails (ap (λ (y : List ℕ). y ++ r) (sym e) ∙ f)

pub array_tail : {v : Edition} {s : List ℕ} → Array v s → (r u : List ℕ) → s ++ r ≡ 91 ∷ u → ArrayTail v true u r
array_tail {v} (Array.empty {w = w} n d) r u e =
    subst (λ (y : List ℕ). ArrayTail v true y r) (after_opening r n e (append_assoc w (93 ∷ []) r))
    (Tail.shut refl (lines_mark 93 (λ s. refl) d r))
array_tail {v} (Array.full {t = t} {w = w} n d f) r u e =
    let whole : (t ++ (w ++ (93 ∷ []))) ++ r ≡ t ++ (w ++ (93 ∷ r)) = simp append_assoc in
    subst (λ (y : List ℕ). ArrayTail v true y r) (after_opening r n e whole) (values_tail d f r)

not_11 : {P : Type 0} → Toml10 ≡ Toml11 → P
not_11 e = let z : ◌≡◌ {A = ℕ} 0 1 = cc in absurd (omega arith)

not_10 : {P : Type 0} → Toml11 ≡ Toml10 → P
not_10 e = not_11 (sym e)

-- TOML 1.0.0: blanks a, the keyvals, blanks b and the bracket, before r
keyvals_tail_10 : {s : List ℕ} → Keyvals Toml10 s → {a b : List ℕ} → Ws a → Ws b → (shuts : Bool) (r : List ℕ)
    → TableTail Toml10 shuts (a ++ (s ++ (b ++ (125 ∷ r)))) r
keyvals_tail_10 (Keyvals.last_10 e d) {a} {b} f g shuts r =
    Tail.last (keyval_item_10 f d (b ++ (125 ∷ r))) (ws_mark 125 (λ s. refl) g r)
keyvals_tail_10 {s} (Keyvals.more_10 {t = t} {d = y} {r = x} n e d h k) {a} {b} f g shuts r =
    go y n h (λ q i. keyvals_tail_10 k i g false r)
  where
    go : (y : List ℕ) → s ≡ t ++ (y ++ x) → Spaced 44 y
        → ((q : List ℕ) → Ws q → TableTail Toml10 false (q ++ (x ++ (b ++ (125 ∷ r)))) r)
        → TableTail Toml10 shuts (a ++ (s ++ (b ++ (125 ∷ r)))) r
    go y n (Spaced.spaced {a = p} {b = q} h i) again =
        let rest = q ++ (x ++ (b ++ (125 ∷ r))) in
        let whole : s ++ (b ++ (125 ∷ r)) ≡ t ++ (p ++ (44 ∷ rest)) = rw n (simp append_assoc) in
        subst (λ (z : List ℕ). TableTail Toml10 shuts (a ++ z) r) (sym whole)
        (Tail.more (keyval_item_10 f d (p ++ (44 ∷ rest))) (ws_mark 44 (λ s. refl) h rest) (again q i))
keyvals_tail_10 (Keyvals.more_11 n e c d h i) f g shuts r = not_11 e
keyvals_tail_10 (Keyvals.last_11 n e c d h) f g shuts r = not_11 e
keyvals_tail_10 (Keyvals.last_sep_11 n e c d h) f g shuts r = not_11 e

-- TOML 1.1.0: the keyvals, the run w and the bracket, before r
keyvals_tail_11 : {s : List ℕ} → Keyvals Toml11 s → {w : List ℕ} → WsCommentNewline w → (r : List ℕ)
    → TableTail Toml11 true (s ++ (w ++ (125 ∷ r))) r
keyvals_tail_11 (Keyvals.last_10 e d) g r = not_10 e
keyvals_tail_11 (Keyvals.more_10 n e d h k) g r = not_10 e
keyvals_tail_11 (Keyvals.more_11 {b = b} {r = x} n m c d e f) {w} g r =
    let rest = x ++ (w ++ (125 ∷ r)) in
    rw n (simp append_assoc
    (Tail.more (keyval_item c d (b ++ (44 ∷ rest))) (lines_mark 44 (λ s. refl) e rest) (keyvals_tail_11 f g r)))
keyvals_tail_11 (Keyvals.last_11 {b = b} n m c d e) {w} g r =
    rw n (simp append_assoc
    (Tail.last (keyval_item c d (b ++ (w ++ (125 ∷ r)))) (lines_past e (w ++ (125 ∷ r)) ∙ lines_mark 125 (λ s. refl) g r)))
keyvals_tail_11 (Keyvals.last_sep_11 {b = b} n m c d e) {w} g r =
    let rest = w ++ (125 ∷ r) in
    rw n (simp append_assoc
    (Tail.more (keyval_item c d (b ++ (44 ∷ rest))) (lines_mark 44 (λ s. refl) e rest)
    (Tail.shut refl (lines_mark 125 (λ s. refl) g r))))

pub table_tail : (v : Edition) {s : List ℕ} → InlineTable v s → (r u : List ℕ) → s ++ r ≡ 123 ∷ u → TableTail v true u r
table_tail Toml10 (InlineTable.empty_10 {a = a} {b = b} n e c d) r u f =
    let whole : (a ++ (b ++ (125 ∷ []))) ++ r ≡ a ++ (b ++ (125 ∷ r)) = simp append_assoc in
    subst (λ (s : List ℕ). TableTail Toml10 true s r) (after_opening r n f whole)
    (Tail.shut refl (ws_past c (b ++ (125 ∷ r)) ∙ ws_mark 125 (λ s. refl) d r))
table_tail Toml10 (InlineTable.full_10 {a = a} {t = t} {b = b} n e c d g) r u f =
    let whole : (a ++ (t ++ (b ++ (125 ∷ [])))) ++ r ≡ a ++ (t ++ (b ++ (125 ∷ r))) = simp append_assoc in
    subst (λ (s : List ℕ). TableTail Toml10 true s r) (after_opening r n f whole) (keyvals_tail_10 d c g true r)
table_tail Toml10 (InlineTable.empty_11 n e d) r u f = not_11 e
table_tail Toml10 (InlineTable.full_11 n e d g) r u f = not_11 e
table_tail Toml11 (InlineTable.empty_10 n e c d) r u f = not_10 e
table_tail Toml11 (InlineTable.full_10 n e c d g) r u f = not_10 e
table_tail Toml11 (InlineTable.empty_11 {w = w} n e d) r u f =
    subst (λ (s : List ℕ). TableTail Toml11 true s r) (after_opening r n f (append_assoc w (125 ∷ []) r))
    (Tail.shut refl (lines_mark 125 (λ s. refl) d r))
table_tail Toml11 (InlineTable.full_11 {t = t} {w = w} n e d g) r u f =
    let whole : (t ++ (w ++ (125 ∷ []))) ++ r ≡ t ++ (w ++ (125 ∷ r)) = simp append_assoc in
    subst (λ (s : List ℕ). TableTail Toml11 true s r) (after_opening r n f whole) (keyvals_tail_11 d g r)

-- ---- from the loops to the rules: arrays, and the inline tables of TOML 1.1.0, whose rules have the same form

-- G derives the items and Gs some of them, with their commas
module _ (G Gs : List ℕ → Type 0) (close : ℕ)
    (more : (a t b x : List ℕ) → WsCommentNewline a → G t → WsCommentNewline b → Gs x → Gs (a ++ (t ++ (b ++ (44 ∷ x)))))
    (last : (a t b : List ℕ) → WsCommentNewline a → G t → WsCommentNewline b → Gs (a ++ (t ++ b)))
    (last_sep : (a t b : List ℕ) → WsCommentNewline a → G t → WsCommentNewline b → Gs (a ++ (t ++ (b ++ (44 ∷ []))))) where
  -- s is the run w and the bracket, before r
  abbrev Bare : List ℕ → List ℕ → Type 0
  Bare s r = (w : List ℕ) × WsCommentNewline w × (s ≡ w ++ (close ∷ r))

  -- or there are items before them
  abbrev Full : List ℕ → List ℕ → Type 0
  Full s r = (t : List ℕ) × (w : List ℕ) × Gs t × WsCommentNewline w × (s ≡ t ++ (w ++ (close ∷ r)))

  -- an item between two runs
  abbrev Between : List ℕ → List ℕ → Type 0
  Between s c =
      (a : List ℕ) × (t : List ℕ) × (b : List ℕ) × WsCommentNewline a × G t × WsCommentNewline b
      × (s ≡ a ++ (t ++ (b ++ past Lines c)))

  between : (s c : List ℕ) → Takes G (past Lines s) c → Between s c
  between s c i =
      let a = past_lines s in
      let b = past_lines c in
      let whole : s ≡ a.text ++ (i.text ++ (b.text ++ past Lines c)) =
      a.whole ∙ ap (λ (x : List ℕ). a.text ++ x) (i.whole ∙ ap (λ (x : List ℕ). i.text ++ x) b.whole) in
      (a.text, i.text, b.text, a.derives, i.derives, b.derives, whole)

  tail_items : {shuts : Bool} {s r : List ℕ} → Tail (Takes G) Lines close true shuts s r → Bare s r ⊎ Full s r
  tail_items {s = s} (Tail.shut e f) =
      let w = past_lines s in
      inl (w.text, w.derives, w.whole ∙ ap (λ (x : List ℕ). w.text ++ x) f)
  tail_items {s = s} {r = r} (Tail.last {b = c} i f) =
      let (a, t, b, da, dt, db, whole) = between s c i in
      inr (a ++ (t ++ b), [], last a t b da dt db, WsCommentNewline.stop, whole ∙ (rw f (simp append_assoc)))
  tail_items {s = s} {r = r} (Tail.more {b = c} {c = x} i f d) = go (tail_items d)
    where
      go : Bare x r ⊎ Full x r → Bare s r ⊎ Full s r
      go (inl (w, dw, e)) =
          let (a, t, b, da, dt, db, whole) = between s c i in
          inr (a ++ (t ++ (b ++ (44 ∷ []))), w, last_sep a t b da dt db, dw, whole ∙ (rw (f, e) (simp append_assoc)))
      go (inr (y, w, dy, dw, e)) =
          let (a, t, b, da, dt, db, whole) = between s c i in
          inr (a ++ (t ++ (b ++ (44 ∷ y))), w, more a t b y da dt db dy, dw, whole ∙ (rw (f, e) (simp append_assoc)))

pub tail_array : {v : Edition} {u r : List ℕ} → ArrayTail v true u r → Takes (Array v) (91 ∷ u) r
tail_array {v} {u} {r} d =
    go (tail_items (Val v) (ArrayValues v) 93 (λ a t b x. ArrayValues.more refl)
    (λ a t b. ArrayValues.last refl) (λ a t b. ArrayValues.last_sep refl) d)
  where
    go : ((w : List ℕ) × WsCommentNewline w × (u ≡ w ++ (93 ∷ r)))
        ⊎ ((t : List ℕ) × (w : List ℕ) × ArrayValues v t × WsCommentNewline w × (u ≡ t ++ (w ++ (93 ∷ r))))
        → Takes (Array v) (91 ∷ u) r
    go (inl (w, dw, e)) = record { text = 91 ∷ (w ++ (93 ∷ [])); whole = rw e (simp append_assoc); derives = Array.empty refl dw }
    go (inr (t, w, dt, dw, e)) =
        record { text = 91 ∷ (t ++ (w ++ (93 ∷ []))); whole = rw e (simp append_assoc); derives = Array.full refl dt dw }

tail_table_11 : {u r : List ℕ} → TableTail Toml11 true u r → Takes (InlineTable Toml11) (123 ∷ u) r
tail_table_11 {u} {r} d =
    go (tail_items (Keyval Toml11) (Keyvals Toml11) 125 (λ a t b x. Keyvals.more_11 refl refl)
    (λ a t b. Keyvals.last_11 refl refl) (λ a t b. Keyvals.last_sep_11 refl refl) d)
  where
    go : ((w : List ℕ) × WsCommentNewline w × (u ≡ w ++ (125 ∷ r)))
        ⊎ ((t : List ℕ) × (w : List ℕ) × Keyvals Toml11 t × WsCommentNewline w × (u ≡ t ++ (w ++ (125 ∷ r))))
        → Takes (InlineTable Toml11) (123 ∷ u) r
    go (inl (w, dw, e)) =
        record { text = 123 ∷ (w ++ (125 ∷ [])); whole = rw e (simp append_assoc); derives = InlineTable.empty_11 refl refl dw }
    go (inr (t, w, dt, dw, e)) =
        record { text = 123 ∷ (t ++ (w ++ (125 ∷ []))); whole = rw e (simp append_assoc); derives = InlineTable.full_11 refl refl dt dw }

-- ---- the inline tables of TOML 1.0.0

-- s is blanks, keyvals, blanks and the bracket, before r
abbrev Full-10 : List ℕ → List ℕ → Type 0
Full-10 s r =
    (a : List ℕ) × (t : List ℕ) × (b : List ℕ) × Ws a × Keyvals Toml10 t × Ws b × (s ≡ a ++ (t ++ (b ++ (125 ∷ r))))

tail_keyvals_10 : {shuts : Bool} {s r : List ℕ} → shuts ≡ false → TableTail Toml10 shuts s r → Full-10 s r
tail_keyvals_10 n (Tail.shut e f) = not_both e n
tail_keyvals_10 {s = s} n (Tail.last {b = c} i f) =
    let a = past_ws s in
    let b = past_ws c in
    let whole = a.whole ∙ ap (λ (x : List ℕ). a.text ++ x)
    (i.whole ∙ ap (λ (x : List ℕ). i.text ++ x) (b.whole ∙ ap (λ (x : List ℕ). b.text ++ x) f)) in
    (a.text, i.text, b.text, a.derives, Keyvals.last_10 refl i.derives, b.derives, whole)
tail_keyvals_10 {s = s} {r = r} n (Tail.more {b = c} {c = x} i f d) =
    let a = past_ws s in
    let p = past_ws c in
    let (q, t, b, dq, dt, db, e) = tail_keyvals_10 refl d in
    let whole : s ≡ a.text ++ ((i.text ++ ((p.text ++ (44 ∷ q)) ++ t)) ++ (b ++ (125 ∷ r))) =
    a.whole ∙ ap (λ (x : List ℕ). a.text ++ x)
    (i.whole ∙ ap (λ (x : List ℕ). i.text ++ x)
    (p.whole ∙ ap (λ (x : List ℕ). p.text ++ x) (f ∙ ap (λ (x : List ℕ). 44 ∷ x) e))
    ∙ simp append_assoc) in (
      a.text,
      i.text ++ ((p.text ++ (44 ∷ q)) ++ t),
      b,
      a.derives,
      Keyvals.more_10 refl refl i.derives (Spaced.spaced p.derives dq) dt,
      db,
      whole,
    )

full_table_10 : (u r : List ℕ) → Full-10 u r → Takes (InlineTable Toml10) (123 ∷ u) r
full_table_10 u r (a, t, b, da, dt, db, e) =
    record {
      text = 123 ∷ (a ++ (t ++ (b ++ (125 ∷ []))));
      whole = rw e (simp append_assoc);
      derives = InlineTable.full_10 refl refl da dt db;
    }

tail_table_10 : {u r : List ℕ} → TableTail Toml10 true u r → Takes (InlineTable Toml10) (123 ∷ u) r
tail_table_10 {u} {r} (Tail.shut e f) =
    let w = past_ws u in
    let whole : u ≡ ([] ++ (w.text ++ (125 ∷ []))) ++ r =
    w.whole ∙ (rw f (simp append_assoc)) in
    record {
      text = 123 ∷ ([] ++ (w.text ++ (125 ∷ [])));
      whole = ap (λ (x : List ℕ). 123 ∷ x) whole;
      derives = InlineTable.empty_10 refl refl Ws.stop w.derives;
    }
tail_table_10 {u} {r} (Tail.last i f) = full_table_10 u r (tail_keyvals_10 {shuts = false} refl (Tail.last i f))
tail_table_10 {u} {r} (Tail.more i f d) = full_table_10 u r (tail_keyvals_10 {shuts = false} refl (Tail.more i f d))

pub tail_table : (v : Edition) {u r : List ℕ} → TableTail v true u r → Takes (InlineTable v) (123 ∷ u) r
tail_table Toml10 d = tail_table_10 d
tail_table Toml11 d = tail_table_11 d
