-- Keys, and marks with blanks around them: where they end, as their checkers read them.
-- Assumes nothing.
use Prim.Native.Nat.{ℕ}
use mathlib.Core.Path.{◌≡◌, refl, sym, ap, subst, ◌∙◌}
use mathlib.Core.Bool.{true, false}
use mathlib.Core.List.{List, [], ◌∷◌, ◌++◌, append_assoc}
use Rattle.text_classes.specs.Runs.{stands}
use Rattle.text_classes.proofs.Conds.{not_both}
use Rattle.decoder_rules.specs.declared.Edition.{Edition}
use Rattle.built_values.specs.Values.{Ws, SimpleKey, Spaced, DotKeys, Key, Val, Keyval}
use Rattle.built_values.specs.Checkers.{is_simple_key, in_run, past, Takes, NoBlank, NoDot}
use Rattle.built_values.specs.declared.kinds.Run.TheVariants.{Blanks}
use Rattle.built_values.proofs.KindLaws.{tails, tops, not_nil, stands_not, is_simple, simple_is}
use Rattle.built_values.proofs.RunLaws.{past_none, past_nil, ws_past, past_ws}
use Rattle.built_values.proofs.ValLaws.{lines_blanks, key_no_line, val_begun, way_no_line}

-- ---- a mark with blanks around it

no_blank_stays : (s : List ℕ) → NoBlank s → past Blanks s ≡ s
no_blank_stays [] n = past_nil Blanks
no_blank_stays (k ∷ s) n = past_none Blanks k s n

-- the mark stands after the blanks, and what is left after the blanks that follow it is what any reading leaves
pub spaced_is : (q : ℕ) (s x : List ℕ) → past Blanks s ≡ q ∷ x → Takes (Spaced q) s (past Blanks x)
spaced_is q s x e =
    let a = past_ws s in
    let b = past_ws x in
    let whole : s ≡ (a.text ++ (q ∷ b.text)) ++ past Blanks x =
    a.whole ∙ ap (λ (y : List ℕ). a.text ++ y) (e ∙ ap (λ (y : List ℕ). q ∷ y) b.whole) ∙ simp append_assoc in
    record { text = a.text ++ (q ∷ b.text); whole = whole; derives = Spaced.spaced a.derives b.derives }

module _ {q : ℕ} (mark : (s : List ℕ) → in_run Blanks q s ≡ false) where
  -- a reading of the mark before r
  pub reading : {s r : List ℕ} → Takes (Spaced q) s r → (b : List ℕ) × Ws b × (past Blanks s ≡ q ∷ (b ++ r))
  reading {s} {r} d = go d.text d.whole d.derives
    where
      go : (t : List ℕ) → s ≡ t ++ r → Spaced q t → (b : List ℕ) × Ws b × (past Blanks s ≡ q ∷ (b ++ r))
      go t e (Spaced.spaced {a = a} {b = b} c f) =
          let whole : s ≡ a ++ (q ∷ (b ++ r)) = e ∙ append_assoc a (q ∷ b) r in
          (b, f, ap (past Blanks) whole ∙ ws_past c (q ∷ (b ++ r)) ∙ past_none Blanks q (b ++ r) (mark (b ++ r)))

  pub spaced_only : (s x : List ℕ) → past Blanks s ≡ q ∷ x → (r : List ℕ) → NoBlank r → Takes (Spaced q) s r → r ≡ past Blanks x
  spaced_only s x e r n d =
      let (b, f, g) = reading d in
      sym (no_blank_stays r n) ∙ sym (ws_past f r) ∙ ap (past Blanks) (tails (sym g ∙ e))

  pub spaced_not : (s : List ℕ) → stands q (past Blanks s) ≡ false → (r : List ℕ) → Takes (Spaced q) s r → ⊥
  spaced_not s n r d = let (b, f, g) = reading d in stands_not q n g

  -- what comes before the mark has no other mark after its blanks
  pub before_mark : (p : ℕ) → stands p (q ∷ []) ≡ false → {s r : List ℕ} → Takes (Spaced q) s r → stands p (past Blanks s) ≡ false
  before_mark p n d = let (b, f, g) = reading d in ap (stands p) g ∙ n

-- ---- keys

-- what a key leaves, as the loop reads it: a simple key, and perhaps a dot and a key
pub data KeyTail : List ℕ → List ℕ → Type 0 where
  ends : {k : ℕ} {s r : List ℕ} → SimpleKey k → s ≡ k ∷ r → KeyTail s r
  more : {k : ℕ} {s u a r : List ℕ} → SimpleKey k → s ≡ k ∷ u → Takes (Spaced 46) u a → KeyTail a r → KeyTail s r

dots_tail : {t : List ℕ} → DotKeys t → {k : ℕ} → SimpleKey k → (r : List ℕ) → KeyTail (k ∷ (t ++ r)) r
dots_tail (DotKeys.one {k = j} {d = d} s h) p r =
    KeyTail.more p refl (record { text = d; whole = append_assoc d (j ∷ []) r; derives = s }) (KeyTail.ends h refl)
dots_tail (DotKeys.more {k = j} {d = d} {t = t} s h f) p r =
    KeyTail.more p refl (record { text = d; whole = append_assoc d (j ∷ t) r; derives = s }) (dots_tail f h r)

pub key_tail : {s r : List ℕ} → Takes Key s r → KeyTail s r
key_tail {s} {r} d = go d.text d.whole d.derives
  where
    go : (t : List ℕ) → s ≡ t ++ r → Key t → KeyTail s r
    go t e (Key.simple_key p) = KeyTail.ends p e
    go t e (Key.dotted_key p f) = subst (λ (x : List ℕ). KeyTail x r) (sym e) (dots_tail f p r)

-- a dot and a key more
before_key : {k : ℕ} {d t : List ℕ} → SimpleKey k → Spaced 46 d → Key t → Key (k ∷ (d ++ t))
before_key p s (Key.simple_key h) = Key.dotted_key p (DotKeys.one s h)
before_key p s (Key.dotted_key h f) = Key.dotted_key p (DotKeys.more s h f)

pub tail_key : {s r : List ℕ} → KeyTail s r → Takes Key s r
tail_key (KeyTail.ends {k} p e) = record { text = k ∷ []; whole = e; derives = Key.simple_key p }
tail_key {s} {r} (KeyTail.more {k} p e d f) =
    let g = tail_key f in
    let whole : s ≡ k ∷ ((d.text ++ g.text) ++ r) =
    e
    ∙ ap (λ (x : List ℕ). k ∷ x)
    (d.whole ∙ ap (λ (x : List ℕ). d.text ++ x) g.whole ∙ sym (append_assoc d.text g.text r)) in
    record { text = k ∷ (d.text ++ g.text); whole = whole; derives = before_key p d.derives g.derives }

-- what is left before a key has no blank first
key_no_blank : {a r : List ℕ} → KeyTail a r → NoBlank a
key_no_blank {a} (KeyTail.ends {k} {s} {r} p e) = ap (stands 32) e ∙ lines_blanks k r (key_no_line k r r p)
key_no_blank {a} (KeyTail.more {k} {s} {u} p e d f) = ap (stands 32) e ∙ lines_blanks k u (key_no_line k u u p)

-- ---- the ways out of the key's loop, at s

pub key_nil : (r : List ℕ) → KeyTail [] r → ⊥
key_nil r (KeyTail.ends p e) = not_nil e
key_nil r (KeyTail.more p e d f) = not_nil e

module _ (s : List ℕ) (j : ℕ) (u : List ℕ) (c : s ≡ j ∷ u) where
  pub key_not : is_simple_key j ≡ false → (r : List ℕ) → KeyTail s r → ⊥
  key_not n r (KeyTail.ends p e) = not_both (sym (ap is_simple_key (tops (sym e ∙ c))) ∙ simple_is p) n
  key_not n r (KeyTail.more p e d f) = not_both (sym (ap is_simple_key (tops (sym e ∙ c))) ∙ simple_is p) n

  -- no dot follows
  pub key_ends_lem : ((a : List ℕ) → NoBlank a → Takes (Spaced 46) u a → ⊥) → (r : List ℕ) → KeyTail s r → r ≡ u
  key_ends_lem n r (KeyTail.ends p e) = tails (sym e ∙ c)
  key_ends_lem n r (KeyTail.more {a = a} p e d f) =
      absurd (n a (key_no_blank f) (subst (λ (x : List ℕ). Takes (Spaced 46) x a) (tails (sym e ∙ c)) d))

  pub ends_key : is_simple_key j ≡ true → KeyTail s u
  ends_key h = KeyTail.ends (is_simple j h) c

  -- a dot follows, up to b
  pub key_more : (x b : List ℕ) → past Blanks u ≡ 46 ∷ x → ((a : List ℕ) → NoBlank a → Takes (Spaced 46) u a → a ≡ b)
      → (r : List ℕ) → NoDot r → KeyTail s r → KeyTail b r
  key_more x b e only r n (KeyTail.ends p f) =
      let last : r ≡ u = tails (sym f ∙ c) in
      not_both (ap (stands 46) (ap (past Blanks) last ∙ e)) n
  key_more x b e only r n (KeyTail.more {a = a} p f d g) =
      subst (λ (y : List ℕ). KeyTail y r)
      (only a (key_no_blank g) (subst (λ (y : List ℕ). Takes (Spaced 46) y a) (tails (sym f ∙ c)) d)) g

  pub more_key : is_simple_key j ≡ true → (b : List ℕ) → Takes (Spaced 46) u b → (r : List ℕ) → KeyTail b r → KeyTail s r
  more_key h b d r f = KeyTail.more (is_simple j h) c d f

-- ---- keyvals

-- a keyval is a key, an equals sign and a value, one after the other
pub record Three (v : Edition) (s r : List ℕ) : Type 0 where
  pub first : List ℕ
  pub second : List ℕ
  pub key : Takes Key s first
  pub sep : Takes (Spaced 61) first second
  pub val : Takes (Val v) second r

pub three : {v : Edition} {s r : List ℕ} → Takes (Keyval v) s r → Three v s r
three {v} {s} {r} d = go d.text d.whole d.derives
  where
    go : (t : List ℕ) → s ≡ t ++ r → Keyval v t → Three v s r
    go t e (Keyval.keyval {k = k} {p = x} {t = y} n a b c) =
        record {
          first = x ++ (y ++ r);
          second = y ++ r;
          key = record { text = k; whole = e ∙ (rw n (simp append_assoc)); derives = a };
          sep = record { text = x; whole = refl; derives = b };
          val = record { text = y; whole = refl; derives = c };
        }

pub of_three : {v : Edition} {s a b r : List ℕ} → Takes Key s a → Takes (Spaced 61) a b → Takes (Val v) b r → Takes (Keyval v) s r
of_three {s = s} {r = r} x y z =
    let whole : s ≡ (x.text ++ (y.text ++ z.text)) ++ r =
    x.whole ∙ ap (λ (t : List ℕ). x.text ++ t) (y.whole ∙ ap (λ (t : List ℕ). y.text ++ t) z.whole) ∙ simp append_assoc in
    record {
      text = x.text ++ (y.text ++ z.text);
      whole = whole;
      derives = Keyval.keyval refl x.derives y.derives z.derives;
    }

-- what is left before a value has no blank first
pub val_no_blank : {v : Edition} {s r : List ℕ} → Takes (Val v) s r → NoBlank s
val_no_blank {v} {s} {r} d =
    let b = val_begun d.derives in
    let whole : s ≡ b.kind ∷ (b.rest ++ r) = d.whole ∙ ap (λ (t : List ℕ). t ++ r) b.whole in
    ap (stands 32) whole ∙ lines_blanks b.kind [] (way_no_line v b.kind b.rest [] b.is)
