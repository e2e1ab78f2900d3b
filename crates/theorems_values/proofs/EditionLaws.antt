-- What is a value by TOML 1.0.0 is one by TOML 1.1.0: blanks are lines too, and a separator's blanks go to the keyvals around it.
use Prim.Native.Nat.{ℕ}
use mathlib.Core.Path.{◌≡◌, refl, sym, ap, subst, ◌∙◌}
use mathlib.Core.Bool.{true}
use mathlib.Core.List.{List, [], ◌∷◌, ◌++◌, append_assoc, append-nil}
use native.Mathlib.Omega.{arith}
use lib.ListN.{length}
use Rattle.std.specs.Prelude.{Ok}
use Rattle.decoder_rules.specs.declared.Edition.TheVariants.{Toml10, Toml11}
use Rattle.decoder_rules.specs.Encodings.{edition_number}
use Rattle.built_values.specs.Values.{Ws, WsCommentNewline, Spaced, Val, Keyval, Array, ArrayValues, InlineTable, Keyvals}
use Rattle.theorems_values.specs.ValuesTell.{TenInEleven, YesInBoth, Served}
use Rattle.theorems_values.proofs.TellLaws.{tells}

lines : {t : List ℕ} → Ws t → WsCommentNewline t
lines Ws.stop = WsCommentNewline.stop
lines (Ws.more d) = WsCommentNewline.blank (lines d)

lines_then : {a b : List ℕ} → WsCommentNewline a → WsCommentNewline b → WsCommentNewline (a ++ b)
lines_then WsCommentNewline.stop d = d
lines_then (WsCommentNewline.blank c) d = WsCommentNewline.blank (lines_then c d)
lines_then (WsCommentNewline.line c) d = WsCommentNewline.line (lines_then c d)
lines_then (WsCommentNewline.remark c) d = WsCommentNewline.remark (lines_then c d)

not_11 : {P : Type 0} → Toml10 ≡ Toml11 → P
not_11 e = let z : ◌≡◌ {A = ℕ} 0 1 = cc in absurd (omega arith)

-- keyvals of TOML 1.1.0, between the blanks a and b: what a keyval of TOML 1.0.0 and the keyvals after its comma come to
one_keyval : {s a b : List ℕ} → Ws a → Keyval Toml11 s → Ws b → Keyvals Toml11 (a ++ (s ++ b))
one_keyval a d b = Keyvals.last_11 refl refl (lines a) d (lines b)

-- the keyval t, the comma with the blanks p and q around it, and the keyvals r, between a and b
more_keyvals : {s t d : List ℕ} (a r b : List ℕ) → s ≡ t ++ (d ++ r) → Ws a → Keyval Toml11 t → Spaced 44 d
    → ((q : List ℕ) → Ws q → Keyvals Toml11 (q ++ (r ++ b))) → Keyvals Toml11 (a ++ (s ++ b))
more_keyvals {s} {t} a r b e c d (Spaced.spaced {a = p} {b = q} f g) rest =
    let whole : s ++ b ≡ t ++ (p ++ (44 ∷ (q ++ (r ++ b)))) = rw e (simp append_assoc) in
    Keyvals.more_11 (ap (λ (x : List ℕ). a ++ x) whole) refl (lines c) d (lines f) (rest q g)

mutual
  val : {s : List ℕ} → Val Toml10 s → Val Toml11 s
  val (Val.string d) = Val.string d
  val (Val.scalar d) = Val.scalar d
  val (Val.array d) = Val.array (array d)
  val (Val.inline_table d) = Val.inline_table (table d)

  keyval : {s : List ℕ} → Keyval Toml10 s → Keyval Toml11 s
  keyval (Keyval.keyval e k p d) = Keyval.keyval e k p (val d)

  array : {s : List ℕ} → Array Toml10 s → Array Toml11 s
  array (Array.empty e w) = Array.empty e w
  array (Array.full e d w) = Array.full e (values d) w

  values : {s : List ℕ} → ArrayValues Toml10 s → ArrayValues Toml11 s
  values (ArrayValues.more e a d b r) = ArrayValues.more e a (val d) b (values r)
  values (ArrayValues.last e a d b) = ArrayValues.last e a (val d) b
  values (ArrayValues.last_sep e a d b) = ArrayValues.last_sep e a (val d) b

  table : {s : List ℕ} → InlineTable Toml10 s → InlineTable Toml11 s
  table (InlineTable.empty_10 {a = a} {b = b} e n c d) =
      InlineTable.empty_11 (e ∙ ap (λ (x : List ℕ). 123 ∷ x) (sym (append_assoc a b (125 ∷ [])))) refl
      (lines_then (lines c) (lines d))
  table (InlineTable.full_10 {a = a} {t = t} {b = b} e n c d f) =
      let whole : a ++ (t ++ (b ++ (125 ∷ []))) ≡ (a ++ (t ++ b)) ++ ([] ++ (125 ∷ [])) = simp append_assoc in
      InlineTable.full_11 (e ∙ ap (λ (x : List ℕ). 123 ∷ x) whole) refl (keyvals d a b c f) WsCommentNewline.stop
  table (InlineTable.empty_11 e n w) = not_11 n
  table (InlineTable.full_11 e n d w) = not_11 n

  keyvals : {s : List ℕ} → Keyvals Toml10 s → (a b : List ℕ) → Ws a → Ws b → Keyvals Toml11 (a ++ (s ++ b))
  keyvals (Keyvals.last_10 n d) a b c f = one_keyval c (keyval d) f
  keyvals (Keyvals.more_10 {r = x} e n d p r) a b c f = more_keyvals a x b e c (keyval d) p (λ q g. keyvals r q b g f)
  keyvals (Keyvals.more_11 e n c d f g) a b h i = not_11 n
  keyvals (Keyvals.last_11 e n c d f) a b h i = not_11 n
  keyvals (Keyvals.last_sep_11 e n c d f) a b h i = not_11 n

pub ten_in_eleven : TenInEleven
ten_in_eleven run d = val d

pub yes_in_both : YesInBoth
yes_in_both records start end answer a b =
    let (v, s, d) = (tells records 10 start end (Ok true) a).yes_value.0 refl in
    let served : Served records 11 start end Toml11 =
    record { within = s.within; named = refl; shallow = s.shallow } in
    (tells records 11 start end answer b).yes_value.1 (Toml11, served, in_eleven v s.named d)
  where
    in_eleven : {run : List ℕ} (v : _) → edition_number v ≡ 10 → Val v run → Val Toml11 run
    in_eleven Toml10 e d = val d
    in_eleven Toml11 e d = d
