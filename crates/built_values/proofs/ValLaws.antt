-- How a value begins, and by which rule it goes on: the first kind tells.
-- Assumes nothing.
use Prim.Native.Nat.{ℕ}
use mathlib.Core.Path.{◌≡◌, refl, sym, ap, subst, ◌∙◌}
use mathlib.Core.Bool.{Bool, true, false, ◌&&◌, ◌||◌}
use mathlib.Core.List.{List, [], ◌∷◌, ◌++◌}
use lib.Dec.{eqb}
use Rattle.text_classes.specs.Runs.{stands}
use Rattle.text_classes.proofs.Conds.{not_both}
use Rattle.decoder_rules.specs.declared.Edition.{Edition}
use Rattle.built_values.specs.Values.{SimpleKey, Key, Keyval, keyval, StringToken, ScalarPart, ScalarRun, Val, Array, InlineTable}
use Rattle.built_values.specs.Checkers.{is_string, is_scalar_part, in_run, past, Takes}
use Rattle.built_values.specs.declared.kinds.Run.{Run}
use Rattle.built_values.specs.declared.kinds.Run.TheVariants.{Blanks, Lines}
use Rattle.built_values.proofs.KindLaws.{tails, tops, is_string_lem, string_is, is_part, part_is}
use Rattle.built_values.proofs.RunLaws.{past_none}

-- the rule by which a value that begins with the kind k goes on with the kinds t
pub data Way (v : Edition) (k : ℕ) (t : List ℕ) : Type 0 where
  string : is_string k ≡ true → t ≡ [] → Way v k t
  scalar : is_scalar_part k ≡ true → ScalarRun (k ∷ t) → Way v k t
  array : k ≡ 91 → Array v (k ∷ t) → Way v k t
  table : k ≡ 123 → InlineTable v (k ∷ t) → Way v k t

-- a text begins with a kind that is P, and goes on with Q
pub record Begun (P : ℕ → List ℕ → Type 0) (s : List ℕ) : Type 0 where
  pub kind : ℕ
  pub rest : List ℕ
  pub whole : s ≡ kind ∷ rest
  pub is : P kind rest

module _ {v : Edition} where
  scalar_begun : {t : List ℕ} → ScalarRun t → Begun (Way v) t
  scalar_begun (ScalarRun.one {k} p) =
      record { kind = k; rest = []; whole = refl; is = Way.scalar (part_is p) (ScalarRun.one p) }
  scalar_begun (ScalarRun.more {k} {t} p d) =
      record { kind = k; rest = t; whole = refl; is = Way.scalar (part_is p) (ScalarRun.more p d) }

  array_begun : {t : List ℕ} → Array v t → Begun (Way v) t
  array_begun (Array.empty e w) = record { kind = 91; rest = _; whole = e; is = Way.array refl (Array.empty refl w) }
  array_begun (Array.full e d w) = record { kind = 91; rest = _; whole = e; is = Way.array refl (Array.full refl d w) }

  table_begun : {t : List ℕ} → InlineTable v t → Begun (Way v) t
  table_begun (InlineTable.empty_10 e n a b) =
      record { kind = 123; rest = _; whole = e; is = Way.table refl (InlineTable.empty_10 refl n a b) }
  table_begun (InlineTable.full_10 e n a d b) =
      record { kind = 123; rest = _; whole = e; is = Way.table refl (InlineTable.full_10 refl n a d b) }
  table_begun (InlineTable.empty_11 e n w) =
      record { kind = 123; rest = _; whole = e; is = Way.table refl (InlineTable.empty_11 refl n w) }
  table_begun (InlineTable.full_11 e n d w) =
      record { kind = 123; rest = _; whole = e; is = Way.table refl (InlineTable.full_11 refl n d w) }

  pub val_begun : {t : List ℕ} → Val v t → Begun (Way v) t
  val_begun (Val.string {k} d) = record { kind = k; rest = []; whole = refl; is = Way.string (string_is d) refl }
  val_begun (Val.scalar d) = scalar_begun d
  val_begun (Val.array d) = array_begun d
  val_begun (Val.inline_table d) = table_begun d

-- ---- a text that a rule derives, with what is left after it

-- s begins with the kind k of a text of a rule, whose other kinds come before r
pub record Onward (P : ℕ → List ℕ → Type 0) (k : ℕ) (u r : List ℕ) : Type 0 where
  pub rest : List ℕ
  pub whole : u ≡ rest ++ r
  pub is : P k rest

pub onward : {P : ℕ → List ℕ → Type 0} {G : List ℕ → Type 0} → ((t : List ℕ) → G t → Begun P t)
    → {s r : List ℕ} → Takes G s r → {k : ℕ} {u : List ℕ} → s ≡ k ∷ u → Onward P k u r
onward {P} begun {s} {r} d {k} {u} p =
    let b = begun d.text d.derives in
    let all : b.kind ∷ (b.rest ++ r) ≡ k ∷ u = sym (d.whole ∙ ap (λ (t : List ℕ). t ++ r) b.whole) ∙ p in
    record { rest = b.rest; whole = sym (tails all); is = subst (λ (j : ℕ). P j b.rest) (tops all) b.is }

-- a rule whose texts begin with kinds that are in no run: no run is passed over before its text
pub stays : {P : ℕ → List ℕ → Type 0} {G : List ℕ → Type 0} → ((t : List ℕ) → G t → Begun P t)
    → (run : Run) → ((k : ℕ) (t s : List ℕ) → P k t → in_run run k s ≡ false)
    → {t : List ℕ} → G t → (r : List ℕ) → past run (t ++ r) ≡ t ++ r
stays begun run apart {t} d r =
    let b = begun t d in
    rw b.whole (past_none run b.kind (b.rest ++ r) (apart b.kind b.rest (b.rest ++ r) b.is))

-- ---- the ways, told by the first kind

string_not_part : {k : ℕ} → StringToken k → is_scalar_part k ≡ false
string_not_part StringToken.ml_basic = refl
string_not_part StringToken.basic = refl
string_not_part StringToken.ml_literal = refl
string_not_part StringToken.literal = refl

not_string_and_part : (k : ℕ) {P : Type 0} → is_string k ≡ true → is_scalar_part k ≡ true → P
not_string_and_part k e f = not_both f (string_not_part (is_string_lem k e))

module _ {v : Edition} {k : ℕ} {t : List ℕ} where
  pub way_string : Way v k t → is_string k ≡ true → t ≡ []
  way_string (Way.string e p) h = p
  way_string (Way.scalar e d) h = not_string_and_part k h e
  way_string (Way.array p d) h = not_both h (ap is_string p)
  way_string (Way.table p d) h = not_both h (ap is_string p)

  pub way_scalar : Way v k t → is_scalar_part k ≡ true → ScalarRun (k ∷ t)
  way_scalar (Way.string e p) h = not_string_and_part k e h
  way_scalar (Way.scalar e d) h = d
  way_scalar (Way.array p d) h = not_both h (ap is_scalar_part p)
  way_scalar (Way.table p d) h = not_both h (ap is_scalar_part p)

  pub way_array : Way v k t → k ≡ 91 → Array v (k ∷ t)
  way_array (Way.string e p) h = not_both e (ap is_string h)
  way_array (Way.scalar e d) h = not_both e (ap is_scalar_part h)
  way_array (Way.array p d) h = d
  way_array (Way.table p d) h = not_both (ap (λ (j : ℕ). eqb j 123) p) (ap (λ (j : ℕ). eqb j 123) h)

  pub way_table : Way v k t → k ≡ 123 → InlineTable v (k ∷ t)
  way_table (Way.string e p) h = not_both e (ap is_string h)
  way_table (Way.scalar e d) h = not_both e (ap is_scalar_part h)
  way_table (Way.array p d) h = not_both (ap (λ (j : ℕ). eqb j 91) p) (ap (λ (j : ℕ). eqb j 91) h)
  way_table (Way.table p d) h = d

  pub way_not : Way v k t → is_string k ≡ false → is_scalar_part k ≡ false → (k ≡ 91 → ⊥) → (k ≡ 123 → ⊥) → ⊥
  way_not (Way.string e p) a b c d = not_both e a
  way_not (Way.scalar e p) a b c d = not_both e b
  way_not (Way.array p x) a b c d = c p
  way_not (Way.table p x) a b c d = d p

-- ---- no value begins with a blank, a newline or a comment

string_no_line : {k : ℕ} → StringToken k → (s : List ℕ) → in_run Lines k s ≡ false
string_no_line StringToken.ml_basic s = refl
string_no_line StringToken.basic s = refl
string_no_line StringToken.ml_literal s = refl
string_no_line StringToken.literal s = refl

part_no_line : {k : ℕ} → ScalarPart k → (s : List ℕ) → in_run Lines k s ≡ false
part_no_line ScalarPart.atom s = refl
part_no_line ScalarPart.dot s = refl

-- what is in no run of lines is in no run of blanks
pub lines_blanks : (k : ℕ) (s : List ℕ) → in_run Lines k s ≡ false → in_run Blanks k s ≡ false
lines_blanks k s = go (eqb k 32) (eqb k 10) (eqb k 35) (stands 10 s)
  where
    go : (x y z w : Bool) → (x || (y || z && w)) ≡ false → x ≡ false
    go true y z w e = e
    go false y z w e = refl

pub way_no_line : (v : Edition) (k : ℕ) (t s : List ℕ) → Way v k t → in_run Lines k s ≡ false
way_no_line v k t s (Way.string e p) = string_no_line (is_string_lem k e) s
way_no_line v k t s (Way.scalar e d) = part_no_line (is_part k e) s
way_no_line v k t s (Way.array p d) = ap (λ (j : ℕ). in_run Lines j s) p
way_no_line v k t s (Way.table p d) = ap (λ (j : ℕ). in_run Lines j s) p

-- ---- keys and keyvals begin with a simple key

abbrev pub ByKey : ℕ → List ℕ → Type 0
ByKey k t = SimpleKey k

pub key_begun : {t : List ℕ} → Key t → Begun ByKey t
key_begun (Key.simple_key {k} d) = record { kind = k; rest = []; whole = refl; is = d }
key_begun (Key.dotted_key {k} {t} d e) = record { kind = k; rest = t; whole = refl; is = d }

pub keyval_begun : {v : Edition} {t : List ℕ} → Keyval v t → Begun ByKey t
keyval_begun (keyval {k = k} {p = p} {t = t} e d f g) =
    let b = key_begun d in
    record {
      kind = b.kind;
      rest = b.rest ++ (p ++ t);
      whole = e ∙ ap (λ (x : List ℕ). x ++ (p ++ t)) b.whole;
      is = b.is;
    }

pub key_no_line : (k : ℕ) (t s : List ℕ) → SimpleKey k → in_run Lines k s ≡ false
key_no_line k t s SimpleKey.unquoted = refl
key_no_line k t s SimpleKey.basic = refl
key_no_line k t s SimpleKey.literal = refl
