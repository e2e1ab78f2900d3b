-- What the loop of LoopLaws.antt asks holds of arrays and of inline tables.
-- Assumes nothing.
use Prim.Native.Nat.{ℕ}
use mathlib.Core.Path.{◌≡◌, refl, sym, ap, ◌∙◌}
use mathlib.Core.Bool.{Bool, true, false, ◌&&◌, ◌||◌}
use mathlib.Core.List.{List, [], ◌∷◌, ◌++◌}
use native.Mathlib.Omega.{arith}
use borrow.Author.Tests.{eqb-true}
use lib.Dec.{eqb}
use lib.ListN.{drop}
use Rattle.text_classes.specs.Runs.{stands}
use Rattle.text_classes.proofs.Conds.{not_both}
use Rattle.decoder_rules.specs.declared.Edition.{Edition}
use Rattle.decoder_rules.specs.declared.Edition.TheVariants.{Toml10, Toml11}
use Rattle.built_values.specs.Values.{SimpleKey, Val, Keyval, Array, InlineTable}
use Rattle.built_values.specs.Depth.{is_opening, is_closing}
use Rattle.built_values.specs.Checkers.{is_string, is_scalar_part, in_run, table_run, last_comma, Takes}
use Rattle.built_values.specs.declared.kinds.Run.TheVariants.{Lines}
use Rattle.built_values.proofs.KindLaws.{tops, not_nil}
use Rattle.built_values.proofs.ValLaws.{Begun, val_begun, way_not, keyval_begun}
use Rattle.built_values.proofs.CountLaws.{even_val, even_keyval}
use Rattle.built_values.proofs.ItemLaws.{array_tail, tail_array, table_tail, tail_table}
use Rattle.built_values.proofs.LoopLaws.{Bracketed}

-- ---- a run of blanks or lines holds no bracket and no part of a scalar

-- a kind of such a run is a blank, a newline or a comment, and a test that none of these passes fails
lines_fail : (p : ℕ → Bool) → p 32 ≡ false → p 10 ≡ false → p 35 ≡ false → (k : ℕ) (s : List ℕ)
    → in_run Lines k s ≡ true → p k ≡ false
lines_fail p a b c k s = go (eqb k 32) (eqb k 10) (eqb k 35) refl refl refl
  where
    go : (x y z : Bool) → eqb k 32 ≡ x → eqb k 10 ≡ y → eqb k 35 ≡ z → (x || (y || z && stands 10 s)) ≡ true → p k ≡ false
    go true y z e f g h = ap p (eqb-true k 32 e) ∙ a
    go false true z e f g h = ap p (eqb-true k 10 f) ∙ b
    go false false true e f g h = ap p (eqb-true k 35 g) ∙ c
    go false false false e f g h = not_both h refl

table_fail : (v : Edition) (p : ℕ → Bool) → p 32 ≡ false → p 10 ≡ false → p 35 ≡ false → (k : ℕ) (s : List ℕ)
    → in_run (table_run v) k s ≡ true → p k ≡ false
table_fail Toml10 p a b c k s h = ap p (eqb-true k 32 h) ∙ a
table_fail Toml11 p a b c k s h = lines_fail p a b c k s h

-- ---- no value begins with `]`, no keyval with `}`, and neither with nothing

begins : {P : ℕ → List ℕ → Type 0} {t s : List ℕ} (r : List ℕ) → Begun P t → s ≡ t ++ r
    → (k : ℕ) × (u : List ℕ) × P k u × (s ≡ k ∷ (u ++ r))
begins r b e = (b.kind, b.rest, b.is, e ∙ ap (λ (x : List ℕ). x ++ r) b.whole)

val_not_closed : (v : Edition) (u r : List ℕ) → Takes (Val v) (93 ∷ u) r → ⊥
val_not_closed v u r d =
    let (k, t, way, e) = begins r (val_begun d.derives) d.whole in
    let same : 93 ≡ k = tops e in
    way_not way (sym (ap is_string same)) (sym (ap is_scalar_part same)) (λ f. omega arith) (λ f. omega arith)

val_not_empty : (v : Edition) (r : List ℕ) → Takes (Val v) [] r → ⊥
val_not_empty v r d = let (k, t, way, e) = begins r (val_begun d.derives) d.whole in not_nil e

simple_not_closed : {k : ℕ} → SimpleKey k → 125 ≡ k → ⊥
simple_not_closed SimpleKey.unquoted e = omega arith
simple_not_closed SimpleKey.basic e = omega arith
simple_not_closed SimpleKey.literal e = omega arith

keyval_not_closed : (v : Edition) (u r : List ℕ) → Takes (Keyval v) (125 ∷ u) r → ⊥
keyval_not_closed v u r d =
    let (k, t, is, e) = begins r (keyval_begun d.derives) d.whole in
    simple_not_closed is (tops e)

keyval_not_empty : (v : Edition) (r : List ℕ) → Takes (Keyval v) [] r → ⊥
keyval_not_empty v r d = let (k, t, is, e) = begins r (keyval_begun d.derives) d.whole in not_nil e

-- ---- arrays and inline tables

pub arrays : (v : Edition) → Bracketed (Array v) (Val v) 91 93 Lines true
arrays v = record {
  fit = record {
    not_closed = val_not_closed v;
    not_empty = val_not_empty v;
    no_part = lines_fail is_scalar_part refl refl refl;
    close_no_part = refl;
    close_no_comma = λ e. omega arith;
  };
  enters = λ u r d. array_tail d.derives r u (sym d.whole);
  leaves = λ u r d. tail_array d;
  even = λ t d. even_val d;
  opens = (refl, refl);
  no_opening = lines_fail is_opening refl refl refl;
  no_closing = lines_fail is_closing refl refl refl;
}

pub tables : (v : Edition) → Bracketed (InlineTable v) (Keyval v) 123 125 (table_run v) (last_comma v)
tables v = record {
  fit = record {
    not_closed = keyval_not_closed v;
    not_empty = keyval_not_empty v;
    no_part = table_fail v is_scalar_part refl refl refl;
    close_no_part = refl;
    close_no_comma = λ e. omega arith;
  };
  enters = λ u r d. table_tail v d.derives r u (sym d.whole);
  leaves = λ u r d. tail_table v d;
  even = λ t d. even_keyval d;
  opens = (refl, refl);
  no_opening = table_fail v is_opening refl refl refl;
  no_closing = table_fail v is_closing refl refl refl;
}

-- a bracket that may not stand here, or does not: what the code's one test of both tells
pub not_shut : (shuts : Bool) (ks : List ℕ) (a : ℕ) → (shuts && stands 125 (drop a ks)) ≡ false → shuts ≡ true
    → stands 125 (drop a ks) ≡ false
not_shut true ks a e f = e
not_shut false ks a e f = not_both f refl
