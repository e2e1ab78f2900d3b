-- Runs of tokens: a run is what its rule derives, taken whole, and holds no bracket.
-- Assumes nothing.
use Prim.Native.Nat.{ℕ, ◌+◌, ◌≤◌, ◌<◌}
use mathlib.Core.Path.{◌≡◌, refl, sym, ap, ◌∙◌}
use mathlib.Core.Bool.{Bool, true, false, cond, ◌&&◌, ◌||◌}
use mathlib.Core.List.{List, [], ◌∷◌, ◌++◌}
use native.Mathlib.Omega.{arith}
use borrow.Author.Tests.{eqb-true}
use lib.Dec.{eqb}
use lib.ListN.{length, get_or, drop, drop_of_length-le}
use Rattle.text_classes.proofs.Conds.{cond_case}
use Rattle.built_values.specs.Values.{Ws, WsCommentNewline, ScalarPart, ScalarRun}
use Rattle.built_values.specs.Depth.{count_if}
use Rattle.built_values.specs.Checkers.{is_scalar_part, in_run, past, Takes, NoPart}
use Rattle.built_values.specs.declared.kinds.Run.{Run}
use Rattle.built_values.specs.declared.kinds.Run.TheVariants.{Blanks, Lines, Parts}
use Rattle.built_values.proofs.KindLaws.{at_cons, tops, is_part}

-- ---- a run at a place, for the loop that goes over it

module _ (run : Run) (s : List ℕ) (i : ℕ) where
  pub past_go : i < length s → in_run run (get_or s i 0) (drop (i + 1) s) ≡ true → past run (drop i s) ≡ past run (drop (i + 1) s)
  unfolding past
  past_go h e = ap (past run) (at_cons s i h) ∙ rw e

  pub past_stop : i < length s → in_run run (get_or s i 0) (drop (i + 1) s) ≡ false → past run (drop i s) ≡ drop i s
  unfolding past
  past_stop h e = ap (past run) (at_cons s i h) ∙ rw e (sym (at_cons s i h))

  pub past_end : length s ≤ i → past run (drop i s) ≡ drop i s
  unfolding past
  past_end h = rw (drop_of_length-le s h)

-- a run that does not begin
pub past_none : (run : Run) (k : ℕ) (s : List ℕ) → in_run run k s ≡ false → past run (k ∷ s) ≡ k ∷ s
unfolding past
past_none run k s e = rw e

pub past_nil : (run : Run) → past run [] ≡ []
unfolding past
past_nil run = refl

-- ---- what a rule derives is passed over

pub ws_past : {w : List ℕ} → Ws w → (s : List ℕ) → past Blanks (w ++ s) ≡ past Blanks s
unfolding past
ws_past Ws.stop s = refl
ws_past (Ws.more d) s = ws_past d s

pub lines_past : {w : List ℕ} → WsCommentNewline w → (s : List ℕ) → past Lines (w ++ s) ≡ past Lines s
unfolding past
lines_past WsCommentNewline.stop s = refl
lines_past (WsCommentNewline.blank d) s = lines_past d s
lines_past (WsCommentNewline.line d) s = lines_past d s
lines_past (WsCommentNewline.remark d) s = lines_past d s

-- ---- and what is passed over is what a rule derives

-- nothing is taken, or a kind more
nothing : {G : List ℕ → Type 0} {s : List ℕ} → G [] → Takes G s s
nothing g = record { text = []; whole = refl; derives = g }

one_more : {G : List ℕ → Type 0} (q k : ℕ) {s r : List ℕ} → k ≡ q → ((t : List ℕ) → G t → G (q ∷ t)) → Takes G s r
    → Takes G (k ∷ s) r
one_more q k e more o = record { text = q ∷ o.text; whole = rw (e, ← o.whole); derives = more o.text o.derives }

pub past_ws : (s : List ℕ) → Takes Ws s (past Blanks s)
unfolding past
past_ws [] = nothing Ws.stop
past_ws (k ∷ s) =
    cond_case (λ r. Takes Ws (k ∷ s) r) (eqb k 32)
    (λ e. one_more 32 k (eqb-true k 32 e) (λ t d. Ws.more d) (past_ws s))
    (λ e. nothing Ws.stop)

pub past_lines : (s : List ℕ) → Takes WsCommentNewline s (past Lines s)
unfolding past
past_lines [] = nothing WsCommentNewline.stop
past_lines (k ∷ []) = go (eqb k 32) (eqb k 10) (eqb k 35) refl refl
  where
    go : (x y z : Bool) → eqb k 32 ≡ x → eqb k 10 ≡ y → Takes WsCommentNewline (k ∷ []) (cond (x || (y || z && false)) [] (k ∷ []))
    go true y z e f = one_more 32 k (eqb-true k 32 e) (λ t d. WsCommentNewline.blank d) (nothing WsCommentNewline.stop)
    go false true z e f = one_more 10 k (eqb-true k 10 f) (λ t d. WsCommentNewline.line d) (nothing WsCommentNewline.stop)
    go false false true e f = nothing WsCommentNewline.stop
    go false false false e f = nothing WsCommentNewline.stop
past_lines (k ∷ (j ∷ s)) = go (eqb k 32) (eqb k 10) (eqb k 35) (eqb j 10) refl refl refl refl (past_lines (j ∷ s)) (past_lines s)
  where
    go : (x y z w : Bool) → eqb k 32 ≡ x → eqb k 10 ≡ y → eqb k 35 ≡ z → eqb j 10 ≡ w
        → Takes WsCommentNewline (j ∷ s) (past Lines (j ∷ s)) → Takes WsCommentNewline s (past Lines s)
        → Takes WsCommentNewline (k ∷ (j ∷ s)) (cond (x || (y || z && w)) (past Lines (j ∷ s)) (k ∷ (j ∷ s)))
    go true y z w e f g h o p = one_more 32 k (eqb-true k 32 e) (λ t d. WsCommentNewline.blank d) o
    go false true z w e f g h o p = one_more 10 k (eqb-true k 10 f) (λ t d. WsCommentNewline.line d) o
    go false false true true e f g h o p =
        let kind : k ≡ 35 = eqb-true k 35 g in
        let end : j ≡ 10 = eqb-true j 10 h in
        record {
          text = 35 ∷ (10 ∷ p.text);
          whole = rw (kind, end, ← p.whole);
          derives = WsCommentNewline.remark p.derives;
        }
    go false false true false e f g h o p = nothing WsCommentNewline.stop
    go false false false w e f g h o p = nothing WsCommentNewline.stop

-- ---- the parts of a scalar

pub parts_run : (k : ℕ) (s : List ℕ) → ScalarPart k → Takes ScalarRun (k ∷ s) (past Parts s)
unfolding past
parts_run k [] p = record { text = k ∷ []; whole = refl; derives = ScalarRun.one p }
parts_run k (j ∷ s) p =
    cond_case (λ r. Takes ScalarRun (k ∷ (j ∷ s)) r) (is_scalar_part j)
    (λ e.
    let o = parts_run j s (is_part j e) in
    record { text = k ∷ o.text; whole = rw (← o.whole); derives = ScalarRun.more p o.derives })
    (λ e. record { text = k ∷ []; whole = refl; derives = ScalarRun.one p })

pub no_part_stays : (s : List ℕ) → NoPart s → past Parts s ≡ s
unfolding past
no_part_stays [] e = refl
no_part_stays (k ∷ s) e = rw e

pub run_parts : {t : List ℕ} → ScalarRun t → (r : List ℕ) → NoPart r → past Parts (t ++ r) ≡ r
unfolding past
run_parts (ScalarRun.one ScalarPart.atom) r e = no_part_stays r e
run_parts (ScalarRun.one ScalarPart.dot) r e = no_part_stays r e
run_parts (ScalarRun.more ScalarPart.atom d) r e = run_parts d r e
run_parts (ScalarRun.more ScalarPart.dot d) r e = run_parts d r e

-- ---- what a run does not hold

-- a test that no kind of the run passes counts the same after it
pub past_count : (run : Run) (p : ℕ → Bool) → ((k : ℕ) (s : List ℕ) → in_run run k s ≡ true → p k ≡ false) → (s : List ℕ)
    → count_if p (past run s) ≡ count_if p s
unfolding past count_if
past_count run p apart [] = refl
past_count run p apart (k ∷ s) =
    cond_case (λ r. count_if p r ≡ cond (p k) 1 0 + count_if p s) (in_run run k s)
    (λ e. past_count run p apart s ∙ rw (apart k s e) (omega arith)) (λ e. refl)

-- what comes before a mark that is no part of a scalar has no part of a scalar first, if runs hold none
pub past_no_part : (run : Run) → ((k : ℕ) (s : List ℕ) → in_run run k s ≡ true → is_scalar_part k ≡ false)
    → (q : ℕ) → is_scalar_part q ≡ false → (s : List ℕ) {u : List ℕ} → past run s ≡ q ∷ u → NoPart s
unfolding past
past_no_part run apart q n [] = λ e. refl
past_no_part run apart q n (k ∷ s) {u} =
    cond_case (λ r. r ≡ q ∷ u → is_scalar_part k ≡ false) (in_run run k s) (λ t e. apart k s t) (λ t e. ap is_scalar_part (tops e) ∙ n)
