-- A leap over what a look ahead found: the token in progress where it ends within the part, and else the bytes up to the place where the mode is
-- known.
-- Assumes nothing.
use Prim.Native.Nat.{ℕ, ◌+◌, ◌-◌, ◌≤◌}
use mathlib.Core.Path.{◌≡◌, sym, ap, ◌∙◌, subst}
use mathlib.Core.List.{List, ◌++◌}
use native.Mathlib.Omega.{arith}
use Rattle.std.specs.Prelude.{Some, None}
use lib.ListN.{length, take, drop, length-drop, take-append-drop}
use lib.Seq.{drop-drop, length-take-le}
use Rattle.lexer_token.specs.declared.TokenKind.{TokenKind}
use Rattle.lexer.proofs.LineLaws.{feeds_taken}
use Rattle.built_bytes.specs.declared.Mode.{Mode}
use Rattle.built_bytes.specs.Rests.{rest_len}
use Rattle.built_ahead.specs.declared.Ahead.{Ahead}
use Rattle.built_ahead.specs.declared.Ahead.TheVariants.{Whole, Open}
use Rattle.built_ahead.specs.Ahead.{EndsAt, LeadsTo, Looked}
use Rattle.built_lexing.specs.declared.states.Lexing.{Lexing}
use Rattle.built_lexing.specs.States.{lexing_of, idle_at, token_from, given_by, state_after}
use Rattle.built_lexing.specs.Leaps.{LeaptTo}
use Rattle.built_lexing.proofs.StepLaws.{Wholly, wholly, ran_to, ran}

-- ---- what a look ahead found, with the bounds of its places and lines

module _ (m : Mode) (s : List ℕ) (i : ℕ) (inside : i ≤ length s) where
  pub whole_found : (x : Ahead) (k : TokenKind) (e f : ℕ) → x ≡ Whole k e f → Looked m s i x
      → EndsAt m s i k e f × ((i ≤ e) × ((e ≤ length s) × (f ≤ e - i)))
  whole_found x k e f is h =
      let w : EndsAt m s i k e f = subst (Looked m s i) is h in
      (w, (omega (arith, w.end), (omega (arith, w.within), omega (arith, w.lines, feeds_taken (e - i) (drop i s)))))

  pub open_found : (x : Ahead) (n : Mode) (e f : ℕ) → x ≡ Open n e f → Looked m s i x
      → LeadsTo m s i n e f × ((i ≤ e) × ((e ≤ length s) × (f ≤ e - i)))
  open_found x n e f is h =
      let w : LeadsTo m s i n e f = subst (Looked m s i) is h in
      (w, (w.forward, (w.within inside, omega (arith, w.lines, feeds_taken (e - i) (drop i s)))))

-- ---- a leap

module _ (l : Lexing) (s : List ℕ) (i : ℕ) (inside : i ≤ length s) (low : l.line ≤ l.at + 1) where
  rest_at : (e : ℕ) → i ≤ e → drop (e - i) (drop i s) ≡ drop e s
  rest_at e h =
      let n : i + (e - i) ≡ e = omega arith in
      drop-drop (e - i) i s ∙ ap (λ (k : ℕ). drop k s) n

  pub whole_leap : (k : TokenKind) (e feeds at line : ℕ) → EndsAt l.mode s i k e feeds → at ≡ l.at + (e - i) → line ≡ l.line + feeds
      → LeaptTo l s i (record { given = Some (token_from k l at); next = idle_at at line; place = e })
  whole_leap k e feeds at line w is on =
      let n : rest_len l.mode (drop i s) ≡ e - i = omega (arith, w.end) in
      let law : Wholly l (e - i) k (drop i s) = rw (← n, w.kind) (wholly (drop i s) l w.busy (omega (arith, w.end, w.within, length-drop i s))) in
      let left = rest_at e (omega (arith, w.end)) in
      let few = feeds_taken (e - i) (drop i s) in
      let forward : i ≤ e = omega (arith, w.end) in
      record {
        forward = forward;
        within = omega (arith, w.within);
        at = is;
        low = omega (arith, w.lines);
        gives = rw (is, on, w.lines) (law.0 ∙ rw left);
        after = rw (is, on, w.lines) (law.1 ∙ rw left);
      }

  pub open_leap : (n : Mode) (e feeds at line : ℕ) → LeadsTo l.mode s i n e feeds → at ≡ l.at + (e - i) → line ≡ l.line + feeds
      → LeaptTo l s i (record { given = None; next = lexing_of n l.start l.first at line; place = e })
  open_leap n e feeds at line w is on =
      let u = take (e - i) (drop i s) in
      let size : length u ≡ e - i = length-take-le (e - i) (drop i s) (omega (arith, w.forward, w.within inside, length-drop i s)) in
      let split : drop i s ≡ u ++ drop e s = sym (take-append-drop (e - i) (drop i s)) ∙ ap (λ (x : List ℕ). u ++ x) (rest_at e w.forward) in
      let law = ran l w.runs (drop e s) in
      let few = feeds_taken (e - i) (drop i s) in
      let next : ran_to l n u ≡ lexing_of n l.start l.first at line = rw (size, is, on, w.lines) in
      record {
        forward = w.forward;
        within = w.within inside;
        at = is;
        low = omega (arith, w.lines);
        gives = ap (given_by l) split ∙ law.0 ∙ ap (λ (m : Lexing). given_by m (drop e s)) next;
        after = ap (state_after l) split ∙ law.1 ∙ ap (λ (m : Lexing). state_after m (drop e s)) next;
      }
