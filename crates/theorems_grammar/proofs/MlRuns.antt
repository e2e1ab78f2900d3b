-- A flat run: contents and quote marks in any order, never three marks in a row. Both directions between the grammar of a
-- multi-line body and the decoder go through it. The two kinds differ in their mark and in what is a content.
use Prim.Native.Nat.{ℕ, suc, ◌+◌, ◌≤◌, ◌<◌}
use mathlib.Core.Path.{◌≡◌, sym, ◌∙◌, ap, subst}
use mathlib.Core.Bool.{Bool, false}
use mathlib.Core.List.{List, [], ◌∷◌, ◌++◌}
use native.Mathlib.Omega.{arith}
use lib.ListN.{length, length-append}
use Rattle.text_scalars.specs.Utf8.{Scalar, encode_scalar, encodes, All}
use Rattle.text_scalars.proofs.ReadLaws.{encodes_append}
use Rattle.text_scalars.proofs.CutLaws.{all_parts}
use Rattle.decoder_rules.specs.Pieces.{notes_at, Pieces, collect}
use Rattle.theorems_grammar.specs.Strings.{Apart}
use Rattle.theorems_grammar.proofs.Reading.{ErrorFree, Reads}
use Rattle.theorems_grammar.proofs.Passing.{Mark, Seen, seen0, seen1, seen2, Passed, Through, through_one, through_two, through_three, through_end, through_after, through_rest}

-- a content: its text, its value, and what follows it
abbrev pub Contents : Type 1
Contents = List ℕ → List ℕ → List ℕ → Type 0

-- a run, by its text and its value, where as many marks stand right before it as `Seen` says
pub data Flat (q : ℕ) (C : Contents) : Seen → List ℕ → List ℕ → Type 0 where
  end : {k : Seen} → Flat q C k [] []
  mark0 : {t v : List ℕ} → Flat q C seen1 t v → Flat q C seen0 (q ∷ t) (q ∷ v)
  mark1 : {t v : List ℕ} → Flat q C seen2 t v → Flat q C seen1 (q ∷ t) (q ∷ v)
  content : {k : Seen} {t r w v : List ℕ} → C t w r → Flat q C seen0 r v → Flat q C k (t ++ r) (w ++ v)

-- the text of some run
abbrev pub FlatOf : ℕ → Contents → Seen → List ℕ → Type 0
FlatOf q C k t = (v : List ℕ) × Flat q C k t v

pub put : (q : ℕ) (C : Contents) (k : Seen) (t w r : List ℕ) → C t w r → FlatOf q C seen0 r → FlatOf q C k (t ++ r)
put q C k t w r first (v, rest) = (w ++ v, content {k = k} first rest)

-- ---- the lexer goes through a run to its closing marks

-- the lexer passes each content
abbrev pub Passes : ℕ → Contents → Type 0
Passes q C = (k : Seen) (t w r : List ℕ) → C t w r → Passed q k t

pub flat_through : {q : ℕ} {C : Contents} {k : Seen} {t v : List ℕ} → Mark q → Passes q C → Flat q C k t v
    → (rest : List ℕ) → Apart q rest → Through q rest k t
flat_through mark passes (end {k}) rest apart = through_end mark rest apart k
flat_through mark passes (mark0 {t} run) rest apart = (through_one mark rest t).1 (flat_through mark passes run rest apart)
flat_through mark passes (mark1 {t} run) rest apart = (through_two mark rest t).1 (flat_through mark passes run rest apart)
flat_through {q} mark passes (content {k} {t} {r} {w} c run) rest apart =
    through_after q rest k t r (passes k t w r c) (flat_through mark passes run rest apart)

-- ---- from a run to the grammar's body: what may follow one mark, and what may follow two

pub data AfterOne (q : ℕ) (Cont : List ℕ → List ℕ → Type 0) : List ℕ → List ℕ → Type 0 where
  as_is : {t v : List ℕ} → Cont t v → AfterOne q Cont t v
  again : {t v : List ℕ} → Cont t v → AfterOne q Cont (q ∷ t) (q ∷ v)

pub record Bodies (q : ℕ) (C : Contents) (Body Cont : List ℕ → List ℕ → Type 0) : Type 0 where
  pub no_body : Body [] []
  pub no_cont : Cont [] []
  pub one_mark : (t v : List ℕ) → Cont t v → Body (q ∷ t) (q ∷ v)
  pub two_marks : (t v : List ℕ) → Cont t v → Body (q ∷ (q ∷ t)) (q ∷ (q ∷ v))
  pub put_body : (t w r v : List ℕ) → C t w r → Body r v → Body (t ++ r) (w ++ v)
  pub put_cont : (t w r v : List ℕ) → C t w r → Body r v → Cont (t ++ r) (w ++ v)

module _ (q : ℕ) (C : Contents) (Body Cont : List ℕ → List ℕ → Type 0) (bodies : Bodies q C Body Cont) where
  abbrev After : Seen → List ℕ → List ℕ → Type 0
  After seen0 t v = Body t v
  After seen1 t v = AfterOne q Cont t v
  After seen2 t v = Cont t v

  from_mark : {t v : List ℕ} → AfterOne q Cont t v → Body (q ∷ t) (q ∷ v)
  from_mark (as_is {t} {v} c) = bodies.one_mark t v c
  from_mark (again {t} {v} c) = bodies.two_marks t v c

  none_after : (k : Seen) → After k [] []
  none_after seen0 = bodies.no_body
  none_after seen1 = as_is bodies.no_cont
  none_after seen2 = bodies.no_cont

  put_after : (k : Seen) (t w r v : List ℕ) → C t w r → Body r v → After k (t ++ r) (w ++ v)
  put_after seen0 t w r v first body = bodies.put_body t w r v first body
  put_after seen1 t w r v first body = as_is (bodies.put_cont t w r v first body)
  put_after seen2 t w r v first body = bodies.put_cont t w r v first body

  flat_after : {k : Seen} {t v : List ℕ} → Flat q C k t v → After k t v
  flat_after (end {k}) = none_after k
  flat_after (mark0 run) = from_mark (flat_after run)
  flat_after (mark1 run) = again (flat_after run)
  flat_after (content {k} {t} {r} {w} {v} c run) = put_after k t w r v c (flat_after run)

  pub flat_body : {t v : List ℕ} → Flat q C seen0 t v → Body t v
  flat_body f = flat_after f

-- ---- from the decoder to a run

module _ (pieces : Pieces) (q : ℕ) (C : Contents) (rest : List ℕ) where
  -- a text that is read without error, in one token, is a run
  abbrev pub RunIf : List ℕ → Type 0
  RunIf m =
      All Scalar m → (k : Seen) (at : ℕ) → ErrorFree pieces false at (encodes m) → Through q rest k m → FlatOf q C k m

  -- the same claim for all texts of at most n code points
  abbrev pub UpTo : ℕ → Type 0
  UpTo n = (m : List ℕ) → length m ≤ n → RunIf m

  -- a mark comes first
  mark_clean : Mark q → (cs : List ℕ) → RunIf cs → All Scalar cs → (k : Seen) (at : ℕ)
      → ErrorFree pieces false at (encodes cs) → Through q rest k (q ∷ cs) → FlatOf q C k (q ∷ cs)
  mark_clean mark cs run-if scalars seen0 at clean through =
      let run = run-if scalars seen1 at clean ((through_one mark rest cs).0 through) in
      (q ∷ run.0, mark0 run.1)
  mark_clean mark cs run-if scalars seen1 at clean through =
      let run = run-if scalars seen2 at clean ((through_two mark rest cs).0 through) in
      (q ∷ run.0, mark1 run.1)
  mark_clean mark cs run-if scalars seen2 at clean through = absurd (through_three mark rest cs through)

  -- the code point c comes first, is read, and is the mark
  pub mark_first : Mark q → (c : ℕ) (cs : List ℕ) → c ≡ q → RunIf cs → All Scalar cs → (k : Seen) (at : ℕ)
      → Reads pieces false at (encodes (c ∷ cs)) (encode_scalar c) false (encodes cs)
      → ErrorFree pieces false at (encodes (c ∷ cs)) → Through q rest k (c ∷ cs) → FlatOf q C k (c ∷ cs)
  mark_first mark c cs same run-if scalars k at reading clean through =
      subst (λ y. FlatOf q C k (y ∷ cs)) (sym same)
      (mark_clean mark cs run-if scalars k reading.to (sym reading.quiet ∙ clean)
      (subst (λ y. Through q rest k (y ∷ cs)) same through))

  -- the part t comes first and is read: the rest ds is without error, shorter, and of scalar values
  pub left_clean : (m t ds o : List ℕ) (d : Bool) (at : ℕ)
      (reading : Reads pieces false at (encodes t ++ encodes ds) o d (encodes ds))
      → m ≡ t ++ ds → ErrorFree pieces false at (encodes m) → ErrorFree pieces d reading.to (encodes ds)
  left_clean m t ds o d at reading split clean =
      sym reading.quiet ∙ (ap (collect pieces notes_at 0 false at) (sym (encodes_append t ds) ∙ ap encodes (sym split)) ∙ clean)

  pub left_small : (n : ℕ) (m t ds : List ℕ) → m ≡ t ++ ds → 0 < length t → length m ≤ suc n → All Scalar m
      → (length ds ≤ n) × All Scalar ds
  left_small n m t ds split some few scalars =
      let lengths : length m ≡ length t + length ds = ap length split ∙ length-append t ds in
      (omega arith, (all_parts Scalar t ds (subst (All Scalar) split scalars)).1)

  -- a content comes first
  pub content_clean : (n : ℕ) → UpTo n → (m t w ds : List ℕ) (k : Seen) (at : ℕ) → C t w ds
      → Reads pieces false at (encodes t ++ encodes ds) (encodes w) false (encodes ds) → Passed q k t → m ≡ t ++ ds → 0 < length t
      → length m ≤ suc n → All Scalar m → ErrorFree pieces false at (encodes m) → Through q rest k m → FlatOf q C k m
  content_clean n shorter m t w ds k at c reading passed split some few scalars clean through =
      let small = left_small n m t ds split some few scalars in
      let through-left = through_rest q rest k t ds passed (subst (Through q rest k) split through) in
      let clean-left = left_clean m t ds (encodes w) false at reading split clean in
      subst (FlatOf q C k) (sym split)
      (put q C k t w ds c (shorter ds small.0 small.1 seen0 reading.to clean-left through-left))
