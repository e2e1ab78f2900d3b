-- An ml-basic body of the grammar as a flat run, and back.
use mathlib.Core.Path.{◌≡◌, refl}
use mathlib.Core.Bool.{Bool, true}
use mathlib.Core.List.{List, [], ◌++◌, append_assoc, append-nil}
use Prim.Native.Nat.{ℕ}
use Rattle.decoder_rules.specs.declared.Edition.{Edition}
use Rattle.theorems_grammar.specs.Grammar.{MlbContent, MlbContents, MlbContents1, some_content, MlbQuotes, one, two, MlbGroups, OptMlbQuotes, MlBasicBody, ml_basic_body}
use Rattle.theorems_grammar.specs.Scalars.{ContentNames, ContentsName, Contents1Name, GroupsName, BodyNames}
use Rattle.theorems_grammar.specs.Prose.{Drops, ContentsDrop, Contents1Drop, GroupsDrop, BodyDrops}
use Rattle.theorems_grammar.proofs.Passing.{Seen, seen0, seen1, seen2}
use Rattle.theorems_grammar.proofs.MlRuns.{Flat, end, mark0, mark1, content, Bodies, flat_body}

-- X is asked for only where s is true
abbrev pub Need : Bool → Type 0 → Type 0
Need s X = s ≡ true → X

-- in one edition of TOML
module _ (ed : Edition) where
  -- a content whose escapes name scalar values; where `strict` is true, a line-ending backslash drops all that it can
  pub data Kept (strict : Bool) : List ℕ → List ℕ → List ℕ → Type 0 where
    kept : {t w r : List ℕ} (c : MlbContent ed t w) → ContentNames c → Need strict (Drops c r) → Kept strict t w r

  abbrev pub Run : Bool → Seen → List ℕ → List ℕ → Type 0
  Run s = Flat 0x22 (Kept s)

  -- ---- from the grammar to a run

  module _ (strict : Bool) where
    module _ (f v : List ℕ) where
      -- a content, and after it the text `more`, which has the value `value`
      content_run : {t w : List ℕ} (c : MlbContent ed t w) → ContentNames c → (more value : List ℕ)
          → Need strict (Drops c (more ++ f))
          → (k : Seen) → Run strict seen0 (more ++ f) (value ++ v) → Run strict k ((t ++ more) ++ f) ((w ++ value) ++ v)
      content_run {t} {w} c names more value drops k run =
          rw (append_assoc t more f, append_assoc w value v) (content (kept c names drops) run)

      contents_run : {t w : List ℕ} (d : MlbContents ed t w) → ContentsName d → Need strict (ContentsDrop d f)
          → Run strict seen0 f v
          → Run strict seen0 (t ++ f) (w ++ v)
      contents_run MlbContents.stop names drops run = run
      contents_run (MlbContents.more {r = more} {v = value} c rest) names drops r =
          content_run c names.0 more value (λ asked. (drops asked).0) seen0
          (contents_run rest names.1 (λ asked. (drops asked).1) r)

      contents1_run : {t w : List ℕ} (d : MlbContents1 ed t w) → Contents1Name d → Need strict (Contents1Drop d f)
          → Run strict seen0 f v
          → (k : Seen) → Run strict k (t ++ f) (w ++ v)
      contents1_run (some_content {r = more} {v = value} c rest) names drops r k =
          content_run c names.0 more value (λ asked. (drops asked).0) k
          (contents_run rest names.1 (λ asked. (drops asked).1) r)

    quotes_run : {q t v : List ℕ} → MlbQuotes q → ((k : Seen) → Run strict k t v) → Run strict seen0 (q ++ t) (q ++ v)
    quotes_run one run = mark0 (run seen1)
    quotes_run two run = mark0 (mark1 (run seen2))

    groups_run : (f v : List ℕ) {t w : List ℕ} (d : MlbGroups ed t w) → GroupsName d → Need strict (GroupsDrop d f)
        → Run strict seen0 f v
        → Run strict seen0 (t ++ f) (w ++ v)
    groups_run f v MlbGroups.stop names drops run = run
    groups_run f v (MlbGroups.more {q} {t} {r = more} {w} {v = value} qs c gs) names drops r =
        let run = groups_run f v gs names.1 (λ asked. (drops asked).1) r in
        rw (append_assoc q (t ++ more) f, append_assoc t more f, append_assoc q (w ++ value) v, append_assoc w value v)
        (quotes_run qs (contents1_run (more ++ f) (value ++ v) c names.0 (λ asked. (drops asked).0) run))

    option_run : {q : List ℕ} → OptMlbQuotes q → Run strict seen0 q q
    option_run OptMlbQuotes.absent = end
    option_run (OptMlbQuotes.present one) = mark0 end
    option_run (OptMlbQuotes.present two) = mark0 (mark1 end)

    pub body_run : {t v : List ℕ} (d : MlBasicBody ed t v) → BodyNames d → Need strict (BodyDrops d) → Run strict seen0 t v
    body_run (ml_basic_body {a} {g} {q} {w} {v} cs gs o) names drops =
        contents_run (g ++ q) (v ++ q) cs names.0 (λ asked. (drops asked).0)
        (groups_run q q gs names.1 (λ asked. (drops asked).1) (option_run o))

  -- ---- from a run to the grammar

  pub data MeantBody : List ℕ → List ℕ → Type 0 where
    meant : {t v : List ℕ} (d : MlBasicBody ed t v) → BodyNames d → BodyDrops d → MeantBody t v

  -- what may follow marks: nothing, or contents
  data Cont : List ℕ → List ℕ → Type 0 where
    nothing : Cont [] []
    run_on : {t w g u q : List ℕ} (c : MlbContents1 ed t w) (gs : MlbGroups ed g u) (o : OptMlbQuotes q)
        → Contents1Name c → GroupsName gs → Contents1Drop c (g ++ q) → GroupsDrop gs q → Cont (t ++ (g ++ q)) (w ++ (u ++ q))

  quotes_body : {p t v : List ℕ} → MlbQuotes p → Cont t v → MeantBody (p ++ t) (p ++ v)
  quotes_body {p} qs nothing =
      rw (append-nil p) (meant (ml_basic_body MlbContents.stop MlbGroups.stop (OptMlbQuotes.present qs)) (tt, tt) (tt, tt))
  quotes_body {p} qs (run_on {t} {w} {g} {u} {q} c gs o names group-names drops group-drops) =
      rw (← append_assoc t g q, ← append_assoc w u q, ← append_assoc p (t ++ g) q, ← append_assoc p (w ++ u) q)
      (meant (ml_basic_body MlbContents.stop (MlbGroups.more qs c gs) o) (tt, (names, group-names)) (tt, (drops, group-drops)))

  content_cont : (t w r v : List ℕ) → Kept true t w r → MeantBody r v → Cont (t ++ r) (w ++ v)
  content_cont t w r v (kept c names drops) (meant (ml_basic_body {a} {g} {q} {w = value} {v = u} cs gs o) named dropped) =
      rw (← append_assoc t a (g ++ q), ← append_assoc w value (u ++ q))
      (run_on (some_content c cs) gs o (names, named.0) named.1 (drops refl, dropped.0) dropped.1)

  content_body : (t w r v : List ℕ) → Kept true t w r → MeantBody r v → MeantBody (t ++ r) (w ++ v)
  content_body t w r v (kept c names drops) (meant (ml_basic_body {a} {g} {q} {w = value} {v = u} cs gs o) named dropped) =
      rw (← append_assoc t a (g ++ q), ← append_assoc w value (u ++ q))
      (meant (ml_basic_body (MlbContents.more c cs) gs o) ((names, named.0), named.1)
      ((drops refl, dropped.0), dropped.1))

  bodies : Bodies 0x22 (Kept true) MeantBody Cont
  bodies =
      record {
        no_body = meant (ml_basic_body MlbContents.stop MlbGroups.stop OptMlbQuotes.absent) (tt, tt) (tt, tt);
        no_cont = nothing;
        one_mark = λ t v c. quotes_body one c;
        two_marks = λ t v c. quotes_body two c;
        put_body = content_body;
        put_cont = content_cont;
      }

  pub run_body : {t v : List ℕ} → Run true seen0 t v → MeantBody t v
  run_body run = flat_body 0x22 (Kept true) MeantBody Cont bodies run
