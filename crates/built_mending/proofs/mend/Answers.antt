-- `mend` is right because it writes only where all of it fits, which it has counted, or which no document can pass.
use Rattle.std.proofs.Common.{ℕ, ◌*◌, ◌≤◌, List, length, arith}
use Rattle.text_refusals.specs.Refusals.{limit}
use Rattle.decoder_rules.proofs.StoreLaws.{front_long}
use Rattle.built_mending.specs.Mending.{mended, listed}
use Rattle.built_mending.proofs.BoundLaws.{mended_most, listed_few}
use Rattle.built_mending.proofs.AnswerLaws.{wrote_long, wrote_short, wrote_few, wrote_both}
use Rattle.built_mending.proofs.mend.Goals as goal
use Rattle.built_mending.proofs.mend.Goals.{then-not-is_roomy+else-need-gt-LIMIT+else-output-need+else-records-need, else-not-is_roomy}

-- there is room for all of it
abbrev Fits : List ℕ → ℕ → ℕ → ℕ → Type 0
Fits doc edition o m =
    (length (mended edition doc) ≤ limit) × (length (mended edition doc) ≤ o) × (length (listed edition doc) ≤ m)

-- where no document of this length needs more
roomy : (doc : List ℕ) (edition o m : ℕ) → (6 * length doc ≤ limit) × (6 * length doc ≤ o) × (length doc ≤ m) → Fits doc edition o m
roomy doc edition o m h =
    let most = mended_most edition doc in
    (omega (arith, most, h.0), omega (arith, most, h.1), omega (arith, listed_few edition doc, h.2))

pub returns-then-need-gt-LIMIT : goal.returns-then-need-gt-LIMIT
returns-then-need-gt-LIMIT c =
    let a = c.args in
    let n = c.needed-need in
    wrote_long (mended a.edition a.doc.now) (listed a.edition a.doc.now) a.output.now a.records.now n.result.bytes 0
    n.ensures.bytes c.if-need-gt-LIMIT.true

pub returns-then-output-need : goal.returns-then-output-need
returns-then-output-need c =
    let a = c.args in
    let n = c.needed-need in
    wrote_short (mended a.edition a.doc.now) (listed a.edition a.doc.now) a.output.now a.records.now n.result.bytes 0
    n.ensures.bytes c.if-need-gt-LIMIT.false c.if-output-need.true

pub returns-then-records-need : goal.returns-then-records-need
returns-then-records-need c =
    let a = c.args in
    let n = c.needed-need in
    wrote_few (mended a.edition a.doc.now) (listed a.edition a.doc.now) a.output.now a.records.now n.result.bytes n.result.records
    n.ensures.bytes c.if-need-gt-LIMIT.false c.if-output-need.false n.ensures.records c.if-records-need.true

pub fill-requires : goal.fill-requires
fill-requires c =
    let a = c.args in
    let r : Fits a.doc.now a.edition (length a.output.now) (length a.records.now) =
    elim c.if-not-is_roomy.branch [
      | then-not-is_roomy+else-need-gt-LIMIT+else-output-need+else-records-need w ↦ (
        omega (arith, w.needed-need.ensures.bytes, w.if-need-gt-LIMIT.false),
        omega (arith, w.needed-need.ensures.bytes, w.if-output-need.false),
        omega (arith, w.needed-need.ensures.records, w.if-records-need.false),
      )
      | else-not-is_roomy w ↦
          roomy a.doc.now a.edition _ _ (c.is_roomy.ensures w.if-not-is_roomy.false)
    ] in
    (c.requires, r.1, r.2)

pub returns : goal.returns
returns c =
    let a = c.args in
    let r : Fits a.doc.now a.edition (length a.output.now) (length a.records.now) =
    elim c.if-not-is_roomy.branch [
      | then-not-is_roomy+else-need-gt-LIMIT+else-output-need+else-records-need w ↦ (
        omega (arith, w.needed-need.ensures.bytes, w.if-need-gt-LIMIT.false),
        omega (arith, w.needed-need.ensures.bytes, w.if-output-need.false),
        omega (arith, w.needed-need.ensures.records, w.if-records-need.false),
      )
      | else-not-is_roomy w ↦
          roomy a.doc.now a.edition _ _ (c.is_roomy.ensures w.if-not-is_roomy.false)
    ] in
    let done = c.fill in
    let n = front_long done.ensures.output in
    let m = front_long done.ensures.records in
    wrote_both (mended a.edition a.doc.now) (listed a.edition a.doc.now) a.output.now a.records.now
    done.result.bytes done.result.records n (omega (arith, n, r.0)) (omega (arith, n, r.1)) m (omega (arith, m, r.2))
    done.ensures.output done.ensures.records
