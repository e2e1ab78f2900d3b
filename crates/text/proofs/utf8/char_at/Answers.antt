-- `char_at` is right because a character stands where all the bytes are that its first byte asks for.
use mathlib.Core.Path.{sym, ◌∙◌}
use native.Mathlib.Omega.{arith}
use Rattle.text_characters.proofs.LeadLaws.{all_begun, part_begun}
use Rattle.text.proofs.utf8.char_at.Goals as goal

pub returns-then-begun-n : goal.returns-then-begun-n
returns-then-begun-n c =
    let a = c.args in
    let lead = c.lead_of-lead in
    let found = c.begun in
    sym (part_begun a.s.now a.at lead.result lead.ensures found.result found.ensures c.if-begun-n.true)

pub returns-then-n-eq0 : goal.returns-then-n-eq0
returns-then-n-eq0 c =
    let a = c.args in
    let lead = c.lead_of-lead in
    let found = c.begun in
    sym (all_begun a.s.now a.at lead.result lead.ensures found.result found.ensures c.if-begun-n.false) ∙ c.if-n-eq0.true

pub returns-else-n-eq0 : goal.returns-else-n-eq0
returns-else-n-eq0 c =
    let a = c.args in
    let lead = c.lead_of-lead in
    let found = c.begun in
    (omega arith, all_begun a.s.now a.at lead.result lead.ensures found.result found.ensures c.if-begun-n.false)
