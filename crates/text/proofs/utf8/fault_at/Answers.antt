-- `fault_at` is right because `begun` counts the bytes that begin a character.
use native.Mathlib.Omega.{arith}
use Rattle.text.proofs.FaultLaws.{fault_lead, fault_end, fault_within}
use Rattle.text.proofs.utf8.fault_at.Goals as goal

pub returns-then-lead-eq0 : goal.returns-then-lead-eq0
returns-then-lead-eq0 c =
    let a = c.args in
    let lead = c.lead_of-lead in
    fault_lead a.s.now a.at lead.result lead.ensures c.if-lead-eq0.true

pub returns-then-found-s : goal.returns-then-found-s
returns-then-found-s c =
    let a = c.args in
    let s = a.s.now in
    let lead = c.lead_of-lead in
    let found = c.begun-found in
    let asks = c.if-lead-eq0.false in
    fault_end s a.at lead.result lead.ensures (omega arith) asks found.result found.ensures c.if-found-s.true

pub returns-else-found-s : goal.returns-else-found-s
returns-else-found-s c =
    let a = c.args in
    let s = a.s.now in
    let lead = c.lead_of-lead in
    let found = c.begun-found in
    let asks = c.if-lead-eq0.false in
    fault_within s a.at lead.result lead.ensures (omega arith) asks found.result found.ensures c.if-found-s.false
