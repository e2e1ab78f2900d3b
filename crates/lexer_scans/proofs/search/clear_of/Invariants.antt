use Rattle.lexer_scans.proofs.BlockLaws.{ClearTo}
use Rattle.lexer_scans.proofs.search.clear_of.Given as goal

abbrev pub invariant-loop-k : goal.invariant-loop-k
invariant-loop-k g l = ClearTo (g.S.ByteSet.holds l.set) l.doc l.i g.S.Passed.BLOCK l.first l.k
