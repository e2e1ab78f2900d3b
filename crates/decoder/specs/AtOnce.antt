-- A text that is decoded ahead of the check, without a pass over pieces. Not to be believed: no promise of a public function
-- cites it.
-- Assumes nothing.
use Rattle.std.specs.Prelude.{◌≡◌, ℕ, ◌≤◌, List, ◌++◌, length, drop}
use Rattle.decoder_rules.proofs.PlainLaws.{Decodes}

-- what it decodes to, n bytes without an error, stands at the front of memory that held `old`
pub record AtOnce (edition kind : ℕ) (t old out : List ℕ) (n : ℕ) : Type 0 where
  pub body : List ℕ
  pub decodes : Decodes t edition kind body
  pub size : length body ≡ n
  pub room : n ≤ length old
  pub holds : out ≡ body ++ drop n old
