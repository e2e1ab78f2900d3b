-- What it is that a promise admits one answer only, for a function that reads or writes: where it does not fail. Which error
-- a failure has is the system's.
use Rattle.std.proofs.Common.{◌≡◌, ℕ, List, refl}
use Rattle.std.specs.Prelude.{Result, Ok}
use Rattle.io.specs.Counts.{IsPrefixLen}
use Rattle.program_io.proofs as promised

-- A promise is about a function's lifetimes, its arguments, its result, and what its parameters hold at exit.
module _ {L B E : Type 0} {A S : L → Type 0} (Promise : (κs : L) → A κs → Result B E → S κs → Type 0) where
  -- any two values that meet it for the same arguments are the same
  abbrev pub OneValue : Type 0
  OneValue = (κs : L) (a : A κs) (x y : B) (s t : S κs) → Promise κs a (Ok x) s → Promise κs a (Ok y) t → x ≡ y

-- of the process's own standard output: a write returns nothing
pub write_bytes : OneValue promised.HostRuntimeConsole.write_bytes.Reads.Learnt
write_bytes κs a x y s t p q = refl

-- The promise of a read of standard input admits many values, and this theorem says so: each number of bytes that the buffer has.
-- What the input holds decides which one is given, and no contract can speak of that.
module _ {L E : Type 0} {A S : L → Type 0} (Promise : (κs : L) → A κs → Result ℕ E → S κs → Type 0) where
  abbrev AnyCount : ((κs : L) → S κs → List ℕ) → Type 0
  AnyCount buffer = (κs : L) (a : A κs) (n : ℕ) (s : S κs) → IsPrefixLen n (buffer κs s) → Promise κs a (Ok n) s

pub read_bytes : AnyCount promised.HostRuntimeConsole.read_bytes.Reads.Learnt (λ κs s. s.1.0.now)
read_bytes κs a n s h = (h, tt)
