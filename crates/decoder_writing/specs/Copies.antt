-- FOLLOWS. A text copied whole to the front of lent memory that held `old`, where it has room.
-- Assumes nothing.
use Rattle.std.specs.Prelude.{ℕ, Option, Some, None, cond, List, ◌++◌, ltb, length, drop}

-- how many bytes are copied: all or none
unfoldable pub fitting : List ℕ → List ℕ → Option ℕ
fitting s old = cond (ltb (length old) (length s)) None (Some (length s))

-- what the memory then holds
unfoldable pub copied_to : List ℕ → List ℕ → List ℕ
copied_to s old = cond (ltb (length old) (length s)) old (s ++ drop (length s) old)
