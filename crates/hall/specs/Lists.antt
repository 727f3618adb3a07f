-- What a pass knows of the histories of a table. First come those of the locks, then those of the published words.
use Rattle.std.specs.Prelude.{◌≡◌, ℕ, List}
use Rattle.notes.specs.Lists.{at, own}
use Rattle.hall.specs.declared.writer.Writer.{Writer}
use Rattle.hall.specs.declared.writer.Writer.TheVariants.{Session}

module _ {E : Type 0} where
  -- the histories that this writer adds to were seen whole
  pub record Whole (writer : ℕ → Writer) (who : Writer) (seen lists : List (List E)) : Type 0 where
    pub whole : (q : ℕ) → writer q ≡ who → at seen q ≡ at lists q

  -- all entries of the session were seen, and all of the words that it alone publishes
  pub record OwnSeen (session : E → ℕ) (writer : ℕ → Writer) (m : ℕ) (seen lists : List (List E)) : Type 0 where
    pub entries : (q : ℕ) → own session m (at lists q) ≡ own session m (at seen q)
    pub words : Whole writer (Session m) seen lists
