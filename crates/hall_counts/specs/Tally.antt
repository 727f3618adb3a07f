-- Two counters with their histories, and a word that says what the first was found at.
use Rattle.std.specs.Prelude.{◌≡◌, ℕ, ◌+◌, ◌≤◌, ◌==◌, if◌then◌else◌, List, [], ◌∷◌, sum_by}
use Rattle.hall.specs.declared.writer.Writer.{Writer}
use Rattle.hall.specs.declared.writer.Writer.TheVariants.{Session, Lock}
use Rattle.notes.specs.Lists.{at}
use Rattle.hall_counts.specs.declared.Entry.{Entry}

-- the session of an entry
abbrev pub by : Entry → ℕ
by e = e.by

-- lock 0 guards the first word, whose history is at place 2, and the second is session 0's
abbrev pub writes : ℕ → Writer
writes q = if q == 2 then Lock 0 else (if q == 3 then Session 0 else Lock q)

-- what a counter has counted
abbrev pub total : List Entry → ℕ
total xs = sum_by (λ e. e.amount) xs

-- the amount of the last entry, or this number
abbrev pub last_after : ℕ → List Entry → ℕ
last_after n [] = n
last_after n (e ∷ es) = last_after e.amount es

-- the number that was said last, or 0
abbrev pub last : List Entry → ℕ
last xs = last_after 0 xs

-- counter 1 is not ahead, and the word said what counter 0 was not before its last critical section
pub record Kept (ls : List (List Entry)) : Type 0 where
  pub behind : total (at ls 1) ≤ total (at ls 0)
  pub said : last (at ls 2) ≤ total (at ls 0)
  pub recent : total (at ls 0) ≤ last (at ls 2) + 1

-- A critical section of counter 0 has said what it found, and counts at most one. One of counter 1 counts no more than what was seen of counter 0. The word says what was seen of counter 0
pub record May (seen : List (List Entry)) (q : ℕ) (e : Entry) : Type 0 where
  pub first : q ≡ 0 → (e.amount ≤ 1) × (last (at seen 2) ≡ total (at seen 0))
  pub second : q ≡ 1 → total (at seen 1) + e.amount ≤ total (at seen 0)
  pub word : q ≡ 2 → e.amount ≡ total (at seen 0)
