-- What `check` reads, and what it writes of it.
use Rattle.std.specs.Prelude.{◌≡◌, ℕ, ◌<◌, ◌⊎◌, List, [], ◌∷◌, ◌++◌, Option, codes, decimal, length, take}
use Rattle.std.specs.Io.KnownBytes.{Appends, Consumes, IsAtEnd}
use Rattle.report_text.specs.Words.{line_text}
use Rattle.tx_io.specs.Amounts.{most_bytes}
use Rattle.tx_io.specs.Causes.{Rose}
use Rattle.report_check.specs.Judgement.{IsFirstUnlawful, IsLawfulText}
use Rattle.report_check.specs.declared.ending.Ending.{Ending}
use Rattle.report_check.specs.declared.ending.Ending.TheVariants as endings

-- the bytes that were read of a source, to its end or past the limit
pub record HasRead (left left' : Option (List ℕ)) (bytes : List ℕ) : Type 0 where
  pub read : Consumes left left' bytes
  pub ended : IsAtEnd left' ⊎ (most_bytes < length bytes)

-- they are the text of a lawful report
pub record ReadsLawful (left left' : Option (List ℕ)) : Type 0 where
  pub bytes : List ℕ
  pub read : HasRead left left' bytes
  pub lawful : IsLawfulText bytes

-- line n is their first unlawful one
pub record ReadsUnlawful (left left' : Option (List ℕ)) (n : ℕ) : Type 0 where
  pub bytes : List ℕ
  pub read : HasRead left left' bytes
  pub unlawful : IsFirstUnlawful bytes n

abbrev pub lawful_text : List ℕ
lawful_text = codes "lawful" ++ 10 ∷ []

abbrev pub unlawful_text : ℕ → List ℕ
unlawful_text n = line_text (codes "unlawful" ∷ decimal n ∷ [])

-- how a check ends, and why
abbrev pub EndsCheck : Option (List ℕ) → Option (List ℕ) → ℕ → ℕ → Ending → Type 0
EndsCheck left left' faults faults' endings.Lawful = ReadsLawful left left'
EndsCheck left left' faults faults' (endings.Unlawful text) = (n : ℕ) × (text.items ≡ unlawful_text n) × ReadsUnlawful left left' n
EndsCheck left left' faults faults' endings.ReadFault = Rose faults faults'
EndsCheck left left' faults faults' endings.Memory = Unit {0}

-- the ending of this line
abbrev pub TellsLine : ℕ → Ending → Type 0
TellsLine n endings.Lawful = ⊥
TellsLine n (endings.Unlawful text) = text.items ≡ unlawful_text n
TellsLine n endings.ReadFault = ⊥
TellsLine n endings.Memory = Unit {0}

-- the ending by these bytes
abbrev pub Judges : List ℕ → Ending → Type 0
Judges bytes endings.Lawful = IsLawfulText bytes
Judges bytes (endings.Unlawful text) = (n : ℕ) × (text.items ≡ unlawful_text n) × IsFirstUnlawful bytes n
Judges bytes endings.ReadFault = ⊥
Judges bytes endings.Memory = Unit {0}

-- its status
abbrev pub status_of : Ending → ℕ
status_of endings.Lawful = 0
status_of (endings.Unlawful text) = 8
status_of endings.ReadFault = 3
status_of endings.Memory = 6

-- the line that it writes
abbrev pub text_of : Ending → List ℕ
text_of endings.Lawful = lawful_text
text_of (endings.Unlawful text) = text.items
text_of endings.ReadFault = codes "read-fault" ++ 10 ∷ []
text_of endings.Memory = codes "memory" ++ 10 ∷ []

-- the line of unlawful input stands behind what the sink held
pub record TellsUnlawful (left left' held held' : Option (List ℕ)) : Type 0 where
  pub line : ℕ
  pub unlawful : ReadsUnlawful left left' line
  pub written : Appends held held' (unlawful_text line)

-- behind what the sink held stands a front of the line of an ending that has its cause
pub record HoldsFront (left left' : Option (List ℕ)) (faults faults' : ℕ) (held held' : Option (List ℕ)) : Type 0 where
  pub ending : Ending
  pub cause : EndsCheck left left' faults faults' ending
  pub count : ℕ
  pub written : Appends held held' (take count (text_of ending))
