-- What a crash leaves of a page volume in memory: of each page what was synced, what was written, or a mixture.
use Rattle.std.specs.Prelude.{◌≡◌, ◌≢◌, ◌⊎◌, ℕ, false, List, [], Option, Some, None}
use Rattle.disk_core.specs.declared.media.Crash.{Crash}
use Rattle.disk_core.specs.declared.media.Crash.TheVariants.{Lost, Kept, Torn}
use Rattle.disk_core.specs.Pages.{Pages, OthersStay}
use Rattle.disk_core.specs.MemLog.{mixed_bytes}

abbrev pub bytes_or_none : Option (List ℕ) → List ℕ
bytes_or_none None = []
bytes_or_none (Some bytes) = bytes

-- what a page was at the last sync, by what is noted of it, if it is, and by what it is now
abbrev pub synced_of : Option (Option (List ℕ)) → Option (List ℕ) → Option (List ℕ)
synced_of None now = now
synced_of (Some before) now = before

-- the same page is synced, each time by notes and what is there
abbrev pub HaveSame : (ℕ → Option (Option (List ℕ))) → Pages → (ℕ → Option (Option (List ℕ))) → Pages → Type 0
HaveSame before now before_2 now_2 = (q : ℕ) → synced_of (before_2 q) (now_2 q) ≡ synced_of (before q) (now q)

-- one page has this note, and the others stay
pub record HasEntry (page : ℕ) (bytes : Option (List ℕ)) (old new : ℕ → Option (Option (List ℕ))) : Type 0 where
  pub others : (q : ℕ) → q ≢ page → new q ≡ old q
  pub here : new page ≡ Some bytes

-- one page becomes this one, or none, and the others stay
pub record BecomesPage (page : ℕ) (bytes : Option (List ℕ)) (old new : Pages) : Type 0 where
  pub others : OthersStay page old new
  pub here : new page ≡ bytes

-- present where it was written so
abbrev pub mixed_page : Option (List ℕ) → Option (List ℕ) → Option (List ℕ)
mixed_page synced None = None
mixed_page synced (Some written) = Some (mixed_bytes false (bytes_or_none synced) written)

-- what each crash leaves
abbrev pub page_outcome_of : Crash → Option (List ℕ) → Option (List ℕ) → Option (List ℕ)
page_outcome_of Lost synced written = synced
page_outcome_of Kept synced written = written
page_outcome_of Torn synced written = mixed_page synced written

abbrev pub IsPageOutcome : Option (List ℕ) → Option (List ℕ) → Option (List ℕ) → Type 0
IsPageOutcome synced written c = (c ≡ written) ⊎ ((c ≡ synced) ⊎ (c ≡ mixed_page synced written))

abbrev pub AreOutcomes : Pages → Pages → Pages → Type 0
AreOutcomes synced written c = (q : ℕ) → IsPageOutcome (synced q) (written q) (c q)
