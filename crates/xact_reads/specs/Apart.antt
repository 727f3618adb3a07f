-- A session stays away from the ProcArray, unless it met a cut page.
use Rattle.std.specs.Prelude.{◌≡◌, ◌⊎◌, ℕ, ◌^◌, ◌≤◌, List, [], ◌∷◌, ◌++◌, Some, Result, Ok, Err, length, slice_get, take, true}
use Rattle.notes.specs.Lists.{Grows, at, own}
use Rattle.store_pages.specs.Layouts.{xact_page_of}
use Rattle.tx_events.specs.Nearest.{near_id}
use Rattle.tx_events.specs.PageOrder.{Ids, is_cut}
use Rattle.tx_events.specs.declared.event.By.{By}
use Rattle.tx_events.specs.declared.refusal.Refusal.{Refusal}
use Rattle.tx_events.specs.declared.refusal.Refusal.TheVariants as refusals
use Rattle.tx_core.specs.declared.entry.Entry.{Entry}
use Rattle.tx_core.specs.declared.entry.Start.{Start}
use Rattle.tx_core.specs.Entries.{session_of}
use Rattle.tx_core.specs.Locks.{proc_lock, xact_lock, xact_lock_of}
use Rattle.session_levels.specs.declared.session.RegisteredSnapshot.{RegisteredSnapshot}
use Rattle.session_levels.specs.declared.session.Session as plain
use Rattle.engine_parts.specs.Faults.{look_of}
use Rattle.engine_parts.specs.Stand.{IsCutoff, first_xact_page}
use Rattle.xact_reads.specs.Glances.{IsNamed}

-- the session added no entry to the ProcArray's list
abbrev pub StaysApart : ℕ → List (List Entry) → List (List Entry) → Type 0
StaysApart n lists more = own session_of n (at more proc_lock) ≡ own session_of n (at lists proc_lock)

-- so also where it was refused, but for an id that is too old: there it may have met this
abbrev pub ApartUnless : Type 0 → ℕ → List (List Entry) → List (List Entry) → Refusal → Type 0
ApartUnless met n lists more (refusals.TooOld oldest) = StaysApart n lists more ⊎ met
ApartUnless met n lists more refusal = StaysApart n lists more

abbrev pub KeepsApart : {T : Type 0} → Type 0 → ℕ → List (List Entry) → List (List Entry) → Result T Refusal → Type 0
KeepsApart met n lists more (Ok x) = StaysApart n lists more
KeepsApart met n lists more (Err refusal) = ApartUnless met n lists more refusal

-- Behind these lists the command looked for the state of x in one critical section of its bank, its only one there. The
-- page was cut then, by a cutoff that the bank's list had before the look.
pub record FoundCut (start : Start) (by : By) (lists more : List (List Entry)) (x : ℕ) : Type 0 where
  pub bank : ℕ
  pub lock : xact_lock_of start x ≡ xact_lock bank
  pub looked : own session_of by.session (at more (xact_lock bank)) ≡ own session_of by.session (at lists (xact_lock bank)) ++ look_of by ∷ []
  pub place : ℕ
  pub since : length (at lists (xact_lock bank)) ≤ place
  pub look : slice_get (at more (xact_lock bank)) place ≡ Some (look_of by)
  pub cutoff : ℕ
  pub is_cutoff : IsCutoff (first_xact_page start) (2 ^ 17) (take place (at more (xact_lock bank))) cutoff
  pub cut : is_cut Ids 32768 cutoff (xact_page_of x) ≡ true

-- so it did for the id which a stored one means to the session's snapshot of this name
pub record FoundMeantCut (start : Start) (by : By) (lists more : List (List Entry)) (s : plain.Session) (name : List ℕ) (x : ℕ) : Type 0 where
  pub registered : RegisteredSnapshot
  pub named : IsNamed s name registered
  pub id : ℕ
  pub near : near_id registered.snapshot.xmax x ≡ Some id
  pub found : FoundCut start by lists more id

-- In this command, between two moments of it, that was found of a stored id, which is one that it asked for.
pub record MetCut (start : Start) (by : By) (s : plain.Session) (name : List ℕ) (IsAsked : ℕ → Type 0) (lists more : List (List Entry)) : Type 0 where
  pub x : ℕ
  pub asked : IsAsked x
  pub before : List (List Entry)
  pub behind : List (List Entry)
  pub since : Grows lists before
  pub till : Grows behind more
  pub found : FoundMeantCut start by before behind s name x

-- it stayed away from the ProcArray, or met a cut page
abbrev pub ApartOrMet : Start → By → plain.Session → List ℕ → (ℕ → Type 0) → List (List Entry) → List (List Entry) → Type 0
ApartOrMet start by s name IsAsked lists more = StaysApart by.session lists more ⊎ MetCut start by s name IsAsked lists more
