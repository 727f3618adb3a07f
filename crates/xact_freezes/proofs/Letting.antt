-- What was cut and found stays while the other banks are cut.
use Rattle.std.proofs.Common.{◌≡◌, ⊎_elim, ℕ, ◌+◌, ◌<◌, ◌≤◌, List, sym, ap, subst, ◌∙◌, arith}
use Rattle.notes.specs.Lists.{Grows, at}
use Rattle.store_pages.specs.Layouts.{multi_before, subtrans_cut_page, xact_cut_page}
use Rattle.tx_events.proofs.ListSteps.{le_or_over}
use Rattle.tx_events.specs.Horizon.{oldest_xmin}
use Rattle.tx_events.specs.declared.event.By.{By}
use Rattle.tx_core.specs.declared.entry.Entry.{Entry}
use Rattle.tx_core.specs.declared.entry.Kind.TheVariants as kinds
use Rattle.tx_core.specs.declared.entry.Start.{Start}
use Rattle.tx_core.specs.Entries.{history}
use Rattle.tx_core.specs.Locks.{member_page_in_full, members_lock, offset_page, offsets_lock, subtrans_lock, xact_lock}
use Rattle.tx_core.proofs.Growing.{contains_begins}
use Rattle.tx_core.proofs.Lasting.{history_grows}
use Rattle.tx_core.proofs.Rising.{taken_begins}
use Rattle.xact_freezes.specs.Trims.{AreCut, IsCutBy, WasOldestXmin}

pub xmin_later : (start : Start) (lists more : List (List Entry)) (xmin : ℕ) → Grows lists more → WasOldestXmin start lists xmin → WasOldestXmin start more xmin
xmin_later start lists more xmin g was =
    let t = taken_begins (history lists) (history more) was.0 (history_grows lists more g) was.1 in
    (was.0, t.0, was.2 ∙ ap (oldest_xmin start.base.next) (sym t.1))

-- a command's cut stays
pub cut_by_grows : (lists more : List (List Entry)) (by : By) (lock page : ℕ) → Grows lists more → IsCutBy lists by lock page → IsCutBy more by lock page
cut_by_grows lists more by lock page g c = contains_begins (at lists lock) (at more lock) (record { by = by; kind = kinds.Cut page }) (g.begins lock) c

pub cut_later : (start : Start) (lists more : List (List Entry)) (by : By) (oldest xmin multi offset bank : ℕ) → Grows lists more → AreCut start lists by oldest xmin multi offset bank → AreCut start more by oldest xmin multi offset bank
cut_later start lists more by oldest xmin multi offset bank g c = record {
  states = cut_by_grows lists more by (xact_lock bank) (xact_cut_page start.base.oldest oldest) g c.states;
  parents = cut_by_grows lists more by (subtrans_lock bank) (subtrans_cut_page start.base.oldest xmin) g c.parents;
  offsets = cut_by_grows lists more by (offsets_lock bank) (offset_page (multi_before multi)) g c.offsets;
  members = cut_by_grows lists more by (members_lock bank) (member_page_in_full offset) g c.members;
}

-- one bank more
pub cut_more : (start : Start) (lists more : List (List Entry)) (by : By) (oldest xmin multi offset upto : ℕ) → Grows lists more → ((b : ℕ) → b < upto → AreCut start lists by oldest xmin multi offset b) → AreCut start more by oldest xmin multi offset upto → (b : ℕ) → b < upto + 1 → AreCut start more by oldest xmin multi offset b
cut_more start lists more by oldest xmin multi offset upto g before now b lt =
    ⊎_elim
    (λ (le : upto ≤ b). let e : upto ≡ b = omega arith in subst (λ z. AreCut start more by oldest xmin multi offset z) e now)
    (λ (l : b < upto). cut_later start lists more by oldest xmin multi offset b g (before b l))
    (le_or_over upto b)
