-- The pages of an id.
use Rattle.std.proofs.Common.{◌≡◌, ℕ, ◌%◌, List, inr, sym, ap, subst, ◌∙◌, arith, length}
use Rattle.tx_events.specs.Ids.{low_half}
use Rattle.tx_events.specs.Events.{given}
use Rattle.tx_events.specs.History.{next_given}
use Rattle.tx_events.proofs.IdOrder.{nth_from}
use Rattle.notes.specs.Lists.{Grows}
use Rattle.tx_core.specs.declared.entry.Entry.{Entry}
use Rattle.tx_core.specs.declared.entry.Kind.TheVariants as kinds
use Rattle.tx_core.specs.declared.entry.Start.{Start}
use Rattle.tx_core.specs.Entries.{Stands, history}
use Rattle.tx_core.specs.Locks.{subtrans_lock, subtrans_lock_of, subtrans_page, xact_lock, xact_lock_of, xact_page}
use Rattle.tx_core.specs.PagesBeforeIds.{IsIdOf, IsMade}
use Rattle.tx_core.proofs.Lasting.{history_grows, stands_grows}
use Rattle.tx_core.proofs.Rising.{given_more}

-- the bank that is asked is that of the id's page
pub state_lock : (start : Start) (id low page bank banks : ℕ) → low ≡ low_half id → page ≡ xact_page low → bank ≡ page % banks → banks ≡ start.banks → xact_lock_of start id ≡ xact_lock bank
state_lock start id low page bank banks l p b same = sym (ap xact_lock (b ∙ λ j. (p ∙ ap xact_page l) j % same j))

-- an id that came next comes next or was given
pub is_id : (start : Start) (lists more : List (List Entry)) (id : ℕ) → Grows lists more → id ≡ next_given start.base.next (history lists) → IsIdOf start more id
is_id start lists more id g is =
    let from = nth_from start.base.next (length (given (history lists))) in
    let to = given_more start.base (history lists) (history more) (history_grows lists more g) in
    (omega arith, omega arith)

-- both pages were made, each under its bank's lock
pub both_made : (start : Start) (middle lists : List (List Entry)) (id bank bank' : ℕ) → xact_lock_of start id ≡ xact_lock bank → subtrans_lock_of start id ≡ subtrans_lock bank' → Grows middle lists
    → Stands middle (xact_lock bank) (kinds.Zero (xact_page id)) → Stands lists (subtrans_lock bank') (kinds.Zero (subtrans_page id)) → IsMade start lists id
both_made start middle lists id bank bank' here here' g state parent = (
  inr (stands_grows middle lists (xact_lock_of start id) (kinds.Zero (xact_page id)) g (subst (λ z. Stands middle z (kinds.Zero (xact_page id))) (sym here) state)),
  inr (subst (λ z. Stands lists z (kinds.Zero (subtrans_page id))) (sym here') parent),
)
