-- The state that was read of a bank is the one that its list set last.
use Rattle.std.proofs.Common.{◌≡◌, ℕ, ◌%◌, List, false, IsTrue, Option, Some, None, refl, sym, subst, ◌∙◌, length, arith}
use Rattle.std.proofs.Math.Seq.{take-length}
use Rattle.disk_core.specs.declared.page_disk.PageDisk as disks
use Rattle.store_pages.specs.declared.page_rule.PageRule as rules
use Rattle.store_pages.specs.Layouts.{state_in, xact_page_of, xact_place_of}
use Rattle.slru_bank.specs.declared.bank.SlruBank.{SlruBank}
use Rattle.slru_bank.specs.Calls.{cutoff_of, pages_of}
use Rattle.notes.specs.Lists.{at}
use Rattle.tx_core.specs.declared.entry.Entry.{Entry}
use Rattle.tx_core.specs.declared.entry.Start.{Start}
use Rattle.tx_core.specs.declared.entry.State.{State}
use Rattle.tx_core.specs.declared.entry.State.TheVariants as states
use Rattle.tx_core.specs.EngineInvariant.{EngineInvariant}
use Rattle.tx_core.specs.Entries.{marks}
use Rattle.tx_core.specs.Locks.{xact_lock, xact_lock_of}
use Rattle.tx_core.specs.Pages.{pages_after, xact_store}
use Rattle.tx_core.specs.Verdict.{state_read}
use Rattle.tx_core.proofs.PageShowing.{pages_show}
use Rattle.tx_events.specs.PageOrder.{Ids, is_cut}
use Rattle.engine_parts.specs.Parts.{IsXactOf}
use Rattle.engine_parts.specs.Stand.{number_of_state, xact_pages}
use Rattle.bank_sections.proofs.Nearing.{xact_near}
use Rattle.bank_sections.specs.Reads.{IsStateRead}

-- two states of one number are one
state_apart : (a b : Option State) → number_of_state a ≡ number_of_state b → a ≡ b
state_apart None None e = refl
state_apart None (Some states.Committed) e = absurd (omega arith)
state_apart None (Some states.Aborted) e = absurd (omega arith)
state_apart None (Some states.SubCommitted) e = absurd (omega arith)
state_apart (Some states.Committed) None e = absurd (omega arith)
state_apart (Some states.Committed) (Some states.Committed) e = refl
state_apart (Some states.Committed) (Some states.Aborted) e = absurd (omega arith)
state_apart (Some states.Committed) (Some states.SubCommitted) e = absurd (omega arith)
state_apart (Some states.Aborted) None e = absurd (omega arith)
state_apart (Some states.Aborted) (Some states.Committed) e = absurd (omega arith)
state_apart (Some states.Aborted) (Some states.Aborted) e = refl
state_apart (Some states.Aborted) (Some states.SubCommitted) e = absurd (omega arith)
state_apart (Some states.SubCommitted) None e = absurd (omega arith)
state_apart (Some states.SubCommitted) (Some states.Committed) e = absurd (omega arith)
state_apart (Some states.SubCommitted) (Some states.Aborted) e = absurd (omega arith)
state_apart (Some states.SubCommitted) (Some states.SubCommitted) e = refl

bank_at : (start : Start) (x bank : ℕ) → xact_lock_of start x ≡ xact_lock bank → xact_page_of x % start.banks ≡ bank
bank_at start x bank q = omega arith

module _ {P O : Type 0} {g : disks.Ghosts P} {r : rules.Ghosts O} where
  pub state_seen : (start : Start) (lists : List (List Entry)) (bank : ℕ) (store : SlruBank P O g r) (x : ℕ) (state : Option State) → EngineInvariant start lists → IsXactOf start bank store (at lists (xact_lock bank)) → xact_lock_of start x ≡ xact_lock bank → is_cut Ids 32768 (cutoff_of store) (xact_page_of x) ≡ false
      → IsTrue g.tells → number_of_state state ≡ state_in (pages_of store (xact_page_of x)) (xact_place_of x) → IsStateRead start lists x state
  state_seen start lists bank store x state k s here uncut told read used few =
      let es : List Entry = at lists (xact_lock bank) in
      let show = s.shown told (xact_near start lists bank k few) in
      let there = show.2.each x used (bank_at start x bank here) uncut in
      let all : (xact_pages start show.0 es).shows x ≡ state_read show.0 (marks es) x =
      subst (λ (t : List Entry). (pages_after xact_store start.base.next show.0 t).shows x ≡ state_read show.0 (marks t) x) (take-length es) (pages_show start lists show.0 (xact_lock bank) (length es) x k show.1 (let to = used.2 in omega arith)) in
      (show.0, show.1, subst (λ z. state ≡ state_read show.0 (marks (at lists z)) x) (sym here) (state_apart state ((xact_pages start show.0 es).shows x) (read ∙ there) ∙ all))
