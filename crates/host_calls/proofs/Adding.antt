-- What one step after another adds to a list.
use Rattle.std.proofs.Common.{◌≡◌, ⊎_elim, ℕ, ◌<◌, ◌≤◌, ◌⊎◌, List, [], ◌∷◌, ◌++◌, append_assoc, arith, length, length-set, sym, ap, subst, ◌∙◌}
use Rattle.notes.specs.Lists.{add, at}
use Rattle.notes.proofs.Growing.{at_else, at_here}
use Rattle.tx_events.specs.declared.event.By.{By}
use Rattle.tx_core.specs.declared.entry.Entry.{Entry}
use Rattle.host_sections.specs.HostEntries.{sync_by}
use Rattle.host_calls.specs.Added.{AddsAt, AddsSyncs}

-- one entry
pub adds_one : (lock : ℕ) (e : Entry) (old new : List (List Entry)) → lock < length old → new ≡ add old lock e → AddsAt lock (e ∷ []) old new
adds_one lock e old new inside is =
    subst (AddsAt lock (e ∷ []) old) (sym is) (record {
      long = length-set old lock (at old lock ++ e ∷ []);
      here = at_here old lock e inside;
      others = λ other apart. at_else old lock other e apart;
    })

-- more at the same lock
pub adds_then : (lock : ℕ) (first second : List Entry) (old mid new : List (List Entry)) → AddsAt lock first old mid → AddsAt lock second mid new → AddsAt lock (first ++ second) old new
adds_then lock first second old mid new a b = record {
  long = b.long ∙ a.long;
  here = b.here ∙ (ap (λ (es : List Entry). es ++ second) a.here ∙ append_assoc (at old lock) first second);
  others = λ other apart. b.others other apart ∙ a.others other apart;
}

-- syncs at the locks behind
pub syncs_then : (by : By) (from end upto : ℕ) (old mid new : List (List Entry)) → from ≤ end → end ≤ upto → AddsSyncs by from end old mid → AddsSyncs by end upto mid new → AddsSyncs by from upto old new
syncs_then by from end upto old mid new low high a b = record {
  long = b.long ∙ a.long;
  here = λ lock above below. ⊎_elim
      (λ (before : lock < end). b.others lock (λ past inside. absurd (omega (arith, before, past))) ∙ a.here lock above before)
      (λ (past : end ≤ lock). b.here lock past below ∙ ap (λ (es : List Entry). es ++ sync_by by ∷ []) (a.others lock (λ inside before. absurd (omega (arith, before, past)))))
      (way lock end);
  others = λ lock out. b.others lock (λ past inside. out (omega (arith, low, past)) inside) ∙ a.others lock (λ inside before. out inside (omega (arith, high, before)));
}
  where
    way : (lock end : ℕ) → (lock < end) ⊎ (end ≤ lock)
    way lock end = grind arith
