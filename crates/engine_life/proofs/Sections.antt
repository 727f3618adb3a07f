-- The law on all volumes, while a critical section runs.
use Rattle.std.proofs.Common.{◌≡◌, ◌≢◌, inl, inr, ⊎_elim, ℕ, ◌<◌, List, [], ◌∷◌, ◌++◌, None, arith, length, refl, subst, sym, ap, ◌∙◌}
use Rattle.disk_core.specs.Pages.{Pages}
use Rattle.notes.specs.Lists.{add, at}
use Rattle.notes.proofs.Growing.{at_else, at_here}
use Rattle.tx_events.specs.Events.{given}
use Rattle.tx_events.specs.Multis.{made}
use Rattle.tx_core.specs.declared.entry.Entry.{Entry}
use Rattle.tx_core.specs.declared.entry.Kind.{Kind}
use Rattle.tx_core.specs.declared.entry.Kind.TheVariants as kinds
use Rattle.tx_core.specs.declared.entry.Start.{Start}
use Rattle.tx_core.specs.Entries.{appended, appended_in, events_in}
use Rattle.tx_core.specs.Locks.{log_lock, members_lock, multi_lock, offsets_lock, proc_lock, subtrans_lock, xact_lock}
use Rattle.tx_core.specs.MultiEntries.{multis_in}
use Rattle.recoverable.specs.Fit.{KeptLog}
use Rattle.recoverable.specs.Laws.{LogFollows, LogOf}
use Rattle.recoverable.specs.Whole.{IsShort}
use Rattle.recoverable.proofs.LogSteps.{log_goes_on}
use Rattle.recoverable.proofs.Whole.{image_fits}
use Rattle.bank_follows.proofs.Stores.{images_follow}
use Rattle.engine_life.specs.Sections.{IsBankLock, IsBankOrForget, IsForget, MembersMoments, OffsetsMoments, SectionsFit, StatesMoments}

-- a bank's lock is none of the others
past_others : (lock : ℕ) → IsBankLock lock → 2 < lock
past_others lock b = ⊎_elim (λ (e : lock ≡ xact_lock b.0). omega (arith, e))
    (⊎_elim (λ (e : lock ≡ subtrans_lock b.0). omega (arith, e)) (⊎_elim (λ (e : lock ≡ offsets_lock b.0). omega (arith, e)) (λ (e : lock ≡ members_lock b.0). omega (arith, e)))) b.1

apart : (n lock : ℕ) → n < lock → n ≢ lock
apart n lock lt e = absurd (omega (arith, lt, e))

-- so the section adds neither events nor multixacts
else_where : (lists : List (List Entry)) (lock : ℕ) (e : Entry) → IsBankOrForget lock e → (n : ℕ) → 0 < n → n < 3 → at (add lists lock e) n ≡ at lists n
else_where lists lock e (inl bank) n some few = at_else lists lock n e (apart n lock (let far = past_others lock bank in omega (arith, far, few)))
else_where lists lock e (inr log) n some few = at_else lists lock n e (λ same. let zero = log.0 in absurd (omega (arith, same, zero, some)))

short_still : (lists : List (List Entry)) (lock : ℕ) (e : Entry) → IsBankOrForget lock e → IsShort lists → IsShort (add lists lock e)
short_still lists lock e asks short = record {
  ids = subst (λ (es : List Entry). length (given (events_in es)) < 2900000) (sym (else_where lists lock e asks proc_lock (omega arith) (omega arith))) short.ids;
  multis = subst (λ (es : List Entry). length (made (multis_in es)) < 2900000) (sym (else_where lists lock e asks multi_lock (omega arith) (omega arith))) short.multis;
}

-- a forget appends and flushes nothing
no_record : (e : Entry) (kind : Kind) → e.kind ≡ kind → IsForget kind → (appended e ≡ None) × ((to : ℕ) → e.kind ≡ kinds.Flush to → ⊥)
no_record e (kinds.Forget number) is forgets = (ap (λ (k : Kind). appended_in e.by k) is, λ to other. let two : kinds.Forget number ≡ kinds.Flush to = sym is ∙ other in absurd cc)
no_record e (kinds.LogFault asked count) is forgets = (ap (λ (k : Kind). appended_in e.by k) is, λ to other. let two : kinds.LogFault asked count ≡ kinds.Flush to = sym is ∙ other in absurd cc)
no_record e (kinds.Append rec) is forgets = absurd forgets
no_record e (kinds.Flush to) is forgets = absurd forgets
no_record e (kinds.Event event) is forgets = absurd forgets
no_record e (kinds.Made id) is forgets = absurd forgets
no_record e (kinds.Multi event) is forgets = absurd forgets
no_record e (kinds.Post number) is forgets = absurd forgets
no_record e (kinds.Set changes) is forgets = absurd forgets
no_record e (kinds.Zero page) is forgets = absurd forgets
no_record e (kinds.Cut page) is forgets = absurd forgets
no_record e kinds.Sync is forgets = absurd forgets
no_record e (kinds.Fault callers changes cut count) is forgets = absurd forgets
no_record e (kinds.Request changes) is forgets = absurd forgets
no_record e kinds.Look is forgets = absurd forgets

-- and the log is the same
follows_still : (start : Start) (lists : List (List Entry)) (lock : ℕ) (e : Entry) (kept : KeptLog) → lock < length lists → IsBankOrForget lock e → LogFollows start lists kept → LogFollows start (add lists lock e) kept
follows_still start lists lock e kept there (inl bank) follows =
    subst (λ (es : List Entry). LogOf start es kept) (sym (at_else lists lock log_lock e (apart log_lock lock (let far = past_others lock bank in omega (arith, far))))) follows
follows_still start lists lock e kept there (inr log) follows =
    let none = no_record e e.kind refl log.1 in
    let here : at (add lists lock e) log_lock ≡ at lists log_lock ++ e ∷ [] =
    subst (λ (n : ℕ). at (add lists lock e) n ≡ at lists n ++ e ∷ []) log.0 (at_here lists lock e there) in
    subst (λ (es : List Entry). LogOf start es kept) (sym here) ((log_goes_on start (at lists log_lock) kept follows).stays e none.0 none.1)

pub sections_fit : SectionsFit
sections_fit start lists seen lock e kept left k inside right short follows images =
    image_fits start (add lists lock e) kept left (inside.may lists k inside.knows inside.there inside.whole) right (short_still lists lock e inside.asks short)
    (follows_still start lists lock e kept inside.there inside.asks follows) images

module _ {D : Type 0} (images : D → Pages → Type 0) (moment : D → ℕ) (left_at : D → ℕ → Pages → Type 0) where
  pub states_moments : StatesMoments images moment left_at
  states_moments start shown bank es before after clean shows t c from to left = record {
    shown = shown;
    clean = clean;
    follows = (images_follow start bank es c).0 shown (shows.each.each t c from to left);
  }

  pub offsets_moments : OffsetsMoments images moment left_at
  offsets_moments start shown bank es before after clean shows t c from to left = record {
    shown = shown;
    clean = clean;
    follows = (images_follow start bank es c).1 shown (shows.each.each t c from to left);
  }

  pub members_moments : MembersMoments images moment left_at
  members_moments start shown bank es before after clean shows tails t c from to left = record {
    shown = shown;
    clean = clean;
    follows = (images_follow start bank es c).2 shown (shows.each.each t c from to left);
    tails = tails.each.each t c from to left;
  }
