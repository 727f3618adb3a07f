-- What is running after an event that gives and closes nothing.
use Rattle.std.proofs.Common.{◌≡◌, ℕ, List, [], ◌∷◌, ◌++◌, refl, ap, ◌∙◌, true, not, sym}
use Rattle.std.proofs.lemmas.List.Elements.{filter_agree}
use Rattle.std.specs.List.{filter}
use Rattle.std.proofs.Math.Bool.{and-true}
use Rattle.tx_events.specs.Savepoints.{family}
use Rattle.tx_events.proofs.Lineages.{IsNoSub, family_kept, KeepsFamily}
use Rattle.tx_events.proofs.OpenGrowth.{ClosesNothing, open_kept}
use Rattle.tx_events.specs.Events.{given}
use Rattle.tx_events.specs.Families.{top}
use Rattle.tx_events.specs.Running.{is_open, running, open_ids, running_tops, closed}
use Rattle.tx_events.specs.Snapshots.{running_subs}
use Rattle.tx_events.specs.declared.event.Event.{Event}
use Rattle.tx_events.proofs.ClosingGrowth.{IsClosing, closing_family, closing_open_ids, closing_running, closing_subs, closing_tops}
use Rattle.tx_events.proofs.GivenGrowth.{given_none, given_to_none}
use Rattle.tx_events.proofs.ListSteps.{filter_yes}
use Rattle.tx_events.specs.declared.event.Event.TheVariants as events

-- an event that gives nothing and closes nothing
abbrev pub IsQuiet : Event → Type 0
IsQuiet (events.Id by id) = ⊥
IsQuiet (events.Sub by parent id) = ⊥
IsQuiet (events.Undo by id) = ⊥
IsQuiet (events.Commit by top) = ⊥
IsQuiet (events.Abort by top) = ⊥
IsQuiet (events.Snap name by) = Unit {0}
IsQuiet (events.SnapDrop name by) = Unit {0}
IsQuiet (events.Oldest by oldest) = Unit {0}
IsQuiet (events.Ask by id) = Unit {0}

quiet_no_sub : (e : Event) → IsQuiet e → IsNoSub e
quiet_no_sub (events.Sub by parent id) f = f
quiet_no_sub e f = tt

quiet_closes_nothing : (e : Event) → IsQuiet e → ClosesNothing e
quiet_closes_nothing (events.Undo by id) f = f
quiet_closes_nothing (events.Commit by top) f = f
quiet_closes_nothing (events.Abort by top) f = f
quiet_closes_nothing e f = tt

quiet_gives : (e : Event) → IsQuiet e → given (e ∷ []) ≡ []
quiet_gives (events.Id by id) f = absurd f
quiet_gives (events.Sub by parent id) f = absurd f
quiet_gives e f = refl

pub quiet_family : (h : List Event) (e : Event) (x : ℕ) → IsQuiet e → KeepsFamily h e x
quiet_family h e x f = family_kept h e x (quiet_no_sub e f)

pub quiet_given : (h : List Event) (e : Event) → IsQuiet e → given (h ++ e ∷ []) ≡ given h
quiet_given h e f = given_none h e (quiet_gives e f)

pub closing_quiet : (h : List Event) (e : Event) → IsQuiet e → IsClosing h e (λ x. true)
closing_quiet h e f =
    record {
      families = λ x. quiet_family h e x f;
      gives = quiet_given h e f;
      gives_to = λ s. given_to_none s h e (quiet_gives e f);
      opens = λ x. open_kept h e x (quiet_family h e x f) (quiet_closes_nothing e f) ∙ sym (and-true (is_open h x));
    }

pub quiet_running : (h : List Event) (e : Event) → IsQuiet e → running (h ++ e ∷ []) ≡ running h
quiet_running h e f = closing_running h e (λ x. true) (closing_quiet h e f) ∙ filter_yes (running h)

pub quiet_open_ids : (s : ℕ) (h : List Event) (e : Event) → IsQuiet e → open_ids s (h ++ e ∷ []) ≡ open_ids s h
quiet_open_ids s h e f = closing_open_ids s h e (λ x. true) (closing_quiet h e f) ∙ filter_yes (open_ids s h)

pub quiet_closed : (h : List Event) (e : Event) → IsQuiet e → closed (h ++ e ∷ []) ≡ closed h
quiet_closed h e f =
    filter_agree (λ x. not (is_open (h ++ e ∷ []) x)) (λ x. not (is_open h x)) (λ x. ap not ((closing_quiet h e f).opens x ∙ and-true (is_open h x))) (given (h ++ e ∷ []))
    ∙ ap (filter (λ x. not (is_open h x))) (quiet_given h e f)

pub quiet_tops : (h : List Event) (e : Event) → IsQuiet e → running_tops (h ++ e ∷ []) ≡ running_tops h
quiet_tops h e f = closing_tops h e (λ x. true) (closing_quiet h e f) ∙ filter_yes (running_tops h)

pub quiet_subs : (h : List Event) (e : Event) (t : ℕ) → IsQuiet e → running_subs (h ++ e ∷ []) t ≡ running_subs h t
quiet_subs h e t f = closing_subs h e (λ x. true) t (closing_quiet h e f) ∙ filter_yes (running_subs h t)

pub quiet_family_ids : (h : List Event) (e : Event) (t : ℕ) → IsQuiet e → family (h ++ e ∷ []) t ≡ family h t
quiet_family_ids h e t f = closing_family h e (λ x. true) t (closing_quiet h e f) ∙ filter_yes (family h t)
