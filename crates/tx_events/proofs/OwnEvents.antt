-- The events of one command, while a history grows.
use Rattle.std.proofs.lemmas.Bool.{false≢true}
use Rattle.std.proofs.lemmas.Bool.Decides.{nat_tests}
use Rattle.std.proofs.Common.{◌≡◌, ℕ, suc, zero, ◌<◌, List, [], ◌∷◌, ◌++◌, Some, refl, ap, sym, ◌∙◌, arith, append-nil, true, false}
use Rattle.std.specs.List.{slice_get, AllByRecursion}
use Rattle.std.proofs.lemmas.List.Elements.{filter-append}
use Rattle.tx_events.specs.declared.event.By.{By}
use Rattle.tx_events.specs.declared.event.Event.{Event}
use Rattle.tx_events.specs.Events.{by_of, same_by, events_of}

pub same_by_refl : (by : By) → same_by by by ≡ true
same_by_refl by = grind (arith, nat_tests)

pub same_by_swap : (a b : By) → same_by a b ≡ true → same_by b a ≡ true
same_by_swap a b h = grind (arith, nat_tests)

-- no event is of this command
abbrev pub AreOthers : By → List Event → Type 0
AreOthers by es = AllByRecursion (λ e. same_by (by_of e) by ≡ false) es

-- events of the command's session are of later commands
abbrev pub AreLater : By → List Event → Type 0
AreLater by es = AllByRecursion (λ e. (by_of e).session ≡ by.session → by.command < (by_of e).command) es

later_is_other : (by : By) (e : Event) → ((by_of e).session ≡ by.session → by.command < (by_of e).command) → same_by (by_of e) by ≡ false
later_is_other by e h = grind (arith, nat_tests)

pub later_are_others : (by : By) (es : List Event) → AreLater by es → AreOthers by es
later_are_others by [] h = tt
later_are_others by (e ∷ es) h = (later_is_other by e h.0, later_are_others by es h.1)

pub events_of_others : (by : By) (es : List Event) → AreOthers by es → events_of by es ≡ []
events_of_others by [] h = refl
events_of_others by (e ∷ es) h = rw h.0 (events_of_others by es h.1)

pub events_of_own : (by : By) (es : List Event) → AllByRecursion (λ e. same_by (by_of e) by ≡ true) es → events_of by es ≡ es
events_of_own by [] h = refl
events_of_own by (e ∷ es) h = rw h.0 (ap (λ t. e ∷ t) (events_of_own by es h.1))

-- events of other commands change nothing of this one's
pub events_of_grows : (by : By) (h es : List Event) → AreOthers by es → events_of by (h ++ es) ≡ events_of by h
events_of_grows by h es o = filter-append _ h es ∙ ap (λ t. events_of by h ++ t) (events_of_others by es o) ∙ append-nil (events_of by h)

pub all_new : (by : By) (h es : List Event) → AreOthers by h → AllByRecursion (λ e. same_by (by_of e) by ≡ true) es → events_of by (h ++ es) ≡ es
all_new by h es new own =
    filter-append _ h es ∙ ap (λ t. t ++ events_of by es) (events_of_others by h new) ∙ events_of_own by es own

-- at no place of such events is one of the command
pub not_other : (by : By) (es : List Event) (p : ℕ) (e : Event) → AreOthers by es → slice_get es p ≡ Some e → by_of e ≡ by → ⊥
not_other by [] p e o g i = cc
not_other by (f ∷ es) zero e o g i =
    let same : f ≡ e = cc in
    false≢true (sym o.0 ∙ ap (λ x. same_by (by_of x) by) same ∙ ap (λ b. same_by b by) i ∙ same_by_refl by)
not_other by (f ∷ es) (suc p) e o g i = not_other by es p e o.1 g i
