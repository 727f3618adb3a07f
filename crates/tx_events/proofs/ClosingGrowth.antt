-- What is running after an event that gives nothing, and the latest closed id.
use Rattle.std.proofs.Common.{◌≡◌, ℕ, List, [], ◌∷◌, ◌++◌, refl, ap, ◌∙◌, Bool, not, ◌&&◌, ◌==◌, max}
use Rattle.std.proofs.lemmas.List.Elements.{filter_agree}
use Rattle.std.specs.List.{filter, fold}
use Rattle.tx_events.specs.Ids.{id_before}
use Rattle.tx_events.proofs.Extremes.{fold_max_split}
use Rattle.tx_events.proofs.ListSteps.{filter_swap, filter_in_turn}
use Rattle.tx_events.proofs.OpenGrowth.{open_aborted, open_committed, open_undone}
use Rattle.tx_events.proofs.Lineages.{family_kept, KeepsFamily, top_kept}
use Rattle.tx_events.specs.Events.{given, given_to}
use Rattle.tx_events.specs.Families.{top, is_top}
use Rattle.tx_events.specs.Running.{is_open, running, open_ids, running_tops, closed}
use Rattle.tx_events.specs.Savepoints.{is_inside, family}
use Rattle.tx_events.specs.Snapshots.{latest, running_subs}
use Rattle.tx_events.specs.declared.event.By.{By}
use Rattle.tx_events.specs.declared.event.Event.{Event}
use Rattle.tx_events.proofs.GivenGrowth.{given_none, given_to_none}
use Rattle.tx_events.specs.declared.event.Event.TheVariants as events

-- an event that gives nothing, and closes the open ids that fail q
pub record IsClosing (h : List Event) (e : Event) (q : ℕ → Bool) : Type 0 where
  pub families : (x : ℕ) → KeepsFamily h e x
  pub gives : given (h ++ e ∷ []) ≡ given h
  pub gives_to : (s : ℕ) → given_to s (h ++ e ∷ []) ≡ given_to s h
  pub opens : (x : ℕ) → is_open (h ++ e ∷ []) x ≡ (is_open h x && q x)

pub closing_undo : (h : List Event) (by : By) (id : ℕ) → IsClosing h (events.Undo by id) (λ x. not (is_inside h id x))
closing_undo h by id =
    record {
      families = λ x. family_kept h (events.Undo by id) x tt;
      gives = given_none h (events.Undo by id) refl;
      gives_to = λ s. given_to_none s h (events.Undo by id) refl;
      opens = λ x. open_undone h by id x;
    }

pub closing_commit : (h : List Event) (by : By) (t : ℕ) → IsClosing h (events.Commit by t) (λ x. not (t == top h x))
closing_commit h by t =
    record {
      families = λ x. family_kept h (events.Commit by t) x tt;
      gives = given_none h (events.Commit by t) refl;
      gives_to = λ s. given_to_none s h (events.Commit by t) refl;
      opens = λ x. open_committed h by t x;
    }

pub closing_abort : (h : List Event) (by : By) (t : ℕ) → IsClosing h (events.Abort by t) (λ x. not (t == top h x))
closing_abort h by t =
    record {
      families = λ x. family_kept h (events.Abort by t) x tt;
      gives = given_none h (events.Abort by t) refl;
      gives_to = λ s. given_to_none s h (events.Abort by t) refl;
      opens = λ x. open_aborted h by t x;
    }

pub closing_running : (h : List Event) (e : Event) (q : ℕ → Bool) → IsClosing h e q → running (h ++ e ∷ []) ≡ filter q (running h)
closing_running h e q f =
    filter_agree (is_open (h ++ e ∷ [])) (λ x. is_open h x && q x) f.opens (given (h ++ e ∷ []))
    ∙ ap (filter (λ x. is_open h x && q x)) f.gives
    ∙ filter_in_turn (is_open h) q (given h)

pub closing_open_ids : (s : ℕ) (h : List Event) (e : Event) (q : ℕ → Bool) → IsClosing h e q → open_ids s (h ++ e ∷ []) ≡ filter q (open_ids s h)
closing_open_ids s h e q f =
    filter_agree (is_open (h ++ e ∷ [])) (λ x. is_open h x && q x) f.opens (given_to s (h ++ e ∷ []))
    ∙ ap (filter (λ x. is_open h x && q x)) (f.gives_to s)
    ∙ filter_in_turn (is_open h) q (given_to s h)

pub closing_tops : (h : List Event) (e : Event) (q : ℕ → Bool) → IsClosing h e q → running_tops (h ++ e ∷ []) ≡ filter q (running_tops h)
closing_tops h e q f =
    filter_agree (is_top (h ++ e ∷ [])) (is_top h) (λ x. ap (λ t. t == x) (top_kept h e x (f.families x))) (running (h ++ e ∷ []))
    ∙ ap (filter (is_top h)) (closing_running h e q f)
    ∙ filter_swap (is_top h) q (running h)

pub closing_family : (h : List Event) (e : Event) (q : ℕ → Bool) (t : ℕ) → IsClosing h e q → family (h ++ e ∷ []) t ≡ filter q (family h t)
closing_family h e q t f =
    filter_agree (λ x. top (h ++ e ∷ []) x == t) (λ x. top h x == t) (λ x. ap (λ u. u == t) (top_kept h e x (f.families x))) (running (h ++ e ∷ []))
    ∙ ap (filter (λ x. top h x == t)) (closing_running h e q f)
    ∙ filter_swap (λ x. top h x == t) q (running h)

pub closing_subs : (h : List Event) (e : Event) (q : ℕ → Bool) (t : ℕ) → IsClosing h e q → running_subs (h ++ e ∷ []) t ≡ filter q (running_subs h t)
closing_subs h e q t f =
    filter_agree (λ x. (top (h ++ e ∷ []) x == t) && not (is_top (h ++ e ∷ []) x)) (λ x. (top h x == t) && not (is_top h x)) (λ x. ap (λ u. (u == t) && not (u == x)) (top_kept h e x (f.families x))) (running (h ++ e ∷ []))
    ∙ ap (filter (λ x. (top h x == t) && not (is_top h x))) (closing_running h e q f)
    ∙ filter_swap (λ x. (top h x == t) && not (is_top h x)) q (running h)

pub closing_latest : (first : ℕ) (h : List Event) (e : Event) (q : ℕ → Bool) → IsClosing h e q → latest first (h ++ e ∷ []) ≡ fold max (latest first h) (filter (λ x. not (q x)) (running h))
closing_latest first h e q f =
    ap (fold max (id_before first)) (filter_agree (λ x. not (is_open (h ++ e ∷ []) x)) (λ x. not (is_open h x && q x)) (λ x. ap not (f.opens x)) (given (h ++ e ∷ [])) ∙ ap (filter (λ x. not (is_open h x && q x))) f.gives)
    ∙ fold_max_split (is_open h) q (given h) (id_before first)

pub same_latest : (first : ℕ) (h g : List Event) → closed g ≡ closed h → latest first g ≡ latest first h
same_latest first h g e = ap (fold max (id_before first)) e
