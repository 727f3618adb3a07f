-- A session that reads goes on through critical sections without an event.
use Rattle.std.proofs.Common.{◌≡◌, ◌≢◌, ℕ, List, [], ◌∷◌, ◌++◌, ap, subst, ◌∙◌, append-nil, eq-eqb}
use Rattle.std.specs.List.{AllByRecursion, filter}
use Rattle.tx_events.specs.declared.event.By.{By}
use Rattle.tx_events.specs.declared.event.Event.{Event}
use Rattle.tx_events.specs.Events.{by_of, is_of}
use Rattle.tx_events.proofs.Membership.{all_from, none_passes}
use Rattle.tx_events.proofs.OwnEvents.{AreLater}
use Rattle.tx_core.specs.declared.entry.Entry.{Entry}
use Rattle.tx_core.specs.declared.entry.Kind.{Kind}
use Rattle.tx_core.specs.Entries.{history}
use Rattle.tx_core.proofs.Lasting.{history_grows}
use Rattle.engine_parts.specs.declared.session.Session.{Session}
use Rattle.engine_parts.specs.Adding.{Adds, IsPlain}
use Rattle.engine_parts.specs.Sessions.{by_at}
use Rattle.engine_parts.specs.Steps.{WentOn}
use Rattle.engine_parts.proofs.Adding.{adds_after}
use Rattle.engine_parts.proofs.Sectioning.{same_command}
use Rattle.engine_parts.proofs.Stepping.{went_then}

-- one such step after another
pub went_both : (n m : ℕ) (a b c : List (List Entry)) → m ≡ n → WentOn n [] a b → WentOn m [] b c → WentOn n [] a c
went_both n m a b c same first second = went_then n [] [] a b c first (subst (λ z. WentOn z [] b c) same second)

-- and what it adds, behind a plain one
pub read_adds : (n m : ℕ) (s t : Session) (May : ℕ → Kind → Type 0) (a b c : List (List Entry)) → m ≡ n → t ≡ s → ((lock : ℕ) (kind : Kind) → IsPlain lock kind → May lock kind) → Adds (by_at n s.levels.commands) IsPlain a b → Adds (by_at m t.levels.commands) May b c → Adds (by_at n s.levels.commands) May a c
read_adds n m s t May a b c number same wider first second = adds_after (by_at n s.levels.commands) (by_at m t.levels.commands) May a b c (same_command n m s t number same) wider first second

-- what came between is of others
pub record Others (by : By) (h more : List Event) : Type 0 where
  pub rest : List Event
  pub split : h ++ rest ≡ more
  pub later : AreLater by rest

later_beside : (by : By) (es : List Event) → AllByRecursion (λ e. (by_of e).session ≢ by.session) es → AreLater by es
later_beside by [] a = tt
later_beside by (e ∷ es) a = ((λ q. absurd (a.0 q)), later_beside by es a.1)

pub others_went : (by : By) (lists more : List (List Entry)) → WentOn by.session [] lists more → Others by (history lists) (history more)
others_went by lists more went =
    let n = by.session in
    let b = history_grows lists more went.on.grows in
    let same : filter (is_of n) (history lists ++ b.0) ≡ filter (is_of n) (history lists) = ap (filter (is_of n)) b.1 ∙ (went.on.own ∙ append-nil (filter (is_of n) (history lists))) in record {
      rest = b.0;
      split = b.1;
      later = later_beside by b.0 (all_from (λ e. (by_of e).session ≢ n) b.0 (λ e k q. none_passes (is_of n) (history lists) b.0 same e k (eq-eqb (by_of e).session n q)));
    }
