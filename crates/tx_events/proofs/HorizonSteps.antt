-- The announced oldest id and the live snapshots, event by event.
use Rattle.std.proofs.Common.{◌≡◌, ℕ, List, [], ◌∷◌, ◌++◌, reverse, ap}
use Rattle.std.proofs.lemmas.List.{reverse-append}
use Rattle.std.proofs.lemmas.List.Sums.{fold_push}
use Rattle.tx_events.specs.Horizon.{oldest_id, announced_after, live_up, live_snaps}
use Rattle.tx_events.specs.declared.event.Event.{Event}

pub oldest_push : (oldest : ℕ) (h : List Event) (e : Event) → oldest_id oldest (h ++ e ∷ []) ≡ announced_after (oldest_id oldest h) e
oldest_push oldest h e = fold_push announced_after oldest h e

pub live_push : (first : ℕ) (h : List Event) (e : Event) → live_snaps first (h ++ e ∷ []) ≡ live_up first (e ∷ reverse h)
live_push first h e = ap (live_up first) (reverse-append h (e ∷ []))
