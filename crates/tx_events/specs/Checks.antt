-- What the checks of a number against its limits answer.
use Rattle.std.specs.Prelude.{◌≡◌, ℕ, ◌<◌, ◌≤◌, ◌↔◌, Bool, IsTrue, Result, MatchResult}
use Rattle.tx_events.specs.declared.refusal.Refusal.{Refusal}

-- refused exactly where the number isn't below the stop; else told whether it is at or past the warning
abbrev pub IsCheck : ℕ → ℕ → ℕ → Refusal → Result Bool Refusal → Type 0
IsCheck stop warn next refusal result =
    MatchResult result (λ w. (next < stop) × (IsTrue w ↔ (warn ≤ next))) (λ r. (stop ≤ next) × (r ≡ refusal))
