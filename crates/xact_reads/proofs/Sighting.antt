-- What a snapshot shows of an id by itself decides the verdict, or the state does, or the state and the topmost parent.
use Rattle.std.proofs.Common.{Bool, Option, ap, arith, cond, false, refl, sym, true, ℕ, ◌&&◌, ◌<◌, ◌∙◌, ◌≡◌}
use Rattle.std.proofs.lemmas.Bool.Decides.{nat_tests}
use Rattle.std.specs.Prelude.{nat_le}
use Rattle.tx_events.specs.Says.{says_of}
use Rattle.tx_events.specs.Sights.{sight_by, sight_said, top_sight_by}
use Rattle.tx_events.specs.declared.sight.Sight.TheVariants as sights
use Rattle.tx_events.specs.declared.snapshot.SnapData.{SnapData}
use Rattle.tx_core.specs.declared.entry.State.{State}
use Rattle.tx_core.specs.Verdict.{is_committed, verdict}
use Rattle.tx_core.proofs.Seeing.{rule_is, sight_then}

-- an id that hasn't committed is hidden
sight_not : (d : SnapData) (x : ℕ) → sight_by d x false ≡ sights.Hidden
sight_not d x = elim (nat_le d.xmax x) as (λ b. cond b sights.Hidden sights.Hidden ≡ sights.Hidden) [ true ↦ refl | false ↦ refl ]

module _ (d : SnapData) (x topmost : ℕ) (state : Option State) where
  not_committed : sight_then (sight_by d x false) (top_sight_by d topmost) ≡ false
  not_committed = ap (λ s. sight_then s (top_sight_by d topmost)) (sight_not d x)

  pub hidden_verdict : sight_by d x true ≡ sights.Hidden → verdict d state topmost x ≡ false
  hidden_verdict is = sym (rule_is d state topmost x) ∙ each (is_committed state)
    where
      each : (c : Bool) → sight_then (sight_by d x c) (top_sight_by d topmost) ≡ false
      each true = ap (λ s. sight_then s (top_sight_by d topmost)) is
      each false = not_committed

  pub seen_verdict : sight_by d x true ≡ sights.Seen → verdict d state topmost x ≡ is_committed state
  seen_verdict is = sym (rule_is d state topmost x) ∙ each (is_committed state)
    where
      each : (c : Bool) → sight_then (sight_by d x c) (top_sight_by d topmost) ≡ c
      each true = ap (λ s. sight_then s (top_sight_by d topmost)) is
      each false = not_committed

  pub asked_verdict : sight_by d x true ≡ sights.AskParents → verdict d state topmost x ≡ (is_committed state && top_sight_by d topmost)
  asked_verdict is = sym (rule_is d state topmost x) ∙ each (is_committed state)
    where
      each : (c : Bool) → sight_then (sight_by d x c) (top_sight_by d topmost) ≡ (c && top_sight_by d topmost)
      each true = ap (λ s. sight_then s (top_sight_by d topmost)) is
      each false = not_committed

-- an id that isn't hidden is before the xmax
pub sight_below : (d : SnapData) (x : ℕ) → (sight_by d x true ≡ sights.Hidden → ⊥) → x < d.xmax
sight_below d x shown = step (nat_le d.xmax x) refl
  where
    step : (b : Bool) → nat_le d.xmax x ≡ b → x < d.xmax
    step true e = absurd (shown (ap (λ b. cond b sights.Hidden (sight_said (says_of d x))) e))
    step false e = grind (arith, nat_tests)
