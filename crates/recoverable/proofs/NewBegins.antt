-- Over new volumes a life begins clean, and its log as its list wants it.
use Rattle.std.proofs.Common.{Contains, List, None, Some, [], ap, arith, inl, refl, subst, sym, take, ℕ, ⊎_elim, ◌+◌, ◌-◌, ◌<◌, ◌∙◌, ◌≡◌, ◌≤◌, ◌⊎◌}
use Rattle.std.specs.List.{slice_get}
use Rattle.tx_events.proofs.Membership.{contains_has}
use Rattle.tx_core.specs.declared.entry.Start.{Start}
use Rattle.tx_core.specs.declared.entry.State.TheVariants as states
use Rattle.tx_events.specs.LifeBase.{AreBelowNext, AreInOrder, LifeBase, base_after}
use Rattle.tx_events.specs.declared.record.Counters.{Counters}
use Rattle.tx_events.specs.declared.record.Rec.TheVariants as records
use Rattle.tx_core.specs.declared.entry.Kind.TheVariants as kinds
use Rattle.recoverable.specs.Laws.{LogOf, life_base}
use Rattle.recoverable.specs.Volumes.{IsWholeAt}
use Rattle.recoverable.specs.Whole.{NewBegins, NewLogBegins, new_log}
use Rattle.tx_events.proofs.BaseSteps.{checkpoint_settles}

module _ {A : Type 0} where
  none_in : (xs : List A) (x : A) → xs ≡ [] → Contains xs x → ⊥
  none_in xs x empty among = contains_has [] x (subst (λ (t : List A). Contains t x) empty among)

no_commit : (None ≡ Some states.Committed) ⊎ (None ≡ Some states.SubCommitted) → ⊥
no_commit e = ⊎_elim (λ (q : None ≡ Some states.Committed). absurd cc) (λ (q : None ≡ Some states.SubCommitted). absurd cc) e

in_order : (start : Start) → start.recorded ≡ [] → AreInOrder start.base start.recorded
in_order start none = record {
  within = λ m x ms c. absurd (none_in start.recorded _ none c);
  order = λ m n x y ms ns c. absurd (none_in start.recorded _ none c);
  behind = λ m n x y ms ns c. absurd (none_in start.recorded _ none c);
  last = λ m x ms c. absurd (none_in start.recorded _ none c);
  stored = λ m x ms c. absurd (none_in start.recorded _ none c);
  apart = λ m n x y ms ns c. absurd (none_in start.recorded _ none c);
  once = λ m x y ms ns c. absurd (none_in start.recorded _ none c);
  fit = λ m x ms c. absurd (none_in start.recorded _ none c);
}

pub new_begins : NewBegins
new_begins start told full base committed recorded = record {
  right = record {
    told = told;
    full = full;
    base = record {
      counters = base;
      committed = λ x c. absurd (none_in start.committed x committed c);
      multis = λ m x ms c. absurd (none_in start.recorded _ recorded c);
      in_order = in_order start recorded;
    };
  };
  xact = record {
    base = base;
    before = λ x c. absurd (none_in start.committed x committed c);
    committed = λ x old c. absurd (none_in start.committed x committed c);
    only = λ x old below e. absurd (no_commit e);
    place = λ x near e. absurd (no_commit e);
    clean = λ x low high. refl;
  };
  offsets = record {
    told = told;
    full = λ m x ms c. full;
    before = λ m x ms c. absurd (none_in start.recorded _ recorded c);
    in_order = in_order start recorded;
    recorded = λ m x ms c. absurd (none_in start.recorded _ recorded c);
    other = λ m full old below never. refl;
    clean = λ x low high. refl;
  };
  members = record {
    before = λ m x ms c. absurd (none_in start.recorded _ recorded c);
    in_order = in_order start recorded;
    recorded = λ m x k ms member c. absurd (none_in start.recorded _ recorded c);
    gap = λ m x ms c. absurd (none_in start.recorded _ recorded c);
    clean = λ x i low high lt. refl;
    behind = λ x past high. refl;
  };
}

-- the one checkpoint has the counters of the base, and leaves them
new_whole : (start : Start) (number n : ℕ) → number ≤ n → n < number + 1 → IsWholeAt (new_log start number) n
new_whole start number n low high counters stands =
    let front : n - number ≡ 0 = omega arith in
    let next : n + 1 - number ≡ 1 = omega arith in
    let here : Some (records.Checkpoint number start.base) ≡ Some (records.Checkpoint n counters) = ap (λ j. slice_get (new_log start number).recs j) (sym front) ∙ stands in
    let same : start.base ≡ counters = counters_of here in
    ap (λ j. (base_after (life_base start) (take j (new_log start number).recs)).counters) next
    ∙ ap (λ (b : LifeBase). b.counters) (checkpoint_settles (life_base start) number)
    ∙ same
  where
    counters_of : {m n : ℕ} {a b : Counters} → Some (records.Checkpoint m a) ≡ Some (records.Checkpoint n b) → a ≡ b
    counters_of e = cc

-- it is the log of the life that begins behind it
pub new_log_of : (start : Start) (number : ℕ) → start.from ≡ number + 1 → AreBelowNext (life_base start) → LogOf start [] (new_log start number)
new_log_of start number next below = record {
  before = (new_log start number).recs;
  recs = refl;
  from = next;
  base = checkpoint_settles (life_base start) number;
  some = omega arith;
  whole = λ n low high. new_whole start number n low (omega arith);
  below = below;
  begun = omega arith;
  upto = omega arith;
  flushed = λ to stands. absurd (contains_has [] (record { by = stands.0; kind = kinds.Flush to }) stands.1);
}

pub new_log_begins : NewLogBegins
new_log_begins start number v next below has = (new_log_of start number next below, record { kept = number; opens = has; forgotten = inl (omega arith) })
