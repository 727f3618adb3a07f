-- A list tells no more faults than its volume's count has risen by.
use Rattle.std.proofs.Common.{IfSome, List, None, Option, Some, [], ap, arith, length, length-append, min, refl, subst, sym, ℕ, ◌++◌, ◌+◌, ◌-◌, ◌^◌, ◌∙◌, ◌∷◌, ◌≡◌, ◌≤◌}
use Rattle.std.proofs.lemmas.List.Elements.{filter_map-append}
use Rattle.std.specs.List.{cons_option}
use Rattle.disk_core.specs.Faults.{HasRisen}
use Rattle.tx_events.proofs.PlaceLemmas.{by_place}
use Rattle.tx_core.specs.declared.entry.Entry.{Entry}
use Rattle.tx_core.specs.declared.entry.Start.{Start}
use Rattle.tx_core.specs.Consequences.{FaultsCounted}
use Rattle.tx_core.specs.FaultsRise.{NeedsCount, count_in, counts_in, faults_at, faults_told}
use Rattle.tx_core.proofs.LastNumbers.{number_push, number_same}
use Rattle.notes.specs.Lists.{at}

-- what has risen past a count has risen past what was told before it
pub risen_past : (told old new : ℕ) → told ≤ old → HasRisen old new → HasRisen told new
risen_past told old new le up = grind arith

one_more : (first n told count : ℕ) → min (first + n) (2 ^ 64 - 1) ≤ told → HasRisen told count → min (first + (n + 1)) (2 ^ 64 - 1) ≤ count
one_more first n told count before up = grind arith

none_more : (first n told : ℕ) → min (first + n) (2 ^ 64 - 1) ≤ told → min (first + (n + 0)) (2 ^ 64 - 1) ≤ told
none_more first n told before = grind arith

count_step : (start : Start) (lock : ℕ) (es : List Entry) (e : Entry) (o : Option ℕ) → count_in e.kind ≡ o → min (faults_at start lock + length (counts_in es)) (2 ^ 64 - 1) ≤ faults_told start lock es → IfSome o (HasRisen (faults_told start lock es))
    → min (faults_at start lock + (length (counts_in es) + length (cons_option o []))) (2 ^ 64 - 1) ≤ faults_told start lock (es ++ e ∷ [])
count_step start lock es e None is before rule =
    subst (λ z. min (faults_at start lock + (length (counts_in es) + 0)) (2 ^ 64 - 1) ≤ z) (sym (number_same count_in (faults_at start lock) es e is)) (none_more (faults_at start lock) (length (counts_in es)) (faults_told start lock es) before)
count_step start lock es e (Some count) is before rule =
    subst (λ z. min (faults_at start lock + (length (counts_in es) + 1)) (2 ^ 64 - 1) ≤ z) (sym (number_push count_in (faults_at start lock) es e count is)) (one_more (faults_at start lock) (length (counts_in es)) (faults_told start lock es) count before rule)

pub faults_counted : FaultsCounted
faults_counted start lists lock k =
    by_place (NeedsCount start lists lock) (λ es. min (faults_at start lock + length (counts_in es)) (2 ^ 64 - 1) ≤ faults_told start lock es)
    (none_at (faults_at start lock))
    (λ es e before rule.
    let more : length (counts_in (es ++ e ∷ [])) ≡ length (counts_in es) + length (cons_option (count_in e.kind) []) = ap (λ (t : List ℕ). length t) (filter_map-append (λ (d : Entry). count_in d.kind) es (e ∷ [])) ∙ length-append (counts_in es) (cons_option (count_in e.kind) []) in
    subst (λ n. min (faults_at start lock + n) (2 ^ 64 - 1) ≤ faults_told start lock (es ++ e ∷ [])) (sym more) (count_step start lock es e (count_in e.kind) refl before rule))
    (at lists lock) (k.faults.each.each lock)
  where
    none_at : (n : ℕ) → min (n + 0) (2 ^ 64 - 1) ≤ n
    none_at n = grind arith
