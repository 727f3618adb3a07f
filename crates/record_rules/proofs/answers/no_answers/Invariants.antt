use Rattle.std.proofs.Common.{◌≡◌, false, length}
use Rattle.std.specs.List.{AllByRecursion}
use Rattle.record_rules.specs.declared.answers.Answers.{Answers}
use Rattle.record_rules.proofs.answers.no_answers.Given as goal

abbrev pub invariant-loop-n : goal.invariant-loop-n
invariant-loop-n l = record {
  size : length l.answers.items ≡ l._n;
  none : AllByRecursion (λ (a : Answers). a ≡ record { commit = false; abort = false }) l.answers.items;
}
