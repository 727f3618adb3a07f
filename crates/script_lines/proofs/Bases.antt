-- The test of a base.
use Rattle.std.proofs.Common.{◌≡◌, Bool, true, false, refl, sym, ◌∙◌, arith, IsTrue, ◌↔◌}
use Rattle.std.proofs.lemmas.Bool.{false≢true}
use Rattle.std.proofs.lemmas.Bool.Decides.{nat_tests}
use Rattle.tx_events.specs.declared.record.Counters.{Counters}
use Rattle.tx_events.specs.Base.{IsBase}
use Rattle.script_lines.specs.Header.{is_base}

pub base_passes : (c : Counters) → IsBase c → is_base c ≡ true
unfolding is_base
base_passes c b = grind (arith, nat_tests, b.full, b.full_oldest, b.oldest, b.next, b.oldest_multi, b.multi, b.oldest_offset, b.offset, b.none)

pub passes_base : (c : Counters) → is_base c ≡ true → IsBase c
unfolding is_base
passes_base c e = record {
  full = grind (arith, nat_tests);
  full_oldest = grind (arith, nat_tests);
  oldest = grind (arith, nat_tests);
  next = grind (arith, nat_tests);
  oldest_multi = grind (arith, nat_tests);
  multi = grind (arith, nat_tests);
  oldest_offset = grind (arith, nat_tests);
  offset = grind (arith, nat_tests);
  none = λ same. grind (arith, nat_tests, same);
}

same_truth : (c : Counters) (b t : Bool) → (IsTrue b ↔ IsBase c) → t ≡ is_base c → b ≡ t
same_truth c true true i e = refl
same_truth c true false i e = absurd (false≢true (e ∙ base_passes c (i.0 refl)))
same_truth c false true i e = absurd (false≢true (i.1 (passes_base c (sym e))))
same_truth c false false i e = refl

pub base_test : (c : Counters) (b : Bool) → (IsTrue b ↔ IsBase c) → b ≡ is_base c
base_test c b i = same_truth c b (is_base c) i refl
