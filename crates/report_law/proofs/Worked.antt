-- The worked reports are as told.
use Rattle.std.proofs.Common.{◌≡◌, ℕ, zero, suc, ◌<◌, List, [], ◌∷◌, ◌++◌, None, Some, refl, ap, arith, length, take, drop}
use Rattle.std.specs.List.{AllByRecursion, slice_get}
use Rattle.tx_events.specs.Base.{IsBase, first_base}
use Rattle.tx_events.specs.declared.record.Rec.TheVariants as records
use Rattle.tx_events.specs.declared.refusal.Refusal.TheVariants as refusals
use Rattle.tx_model.specs.declared.report.Report.{Report}
use Rattle.report_law.specs.ReportLines.{IsLawfulAt, IsLawfulReport, IsUnlawful, ReportLine, report_lines}
use Rattle.report_law.specs.Worked.{WorkedReports, empty_report, headless_report, late_report, loose_report, unasked_report, unflushed_report}

-- ---- a line by its number

record IsSplit (ls : List ReportLine) (n : ℕ) (line : ReportLine) : Type 0 where
  at : ls ≡ take n ls ++ line ∷ drop (suc n) ls
  front : length (take n ls) ≡ n

split_at : (ls : List ReportLine) (n : ℕ) (line : ReportLine) → slice_get ls n ≡ Some line → IsSplit ls n line
split_at [] zero line e = absurd cc
split_at [] (suc n) line e = absurd cc
split_at (l ∷ ls) zero line e = let same : l ≡ line = cc in record { at = ap (λ (k : ReportLine). k ∷ ls) same; front = refl }
split_at (l ∷ ls) (suc n) line e = let s = split_at ls n line e in record { at = ap (λ (t : List ReportLine). l ∷ t) s.at; front = ap suc s.front }

unlawful_at : (r : Report) (n : ℕ) (line : ReportLine) → slice_get (report_lines r) n ≡ Some line → AllByRecursion IsLawfulAt (take n (report_lines r)) → (IsLawfulAt line → ⊥) → IsUnlawful r (suc n)
unlawful_at r n line e lawful unlawful =
    let s = split_at (report_lines r) n line e in
    let front = s.front in
    record {
      before = take n (report_lines r);
      line = line;
      rest = drop (suc n) (report_lines r);
      lines = s.at;
      number = omega (arith, front);
      lawful = lawful;
      unlawful = unlawful;
    }

nothing : {X : Type 0} (n : ℕ) (x : X) → slice_get [] n ≡ Some x → ⊥
nothing zero x e = absurd cc
nothing (suc n) x e = absurd cc

-- ---- the reports

base_is : IsBase first_base
unfolding first_base
base_is = record {
  full = omega arith;
  full_oldest = omega arith;
  oldest = omega arith;
  next = omega arith;
  oldest_multi = omega arith;
  multi = omega arith;
  oldest_offset = omega arith;
  offset = omega arith;
  none = λ e. refl;
}

empty_is : IsLawfulReport empty_report
unfolding first_base
empty_is = (tt, ((refl, base_is), (tt, (tt, ((omega arith, omega arith), (record { true_there = refl; alone = tt; counters = base_is }, (tt, tt)))))))

late_is : IsUnlawful late_report 2
late_is = unlawful_at late_report 1 _ refl (tt, tt) (λ p. let z : 1 ≡ 0 = p.0 in omega (arith, z))

unflushed_is : IsUnlawful unflushed_report 5
unflushed_is = unlawful_at unflushed_report 4 _ refl (tt, ((refl, base_is), (tt, (tt, tt)))) (λ p. let z : 0 < 0 = p.0 in omega (arith, z))

headless_is : IsUnlawful headless_report 6
headless_is = unlawful_at headless_report 5 _ refl (tt, ((refl, base_is), (tt, (tt, ((omega arith, omega arith), tt))))) (λ p. let z : records.Truncate 3 1 1 ≡ records.Checkpoint 0 first_base = p.true_there in absurd cc)

unasked_is : IsUnlawful unasked_report 4
unasked_is = unlawful_at unasked_report 3 _ refl (tt, ((refl, base_is), (tt, tt))) (λ p. nothing p.command.round p.command.step p.command.told)

loose_is : IsUnlawful loose_report 4
loose_is = unlawful_at loose_report 3 _ refl (tt, ((refl, base_is), (tt, tt))) (λ p. let z : None ≡ Some refusals.NoTransaction = p.standing in absurd cc)

pub worked_reports : WorkedReports
worked_reports = record {
  empty = empty_is;
  late = late_is;
  unflushed = unflushed_is;
  headless = headless_is;
  unasked = unasked_is;
  loose = loose_is;
}
