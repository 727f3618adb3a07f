-- The lives of a script, part by part.
use Rattle.std.proofs.Common.{◌≡◌, ℕ, ◌+◌, ◌<◌, ◌≤◌, ◌⊎◌, Bool, List, [], ◌∷◌, ◌++◌, Option, None, Some, refl, sym, ap, subst, ◌∙◌, arith, inl, inr, ⊎_elim, length, append-nil, append_assoc, length-append}
use Rattle.std.proofs.lemmas.List.Elements.{All-from_recursion, filter_map-append, recursion_from_All}
use Rattle.std.specs.List.{All, AllByRecursion, count_by}
use Rattle.tx_model.specs.declared.command.Command.{Command}
use Rattle.tx_model.specs.declared.report.How.{How}
use Rattle.tx_model.specs.declared.report.LifeReport.{LifeReport}
use Rattle.tx_model.specs.declared.report.Report.{Report}
use Rattle.life_law.specs.LawfulLife.{IsLawfulLife}
use Rattle.session_lang.specs.declared.script.Item.{Item}
use Rattle.session_lang.specs.declared.script.Item.TheVariants as items
use Rattle.session_lang.specs.declared.script.Script.{Script}
use Rattle.session_lang.specs.Rounds.{asked_of, crash_in}
use Rattle.run_law.specs.Lives.{AreLivesOf, BeginRun, BeginsRun, IsFirstPart, LifePart, RunStart, parts_from, parts_of}
use Rattle.run_law.specs.Tool.{IsReportOf}
use Rattle.run_law.specs.Turns.{HasFewTakers, MayRun, MayStand, takers_in, takes_number, turn_in, turns_in}
use Rattle.run_law.proofs.PartSums.{count_join}

abbrev pub no_crash : List Item → Type 0
no_crash part = AllByRecursion (λ item. crash_in item ≡ None) part

abbrev pub part : List Item → Option How → LifePart
part its crash = record { items = its; crash = crash }

some_none : {X : Type 0} (x : X) → Some x ≡ None → ⊥
some_none x e = cc

-- items without a crash are one part
parts_front : (before its : List Item) → no_crash its → parts_from before its ≡ part (before ++ its) None ∷ []
parts_front before [] a = ap (λ (t : List Item). part t None ∷ []) (sym (append-nil before))
parts_front before (items.Crash how ∷ its) a = absurd (some_none how a.0)
parts_front before (items.Run s c ∷ its) a = parts_front (before ++ items.Run s c ∷ []) its a.1 ∙ ap (λ (t : List Item). part t None ∷ []) (append_assoc before (items.Run s c ∷ []) its)
parts_front before (items.Round ∷ its) a = parts_front (before ++ items.Round ∷ []) its a.1 ∙ ap (λ (t : List Item). part t None ∷ []) (append_assoc before (items.Round ∷ []) its)
parts_front before (items.Checkpoint ∷ its) a = parts_front (before ++ items.Checkpoint ∷ []) its a.1 ∙ ap (λ (t : List Item). part t None ∷ []) (append_assoc before (items.Checkpoint ∷ []) its)
parts_front before (items.Dump what at size ∷ its) a = parts_front (before ++ items.Dump what at size ∷ []) its a.1 ∙ ap (λ (t : List Item). part t None ∷ []) (append_assoc before (items.Dump what at size ∷ []) its)

pub one_part : (its : List Item) → no_crash its → parts_of its ≡ part its None ∷ []
one_part its a = parts_front [] its a

-- a crash behind them ends their part
parts_behind : (before its : List Item) (how : How) (rest : List Item) → no_crash its → parts_from before (its ++ items.Crash how ∷ rest) ≡ part (before ++ its) (Some how) ∷ parts_of rest
parts_behind before [] how rest a = ap (λ (t : List Item). part t (Some how) ∷ parts_of rest) (sym (append-nil before))
parts_behind before (items.Crash other ∷ its) how rest a = absurd (some_none other a.0)
parts_behind before (items.Run s c ∷ its) how rest a = parts_behind (before ++ items.Run s c ∷ []) its how rest a.1 ∙ ap (λ (t : List Item). part t (Some how) ∷ parts_of rest) (append_assoc before (items.Run s c ∷ []) its)
parts_behind before (items.Round ∷ its) how rest a = parts_behind (before ++ items.Round ∷ []) its how rest a.1 ∙ ap (λ (t : List Item). part t (Some how) ∷ parts_of rest) (append_assoc before (items.Round ∷ []) its)
parts_behind before (items.Checkpoint ∷ its) how rest a = parts_behind (before ++ items.Checkpoint ∷ []) its how rest a.1 ∙ ap (λ (t : List Item). part t (Some how) ∷ parts_of rest) (append_assoc before (items.Checkpoint ∷ []) its)
parts_behind before (items.Dump what at size ∷ its) how rest a = parts_behind (before ++ items.Dump what at size ∷ []) its how rest a.1 ∙ ap (λ (t : List Item). part t (Some how) ∷ parts_of rest) (append_assoc before (items.Dump what at size ∷ []) its)

module _ (script its : List Item) (crash : Option How) (rest : List Item) (f : IsFirstPart script its crash rest) where
  none_in : no_crash its
  none_in = recursion_from_All (λ item. crash_in item ≡ None) its f.none

  -- the last part of a script
  pub last_part : crash ≡ None → parts_of script ≡ part its None ∷ []
  last_part none = ⊎_elim
      (λ (a : (crash ≡ None) × (script ≡ its) × (rest ≡ [])). ap parts_of a.1 ∙ one_part its none_in)
      (λ (b : (how : How) × (crash ≡ Some how) × (script ≡ its ++ items.Crash how ∷ rest)). absurd (some_none b.0 (sym b.1 ∙ none))) f.split

  -- the first one of several
  pub next_parts : (how : How) → crash ≡ Some how → parts_of script ≡ part its (Some how) ∷ parts_of rest
  next_parts how is = ⊎_elim
      (λ (a : (crash ≡ None) × (script ≡ its) × (rest ≡ [])). absurd (some_none how (sym is ∙ a.0)))
      (λ (b : (how : How) × (crash ≡ Some how) × (script ≡ its ++ items.Crash how ∷ rest)).
      ap parts_of b.2 ∙ parts_behind [] its b.0 rest none_in ∙ ap (λ (c : Option How). part its c ∷ parts_of rest) (sym b.1 ∙ is)) f.split

  -- what stands in front of it and behind it is of the script
  pub parts_split : (P : Item → Type 0) → AllByRecursion P script → AllByRecursion P its × AllByRecursion P rest
  parts_split P all = ⊎_elim
      (λ (a : (crash ≡ None) × (script ≡ its) × (rest ≡ [])). (subst (AllByRecursion P) a.1 all, subst (AllByRecursion P) (sym a.2) tt))
      (λ (b : (how : How) × (crash ≡ Some how) × (script ≡ its ++ items.Crash how ∷ rest)).
      let both = front_and_rest its (items.Crash b.0 ∷ rest) (subst (AllByRecursion P) b.2 all) in (both.0, both.1.1)) f.split
    where
      front_and_rest : (xs ys : List Item) → AllByRecursion P (xs ++ ys) → AllByRecursion P xs × AllByRecursion P ys
      front_and_rest [] ys a = (tt, a)
      front_and_rest (x ∷ xs) ys a = let b = front_and_rest xs ys a.1 in ((a.0, b.0), b.1)

  pub parts_shorter : (length its ≤ length script) × (length rest ≤ length script)
  parts_shorter = ⊎_elim
      (λ (a : (crash ≡ None) × (script ≡ its) × (rest ≡ [])). let m = ap length a.1 in let n = ap length a.2 in (omega (arith, m), omega (arith, n)))
      (λ (b : (how : How) × (crash ≡ Some how) × (script ≡ its ++ items.Crash how ∷ rest)).
      let m = ap length b.2 in let n = length-append its (items.Crash b.0 ∷ rest) in (omega (arith, m, n), omega (arith, m, n))) f.split

  -- behind a crash there is less
  pub rest_shorter : (how : How) → crash ≡ Some how → length rest < length script
  rest_shorter how is = ⊎_elim
      (λ (a : (crash ≡ None) × (script ≡ its) × (rest ≡ [])). absurd (some_none how (sym is ∙ a.0)))
      (λ (b : (how : How) × (crash ≡ Some how) × (script ≡ its ++ items.Crash how ∷ rest)).
      let m = ap length b.2 in let n = length-append its (items.Crash b.0 ∷ rest) in omega (arith, m, n)) f.split

  takers_sum : (xs ys : List Item) → takers_in (xs ++ ys) ≡ takers_in xs + takers_in ys
  takers_sum xs ys = ap (count_by (λ (t : ℕ × Command). takes_number t.1)) (filter_map-append turn_in xs ys) ∙ count_join (λ (t : ℕ × Command). takes_number t.1) (turns_in xs) (turns_in ys)

  pub parts_takers : HasFewTakers script → HasFewTakers its × HasFewTakers rest
  parts_takers few = ⊎_elim
      (λ (a : (crash ≡ None) × (script ≡ its) × (rest ≡ [])). let m = ap takers_in a.1 in let n = ap takers_in a.2 in (omega (arith, m, few), omega (arith, n)))
      (λ (b : (how : How) × (crash ≡ Some how) × (script ≡ its ++ items.Crash how ∷ rest)).
      let m = ap takers_in b.2 in let n = takers_sum its (items.Crash b.0 ∷ rest) in (omega (arith, m, n, few), omega (arith, m, n, few))) f.split

may_run : (n : ℕ) (x : Item) → MayStand n x → crash_in x ≡ None → MayRun n x
may_run n (items.Crash how) m e = absurd (some_none how e)
may_run n (items.Run s c) m e = m
may_run n items.Round m e = m
may_run n items.Checkpoint m e = m
may_run n (items.Dump what at size) m e = m

all_run : (n : ℕ) (its : List Item) → AllByRecursion (MayStand n) its → no_crash its → AllByRecursion (MayRun n) its
all_run n [] a none = tt
all_run n (x ∷ its) a none = (may_run n x a.0 none.0, all_run n its a.1 none.1)

-- a life can run a part of a script that a run can run
pub part_runs : (n : ℕ) (script its : List Item) (crash : Option How) (rest : List Item) → IsFirstPart script its crash rest → All (MayStand n) script → All (MayRun n) its × All (MayStand n) rest
part_runs n script its crash rest f all =
    let both = parts_split script its crash rest f (MayStand n) (recursion_from_All (MayStand n) script all) in
    (All-from_recursion (MayRun n) its (all_run n its both.0 (none_in script its crash rest f)), All-from_recursion (MayStand n) rest both.1)

-- ---- a script for one life

runs_without : (n : ℕ) (x : Item) → MayRun n x → crash_in x ≡ None
runs_without n (items.Crash how) m = absurd m
runs_without n (items.Run s c) m = refl
runs_without n items.Round m = refl
runs_without n items.Checkpoint m = refl
runs_without n (items.Dump what at size) m = refl

pub no_crash_runs : (n : ℕ) (its : List Item) → AllByRecursion (MayRun n) its → no_crash its
no_crash_runs n [] a = tt
no_crash_runs n (x ∷ its) a = (runs_without n x a.0, no_crash_runs n its a.1)

run_stands : (n : ℕ) (x : Item) → MayRun n x → MayStand n x
run_stands n (items.Crash how) m = absurd m
run_stands n (items.Run s c) m = m
run_stands n items.Round m = m
run_stands n items.Checkpoint m = m
run_stands n (items.Dump what at size) m = m

pub all_stand : (n : ℕ) (its : List Item) → AllByRecursion (MayRun n) its → AllByRecursion (MayStand n) its
all_stand n [] a = tt
all_stand n (x ∷ its) a = (run_stands n x a.0, all_stand n its a.1)

pub all_may_stand : (n : ℕ) (its : List Item) → All (MayRun n) its → All (MayStand n) its
all_may_stand n its all = All-from_recursion (MayStand n) its (all_stand n its (recursion_from_All (MayRun n) its all))

-- ---- a report of one life

pub parts_some : (before its : List Item) → parts_from before its ≡ [] → ⊥
parts_some before [] e = cc
parts_some before (items.Crash how ∷ its) e = cc
parts_some before (items.Run s c ∷ its) e = parts_some (before ++ items.Run s c ∷ []) its e
parts_some before (items.Round ∷ its) e = parts_some (before ++ items.Round ∷ []) its e
parts_some before (items.Checkpoint ∷ its) e = parts_some (before ++ items.Checkpoint ∷ []) its e
parts_some before (items.Dump what at size ∷ its) e = parts_some (before ++ items.Dump what at size ∷ []) its e

-- a part alone is all items
part_alone : (before its : List Item) (p : LifePart) → parts_from before its ≡ p ∷ [] → p ≡ part (before ++ its) None
part_alone before [] p e = (let same : part before None ≡ p = cc in sym same) ∙ ap (λ (t : List Item). part t None) (sym (append-nil before))
part_alone before (items.Crash how ∷ its) p e = absurd (parts_some [] its (let rest : parts_from [] its ≡ [] = cc in rest))
part_alone before (items.Run s c ∷ its) p e = part_alone (before ++ items.Run s c ∷ []) its p e ∙ ap (λ (t : List Item). part t None) (append_assoc before (items.Run s c ∷ []) its)
part_alone before (items.Round ∷ its) p e = part_alone (before ++ items.Round ∷ []) its p e ∙ ap (λ (t : List Item). part t None) (append_assoc before (items.Round ∷ []) its)
part_alone before (items.Checkpoint ∷ its) p e = part_alone (before ++ items.Checkpoint ∷ []) its p e ∙ ap (λ (t : List Item). part t None) (append_assoc before (items.Checkpoint ∷ []) its)
part_alone before (items.Dump what at size ∷ its) p e = part_alone (before ++ items.Dump what at size ∷ []) its p e ∙ ap (λ (t : List Item). part t None) (append_assoc before (items.Dump what at size ∷ []) its)

-- so a report of one life is of the script's items as they stand
pub one_life_told : (tells : Bool) (banks : ℕ) (start : RunStart) (s : Script) (r : Report) (life : LifeReport) → IsReportOf tells banks start s r → r.lives ≡ life ∷ []
    → BeginsRun start life.life × IsLawfulLife tells banks (asked_of s.items) life × (life.crash ≡ None)
one_life_told tells banks start s r life is one = by_parts (parts_of s.items) refl (subst (AreLivesOf tells banks (parts_of s.items)) one is.lives.of)
  where
    begins : BeginsRun start life.life
    begins = subst (BeginRun start) one is.lives.begin

    by_parts : (ps : List LifePart) → parts_of s.items ≡ ps → AreLivesOf tells banks ps (life ∷ []) → BeginsRun start life.life × IsLawfulLife tells banks (asked_of s.items) life × (life.crash ≡ None)
    by_parts [] e a = absurd a
    by_parts (p ∷ []) e a =
        let whole = part_alone [] s.items p e in
        (begins, subst (λ (q : LifePart). IsLawfulLife tells banks (asked_of q.items) life) whole a.0, a.1 ∙ ap (λ (q : LifePart). q.crash) whole)
    by_parts (p ∷ (q ∷ ps)) e a = absurd a.2
